-- A step takes at least one byte and no more than are left, and counts no more brackets and lines than it takes bytes.
use Rattle.std.proofs.Common.{◌≡◌, ℕ, ◌+◌, ◌-◌, ◌<◌, ◌≤◌, List, [], ◌∷◌, true, ◌==◌, length, drop, ap, subst, Result, Ok, Err, arith, length-drop}
use Rattle.std.specs.Prelude.{IfOk}
use Rattle.std.specs.List.{prefix_len}
use Rattle.std.proofs.lemmas.List.Sums.{prefix_len-le-length}
use Rattle.std.proofs.lemmas.Bool.{eqb-true}
use Rattle.mx_lex.specs.Bytes.{is_printable, is_opening, is_closing}
use Rattle.mx_lex.specs.Spans.{Found, span_at}
use Rattle.mx_lex.specs.Heads.{ends_line, ended, next_line, newline_at, is_inside, brackets_behind, nothing, ends_here, comment_at, token_from, head_at}
use Rattle.mx_lex.specs.Lines.{Levels, Indented, lead, opened_at}
use Rattle.mx_lex.specs.Lexing.{Reading, Step, step_from, step_at, ◌>>=◌}
use Rattle.mx_lex.specs.declared.LexRefusal.{LexRefusal}
use Rattle.mx_lex.specs.declared.LexRefusal.TheVariants.{BadByte}
use Rattle.mx_lex.specs.declared.line.Line.{Line}
use Rattle.mx_lex.specs.declared.line.Head.{Head}
use Rattle.mx_lex.proofs.Cases.{both}
use Rattle.mx_lex.proofs.SpanBounds.{FoundWithin, front_within, span_within}

-- how far a line may have come by some bytes
pub record Counts (line : Line) (taken : ℕ) (next : Line) : Type 0 where
  pub brackets : next.brackets ≤ line.brackets + taken
  pub number : next.number ≤ line.number + taken

pub record Bounded (line : Line) (left taken : ℕ) (next : Line) : Type 0 where
  pub some : 0 < left → 0 < taken
  pub within : taken ≤ left
  pub counts : Counts line taken next

abbrev pub HeadBounded : Line → List ℕ → Result Head LexRefusal → Type 0
HeadBounded line rest outcome = IfOk outcome (λ head. Bounded line (length rest) head.taken head.next)

ended_counts : (line : Line) (taken : ℕ) → Counts line taken (ended line)
ended_counts line taken =
    both (Counts line taken) (ends_line line) _ line (λ _. record { brackets = omega arith; number = omega arith }) (λ _. record { brackets = omega arith; number = omega arith })

next_counts : (line : Line) → Counts line 1 (next_line line)
next_counts line = let e = ended_counts line 0 in record { brackets = omega arith; number = omega arith }

pub comment_bounded : (at : ℕ) (line : Line) (bs : List ℕ) (b : ℕ) → (b == 35) ≡ true → HeadBounded line (b ∷ bs) (comment_at at line (b ∷ bs))
unfolding comment_at
comment_bounded at line bs b h =
    let rest = b ∷ bs in
    let len = prefix_len is_printable rest in
    let printable : is_printable b ≡ true = ap is_printable (eqb-true b 35 h) in
    let front = front_within is_printable rest printable in
    both (HeadBounded line rest) (ends_here (drop len rest)) (Ok (record { token = newline_at at line; taken = len; next = ended line })) (Err (BadByte (at + len)))
    (λ _. record { some = λ _. front.some; within = front.within; counts = ended_counts line len })
    (λ _. tt)

brackets_counted : (b count : ℕ) → brackets_behind b count ≤ count + 1
brackets_counted b count =
    both (λ n. n ≤ count + 1) (is_opening b) (count + 1) _ (λ _. omega arith)
    (λ _. both (λ n. n ≤ count + 1) (is_closing b) (count - 1) count (λ _. omega arith) (λ _. omega arith))

token_bounded : (at : ℕ) (line : Line) (b : ℕ) (rest : List ℕ) (outcome : Found) → FoundWithin rest outcome → HeadBounded line rest (token_from at line b outcome)
token_bounded at line b rest (Ok span) h =
    record { some = λ _. h.some; within = h.within; counts = record { brackets = omega (arith, h.some, brackets_counted b line.brackets); number = omega arith } }
token_bounded at line b rest (Err e) h = tt

pub head_bounded : (at : ℕ) (line : Line) (rest : List ℕ) → HeadBounded line rest (head_at at line rest)
unfolding head_at
head_bounded at line [] = record { some = λ h. h; within = omega arith; counts = record { brackets = omega arith; number = omega arith } }
head_bounded at line (b ∷ bs) =
    let P : Result Head LexRefusal → Type 0 = HeadBounded line (b ∷ bs) in
    both P (b == 32) (nothing 1 line) _ (λ _. record { some = λ _. omega arith; within = omega arith; counts = record { brackets = omega arith; number = omega arith } })
    (λ _. both P (b == 10) (Ok (record { token = newline_at at line; taken = 1; next = next_line line })) _ (λ _. record { some = λ _. omega arith; within = omega arith; counts = next_counts line })
    (λ _. both P (b == 35) (comment_at at line (b ∷ bs)) _ (λ h. comment_bounded at line bs b h)
    (λ _. token_bounded at line b (b ∷ bs) (span_at at (b ∷ bs)) (span_within at (b ∷ bs)))))

pub head_is_bounded : (at : ℕ) (line : Line) (rest : List ℕ) (head : Head) → head_at at line rest ≡ Ok head → Bounded line (length rest) head.taken head.next
head_is_bounded at line rest head e = subst (HeadBounded line rest) e (head_bounded at line rest)

-- no more spaces lead than are left
pub lead_within : (line : Line) (rest : List ℕ) → lead line rest ≤ length rest
lead_within line rest = both (λ n. n ≤ length rest) (is_inside line.phase) 0 (prefix_len (λ b. b == 32) rest) (λ _. omega arith) (λ _. prefix_len-le-length (λ b. b == 32) rest)

abbrev pub StepBounded : Line → List ℕ → Result Step LexRefusal → Type 0
StepBounded line rest outcome = IfOk outcome (λ step. Bounded line (length rest) step.taken step.next.line)

abbrev stepped : ℕ → Levels → Result Head LexRefusal → Result Step LexRefusal
stepped spaces levels outcome = outcome >>= λ head. Ok (step_from levels spaces head)

both_some : (spaces left taken : ℕ) → 0 < spaces + left → (0 < left → 0 < taken) → 0 < spaces + taken
both_some spaces left taken some h = grind arith

stepped_bounded : (line : Line) (rest : List ℕ) (spaces : ℕ) (levels : Levels) (outcome : Result Head LexRefusal) → spaces ≤ length rest → HeadBounded line (drop spaces rest) outcome → StepBounded line rest (stepped spaces levels outcome)
stepped_bounded line rest spaces levels (Ok head) within h =
    let left = length-drop spaces rest in
    record {
      some = λ some. both_some spaces (length (drop spaces rest)) head.taken (omega arith) h.some;
      within = omega (arith, h.within, left);
      counts = record { brackets = omega (arith, h.counts.brackets); number = omega (arith, h.counts.number) };
    }
stepped_bounded line rest spaces levels (Err e) within h = tt

opened_bounded : (line : Line) (rest : List ℕ) (spaces : ℕ) (opened : Indented) (outcome : Result Head LexRefusal) → spaces ≤ length rest → HeadBounded line (drop spaces rest) outcome → StepBounded line rest (opened >>= λ levels. stepped spaces levels outcome)
opened_bounded line rest spaces (Ok levels) outcome within h = stepped_bounded line rest spaces levels outcome within h
opened_bounded line rest spaces (Err e) outcome within h = tt

pub step_bounded : (at : ℕ) (reading : Reading) (rest : List ℕ) → StepBounded reading.line rest (step_at at reading rest)
unfolding step_at
step_bounded at reading rest =
    let spaces = lead reading.line rest in
    let first = drop spaces rest in
    opened_bounded reading.line rest spaces (opened_at (at + spaces) reading.line spaces reading.stack first) (head_at (at + spaces) reading.line first) (lead_within reading.line rest) (head_bounded (at + spaces) reading.line first)
