-- What stands in front of a line, and the end of a source.
use Rattle.std.proofs.Common.{◌≡◌, ℕ, ◌+◌, ◌<◌, suc, List, [], ◌∷◌, ◌++◌, true, false, cond, not, ◌==◌, ◌||◌, length, drop, refl, sym, ap, ◌∙◌, subst, ◌⊎◌, inl, inr, append_assoc, Ok, arith, length-append}
use Rattle.std.proofs.Math.Seq.{drop-append_seam}
use Rattle.std.proofs.lemmas.List.{drop-drop}
use Rattle.std.proofs.lemmas.Bool.{false≢true, eqb-true}
use Rattle.std.proofs.lemmas.List.Elements.{All-nil, All-cons, All-append, All-head, All-tail}
use Rattle.mx_lex.specs.Heads.{empty_token, is_inside, ends_here, head_at}
use Rattle.mx_lex.specs.Lexing.{dedents_at, closing_at, step_at, tokens_from}
use Rattle.mx_lex.specs.declared.TokenKind.TheVariants.{End}
use Rattle.mx_lex.specs.declared.line.Phase.{Phase}
use Rattle.mx_lex.proofs.Loop.{at_end}
use Rattle.mx_token_laws.specs.Standing.{AreSpaces, IsGap, is_solid, EndsLine, IsIndent}
use Rattle.mx_token_laws.proofs.Spans.{front_is}
use Rattle.mx_token_laws.proofs.Turns.{at_line, silent_turn, end_outside, comment_outside}

-- how many spaces stand at the end of these bytes, behind so many
abbrev pub trailing : ℕ → List ℕ → ℕ
trailing spaces [] = spaces
trailing spaces (b ∷ bs) = trailing (cond (b == 32) (spaces + 1) 0) bs

trailing_append : (xs ys : List ℕ) (spaces : ℕ) → trailing spaces (xs ++ ys) ≡ trailing (trailing spaces xs) ys
trailing_append [] ys spaces = refl
trailing_append (b ∷ bs) ys spaces = trailing_append bs ys (cond (b == 32) (spaces + 1) 0)

trailing_spaces : (bytes : List ℕ) (spaces : ℕ) → AreSpaces bytes → trailing spaces bytes ≡ spaces + length bytes
trailing_spaces [] spaces h = omega arith
trailing_spaces (b ∷ bs) spaces h =
    let further = trailing_spaces bs (spaces + 1) (All-tail (λ c. (c == 32) ≡ true) b bs h) in
    rw (All-head (λ c. (c == 32) ≡ true) b bs h) (omega (arith, further))

lines_end : (place : ℕ) (lines : List ℕ) → ((place ≡ 0) × (lines ≡ [])) ⊎ EndsLine lines → trailing 0 lines ≡ 0
lines_end place lines (inl none) = ap (trailing 0) none.1
lines_end place lines (inr ends) = ap (trailing 0) ends.is ∙ trailing_append ends.front (10 ∷ []) 0

pub indent_is : (place : ℕ) (gap : List ℕ) (indent : ℕ) → IsIndent place gap indent → trailing 0 gap ≡ indent
indent_is place gap indent h =
    let none = lines_end place h.lines h.begins in
    let behind = ap (trailing 0) h.parts ∙ trailing_append h.lines h.spaces 0 ∙ trailing_spaces h.spaces (trailing 0 h.lines) h.are_spaces in
    let count = h.count in
    omega (arith, none, behind, count)

-- behind a comment comes a line end, where anything comes
ends_trailing : (bs bytes : List ℕ) (spaces : ℕ) → ends_here (bs ++ bytes) ≡ true → is_solid bytes ≡ true → trailing spaces bs ≡ trailing 0 bs
ends_trailing [] [] spaces ends solid = absurd (false≢true solid)
ends_trailing [] (b ∷ bs) spaces ends solid = absurd (let is = eqb-true b 10 ends in false≢true (subst (λ c. not (c == 32 || c == 10 || c == 35) ≡ true) is solid))
ends_trailing (b ∷ bs) bytes spaces ends solid =
    let is = eqb-true b 10 ends in
    subst (λ c. trailing (cond (c == 32) (spaces + 1) 0) bs ≡ trailing (cond (c == 32) (0 + 1) 0) bs) (sym is) refl

-- the lexer comes to the spaces in front of what stands behind a gap
pub record Arrives (from : List ℕ) (at : ℕ) (phase : Phase) (number brackets : ℕ) (stack bytes : List ℕ) (past indent : ℕ) : Type 0 where
  pub line : ℕ
  pub spaces : List ℕ
  pub there : ℕ
  pub are_spaces : AreSpaces spaces
  pub position : there + length spaces ≡ past
  pub count : is_solid bytes ≡ true → length spaces ≡ indent
  pub same : tokens_from from 0 at (at_line phase number brackets stack) ≡ tokens_from (spaces ++ bytes) 0 there (at_line phase line brackets stack)

arrives_behind : (from middle bytes stack : List ℕ) (at next past taken number line brackets indent : ℕ) (phase : Phase) → 0 < length from → step_at at (at_line phase number brackets stack) from ≡ Ok (record { given = []; taken = taken; next = at_line phase line brackets stack }) → drop taken from ≡ middle → at + taken ≡ next → Arrives middle next phase line brackets stack bytes past indent → Arrives from at phase number brackets stack bytes past indent
arrives_behind from middle bytes stack at next past taken number line brackets indent phase some step is place further =
    record {
      line = further.line;
      spaces = further.spaces;
      there = further.there;
      are_spaces = further.are_spaces;
      position = further.position;
      count = further.count;
      same = silent_turn from middle at taken (at_line phase number brackets stack) (at_line phase line brackets stack) some step is ∙ ap (λ n. tokens_from middle 0 n (at_line phase line brackets stack)) place ∙ further.same;
    }

pub behind_spaces : (spaces rest : List ℕ) (taken more : ℕ) → taken ≡ length spaces + more → drop taken (spaces ++ rest) ≡ drop more rest
behind_spaces spaces rest taken more is = ap (λ n. drop n (spaces ++ rest)) is ∙ sym (drop-drop more (length spaces) (spaces ++ rest)) ∙ ap (drop more) (drop-append_seam spaces rest)

some_behind : (spaces rest : List ℕ) (b : ℕ) → 0 < length (spaces ++ (b ∷ rest))
some_behind spaces rest b = let total = length-append spaces (b ∷ rest) in omega (arith, total)

recount : (from bytes stack : List ℕ) (at past number brackets indent other : ℕ) (phase : Phase) → (is_solid bytes ≡ true → indent ≡ other) → Arrives from at phase number brackets stack bytes past indent → Arrives from at phase number brackets stack bytes past other
recount from bytes stack at past number brackets indent other phase same h =
    record { line = h.line; spaces = h.spaces; there = h.there; are_spaces = h.are_spaces; position = h.position; count = λ solid. h.count solid ∙ same solid; same = h.same }

pub gap_outside : (bytes gap spaces stack : List ℕ) (at past number brackets : ℕ) (phase : Phase) → is_inside phase ≡ false → IsGap bytes gap → AreSpaces spaces → past ≡ at + length spaces + length gap → Arrives (spaces ++ (gap ++ bytes)) at phase number brackets stack bytes past (trailing (length spaces) gap)
gap_outside bytes _ spaces stack at past number brackets phase out IsGap.none are is =
    record { line = number; spaces = spaces; there = at; are_spaces = are; position = omega (arith, is); count = λ _. refl; same = refl }
gap_outside bytes _ spaces stack at past number brackets phase out (IsGap.space bs gap) are is =
    let more = spaces ++ 32 ∷ [] in
    let all = All-append (λ c. (c == 32) ≡ true) spaces (32 ∷ []) are (All-cons (λ c. (c == 32) ≡ true) 32 [] refl (All-nil (λ c. (c == 32) ≡ true))) in
    let total = length-append spaces (32 ∷ []) in
    let one : length more ≡ length spaces + 1 = total in
    let further = gap_outside bytes bs more stack at past number brackets phase out gap all (omega (arith, is, one)) in
    let regroup : more ++ (bs ++ bytes) ≡ spaces ++ (32 ∷ (bs ++ bytes)) = append_assoc spaces (32 ∷ []) (bs ++ bytes) in
    subst (λ l. Arrives l at phase number brackets stack bytes past (trailing (length spaces + 1) bs)) regroup
    (subst (λ n. Arrives (more ++ (bs ++ bytes)) at phase number brackets stack bytes past (trailing n bs)) one further)
gap_outside bytes _ spaces stack at past number brackets phase out (IsGap.line_end bs gap) are is =
    arrives_behind (spaces ++ (10 ∷ (bs ++ bytes))) (bs ++ bytes) bytes stack at (at + (length spaces + 1)) past (length spaces + 1) number (number + 1) brackets (trailing 0 bs) phase (some_behind spaces (bs ++ bytes) 10) (end_outside at number brackets phase stack spaces (bs ++ bytes) out are) (behind_spaces spaces (10 ∷ (bs ++ bytes)) (length spaces + 1) 1 refl) refl
    (gap_outside bytes bs [] stack (at + (length spaces + 1)) past (number + 1) brackets phase out gap (All-nil (λ c. (c == 32) ≡ true)) (omega (arith, is)))
gap_outside bytes _ spaces stack at past number brackets phase out (IsGap.comment text bs printable ends gap) are is =
    let behind = bs ++ bytes in
    let taken = length spaces + suc (length text) in
    let long = length-append text bs in
    let regroup : spaces ++ (35 ∷ (text ++ behind)) ≡ spaces ++ ((35 ∷ text ++ bs) ++ bytes) = ap (λ l. spaces ++ (35 ∷ l)) (sym (append_assoc text bs bytes)) in
    let there : drop taken (spaces ++ (35 ∷ (text ++ behind))) ≡ behind = behind_spaces spaces (35 ∷ (text ++ behind)) taken (suc (length text)) refl ∙ drop-append_seam text behind in
    let further = gap_outside bytes bs [] stack (at + taken) past number brackets phase out gap (All-nil (λ c. (c == 32) ≡ true)) (omega (arith, is, long)) in
    let all = arrives_behind (spaces ++ (35 ∷ (text ++ behind))) behind bytes stack at (at + taken) past taken number number brackets (trailing 0 bs) phase (some_behind spaces (text ++ behind) 35) (comment_outside at number brackets phase stack spaces text behind out are printable ends) there refl further in
    subst (λ l. Arrives l at phase number brackets stack bytes past (trailing 0 (text ++ bs))) regroup
    (recount (spaces ++ (35 ∷ (text ++ behind))) bytes stack at past number brackets (trailing 0 bs) (trailing 0 (text ++ bs)) phase (λ solid. sym (trailing_append text bs 0 ∙ ends_trailing bs bytes (trailing 0 text) ends solid)) all)

-- ---- the end of a source

end_step : (at number brackets : ℕ) (phase : Phase) (stack spaces : List ℕ) → is_inside phase ≡ false → AreSpaces spaces → step_at at (at_line phase number brackets stack) (spaces ++ []) ≡ Ok (record { given = []; taken = length spaces + 0; next = at_line phase number brackets stack })
unfolding step_at head_at
end_step at number brackets phase stack spaces out are =
    let long = front_is (λ b. b == 32) spaces [] are refl in
    let first = drop-append_seam spaces [] in
    rw (out, long, first) refl

pub end_closes : (at past number brackets : ℕ) (phase : Phase) (stack spaces : List ℕ) → is_inside phase ≡ false → AreSpaces spaces → at + length spaces ≡ past → tokens_from (spaces ++ []) 0 at (at_line phase number brackets stack) ≡ Ok (dedents_at past stack ++ empty_token End past ∷ [])
unfolding closing_at
end_closes at past number brackets phase stack [] out are is =
    let here : at ≡ past = omega (arith, is) in
    at_end at (at_line phase number brackets stack) ∙ rw out (ap (λ n. Ok (dedents_at n stack ++ empty_token End n ∷ [])) here)
end_closes at past number brackets phase stack (b ∷ bs) out are is =
    let there : drop (length (b ∷ bs) + 0) ((b ∷ bs) ++ []) ≡ [] = behind_spaces (b ∷ bs) [] (length (b ∷ bs) + 0) 0 refl in
    let place : at + (length (b ∷ bs) + 0) ≡ past = omega (arith, is) in
    silent_turn ((b ∷ bs) ++ []) [] at (length (b ∷ bs) + 0) (at_line phase number brackets stack) (at_line phase number brackets stack) (omega arith) (end_step at number brackets phase stack (b ∷ bs) out are) there
    ∙ at_end (at + (length (b ∷ bs) + 0)) (at_line phase number brackets stack) ∙ rw out (ap (λ n. Ok (dedents_at n stack ++ empty_token End n ∷ [])) place)
