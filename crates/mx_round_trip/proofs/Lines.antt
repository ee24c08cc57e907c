-- Lines at their margins, and what reading them does to the stack of indents.
use Rattle.std.proofs.Common.{◌≡◌, ℕ, ◌+◌, ◌-◌, ◌<◌, ◌≤◌, zero, suc, List, [], ◌∷◌, ◌++◌, Bool, true, false, ◌==◌, ltb, leb, length, drop, refl, sym, ap, ◌∙◌, subst, length-append, zero-add, Result, Ok, Err, arith}
use Rattle.std.specs.List.{prefix_len}
use Rattle.std.proofs.Math.Seq.{drop-append_seam}
use Rattle.std.proofs.lemmas.List.{drop-drop}
use Rattle.std.proofs.lemmas.Bool.{leb-true, leb-false, lt-ltb, le-ltb, eq-eqb}
use Rattle.mx_lex.specs.Bytes.{first_passes}
use Rattle.mx_lex.specs.Spans.{Found, span_at}
use Rattle.mx_lex.specs.Heads.{empty_token, brackets_behind, token_from, head_at}
use Rattle.mx_lex.specs.Lines.{Levels, given_before, dedented, indented, is_blank, opened_at}
use Rattle.mx_lex.specs.Lexing.{Reading, Step, step_from, step_at, ◌>>=◌, tokens_before, tokens_from}
use Rattle.mx_lex.specs.declared.Token.{Token}
use Rattle.mx_lex.specs.declared.TokenKind.TheVariants as kind
use Rattle.mx_lex.specs.declared.LexRefusal.{LexRefusal}
use Rattle.mx_lex.specs.declared.line.Phase.TheVariants.{AtStart, Inside}
use Rattle.mx_lex.specs.declared.line.Line.{Line}
use Rattle.mx_lex.specs.declared.line.Head.{Head}
use Rattle.mx_lex.proofs.Loop.{after_step, tokens_turn}
use Rattle.mx_print.specs.Statements.{margin}
use Rattle.mx_grammar.specs.declared.word.Word.{Word}
use Rattle.mx_grammar.specs.declared.word.Word.TheVariants.{Symbol}
use Rattle.mx_grammar.specs.declared.word.Symbol.TheVariants as symbol
use Rattle.mx_grammar.specs.Spelling.{words_of}
use Rattle.mx_round_trip.proofs.Goes.{Goes, Reads, none, tokens_before_both, both_go}
use Rattle.mx_round_trip.proofs.Printed.{starts}
use Rattle.mx_round_trip.proofs.Whole.{begins_token}
use Rattle.mx_round_trip.proofs.Pieces.{inside, BeginsToken, headed, step_inside, head_of_token}

-- ---- indents

-- how wide a margin is
abbrev pub wide : ℕ → ℕ
wide zero = 0
wide (suc m) = 4 + wide m

-- the stack of indents, so many levels in
abbrev pub stack_of : ℕ → List ℕ
stack_of zero = 0 ∷ []
stack_of (suc m) = wide (suc m) ∷ stack_of m

pub wide_margin : (m : ℕ) → length (margin m) ≡ wide m
wide_margin zero = refl
wide_margin (suc m) = omega (arith, wide_margin m)

wide_grows : (m a : ℕ) → m ≤ a → wide m ≤ wide a
wide_grows m zero h = let e : m ≡ zero = omega arith in rw e (omega arith)
wide_grows m (suc a) h = by (leb m a) refl (λ less. wide_grows m a less)
  where
    by : (b : Bool) → leb m a ≡ b → (m ≤ a → wide m ≤ wide a) → wide m ≤ wide (suc a)
    by true less more = omega (arith, more (leb-true m a less))
    by false over more = let past : a < m = leb-false m a over in let e : m ≡ suc a = omega arith in subst (λ k. wide k ≤ wide (suc a)) (sym e) (omega arith)

spaces_lead : (m b : ℕ) (bs : List ℕ) → (b == 32) ≡ false → prefix_len (λ c. c == 32) (margin m ++ b ∷ bs) ≡ wide m
spaces_lead zero b bs h = rw h refl
spaces_lead (suc m) b bs h = omega (arith, spaces_lead m b bs h)

-- so many DEDENTs
abbrev pub dedents : ℕ → ℕ → List Token
dedents zero at = []
dedents (suc k) at = empty_token kind.Dedent at ∷ dedents k at

abbrev pub dedent_words : ℕ → List Word
dedent_words zero = []
dedent_words (suc k) = Symbol symbol.Dedent ∷ dedent_words k

pub say_dedents : (source : List ℕ) (k at : ℕ) → words_of source (dedents k at) ≡ dedent_words k
say_dedents source zero at = refl
say_dedents source (suc k) at = ap (λ l. Symbol symbol.Dedent ∷ l) (say_dedents source k at)

-- a DEDENT more, at the end
pub dedent_last : (k : ℕ) → dedent_words (suc k) ≡ dedent_words k ++ Symbol symbol.Dedent ∷ []
dedent_last zero = refl
dedent_last (suc k) = ap (λ l. Symbol symbol.Dedent ∷ l) (dedent_last k)

dedented_to : (at number a m : ℕ) → m ≤ a → dedented at number (wide m) (stack_of a) ≡ Ok (record { given = dedents (a - m) at; stack = stack_of m })
dedented_to at number zero m h =
    let e : m ≡ zero = omega arith in
    subst (λ k. dedented at number (wide k) (stack_of zero) ≡ Ok (record { given = dedents (zero - k) at; stack = stack_of k })) (sym e) refl
dedented_to at number (suc a) m h = by (leb m a) refl (λ less. dedented_to at number a m less)
  where
    by : (b : Bool) → leb m a ≡ b → (m ≤ a → dedented at number (wide m) (stack_of a) ≡ Ok (record { given = dedents (a - m) at; stack = stack_of m }))
        → dedented at number (wide m) (stack_of (suc a)) ≡ Ok (record { given = dedents (suc a - m) at; stack = stack_of m })
    by true less more =
        let le : m ≤ a = leb-true m a less in
        let grows : wide m ≤ wide a = wide_grows m a le in
        let below : ltb (wide m) (4 + wide a) ≡ true = lt-ltb (wide m) (4 + wide a) (omega arith) in
        let count : suc a - m ≡ suc (a - m) = omega arith in
        rw (below, count) (ap (given_before (empty_token kind.Dedent at ∷ [])) (more le))
    by false over more =
        let past : a < m = leb-false m a over in
        let e : m ≡ suc a = omega arith in
        subst (λ k. dedented at number (wide k) (stack_of (suc a)) ≡ Ok (record { given = dedents (suc a - k) at; stack = stack_of k })) (sym e) same
      where
        same : dedented at number (wide (suc a)) (stack_of (suc a)) ≡ Ok (record { given = dedents (suc a - suc a) at; stack = stack_of (suc a) })
        same =
            let over : ltb (4 + wide a) (4 + wide a) ≡ false = le-ltb (4 + wide a) (4 + wide a) (omega arith) in
            let equal : (4 + wide a == 4 + wide a) ≡ true = eq-eqb (4 + wide a) (4 + wide a) refl in
            let count : suc a - suc a ≡ 0 = omega arith in
            rw (over, equal, count) refl

-- what a line that begins m levels in gives, where a levels are open
pub record Opens (a m : ℕ) (ws : List Word) : Type 0 where
  pub given : ℕ → List Token
  pub is : (at number : ℕ) → indented at number (wide m) (stack_of a) ≡ Ok (record { given = given at; stack = stack_of m })
  pub says : (source : List ℕ) (at : ℕ) → words_of source (given at) ≡ ws

pub opens_deeper : (a m : ℕ) → m ≤ a → Opens a m (dedent_words (a - m))
opens_deeper a m h = record { given = λ at. dedents (a - m) at; is = λ at number. is at number a h ∙ dedented_to at number a m h; says = λ source at. say_dedents source (a - m) at }
  where
    is : (at number b : ℕ) → m ≤ b → indented at number (wide m) (stack_of b) ≡ dedented at number (wide m) (stack_of b)
    is at number zero le = let grows : wide m ≤ wide zero = wide_grows m zero le in let over : ltb 0 (wide m) ≡ false = le-ltb 0 (wide m) grows in rw over refl
    is at number (suc b) le = let grows : wide m ≤ wide (suc b) = wide_grows m (suc b) le in let over : ltb (4 + wide b) (wide m) ≡ false = le-ltb (4 + wide b) (wide m) grows in rw over refl

pub opens_inner : (a : ℕ) → Opens a (suc a) (Symbol symbol.Indent ∷ [])
opens_inner a = record { given = λ at. empty_token kind.Indent at ∷ []; is = λ at number. is at number a; says = λ source at. refl }
  where
    is : (at number b : ℕ) → indented at number (wide (suc b)) (stack_of b) ≡ Ok (record { given = empty_token kind.Indent at ∷ []; stack = stack_of (suc b) })
    is at number zero = refl
    is at number (suc b) = let less : ltb (4 + wide b) (4 + (4 + wide b)) ≡ true = lt-ltb (4 + wide b) (4 + (4 + wide b)) (omega arith) in rw less refl

-- ---- the margin of a line

abbrev pub at_start : ℕ → List ℕ → Reading
at_start number stack = record { line = record { number = number; phase = AtStart; brackets = 0 }; stack = stack }

first_at : ℕ → Line
first_at number = record { number = number; phase = AtStart; brackets = 0 }

inner_at : ℕ → Line
inner_at number = record { number = number; phase = Inside; brackets = 0 }

abbrev pub after_levels : ℕ → Levels → Result Head LexRefusal → Result Step LexRefusal
after_levels spaces levels outcome = outcome >>= λ head. Ok (step_from levels spaces head)

module _ (a m number b : ℕ) (bs : List ℕ) (begins : BeginsToken b) {ws : List Word} (opens : Opens a m ws) where
  step_at_margin : (at : ℕ) → step_at at (at_start number (stack_of a)) (margin m ++ b ∷ bs) ≡ after_levels (wide m) (record { given = opens.given (at + wide m); stack = stack_of m }) (token_from (at + wide m) (first_at number) b (span_at (at + wide m) (b ∷ bs)))
  unfolding step_at first_at
  step_at_margin at =
      let lead : prefix_len (λ c. c == 32) (margin m ++ b ∷ bs) ≡ wide m = spaces_lead m b bs begins.space in
      let rest : drop (wide m) (margin m ++ b ∷ bs) ≡ b ∷ bs = ap (λ n. drop n (margin m ++ b ∷ bs)) (sym (wide_margin m)) ∙ drop-append_seam (margin m) (b ∷ bs) in
      let blank : is_blank (b ∷ bs) ≡ false = rw (begins.line_end, begins.comment) refl in
      let opened : opened_at (at + wide m) (first_at number) (wide m) (stack_of a) (b ∷ bs) ≡ Ok (record { given = opens.given (at + wide m); stack = stack_of m }) = rw blank (opens.is (at + wide m) number) in
      let head = head_of_token (at + wide m) (first_at number) b bs begins in
      rw (lead, rest, opened, head) refl

  step_inner : (at : ℕ) → step_at at (inside number 0 (stack_of m)) (b ∷ bs) ≡ headed (stack_of m) (token_from at (inner_at number) b (span_at at (b ∷ bs)))
  unfolding inner_at
  step_inner at = step_inside at number 0 (stack_of m) (b ∷ bs) ∙ ap (headed (stack_of m)) (head_of_token at (inner_at number) b bs begins)

  behind_margin : drop (wide m) (margin m ++ b ∷ bs) ≡ b ∷ bs
  behind_margin = ap (λ n. drop n (margin m ++ b ∷ bs)) (sym (wide_margin m)) ∙ drop-append_seam (margin m) (b ∷ bs)

  margin_joins : (at : ℕ) (outcome : Found) → after_step (margin m ++ b ∷ bs) at (after_levels (wide m) (record { given = opens.given (at + wide m); stack = stack_of m }) (token_from (at + wide m) (first_at number) b outcome))
      ≡ tokens_before (opens.given (at + wide m)) (after_step (b ∷ bs) (at + wide m) (headed (stack_of m) (token_from (at + wide m) (inner_at number) b outcome)))
  unfolding first_at inner_at
  margin_joins at (Err e) = refl
  margin_joins at (Ok span) =
      let place : ℕ = at + wide m in
      let token : Token = record { kind = span.kind; at = place; len = span.len } in
      let next : Reading = inside number (brackets_behind b 0) (stack_of m) in
      let given : List Token = opens.given place ++ token ∷ [] in
      let rest : drop (wide m + span.len) (margin m ++ b ∷ bs) ≡ drop (0 + span.len) (b ∷ bs) =
      sym (drop-drop span.len (wide m) (margin m ++ b ∷ bs)) ∙ ap (drop span.len) (behind_margin) ∙ ap (λ n. drop n (b ∷ bs)) (sym (zero-add span.len)) in
      let count : at + (wide m + span.len) ≡ place + (0 + span.len) = omega arith in
      ap (λ l. tokens_before given (tokens_from l 0 (at + (wide m + span.len)) next)) rest
      ∙ ap (λ n. tokens_before given (tokens_from (drop (0 + span.len) (b ∷ bs)) 0 n next)) count
      ∙ sym (tokens_before_both (opens.given place) (token ∷ []) (tokens_from (drop (0 + span.len) (b ∷ bs)) 0 (place + (0 + span.len)) next))

  -- a margin before a token: what the line's indent gives
  margin_goes : (front : List ℕ) → Goes (at_start number (stack_of a)) front (margin m) (b ∷ bs) ws (inside number 0 (stack_of m))
  margin_goes front =
      let at : ℕ = length front in
      let place : length front + length (margin m) ≡ at + wide m = ap (λ n. length front + n) (wide_margin m) in
      let some : 0 < length (margin m ++ b ∷ bs) = omega (arith, length-append (margin m) (b ∷ bs)) in
      let r : Reading = inside number 0 (stack_of m) in
      record {
        tokens = opens.given (at + wide m);
        lexed =
            tokens_turn (margin m ++ b ∷ bs) at (at_start number (stack_of a)) some
            ∙ ap (after_step (margin m ++ b ∷ bs) at) (step_at_margin at)
            ∙ margin_joins at (span_at (at + wide m) (b ∷ bs))
            ∙ ap (λ o. tokens_before (opens.given (at + wide m)) (after_step (b ∷ bs) (at + wide m) o)) (sym (step_inner (at + wide m)))
            ∙ ap (tokens_before (opens.given (at + wide m))) (sym (tokens_turn (b ∷ bs) (at + wide m) r (omega arith)))
            ∙ ap (λ n. tokens_before (opens.given (at + wide m)) (tokens_from (b ∷ bs) 0 n r)) (sym place);
        words = opens.says (front ++ (margin m ++ b ∷ bs)) (at + wide m);
      }

-- ---- the end of a line

line_end_step : (at number : ℕ) (stack bs : List ℕ) → step_at at (inside number 0 stack) (10 ∷ bs) ≡ Ok (record { given = empty_token kind.Newline at ∷ []; taken = 0 + 1; next = at_start (number + 1) stack })
unfolding head_at
line_end_step at number stack bs = step_inside at number 0 stack (10 ∷ bs)

pub reads_line_end : (number : ℕ) (stack : List ℕ) → Reads none (inside number 0 stack) (10 ∷ []) (Symbol symbol.Newline ∷ []) (at_start (number + 1) stack)
reads_line_end number stack = record {
  goes = λ front rest _. record {
    tokens = empty_token kind.Newline (length front) ∷ [];
    lexed = tokens_turn (10 ∷ rest) (length front) (inside number 0 stack) (omega arith) ∙ ap (after_step (10 ∷ rest) (length front)) (line_end_step (length front) number stack rest);
    words = refl;
  };
}

-- a margin, and a text that begins with a token
pub margin_reads : (a m number : ℕ) {ws : List Word} → Opens a m ws → {F : ℕ → Bool} {u : List ℕ} {vs : List Word} {s : Reading} → first_passes starts u ≡ true → Reads F (inside number 0 (stack_of m)) u vs s
    → Reads F (at_start number (stack_of a)) (margin m ++ u) (ws ++ vs) s
margin_reads a m number opens {u = []} first g = absurd cc
margin_reads a m number {ws} opens {u = b ∷ bs} {vs} {s} first g = record {
  goes = λ front rest stops.
      both_go (at_start number (stack_of a)) (inside number 0 (stack_of m)) s front (margin m) (b ∷ bs) rest ws vs
      (margin_goes a m number b (bs ++ rest) (begins_token b first) opens front) (g.goes (front ++ margin m) rest stops);
}
