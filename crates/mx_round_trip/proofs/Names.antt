-- Names, points and square brackets.
use Rattle.std.proofs.Common.{◌≡◌, ℕ, ◌+◌, ◌-◌, List, [], ◌∷◌, ◌++◌, Bool, true, false, cond, length, refl, ap, ◌∙◌, subst, arith}
use Rattle.std.specs.List.{list_all}
use Rattle.std.specs.Char.{is_ascii_digit}
use Rattle.std.proofs.lemmas.Bool.Decides.{nat_tests}
use Rattle.std.proofs.lemmas.List.Sums.{list_all-from_AllPass}
use Rattle.mx_lex.specs.Bytes.{begins_name, continues_name, is_opening, is_closing, first_passes}
use Rattle.mx_lex.specs.Spans.{found, is_keyword, mark_at, span_at}
use Rattle.mx_lex.specs.Heads.{brackets_behind}
use Rattle.mx_lex.specs.Laws.{IsName}
use Rattle.mx_lex.specs.declared.TokenKind.TheVariants.{Name, Keyword, Mark}
use Rattle.mx_grammar.specs.declared.word.Word.{Word}
use Rattle.mx_grammar.specs.declared.word.Word.TheVariants as word
use Rattle.mx_grammar.specs.declared.word.Symbol.TheVariants as symbol
use Rattle.mx_round_trip.proofs.Goes.{Reads, then_reads, none, none_first}
use Rattle.mx_round_trip.proofs.Pieces.{inside, BeginsToken, reads_token}
use Rattle.mx_round_trip.proofs.Spans.{name_span, is_equals}
use Rattle.mx_round_trip.proofs.Plain.{plain_both, name_plain}
use Rattle.mx_round_trip.proofs.Flat.{Flat}
use Rattle.mx_round_trip.proofs.ExpressionRules.{begins}

-- what the first byte of a name is not
record IsNameByte (b : ℕ) : Type 0 where
  begins : BeginsToken b
  equals : is_equals b ≡ false
  opens : is_opening b ≡ false
  closes : is_closing b ≡ false
  digit : is_ascii_digit b ≡ false

name_byte : (b : ℕ) → begins_name b ≡ true → IsNameByte b
name_byte b h = record {
  begins = record { space = grind (arith, nat_tests); line_end = grind (arith, nat_tests); comment = grind (arith, nat_tests) };
  equals = grind (arith, nat_tests);
  opens = grind (arith, nat_tests);
  closes = grind (arith, nat_tests);
  digit = grind (arith, nat_tests);
}

flat_name_by : (b : ℕ) (bs : List ℕ) → begins_name b ≡ true → list_all continues_name (b ∷ bs) ≡ true → is_keyword (b ∷ bs) ≡ false → Flat continues_name (b ∷ bs) (word.Name (b ∷ bs) ∷ [])
flat_name_by b bs first all free = record {
  reads = λ number brackets stack.
      let h = name_byte b first in
      let count : brackets_behind b brackets ≡ brackets = rw (h.opens, h.closes) refl in
      let kind : cond (is_keyword (b ∷ bs)) Keyword Name ≡ Name = rw free refl in
      subst (λ n. Reads continues_name (inside number brackets stack) (b ∷ bs) (word.Name (b ∷ bs) ∷ []) (inside number n stack)) count
      (reads_token continues_name Name b bs number brackets stack h.begins (λ at rest stops. name_span at b bs rest first all stops ∙ ap (λ k. found k (length (b ∷ bs))) kind));
  plain = name_plain (b ∷ bs) all;
}

pub flat_name : (n : List ℕ) → IsName n → Flat continues_name n (word.Name n ∷ [])
flat_name [] h = absurd (let first = h.begins in cc)
flat_name (b ∷ bs) h = flat_name_by b bs h.begins (list_all-from_AllPass continues_name (b ∷ bs) h.continues) h.free

pub name_begins : (n : List ℕ) → IsName n → first_passes begins n ≡ true
name_begins [] h = absurd (let first = h.begins in cc)
name_begins (b ∷ bs) h = let p = name_byte b h.begins in rw (p.begins.space, p.begins.line_end, p.begins.comment, p.equals) refl

pub name_no_digit : (n rest : List ℕ) → IsName n → first_passes is_ascii_digit (n ++ rest) ≡ false
name_no_digit [] rest h = absurd (let first = h.begins in cc)
name_no_digit (b ∷ bs) rest h = (name_byte b h.begins).digit

-- ---- a point, and square brackets

dot_span : (at : ℕ) (rest : List ℕ) → first_passes is_ascii_digit rest ≡ false → span_at at (46 ∷ rest) ≡ found Mark 1
unfolding span_at mark_at
dot_span at [] h = refl
dot_span at (b ∷ bs) h = rw h refl

pub flat_dot : Flat is_ascii_digit (46 ∷ []) (word.Symbol symbol.Dot ∷ [])
flat_dot = record { reads = λ number brackets stack. reads_token is_ascii_digit Mark 46 [] number brackets stack (record { space = refl; line_end = refl; comment = refl }) (λ at rest stops. dot_span at rest stops); plain = refl }

open_span : (at : ℕ) (rest : List ℕ) → span_at at (91 ∷ rest) ≡ found Mark 1
unfolding span_at mark_at
open_span at rest = refl

close_span : (at : ℕ) (rest : List ℕ) → span_at at (93 ∷ rest) ≡ found Mark 1
unfolding span_at mark_at
close_span at rest = refl

reads_open : (number brackets : ℕ) (stack : List ℕ) → Reads none (inside number brackets stack) (91 ∷ []) (word.Symbol symbol.OpenSquare ∷ []) (inside number (brackets + 1) stack)
reads_open number brackets stack = reads_token none Mark 91 [] number brackets stack (record { space = refl; line_end = refl; comment = refl }) (λ at rest _. open_span at rest)

reads_close : (number brackets : ℕ) (stack : List ℕ) → Reads none (inside number (brackets + 1) stack) (93 ∷ []) (word.Symbol symbol.CloseSquare ∷ []) (inside number brackets stack)
reads_close number brackets stack =
    let count : brackets + 1 - 1 ≡ brackets = omega arith in
    rw count at (reads_token none Mark 93 [] number (brackets + 1) stack (record { space = refl; line_end = refl; comment = refl }) (λ at rest _. close_span at rest))

-- a text in square brackets
pub flat_square : {F : ℕ → Bool} {u : List ℕ} {ws : List Word} → Flat F u ws → F 93 ≡ false → Flat none (91 ∷ u ++ 93 ∷ []) (word.Symbol symbol.OpenSquare ∷ ws ++ word.Symbol symbol.CloseSquare ∷ [])
flat_square {F} {u} {ws} g stops = record {
  reads = λ number brackets stack.
      then_reads (reads_open number brackets stack)
      (then_reads (g.reads number (brackets + 1) stack) (reads_close number brackets stack) (λ rest _. stops))
      (λ rest _. none_first ((u ++ 93 ∷ []) ++ rest));
  plain = plain_both u (93 ∷ []) g.plain refl;
}
