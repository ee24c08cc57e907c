-- A plain value has a literal, and its printed text is one.
use Rattle.std.proofs.Common.{◌≡◌, ℕ, zero, suc, ◌+◌, ◌<◌, ◌≤◌, ◌^◌, List, [], ◌∷◌, ◌++◌, Bool, true, false, map, All, refl, sym, ap, ◌∙◌, subst, append_assoc, nat_lt, ℤ, pos, negsuc, neg_ℤ, arith}
use Rattle.std.specs.List.{list_all}
use Rattle.std.proofs.lemmas.Bool.{and_parts, leb-true, ltb-true, le-leb}
use Rattle.std.proofs.lemmas.Bool.Decides.{nat_tests}
use Rattle.std.proofs.lemmas.List.Elements.{All-head, All-tail}
use Rattle.mx_value.specs.declared.value.Value.{Value}
use Rattle.mx_value.specs.declared.value.Value.TheVariants as value
use Rattle.mx_value.specs.declared.value.Segment.{Segment}
use Rattle.mx_value.specs.declared.value.CellsAt.{CellsAt}
use Rattle.mx_value.specs.declared.value.Segment.TheOpen.{Value-F}
use Rattle.mx_value.specs.declared.value.Segment.TheFolds.{fold-roll-Value, map-Value, ind-Value}
use Rattle.mx_value.specs.declared.value.Segment.TheViews.{roll-Value}
use Rattle.mx_value.specs.Label.{IsPrintable, is_printable}
use Rattle.mx_value.specs.Plain.{is_plain}
use Rattle.mx_value.specs.Nesting.{nesting_of}
use Rattle.mx_print.specs.Values.{value_text}
use Rattle.mx_grammar.specs.declared.nesting.Open.{Open}
use Rattle.mx_grammar.specs.declared.word.Word.{Word}
use Rattle.mx_grammar.specs.declared.word.Word.TheVariants as word
use Rattle.mx_grammar.specs.declared.word.Symbol.TheVariants as symbol
use Rattle.mx_grammar.specs.Grammar.{Spelling, Listed, Line, Within}
use Rattle.mx_grammar.specs.Literals.{Literal}
use Rattle.mx_grammar.specs.Spelling.{Shallow, open_count, bracketed, unopened}
use Rattle.mx_round_trip.specs.PlainValues.{has_64_bits, is_decimal, is_typed, IsLiteral, PlainValuesReadBack, SpelledValuesAreLiterals}
use Rattle.mx_round_trip.proofs.Numbers.{glues}
use Rattle.mx_round_trip.proofs.Counts.{IsClosed, closed_append, closed_round, after_closed, shallow_split}
use Rattle.mx_round_trip.proofs.Printed.{comma_closed, none_closed}
use Rattle.mx_round_trip.proofs.Sources.{AreSaid, IsFixed, said_split, said_join, said}
use Rattle.mx_round_trip.proofs.Literals.{within_again}
use Rattle.mx_round_trip.proofs.Back.{line_back}
use Rattle.mx_round_trip.proofs.Proper.{Measured, within_measured, all_plain, deepest, nesting_tup, both_true}

-- ---- what spells a value

-- Tokens that a source may give, which spell the value and open no more brackets than it is nested.
record Spelled (v : Value) : Type 0 where
  words : List Word
  said : AreSaid words
  spelled : (levels : ℕ) → nesting_of v < levels → Within Literal levels words v
  closed : IsClosed words
  few : (d : ℕ) (n : Open) → open_count n + nesting_of v ≤ d → Shallow d n words

record AllSpelled (xs : List Value) : Type 0 where
  words : List Word
  said : AreSaid words
  spelled : (levels : ℕ) → deepest xs < levels → Listed (Within Literal levels) words xs
  closed : IsClosed words
  few : (d : ℕ) (n : Open) → open_count n + deepest xs ≤ d → Shallow d n words

-- one token, and a token behind a minus
alone : (w : Word) (v : Value) → AreSaid (w ∷ []) → ((In : Spelling Value) → Literal In (w ∷ []) v) → IsClosed (w ∷ []) → ((d : ℕ) (n : Open) → open_count n ≤ d → Shallow d n (w ∷ [])) → Spelled v
alone w v are by closed few = record {
  words = w ∷ [];
  said = are;
  spelled = at;
  closed = closed;
  few = λ d n le. few d n (omega arith);
}
  where
    at : (levels : ℕ) → nesting_of v < levels → Within Literal levels (w ∷ []) v
    at zero less = absurd (omega arith)
    at (suc levels) less = by (Within Literal levels)

behind_minus : (w : Word) (v : Value) → AreSaid (w ∷ []) → ((In : Spelling Value) → Literal In (word.Symbol symbol.Minus ∷ w ∷ []) v) → IsClosed (w ∷ []) → ((d : ℕ) (n : Open) → open_count n ≤ d → Shallow d n (w ∷ [])) → Spelled v
behind_minus w v are by closed few = record {
  words = word.Symbol symbol.Minus ∷ w ∷ [];
  said = (tt, are);
  spelled = at;
  closed = closed_append {us = word.Symbol symbol.Minus ∷ []} (record { same = λ m. refl }) closed;
  few = λ d n le. let low : open_count n ≤ d = omega arith in (low, few d n low);
}
  where
    at : (levels : ℕ) → nesting_of v < levels → Within Literal levels (word.Symbol symbol.Minus ∷ w ∷ []) v
    at zero less = absurd (omega arith)
    at (suc levels) less = by (Within Literal levels)

int_spelled : (z : ℤ) → has_64_bits z ≡ true → Spelled (value.Int z)
int_spelled (pos n) h = alone (word.Int n) _ (tt, tt) (λ In. Literal.int (ltb-true n (2 ^ 63) h)) (record { same = λ m. refl }) (λ d n le. (le, tt))
int_spelled (negsuc n) h = behind_minus (word.Int (suc n)) _ (tt, tt) (λ In. Literal.negative_int (let less = ltb-true n (2 ^ 63) h in omega arith)) (record { same = λ m. refl }) (λ d n le. (le, tt))

fix_spelled : (z : ℤ) → is_decimal z ≡ true → Spelled (value.Fix z)
fix_spelled (pos n) h =
    let fixed : IsFixed (pos n) = record { raw = n; is = refl; bound = leb-true n (10 ^ 19) h } in
    alone (word.Fix (pos n)) _ (fixed, tt) (λ In. Literal.fix) (record { same = λ m. refl }) (λ d n le. (le, tt))
fix_spelled (negsuc n) h =
    let fixed : IsFixed (pos (suc n)) = record { raw = suc n; is = refl; bound = leb-true (suc n) (10 ^ 19) h } in
    behind_minus (word.Fix (pos (suc n))) _ (fixed, tt) (λ In. Literal.negative_fix {z = pos (suc n)}) (record { same = λ m. refl }) (λ d n le. (le, tt))

flag_spelled : (b : Bool) → Spelled (value.Flag b)
flag_spelled true = alone (word.Symbol symbol.True) _ (tt, tt) (λ In. Literal.holds) (record { same = λ m. refl }) (λ d n le. (le, tt))
flag_spelled false = alone (word.Symbol symbol.False) _ (tt, tt) (λ In. Literal.fails) (record { same = λ m. refl }) (λ d n le. (le, tt))

-- ---- tuples

none_spelled : AllSpelled []
none_spelled = record { words = []; said = tt; spelled = λ levels less. Listed.none; closed = none_closed; few = λ d n le. tt }

more_spelled : (x : Value) (xs : List Value) → Spelled x → AllSpelled xs → AllSpelled (x ∷ xs)
more_spelled x xs g h = record {
  words = g.words ++ word.Symbol symbol.Comma ∷ h.words;
  said = said_join g.words (word.Symbol symbol.Comma ∷ h.words) g.said (tt, h.said);
  spelled = λ levels less. Listed.more (g.spelled levels (omega arith)) (h.spelled levels (omega arith));
  closed = closed_append g.closed (closed_append comma_closed h.closed);
  few = λ d n le. after_closed d n g.words (word.Symbol symbol.Comma ∷ h.words) g.closed (g.few d n (omega arith)) (omega arith, h.few d n (omega arith));
}

empty_spelled : Spelled (value.Tup [])
empty_spelled = record {
  words = word.Symbol symbol.OpenRound ∷ word.Symbol symbol.CloseRound ∷ [];
  said = (tt, (tt, tt));
  spelled = at;
  closed = closed_round [] none_closed;
  few = λ d n le. (omega (arith, nesting_tup []), (omega (arith, nesting_tup []), tt));
}
  where
    at : (levels : ℕ) → nesting_of (value.Tup []) < levels → Within Literal levels (word.Symbol symbol.OpenRound ∷ word.Symbol symbol.CloseRound ∷ []) (value.Tup [])
    at zero less = absurd (omega arith)
    at (suc levels) less = Literal.empty

tuple_spelled : (x : Value) (xs : List Value) → Spelled x → AllSpelled xs → Spelled (value.Tup (x ∷ xs))
unfolding more_spelled
tuple_spelled x xs g h =
    let inner : List Word = g.words ++ word.Symbol symbol.Comma ∷ h.words in
    let all : AllSpelled (x ∷ xs) = more_spelled x xs g h in
    let depth : nesting_of (value.Tup (x ∷ xs)) ≡ 1 + deepest (x ∷ xs) = nesting_tup (x ∷ xs) in
    record {
      words = word.Symbol symbol.OpenRound ∷ inner ++ word.Symbol symbol.CloseRound ∷ [];
      said = (tt, said_join inner (word.Symbol symbol.CloseRound ∷ []) all.said (tt, tt));
      spelled = at;
      closed = closed_round inner all.closed;
      few = λ d n le.
          (omega arith, after_closed d (bracketed n) inner (word.Symbol symbol.CloseRound ∷ []) all.closed (all.few d (bracketed n) (omega arith)) (omega arith, tt));
    }
  where
    at : (levels : ℕ) → nesting_of (value.Tup (x ∷ xs)) < levels → Within Literal levels (word.Symbol symbol.OpenRound ∷ g.words ++ word.Symbol symbol.Comma ∷ h.words ++ word.Symbol symbol.CloseRound ∷ []) (value.Tup (x ∷ xs))
    at zero less = absurd (omega arith)
    at (suc levels) less = Literal.tuple (g.spelled levels (omega (arith, nesting_tup (x ∷ xs)))) (h.spelled levels (omega (arith, nesting_tup (x ∷ xs))))

-- ---- all values

abbrev Has : Value → Type 0
Has v = is_plain v ≡ true → is_typed v ≡ true → Spelled v

abbrev Item : Type 0
Item = (v : Value) × Has v

abbrev values : List Item → List Value
values items = map (λ e. e.0) items

abbrev all_typed : List Value → Bool
all_typed xs = list_all (λ (t : Bool). t) (map is_typed xs)

typed_tup : (xs : List Value) → is_typed (value.Tup xs) ≡ all_typed xs
typed_tup xs = ap is_typed (sym (value.rolls-Tup xs)) ∙ fold-roll-Value _ _ _ _ _ _ (Value-F.Tup xs)

all_spelled : (items : List Item) → all_plain (values items) ≡ true → all_typed (values items) ≡ true → AllSpelled (values items)
all_spelled [] plain typed = none_spelled
all_spelled (v ∷ items) plain typed =
    let p = and_parts (is_plain v.0) (all_plain (values items)) plain in
    let t = and_parts (is_typed v.0) (all_typed (values items)) typed in
    more_spelled v.0 (values items) (v.1 p.0 t.0) (all_spelled items p.1 t.1)

tup_spelled : (items : List Item) → all_plain (values items) ≡ true → all_typed (values items) ≡ true → Spelled (value.Tup (values items))
tup_spelled [] plain typed = empty_spelled
tup_spelled (v ∷ items) plain typed =
    let p = and_parts (is_plain v.0) (all_plain (values items)) plain in
    let t = and_parts (is_typed v.0) (all_typed (values items)) typed in
    tuple_spelled v.0 (values items) (v.1 p.0 t.0) (all_spelled items p.1 t.1)

abbrev Layer : Type 0
Layer = Value-F ((s : Segment) × Unit {0}) Item ((c : CellsAt) × Unit {0})

never : (v : Value) → is_plain v ≡ false → Has v
never v e plain typed = absurd (let f : false ≡ true = sym e ∙ plain in cc)

layer_spelled : (y : Layer) → Has (roll-Value (map-Value _ _ _ Segment Value CellsAt (λ e. e.0) (λ e. e.0) (λ e. e.0) y))
layer_spelled Value-F.Nothing = λ plain typed. subst Spelled (sym value.rolls-Nothing) (alone (word.Symbol symbol.None) _ (tt, tt) (λ In. Literal.none) (record { same = λ m. refl }) (λ d n le. (le, tt)))
layer_spelled (Value-F.Flag b) = λ plain typed. subst Spelled (sym (value.rolls-Flag b)) (flag_spelled b)
layer_spelled (Value-F.Int z) = λ plain typed. subst Spelled (sym (value.rolls-Int z)) (int_spelled z (sym (fold-roll-Value _ _ _ _ _ _ (Value-F.Int z)) ∙ typed))
layer_spelled (Value-F.Fix z) = λ plain typed. subst Spelled (sym (value.rolls-Fix z)) (fix_spelled z (sym (fold-roll-Value _ _ _ _ _ _ (Value-F.Fix z)) ∙ typed))
layer_spelled (Value-F.Text t) = λ plain typed.
    subst Spelled (sym (value.rolls-Text t)) (alone (word.Text t) _ (sym (fold-roll-Value _ _ _ _ _ _ (Value-F.Text t)) ∙ typed, tt) (λ In. Literal.text) (record { same = λ m. refl }) (λ d n le. (le, tt)))
layer_spelled (Value-F.Tup items) = λ plain typed.
    subst Spelled (sym (value.rolls-Tup (values items)))
    (tup_spelled items (sym (fold-roll-Value _ _ _ _ _ _ (Value-F.Tup (values items))) ∙ plain) (sym (fold-roll-Value _ _ _ _ _ _ (Value-F.Tup (values items))) ∙ typed))
layer_spelled (Value-F.Space segments) = never _ (fold-roll-Value _ _ _ _ _ _ (Value-F.Space (map (λ e. e.0) segments)))
layer_spelled (Value-F.Cells at) = never _ (fold-roll-Value _ _ _ _ _ _ (Value-F.Cells at.0))
layer_spelled (Value-F.Table b) = never _ (fold-roll-Value _ _ _ _ _ _ (Value-F.Table b))

has_spelling : (v : Value) → Has v
has_spelling = ind-Value (λ s. Unit {0}) Has (λ c. Unit {0}) (λ x y is. tt)
    (λ x y is. subst (λ (z : Value-F Segment Value CellsAt). Has (roll-Value z)) is (layer_spelled y))
    (λ x y is. tt)

-- ---- and its text

pub plain_values_read_back : PlainValuesReadBack
plain_values_read_back v is short =
    let s : Spelled v = has_spelling v is.plain is.typed in
    let low : nesting_of v ≤ 64 = is.nesting in
    let behind : List Word = word.Symbol symbol.Newline ∷ word.Symbol symbol.End ∷ [] in
    let parts : (s.words ++ word.Symbol symbol.Newline ∷ []) ++ word.Symbol symbol.End ∷ [] ≡ s.words ++ behind = append_assoc s.words (word.Symbol symbol.Newline ∷ []) (word.Symbol symbol.End ∷ []) in
    line_back (Within Literal) glues value_text within_again (suc (nesting_of v)) (s.words ++ behind) (s.words ++ word.Symbol symbol.Newline ∷ []) v (sym parts)
    (said_join s.words behind s.said (tt, (tt, tt)))
    (after_closed 64 unopened s.words behind s.closed (s.few 64 unopened (omega arith)) (omega arith, (omega arith, tt)))
    (Line.line (s.spelled (suc (nesting_of v)) (omega arith))) short

-- ---- what is spelled

typed_int : (z : ℤ) → is_typed (value.Int z) ≡ has_64_bits z
typed_int z = ap is_typed (sym (value.rolls-Int z)) ∙ fold-roll-Value _ _ _ _ _ _ (Value-F.Int z)

typed_fix : (z : ℤ) → is_typed (value.Fix z) ≡ is_decimal z
typed_fix z = ap is_typed (sym (value.rolls-Fix z)) ∙ fold-roll-Value _ _ _ _ _ _ (Value-F.Fix z)

typed_text : (t : List ℕ) → is_typed (value.Text t) ≡ list_all is_printable t
typed_text t = ap is_typed (sym (value.rolls-Text t)) ∙ fold-roll-Value _ _ _ _ _ _ (Value-F.Text t)

less_test : (m n : ℕ) → m < n → nat_lt m n ≡ true
less_test m n h = grind (arith, nat_tests)

negative_64 : (n : ℕ) → n ≤ 2 ^ 63 → has_64_bits (neg_ℤ (pos n)) ≡ true
negative_64 zero h = refl
negative_64 (suc n) h = less_test n (2 ^ 63) (omega arith)

negative_decimal : (n : ℕ) → n ≤ 10 ^ 19 → is_decimal (neg_ℤ (pos n)) ≡ true
negative_decimal zero h = refl
negative_decimal (suc n) h = le-leb (suc n) (10 ^ 19) h

fixed_typed : (z : ℤ) → IsFixed z → is_decimal z ≡ true
fixed_typed z f = subst (λ y. is_decimal y ≡ true) (sym f.is) (le-leb f.raw (10 ^ 19) f.bound)

minus_typed : (z : ℤ) → IsFixed z → is_decimal (neg_ℤ z) ≡ true
minus_typed z f = subst (λ y. is_decimal (neg_ℤ y) ≡ true) (sym f.is) (negative_decimal f.raw f.bound)

module _ (In : Spelling Value) (inner : (u : List Word) (x : Value) → AreSaid u → In u x → is_typed x ≡ true) where
  listed_typed : (v : List Word) (xs : List Value) → AreSaid v → Listed In v xs → all_typed xs ≡ true
  listed_typed _ _ are Listed.none = refl
  listed_typed _ _ are (Listed.one {u} {x} h) = both_true (is_typed x) true (inner u x are h) refl
  listed_typed _ _ are (Listed.more {u} {v} {x} {xs} h k) =
      let parts = said_split u (word.Symbol symbol.Comma ∷ v) are in
      both_true (is_typed x) (all_typed xs) (inner u x parts.0 h) (listed_typed v xs parts.1.1 k)

  literal_typed : (u : List Word) (x : Value) → AreSaid u → Literal In u x → is_typed x ≡ true
  literal_typed _ _ are (Literal.int {n} h) = typed_int (pos n) ∙ less_test n (2 ^ 63) h
  literal_typed _ _ are (Literal.negative_int {n} h) = typed_int (neg_ℤ (pos n)) ∙ negative_64 n h
  literal_typed _ _ are (Literal.fix {z}) = typed_fix z ∙ fixed_typed z are.0
  literal_typed _ _ are (Literal.negative_fix {z}) = typed_fix (neg_ℤ z) ∙ minus_typed z are.1.0
  literal_typed _ _ are (Literal.text {t}) = typed_text t ∙ are.0
  literal_typed _ _ are Literal.none = ap is_typed (sym value.rolls-Nothing) ∙ fold-roll-Value _ _ _ _ _ _ Value-F.Nothing
  literal_typed _ _ are Literal.holds = ap is_typed (sym (value.rolls-Flag true)) ∙ fold-roll-Value _ _ _ _ _ _ (Value-F.Flag true)
  literal_typed _ _ are Literal.fails = ap is_typed (sym (value.rolls-Flag false)) ∙ fold-roll-Value _ _ _ _ _ _ (Value-F.Flag false)
  literal_typed _ _ are Literal.empty = typed_tup []
  literal_typed _ _ are (Literal.tuple {u} {v} {x} {xs} h k) =
      let inside = said_split (u ++ word.Symbol symbol.Comma ∷ v) (word.Symbol symbol.CloseRound ∷ []) are.1 in
      let parts = said_split u (word.Symbol symbol.Comma ∷ v) inside.0 in
      typed_tup (x ∷ xs) ∙ both_true (is_typed x) (all_typed xs) (inner u x parts.0 h) (listed_typed v xs parts.1.1 k)

within_typed : (levels : ℕ) (u : List Word) (x : Value) → AreSaid u → Within Literal levels u x → is_typed x ≡ true
within_typed zero u x are h = absurd h
within_typed (suc levels) u x are h = literal_typed (Within Literal levels) (within_typed levels) u x are h

line_literal : (levels : ℕ) (line : List Word) (v : Value) → AreSaid line → Shallow 64 unopened line → Line (Within Literal levels) line v → IsLiteral v
line_literal levels _ v are shallow (Line.line {u} h) =
    let m : Measured u v = within_measured levels u v h in
    let low : open_count unopened + nesting_of v ≤ 64 = m.nesting 64 unopened (shallow_split 64 unopened u (word.Symbol symbol.Newline ∷ []) shallow).0 in
    record { plain = m.plain; typed = within_typed levels u v (said_split u (word.Symbol symbol.Newline ∷ []) are).0 h; nesting = omega arith }

pub spelled_values_are_literals : SpelledValuesAreLiterals
spelled_values_are_literals source v h =
    let line : List Word = h.spells.text in
    let are : AreSaid (line ++ word.Symbol symbol.End ∷ []) = subst AreSaid h.spells.parts (said source h.tokens h.lexed) in
    let shallow : Shallow 64 unopened (line ++ word.Symbol symbol.End ∷ []) = subst (Shallow 64 unopened) h.spells.parts h.shallow in
    line_literal h.spells.levels line v (said_split line (word.Symbol symbol.End ∷ []) are).0 (shallow_split 64 unopened line (word.Symbol symbol.End ∷ []) shallow).0 h.spells.spelled

-- ---- labels

passes : (b : ℕ) → IsPrintable b → is_printable b ≡ true
passes b h = grind (arith, nat_tests, h.0, h.1)

pub label_passes : (t : List ℕ) → All IsPrintable t → list_all is_printable t ≡ true
label_passes [] h = refl
label_passes (b ∷ t) h = both_true (is_printable b) (list_all is_printable t) (passes b (All-head IsPrintable b t h)) (label_passes t (All-tail IsPrintable b t h))
