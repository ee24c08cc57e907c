-- Parameter lists, read as they are printed.
use Rattle.std.proofs.Common.{◌≡◌, ℕ, ◌≤◌, ◌<◌, ◌^◌, zero, suc, List, [], ◌∷◌, ◌++◌, true, false, refl, sym, ap, ◌∙◌, subst, append-nil, pos, negsuc, neg_ℤ, arith}
use Rattle.mx_lex.specs.Bytes.{first_passes}
use Rattle.mx_value.specs.declared.value.Value.{Value}
use Rattle.mx_value.specs.declared.value.Value.TheVariants as value
use Rattle.mx_syntax.specs.declared.stmt.Param.{Param}
use Rattle.mx_print.specs.Values.{value_text}
use Rattle.mx_print.specs.Statements.{param_text, params_text}
use Rattle.mx_grammar.specs.declared.word.Word.{Word}
use Rattle.mx_grammar.specs.declared.word.Word.TheVariants as word
use Rattle.mx_grammar.specs.declared.word.Symbol.TheVariants as symbol
use Rattle.mx_grammar.specs.Grammar.{Spelling, Listed, Within}
use Rattle.mx_grammar.specs.Literals.{Literal}
use Rattle.mx_parse.specs.Parameters.{ParamText, Parameters, SomeParameters}
use Rattle.mx_round_trip.proofs.Goes.{none}
use Rattle.mx_round_trip.proofs.Numbers.{glues}
use Rattle.mx_round_trip.proofs.Flat.{Flat, flat_both, flat_more, flat_round}
use Rattle.mx_round_trip.proofs.Sources.{IsFixed, AreSaid, said_split}
use Rattle.mx_round_trip.proofs.Says.{Says}
use Rattle.mx_round_trip.proofs.Literals.{within_again, int_text, fix_text, text_text, nothing_text, true_text, false_text, tup_text, from_zero}
use Rattle.mx_round_trip.proofs.ExpressionRules.{begins, no_equals, stops_glues}
use Rattle.mx_round_trip.proofs.Atoms.{int_begins, fix_begins}
use Rattle.mx_round_trip.proofs.Names.{flat_name}
use Rattle.mx_round_trip.proofs.LineWords.{flat_equals}
use Rattle.mx_round_trip.proofs.Follows.{list_follows}

-- ---- literals in more levels

module _ (In To : Spelling Value) (more : (u : List Word) (x : Value) → In u x → To u x) where
  listed_more : (u : List Word) (xs : List Value) → Listed In u xs → Listed To u xs
  listed_more _ _ Listed.none = Listed.none
  listed_more _ _ (Listed.one {u} {x} h) = Listed.one (more u x h)
  listed_more _ _ (Listed.more {u} {v} {x} {xs} h k) = Listed.more (more u x h) (listed_more v xs k)

  literal_more : (u : List Word) (x : Value) → Literal In u x → Literal To u x
  literal_more _ _ (Literal.int h) = Literal.int h
  literal_more _ _ (Literal.negative_int h) = Literal.negative_int h
  literal_more _ _ Literal.fix = Literal.fix
  literal_more _ _ Literal.negative_fix = Literal.negative_fix
  literal_more _ _ Literal.text = Literal.text
  literal_more _ _ Literal.none = Literal.none
  literal_more _ _ Literal.holds = Literal.holds
  literal_more _ _ Literal.fails = Literal.fails
  literal_more _ _ Literal.empty = Literal.empty
  literal_more _ _ (Literal.tuple {u} {v} {x} {xs} h k) = Literal.tuple (more u x h) (listed_more v xs k)

literal_grows : (d e : ℕ) → d ≤ e → (u : List Word) (x : Value) → Within Literal d u x → Within Literal e u x
literal_grows zero e le u x h = absurd h
literal_grows (suc d) zero le u x h = absurd (omega arith)
literal_grows (suc d) (suc e) le u x h = literal_more (Within Literal d) (Within Literal e) (literal_grows d e (omega arith)) u x h

-- ---- how a literal begins

int_first : (n : ℕ) → n < 2 ^ 63 → first_passes begins (value_text (value.Int (pos n))) ≡ true
int_first n h = ap (first_passes begins) (int_text (pos n)) ∙ int_begins n h

negative_first : (n : ℕ) → first_passes begins (value_text (value.Int (neg_ℤ (pos n)))) ≡ true
negative_first zero = int_first 0 (omega arith)
negative_first (suc n) = ap (first_passes begins) (int_text (negsuc n))

fix_first : (m : ℕ) → m ≤ 10 ^ 19 → first_passes begins (value_text (value.Fix (pos m))) ≡ true
fix_first m h = ap (first_passes begins) (fix_text (pos m) ∙ from_zero m) ∙ fix_begins m h

negative_fix_first : (m : ℕ) → first_passes begins (value_text (value.Fix (neg_ℤ (pos m)))) ≡ true
negative_fix_first zero = fix_first 0 (omega arith)
negative_fix_first (suc m) = ap (first_passes begins) (fix_text (negsuc m))

tuple_first : (x : Value) (xs : List Value) → first_passes begins (value_text (value.Tup (x ∷ xs))) ≡ true
tuple_first x [] = ap (first_passes begins) (tup_text (x ∷ []))
tuple_first x (y ∷ ys) = ap (first_passes begins) (tup_text (x ∷ y ∷ ys))

literal_begins : (In : Spelling Value) (u : List Word) (x : Value) → AreSaid u → Literal In u x → first_passes begins (value_text x) ≡ true
literal_begins In _ _ said (Literal.int {n} h) = int_first n h
literal_begins In _ _ said (Literal.negative_int {n} h) = negative_first n
literal_begins In _ _ said (Literal.fix {z}) = let f : IsFixed z = said.0 in subst (λ w. first_passes begins (value_text (value.Fix w)) ≡ true) (sym f.is) (fix_first f.raw f.bound)
literal_begins In _ _ said (Literal.negative_fix {z}) = let f : IsFixed z = said.1.0 in subst (λ w. first_passes begins (value_text (value.Fix (neg_ℤ w))) ≡ true) (sym f.is) (negative_fix_first f.raw)
literal_begins In _ _ said (Literal.text {t}) = ap (first_passes begins) (text_text t)
literal_begins In _ _ said Literal.none = ap (first_passes begins) nothing_text
literal_begins In _ _ said Literal.holds = ap (first_passes begins) true_text
literal_begins In _ _ said Literal.fails = ap (first_passes begins) false_text
literal_begins In _ _ said Literal.empty = ap (first_passes begins) (tup_text [])
literal_begins In _ _ said (Literal.tuple {u} {v} {x} {xs} h k) = tuple_first x xs

within_begins : (d : ℕ) (u : List Word) (x : Value) → AreSaid u → Within Literal d u x → first_passes begins (value_text x) ≡ true
within_begins zero u x said h = absurd h
within_begins (suc d) u x said h = literal_begins (Within Literal d) u x said h

-- ---- parameters

abbrev Texts : ℕ → List Param → Spelling Param
Texts e before = ParamText (Within Literal e) before

param_says : (d : ℕ) (before : List Param) (u : List Word) (x : Param) → AreSaid u → Texts d before u x → Says (λ e. Texts e before) d glues x (param_text x)
param_says d before _ _ said (ParamText.required {n} fresh first) = record {
  words = word.Name n ∷ [];
  spelled = λ e le. ParamText.required fresh first;
  flat = subst (λ t. Flat glues t (word.Name n ∷ [])) (sym (append-nil n)) (flat_more (flat_name n said.0) (stops_glues false));
}
param_says d before _ _ said (ParamText.optional {n} {u} {value = v} fresh h) =
    let a = within_again d u v said.1.1 h in
    let first = within_begins d u v said.1.1 h in
    record {
      words = word.Name n ∷ word.Symbol symbol.Assign ∷ a.words;
      spelled = λ e le. ParamText.optional fresh (literal_grows d e le a.words v a.spelled);
      flat = flat_both (flat_name n said.0) (flat_both flat_equals a.flat (λ rest _. no_equals (value_text v) rest first)) (λ rest _. refl);
    }

pub params_say : (d : ℕ) (u : List Word) (params : List Param) → AreSaid u → Parameters (Within Literal d) u params → Says (λ e. Parameters (Within Literal e)) d none params (params_text params)
params_say d _ _ said (Parameters.parameters {u} {params} h) =
    let s = list_follows Texts d glues param_text refl (param_says d) u params (said_split u (word.Symbol symbol.CloseRound ∷ []) said.1).0 h in
    record { words = word.Symbol symbol.OpenRound ∷ s.words ++ word.Symbol symbol.CloseRound ∷ []; spelled = λ e le. Parameters.parameters (s.spelled e le); flat = flat_round s.flat refl }

pub some_params_say : (d : ℕ) (u : List Word) (params : List Param) → AreSaid u → SomeParameters (Within Literal d) u params → Says (λ e. SomeParameters (Within Literal e)) d none params (params_text params)
some_params_say d _ _ said (SomeParameters.parameters {u} {param} {others} h) =
    let s = list_follows Texts d glues param_text refl (param_says d) u (param ∷ others) (said_split u (word.Symbol symbol.CloseRound ∷ []) said.1).0 h in
    record { words = word.Symbol symbol.OpenRound ∷ s.words ++ word.Symbol symbol.CloseRound ∷ []; spelled = λ e le. SomeParameters.parameters (s.spelled e le); flat = flat_round s.flat refl }
