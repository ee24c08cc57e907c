-- Arguments that are bound stay as they are when they are bound again.
use Rattle.std.proofs.Common.{Bool, true, false, ◌≡◌, ℕ, suc, ◌≤◌, ℤ, pos, List, [], ◌∷◌, ◌++◌, ◌||◌, Option, None, Some, if◌then◌else◌, length, map, drop, nat_lt, is_none, refl, sym, ◌∙◌, ap, subst, arith, length-append}
use Rattle.std.proofs.lemmas.List.{length-map, length-drop, append-nil}
use Rattle.std.specs.Prelude.{int_div, int_rem}
use Rattle.std.specs.Ordering.{int_eq}
use Rattle.std.specs.List.{cons_option}
use Rattle.mx_value.specs.declared.value.Value.{Value}
use Rattle.mx_value.specs.declared.value.Value.TheVariants as made
use Rattle.mx_value.specs.declared.value.Segment.{Segment}
use Rattle.mx_value.specs.declared.value.CellsAt.{CellsAt}
use Rattle.mx_value.specs.declared.value.Segment.TheOpen.{Value-F}
use Rattle.mx_value.specs.declared.value.Segment.TheFolds.{para-roll-Value, map-Value, ind-Value}
use Rattle.mx_value.specs.declared.value.Segment.TheViews.{roll-Value}
use Rattle.mx_value.specs.Normal.{normal_of, number_of, one}
use Rattle.mx_value.proofs.Normals.{normal-Fix, normal-Tup}
use Rattle.mx_syntax.specs.declared.stmt.Param.{Param}
use Rattle.mx_syntax.specs.Binding.{bound, defaults, lack_default, is_wrong_count}

-- what is in normal form stays so
abbrev OfValue : Value → Type 0
OfValue v = normal_of (normal_of v) ≡ normal_of v

normal-Int : (n : ℤ) → normal_of (made.Int n) ≡ made.Int n
normal-Int n = ap normal_of (sym (made.rolls-Int n)) ∙ para-roll-Value _ _ _ _ _ _ (Value-F.Int n)

number_by : (b : Bool) (x : ℤ) → int_eq (int_rem x one) (pos 0) ≡ b → normal_of (if b then made.Int (int_div x one) else made.Fix x) ≡ (if b then made.Int (int_div x one) else made.Fix x)
number_by true x q = normal-Int (int_div x one)
number_by false x q = normal-Fix x ∙ ap (λ (b : Bool). if b then made.Int (int_div x one) else made.Fix x) q

all_twice : (items : List ((v : Value) × OfValue v)) → map normal_of (map normal_of (map (λ e. e.0) items)) ≡ map normal_of (map (λ e. e.0) items)
all_twice [] = refl
all_twice (v ∷ items) = ap (λ (u : Value). u ∷ map normal_of (map normal_of (map (λ e. e.0) items))) v.1 ∙ ap (λ (us : List Value). normal_of v.0 ∷ us) (all_twice items)

abbrev Layer : Type 0
Layer = Value-F ((s : Segment) × Unit {0}) ((v : Value) × OfValue v) ((c : CellsAt) × Unit {0})

layer_twice : (y : Layer) → OfValue (roll-Value (map-Value _ _ _ Segment Value CellsAt (λ e. e.0) (λ e. e.0) (λ e. e.0) y))
layer_twice Value-F.Nothing = ap normal_of (para-roll-Value _ _ _ _ _ _ Value-F.Nothing ∙ sym made.rolls-Nothing)
layer_twice (Value-F.Flag b) = ap normal_of (para-roll-Value _ _ _ _ _ _ (Value-F.Flag b) ∙ sym (made.rolls-Flag b))
layer_twice (Value-F.Int n) = ap normal_of (para-roll-Value _ _ _ _ _ _ (Value-F.Int n) ∙ sym (made.rolls-Int n))
layer_twice (Value-F.Fix x) =
    let p : normal_of (roll-Value (Value-F.Fix x)) ≡ number_of x = para-roll-Value _ _ _ _ _ _ (Value-F.Fix x) in
    ap normal_of p ∙ number_by (int_eq (int_rem x one) (pos 0)) x refl ∙ sym p
layer_twice (Value-F.Text b) = ap normal_of (para-roll-Value _ _ _ _ _ _ (Value-F.Text b) ∙ sym (made.rolls-Text b))
layer_twice (Value-F.Tup items) =
    let xs : List Value = map (λ e. e.0) items in
    let p : normal_of (roll-Value (Value-F.Tup xs)) ≡ made.Tup (map normal_of xs) = ap normal_of (made.rolls-Tup xs) ∙ normal-Tup xs in
    ap normal_of p ∙ normal-Tup (map normal_of xs) ∙ ap made.Tup (all_twice items) ∙ sym p
layer_twice (Value-F.Space segments) =
    let xs : List Segment = map (λ e. e.0) segments in
    ap normal_of (para-roll-Value _ _ _ _ _ _ (Value-F.Space xs) ∙ ap made.Space (firsts xs) ∙ sym (made.rolls-Space xs))
  where
    firsts : (xs : List Segment) → map (λ (p : Segment × Unit {0}). p.0) (map (λ x. (x, tt)) xs) ≡ xs
    firsts [] = refl
    firsts (x ∷ xs) = ap (λ rest. x ∷ rest) (firsts xs)
layer_twice (Value-F.Cells at) = ap normal_of (para-roll-Value _ _ _ _ _ _ (Value-F.Cells at.0) ∙ sym (made.rolls-Cells at.0))
layer_twice (Value-F.Table b) = ap normal_of (para-roll-Value _ _ _ _ _ _ (Value-F.Table b) ∙ sym (made.rolls-Table b))

normal_twice : (v : Value) → OfValue v
normal_twice = ind-Value (λ s. Unit {0}) OfValue (λ c. Unit {0}) (λ x y is. tt)
    (λ x y is. subst (λ (z : Value-F Segment Value CellsAt). OfValue (roll-Value z)) is (layer_twice y))
    (λ x y is. tt)

normals_twice : (vs : List Value) → map normal_of (map normal_of vs) ≡ map normal_of vs
normals_twice [] = refl
normals_twice (v ∷ vs) = ap (λ (u : Value). u ∷ map normal_of (map normal_of vs)) (normal_twice v) ∙ ap (λ (us : List Value). normal_of v ∷ us) (normals_twice vs)

-- arguments that bind are as many as the parameters
all_given : (params : List Param) → lack_default params ≡ false → length (defaults params) ≡ length params
all_given [] h = refl
all_given (p ∷ params) h = here p.default h (λ k. all_given params k)
  where
    here : (d : Option Value) → (is_none d || lack_default params) ≡ false → (lack_default params ≡ false → length (defaults params) ≡ length params) → length (cons_option d (defaults params)) ≡ suc (length params)
    here None h more = cc
    here (Some v) h more = omega (arith, more h)

neither : (a b : Bool) → (a || b) ≡ false → (a ≡ false) × (b ≡ false)
neither false false h = (refl, refl)
neither false true h = cc
neither true b h = cc

not_less : (a b : ℕ) → nat_lt a b ≡ false → b ≤ a
not_less a b h = grind arith

bound_long : (params : List Param) (args : List Value) → is_wrong_count params (length args) ≡ false → length (bound params args) ≡ length params
bound_long params args h =
    let hs = neither (nat_lt (length params) (length args)) (lack_default (drop (length args) params)) h in
    let few = not_less (length params) (length args) hs.0 in
    length-map (args ++ defaults (drop (length args) params)) normal_of ∙ omega (arith, few, length-append args (defaults (drop (length args) params)), all_given (drop (length args) params) hs.1, length-drop (length args) params)

none_left : (params : List Param) → drop (length params) params ≡ []
none_left [] = refl
none_left (p ∷ params) = none_left params

pub bound_twice : (params : List Param) (args : List Value) → is_wrong_count params (length args) ≡ false → bound params (bound params args) ≡ bound params args
bound_twice params args h =
    let full : List Value = bound params args in
    let none : drop (length full) params ≡ [] = ap (λ (k : ℕ). drop k params) (bound_long params args h) ∙ none_left params in
    ap (λ (ps : List Param). map normal_of (full ++ defaults ps)) none ∙ ap (λ (vs : List Value). map normal_of vs) (append-nil full) ∙ normals_twice (args ++ defaults (drop (length args) params))

at_most_itself : (params : List Param) (count : ℕ) → count ≡ length params → is_wrong_count params count ≡ false
at_most_itself params count e =
    let few : nat_lt (length params) count ≡ false = grind (arith, e) in
    let none : lack_default (drop count params) ≡ false = ap (λ (k : ℕ). lack_default (drop k params)) e ∙ ap lack_default (none_left params) in
    ap (λ (b : Bool). b || lack_default (drop count params)) few ∙ none

-- arguments that are bound bind
pub bound_counts : (params : List Param) (args : List Value) → is_wrong_count params (length args) ≡ false → is_wrong_count params (length (bound params args)) ≡ false
bound_counts params args h = at_most_itself params (length (bound params args)) (bound_long params args h)
