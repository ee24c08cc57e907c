-- Arguments in normal form are arguments, and so is what parameters bind.
use Rattle.std.proofs.Common.{Bool, true, false, ◌≡◌, ℕ, zero, suc, ◌+◌, ◌≤◌, ◌&&◌, ℤ, pos, List, [], ◌∷◌, ◌++◌, map, max, sum, drop, length, Option, None, Some, if◌then◌else◌, refl, sym, ◌∙◌, ap, subst}
use Rattle.std.specs.Prelude.{int_div, int_rem}
use Rattle.std.specs.Ordering.{int_eq}
use Rattle.std.specs.List.{list_all, cons_option}
use Rattle.mx_value.specs.declared.value.Value.{Value}
use Rattle.mx_value.specs.declared.value.Value.TheVariants as made
use Rattle.mx_value.specs.declared.value.Segment.{Segment}
use Rattle.mx_value.specs.declared.value.CellsAt.{CellsAt}
use Rattle.mx_value.specs.declared.value.Segment.TheOpen.{Value-F}
use Rattle.mx_value.specs.declared.value.Segment.TheFolds.{fold-roll-Value, para-roll-Value, map-Value, ind-Value}
use Rattle.mx_value.specs.declared.value.Segment.TheViews.{roll-Value}
use Rattle.mx_value.specs.Normal.{normal_of, one}
use Rattle.mx_value.specs.Plain.{is_plain}
use Rattle.mx_value.specs.Size.{size_of}
use Rattle.mx_value.specs.Nesting.{nesting_of, greatest}
use Rattle.mx_value.proofs.Normals.{normal-Fix, normal-Tup}
use Rattle.mx_syntax.specs.Binding.{defaults, bound}
use Rattle.mx_syntax.specs.declared.stmt.Param.{Param}
use Rattle.mx_state.specs.Proper.{IsArgument}
use Rattle.mx_limit_laws.specs.Values.{Each}
use Rattle.mx_limit_laws.proofs.Lists.{each_append, each_map}
use Rattle.mx_limit_laws.proofs.Values.{size-Tup, nesting-Tup, plain-Tup}

-- the normal form is as plain, as large and as nested
record Keeps (v : Value) : Type 0 where
  plain : is_plain (normal_of v) ≡ is_plain v
  size : size_of (normal_of v) ≡ size_of v
  nesting : nesting_of (normal_of v) ≡ nesting_of v

same_keeps : (v : Value) → normal_of v ≡ v → Keeps v
same_keeps v e = record { plain = ap is_plain e; size = ap size_of e; nesting = ap nesting_of e }

-- ---- numbers

record IsNumber (v : Value) : Type 0 where
  plain : is_plain v ≡ true
  size : size_of v ≡ 1
  nesting : nesting_of v ≡ 0

int_number : (n : ℤ) → IsNumber (made.Int n)
int_number n = record {
  plain = ap is_plain (sym (made.rolls-Int n)) ∙ fold-roll-Value _ _ _ _ _ _ (Value-F.Int n);
  size = ap size_of (sym (made.rolls-Int n)) ∙ fold-roll-Value _ _ _ _ _ _ (Value-F.Int n);
  nesting = ap nesting_of (sym (made.rolls-Int n)) ∙ fold-roll-Value _ _ _ _ _ _ (Value-F.Int n);
}

fix_number : (x : ℤ) → IsNumber (made.Fix x)
fix_number x = record {
  plain = ap is_plain (sym (made.rolls-Fix x)) ∙ fold-roll-Value _ _ _ _ _ _ (Value-F.Fix x);
  size = ap size_of (sym (made.rolls-Fix x)) ∙ fold-roll-Value _ _ _ _ _ _ (Value-F.Fix x);
  nesting = ap nesting_of (sym (made.rolls-Fix x)) ∙ fold-roll-Value _ _ _ _ _ _ (Value-F.Fix x);
}

number_at : (b : Bool) (x : ℤ) → IsNumber (if b then made.Int (int_div x one) else made.Fix x)
number_at true x = int_number (int_div x one)
number_at false x = fix_number x

fix_keeps : (x : ℤ) → Keeps (made.Fix x)
fix_keeps x =
    let is = normal-Fix x in
    let n = number_at (int_eq (int_rem x one) (pos 0)) x in
    let f = fix_number x in
    record { plain = ap is_plain is ∙ n.plain ∙ sym f.plain; size = ap size_of is ∙ n.size ∙ sym f.size; nesting = ap nesting_of is ∙ n.nesting ∙ sym f.nesting }

-- ---- tuples

abbrev Item : Type 0
Item = (v : Value) × Keeps v

abbrev values : List Item → List Value
values items = map (λ e. e.0) items

all_plain : (items : List Item) → list_all (λ plain. plain) (map is_plain (map normal_of (values items))) ≡ list_all (λ plain. plain) (map is_plain (values items))
all_plain [] = refl
all_plain (v ∷ items) = ap (λ (b : Bool). b && list_all (λ plain. plain) (map is_plain (map normal_of (values items)))) v.1.plain ∙ ap (λ (b : Bool). is_plain v.0 && b) (all_plain items)

all_sizes : (items : List Item) → map size_of (map normal_of (values items)) ≡ map size_of (values items)
all_sizes [] = refl
all_sizes (v ∷ items) = ap (λ (n : ℕ). n ∷ map size_of (map normal_of (values items))) v.1.size ∙ ap (λ (ns : List ℕ). size_of v.0 ∷ ns) (all_sizes items)

all_nesting : (items : List Item) → greatest (map nesting_of (map normal_of (values items))) ≡ greatest (map nesting_of (values items))
all_nesting [] = refl
all_nesting (v ∷ items) = ap (λ (n : ℕ). max n (greatest (map nesting_of (map normal_of (values items))))) v.1.nesting ∙ ap (λ (n : ℕ). max (nesting_of v.0) n) (all_nesting items)

tup_keeps : (items : List Item) → Keeps (made.Tup (values items))
tup_keeps items =
    let xs = values items in
    let is = normal-Tup xs in
    record {
      plain = ap is_plain is ∙ plain-Tup (map normal_of xs) ∙ all_plain items ∙ sym (plain-Tup xs);
      size = ap size_of is ∙ size-Tup (map normal_of xs) ∙ ap (λ (ns : List ℕ). 1 + sum ns) (all_sizes items) ∙ sym (size-Tup xs);
      nesting = ap nesting_of is ∙ nesting-Tup (map normal_of xs) ∙ ap (λ (n : ℕ). 1 + n) (all_nesting items) ∙ sym (nesting-Tup xs);
    }

-- ---- all values

firsts : (xs : List Segment) → map (λ (p : Segment × Unit {0}). p.0) (map (λ x. (x, tt)) xs) ≡ xs
firsts [] = refl
firsts (x ∷ xs) = ap (λ rest. x ∷ rest) (firsts xs)

layer_keeps : (y : Value-F ((s : Segment) × Unit {0}) Item ((c : CellsAt) × Unit {0})) → Keeps (roll-Value (map-Value _ _ _ Segment Value CellsAt (λ e. e.0) (λ e. e.0) (λ e. e.0) y))
layer_keeps Value-F.Nothing = same_keeps _ (para-roll-Value _ _ _ _ _ _ Value-F.Nothing ∙ sym made.rolls-Nothing)
layer_keeps (Value-F.Flag b) = same_keeps _ (para-roll-Value _ _ _ _ _ _ (Value-F.Flag b) ∙ sym (made.rolls-Flag b))
layer_keeps (Value-F.Int n) = same_keeps _ (para-roll-Value _ _ _ _ _ _ (Value-F.Int n) ∙ sym (made.rolls-Int n))
layer_keeps (Value-F.Fix x) = subst (λ (v : Value). Keeps v) (sym (made.rolls-Fix x)) (fix_keeps x)
layer_keeps (Value-F.Text b) = same_keeps _ (para-roll-Value _ _ _ _ _ _ (Value-F.Text b) ∙ sym (made.rolls-Text b))
layer_keeps (Value-F.Tup items) = subst (λ (v : Value). Keeps v) (sym (made.rolls-Tup (values items))) (tup_keeps items)
layer_keeps (Value-F.Space segments) =
    let xs : List Segment = map (λ e. e.0) segments in
    same_keeps _ (para-roll-Value _ _ _ _ _ _ (Value-F.Space xs) ∙ ap made.Space (firsts xs) ∙ sym (made.rolls-Space xs))
layer_keeps (Value-F.Cells at) = same_keeps _ (para-roll-Value _ _ _ _ _ _ (Value-F.Cells at.0) ∙ sym (made.rolls-Cells at.0))
layer_keeps (Value-F.Table b) = same_keeps _ (para-roll-Value _ _ _ _ _ _ (Value-F.Table b) ∙ sym (made.rolls-Table b))

normal_keeps : (v : Value) → Keeps v
normal_keeps = ind-Value (λ s. Unit {0}) Keeps (λ c. Unit {0}) (λ x y is. tt)
    (λ x y is. subst (λ (z : Value-F Segment Value CellsAt). Keeps (roll-Value z)) is (layer_keeps y))
    (λ x y is. tt)

normal_argument : (v : Value) → IsArgument v → IsArgument (normal_of v)
normal_argument v a =
    let k = normal_keeps v in
    record { plain = k.plain ∙ a.plain; small = subst (λ (n : ℕ). n ≤ 1_000_000) (sym k.size) a.small; flat = subst (λ (n : ℕ). n ≤ 64) (sym k.nesting) a.flat }

-- ---- bound arguments

first_left : (d : Option Value) (vs : List Value) → Each IsArgument (cons_option d vs) → Each IsArgument vs
first_left None vs h = h
first_left (Some v) vs h = h.1

defaults_dropped : (n : ℕ) (params : List Param) → Each IsArgument (defaults params) → Each IsArgument (defaults (drop n params))
defaults_dropped zero params h = h
defaults_dropped (suc n) [] h = h
defaults_dropped (suc n) (p ∷ params) h = defaults_dropped n params (first_left p.default (defaults params) h)

-- what parameters bind are arguments, where the defaults are such
pub bound_arguments : (params : List Param) (args : List Value) → Each IsArgument (defaults params) → Each IsArgument args → Each IsArgument (bound params args)
bound_arguments params args d a =
    each_map IsArgument IsArgument normal_of normal_argument (args ++ defaults (drop (length args) params))
    (each_append IsArgument args (defaults (drop (length args) params)) a (defaults_dropped (length args) params d))
