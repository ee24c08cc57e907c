-- A value in normal form stays as it is, and is as plain and as nested as the value was.
use Rattle.std.proofs.Common.{Bool, true, false, ◌≡◌, ℕ, ◌+◌, ◌&&◌, ℤ, pos, List, [], ◌∷◌, map, max, if◌then◌else◌, refl, sym, ◌∙◌, ap, subst}
use Rattle.std.specs.Prelude.{int_div, int_rem}
use Rattle.std.specs.Ordering.{int_eq}
use Rattle.std.specs.List.{list_all}
use Rattle.mx_value.specs.declared.value.Value.{Value}
use Rattle.mx_value.specs.declared.value.Value.TheVariants as made
use Rattle.mx_value.specs.declared.value.Segment.{Segment}
use Rattle.mx_value.specs.declared.value.CellsAt.{CellsAt}
use Rattle.mx_value.specs.declared.value.Segment.TheOpen.{Value-F}
use Rattle.mx_value.specs.declared.value.Segment.TheFolds.{fold-roll-Value, para-roll-Value, map-Value, ind-Value}
use Rattle.mx_value.specs.declared.value.Segment.TheViews.{roll-Value}
use Rattle.mx_value.specs.Normal.{normal_of, one}
use Rattle.mx_value.specs.Plain.{is_plain}
use Rattle.mx_value.specs.Nesting.{nesting_of, greatest}
use Rattle.mx_value.proofs.Normals.{normal-Fix, normal-Tup}

pub record Keeps (v : Value) : Type 0 where
  pub twice : normal_of (normal_of v) ≡ normal_of v
  pub plain : is_plain (normal_of v) ≡ is_plain v
  pub nesting : nesting_of (normal_of v) ≡ nesting_of v

same_keeps : (v : Value) → normal_of v ≡ v → Keeps v
same_keeps v e = record { twice = ap normal_of e; plain = ap is_plain e; nesting = ap nesting_of e }

normal-Int : (n : ℤ) → normal_of (made.Int n) ≡ made.Int n
normal-Int n = ap normal_of (sym (made.rolls-Int n)) ∙ para-roll-Value _ _ _ _ _ _ (Value-F.Int n)

plain-Int : (n : ℤ) → is_plain (made.Int n) ≡ true
plain-Int n = ap is_plain (sym (made.rolls-Int n)) ∙ fold-roll-Value _ _ _ _ _ _ (Value-F.Int n)

plain-Fix : (x : ℤ) → is_plain (made.Fix x) ≡ true
plain-Fix x = ap is_plain (sym (made.rolls-Fix x)) ∙ fold-roll-Value _ _ _ _ _ _ (Value-F.Fix x)

pub plain-Tup : (items : List Value) → is_plain (made.Tup items) ≡ list_all (λ plain. plain) (map is_plain items)
plain-Tup items = ap is_plain (sym (made.rolls-Tup items)) ∙ fold-roll-Value _ _ _ _ _ _ (Value-F.Tup items)

nesting-Int : (n : ℤ) → nesting_of (made.Int n) ≡ 0
nesting-Int n = ap nesting_of (sym (made.rolls-Int n)) ∙ fold-roll-Value _ _ _ _ _ _ (Value-F.Int n)

nesting-Fix : (x : ℤ) → nesting_of (made.Fix x) ≡ 0
nesting-Fix x = ap nesting_of (sym (made.rolls-Fix x)) ∙ fold-roll-Value _ _ _ _ _ _ (Value-F.Fix x)

nesting-Tup : (items : List Value) → nesting_of (made.Tup items) ≡ 1 + greatest (map nesting_of items)
nesting-Tup items = ap nesting_of (sym (made.rolls-Tup items)) ∙ fold-roll-Value _ _ _ _ _ _ (Value-F.Tup items)

-- ---- numbers

abbrev number_by : Bool → ℤ → Value
number_by b x = if b then made.Int (int_div x one) else made.Fix x

record IsNumber (v : Value) : Type 0 where
  pub stays : normal_of v ≡ v
  pub plain : is_plain v ≡ true
  pub nesting : nesting_of v ≡ 0

number_at : (b : Bool) (x : ℤ) → int_eq (int_rem x one) (pos 0) ≡ b → IsNumber (number_by b x)
number_at true x q = record { stays = normal-Int (int_div x one); plain = plain-Int (int_div x one); nesting = nesting-Int (int_div x one) }
number_at false x q = record { stays = normal-Fix x ∙ ap (λ (b : Bool). number_by b x) q; plain = plain-Fix x; nesting = nesting-Fix x }

fix_keeps : (x : ℤ) → Keeps (made.Fix x)
fix_keeps x =
    let is = normal-Fix x in
    let n = number_at (int_eq (int_rem x one) (pos 0)) x refl in
    record {
      twice = ap normal_of is ∙ n.stays ∙ sym is;
      plain = ap is_plain is ∙ n.plain ∙ sym (plain-Fix x);
      nesting = ap nesting_of is ∙ n.nesting ∙ sym (nesting-Fix x);
    }

-- ---- tuples

abbrev Item : Type 0
Item = (v : Value) × Keeps v

abbrev values : List Item → List Value
values items = map (λ e. e.0) items

all_twice : (items : List Item) → map normal_of (map normal_of (values items)) ≡ map normal_of (values items)
all_twice [] = refl
all_twice (v ∷ items) = ap (λ (u : Value). u ∷ map normal_of (map normal_of (values items))) v.1.twice ∙ ap (λ (us : List Value). normal_of v.0 ∷ us) (all_twice items)

all_plain : (items : List Item) → list_all (λ plain. plain) (map is_plain (map normal_of (values items))) ≡ list_all (λ plain. plain) (map is_plain (values items))
all_plain [] = refl
all_plain (v ∷ items) = ap (λ (b : Bool). b && list_all (λ plain. plain) (map is_plain (map normal_of (values items)))) v.1.plain ∙ ap (λ (b : Bool). is_plain v.0 && b) (all_plain items)

all_nesting : (items : List Item) → greatest (map nesting_of (map normal_of (values items))) ≡ greatest (map nesting_of (values items))
all_nesting [] = refl
all_nesting (v ∷ items) = ap (λ (n : ℕ). max n (greatest (map nesting_of (map normal_of (values items))))) v.1.nesting ∙ ap (λ (n : ℕ). max (nesting_of v.0) n) (all_nesting items)

tup_keeps : (items : List Item) → Keeps (made.Tup (values items))
tup_keeps items =
    let xs = values items in
    let is = normal-Tup xs in
    record {
      twice = ap normal_of is ∙ normal-Tup (map normal_of xs) ∙ ap made.Tup (all_twice items) ∙ sym is;
      plain = ap is_plain is ∙ plain-Tup (map normal_of xs) ∙ all_plain items ∙ sym (plain-Tup xs);
      nesting = ap nesting_of is ∙ nesting-Tup (map normal_of xs) ∙ ap (λ (n : ℕ). 1 + n) (all_nesting items) ∙ sym (nesting-Tup xs);
    }

-- ---- all values

abbrev Layer : Type 0
Layer = Value-F ((s : Segment) × Unit {0}) Item ((c : CellsAt) × Unit {0})

firsts : (xs : List Segment) → map (λ (p : Segment × Unit {0}). p.0) (map (λ x. (x, tt)) xs) ≡ xs
firsts [] = refl
firsts (x ∷ xs) = ap (λ rest. x ∷ rest) (firsts xs)

layer_keeps : (y : Layer) → Keeps (roll-Value (map-Value _ _ _ Segment Value CellsAt (λ e. e.0) (λ e. e.0) (λ e. e.0) y))
layer_keeps Value-F.Nothing = same_keeps _ (para-roll-Value _ _ _ _ _ _ Value-F.Nothing ∙ sym made.rolls-Nothing)
layer_keeps (Value-F.Flag b) = same_keeps _ (para-roll-Value _ _ _ _ _ _ (Value-F.Flag b) ∙ sym (made.rolls-Flag b))
layer_keeps (Value-F.Int n) = same_keeps _ (para-roll-Value _ _ _ _ _ _ (Value-F.Int n) ∙ sym (made.rolls-Int n))
layer_keeps (Value-F.Fix x) = subst (λ (v : Value). Keeps v) (sym (made.rolls-Fix x)) (fix_keeps x)
layer_keeps (Value-F.Text b) = same_keeps _ (para-roll-Value _ _ _ _ _ _ (Value-F.Text b) ∙ sym (made.rolls-Text b))
layer_keeps (Value-F.Tup items) = subst (λ (v : Value). Keeps v) (sym (made.rolls-Tup (values items))) (tup_keeps items)
layer_keeps (Value-F.Space segments) =
    let xs : List Segment = map (λ e. e.0) segments in
    same_keeps _ (para-roll-Value _ _ _ _ _ _ (Value-F.Space xs) ∙ ap made.Space (firsts xs) ∙ sym (made.rolls-Space xs))
layer_keeps (Value-F.Cells at) = same_keeps _ (para-roll-Value _ _ _ _ _ _ (Value-F.Cells at.0) ∙ sym (made.rolls-Cells at.0))
layer_keeps (Value-F.Table b) = same_keeps _ (para-roll-Value _ _ _ _ _ _ (Value-F.Table b) ∙ sym (made.rolls-Table b))

pub normal_keeps : (v : Value) → Keeps v
normal_keeps = ind-Value (λ s. Unit {0}) Keeps (λ c. Unit {0}) (λ x y is. tt)
    (λ x y is. subst (λ (z : Value-F Segment Value CellsAt). Keeps (roll-Value z)) is (layer_keeps y))
    (λ x y is. tt)
