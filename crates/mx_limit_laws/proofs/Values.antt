-- Values within the limits, by their kinds.
use Rattle.std.proofs.Common.{◌≡◌, ℕ, ℤ, ◌+◌, ◌≤◌, ◌&&◌, nat_le, Bool, true, false, inl, inr, List, [], ◌∷◌, map, length, sum, refl, sym, ◌∙◌, ap, subst, arith}
use Rattle.std.specs.List.{list_all}
use Rattle.std.proofs.lemmas.Bool.Decides.{nat_tests}
use Rattle.std.proofs.lemmas.List.Folds.{list_all-map}
use Rattle.std.proofs.lemmas.List.Sums.{sum_by-cons}
use Rattle.mx_value.specs.Plain.{is_plain}
use Rattle.mx_value.specs.Size.{size_of, size_of_segment}
use Rattle.mx_value.specs.Nesting.{nesting_of, greatest}
use Rattle.mx_value.specs.declared.label.Label.{Label}
use Rattle.mx_value.specs.declared.value.Value.{Value, out-Value}
use Rattle.mx_value.specs.declared.value.Value.TheVariants as made
use Rattle.mx_value.specs.declared.value.Segment.{Segment, out-Segment}
use Rattle.mx_value.specs.declared.value.Segment.TheVariants as segment
use Rattle.mx_value.specs.declared.value.CellsAt.{CellsAt, out-CellsAt}
use Rattle.mx_value.specs.declared.value.Segment.TheOpen.{Segment-F, Value-F, CellsAt-F}
use Rattle.mx_value.specs.declared.value.Segment.TheViews.{roll-Value, roll-Segment, roll-CellsAt, roll-out-Value, roll-out-Segment, roll-out-CellsAt}
use Rattle.mx_value.specs.declared.value.Segment.TheFolds.{fold-roll-Value, fold-roll-Segment, fold-roll-CellsAt, para-roll-Value, para-roll-Segment, para-roll-CellsAt, map-Value, ind-Value}
use Rattle.mx_state.specs.Proper.{IsArgument, AreArguments, IsStep}
use Rattle.mx_limit_laws.specs.Values.{Each, is_argument, has_fit_addresses, is_fit_segment, has_fit_address, IsWithin, IsAddress}

-- ---- tests

pub both : (a b : Bool) → (a && b) ≡ true → (a ≡ true) × (b ≡ true)
both true true h = (refl, refl)
both true false h = cc
both false b h = cc

pub and_both : (a b : Bool) → a ≡ true → b ≡ true → (a && b) ≡ true
and_both true b e f = f
and_both false b e f = cc

pub at_most : (m n : ℕ) → nat_le m n ≡ true → m ≤ n
at_most m n h = grind (arith, nat_tests)

pub test_at_most : (m n : ℕ) → m ≤ n → nat_le m n ≡ true
test_at_most m n h = grind (arith, nat_tests)

pub argument_from : (v : Value) → is_argument v ≡ true → IsArgument v
argument_from v h =
    let p = both (is_plain v) _ h in
    let q = both (nat_le (size_of v) 1_000_000) (nat_le (nesting_of v) 64) p.1 in
    record { plain = p.0; small = at_most (size_of v) 1_000_000 q.0; flat = at_most (nesting_of v) 64 q.1 }

pub argument_test : (v : Value) → IsArgument v → is_argument v ≡ true
argument_test v a = and_both _ _ a.plain (and_both _ _ (test_at_most (size_of v) 1_000_000 a.small) (test_at_most (nesting_of v) 64 a.flat))

all_arguments : (args : List Value) → list_all is_argument args ≡ true → AreArguments args
all_arguments [] h v i = absurd i
all_arguments (a ∷ args) h v i =
    let p = both (is_argument a) (list_all is_argument args) h in
    elim i [ inl e ↦ subst (λ x. IsArgument x) e (argument_from a p.0) | inr j ↦ all_arguments args p.1 v j ]

arguments_all : (args : List Value) → AreArguments args → list_all is_argument args ≡ true
arguments_all [] h = refl
arguments_all (a ∷ args) h = and_both _ _ (argument_test a (h a (inl refl))) (arguments_all args (λ v i. h v (inr i)))

-- ---- sizes

pub size-Tup : (items : List Value) → size_of (made.Tup items) ≡ 1 + sum (map size_of items)
size-Tup items = ap size_of (sym (made.rolls-Tup items)) ∙ fold-roll-Value _ _ _ _ _ _ (Value-F.Tup items)

pub size-Space : (at : List Segment) → size_of (made.Space at) ≡ 1 + sum (map size_of_segment at)
size-Space at = ap size_of (sym (made.rolls-Space at)) ∙ fold-roll-Value _ _ _ _ _ _ (Value-F.Space at)

pub size-Cells : (at : List Segment) (name : Label) → size_of (made.Cells (roll-CellsAt (record { space = at; name = name }))) ≡ 1 + sum (map size_of_segment at)
size-Cells at name =
    ap size_of (sym (made.rolls-Cells (roll-CellsAt (record { space = at; name = name })))) ∙ fold-roll-Value _ _ _ _ _ _ (Value-F.Cells (roll-CellsAt (record { space = at; name = name })))
    ∙ ap (λ (n : ℕ). 1 + n) (fold-roll-CellsAt _ _ _ _ _ _ (record { space = at; name = name }))

pub size-Name : (name : Label) → size_of_segment (segment.Name name) ≡ 0
size-Name name = ap size_of_segment (sym (segment.rolls-Name name)) ∙ fold-roll-Segment _ _ _ _ _ _ (Segment-F.Name name)

pub nesting-Tup : (items : List Value) → nesting_of (made.Tup items) ≡ 1 + greatest (map nesting_of items)
nesting-Tup items = ap nesting_of (sym (made.rolls-Tup items)) ∙ fold-roll-Value _ _ _ _ _ _ (Value-F.Tup items)

nesting-Space : (at : List Segment) → nesting_of (made.Space at) ≡ 0
nesting-Space at = ap nesting_of (sym (made.rolls-Space at)) ∙ fold-roll-Value _ _ _ _ _ _ (Value-F.Space at)

nesting-Cells : (c : CellsAt) → nesting_of (made.Cells c) ≡ 0
nesting-Cells c = ap nesting_of (sym (made.rolls-Cells c)) ∙ fold-roll-Value _ _ _ _ _ _ (Value-F.Cells c)

pub plain-Tup : (items : List Value) → is_plain (made.Tup items) ≡ list_all (λ plain. plain) (map is_plain items)
plain-Tup items = ap is_plain (sym (made.rolls-Tup items)) ∙ fold-roll-Value _ _ _ _ _ _ (Value-F.Tup items)

-- ---- addresses in values

pub fit-Tup : (items : List Value) → has_fit_addresses (made.Tup items) ≡ list_all has_fit_addresses items
fit-Tup items = ap has_fit_addresses (sym (made.rolls-Tup items)) ∙ para-roll-Value _ _ _ _ _ _ (Value-F.Tup items) ∙ list_all-map (λ (item : Value × Bool). item.1) (λ (v : Value). (v, has_fit_addresses v)) items

pub fit-Space : (at : List Segment) → has_fit_addresses (made.Space at) ≡ list_all is_fit_segment at
fit-Space at = ap has_fit_addresses (sym (made.rolls-Space at)) ∙ para-roll-Value _ _ _ _ _ _ (Value-F.Space at) ∙ list_all-map (λ (s : Segment × Bool). s.1) (λ (s : Segment). (s, is_fit_segment s)) at

fit-CellsAt : (at : List Segment) (name : Label) → has_fit_address (roll-CellsAt (record { space = at; name = name })) ≡ list_all is_fit_segment at
fit-CellsAt at name = para-roll-CellsAt _ _ _ _ _ _ (record { space = at; name = name }) ∙ list_all-map (λ (s : Segment × Bool). s.1) (λ (s : Segment). (s, is_fit_segment s)) at

pub fit-Cells : (at : List Segment) (name : Label) → has_fit_addresses (made.Cells (roll-CellsAt (record { space = at; name = name }))) ≡ list_all is_fit_segment at
fit-Cells at name =
    ap has_fit_addresses (sym (made.rolls-Cells (roll-CellsAt (record { space = at; name = name })))) ∙ para-roll-Value _ _ _ _ _ _ (Value-F.Cells (roll-CellsAt (record { space = at; name = name }))) ∙ fit-CellsAt at name

fit-Item : (args : List Value) → is_fit_segment (roll-Segment (Segment-F.Item args)) ≡ list_all is_argument args
fit-Item args = para-roll-Segment _ _ _ _ _ _ (Segment-F.Item args) ∙ list_all-map (λ (item : Value × Bool). is_argument item.0) (λ (v : Value). (v, has_fit_addresses v)) args

step_at : (y : Segment-F Segment Value CellsAt) → is_fit_segment (roll-Segment y) ≡ true → IsStep y
step_at (Segment-F.Name name) h = tt
step_at (Segment-F.Item args) h = all_arguments args (sym (fit-Item args) ∙ h)

fit_at : (y : Segment-F Segment Value CellsAt) → IsStep y → is_fit_segment (roll-Segment y) ≡ true
fit_at (Segment-F.Name name) h = para-roll-Segment _ _ _ _ _ _ (Segment-F.Name name)
fit_at (Segment-F.Item args) h = fit-Item args ∙ arguments_all args h

abbrev pub AreSteps : List Segment → Type 0
AreSteps at = Each (λ (s : Segment). IsStep (out-Segment s)) at

pub steps_from : (at : List Segment) → list_all is_fit_segment at ≡ true → AreSteps at
steps_from [] h = tt
steps_from (s ∷ at) h =
    let p = both (is_fit_segment s) (list_all is_fit_segment at) h in
    (step_at (out-Segment s) (ap is_fit_segment (roll-out-Segment s) ∙ p.0), steps_from at p.1)

pub steps_all : (at : List Segment) → AreSteps at → list_all is_fit_segment at ≡ true
steps_all [] h = refl
steps_all (s ∷ at) h = and_both _ _ (sym (ap is_fit_segment (roll-out-Segment s)) ∙ fit_at (out-Segment s) h.0) (steps_all at h.1)

-- ---- plain values have no address

abbrev PlainFit : Value → Type 0
PlainFit v = is_plain v ≡ true → has_fit_addresses v ≡ true

abbrev Item : Type 0
Item = (v : Value) × PlainFit v

abbrev values : List Item → List Value
values items = map (λ e. e.0) items

all_fit : (items : List Item) → list_all (λ plain. plain) (map is_plain (values items)) ≡ true → list_all has_fit_addresses (values items) ≡ true
all_fit [] h = refl
all_fit (v ∷ items) h =
    let p = both (is_plain v.0) _ h in
    and_both _ _ (v.1 p.0) (all_fit items p.1)

not_plain : (v : Value) → is_plain v ≡ false → PlainFit v
not_plain v e p = absurd (let f : false ≡ true = sym e ∙ p in cc)

layer_fit : (y : Value-F ((s : Segment) × Unit {0}) Item ((c : CellsAt) × Unit {0})) → PlainFit (roll-Value (map-Value _ _ _ Segment Value CellsAt (λ e. e.0) (λ e. e.0) (λ e. e.0) y))
layer_fit Value-F.Nothing p = para-roll-Value _ _ _ _ _ _ Value-F.Nothing
layer_fit (Value-F.Flag b) p = para-roll-Value _ _ _ _ _ _ (Value-F.Flag b)
layer_fit (Value-F.Int n) p = para-roll-Value _ _ _ _ _ _ (Value-F.Int n)
layer_fit (Value-F.Fix x) p = para-roll-Value _ _ _ _ _ _ (Value-F.Fix x)
layer_fit (Value-F.Text t) p = para-roll-Value _ _ _ _ _ _ (Value-F.Text t)
layer_fit (Value-F.Tup items) p =
    ap has_fit_addresses (made.rolls-Tup (values items)) ∙ fit-Tup (values items) ∙ all_fit items (sym (fold-roll-Value _ _ _ _ _ _ (Value-F.Tup (values items))) ∙ p)
layer_fit (Value-F.Space segments) p = not_plain _ (fold-roll-Value _ _ _ _ _ _ (Value-F.Space (map (λ e. e.0) segments))) p
layer_fit (Value-F.Cells at) p = not_plain _ (fold-roll-Value _ _ _ _ _ _ (Value-F.Cells at.0)) p
layer_fit (Value-F.Table t) p = not_plain _ (fold-roll-Value _ _ _ _ _ _ (Value-F.Table t)) p

plain_fit : (v : Value) → PlainFit v
plain_fit = ind-Value (λ s. Unit {0}) PlainFit (λ c. Unit {0}) (λ x y is. tt)
    (λ x y is. subst (λ (z : Value-F Segment Value CellsAt). PlainFit (roll-Value z)) is (layer_fit y))
    (λ x y is. tt)

-- an argument is within the limits
pub argument_within : (v : Value) → IsArgument v → IsWithin v
argument_within v a = record { small = a.small; flat = a.flat; fit = plain_fit v a.plain }

pub arguments_within : (args : List Value) → AreArguments args → Each IsWithin args
arguments_within [] h = tt
arguments_within (v ∷ args) h = (argument_within v (h v (inl refl)), arguments_within args (λ w i. h w (inr i)))

-- and a plain value within the limits is an argument
pub plain_argument : (v : Value) → is_plain v ≡ true → IsWithin v → IsArgument v
plain_argument v p w = record { plain = p; small = w.small; flat = w.flat }

-- ---- each kind

pub nothing_within : IsWithin made.Nothing
nothing_within =
    let s : size_of made.Nothing ≡ 1 = ap size_of (sym made.rolls-Nothing) ∙ fold-roll-Value _ _ _ _ _ _ Value-F.Nothing in
    let n : nesting_of made.Nothing ≡ 0 = ap nesting_of (sym made.rolls-Nothing) ∙ fold-roll-Value _ _ _ _ _ _ Value-F.Nothing in
    record { small = omega arith; flat = omega arith; fit = ap has_fit_addresses (sym made.rolls-Nothing) ∙ para-roll-Value _ _ _ _ _ _ Value-F.Nothing }

pub flag_within : (b : Bool) → IsWithin (made.Flag b)
flag_within b =
    let s : size_of (made.Flag b) ≡ 1 = ap size_of (sym (made.rolls-Flag b)) ∙ fold-roll-Value _ _ _ _ _ _ (Value-F.Flag b) in
    let n : nesting_of (made.Flag b) ≡ 0 = ap nesting_of (sym (made.rolls-Flag b)) ∙ fold-roll-Value _ _ _ _ _ _ (Value-F.Flag b) in
    record { small = omega arith; flat = omega arith; fit = ap has_fit_addresses (sym (made.rolls-Flag b)) ∙ para-roll-Value _ _ _ _ _ _ (Value-F.Flag b) }

pub int_within : (z : ℤ) → IsWithin (made.Int z)
int_within z =
    let s : size_of (made.Int z) ≡ 1 = ap size_of (sym (made.rolls-Int z)) ∙ fold-roll-Value _ _ _ _ _ _ (Value-F.Int z) in
    let n : nesting_of (made.Int z) ≡ 0 = ap nesting_of (sym (made.rolls-Int z)) ∙ fold-roll-Value _ _ _ _ _ _ (Value-F.Int z) in
    record { small = omega arith; flat = omega arith; fit = ap has_fit_addresses (sym (made.rolls-Int z)) ∙ para-roll-Value _ _ _ _ _ _ (Value-F.Int z) }

pub fix_within : (z : ℤ) → IsWithin (made.Fix z)
fix_within z =
    let s : size_of (made.Fix z) ≡ 1 = ap size_of (sym (made.rolls-Fix z)) ∙ fold-roll-Value _ _ _ _ _ _ (Value-F.Fix z) in
    let n : nesting_of (made.Fix z) ≡ 0 = ap nesting_of (sym (made.rolls-Fix z)) ∙ fold-roll-Value _ _ _ _ _ _ (Value-F.Fix z) in
    record { small = omega arith; flat = omega arith; fit = ap has_fit_addresses (sym (made.rolls-Fix z)) ∙ para-roll-Value _ _ _ _ _ _ (Value-F.Fix z) }

pub table_within : (t : Label) → IsWithin (made.Table t)
table_within t =
    let s : size_of (made.Table t) ≡ 1 = ap size_of (sym (made.rolls-Table t)) ∙ fold-roll-Value _ _ _ _ _ _ (Value-F.Table t) in
    let n : nesting_of (made.Table t) ≡ 0 = ap nesting_of (sym (made.rolls-Table t)) ∙ fold-roll-Value _ _ _ _ _ _ (Value-F.Table t) in
    record { small = omega arith; flat = omega arith; fit = ap has_fit_addresses (sym (made.rolls-Table t)) ∙ para-roll-Value _ _ _ _ _ _ (Value-F.Table t) }

pub text_within : (t : Label) → length t ≤ 999_999 → IsWithin (made.Text t)
text_within t few =
    let s : size_of (made.Text t) ≡ 1 + length t = ap size_of (sym (made.rolls-Text t)) ∙ fold-roll-Value _ _ _ _ _ _ (Value-F.Text t) in
    let n : nesting_of (made.Text t) ≡ 0 = ap nesting_of (sym (made.rolls-Text t)) ∙ fold-roll-Value _ _ _ _ _ _ (Value-F.Text t) in
    record { small = omega arith; flat = omega arith; fit = ap has_fit_addresses (sym (made.rolls-Text t)) ∙ para-roll-Value _ _ _ _ _ _ (Value-F.Text t) }

pub text_length : (t : Label) → IsWithin (made.Text t) → length t ≤ 999_999
text_length t w =
    let s : size_of (made.Text t) ≡ 1 + length t = ap size_of (sym (made.rolls-Text t)) ∙ fold-roll-Value _ _ _ _ _ _ (Value-F.Text t) in
    let k : size_of (made.Text t) ≤ 1_000_000 = w.small in
    omega arith

-- ---- tuples

parts_within : (items : List Value) → sum (map size_of items) ≤ 1_000_000 → greatest (map nesting_of items) ≤ 64 → list_all has_fit_addresses items ≡ true → Each IsWithin items
parts_within [] s n f = tt
parts_within (v ∷ items) s n f =
    let e = sum_by-cons (λ n. n) (size_of v) (map size_of items) in
    let p = both (has_fit_addresses v) (list_all has_fit_addresses items) f in
    (record { small = omega (arith, e); flat = omega arith; fit = p.0 }, parts_within items (omega (arith, e)) (omega arith) p.1)

pub items_within : (items : List Value) → IsWithin (made.Tup items) → Each IsWithin items
items_within items w =
    let s = size-Tup items in
    let n = nesting-Tup items in
    let k : size_of (made.Tup items) ≤ 1_000_000 = w.small in
    let l : nesting_of (made.Tup items) ≤ 64 = w.flat in
    parts_within items (omega (arith, s)) (omega (arith, n)) (sym (fit-Tup items) ∙ w.fit)

pub each_fit : (items : List Value) → Each IsWithin items → list_all has_fit_addresses items ≡ true
each_fit [] h = refl
each_fit (v ∷ items) h = and_both _ _ h.0.fit (each_fit items h.1)

pub tuple_within : (items : List Value) → Each IsWithin items → size_of (made.Tup items) ≤ 1_000_000 → nesting_of (made.Tup items) ≤ 64 → IsWithin (made.Tup items)
tuple_within items h s n = record { small = s; flat = n; fit = fit-Tup items ∙ each_fit items h }

-- ---- spaces and cells

pub space_within : (at : List Segment) → IsAddress at → IsWithin (made.Space at)
space_within at a =
    let n = nesting-Space at in
    record { small = a.small; flat = omega (arith, n); fit = fit-Space at ∙ steps_all at a.steps }

pub space_address : (at : List Segment) → IsWithin (made.Space at) → IsAddress at
space_address at w = record { steps = steps_from at (sym (fit-Space at) ∙ w.fit); small = w.small }

pub cells_within : (at : List Segment) (name : Label) → IsAddress at → IsWithin (made.Cells (roll-CellsAt (record { space = at; name = name })))
cells_within at name a =
    let n = nesting-Cells (roll-CellsAt (record { space = at; name = name })) in
    let s = size-Cells at name in
    let t = size-Space at in
    let k : size_of (made.Space at) ≤ 1_000_000 = a.small in
    record { small = omega (arith, s, t); flat = omega (arith, n); fit = fit-Cells at name ∙ steps_all at a.steps }

cells_address_at : (c : CellsAt-F Segment Value CellsAt) → IsWithin (made.Cells (roll-CellsAt c)) → IsAddress c.space
cells_address_at c w =
    let s = size-Cells c.space c.name in
    let t = size-Space c.space in
    let k : size_of (made.Cells (roll-CellsAt c)) ≤ 1_000_000 = w.small in
    record { steps = steps_from c.space (sym (fit-Cells c.space c.name) ∙ w.fit); small = omega (arith, s, t) }

pub cells_address : (c : CellsAt) → IsWithin (made.Cells c) → IsAddress (out-CellsAt c).space
cells_address c w = cells_address_at (out-CellsAt c) (subst (λ (x : CellsAt). IsWithin (made.Cells x)) (sym (roll-out-CellsAt c)) w)

-- what a value holds is within the limits
abbrev pub IsContentWithin : Value-F Segment Value CellsAt → Type 0
IsContentWithin y = IsWithin (roll-Value y)

pub content_within : (v : Value) → IsWithin v → IsContentWithin (out-Value v)
content_within v w = subst IsWithin (sym (roll-out-Value v)) w
