-- Addresses that get longer or shorter.
use Rattle.std.proofs.Common.{◌≡◌, ℕ, ◌+◌, ◌≤◌, List, [], ◌∷◌, ◌++◌, map, sum, refl, sym, ◌∙◌, ap, subst, arith}
use Rattle.std.proofs.lemmas.List.{map-append}
use Rattle.std.proofs.lemmas.List.Sums.{sum_by-append, sum_by-cons}
use Rattle.mx_value.specs.Size.{size_of, size_of_segment}
use Rattle.mx_value.specs.declared.label.Label.{Label}
use Rattle.mx_value.specs.declared.value.Value.{Value}
use Rattle.mx_value.specs.declared.value.Value.TheVariants.{Space}
use Rattle.mx_value.specs.declared.value.Segment.{Segment, out-Segment}
use Rattle.mx_value.specs.declared.value.Segment.TheOpen.{Segment-F}
use Rattle.mx_value.specs.declared.value.Segment.TheViews.{out-roll-Segment}
use Rattle.mx_value.specs.declared.value.Segment.TheVariants as segment
use Rattle.mx_meaning.specs.References.{names_added, parent_of}
use Rattle.mx_state.specs.Proper.{AreArguments, IsStep}
use Rattle.mx_limit_laws.specs.Values.{IsAddress}
use Rattle.mx_limit_laws.proofs.Lists.{each_append}
use Rattle.mx_limit_laws.proofs.Values.{AreSteps, size-Space, size-Name}

abbrev OfSegment : Segment → Type 0
OfSegment s = IsStep (out-Segment s)

name_step : (name : Label) → OfSegment (segment.Name name)
name_step name = subst IsStep (sym (ap out-Segment (sym (segment.rolls-Name name)) ∙ out-roll-Segment (Segment-F.Name name))) tt

item_step : (args : List Value) → AreArguments args → OfSegment (segment.Item args)
item_step args a = subst IsStep (sym (ap out-Segment (sym (segment.rolls-Item args)) ∙ out-roll-Segment (Segment-F.Item args))) a

abbrev sizes : List Segment → ℕ
sizes at = sum (map size_of_segment at)

sizes_append : (xs ys : List Segment) → sizes (xs ++ ys) ≡ sizes xs + sizes ys
sizes_append xs ys = ap sum (map-append size_of_segment xs ys) ∙ sum_by-append (λ n. n) (map size_of_segment xs) (map size_of_segment ys)

pub root_address : IsAddress []
root_address = let s = size-Space [] in record { steps = tt; small = omega (arith, s) }

name_steps : (names : List Label) → AreSteps (map segment.Name names)
name_steps [] = tt
name_steps (n ∷ names) = (name_step n, name_steps names)

names_sizes : (names : List Label) → sizes (map segment.Name names) ≡ 0
names_sizes [] = refl
names_sizes (n ∷ names) = omega (arith, sum_by-cons (λ n. n) (size_of_segment (segment.Name n)) (map size_of_segment (map segment.Name names)), size-Name n, names_sizes names)

-- with more names
pub names_address : (at : List Segment) (names : List Label) → IsAddress at → IsAddress (names_added at names)
names_address at names a =
    let more : List Segment = map segment.Name names in
    let s = size-Space at in
    let t = size-Space (at ++ more) in
    let e = sizes_append at more in
    let z = names_sizes names in
    let k : size_of (Space at) ≤ 1_000_000 = a.small in
    record { steps = each_append OfSegment at more a.steps (name_steps names); small = omega (arith, s, t, e, z) }

-- with an item, where it is not too large
pub item_address : (at : List Segment) (args : List Value) → AreSteps at → AreArguments args → size_of (Space (at ++ segment.Item args ∷ [])) ≤ 1_000_000 → IsAddress (at ++ segment.Item args ∷ [])
item_address at args h a s = record { steps = each_append OfSegment at (segment.Item args ∷ []) h (item_step args a, tt); small = s }

parent_steps : (at : List Segment) → AreSteps at → AreSteps (parent_of at)
parent_steps [] h = tt
parent_steps (s ∷ []) h = tt
parent_steps (s ∷ t ∷ at) h = (h.0, parent_steps (t ∷ at) h.1)

parent_sizes : (at : List Segment) → sizes (parent_of at) ≤ sizes at
parent_sizes [] = omega arith
parent_sizes (s ∷ []) = omega arith
parent_sizes (s ∷ t ∷ at) =
    let h = parent_sizes (t ∷ at) in
    omega (arith, sum_by-cons (λ n. n) (size_of_segment s) (map size_of_segment (t ∷ at)), sum_by-cons (λ n. n) (size_of_segment s) (map size_of_segment (parent_of (t ∷ at))))

-- without its last segment
pub parent_address : (at : List Segment) → IsAddress at → IsAddress (parent_of at)
parent_address at a =
    let s = size-Space at in
    let t = size-Space (parent_of at) in
    let e = parent_sizes at in
    let k : size_of (Space at) ≤ 1_000_000 = a.small in
    record { steps = parent_steps at a.steps; small = omega (arith, s, t, e) }
