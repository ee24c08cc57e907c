use Rattle.std.proofs.Common.{◌≡◌, ◌∙◌, ◌+◌, ◌<◌, ℕ, List, map, reverse, ap, arith, rules}
use Rattle.std.specs.Prelude.{slice_set}
use Rattle.std.proofs.lemmas.Grind.{common_steps}
use Rattle.std.proofs.lemmas.List.{length-map}
use Rattle.mx_code_law.specs.States.{Slot, Holds}
use Rattle.mx_stack.specs.Slots.{told}
use Rattle.mx_stack.specs.Flight.{Flight, flight_at, on_top, with_local}
use Rattle.mx_stack.specs.declared.stack.Place.{Place}
use Rattle.mx_stack.proofs.Stacks.{map_set, set_at}
use Rattle.mx_stack.proofs.stack.Stack.set_local.Goals as goal

pub returns-then-at-self : goal.returns-then-at-self
returns-then-at-self c =
    let p : Place = c.self.inside.at in
    let ps : List Place = reverse c.self.inside.below.items in
    let items = c.self.inside.slots.items in
    let n = length-map items told in
    let i = c.self.invariant in
    let e : c.in-Some.at ≡ p.floor + c.args.place = first_of (search rules, grind (arith, common_steps)) in
    let h : c.in-Some.at < p.base = c.if-at-self.true in
    ap (λ (ys : List Slot). flight_at p ps ys) (ap (λ ys. map told ys) c.put.ensures ∙ map_set told c.in-Some.at items _ ∙ ap (λ (k : ℕ). slice_set (map told items) k (Holds c.args.value)) e)
    ∙ set_at p ps (map told items) (omega (arith, n, i.0)) i.1 c.args.place c.args.value (omega (arith, h, e))
    ∙ ap (λ (f : Flight). on_top (with_local c.args.place c.args.value f.top) f) c.self.view_is
