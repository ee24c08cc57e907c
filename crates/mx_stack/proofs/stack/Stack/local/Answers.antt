use Rattle.std.proofs.Common.{◌≡◌, ◌∙◌, ◌+◌, ◌<◌, ℕ, List, Some, length, map, reverse, refl, sym, ap, arith, rules}
use Rattle.std.specs.Prelude.{slice_get}
use Rattle.std.proofs.lemmas.Grind.{common_steps}
use Rattle.std.proofs.lemmas.List.{length-map}
use Rattle.mx_code_law.specs.States.{Slot}
use Rattle.mx_stack.specs.Slots.{told}
use Rattle.mx_stack.specs.Flight.{Flight}
use Rattle.mx_stack.specs.declared.stack.Place.{Place}
use Rattle.std.proofs.lemmas.Option.{slice_get_read}
use Rattle.mx_stack.proofs.Stacks.{get_map, local_at}
use Rattle.mx_stack.proofs.stack.Stack.local.Goals as goal

pub returns : goal.returns
returns c =
    let p : Place = c.self.inside.at in
    let ps : List Place = reverse c.self.inside.below.items in
    let items = c.self.inside.slots.items in
    let xs : List Slot = map told items in
    let n = length-map items told in
    let i = c.self.invariant in
    let e : c.in_ok-at.at ≡ p.floor + c.args.place = first_of (search rules, grind (arith, common_steps)) in
    let h : c.in_ok-at.at < p.base = omega (arith, c.if-self-at.false) in
    let found : slice_get items c.in_ok-at.at ≡ Some c.in_ok-slot.slot.now =
    ap (λ ys. slice_get ys c.in_ok-at.at) (sym c.deref.ensures.value)
    ∙ slice_get_read c.deref.result.now (length c.deref.result.now) c.in_ok-at.at c.in_ok-slot.slot.now refl (let d = ap (λ ys. length ys) c.deref.ensures.value in omega (arith, h, i.0, d)) c.in_ok-slot.ensures.lookup.1 in
    ap (λ (f : Flight). slice_get f.top.locals c.args.place) (sym c.self.view_is)
    ∙ local_at p ps xs (omega (arith, n, i.0)) i.1 c.args.place (told c.in_ok-slot.slot.now) (omega (arith, h, e))
    (ap (λ (k : ℕ). slice_get xs k) (sym e) ∙ get_map told c.in_ok-at.at items c.in_ok-slot.slot.now found)
