use Rattle.std.proofs.Common.{◌≡◌, ◌∙◌, ◌++◌, ℕ, List, [], length, map, reverse, ap, arith}
use Rattle.std.proofs.lemmas.List.{length-map}
use Rattle.mx_code_law.specs.States.{Slot, state}
use Rattle.mx_code_law.specs.Laws.{begun}
use Rattle.mx_stack.specs.Slots.{local_slots, told}
use Rattle.mx_stack.specs.Flight.{Flight, flight_at, on_top}
use Rattle.mx_stack.specs.declared.stack.Place.{Place}
use Rattle.mx_stack.proofs.Stacks.{entered_at}
use Rattle.mx_stack.proofs.stack.Stack.enter.Goals as goal

pub returns : goal.returns
returns c = λ e.
    let p : Place = c.self.inside.at in
    let ps : List Place = reverse c.self.inside.below.items in
    let xs : List Slot = map told c.self.inside.slots.items in
    let n = length-map c.self.inside.slots.items told in
    let m = length-map c.push_locals.new.slots.items told in
    let i = c.self.invariant in
    let all : map told c.push_locals.new.slots.items ≡ xs ++ local_slots c.args.size c.args.arguments.now = c.in_ok-push_locals.ensures.pushed in
    let l = c.len-self-inside.ensures in
    let long : c.len-self-inside.result ≡ length (xs ++ local_slots c.args.size c.args.arguments.now) = (let a = ap (λ (ys : List Slot). length ys) all in omega (arith, l, m, a)) in
    ap (λ (ys : List Slot). flight_at (record { pc = 0; base = c.len-self-inside.result; floor = p.floor }) ps ys) all
    ∙ ap (λ (k : ℕ). flight_at (record { pc = 0; base = k; floor = p.floor }) ps (xs ++ local_slots c.args.size c.args.arguments.now)) long
    ∙ entered_at p ps xs (omega (arith, n, i.0)) i.1 c.args.arguments.now c.args.size (ap (λ (f : Flight). f.top) c.self.view_is ∙ e)
    ∙ ap (λ (f : Flight). on_top (state 0 [] (begun c.args.size c.args.arguments.now)) f) c.self.view_is
