use Rattle.std.proofs.Common.{◌≡◌, ◌∙◌, List, [], ◌∷◌, take, map, reverse, sym, ap}
use Rattle.std.proofs.lemmas.List.{reverse-append, take-map}
use Rattle.mx_code_law.specs.States.{Slot}
use Rattle.mx_stack.specs.Slots.{told}
use Rattle.mx_stack.specs.Flight.{Flight, flight_at, runs_at}
use Rattle.mx_stack.specs.declared.stack.Place.{Place}
use Rattle.mx_stack.proofs.Stacks.{ended_at}
use Rattle.mx_stack.proofs.stack.Stack.end.Goals as goal

pub returns-in-Some : goal.returns-in-Some
returns-in-Some c = λ s others e.
    let p : Place = c.in-Some.place in
    let ps : List Place = reverse c.pop.new.self.items in
    let xs : List Slot = take c.self.inside.at.floor (map told c.self.inside.slots.items) in
    let was : reverse c.self.inside.below.items ≡ p ∷ ps = ap (λ (qs : List Place). reverse qs) c.in-Some.ensures.items ∙ reverse-append c.pop.new.self.items (p ∷ []) in
    ap (λ (ys : List Slot). flight_at p ps ys) (ap (λ ys. map told ys) c.truncate.ensures.items ∙ sym (take-map told c.self.inside.at.floor c.self.inside.slots.items))
    ∙ ended_at p ps xs s others (ap (λ (qs : List Place). runs_at qs xs) (sym was) ∙ ap (λ (f : Flight). f.below) c.self.view_is ∙ e)
