use Rattle.std.proofs.Common.{◌≡◌, ◌∙◌, ℕ, List, [], ◌∷◌, length, map, reverse, ap, arith}
use Rattle.std.proofs.lemmas.List.{length-map, reverse-append}
use Rattle.mx_code_law.specs.States.{Slot}
use Rattle.mx_stack.specs.Slots.{told}
use Rattle.mx_stack.specs.Flight.{Flight, flight_at, idle}
use Rattle.mx_stack.specs.declared.stack.Place.{Place}
use Rattle.mx_stack.proofs.Stacks.{begun_at}
use Rattle.mx_stack.proofs.stack.Stack.begin.Goals as goal

pub returns : goal.returns
returns c =
    let p : Place = c.self.inside.at in
    let xs : List Slot = map told c.self.inside.slots.items in
    let n = length-map c.self.inside.slots.items told in
    let l = c.len.ensures in
    let long : c.len.result ≡ length xs = omega (arith, n, l) in
    let more : reverse c.push.new.self.items ≡ p ∷ reverse c.self.inside.below.items = ap (λ (qs : List Place). reverse qs) c.in_ok-push.ensures.items ∙ reverse-append c.self.inside.below.items (p ∷ []) in
    ap (λ (q : Place). flight_at q (reverse c.push.new.self.items) xs) c.place_above-self-inside.ensures
    ∙ ap (λ (k : ℕ). flight_at (record { pc = 0; base = k; floor = k }) (reverse c.push.new.self.items) xs) long
    ∙ ap (λ (qs : List Place). flight_at (record { pc = 0; base = length xs; floor = length xs }) qs xs) more
    ∙ begun_at p (reverse c.self.inside.below.items) xs
    ∙ ap (λ (f : Flight). record { top = idle; below = f.top ∷ f.below }) c.self.view_is
