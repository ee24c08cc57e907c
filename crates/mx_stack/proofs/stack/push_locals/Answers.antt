use Rattle.std.proofs.Common.{◌≡◌, ◌∙◌, ◌-◌, ◌++◌, ◌∷◌, [], ℕ, List, length, map, ap, arith, rules, append_assoc, length-append}
use Rattle.std.proofs.lemmas.Grind.{common_steps}
use Rattle.std.proofs.lemmas.List.{map-append}
use Rattle.mx_code_law.specs.States.{Slot, Holds}
use Rattle.mx_stack.specs.Slots.{told, unset_slots}
use Rattle.mx_stack.specs.declared.slot.Slot.TheVariants.{Unset}
use Rattle.mx_stack.proofs.Stacks.{unset_more}
use Rattle.mx_stack.proofs.stack.push_locals.Goals as goal

pub loop-preserved : goal.loop-preserved
loop-preserved c =
    let before : List Slot = map told c.args.slots.now.items in
    let given : List Slot = map Holds c.args.arguments.now in
    record {
      is =
          ap (λ ys. map told ys) c.in_ok-push-2.ensures.items ∙ map-append told c.loop.slots.items (Unset ∷ []) ∙ ap (λ (ys : List Slot). ys ++ unset_slots 1) c.loop.invariant.is
          ∙ append_assoc before (given ++ unset_slots c.loop.counter) (unset_slots 1)
          ∙ ap (λ (ys : List Slot). before ++ ys) (append_assoc given (unset_slots c.loop.counter) (unset_slots 1) ∙ ap (λ (ys : List Slot). given ++ ys) (unset_more c.loop.counter));
      longer = (let m = length-append c.loop.slots.items (Unset ∷ []) in let e = ap (λ ys. length ys) c.in_ok-push-2.ensures.items in omega (arith, c.loop.invariant.longer, m, e));
    }

pub returns-clause-pushed : goal.returns-clause-pushed
returns-clause-pushed c =
    let given : List Slot = map Holds c.args.arguments.now in
    let n : c.loop.counter ≡ c.args.size - length c.args.arguments.now = first_of (search rules, grind (arith, common_steps)) in
    c.loop.invariant.is ∙ ap (λ (k : ℕ). map told c.args.slots.now.items ++ (given ++ unset_slots k)) n
