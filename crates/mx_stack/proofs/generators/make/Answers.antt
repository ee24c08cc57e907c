use Rattle.std.proofs.Common.{◌≡◌, ◌∙◌, Bool, Option, None, ap, sym, rules, arith}
use Rattle.std.proofs.lemmas.Grind.{common_steps}
use Rattle.std.proofs.lemmas.Option.{IfSome_then}
use Rattle.mx_value.specs.declared.value.Value.TheVariants.{Tup}
use Rattle.mx_ops.specs.Answers.{Answer, made}
use Rattle.mx_meaning.specs.Lookup.{Callee}
use Rattle.mx_code_law.specs.States.{Collected, State, computed_next, slot_of}
use Rattle.mx_code_law.specs.Machine.{deciding_truth, made_next}
use Rattle.mx_stack.specs.Callees.{callee_of}
use Rattle.mx_stack.specs.Flight.{Flight, at_next, at_past, with_slot, with_value}
use Rattle.mx_stack.specs.Came.{done}
use Rattle.mx_stack.proofs.Computed.{behind}
use Rattle.mx_stack.proofs.Collecting.{made_up}
use Rattle.mx_stack.proofs.generators.make.Goals as goal

pub returns-clause-came : goal.returns-clause-came
returns-clause-came c =
    let s : State = c.args.stack.now.top in
    let t : State = c.pop_callee.new.stack.top in
    let u : State = c.push_callee.new.stack.top in
    let f : Callee = callee_of c.in-Ok-pop_callee.callee in
    let e : s ≡ with_slot (Collected c.in-Ok.made) (with_slot (slot_of f) t) = first_of (search rules, grind (arith, common_steps)) in
    let d : deciding_truth f ≡ None = first_of (search rules, grind (arith, common_steps)) in
    let i : u ≡ with_slot (slot_of f) t = ap (λ (x : Flight). x.top) c.in-Ok-push_callee.ensures in
    IfSome_then (done c.leave_made.result) c.leave_made.ensures.came
    (λ r k h line.
    made_up h line s t f c.in-Ok.made e
    ∙ ap (λ (o : Option Bool). made_next h o c.in-Ok.made line (λ x. at_past 1 (with_value x t)) (λ x. at_next (with_value x (with_slot (slot_of f) t)))) d
    ∙ ap (λ (x : State). computed_next h (made (Tup c.in-Ok.made)) line (behind x x.stack)) (sym i)
    ∙ ap (λ (a : Answer). computed_next h a line (behind u u.stack)) (sym c.make_tuple.ensures)
    ∙ k h line)
