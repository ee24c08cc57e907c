use Rattle.std.proofs.Common.{◌∙◌, ap, sym}
use Rattle.std.proofs.lemmas.Option.{IfSome_then}
use Rattle.mx_value.specs.declared.value.Value.TheVariants.{Tup}
use Rattle.mx_ops.specs.Answers.{Answer, made}
use Rattle.mx_code_law.specs.States.{State, computed_next}
use Rattle.mx_stack.specs.Flight.{Flight}
use Rattle.mx_stack.specs.Came.{done}
use Rattle.mx_stack.proofs.Computed.{behind}
use Rattle.mx_stack.proofs.values.tuple.Goals as goal

pub returns-clause-came : goal.returns-clause-came
returns-clause-came c =
    let s : State = c.args.stack.now.top in
    let t : State = c.pop_values.new.stack.top in
    IfSome_then (done c.leave_made.result) c.leave_made.ensures.came
    (λ r k h line.
    c.in-Ok.ensures.taken (λ vs rest. computed_next h (made (Tup vs)) line (behind s rest))
    ∙ ap (λ (f : Flight). computed_next h (made (Tup c.in-Ok.values)) line (behind f.top t.stack)) (sym c.in-Ok.ensures.rest)
    ∙ ap (λ (a : Answer). computed_next h a line (behind t t.stack)) (sym c.make_tuple.ensures)
    ∙ k h line)
