use Rattle.std.proofs.Common.{subst}
use Rattle.std.proofs.lemmas.Option.{IfSome_then}
use Rattle.mx_syntax.specs.declared.op.Op.{Op}
use Rattle.mx_ops.specs.Answers.{Answers}
use Rattle.mx_ops.specs.Names.{op_of}
use Rattle.mx_ops.specs.Table.{gives}
use Rattle.mx_stack.specs.Came.{done}
use Rattle.mx_stack.proofs.Computed.{gives_of}
use Rattle.mx_stack.proofs.functions.call_function.Goals as goal

pub returns-clause-came : goal.returns-clause-came
returns-clause-came c =
    let a : Answers c.apply.result (gives (op_of c.args.function) c.args.arguments.now) = subst (λ (o : Op). Answers c.apply.result (gives o c.args.arguments.now)) c.op.ensures c.apply.ensures in
    IfSome_then (done c.leave_given.result) c.leave_given.ensures.came (λ r k h line way back. k h line (gives (op_of c.args.function) c.args.arguments.now) (gives_of c.apply.result (gives (op_of c.args.function) c.args.arguments.now) a))
