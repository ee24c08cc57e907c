use Rattle.std.proofs.Common.{◌-◌, ap, sym, ◌∙◌, arith}
use Rattle.mx_code.specs.declared.action.Instr.{Instr}
use Rattle.mx_code.specs.Statements.{places_for}
use Rattle.mx_code.proofs.Packing.{places_more}
use Rattle.mx_code.proofs.compile.places.Goals as goal

pub loop-i-preserved : goal.loop-i-preserved
loop-i-preserved c =
    c.max-count.ensures ∙ places_more c.args.code.now c.loop-i.i (c.loop-i.i - 1) c.loop-i.count c.in_ok-needed.needed c.args.scope c.index-code-i.result (omega (arith, c.loop-i-test.true)) c.loop-i.auto.i c.index-code-i.is c.loop-i.invariant (c.in_ok-needed.ensures ∙ ap (λ (i : Instr). places_for i.action) (sym c.index-code-i.is))
