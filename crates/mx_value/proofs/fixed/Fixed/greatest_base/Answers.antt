use Rattle.std.proofs.Common.{arith, sym, ◌∙◌}
use Rattle.mx_value.proofs.PowerLaws.{halves-begin, halves-lower}
use Rattle.mx_value.proofs.fixed.Fixed.greatest_base.Goals as goal

pub halving-init : goal.halving-init
halving-init c =
    halves-begin c.args.self c.self.inside.raw c.max.result c.args.n c.self.view_is c.self.invariant c.requires.not_negative c.requires.exponent c.max.ensures.value

pub halving-preserved : goal.halving-preserved
halving-preserved c =
    halves-lower c.args.self c.args.n c.halving.low c.halving.high _ c.halving.invariant (omega arith) (omega arith) (sym c.is_power_within.ensures ∙ c.if-is_power_within.false)
