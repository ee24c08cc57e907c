use Rattle.std.proofs.Common.{◌∙◌, ap, ◌-ℤ◌}
use Rattle.mx_value.specs.Fixed.{checked, fixed_sub}
use Rattle.mx_value.proofs.FixedLaws.{difference-back}
use Rattle.mx_value.proofs.fixed.Fixed.sub.Goals as goal

pub returns : goal.returns
unfolding fixed_sub
returns c =
    c.in_range.ensures ∙ ap checked (difference-back c.self.inside.raw c.other.inside.raw c.self.invariant c.other.invariant)
    ∙ (λ i. checked (c.self.view_is i -ℤ c.other.view_is i))
