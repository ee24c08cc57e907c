use Rattle.std.proofs.Common.{sym, ◌∙◌, ap}
use Rattle.mx_value.specs.Normal.{normal_of}
use Rattle.mx_value.specs.declared.value.Value.TheVariants as made
use Rattle.mx_value.proofs.Normals.{normal-Tup, normal-Fix, normal-others}
use Rattle.mx_value.proofs.normal.+normal.Goals as goal

pub normal_value-returns-in-Fix : goal.normal_value-returns-in-Fix
normal_value-returns-in-Fix t c = c.number.ensures ∙ sym (normal-Fix c.in-Fix.x) ∙ sym (ap normal_of c.in-Fix.is)

pub normal_value-returns-in-Tup : goal.normal_value-returns-in-Tup
normal_value-returns-in-Tup t c = ap made.Tup c.normal.ensures ∙ sym (normal-Tup c.in-Tup.items) ∙ sym (ap normal_of c.in-Tup.is)

pub normal_value-returns-in_default : goal.normal_value-returns-in_default
normal_value-returns-in_default t c = sym (normal-others c.args.value c.in_default.not-Fix c.in_default.not-Tup)
