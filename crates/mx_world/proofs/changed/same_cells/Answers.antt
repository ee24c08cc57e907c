use Rattle.std.proofs.Common.{◌∙◌, ap}
use Rattle.mx_syntax.specs.declared.stmt.Formula.{Formula}
use Rattle.mx_syntax.specs.Equality.{formula_eq}
use Rattle.mx_world.specs.Bound.{told_cells}
use Rattle.mx_world.proofs.SameLemmas.{same_formulas, other_formulas}
use Rattle.mx_world.proofs.changed.same_cells.Goals as goal

pub returns-then-eq : goal.returns-then-eq
returns-then-eq c =
    let one = c.in-Some-Some.one in
    let other = c.in-Some-Some.other in
    let y = c.formula-in-Some-Some.result.now in
    let r = c.eq.ensures ∙ ap (λ (f : Formula). formula_eq f y) c.formula.ensures ∙ ap (formula_eq one.formula.now) c.formula-in-Some-Some.ensures in
    same_formulas one.formula.now other.formula.now one.allow_none other.allow_none c.eq.result (told_cells c.args.one) (told_cells c.args.other) r c.if-eq.true (ap told_cells c.in-Some-Some.is-0) (ap told_cells c.in-Some-Some.is-1)

pub returns-else-eq : goal.returns-else-eq
returns-else-eq c =
    let one = c.in-Some-Some.one in
    let other = c.in-Some-Some.other in
    let y = c.formula-in-Some-Some.result.now in
    let r = c.eq.ensures ∙ ap (λ (f : Formula). formula_eq f y) c.formula.ensures ∙ ap (formula_eq one.formula.now) c.formula-in-Some-Some.ensures in
    other_formulas one.formula.now other.formula.now one.allow_none other.allow_none c.eq.result (told_cells c.args.one) (told_cells c.args.other) r c.if-eq.false (ap told_cells c.in-Some-Some.is-0) (ap told_cells c.in-Some-Some.is-1)
