use Rattle.std.proofs.Common.{rules, arith, ◌≡◌, ℕ, Bool, false, List, Some, Result, Ok, subst}
use Rattle.std.proofs.lemmas.Grind.{common_steps}
use Rattle.std.specs.declared.alloc.AllocError.{AllocError}
use Rattle.mx_grammar.specs.Limits.{IsShort}
use Rattle.mx_print.specs.Statements.{print}
use Rattle.mx_parse.proofs.limits.is_formula_long.Goals as goal

abbrev answered : Bool → Result Bool AllocError
answered b = Ok b

pub returns-clause-short : goal.returns-clause-short
returns-clause-short c =
    let same : c.as_slice.result.now ≡ print c.args.formula.now = first_of (search rules, grind (arith, common_steps)) in
    subst (λ (text : List ℕ). c.is_long.result ≡ answered false → IsShort (Some text)) same c.is_long.ensures.short
