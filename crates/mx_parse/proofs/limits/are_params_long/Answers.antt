use Rattle.std.proofs.Common.{rules, arith, ◌≡◌, ℕ, Bool, false, List, Some, Result, Ok, subst}
use Rattle.std.proofs.lemmas.Grind.{common_steps}
use Rattle.std.specs.declared.alloc.AllocError.{AllocError}
use Rattle.mx_grammar.specs.Limits.{IsShort}
use Rattle.mx_print.specs.Statements.{print_params}
use Rattle.mx_parse.proofs.limits.are_params_long.Goals as goal

abbrev answered : Bool → Result Bool AllocError
answered b = Ok b

pub returns-clause-short : goal.returns-clause-short
returns-clause-short c =
    let same : c.as_slice.result.now ≡ print_params c.args.params.now = first_of (search rules, grind (arith, common_steps)) in
    subst (λ (text : List ℕ). c.is_long.result ≡ answered false → IsShort (Some text)) same c.is_long.ensures.short
