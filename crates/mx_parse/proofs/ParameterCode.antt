-- The steps of the code of parameter lists.
use Rattle.std.proofs.Common.{ℕ, Bool, true, false, List, Some, None}
use Rattle.mx_value.specs.declared.value.Value.{Value}
use Rattle.mx_syntax.specs.declared.stmt.Param.{Param}
use Rattle.mx_grammar.specs.declared.word.Symbol.TheVariants as symbol
use Rattle.mx_grammar.specs.Reading.{Parser}
use Rattle.mx_grammar.specs.LiteralParsers.{literal}
use Rattle.mx_grammar.proofs.Loops.{Shrinks}
use Rattle.mx_grammar.proofs.Meets.{accept_shorter}
use Rattle.mx_grammar.proofs.LoopCode.{Within}
use Rattle.mx_grammar.proofs.LiteralRules.{literal_within}
use Rattle.mx_parse.specs.ParameterParsers.{has_default, new_name, param_of, optional, param_rest, param, param_turn}
use Rattle.mx_parse.proofs.StatementLengths.{shorter_within, pure_within, then_within, behind_within, choose_within}
use Rattle.mx_parse.proofs.FollowingCode.{turn_shrinks}

module _ (literals : Parser Value) (w : Within literals) where
  optional_within : (n : List ℕ) → Within (optional literals n)
  unfolding optional
  optional_within n = behind_within symbol.Assign _ (then_within _ _ w (λ v. pure_within (param_of n (Some v))))

  rest_within : (must : Bool) (n : List ℕ) → Within (param_rest literals must n)
  rest_within true n = optional_within n
  rest_within false n = choose_within _ _ _ (optional_within n) (pure_within (param_of n None))

  param_within : (before : List Param) → Within (param literals before)
  unfolding param
  param_within before = then_within _ _ (shorter_within _ (accept_shorter (new_name before))) (rest_within (has_default before))

  pub param_shrinks : Shrinks (param_turn literals)
  param_shrinks = turn_shrinks symbol.CloseRound (param literals) param_within

pub param_shorter : (levels : ℕ) → Shrinks (param_turn (literal levels))
param_shorter levels = param_shrinks (literal levels) (literal_within levels)
