use Rattle.std.proofs.Common.{rules, Bool, Result, Ok, refl, ap, inl}
use Rattle.std.specs.declared.alloc.AllocError.{AllocError}
use Rattle.mx_grammar.proofs.Answering.{found_read, text_of_slice, found_refused}
use Rattle.mx_parse.proofs.Languages.{space_parameters}
use Rattle.mx_parse.specs.Formulas.{params_text}
use Rattle.mx_parse.specs.FormulaLimits.{params_limits}
use Rattle.mx_parse.proofs.Limiting.{too_many, too_long, within}
use Rattle.mx_parse.proofs.parse.read_params.Goals as goal

abbrev answered : Bool → Result Bool AllocError
answered b = Ok b

pub refusal-requires : goal.refusal-requires
refusal-requires c = text_of_slice _ _ space_parameters _ _ _ _ _ c.in_ok-source.ensures.opened c.as_slice.ensures c.as_slice-in-Err.ensures _ c.in-Err.ensures

pub returns-in-Err : goal.returns-in-Err
returns-in-Err c = λ memory. inl (found_refused _ _ space_parameters _ _ _ _ _ c.in_ok-source.ensures.opened c.as_slice.ensures c.as_slice-in-Err.ensures _ c.in-Err.ensures _ c.refusal.ensures memory)

pub returns-then-not-maybe_within : goal.returns-then-not-maybe_within
returns-then-not-maybe_within c = λ _. too_many params_text params_limits _ _ (found_read _ _ space_parameters _ _ _ _ c.in_ok-source.ensures.opened c.as_slice.ensures _ c.in-Ok.ensures) (search rules)

pub returns-then-branch : goal.returns-then-branch
returns-then-branch c = λ _. too_long params_text params_limits _ _ (found_read _ _ space_parameters _ _ _ _ c.in_ok-source.ensures.opened c.as_slice.ensures _ c.in-Ok.ensures) (search rules) _ refl (search rules)

pub returns : goal.returns
returns c = λ _. within params_text params_limits _ _ (found_read _ _ space_parameters _ _ _ _ c.in_ok-source.ensures.opened c.as_slice.ensures _ c.in-Ok.ensures) (search rules) _ refl (c.in_ok-are_params_long.ensures.short (ap answered (search rules)))
