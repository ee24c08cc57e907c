use Rattle.mx_limit_laws.proofs.Operators.{gives_within}
use Rattle.mx_limit_laws.proofs.Nodes.{replies_are_small, bound_is_proper, reached_are_proper}
use Rattle.mx_limit_laws.proofs.Texts.{texts_have_small_results}
use Rattle.mx_limit_laws.proofs.Tables.{tables_are_small, text_tables_are_small}
use Rattle.mx_limit_laws.proofs.Edits.{begins_small, edits_keep_formulas_small, edits_keep_small}
use Rattle.mx_limit_laws.proofs.States.{begins_proper, proper_after_evaluation, proper_after_edit, proper_after_clearing}
use Rattle.mx_limit_laws.proofs.laws.laws.Goals as goal

pub returns : goal.returns
returns c = record {
  operators_stay_within = gives_within;
  replies_are_small = replies_are_small;
  bound_is_proper = bound_is_proper;
  reached_are_proper = reached_are_proper;
  texts_have_small_results = texts_have_small_results;
  tables_are_small = tables_are_small;
  text_tables_are_small = text_tables_are_small;
  begins_small = begins_small;
  edits_keep_formulas_small = edits_keep_formulas_small;
  edits_keep_small = edits_keep_small;
  begins_proper = begins_proper;
  proper_after_evaluation = proper_after_evaluation;
  proper_after_edit = proper_after_edit;
  proper_after_clearing = proper_after_clearing;
}
