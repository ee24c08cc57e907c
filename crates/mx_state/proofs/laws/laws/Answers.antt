use Rattle.mx_state.proofs.States.{texts_have_runs, one_bound_form, one_is_asked, one_bound_answer, bound_is_bound, value_binds, bound_is_there, held_is_asked, right_after_evaluation, right_after_edit, right_after_clearing, keys_decide, one_answer_of, one_step_of, evaluates_as, value_ticks_of, one_precedents, precedents_as, begins_right, right_with_limit}
use Rattle.mx_state.proofs.Evaluated.{value_is_answered}
use Rattle.mx_state.proofs.Binding.{each_binds_behind, static_comes, cells_bind, item_binds, lost_binds_none, end_binds_none, bound_walks_alike}
use Rattle.mx_state.proofs.laws.laws.Goals as goal

pub returns : goal.returns
returns c = record {
  texts_have_runs = texts_have_runs;
  one_bound_form = one_bound_form;
  one_is_asked = one_is_asked;
  one_bound_answer = one_bound_answer;
  bound_is_bound = bound_is_bound;
  value_binds = value_binds;
  bound_is_there = bound_is_there;
  held_is_asked = held_is_asked;
  each_binds_behind = each_binds_behind;
  static_comes = static_comes;
  cells_bind = cells_bind;
  item_binds = item_binds;
  lost_binds_none = lost_binds_none;
  end_binds_none = end_binds_none;
  bound_walks_alike = bound_walks_alike;
  begins_right = begins_right;
  right_with_limit = right_with_limit;
  right_after_evaluation = right_after_evaluation;
  right_after_edit = right_after_edit;
  right_after_clearing = right_after_clearing;
  keys_decide = keys_decide;
  one_answer = one_answer_of;
  one_step = one_step_of;
  value_is_answered = value_is_answered;
  evaluates_as = evaluates_as;
  value_ticks = value_ticks_of;
  one_precedents = one_precedents;
  precedents_as = precedents_as;
}
