use Rattle.mx_meaning.proofs.Sound.{asked_is_bound, tests_are_covered}
use Rattle.mx_meaning.proofs.Binds.{one_bound_form, bound_is_bound, items_give_spaces}
use Rattle.mx_meaning.proofs.Items.{cells_give_values}
use Rattle.mx_meaning.proofs.Targets.{relative_targets, fixed_targets, model_targets}
use Rattle.mx_meaning.proofs.laws.laws.Goals as goal

pub returns-clause-asked_is_bound : goal.returns-clause-asked_is_bound
returns-clause-asked_is_bound c = asked_is_bound

pub returns-clause-tests_are_covered : goal.returns-clause-tests_are_covered
returns-clause-tests_are_covered c = tests_are_covered

pub returns-clause-one_bound_form : goal.returns-clause-one_bound_form
returns-clause-one_bound_form c = one_bound_form

pub returns-clause-bound_is_bound : goal.returns-clause-bound_is_bound
returns-clause-bound_is_bound c = bound_is_bound

pub returns-clause-items_give_spaces : goal.returns-clause-items_give_spaces
returns-clause-items_give_spaces c = items_give_spaces

pub returns-clause-relative_targets : goal.returns-clause-relative_targets
returns-clause-relative_targets c = relative_targets

pub returns-clause-fixed_targets : goal.returns-clause-fixed_targets
returns-clause-fixed_targets c = fixed_targets

pub returns-clause-model_targets : goal.returns-clause-model_targets
returns-clause-model_targets c = model_targets

pub returns-clause-cells_give_values : goal.returns-clause-cells_give_values
returns-clause-cells_give_values c = cells_give_values
