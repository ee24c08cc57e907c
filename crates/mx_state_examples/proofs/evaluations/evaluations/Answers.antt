use Rattle.mx_state_examples.proofs.Products.{items_are_evaluated}
use Rattle.mx_state_examples.proofs.Choice.{choice_is_evaluated, choice_has_precedents}
use Rattle.mx_state_examples.proofs.Inherited.{taken_over_is_evaluated, taken_over_has_precedents}
use Rattle.mx_state_examples.proofs.Fixed.{fixed_target_is_evaluated}
use Rattle.mx_state_examples.proofs.Failing.{fault_is_evaluated, ring_is_evaluated, mended_is_evaluated}
use Rattle.mx_state_examples.proofs.ItemRing.{item_ring_is_evaluated}
use Rattle.mx_state_examples.proofs.Deep.{asked_is_too_deep, no_value_so_deep, two_are_not_too_deep, held_is_not_too_deep}
use Rattle.mx_state_examples.proofs.Defaults.{default_is_evaluated}
use Rattle.mx_state_examples.proofs.Putting.{input_is_evaluated}
use Rattle.mx_state_examples.proofs.evaluations.evaluations.Goals as goal

pub returns : goal.returns
returns c = record {
  items = items_are_evaluated;
  choice = choice_is_evaluated;
  choice_precedents = choice_has_precedents;
  taken_over = taken_over_is_evaluated;
  taken_over_precedents = taken_over_has_precedents;
  fixed = fixed_target_is_evaluated;
  fault = fault_is_evaluated;
  ring = ring_is_evaluated;
  mended = mended_is_evaluated;
  item_ring = item_ring_is_evaluated;
  too_deep = asked_is_too_deep;
  no_value_so_deep = no_value_so_deep;
  two_are_not_too_deep = two_are_not_too_deep;
  held_is_not_too_deep = held_is_not_too_deep;
  default_argument = default_is_evaluated;
  input = input_is_evaluated;
}
