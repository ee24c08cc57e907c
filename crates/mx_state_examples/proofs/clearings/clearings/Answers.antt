use Rattle.mx_state_examples.proofs.Cleared.{asked_is_cleared, asker_is_cleared, item_is_cleared, cells_are_cleared, cells_outside_are_cleared, space_is_cleared}
use Rattle.mx_state_examples.proofs.clearings.clearings.Goals as goal

pub returns : goal.returns
returns c = record {
  asked = asked_is_cleared;
  asker = asker_is_cleared;
  item = item_is_cleared;
  cells_of_item = cells_are_cleared;
  cells_outside = cells_outside_are_cleared;
  space = space_is_cleared;
}
