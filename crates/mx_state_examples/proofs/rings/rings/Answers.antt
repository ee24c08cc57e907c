use Rattle.mx_state_examples.proofs.Circles.{item_asks_itself, cells_ask_each_other, mended_ring}
use Rattle.mx_state_examples.proofs.rings.rings.Goals as goal

pub returns : goal.returns
returns c = record { item_asks_itself = item_asks_itself; cells_ask_each_other = cells_ask_each_other; mended_ring = mended_ring }
