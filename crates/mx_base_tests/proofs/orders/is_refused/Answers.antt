use Rattle.mx_c3.proofs.InOrderLemmas.{in_order_sound}
use Rattle.mx_base_tests.proofs.orders.is_refused.Goals as goal

pub linearise-requires-clause-sound : goal.linearise-requires-clause-sound
linearise-requires-clause-sound c = in_order_sound _ (c.is_in_order.ensures.0 cc)
