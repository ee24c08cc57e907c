use Rattle.mx_runs.proofs.Levels.{one_meaning}
use Rattle.mx_runs.proofs.Inputs.{input_is_its_value}
use Rattle.mx_runs.proofs.Agreement.{agreement, keys_support, key_agreement}
use Rattle.mx_runs.proofs.Rings.{one_last_ask, one_ring, ring_is_lost}
use Rattle.mx_runs.proofs.laws.laws.Goals as goal

pub returns : goal.returns
returns c = record {
  one_meaning = one_meaning;
  input_is_its_value = input_is_its_value;
  agreement = agreement;
  keys_support = keys_support;
  key_agreement = key_agreement;
  one_last_ask = one_last_ask;
  one_ring = one_ring;
  ring_is_lost = ring_is_lost;
}
