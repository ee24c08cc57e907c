use Rattle.mx_model.proofs.SmallModels.{diamond, crossed, derived, hidden, no_base, alone, refusals, ring}
use Rattle.mx_model.proofs.laws.small_models.Goals as goal

pub returns : goal.returns
returns c = record {
  diamond = diamond;
  crossed = crossed;
  derived = derived;
  hidden = hidden;
  no_base = no_base;
  alone = alone;
  refusals = refusals;
  ring = ring;
}
