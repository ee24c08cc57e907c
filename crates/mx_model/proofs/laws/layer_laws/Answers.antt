use Rattle.mx_model.proofs.SoundLemmas.{valid_sound, ringless_sound, children_spaces, layers_spaces, valid_orders}
use Rattle.mx_model.proofs.laws.layer_laws.Goals as goal

pub returns : goal.returns
returns c = record { sound = valid_sound; ringless = ringless_sound; children = children_spaces; layers = layers_spaces; orders = valid_orders }
