use Rattle.std.proofs.Common.{◌∙◌, sym}
use Rattle.mx_model.proofs.SoundLemmas.{valid_sound, valid_orders}
use Rattle.mx_model.proofs.text.ModelText.layers.Goals as goal

pub layered-requires : goal.layered-requires
layered-requires c = valid_sound c.args.self.now c.requires

pub unreachable-requires : goal.unreachable-requires
unreachable-requires c = valid_orders c.args.self.now c.args.path.now c.requires (sym c.in_ok-spaces.ensures ∙ c.in-NoOrder.is)
