use Rattle.std.proofs.Common.{refl}
use Rattle.mx_commands.specs.Step.{HasLayers}
use Rattle.mx_commands.proofs.settings.order.Goals as goal

pub returns-in-Ok : goal.returns-in-Ok
returns-in-Ok c = HasLayers c.in-Ok.paths.items c.in-Ok.ensures (rw (c.requires, c.deref.ensures.value) at c.in_ok-push_order_block-in-Ok.ensures) refl
