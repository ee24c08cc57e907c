use Rattle.mx_commands.proofs.Ticks.{tells_value}
use Rattle.mx_commands.proofs.evaluations.evaluate.Goals as goal

pub returns-in-Ok : goal.returns-in-Ok
returns-in-Ok g c =
    tells_value c.laws.ensures.value_ticks _ _ _ _ _ c.in-Ok.ensures.evaluates _ _ _ c.held_count-before.ensures c.held_count.ensures c.saturating_sub-runs.ensures
    _ (rw c.requires.empty at c.in_ok-push_value_block-in-Ok.ensures)
