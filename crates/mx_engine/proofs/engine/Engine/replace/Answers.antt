use Rattle.std.proofs.Common.{List, [], ◌∙◌, ap}
use Rattle.mx_vertices.specs.Kept.{Kept}
use Rattle.mx_memo_laws.specs.Entries.{entries_of}
use Rattle.mx_state.specs.State.{State}
use Rattle.mx_engine.proofs.Emptied.{all_dropped}
use Rattle.mx_engine.proofs.Kept.{sound_empty}
use Rattle.mx_engine.proofs.Proper.{proper_empty, small_text}
use Rattle.mx_engine.proofs.engine.Engine.replace.Goals as goal

pub invariant_of-self : goal.invariant_of-self
invariant_of-self c =
    let none = all_dropped c.self.inside.memo.held c.clear_all.new.memo.held c.clear_all.ensures.drops in
    record {
      sound =
          sound_empty c.laws.ensures.begins_right c.args.world c.clear_all.new.memo c.self.inside.limit c.text.ensures.valid c.self.invariant.sound.right.limit
          none (c.clear_all.ensures.begun ∙ c.self.invariant.sound.kept.idle);
      proper = proper_empty c.args.world c.clear_all.new.memo c.self.inside.limit none (small_text c.args.world c.text.result.now c.text.ensures.exact c.requires c.table_limits.ensures);
    }

pub returns : goal.returns
returns c =
    let none = all_dropped c.self.inside.memo.held c.clear_all.new.memo.held c.clear_all.ensures.drops in
    ap (λ (held : List Kept). record { text = c.args.world; held = entries_of held; limit = c.self.inside.limit }) none
    ∙ ap (λ (s : State). record { text = c.args.world; held = []; limit = s.limit }) c.self.view_is
