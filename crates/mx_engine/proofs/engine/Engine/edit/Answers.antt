use Rattle.mx_engine.proofs.EditTold.{still_sound, edits_told, dropped_told, same_told}
use Rattle.mx_engine.proofs.Proper.{proper_told}
use Rattle.mx_engine.proofs.engine.Engine.edit.Goals as goal

pub invariant_of-self : goal.invariant_of-self
invariant_of-self c = record {
  sound =
      still_sound c.self.inside.world c.change.new.world c.self.inside.memo c.change.new.memo c.args.edit.now c.self.inside.limit c.self.invariant.sound
      c.change.result c.change.ensures.accepted c.change.ensures.text c.change.ensures.held;
  proper =
      proper_told c.self.inside.world c.change.new.world c.self.inside.memo c.change.new.memo c.args.edit.now c.self.inside.limit c.self.invariant.sound
      c.change.result c.change.ensures.accepted c.change.ensures.text c.change.ensures.held (c.requires.small, c.table_limits.ensures) c.self.invariant.proper;
}

pub returns-clause-accepted : goal.returns-clause-accepted
returns-clause-accepted c =
    edits_told c.self.inside.world c.change.new.world c.self.inside.memo c.change.new.memo c.args.edit.now c.self.inside.limit c.self.invariant.sound c.args.self.now c.self.view_is
    c.change.result c.change.ensures.accepted

pub returns-clause-dropped : goal.returns-clause-dropped
returns-clause-dropped c =
    dropped_told c.self.inside.world c.change.new.world c.self.inside.memo c.change.new.memo c.args.edit.now c.self.inside.limit c.self.invariant.sound c.args.self.now c.self.view_is
    c.change.result c.change.ensures.dropped

pub returns-clause-refused : goal.returns-clause-refused
returns-clause-refused c =
    same_told c.self.inside.world c.change.new.world c.self.inside.memo c.change.new.memo c.args.edit.now c.self.inside.limit c.self.invariant.sound c.args.self.now c.self.view_is
    c.change.result c.change.ensures.text c.change.ensures.held
