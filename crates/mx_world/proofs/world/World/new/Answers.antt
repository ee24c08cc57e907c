use Rattle.std.proofs.Common.{List, Err, subst, sym}
use Rattle.mx_model.proofs.SoundLemmas.{valid_sound}
use Rattle.mx_edit.specs.declared.refusal.EditRefusal.TheVariants as refusal
use Rattle.mx_paths.specs.declared.refusal.PathsRefusal.{PathsRefusal}
use Rattle.mx_paths.specs.Table.{Row, Builds, IsTableOf}
use Rattle.mx_paths.specs.Names.{IsNamed}
use Rattle.mx_model.specs.Literals.{HasLiterals}
use Rattle.mx_world.proofs.Beginning.{begins_named, begins_literal}
use Rattle.mx_world.proofs.WorldLemmas.{first_valid, meets_not}
use Rattle.mx_world.proofs.world.World.new.Goals as goal

pub build-requires-clause-sound : goal.build-requires-clause-sound
build-requires-clause-sound c = valid_sound c.in_ok-text.text (first_valid c.in_ok-text.text c.in_ok-text.ensures)

pub of-requires : goal.of-requires
of-requires c = record {
  valid = first_valid c.in_ok-text.text c.in_ok-text.ensures;
  named = subst IsNamed (sym c.in_ok-text.ensures) begins_named;
  literals = subst HasLiterals (sym c.in_ok-text.ensures) begins_literal;
  table = subst (λ (rows : List Row). IsTableOf c.in_ok-text.text rows) (sym c.in_ok-shared-in-Ok.ensures) c.in-Ok.ensures.0;
}

pub unreachable-requires : goal.unreachable-requires
unreachable-requires c =
    let P : PathsRefusal → Type 0 = λ why. Builds c.in_ok-text.text (Err why) in
    meets_not c.in_ok-text.text (refusal.NoOrder c.in-Err-NoOrder.field-0-0) c.in_ok-text.ensures (subst P c.in-Err-NoOrder.field-0-is c.in-Err-NoOrder.ensures)

pub unreachable-requires-in-Err-TooMany : goal.unreachable-requires-in-Err-TooMany
unreachable-requires-in-Err-TooMany c =
    let P : PathsRefusal → Type 0 = λ why. Builds c.in_ok-text.text (Err why) in
    meets_not c.in_ok-text.text (refusal.TooMany c.in-Err-TooMany.field-0-0) c.in_ok-text.ensures (subst P c.in-Err-TooMany.field-0-is c.in-Err-TooMany.ensures)

pub build-requires-clause-named : goal.build-requires-clause-named
build-requires-clause-named c = subst IsNamed (sym c.in_ok-text.ensures) begins_named
