use Rattle.std.proofs.Common.{◌≡◌, None, ◌∙◌, sym}
use Rattle.mx_model.specs.Rings.{HasNoRing}
use Rattle.mx_whole_edits.proofs.LaidLemmas.{laid_goes_on, laid_ready}
use Rattle.mx_prepare.specs.Completed.{over_with, HasRing, IsOver}
use Rattle.mx_prepare.proofs.CompleteLemmas.{counted, completed}
use Rattle.mx_prepare.proofs.complete.world_of.Goals as goal

pub returns-in-Ok-Some : goal.returns-in-Ok-Some
returns-in-Ok-Some c = HasRing c.in-Ok-Some.ring (rw c.in-Ok-Some.field-0-is at c.in-Ok-Some.ensures)

pub returns-in-Some : goal.returns-in-Some
returns-in-Some c =
    let none : HasNoRing c.args.text = rw c.in-Ok-None.field-0-is at c.in-Ok-None.ensures in
    IsOver c.in-Some.limit none (sym c.over_with.ensures ∙ c.in-Some.is)

pub with_paths-requires-clause-ready : goal.with_paths-requires-clause-ready
with_paths-requires-clause-ready c =
    let none : HasNoRing c.args.text = rw c.in-Ok-None.field-0-is at c.in-Ok-None.ensures in
    laid_ready c.args.text c.requires.laid (counted c.args.text c.args.tables none (sym c.over_with.ensures ∙ c.in-None.is))

pub with_paths-requires-clause-sound : goal.with_paths-requires-clause-sound
with_paths-requires-clause-sound c =
    let none : HasNoRing c.args.text = rw c.in-Ok-None.field-0-is at c.in-Ok-None.ensures in
    (laid_goes_on c.args.text c.requires.laid none).sound

pub returns : goal.returns
returns c =
    let none : HasNoRing c.args.text = rw c.in-Ok-None.field-0-is at c.in-Ok-None.ensures in
    completed c.args.text c.args.tables none (sym c.over_with.ensures ∙ c.in-None.is) c.with_paths.result c.with_paths.ensures
