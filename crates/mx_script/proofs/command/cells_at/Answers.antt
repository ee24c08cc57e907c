use Rattle.std.proofs.Common.{refl, length, ◌+◌, ◌∙◌, ap}
use Rattle.std.proofs.lemmas.Option.{slice_get_read, slice_get_past}
use Rattle.mx_words.proofs.PartAnswers.{failed}
use Rattle.mx_script.specs.Commands.{newline_of}
use Rattle.mx_script.proofs.Parted.{cells_last, no_last}
use Rattle.mx_script.proofs.command.cells_at.Goals as goal

pub returns-in-Some : goal.returns-in-Some
returns-in-Some c = λ ne. c.cells_by.ensures ne ∙ cells_last (c.args.lead + newline_of c.args.text.now) c.args.address.now c.saturating_sub-last.result (let h = c.saturating_sub-last.ensures in cc) c.in-Some.segment.now (slice_get_read c.args.address.now (length c.args.address.now) c.saturating_sub-last.result c.in-Some.segment.now refl c.in-Some.ensures.lookup.3.0 c.in-Some.ensures.lookup.1)

pub returns-in-None : goal.returns-in-None
returns-in-None c = λ ne. ap failed (c.no_cells.ensures (λ e. ne (ap failed e))) ∙ no_last (c.args.lead + newline_of c.args.text.now) c.args.address.now c.saturating_sub-last.result (let h = c.saturating_sub-last.ensures in cc) (slice_get_past c.args.address.now c.saturating_sub-last.result c.in-None.ensures.lookup.3)
