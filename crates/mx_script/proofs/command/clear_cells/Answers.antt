use Rattle.std.proofs.Common.{◌≡◌, ◌+◌, ◌∙◌, ap}
use Rattle.mx_script.specs.Commands.{newline_of, cells_at}
use Rattle.mx_words.specs.declared.command.FormRefusal.TheVariants as form
use Rattle.mx_words.proofs.PartAnswers.{failed}
use Rattle.mx_script.proofs.Sequels.{stops, goes_on}
use Rattle.mx_script.proofs.command.clear_cells.Goals as goal

pub returns-in-Ok : goal.returns-in-Ok
returns-in-Ok c = λ ne. goes_on c.in-Ok.address c.cells_at.result (c.in-Ok.ensures (λ e. absurd cc)) (c.cells_at.ensures ne ∙ ap (cells_at (c.args.lead + newline_of c.args.text.now)) c.as_slice.ensures)

pub returns-in-Err : goal.returns-in-Err
returns-in-Err c = λ ne. stops c.in-Err.refusal (c.in-Err.ensures (λ e. ne (let same : c.in-Err.refusal ≡ form.NoMemory = cc in ap failed same)))
