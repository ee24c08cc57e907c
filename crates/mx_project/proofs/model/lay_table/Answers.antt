use Rattle.std.proofs.Common.{◌≡◌, ◌+◌, Err}
use Rattle.mx_value.specs.declared.label.Label.{Label}
use Rattle.mx_project.specs.Reading.{Said, LaysLine, laid_of, table_trouble, line_at}
use Rattle.mx_project.proofs.ReadLemmas.{handed_on, ill_table}
use Rattle.mx_project.proofs.model.lay_table.Goals as goal

pub returns-in-Err-clause-lays : goal.returns-in-Err-clause-lays
returns-in-Err-clause-lays c =
    let before = laid_of c.args.laid.now.text c.args.laid.now.tables.items in
    handed_on (λ (answer : Said Label). answer ≡ Err (table_trouble (c.args.number + 1) c.in-Err.why)) (LaysLine before (line_at c.args.number c.args.text.now)) c.table_trouble.result
    (λ ne is. ill_table before c.args.number c.args.text.now c.in-Err.why c.table_trouble.result c.requires.table (λ m. rw (c.spaces.ensures.count, c.strip_spaces.ensures) at (c.in-Err.ensures (λ e. m cc))) ne cc)
    c.table_trouble.ensures
