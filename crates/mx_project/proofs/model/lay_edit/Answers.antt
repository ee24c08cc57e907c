use Rattle.std.proofs.Common.{◌≡◌, ◌+◌, ◌∙◌, ℕ, List, Err, ap}
use Rattle.mx_value.specs.declared.label.Label.{Label}
use Rattle.mx_project.specs.Reading.{Said, LaysLine, IsLaidBy, laid_of, edit_trouble}
use Rattle.mx_project.proofs.ReadLemmas.{handed_on, refused_lay}
use Rattle.mx_project.proofs.model.lay_edit.Goals as goal

pub returns-in-Ok-clause-lays : goal.returns-in-Ok-clause-lays
returns-in-Ok-clause-lays c source other reads = rw c.in-Ok.ensures.made.1 (LaysLine.laid c.args.edit.now other reads c.in-Ok.ensures.made.0)

pub returns-clause-lays : goal.returns-clause-lays
returns-clause-lays c =
    let before = laid_of c.args.laid.now.text c.args.laid.now.tables.items in
    handed_on (λ (answer : Said Label). answer ≡ Err (edit_trouble c.in_ok-name.name (c.args.number + 1) c.in-Err.why)) (IsLaidBy before c.args.number c.args.edit.now) c.edit_trouble.result
    (λ ne is. refused_lay before c.args.number c.args.edit.now c.in-Err.why c.edit_trouble.result c.in-Err.ensures.made ne
    (let same : c.edit_trouble.result ≡ edit_trouble c.in_ok-name.name (c.args.number + 1) c.in-Err.why = cc in same ∙ ap (λ (file : List ℕ). edit_trouble file (c.args.number + 1) c.in-Err.why) c.in_ok-name.ensures))
    c.edit_trouble.ensures
