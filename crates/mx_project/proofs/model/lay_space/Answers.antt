use Rattle.std.proofs.Common.{◌≡◌, ◌+◌, ◌∙◌, ℕ, List, Err, ap}
use Rattle.mx_value.specs.declared.label.Label.{Label}
use Rattle.mx_project.specs.Reading.{Said, LaysLine, laid_of, form_trouble, line_at}
use Rattle.mx_project.proofs.ReadLemmas.{handed_on, ill_lay}
use Rattle.mx_project.proofs.model.lay_space.Goals as goal

pub returns-in_ok-name-in-Err-clause-lays : goal.returns-in_ok-name-in-Err-clause-lays
returns-in_ok-name-in-Err-clause-lays c =
    let before = laid_of c.args.laid.now.text c.args.laid.now.tables.items in
    handed_on (λ (answer : Said Label). answer ≡ Err (form_trouble c.in_ok-name-in-Err.name (c.args.number + 1) c.in-Err.why)) (LaysLine before (line_at c.args.number c.args.text.now)) c.line_trouble.result
    (λ ne is. ill_lay before c.args.number c.args.text.now c.in-Err.why c.line_trouble.result c.requires.other (λ m. c.in-Err.ensures.found (λ e. m cc)) ne
    (let same : c.line_trouble.result ≡ form_trouble c.in_ok-name-in-Err.name (c.args.number + 1) c.in-Err.why = cc in same ∙ ap (λ (file : List ℕ). form_trouble file (c.args.number + 1) c.in-Err.why) c.in_ok-name-in-Err.ensures))
    c.line_trouble.ensures
