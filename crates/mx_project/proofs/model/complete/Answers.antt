use Rattle.std.proofs.Common.{◌≡◌, ◌∙◌, ℕ, List, Ok, Err, ap, subst, rules}
use Rattle.mx_value.specs.declared.label.Label.{Label}
use Rattle.mx_prepare.specs.Completed.{Becomes, Completes as Ends}
use Rattle.mx_project.specs.Reading.{Said, Completes, laid_of, edit_trouble}
use Rattle.mx_project.proofs.ReadLemmas.{handed_on, completed, uncompleted}
use Rattle.mx_project.proofs.model.complete.Goals as goal

pub returns-in-Ok-clause-complete : goal.returns-in-Ok-clause-complete
returns-in-Ok-clause-complete c = completed c.args.laid.text c.args.laid.tables.items c.in-Ok.world (subst (λ (n : ℕ). Becomes c.args.laid.text n (Ok c.in-Ok.world)) (search rules) c.in-Ok.ensures)

pub returns-in-Err-clause-refused : goal.returns-in-Err-clause-refused
returns-in-Err-clause-refused c =
    handed_on (λ (answer : Said Label). answer ≡ Err (edit_trouble c.in_ok-name.name 0 c.in-Err.why)) (Completes (laid_of c.args.laid.text c.args.laid.tables.items)) c.edit_trouble.result
    (λ ne is. uncompleted c.args.laid.text c.args.laid.tables.items c.in-Err.why c.edit_trouble.result (subst (λ (n : ℕ). Ends c.args.laid.text n (Err c.in-Err.why)) (search rules) c.in-Err.ensures) ne
    (let same : c.edit_trouble.result ≡ edit_trouble c.in_ok-name.name 0 c.in-Err.why = cc in same ∙ ap (λ (file : List ℕ). edit_trouble file 0 c.in-Err.why) c.in_ok-name.ensures))
    c.edit_trouble.ensures
