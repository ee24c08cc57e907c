use Rattle.std.proofs.Common.{◌≡◌, ◌∙◌, true, false, ℕ, List, Ok, ap, subst, rules}
use Rattle.mx_value.specs.Name.{is_name}
use Rattle.mx_project.specs.Reading.{LaysLine, laid_of, line_at, with_name}
use Rattle.mx_project.proofs.model.name_table.Goals as goal

pub returns-then-not-is_name-clause-names : goal.returns-then-not-is_name-clause-names
returns-then-not-is_name-clause-names c source t same table says =
    let none : is_name c.args.name ≡ false = search rules in
    rw c.in_ok-file.ensures (LaysLine.bad_name t table says (ap is_name same ∙ none))

pub returns-clause-names : goal.returns-clause-names
returns-clause-names c source t same table says =
    let one : is_name c.args.name ≡ true = search rules in
    rw c.in_ok-add_name.ensures
    (subst (λ (name : List ℕ). LaysLine (laid_of c.args.laid.now.text c.args.laid.now.tables.items) (line_at c.args.number source) (Ok (laid_of c.args.laid.now.text (with_name c.args.laid.now.tables.items name)))) same
    (LaysLine.names t table says (ap is_name same ∙ one)))
