use Rattle.std.proofs.Common.{◌≡◌, ◌∙◌, ℤ, List, ℕ, Option, Some, FitsSigned, w64, to_z, of_z, to_z-of_z, sym, ap, subst, rules}
use Rattle.std.specs.Prelude.{option_copied}
use Rattle.mx_edit.specs.Table.{entry_at}
use Rattle.mx_ops.specs.Answers.{Answer, Answers}
use Rattle.mx_ops.specs.Builtins.{or_no_index}
use Rattle.mx_ops.specs.Kinds.{bytes_of}
use Rattle.mx_meaning.specs.Calls.{entry, row_key}
use Rattle.mx_walks.proofs.Indexing.{bytes_text}
use Rattle.mx_walks.proofs.tables.entry.Goals as goal

pub returns-in-Text : goal.returns-in-Text
returns-in-Text c =
    let t = c.args.table.now in
    let f : FitsSigned w64 c.in-Some.key = search rules in
    let back : to_z w64 (of_z w64 c.in-Some.key) ≡ c.in-Some.key = simp to_z-of_z in
    let e : entry t (row_key c.args.row.now) (bytes_of c.args.column.now) ≡ or_no_index (option_copied c.at.result) =
    ap (λ (k : Option ℤ). entry t k (bytes_of c.args.column.now)) (sym c.in-Some.ensures)
    ∙ ap (λ (b : Option (List ℕ)). entry t (Some c.in-Some.key) b) (ap bytes_of c.in-Text.is ∙ bytes_text c.in-Text.name)
    ∙ ap (λ (k : ℤ). or_no_index (entry_at t k c.in-Text.name)) (sym back)
    ∙ ap or_no_index (sym c.at.ensures) in
    subst (λ (a : Answer). Answers c.copy_entry.result a) (sym e) c.copy_entry.ensures
