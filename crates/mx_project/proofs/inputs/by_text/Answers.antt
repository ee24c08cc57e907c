use Rattle.std.proofs.Common.{rules}
use Rattle.std.specs.Cmp.Lexicographic.{nat_list_cmp_total}
use Rattle.std.proofs.lemmas.List.Sorted.{ranks_by, answers_always}
use Rattle.mx_project.specs.declared.inputs.InputRow.{InputRow}
use Rattle.mx_project.proofs.ByText.{row_lt, sorted_inputs}
use Rattle.mx_project.proofs.inputs.by_text.Goals as goal

pub returns : goal.returns
returns c inputs is =
    let up = c.in_ok-sort_by.ensures.sorted row_lt (ranks_by nat_list_cmp_total (λ (r : InputRow). r.text)) (answers_always _ _ _ (λ f a r g h. search rules)) in
    sorted_inputs inputs c.args.rows.items c.sort_by.new.self.items is c.in_ok-sort_by.ensures.permutation up
