use Rattle.std.proofs.Common.{List, sym, subst}
use Rattle.mx_value.specs.declared.node.Node.{Node}
use Rattle.mx_vertices.specs.Places.{Has}
use Rattle.mx_memo_rows.proofs.Found.{found_has, has_found}
use Rattle.mx_memo_rows.proofs.edits.EditedKeyTest.changed_inputs.Goals as goal

pub returns : goal.returns
returns c n = (
  λ h. has_found c.node_laws.ensures c.args.self.now.inputs.items n (subst (λ (ns : List Node). Has ns n) c.as_slice.ensures.value h),
  λ e. subst (λ (ns : List Node). Has ns n) (sym c.as_slice.ensures.value) (found_has c.node_laws.ensures c.args.self.now.inputs.items n e),
)
