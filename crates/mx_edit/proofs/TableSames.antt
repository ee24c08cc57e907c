-- `==` on tables says that they are the same.
use Rattle.std.proofs.Common.{◌≡◌, ap}
use Rattle.std.specs.Bool.{Decides}
use Rattle.std.specs.Cmp.{signed_Decides}
use Rattle.std.specs.Cmp.Lexicographic.{pointwise_decides}
use Rattle.mx_value.proofs.Enums.{both_decide, decides_as}
use Rattle.mx_value.proofs.NodeSames.{path_decides, items_decides}
use Rattle.mx_edit.specs.Rows.{TableRows, rows_eq}

abbrev SameRows : TableRows → TableRows → Type 0
SameRows a b = ((a.columns ≡ b.columns) × (a.keys ≡ b.keys)) × (a.rows ≡ b.rows)

pub table_decides : (a b : TableRows) → Decides (rows_eq a b) (a ≡ b)
table_decides a b =
    let there : SameRows a b → a ≡ b = λ p i. record { columns = p.0.0 i; keys = p.0.1 i; rows = p.1 i } in
    let back : a ≡ b → SameRows a b = λ e. ((ap (λ t. t.columns) e, ap (λ t. t.keys) e), ap (λ t. t.rows) e) in
    decides_as there back (both_decide _ _ (both_decide _ _ (path_decides a.columns b.columns) (pointwise_decides signed_Decides a.keys b.keys)) (pointwise_decides items_decides a.rows b.rows))
