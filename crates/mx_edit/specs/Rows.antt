-- What a table holds, and when two are equal.
use Rattle.std.specs.Prelude.{ℕ, ℤ, List, Bool, ◌&&◌, ◌==◌}
use Rattle.std.specs.Ordering.{int_eq}
use Rattle.std.specs.Cmp.{IsEquivalence, and_equiv, on_equiv, nat_eq_equiv, int_eq_equiv}
use Rattle.std.specs.Cmp.Lexicographic.{pointwise, lists_equiv}
use Rattle.mx_value.specs.declared.value.Value.{Value}
use Rattle.mx_value.specs.contracts.value.ValuePartialEq.TheImpl as value
use Rattle.mx_value.specs.contracts.value.ValueEq.TheImpl.Laws as value_laws

-- the columns by name, of which the first is that of the keys; the keys; and for each key the values of the other columns
pub record TableRows : Type 0 where
  pub columns : List (List ℕ)
  pub keys : List ℤ
  pub rows : List (List Value)

-- the columns, the keys and the rows are equal, one by one
abbrev pub rows_eq : TableRows → TableRows → Bool
rows_eq a b = pointwise (pointwise ◌==◌) a.columns b.columns && pointwise int_eq a.keys b.keys && pointwise (pointwise (value.ghosts).eq) a.rows b.rows

-- and so it is an equivalence
pub rows_equal : IsEquivalence rows_eq
rows_equal =
    and_equiv (and_equiv (on_equiv (λ (t : TableRows). t.columns) (lists_equiv (lists_equiv nat_eq_equiv))) (on_equiv (λ (t : TableRows). t.keys) (lists_equiv int_eq_equiv)))
    (on_equiv (λ (t : TableRows). t.rows) (lists_equiv (lists_equiv value_laws.laws-law)))
