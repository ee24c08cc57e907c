-- `==` on the values of references and on what keys lead to says that they are the same.
use Rattle.std.proofs.Common.{◌≡◌, Bool, true, ◌&&◌, ◌==◌, refl}
use Rattle.std.specs.Bool.{Decides, beq}
use Rattle.std.specs.Cmp.{booleans_Decides}
use Rattle.std.specs.Cmp.Lexicographic.{pointwise}
use denote.Enum.Compared.{Each}
use Rattle.mx_value.proofs.Enums.{DecidesAt, enum_decides, last_field, more_fields, text_decides}
use Rattle.mx_value.proofs.NodeSames.{path_decides}
use Rattle.mx_value.proofs.Sames.{value_decides}
use Rattle.mx_value.specs.contracts.value.ValuePartialEq.TheImpl as value
use Rattle.mx_syntax.specs.contracts.stmt.FormulaPartialEq.TheImpl as formula
use Rattle.mx_syntax.specs.contracts.stmt.ParamsPartialEq.TheImpl as params
use Rattle.mx_syntax.proofs.BodySames.{formula_decides, params_decide}
use Rattle.mx_edit.specs.Rows.{rows_eq}
use Rattle.mx_edit.proofs.TableSames.{table_decides}
use Rattle.mx_edit.specs.declared.reference.RefValue.{RefValue}
use Rattle.mx_edit.specs.declared.reference.RefValue.TheVariants as refs
use Rattle.mx_edit.specs.contracts.reference.RefValue as ref_type
use Rattle.mx_edit.specs.contracts.reference.RefValuePartialEq.TheImpl as ref_value
use Rattle.mx_edit.specs.declared.key.KeyResult.{KeyResult}
use Rattle.mx_edit.specs.declared.key.KeyResult.TheVariants as found
use Rattle.mx_edit.specs.contracts.key.KeyResult as result_type
use Rattle.mx_edit.specs.contracts.key.KeyResultPartialEq.TheImpl as key_result

abbrev each_ref : Each Bool ref_type.the_parts
each_ref = (
  (λ x y. (value.ghosts).eq x.0 y.0),
  ((λ x y. pointwise ◌==◌ x.0 y.0), ((λ x y. pointwise (pointwise ◌==◌) x.0 y.0 && beq x.1.0 y.1.0), tt)),
)

ref_at : (a : RefValue) → DecidesAt ref_type.the_parts each_ref (ref_type.as_values a)
ref_at (refs.Plain v) = λ y. last_field (v, tt) y (value_decides v y.0)
ref_at (refs.Table name) = λ y. last_field (name, tt) y (text_decides name y.0)
ref_at (refs.Target path fixed) = λ y. more_fields _ _ (path, (fixed, tt)) y (path_decides path y.0) (last_field (fixed, tt) y.1 (booleans_Decides fixed y.1.0))

pub ref_value_decides : (a b : RefValue) → Decides ((ref_value.ghosts).eq a b) (a ≡ b)
ref_value_decides a b = enum_decides ref_type.enum each_ref (ref_type.as_values a) (ref_at a) a b (ref_type.enum.eta a)

abbrev each_result : Each Bool result_type.the_parts
each_result = (
  (λ x y. true),
  (
    (λ x y. true),
    (
      (λ x y. true),
      (
        (λ x y. (ref_value.ghosts).eq x.0 y.0 && pointwise (pointwise ◌==◌) x.1.0 y.1.0),
        (
          (λ x y. (formula.ghosts).eq x.0 y.0 && beq x.1.0 y.1.0),
          (
            (λ x y. (params.ghosts).eq x.0 y.0),
            ((λ x y. true), ((λ x y. (value.ghosts).eq x.0 y.0), ((λ x y. rows_eq x.0 y.0), tt))),
          ),
        ),
      ),
    ),
  ),
)

result_at : (a : KeyResult) → DecidesAt result_type.the_parts each_result (result_type.as_values a)
result_at found.Missing = λ y. (λ t. refl, λ e. refl)
result_at found.CellsHere = λ y. (λ t. refl, λ e. refl)
result_at found.Child = λ y. (λ t. refl, λ e. refl)
result_at (found.Ref v owner) = λ y. more_fields _ _ (v, (owner, tt)) y (ref_value_decides v y.0) (last_field (owner, tt) y.1 (path_decides owner y.1.0))
result_at (found.Formula f flag) = λ y. more_fields _ _ (f, (flag, tt)) y (formula_decides f y.0) (last_field (flag, tt) y.1 (booleans_Decides flag y.1.0))
result_at (found.Params p) = λ y. last_field (p, tt) y (params_decide p y.0)
result_at found.There = λ y. (λ t. refl, λ e. refl)
result_at (found.Value v) = λ y. last_field (v, tt) y (value_decides v y.0)
result_at (found.Table t) = λ y. last_field (t, tt) y (table_decides t y.0)

pub key_result_decides : (a b : KeyResult) → Decides ((key_result.ghosts).eq a b) (a ≡ b)
key_result_decides a b = enum_decides result_type.enum each_result (result_type.as_values a) (result_at a) a b (result_type.enum.eta a)
