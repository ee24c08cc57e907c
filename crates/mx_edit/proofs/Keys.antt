-- `==` on keys says that they are the same.
use Rattle.std.proofs.Common.{◌≡◌, Bool, ◌&&◌, ◌==◌}
use Rattle.std.specs.Bool.{Decides}
use Rattle.std.specs.Cmp.Lexicographic.{pointwise}
use denote.Enum.Compared.{Each}
use Rattle.mx_value.proofs.Enums.{DecidesAt, enum_decides, last_field, more_fields, text_decides}
use Rattle.mx_value.proofs.NodeSames.{path_decides, node_decides}
use Rattle.mx_value.specs.contracts.node.NodePartialEq.TheImpl as node
use Rattle.mx_edit.specs.declared.key.Key.{Key}
use Rattle.mx_edit.specs.declared.key.Key.TheVariants.{Name, Global, Cells, Params, Exists, Input, Table}
use Rattle.mx_edit.specs.contracts.key.Key as key_type
use Rattle.mx_edit.specs.contracts.key.KeyPartialEq.TheImpl as key

abbrev each_key : Each Bool key_type.the_parts
each_key = (
  (λ x y. pointwise (pointwise ◌==◌) x.0 y.0 && pointwise ◌==◌ x.1.0 y.1.0),
  (
    (λ x y. pointwise ◌==◌ x.0 y.0),
    (
      (λ x y. pointwise (pointwise ◌==◌) x.0 y.0 && pointwise ◌==◌ x.1.0 y.1.0),
      (
        (λ x y. pointwise (pointwise ◌==◌) x.0 y.0),
        (
          (λ x y. pointwise (pointwise ◌==◌) x.0 y.0),
          ((λ x y. (node.ghosts).eq x.0 y.0), ((λ x y. pointwise ◌==◌ x.0 y.0), tt)),
        ),
      ),
    ),
  ),
)

key_at : (a : Key) → DecidesAt key_type.the_parts each_key (key_type.as_values a)
key_at (Name path name) = λ y. more_fields _ _ (path, (name, tt)) y (path_decides path y.0) (last_field (name, tt) y.1 (text_decides name y.1.0))
key_at (Global name) = λ y. last_field (name, tt) y (text_decides name y.0)
key_at (Cells path name) = λ y. more_fields _ _ (path, (name, tt)) y (path_decides path y.0) (last_field (name, tt) y.1 (text_decides name y.1.0))
key_at (Params path) = λ y. last_field (path, tt) y (path_decides path y.0)
key_at (Exists path) = λ y. last_field (path, tt) y (path_decides path y.0)
key_at (Input n) = λ y. last_field (n, tt) y (node_decides n y.0)
key_at (Table name) = λ y. last_field (name, tt) y (text_decides name y.0)

pub key_decides : (a b : Key) → Decides ((key.ghosts).eq a b) (a ≡ b)
key_decides a b = enum_decides key_type.enum each_key (key_type.as_values a) (key_at a) a b (key_type.enum.eta a)
