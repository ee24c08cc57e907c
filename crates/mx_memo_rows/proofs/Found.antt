-- What `==` finds among nodes.
use Rattle.std.proofs.Common.{◌≡◌, ◌∙◌, Bool, true, false, ◌||◌, List, [], ◌∷◌, refl, sym, ap, ◌⊎◌, inl, inr}
use Rattle.mx_value.specs.Equality.{node_eq}
use Rattle.mx_value.specs.declared.node.Node.{Node}
use Rattle.mx_vertices.specs.Places.{Has}
use Rattle.mx_vertices.proofs.Table.{NodeLaws}
use Rattle.mx_memo_rows.specs.Edited.{has_node}

pub found_has : NodeLaws → (nodes : List Node) (n : Node) → has_node nodes n ≡ true → Has nodes n
found_has laws [] n e = cc
found_has laws (m ∷ nodes) n e =
    elim (node_eq m n) as (λ b. node_eq m n ≡ b → (b || has_node nodes n) ≡ true → Has (m ∷ nodes) n) [
      | true ↦ λ t e. inl ((laws m n).0 t)
      | false ↦ λ t e. inr (found_has laws nodes n e)
    ] refl e

pub has_found : NodeLaws → (nodes : List Node) (n : Node) → Has nodes n → has_node nodes n ≡ true
has_found laws [] n h = absurd h
has_found laws (m ∷ nodes) n h =
    elim (node_eq m n) as (λ b. node_eq m n ≡ b → (b || has_node nodes n) ≡ true) [
      | true ↦ λ t. refl
      | false ↦ λ t. elim h [
        | inl s ↦ let no : false ≡ true = sym t ∙ (laws m n).1 s in cc
        | inr i ↦ has_found laws nodes n i
      ]
    ] refl
