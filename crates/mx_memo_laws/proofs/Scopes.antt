-- The tests of a clearing tell what its scope is.
use Rattle.std.proofs.Common.{◌≡◌, ◌∙◌, ℕ, Bool, true, false, ◌&&◌, List, [], ◌∷◌, ◌++◌, refl, ap}
use Rattle.std.specs.Bool.{Decides}
use Rattle.mx_value.specs.declared.node.Node.{Node}
use Rattle.mx_value.specs.declared.node.Node.TheVariants.{Cell, Item}
use Rattle.mx_value.specs.declared.value.Value.{Value, out-Value}
use Rattle.mx_value.specs.declared.value.CellsAt.{CellsAt}
use Rattle.mx_value.specs.declared.value.Segment.{Segment}
use Rattle.mx_value.specs.declared.value.Segment.TheOpen.{Value-F}
use Rattle.mx_value.specs.Equality.{segment_eq}
use Rattle.mx_value.proofs.Enums.{text_decides}
use Rattle.mx_value.proofs.NodeSames.{addr_decides, node_decides}
use Rattle.mx_value.proofs.Sames.{segment_decides}
use Rattle.mx_edit.specs.declared.scope.Scope.{Scope}
use Rattle.mx_edit.specs.declared.scope.Scope.TheVariants as scope
use Rattle.mx_vertices.specs.Kept.{Kept, IsToGo}
use Rattle.mx_clear.specs.Scope.{is_node_of, begins_with, space_in, is_some_in, is_node_in}
use Rattle.mx_answers.specs.Retention.{BeginsWith, IsSpaceIn, IsInSpace, IsOfCells, IsInScope}
use Rattle.mx_memo_laws.specs.Entries.{entry_of}
use Rattle.mx_memo_laws.specs.Laws.{test_of, Clearing}
use Rattle.mx_memo_laws.proofs.Sifting.{sifted}

-- two tests tell two facts
both_decide : (a b : Bool) (P Q : Type 0) → Decides a P → Decides b Q → Decides (a && b) (P × Q)
both_decide true true P Q p q = (λ t. (p.0 refl, q.0 refl), λ h. refl)
both_decide true false P Q p q = (λ t. cc, λ h. q.1 h.1)
both_decide false b P Q p q = (λ t. cc, λ h. p.1 h.0)

begins_decides : (at a : List Segment) → Decides (begins_with at a) (BeginsWith at a)
begins_decides [] a = (λ t. record { rest = a; is = refl }, λ h. refl)
begins_decides (s ∷ at) [] = (λ t. cc, λ h. let e : [] ≡ s ∷ at ++ h.rest = h.is in cc)
begins_decides (s ∷ at) (t ∷ a) =
    let d : Decides (segment_eq t s && begins_with at a) ((t ≡ s) × BeginsWith at a)
    = both_decide (segment_eq t s) (begins_with at a) (t ≡ s) (BeginsWith at a) (segment_decides t s) (begins_decides at a) in (
      λ e. let p = d.0 e in record { rest = p.1.rest; is = ap (λ x. x ∷ a) p.0 ∙ ap (λ xs. s ∷ xs) p.1.is },
      λ h.
          let e : t ∷ a ≡ s ∷ (at ++ h.rest) = h.is in
          let head : t ≡ s = cc in
          let tail : a ≡ at ++ h.rest = cc in
          d.1 (head, record { rest = h.rest; is = tail }),
    )

space_decides : (at : List Segment) (v : Value-F Segment Value CellsAt) → Decides (is_some_in at (space_in v)) (IsSpaceIn at v)
space_decides at (Value-F.Space a) = begins_decides at a
space_decides at v = (λ t. cc, λ h. absurd h)

in_space_decides : (at : List Segment) (n : Node) (v : Value) → Decides (is_node_in at v n) (IsInSpace at n v)
in_space_decides at (Cell a x arguments) v = begins_decides at a
in_space_decides at (Item a arguments) v = space_decides at (out-Value v)

of_cells_decides : (at : List Segment) (name : List ℕ) (n : Node) → Decides (is_node_of at name n) (IsOfCells at name n)
of_cells_decides at name (Cell a x arguments) = both_decide _ _ (a ≡ at) (x ≡ name) (addr_decides a at) (text_decides x name)
of_cells_decides at name (Item a arguments) = (λ t. cc, λ h. absurd h)

test_decides : (scope : Scope) (held : List Kept) (r : Kept) → Decides (test_of scope r.body) (IsInScope scope (entry_of held r))
test_decides scope.All held r = (λ t. tt, λ h. refl)
test_decides (scope.Space at) held r = in_space_decides at r.body.node r.body.reply.value
test_decides (scope.Cells at name) held r = of_cells_decides at name r.body.node
test_decides (scope.One n) held r = node_decides r.body.node n

pub cleared : Clearing
cleared scope old new o once s last = sifted (IsToGo (test_of scope)) (IsInScope scope) old new o once (λ r h. test_decides scope old.held r) s last
