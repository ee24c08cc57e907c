use Rattle.std.proofs.Common.{◌≡◌, ◌∙◌, List, Option, Some, None, ap, refl, sym, subst, arith, []}
use Rattle.std.proofs.lemmas.List.{get_or_past}
use Rattle.mx_graph.specs.declared.ids.NodeId.{NodeId}
use Rattle.mx_vertices.specs.Places.{at, held_in}
use Rattle.std.specs.HashMap.{get as look_up}
use Rattle.std.specs.Map.{lookup}
use Rattle.mx_value.specs.Equality.{node_eq}
use Rattle.mx_vertices.specs.declared.standing.Standing.TheVariants.{Ended}
use Rattle.mx_vertices.specs.Found.{AreBegun, AreDistinct}
use Rattle.mx_vertices.proofs.Begun.{none_begun}
use Rattle.mx_invalidation.proofs.Keeping.{whole_empty}
use Rattle.mx_edit.specs.Equality.{key_eq}
use Rattle.mx_vertices.proofs.Watching.{watched_none}
use Rattle.mx_memo.proofs.memo.Memo.new.Goals as goal

pub invariant_of-result : goal.invariant_of-result
invariant_of-result c = record {
  whole = whole_empty c.in_ok-new.field-0 c.new-2.result.items c.new-3.result.items c.new-4.result.items c.in_ok-new.ensures.empty c.new-2.ensures.items c.new-3.ensures.items c.new-4.ensures.items;
  found = record { nodes = λ p id e. let none : at c.new-3.result.items p ≡ None = ap (λ (xs : List (Option NodeId)). at xs p) c.new-3.ensures.items ∙ get_or_past {X = Option NodeId} [] p None (omega arith) in let no : None ≡ Some id = sym none ∙ e in cc; right = λ n id e. let no : None ≡ Some (Ended id) = sym (ap (lookup (node_eq n)) c.new-5.ensures.empty) ∙ e in cc; keys = watched_none (look_up key_eq c.new-6.result) c.new-2.result.items c.new-2.ensures.items };
  begun = subst (AreBegun (look_up node_eq c.new-5.result)) (sym c.new-7.ensures.items) (none_begun (look_up node_eq c.new-5.result) (λ n. ap (lookup (node_eq n)) c.new-5.ensures.empty));
  begun_once = subst AreDistinct (sym c.new-7.ensures.items) tt;
  counted = subst (λ (xs : List (Option NodeId)). 0 ≡ held_in xs) (sym c.new-3.ensures.items) refl;
  few = omega arith;
}
