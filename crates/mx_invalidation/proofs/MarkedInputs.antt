-- How static nodes are marked.
use Rattle.std.proofs.Common.{◌≡◌, ℕ, ◌+◌, ◌<◌, true, List, [], ◌∷◌, ◌++◌, length, take, get_or, Option, refl, sym, ap, subst, ◌⊎◌, inl, inr}
use Rattle.std.specs.Prelude.{◌↔◌, IsSome}
use Rattle.std.specs.FinMap as map
use Rattle.std.proofs.lemmas.List.{take_more}
use Rattle.mx_graph.specs.declared.ids.NodeId.{NodeId}
use Rattle.mx_graph.specs.Relation.{Entry, Reaches}
use Rattle.mx_value.specs.declared.node.Node.{Node as Asked}
use Rattle.mx_vertices.specs.declared.slot.Slot.{Slot}
use Rattle.mx_vertices.specs.Inputs.{is_static}
use Rattle.mx_vertices.specs.Places.{node_place, IsPlacedIn, Has}
use Rattle.mx_vertices.specs.Found.{IsNodeAt}
use Rattle.mx_invalidation.specs.Marked.{IsInputBy, IsInputFrom, AreNodesLive}
use Rattle.mx_vertices.specs.Reading.{id_at}
use Rattle.mx_vertices.proofs.Places.{Nodes}

-- a held node is in the graph, whatever is marked in it
pub nodes_live : (nodes now : Nodes) (slots : List Slot) (order : List (Option NodeId)) → IsPlacedIn node_place nodes slots order → ((q : ℕ) → IsSome (map.get now q) ↔ IsSome (map.get nodes q)) → AreNodesLive now slots
nodes_live nodes now slots order placed live q h e =
    let st = placed.stands q h.place (ap node_place e) in
    (live q).1 (subst (λ k. IsSome (map.get nodes k)) st.is (placed.told h.place st.id st.there).1)

-- where a static node is the one vertex, what reaches it reaches that
pub input_reaches : (slots : List Slot) (edges : List Entry) (n : Asked) (id : NodeId) → ((k : ℕ) → IsNodeAt slots k n ↔ Has (id_at id ∷ []) k) → is_static n ≡ true → (q : ℕ) → IsInputBy slots edges n q ↔ Reaches edges id.at q
input_reaches slots edges n id only own q = (
  λ i. elim ((only i.vertex).0 i.is) [ inl e ↦ subst (λ k. Reaches edges k q) (sym e) i.reaches | inr e ↦ absurd e ],
  λ r. record { vertex = id.at; is = (only id.at).1 (inl refl); own = own; reaches = r },
)

has_either : (xs ys : List Asked) (n : Asked) → Has (xs ++ ys) n → Has xs n ⊎ Has ys n
has_either [] ys n h = inr h
has_either (x ∷ xs) ys n h = elim h [ inl e ↦ inl (inl e) | inr i ↦ elim (has_either xs ys n i) [ inl a ↦ inl (inr a) | inr a ↦ inr a ] ]

has_first : (xs ys : List Asked) (n : Asked) → Has xs n → Has (xs ++ ys) n
has_first [] ys n h = absurd h
has_first (x ∷ xs) ys n h = elim h [ inl e ↦ inl e | inr i ↦ inr (has_first xs ys n i) ]

has_last : (xs : List Asked) (n : Asked) → Has (xs ++ n ∷ []) n
has_last [] n = inl refl
has_last (x ∷ xs) n = inr (has_last xs n)

-- one node more
pub more_inputs : (slots : List Slot) (edges : List Entry) (nodes : List Asked) (i : ℕ) (d : Asked) → i < length nodes → (q : ℕ) → IsInputFrom slots edges (take (i + 1) nodes) q ↔ (IsInputFrom slots edges (take i nodes) q ⊎ IsInputBy slots edges (get_or nodes i d) q)
more_inputs slots edges nodes i d l q = (
  λ m. elim (has_either (take i nodes) (get_or nodes i d ∷ []) m.node (subst (λ (xs : List Asked). Has xs m.node) (take_more nodes i d l) m.among)) [
    | inl a ↦ inl (record { node = m.node; among = a; by = m.by })
    | inr a ↦ elim a [ inl e ↦ inr (subst (λ n. IsInputBy slots edges n q) (sym e) m.by) | inr a ↦ absurd a ]
  ],
  λ s. elim s [
    | inl m ↦ record { node = m.node; among = subst (λ (xs : List Asked). Has xs m.node) (sym (take_more nodes i d l)) (has_first (take i nodes) (get_or nodes i d ∷ []) m.node m.among); by = m.by }
    | inr b ↦ record { node = get_or nodes i d; among = subst (λ (xs : List Asked). Has xs (get_or nodes i d)) (sym (take_more nodes i d l)) (has_last (take i nodes) (get_or nodes i d)); by = b }
  ],
)

-- what is marked in two steps
pub both_marked : {A B C F G : Type 0} → A ↔ (B ⊎ F) → B ↔ (C ⊎ G) → {S : Type 0} → S ↔ (G ⊎ F) → A ↔ (C ⊎ S)
both_marked f g s = (
  λ a. elim (f.0 a) [ inl b ↦ elim (g.0 b) [ inl c ↦ inl c | inr d ↦ inr (s.1 (inl d)) ] | inr d ↦ inr (s.1 (inr d)) ],
  λ e. elim e [ inl c ↦ f.1 (inl (g.1 (inl c))) | inr t ↦ elim (s.0 t) [ inl d ↦ f.1 (inl (g.1 (inr d))) | inr d ↦ f.1 (inr d) ] ],
)

-- what is marked, said otherwise
pub reaches_marked : {A B C D : Type 0} → A ↔ (B ⊎ C) → D ↔ C → A ↔ (B ⊎ D)
reaches_marked f d = (λ a. elim (f.0 a) [ inl b ↦ inl b | inr c ↦ inr (d.1 c) ], λ e. elim e [ inl b ↦ f.1 (inl b) | inr x ↦ f.1 (inr (d.0 x)) ])
