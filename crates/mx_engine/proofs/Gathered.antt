-- Nodes that are gathered, each once: exactly those that were given.
use Rattle.std.proofs.Common.{◌≡◌, ℕ, ◌+◌, ◌<◌, Bool, true, false, ◌||◌, cond, List, [], ◌∷◌, ◌++◌, ◌⊎◌, inl, inr, refl, sym, ◌∙◌, ap, subst, length, map, drop, get_or, drop-cons, zero, suc, arith}
use Rattle.std.specs.List.{list_any}
use Rattle.indexmap.specs.IndexSet.{insert_key}
use Rattle.mx_value.specs.Equality.{node_eq}
use Rattle.mx_value.specs.declared.node.Node.{Node}
use Rattle.mx_value.proofs.NodeSames.{node_decides}
use Rattle.mx_graph.specs.declared.ids.NodeId.{NodeId}
use Rattle.mx_vertices.specs.Kept.{Kept}
use Rattle.mx_vertices.specs.Places as places
use Rattle.mx_vertices.specs.Reading.{id_at}
use Rattle.mx_runs.specs.Lists.{Has, Distinct}
use Rattle.mx_runs.proofs.Lists.{has_left, has_push, has_push_cases, distinct_push}
use Rattle.mx_memo_laws.specs.Entries.{node_under, nodes_under}
use Rattle.mx_engine.specs.Gathering.{gathered_on}

-- ---- whether a node was seen

seen_by : (n m : Node) (ns : List Node) (b rest : Bool) → node_eq n m ≡ b → (b || rest) ≡ true → (rest ≡ true → Has ns n) → Has (m ∷ ns) n
seen_by n m ns true rest e t f = inl (sym ((node_decides n m).0 e))
seen_by n m ns false rest e t f = inr (f t)

seen : (n : Node) (ns : List Node) → list_any (node_eq n) ns ≡ true → Has ns n
seen n [] t = absurd (let f : false ≡ true = t in cc)
seen n (m ∷ ns) t = seen_by n m ns (node_eq n m) (list_any (node_eq n) ns) refl t (seen n ns)

unseen_by : (n m : Node) (ns : List Node) (b rest : Bool) → node_eq n m ≡ b → (b || rest) ≡ false → (rest ≡ false → Has ns n → ⊥) → Has (m ∷ ns) n → ⊥
unseen_by n m ns true rest e t f h = absurd (let g : true ≡ false = t in cc)
unseen_by n m ns false rest e t f h =
    elim h [ inl is ↦ absurd (let g : true ≡ false = sym ((node_decides n m).1 (sym is)) ∙ e in cc) | inr r ↦ f t r ]

unseen : (n : Node) (ns : List Node) → list_any (node_eq n) ns ≡ false → Has ns n → ⊥
unseen n [] t h = absurd h
unseen n (m ∷ ns) t h = unseen_by n m ns (node_eq n m) (list_any (node_eq n) ns) refl t (unseen n ns) h

-- ---- one more

record Adds (before after : List Node) (n : Node) : Type 0 where
  old : (x : Node) → Has before x → Has after x
  new : Has after n
  only : (x : Node) → Has after x → Has before x ⊎ (n ≡ x)
  once : Distinct before → Distinct after

adds_by : (ns : List Node) (n : Node) (b : Bool) → list_any (node_eq n) ns ≡ b → Adds ns (cond b ns (ns ++ n ∷ [])) n
adds_by ns n true e = record { old = λ x h. h; new = seen n ns e; only = λ x h. inl h; once = λ d. d }
adds_by ns n false e = record {
  old = λ x h. has_left ns (n ∷ []) x h;
  new = has_push ns n;
  only = λ x h. has_push_cases ns n x h;
  once = λ d. distinct_push ns n d (unseen n ns e);
}

adds : (ns : List Node) (n : Node) → Adds ns (insert_key node_eq ns n) n
adds ns n = adds_by ns n (list_any (node_eq n) ns) refl

-- ---- all

pub gathered_has : (ns more : List Node) (x : Node) → Has ns x ⊎ Has more x → Has (gathered_on ns more) x
gathered_has ns [] x h = elim h [ inl a ↦ a | inr b ↦ absurd b ]
gathered_has ns (n ∷ more) x h =
    let a = adds ns n in
    gathered_has (insert_key node_eq ns n) more x
    (elim h [
      | inl b ↦ inl (a.old x b)
      | inr c ↦ elim c [ inl e ↦ inl (subst (λ (y : Node). Has (insert_key node_eq ns n) y) e a.new) | inr d ↦ inr d ]
    ])

pub gathered_only : (ns more : List Node) (x : Node) → Has (gathered_on ns more) x → Has ns x ⊎ Has more x
gathered_only ns [] x h = inl h
gathered_only ns (n ∷ more) x h =
    elim (gathered_only (insert_key node_eq ns n) more x h) [
      | inl b ↦ elim ((adds ns n).only x b) [ inl c ↦ inl c | inr e ↦ inr (inl e) ]
      | inr d ↦ inr (inr d)
    ]

pub gathered_once : (ns more : List Node) → Distinct ns → Distinct (gathered_on ns more)
gathered_once ns [] d = d
gathered_once ns (n ∷ more) d = gathered_once (insert_key node_eq ns n) more ((adds ns n).once d)

-- ---- one after the other

pub at_has : (ids : List NodeId) (k : ℕ) (d : NodeId) → k < length ids → places.Has ids (get_or ids k d)
at_has [] k d l = absurd (omega (arith, l))
at_has (x ∷ ids) zero d l = inl refl
at_has (x ∷ ids) (suc k) d l = inr (at_has ids k d (omega (arith, l)))

pub gathered_next : (held : List Kept) (ids : List NodeId) (i : ℕ) (d : NodeId) (keys new all : List Node) (n : Node) → gathered_on keys (nodes_under held (map id_at (drop i ids))) ≡ all → i < length ids
    → node_under held (get_or ids i d).at ≡ n → new ≡ insert_key node_eq keys n → gathered_on new (nodes_under held (map id_at (drop (i + 1) ids))) ≡ all
gathered_next held ids i d keys new all n e l at is =
    let rest : List NodeId = drop (suc i) ids in
    let next : i + 1 ≡ suc i = omega arith in
    ap (λ (j : ℕ). gathered_on new (nodes_under held (map id_at (drop j ids)))) next
    ∙ ap (λ (ks : List Node). gathered_on ks (nodes_under held (map id_at rest))) (is ∙ ap (λ (m : Node). insert_key node_eq keys m) (sym at))
    ∙ ap (λ (xs : List NodeId). gathered_on keys (nodes_under held (map id_at xs))) (sym (drop-cons ids i d l))
    ∙ e
