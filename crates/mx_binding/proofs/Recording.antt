-- What is recorded of a run grows as the run goes on, and stays as more is held.
use Rattle.std.proofs.Common.{Bool, true, false, ◌≡◌, ℕ, ◌==◌, if◌then◌else◌, List, [], ◌∷◌, ◌++◌, inl, inr, ◌||◌, map, refl, sym, ◌∙◌, ap, subst, arith}
use Rattle.std.proofs.lemmas.List.{map-append}
use Rattle.std.specs.List.{list_any}
use Rattle.mx_graph.specs.declared.ids.NodeId.{NodeId}
use Rattle.mx_value.specs.declared.node.Node.{Node}
use Rattle.mx_vertices.specs.Kept.{Kept, IsHeld}
use Rattle.mx_vertices.specs.Reading.{id_at}
use Rattle.mx_vertices.specs.Places as places
use Rattle.mx_memo.specs.Memos.{AreHeld}
use Rattle.mx_runs.specs.Lists.{Has}
use Rattle.mx_runs.proofs.Lists.{has_map as map_has}
use Rattle.mx_binding.specs.Records.{with_ask}
use Rattle.mx_suspended.specs.Recorded.{Adds}
use Rattle.mx_memo_laws.specs.Entries.{node_under, nodes_under}
use Rattle.mx_memo_laws.specs.Laws.{HeldOnce}
use Rattle.mx_memo_laws.proofs.Members.{among}
use Rattle.mx_memo_laws.proofs.Nodes.{one_node, under_front}
use Rattle.mx_read_set.specs.Seen.{added}

-- ---- with one more, unless it is there

module _ {X : Type 0} (same : X → X → Bool) (sameness : (a b : X) → (same a b ≡ true → a ≡ b) × (a ≡ b → same a b ≡ true)) where
  any_has : (xs : List X) (x : X) → list_any (λ y. same y x) xs ≡ true → Has xs x
  any_has [] x e = absurd (let f : false ≡ true = e in cc)
  any_has (y ∷ ys) x e = by (any_has ys x) (same y x) refl e
    where
      by : (list_any (λ z. same z x) ys ≡ true → Has ys x) → (b : Bool) → same y x ≡ b → (b || list_any (λ z. same z x) ys) ≡ true → Has (y ∷ ys) x
      by on true h k = inl ((sameness y x).0 h)
      by on false h k = inr (on k)

  has_any : (xs : List X) (x : X) → Has xs x → list_any (λ y. same y x) xs ≡ true
  has_any [] x h = absurd h
  has_any (y ∷ ys) x h = by (has_any ys x) (same y x) refl
    where
      by : (Has ys x → list_any (λ z. same z x) ys ≡ true) → (b : Bool) → same y x ≡ b → (b || list_any (λ z. same z x) ys) ≡ true
      by on true k = refl
      by on false k = elim h [ inl e ↦ absurd (let t : same y x ≡ true = (sameness y x).1 e in cc) | inr i ↦ on i ]

  pub added_adds : (xs : List X) (x : X) → Adds xs x (added same xs x)
  added_adds xs x = by (list_any (λ y. same y x) xs) refl
    where
      by : (b : Bool) → list_any (λ y. same y x) xs ≡ b → Adds xs x (if b then xs else xs ++ x ∷ [])
      by true e = inl (any_has xs x e, refl)
      by false e = inr ((λ h. let t : list_any (λ y. same y x) xs ≡ true = has_any xs x h in cc), refl)

-- ---- the nodes under ids

-- what is held under an id, or is not the first
tail_held : (r : Kept) (held : List Kept) (id : ℕ) → (r.id == id) ≡ false → IsHeld (r ∷ held) id → IsHeld held id
tail_held r held id e h = elim h.among [
  | inl q ↦ absurd (let i : h.entry.id ≡ id = h.is in let j : r.id ≡ h.entry.id = ap (λ (k : Kept). k.id) q in grind (arith, e, i, j))
  | inr i ↦ record { entry = h.entry; among = i; is = h.is }
]

pub all_grown : (held more : List Kept) (ids : List NodeId) → AreHeld held ids → nodes_under (held ++ more) (map id_at ids) ≡ nodes_under held (map id_at ids)
all_grown held more [] h = refl
all_grown held more (id ∷ ids) h =
    ap (λ (n : Node). n ∷ nodes_under (held ++ more) (map id_at ids)) (under_front held more id.at (h id (inl refl)))
    ∙ ap (λ (ns : List Node). node_under held id.at ∷ ns) (all_grown held more ids (λ i k. h i (inr k)))

-- ---- a held node is asked

pub has_map : {X Y : Type 0} (f : X → Y) (xs : List X) (x : X) → places.Has xs x → Has (map f xs) (f x)
has_map f xs x h = map_has f xs x (among xs x h)

abbrev node_of : Kept → Node
node_of r = r.body.node

-- the node under an id is that of a held one with the id
record IsUnder (held : List Kept) (id : ℕ) : Type 0 where
  pub entry : Kept
  pub among : places.Has held entry
  pub id_is : entry.id ≡ id
  pub under : node_under held id ≡ entry.body.node

first_under : (held : List Kept) (id : ℕ) → IsHeld held id → IsUnder held id
first_under [] id h = absurd h.among
first_under (r ∷ held) id h = by (first_under held id) (r.id == id) refl
  where
    by : (IsHeld held id → IsUnder held id) → (b : Bool) → (r.id == id) ≡ b → IsUnder (r ∷ held) id
    by on true e = record {
      entry = r;
      among = inl refl;
      id_is = grind (arith, e);
      under = ap (λ (b : Bool). if b then r.body.node else node_under held id) e;
    }
    by on false e =
        let t : IsUnder held id = on (tail_held r held id e h) in
        record {
          entry = t.entry;
          among = inr t.among;
          id_is = t.id_is;
          under = ap (λ (b : Bool). if b then r.body.node else node_under held id) e ∙ t.under;
        }

-- an id among these, by the test, is that of one of them
id_among : (held : List Kept) (asks : List NodeId) (id : NodeId) → list_any (λ (a : NodeId). a.at == id.at) asks ≡ true → Has (nodes_under held (map id_at asks)) (node_under held id.at)
id_among held [] id e = absurd (let f : false ≡ true = e in cc)
id_among held (a ∷ asks) id e = by (id_among held asks id) (a.at == id.at) refl e
  where
    by : (list_any (λ (x : NodeId). x.at == id.at) asks ≡ true → Has (nodes_under held (map id_at asks)) (node_under held id.at)) → (b : Bool) → (a.at == id.at) ≡ b → (b || list_any (λ (x : NodeId). x.at == id.at) asks) ≡ true → Has (nodes_under held (map id_at (a ∷ asks))) (node_under held id.at)
    by on true h k = inl (let q : a.at ≡ id.at = grind (arith, h) in ap (node_under held) q)
    by on false h k = inr (on k)

-- a node that stands under one of these ids, and is held with this one, makes the test true
node_among : (held : List Kept) → HeldOnce held → (asks : List NodeId) → AreHeld held asks → (id : NodeId) (r : Kept) → places.Has held r → r.id ≡ id.at → Has (nodes_under held (map id_at asks)) (node_of r) → list_any (λ (a : NodeId). a.at == id.at) asks ≡ true
node_among held once [] fit id r i q h = absurd h
node_among held once (a ∷ asks) fit id r i q h = by (node_among held once asks (λ x j. fit x (inr j)) id r i q) (a.at == id.at) refl
  where
    by : (Has (nodes_under held (map id_at asks)) (node_of r) → list_any (λ (x : NodeId). x.at == id.at) asks ≡ true) → (b : Bool) → (a.at == id.at) ≡ b → (b || list_any (λ (x : NodeId). x.at == id.at) asks) ≡ true
    by on true e = refl
    by on false e = elim h [
      | inl k ↦ absurd (
          let t : IsUnder held a.at = first_under held a.at (fit a (inl refl)) in
          let s : t.entry.id ≡ r.id = ap (λ (x : Kept). x.id) (one_node held once t.entry r (among held t.entry t.among) (among held r i) (sym t.under ∙ k)) in
          let u : t.entry.id ≡ a.at = t.id_is in
          grind (arith, e, s, u, q))
      | inr k ↦ on k
    ]

-- a held node that is asked is recorded as asked
pub ask_adds : (held : List Kept) → HeldOnce held → (asks : List NodeId) → AreHeld held asks → (id : NodeId) (r : Kept) → places.Has held r → r.id ≡ id.at → node_under held id.at ≡ node_of r → Adds (nodes_under held (map id_at asks)) (node_of r) (nodes_under held (map id_at (with_ask id asks)))
ask_adds held once asks fit id r i q under = by (list_any (λ (a : NodeId). a.at == id.at) asks) refl
  where
    by : (b : Bool) → list_any (λ (a : NodeId). a.at == id.at) asks ≡ b → Adds (nodes_under held (map id_at asks)) (node_of r) (nodes_under held (map id_at (if b then asks else asks ++ id ∷ [])))
    by true e = inl (subst (λ (n : Node). Has (nodes_under held (map id_at asks)) n) under (id_among held asks id e), refl)
    by false e = inr (
      (λ h. let t : list_any (λ (a : NodeId). a.at == id.at) asks ≡ true = node_among held once asks fit id r i q h in cc),
      ap (nodes_under held) (map-append id_at asks (id ∷ []))
          ∙ map-append (node_under held) (map id_at asks) (id.at ∷ [])
          ∙ ap (λ (n : Node). nodes_under held (map id_at asks) ++ n ∷ []) under,
    )

-- and held are the nodes that are recorded as asked
pub ask_held : (held : List Kept) (asks : List NodeId) (id : NodeId) → AreHeld held asks → IsHeld held id.at → AreHeld held (with_ask id asks)
ask_held held asks id fit h = by (list_any (λ (a : NodeId). a.at == id.at) asks)
  where
    ends : (ids : List NodeId) → AreHeld held ids → AreHeld held (ids ++ id ∷ [])
    ends [] f = λ x i. elim i [ inl q ↦ subst (λ (y : NodeId). IsHeld held y.at) q h | inr j ↦ absurd j ]
    ends (a ∷ ids) f = λ x i. elim i [ inl q ↦ f x (inl q) | inr j ↦ ends ids (λ y k. f y (inr k)) x j ]

    by : (b : Bool) → AreHeld held (if b then asks else asks ++ id ∷ [])
    by true = fit
    by false = ends asks fit
