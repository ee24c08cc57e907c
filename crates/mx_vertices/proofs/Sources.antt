-- What is seen of a node as its sources come.
use Rattle.std.proofs.Common.{◌≡◌, ◌∙◌, ℕ, Bool, true, false, cond, eqb, Option, Some, None, List, [], ◌∷◌, ◌++◌, map as map_list, refl, sym, ap, subst, ◌⊎◌, inl, inr, append_assoc, arith, ◌<◌, ◌+◌, length, zero, suc}
use Rattle.std.proofs.Math.ListN.{get_or, take}
use Rattle.std.proofs.lemmas.List.{take_more, length-append}
use Rattle.std.proofs.lemmas.Bool.{eqb-true}
use Rattle.mx_graph.specs.declared.ids.NodeId.{NodeId}
use Rattle.mx_graph.specs.Relation.{Graph}
use Rattle.mx_edit.specs.declared.key.Key.{Key}
use Rattle.mx_vertices.specs.declared.slot.Slot.{Slot}
use Rattle.mx_vertices.specs.declared.slot.Held.{Held}
use Rattle.mx_vertices.specs.declared.slot.Slot.TheVariants.{Free, Node, Watch}
use Rattle.mx_vertices.specs.Places.{slot_at, node_place, Has}
use Rattle.mx_vertices.specs.Kept.{Kept, Source, looked, source_in, entries, IsWhole, IsKeyAt, with_read}
use Rattle.mx_vertices.specs.Held.{sources_of, with_sources, AreThere, AreNodes, asked_id}
use Rattle.mx_vertices.proofs.Places.{at_below}
use Rattle.mx_vertices.proofs.Touching.{entry_at}
use Rattle.mx_vertices.proofs.Reading.{read_of_node}

pub has_push : {X : Type 0} (xs : List X) (y x : X) → Has (xs ++ y ∷ []) x → Has xs x ⊎ (y ≡ x)
has_push [] y x h = elim h [ inl e ↦ inr e | inr i ↦ absurd i ]
has_push (z ∷ xs) y x h = elim h [ inl e ↦ inl (inl e) | inr i ↦ elim (has_push xs y x i) [ inl j ↦ inl (inr j) | inr e ↦ inr e ] ]

pub has_front : {X : Type 0} (xs ys : List X) (x : X) → Has xs x → Has (xs ++ ys) x
has_front [] ys x h = absurd h
has_front (z ∷ xs) ys x h = elim h [ inl e ↦ inl e | inr i ↦ inr (has_front xs ys x i) ]

pub has_either : {X : Type 0} (xs ys : List X) (x : X) → Has (xs ++ ys) x → Has xs x ⊎ Has ys x
has_either [] ys x h = inr h
has_either (z ∷ xs) ys x h = elim h [ inl e ↦ inl (inl e) | inr i ↦ elim (has_either xs ys x i) [ inl j ↦ inl (inr j) | inr j ↦ inr j ] ]

pub sources_push : (slots : List Slot) (ids more : List NodeId) → sources_of slots (ids ++ more) ≡ sources_of slots ids ++ sources_of slots more
sources_push slots [] more = refl
sources_push slots (id ∷ ids) more = ap (λ rs. source_in id.at (slot_at slots id.at) ∷ rs) (sources_push slots ids more)

-- vertices that stay are the same sources
pub sources_stay : (slots slots2 : List Slot) (ids : List NodeId) → ((id : NodeId) → Has ids id → slot_at slots2 id.at ≡ slot_at slots id.at) → sources_of slots2 ids ≡ sources_of slots ids
sources_stay slots slots2 [] h = refl
sources_stay slots slots2 (id ∷ ids) h =
    ap (λ s. source_in id.at s ∷ sources_of slots2 ids) (h id (inl refl))
    ∙ ap (λ rs. source_in id.at (slot_at slots id.at) ∷ rs) (sources_stay slots slots2 ids (λ j i. h j (inr i)))

pub there_stay : (slots slots2 : List Slot) (ids : List NodeId) → ((q : ℕ) → (slot_at slots q ≡ Free → ⊥) → slot_at slots2 q ≡ slot_at slots q) → AreThere slots ids → AreThere slots2 ids
there_stay slots slots2 ids s h id i f = h id i (sym (s id.at (h id i)) ∙ f)

-- one more key
pub keys_more : (slots slots2 : List Slot) (ids : List NodeId) (id : NodeId) (ks : List Key) (k : Key) → ((q : ℕ) → (slot_at slots q ≡ Free → ⊥) → slot_at slots2 q ≡ slot_at slots q)
    → AreThere slots ids → sources_of slots ids ≡ map_list looked ks → IsKeyAt slots2 id.at k → sources_of slots2 (ids ++ id ∷ []) ≡ map_list looked (ks ++ k ∷ [])
keys_more slots slots2 ids id ks k s there e at =
    sources_push slots2 ids (id ∷ [])
    ∙ ap (λ rs. rs ++ source_in id.at (slot_at slots2 id.at) ∷ []) (sources_stay slots slots2 ids (λ j i. s j.at (there j i)) ∙ e)
    ∙ ap (λ t. map_list looked ks ++ source_in id.at t ∷ []) at.slot
    ∙ ap (λ x. map_list looked ks ++ looked x ∷ []) at.is
    ∙ sym (map_push ks)
  where
    map_push : (ks : List Key) → map_list looked (ks ++ k ∷ []) ≡ map_list looked ks ++ looked k ∷ []
    map_push [] = refl
    map_push (x ∷ xs) = ap (λ rs. looked x ∷ rs) (map_push xs)

pub there_more : (slots slots2 : List Slot) (ids : List NodeId) (id : NodeId) (k : Key) → ((q : ℕ) → (slot_at slots q ≡ Free → ⊥) → slot_at slots2 q ≡ slot_at slots q)
    → AreThere slots ids → IsKeyAt slots2 id.at k → AreThere slots2 (ids ++ id ∷ [])
there_more slots slots2 ids id k s there at j i f =
    elim (has_push ids id j i) [
      | inl h ↦ there_stay slots slots2 ids s there j h f
      | inr e ↦
          let free : slot_at slots2 id.at ≡ Free = ap (λ (x : NodeId). slot_at slots2 x.at) e ∙ f in
          let no : Watch at.watched ≡ Free = sym at.slot ∙ free in
          cc
    ]

-- nodes are asked
pub asked_sources : (slots : List Slot) (ids : List NodeId) → AreNodes slots ids → sources_of slots ids ≡ map_list asked_id ids
asked_sources slots [] h = refl
asked_sources slots (id ∷ ids) h =
    ap (λ r. r ∷ sources_of slots ids) (read_of_node id.at (slot_at slots id.at) (h id (inl refl)))
    ∙ ap (λ rs. asked_id id ∷ rs) (asked_sources slots ids (λ j i. h j (inr i)))

pub append_none : {X : Type 0} (xs : List X) → xs ++ [] ≡ xs
append_none [] = refl
append_none (x ∷ xs) = ap (λ ys. x ∷ ys) (append_none xs)

-- one more source
pub with_more : (id : ℕ) (r : Source) (rs : List Source) (es : List Kept) → map_list (with_read id r) (map_list (with_sources id rs) es) ≡ map_list (with_sources id (rs ++ r ∷ [])) es
with_more id r rs [] = refl
with_more id r rs (k ∷ es) = let a : with_read id r (with_sources id rs k) ≡ with_sources id (rs ++ r ∷ []) k = one k in let b = with_more id r rs es in cc
  where
    one : (k : Kept) → with_read id r (with_sources id rs k) ≡ with_sources id (rs ++ r ∷ []) k
    one k =
        elim (eqb k.id id) as (λ b. eqb k.id id ≡ b → with_read id r (cond b (record k { sources = k.sources ++ rs }) k) ≡ cond b (record k { sources = k.sources ++ (rs ++ r ∷ []) }) k) [
          | true ↦ λ e. ap (λ b. cond b (record k { sources = (k.sources ++ rs) ++ r ∷ [] }) (record k { sources = k.sources ++ rs })) e ∙ ap (λ (xs : List Source). record k { sources = xs }) (append_assoc k.sources rs (r ∷ []))
          | false ↦ λ e. ap (λ b. cond b (record k { sources = k.sources ++ r ∷ [] }) k) e
        ] refl

pub with_none : (id : ℕ) (es : List Kept) → map_list (with_sources id []) es ≡ es
with_none id [] = refl
with_none id (k ∷ es) = let a : with_sources id [] k ≡ k = one (eqb k.id id) in let b = with_none id es in cc
  where
    one : (b : Bool) → cond b (record k { sources = k.sources ++ [] }) k ≡ k
    one true = ap (λ (xs : List Source). record k { sources = xs }) (append_none k.sources)
    one false = refl

-- what is held under other ids stays, and the last one has its sources
pub with_last : (id : ℕ) (rs : List Source) (es : List Kept) (k : Kept) → k.id ≡ id → ((r : Kept) → Has es r → r.id ≡ id → ⊥) → map_list (with_sources id rs) (es ++ k ∷ []) ≡ es ++ record k { sources = k.sources ++ rs } ∷ []
with_last id rs [] k e h =
    let t : eqb k.id id ≡ true = subst (λ n. eqb k.id n ≡ true) e (same k.id) in
    ap (λ b. cond b (record k { sources = k.sources ++ rs }) k ∷ []) t
  where
    same : (n : ℕ) → eqb n n ≡ true
    same n = grind arith
with_last id rs (x ∷ es) k e h =
    let more = with_last id rs es k e (λ r i. h r (inr i)) in
    let a : with_sources id rs x ≡ x
    = elim (eqb x.id id) as (λ b. eqb x.id id ≡ b → cond b (record x { sources = x.sources ++ rs }) x ≡ x) [
      | true ↦ λ t. absurd (h x (inl refl) (eqb-true x.id id t))
      | false ↦ λ t. refl
    ] refl in
    cc

pub has_at : {X : Type 0} (xs : List X) (i : ℕ) (d : X) → i < length xs → Has xs (get_or xs i d)
has_at [] i d l = absurd (omega arith)
has_at (x ∷ xs) zero d l = inl refl
has_at (x ∷ xs) (suc i) d l = inr (has_at xs i d (omega arith))

-- one more of these sources
pub sources_next : (slots : List Slot) (ids : List NodeId) (i : ℕ) (d : NodeId) → i < length ids → sources_of slots (take i ids) ++ source_in (get_or ids i d).at (slot_at slots (get_or ids i d).at) ∷ [] ≡ sources_of slots (take (i + 1) ids)
sources_next slots ids i d l = sym (ap (sources_of slots) (take_more ids i d l) ∙ sources_push slots (take i ids) (get_or ids i d ∷ []))

-- a node that is held last has an id of its own
pub apart_last : (g : Graph) (slots slots2 : List Slot) (order keys : List (Option NodeId)) (w : IsWhole g slots order keys) (id : ℕ) (held : Held) → slot_at slots2 id ≡ Node held → held.place ≡ length order
    → ((q : ℕ) → (slot_at slots q ≡ Free → ⊥) → slot_at slots2 q ≡ slot_at slots q) → (r : Kept) → Has (entries g.edges slots 0 order) r → r.id ≡ id → ⊥
apart_last g slots slots2 order keys w id held node place stays r h e =
    let i = entry_at g.edges slots 0 order r h in
    let t : node_place (slot_at slots i.id.at) ≡ Some i.place = (w.placed.nodes_in.told i.place i.id i.there).0 in
    let l : i.place < length order = at_below order i.place i.id i.there in
    let there : slot_at slots i.id.at ≡ Free → ⊥ = λ f. let n : None ≡ Some i.place = ap node_place (sym f) ∙ t in cc in
    let same : i.id.at ≡ id = ap (λ (r : Kept). r.id) i.is ∙ e in
    let b : Some held.place ≡ Some i.place = ap node_place (sym node) ∙ ap (λ n. node_place (slot_at slots2 n)) (sym same) ∙ ap node_place (stays i.id.at there) ∙ t in
    let p : held.place ≡ i.place = cc in
    omega arith

pub push_length : (xs ys : List Kept) (k : Kept) → ys ≡ xs ++ k ∷ [] → length ys ≡ length xs + 1
push_length xs ys k e = ap length e ∙ length-append xs (k ∷ [])
