-- From which vertices each marking starts, and which held nodes pass with them.
use Rattle.std.proofs.Common.{◌≡◌, ◌∙◌, ℕ, ◌+◌, ◌<◌, ◌≤◌, Bool, true, false, cond, List, [], ◌∷◌, length, Option, Some, None, refl, ap, sym, subst, arith, ◌⊎◌, inl, inr}
use Rattle.mx_graph.specs.declared.ids.NodeId.{NodeId}
use Rattle.std.proofs.lemmas.Bool.{eq-eqb}
use Rattle.mx_graph.specs.Relation.{Entry, Graph, IsRelation, Reaches, Itself, Through, by_read, first_in}
use Rattle.mx_edit.specs.declared.key.Key.{Key}
use Rattle.mx_edit.specs.declared.key.Key.TheVariants.{Input}
use Rattle.mx_value.specs.declared.node.Node.{Node as Asked}
use Rattle.mx_vertices.specs.declared.slot.Held.{Held}
use Rattle.mx_vertices.specs.Inputs.{is_static, AreChanged}
use Rattle.mx_vertices.specs.Found.{node_at}
use Rattle.mx_vertices.specs.declared.slot.Body.{Body}
use Rattle.mx_vertices.specs.declared.slot.Slot.{Slot}
use Rattle.mx_vertices.specs.declared.slot.Watched.{Watched}
use Rattle.mx_vertices.specs.declared.slot.Slot.TheVariants.{Free, Node, Watch}
use Rattle.mx_vertices.specs.Places.{slot_at, node_place, key_place, at, Has}
use Rattle.mx_invalidation.specs.Marked.{IsChangedKey, IsChangedStart, IsInputFrom, IsMarkedBy, IsMarkedFrom, DoesReach, IsReaching, IsGoing, DoesGo, IsGoingFrom, IsUnreadBy, IsUnreadFrom}
use Rattle.mx_vertices.specs.Live.{AreLive}
use Rattle.mx_vertices.specs.Kept.{Kept, looked, own_key, sources_at, kept, entries, body_of, IsNode, IsWhole, HasChanged, IsToGo}
use Rattle.mx_vertices.proofs.Places.{at_below}
use Rattle.mx_vertices.proofs.Edges.{has_find}
use Rattle.mx_vertices.proofs.Touching.{read_edge, entry_at, key_read, has_behind, looked_either, own_looked}
use Rattle.mx_invalidation.proofs.Settled.{not_both}
use Rattle.mx_invalidation.proofs.Spreading.{Spreads}

-- a vertex that stands in the order is no key
no_key : (slots : List Slot) (q p : ℕ) (w : Watched) → node_place (slot_at slots q) ≡ Some p → slot_at slots q ≡ Watch w → ⊥
no_key slots q p w e k = let none : None ≡ Some p = ap node_place (sym k) ∙ e in cc

module _ (g : Graph) (slots : List Slot) (order keys : List (Option NodeId)) (whole : IsWhole g slots order keys) (relation : IsRelation g) where
  abbrev pub held : List Kept
  held = entries g.edges slots 0 order

  pub all_live : AreLive g.nodes order
  all_live p id e = (whole.placed.nodes_in.told p id e).1

  in_order : (p : ℕ) (id : NodeId) → at order p ≡ Some id → node_place (slot_at slots id.at) ≡ Some p
  in_order p id there = (whole.placed.nodes_in.told p id there).0

  module _ (changed : Key → Bool) where
    key_by : (o : Option NodeId) (q : ℕ) → IsMarkedBy slots changed g.edges o q → Spreads g.edges (IsChangedStart slots changed) q
    key_by None q m = absurd m
    key_by (Some id) q m = record { start = id.at; begins = inl m.0; reaches = m.1 }

    spread_keys : (s q : ℕ) → IsChangedKey slots changed s → Reaches g.edges s q → IsMarkedFrom slots changed keys g.edges (length keys) q
    spread_keys s q b reaches =
        let w = b.watched in
        let st = whole.placed.keys_in.stands s w.place (ap key_place b.slot) in
        let by : IsMarkedBy slots changed g.edges (Some st.id) q
        = (subst (IsChangedKey slots changed) (sym st.is) b, subst (λ k. Reaches g.edges k q) (sym st.is) reaches) in
        record { place = w.place; below = at_below keys w.place st.id st.there; by = subst (λ o. IsMarkedBy slots changed g.edges o q) (sym st.there) by }

    module _ (inputs : List Asked) (are : AreChanged changed inputs) where
      pub changes_spread : (q : ℕ) → IsMarkedFrom slots changed keys g.edges (length keys) q ⊎ IsInputFrom slots g.edges inputs q → Spreads g.edges (IsChangedStart slots changed) q
      changes_spread q m =
          elim m [
            | inl m ↦ key_by (at keys m.place) q m.by
            | inr m ↦
                let n : m.by.is.held.body.node ≡ m.node = m.by.is.is in
                record {
                  start = m.by.vertex;
                  begins = inr (record { held = m.by.is.held; slot = m.by.is.slot; own = ap is_static n ∙ m.by.own; tells = ap (λ (k : Asked). changed (Input k)) n ∙ (are m.node).0 m.among });
                  reaches = m.by.reaches;
                }
          ]

      pub spread_changes : (q : ℕ) → Spreads g.edges (IsChangedStart slots changed) q → IsMarkedFrom slots changed keys g.edges (length keys) q ⊎ IsInputFrom slots g.edges inputs q
      spread_changes q s =
          elim s.begins [
            | inl b ↦ inl (spread_keys s.start q b s.reaches)
            | inr b ↦ inr (record { node = b.held.body.node; among = (are b.held.body.node).1 b.tells; by = record { vertex = s.start; is = record { held = b.held; slot = b.slot; is = refl }; own = b.own; reaches = s.reaches } })
          ]

    -- a held node with a slot
    node_slot : (q p : ℕ) (t : Slot) → slot_at slots q ≡ t → node_place t ≡ Some p → (h : Held) × (slot_at slots q ≡ Node h)
    node_slot q p Free e n = cc
    node_slot q p (Watch w) e n = cc
    node_slot q p (Node h) e n = (h, e)

    pub changed_started : (r : Kept) → Has held r → HasChanged changed r → Spreads g.edges (IsChangedStart slots changed) r.id
    changed_started r h c =
        let i = entry_at g.edges slots 0 order r h in
        elim (looked_either (node_at slots i.id.at) (sources_at slots i.id.at g.edges) c.key (subst (λ (r : Kept). Has r.sources (looked c.key)) (sym i.is) c.among)) [
          | inl own ↦
              let s = node_slot i.id.at i.place (slot_at slots i.id.at) refl (in_order i.place i.id i.there) in
              let n : s.0.body.node ≡ node_at slots i.id.at = ap (λ (s : Slot). (body_of s).node) (sym s.1) in
              record {
                start = i.id.at;
                begins = inr (record { held = s.0; slot = s.1; own = ap is_static n ∙ own.0; tells = ap (λ (m : Asked). changed (Input m)) n ∙ ap changed own.1 ∙ c.tells });
                reaches = subst (λ n. Reaches g.edges i.id.at n) (ap (λ (r : Kept). r.id) i.is) Itself;
              }
          | inr among ↦
              let f = read_edge slots i.id.at g.edges (looked c.key) among in
              let k = key_read f.edge.read.at (slot_at slots f.edge.read.at) c.key f.is in
              record {
                start = f.edge.read.at;
                begins = inl (record { watched = k.0; slot = k.1; tells = ap changed k.2 ∙ c.tells });
                reaches = subst (λ n. Reaches g.edges f.edge.read.at n) (f.reader ∙ ap (λ (r : Kept). r.id) i.is) (Through f.edge.id.at f.edge (has_find g.edges relation.apart f.edge f.among) Itself);
              }
        ]

    pub changed_here : (p : ℕ) (id : NodeId) → at order p ≡ Some id → IsChangedStart slots changed id.at → (stamp : ℕ) → stamp ≡ p + 1 → HasChanged changed (kept g.edges slots stamp id)
    changed_here p id there b stamp e =
        elim b [
          | inl b ↦ absurd (no_key slots id.at p b.watched (in_order p id there) b.slot)
          | inr b ↦
              let n : node_at slots id.at ≡ b.held.body.node = ap (λ (s : Slot). (body_of s).node) b.slot in
              record {
                key = Input (node_at slots id.at);
                among = own_looked (node_at slots id.at) (sources_at slots id.at g.edges) (ap is_static n ∙ b.own);
                tells = ap (λ (m : Asked). changed (Input m)) n ∙ b.tells;
              }
        ]

    pub changed_key : (s : ℕ) (w : Watched) → slot_at slots s ≡ Watch w → IsChangedStart slots changed s → (stamp : ℕ) (id : NodeId) → Has held (kept g.edges slots stamp id) → Has (sources_at slots id.at g.edges) (looked w.key) → HasChanged changed (kept g.edges slots stamp id)
    changed_key s w t b stamp id i h =
        elim b [
          | inl b ↦
              let both : Watch b.watched ≡ Watch w = sym b.slot ∙ t in
              let key : b.watched ≡ w = cc in
              record { key = w.key; among = has_behind (own_key (node_at slots id.at)) (sources_at slots id.at g.edges) (looked w.key) h; tells = ap (λ (v : Watched). changed v.key) (sym key) ∙ b.tells }
          | inr b ↦ let no : Watch w ≡ Node b.held = sym t ∙ b.slot in cc
        ]

  module _ (goes : Body → Bool) where
    go_by : (o : Option NodeId) (q : ℕ) → DoesGo slots goes g.edges o q → Spreads g.edges (IsGoing slots goes) q
    go_by None q m = absurd m
    go_by (Some id) q m = record { start = id.at; begins = m.0; reaches = m.1 }

    pub goes_spread : (q : ℕ) → IsGoingFrom slots goes order g.edges (length order) q → Spreads g.edges (IsGoing slots goes) q
    goes_spread q m = go_by (at order m.place) q m.by

    pub spread_goes : (q : ℕ) → Spreads g.edges (IsGoing slots goes) q → IsGoingFrom slots goes order g.edges (length order) q
    spread_goes q s =
        let h = s.begins.held in
        let st = whole.placed.nodes_in.stands s.start h.place (ap node_place s.begins.slot) in
        let by : DoesGo slots goes g.edges (Some st.id) q
        = (subst (IsGoing slots goes) (sym st.is) s.begins, subst (λ k. Reaches g.edges k q) (sym st.is) s.reaches) in
        record { place = h.place; below = at_below order h.place st.id st.there; by = subst (λ o. DoesGo slots goes g.edges o q) (sym st.there) by }

    going_at : (q p : ℕ) (t : Slot) → slot_at slots q ≡ t → node_place t ≡ Some p → goes (body_of (slot_at slots q)) ≡ true → IsGoing slots goes q
    going_at q p Free e n b = cc
    going_at q p (Watch w) e n b = cc
    going_at q p (Node h) e n b = record { held = h; slot = e; tells = ap (λ (s : Slot). goes (body_of s)) (sym e) ∙ b }

    pub goes_started : (r : Kept) → Has held r → IsToGo goes r → Spreads g.edges (IsGoing slots goes) r.id
    goes_started r h c =
        let i = entry_at g.edges slots 0 order r h in
        let tells : goes (body_of (slot_at slots i.id.at)) ≡ true = ap (λ (r : Kept). goes r.body) i.is ∙ c in
        record {
          start = i.id.at;
          begins = going_at i.id.at i.place (slot_at slots i.id.at) refl (in_order i.place i.id i.there) tells;
          reaches = subst (λ n. Reaches g.edges i.id.at n) (ap (λ (r : Kept). r.id) i.is) Itself;
        }

    pub goes_here : (p : ℕ) (id : NodeId) → at order p ≡ Some id → IsGoing slots goes id.at → (stamp : ℕ) → stamp ≡ p + 1 → IsToGo goes (kept g.edges slots stamp id)
    goes_here p id there b stamp e = ap (λ (t : Slot). goes (body_of t)) b.slot ∙ b.tells

    pub goes_key : (s : ℕ) (w : Watched) → slot_at slots s ≡ Watch w → IsGoing slots goes s → (stamp : ℕ) (id : NodeId) → Has held (kept g.edges slots stamp id) → Has (sources_at slots id.at g.edges) (looked w.key) → IsToGo goes (kept g.edges slots stamp id)
    goes_key s w t b n id i h = absurd (no_key slots s b.held.place w (ap node_place b.slot) t)

  module _ (stamp : ℕ) where
    -- the vertex q stands at the place of the stamp or a later one
    pub record IsLate (q : ℕ) : Type 0 where
      pub place : ℕ
      pub id : NodeId
      pub above : stamp ≤ place
      pub there : at order place ≡ Some id
      pub is : id.at ≡ q

    late_by : (p : ℕ) (o : Option NodeId) (q : ℕ) → stamp ≤ p → at order p ≡ o → DoesReach g.edges o q → Spreads g.edges IsLate q
    late_by p None q l e m = absurd m
    late_by p (Some id) q l e m = record { start = id.at; begins = record { place = p; id = id; above = l; there = e; is = refl }; reaches = m }

    pub late_spread : (q : ℕ) → IsReaching order g.edges stamp (length order) q → Spreads g.edges IsLate q
    late_spread q m = late_by m.place (at order m.place) q m.above refl m.by

    pub spread_late : (q : ℕ) → Spreads g.edges IsLate q → IsReaching order g.edges stamp (length order) q
    spread_late q s =
        let b = s.begins in
        record {
          place = b.place;
          above = b.above;
          below = at_below order b.place b.id b.there;
          by = subst (λ o. DoesReach g.edges o q) (sym b.there) (subst (λ k. Reaches g.edges k q) (sym b.is) s.reaches);
        }

    pub late_started : (r : Kept) → Has held r → stamp < r.stamp → Spreads g.edges IsLate r.id
    late_started r h c =
        let i = entry_at g.edges slots 0 order r h in
        let late : stamp < i.stamp = subst (λ (r : Kept). stamp < r.stamp) (sym i.is) c in
        let n = i.stamp_is in
        record {
          start = i.id.at;
          begins = record { place = i.place; id = i.id; above = omega (arith, late, n); there = i.there; is = refl };
          reaches = subst (λ n. Reaches g.edges i.id.at n) (ap (λ (r : Kept). r.id) i.is) Itself;
        }

    pub late_here : (p : ℕ) (id : NodeId) → at order p ≡ Some id → IsLate id.at → (n : ℕ) → n ≡ p + 1 → stamp < n
    late_here p id there b n e =
        let x : node_place (slot_at slots id.at) ≡ Some p = in_order p id there in
        let y : node_place (slot_at slots id.at) ≡ Some b.place = ap (λ k. node_place (slot_at slots k)) (sym b.is) ∙ in_order b.place b.id b.there in
        let z : p ≡ b.place = cc in
        let l = b.above in
        omega (arith, e, z, l)

    pub late_key : (s : ℕ) (w : Watched) → slot_at slots s ≡ Watch w → IsLate s → (n : ℕ) (id : NodeId) → Has held (kept g.edges slots n id) → Has (sources_at slots id.at g.edges) (looked w.key) → stamp < n
    late_key s w t b n id i h = absurd (no_key slots s b.place w (ap (λ k. node_place (slot_at slots k)) (sym b.is) ∙ in_order b.place b.id b.there) t)

  module _ (from : NodeId) where
    pub one_spread : (q : ℕ) → Reaches g.edges from.at q → Spreads g.edges (λ s. s ≡ from.at) q
    one_spread q m = record { start = from.at; begins = refl; reaches = m }

    pub spread_one : (q : ℕ) → Spreads g.edges (λ s. s ≡ from.at) q → Reaches g.edges from.at q
    spread_one q s = subst (λ k. Reaches g.edges k q) s.begins s.reaches

    pub one_started : (r : Kept) → Has held r → r.id ≡ from.at → Spreads g.edges (λ s. s ≡ from.at) r.id
    one_started r h e = record { start = from.at; begins = refl; reaches = subst (λ n. Reaches g.edges from.at n) (sym e) Itself }

    pub one_here : (p : ℕ) (id : NodeId) → at order p ≡ Some id → id.at ≡ from.at → (stamp : ℕ) → stamp ≡ p + 1 → id.at ≡ from.at
    one_here p id there b stamp e = b

    pub one_key : IsNode (slot_at slots from.at) → (s : ℕ) (w : Watched) → slot_at slots s ≡ Watch w → s ≡ from.at → (stamp : ℕ) (id : NodeId) → Has held (kept g.edges slots stamp id) → Has (sources_at slots id.at g.edges) (looked w.key) → id.at ≡ from.at
    one_key node s w t b n id i h = absurd (subst IsNode (ap (slot_at slots) (sym b) ∙ t) node)

  -- the vertex q is a key that none reads
  pub record IsUnread (q : ℕ) : Type 0 where
    pub place : ℕ
    pub id : NodeId
    pub there : at keys place ≡ Some id
    pub is : id.at ≡ q
    pub unread : first_in (by_read id) g.edges ≡ None

  unread_by : (p : ℕ) (o : Option NodeId) (q : ℕ) → at keys p ≡ o → IsUnreadBy g.edges o q → Spreads g.edges IsUnread q
  unread_by p None q e m = absurd m
  unread_by p (Some id) q e m = record { start = id.at; begins = record { place = p; id = id; there = e; is = refl; unread = m.0 }; reaches = m.1 }

  pub unread_spread : (q : ℕ) → IsUnreadFrom keys g.edges (length keys) q → Spreads g.edges IsUnread q
  unread_spread q m = unread_by m.place (at keys m.place) q refl m.by

  pub spread_unread : (q : ℕ) → Spreads g.edges IsUnread q → IsUnreadFrom keys g.edges (length keys) q
  spread_unread q s =
      let b = s.begins in
      let by : IsUnreadBy g.edges (Some b.id) q = (b.unread, subst (λ k. Reaches g.edges k q) (sym b.is) s.reaches) in
      record { place = b.place; below = at_below keys b.place b.id b.there; by = subst (λ o. IsUnreadBy g.edges o q) (sym b.there) by }

  pub unread_here : (p : ℕ) (id : NodeId) → at order p ≡ Some id → IsUnread id.at → (stamp : ℕ) → stamp ≡ p + 1 → ⊥
  unread_here p id there b stamp e =
      not_both (slot_at slots id.at) p b.place (in_order p id there) (ap (λ k. key_place (slot_at slots k)) (sym b.is) ∙ (whole.placed.keys_in.told b.place b.id b.there).0)

  none_first : (test : Entry → Bool) (es : List Entry) → first_in test es ≡ None → (e : Entry) → Has es e → test e ≡ true → ⊥
  none_first test [] n e h t = h
  none_first test (x ∷ es) n e h t =
      elim (test x) as (λ b. test x ≡ b → cond b (Some x.id) (first_in test es) ≡ None → ⊥) [
        | true ↦ λ y m. cc
        | false ↦ λ y m. elim h [
          | inl s ↦ let no : false ≡ true = sym y ∙ ap test s ∙ t in cc
          | inr i ↦ none_first test es m e i t
        ]
      ] refl n

  pub unread_key : (s : ℕ) (w : Watched) → slot_at slots s ≡ Watch w → IsUnread s → (stamp : ℕ) (id : NodeId) → Has held (kept g.edges slots stamp id) → Has (sources_at slots id.at g.edges) (looked w.key) → ⊥
  unread_key s w t b stamp id h l =
      let f = read_edge slots id.at g.edges (looked w.key) l in
      let k = key_read f.edge.read.at (slot_at slots f.edge.read.at) w.key f.is in
      let same : f.edge.read.at ≡ s = whole.once f.edge.read.at s k.0 w k.1 t k.2 in
      none_first (by_read b.id) g.edges b.unread f.edge f.among (eq-eqb f.edge.read.at b.id.at (same ∙ sym b.is))
