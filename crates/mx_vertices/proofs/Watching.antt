-- The table of the keys as vertices come and go.
use Rattle.std.proofs.Common.{◌≡◌, ◌∙◌, ℕ, true, false, cond, List, Option, Some, None, [], refl, sym, ap, subst, arith, inl, inr}
use Rattle.std.specs.Prelude.{IsSome}
use Rattle.std.specs.FinMap as map
use Rattle.std.proofs.Math.ListN.{set}
use Rattle.std.proofs.lemmas.List.{get_or_past}
use Rattle.mx_graph.specs.declared.ids.NodeId.{NodeId}
use Rattle.mx_edit.specs.declared.key.Key.{Key}
use Rattle.mx_edit.specs.Equality.{key_eq}
use Rattle.mx_vertices.specs.declared.slot.Slot.{Slot}
use Rattle.mx_vertices.specs.declared.slot.Watched.{Watched}
use Rattle.mx_vertices.specs.declared.slot.Slot.TheVariants.{Free, Node, Watch}
use Rattle.mx_vertices.specs.Places.{slot_at, key_place, IsPlacedIn}
use Rattle.mx_vertices.specs.Found.{AreWatched, key_without}
use Rattle.mx_vertices.specs.Kept.{IsKeyAt}
use Rattle.mx_vertices.specs.Live.{AreKeysLive}
use Rattle.mx_vertices.proofs.Places.{Nodes, same_or, slot_freed, slot_free}

abbrev pub KeyLaws : Type 0
KeyLaws = (a b : Key) → (key_eq a b ≡ true → a ≡ b) × (a ≡ b → key_eq a b ≡ true)

-- where the table leads for a key
module _ (look : Key → Option NodeId) (slots : List Slot) (watched : AreWatched look slots) (k : Key) where
  led : (q : ℕ) → IsKeyAt slots q k → (id : NodeId) × (look k ≡ Some id) × (id.at ≡ q)
  led q i = let l = watched q i.watched i.slot in (l.0, ap look (sym i.is) ∙ l.1, l.2)

  pub is_led : look k ≡ None → (q : ℕ) → IsKeyAt slots q k → ⊥
  is_led none q i = let l = led q i in let e : None ≡ Some l.0 = sym none ∙ l.1 in cc

  pub led_at : (id : NodeId) → look k ≡ Some id → (q : ℕ) → IsKeyAt slots q k → id.at ≡ q
  led_at id some q i =
      let l = led q i in
      let e : Some id ≡ Some l.0 = sym some ∙ l.1 in
      let same : id ≡ l.0 = cc in
      ap (λ (j : NodeId). j.at) same ∙ l.2

-- nothing is seen to change
pub watched_same : (look look2 : Key → Option NodeId) (slots slots2 : List Slot) → ((k : Key) → look2 k ≡ look k) → ((q : ℕ) → slot_at slots2 q ≡ slot_at slots q) → AreWatched look slots → AreWatched look2 slots2
watched_same look look2 slots slots2 same slot watched q w e = let l = watched q w (sym (slot q) ∙ e) in (l.0, same w.key ∙ l.1, l.2)

-- a new key is entered
pub watched_put : KeyLaws → (look look2 : Key → Option NodeId) (slots slots2 : List Slot) (id : NodeId) (key : Key) → ((k : Key) → look2 k ≡ cond (key_eq key k) (Some id) (look k)) → IsKeyAt slots2 id.at key
    → ((q : ℕ) → (id.at ≡ q → ⊥) → slot_at slots2 q ≡ slot_at slots q) → ((q : ℕ) → IsKeyAt slots q key → ⊥) → AreWatched look slots → AreWatched look2 slots2
watched_put laws look look2 slots slots2 id key put here others new watched q w e =
    elim (same_or id.at q) [
      | inl s ↦
          let both : Watch here.watched ≡ Watch w = sym here.slot ∙ ap (slot_at slots2) s ∙ e in
          let same : here.watched ≡ w = cc in
          let k : key ≡ w.key = sym here.is ∙ ap (λ (v : Watched). v.key) same in
          (id, put w.key ∙ ap (λ b. cond b (Some id) (look w.key)) ((laws key w.key).1 k), s)
      | inr n ↦
          let old : slot_at slots q ≡ Watch w = sym (others q n) ∙ e in
          let l = watched q w old in (
            l.0,
            put w.key
                ∙ elim (key_eq key w.key) as (λ b. key_eq key w.key ≡ b → cond b (Some id) (look w.key) ≡ look w.key) [
                  | true ↦ λ t. absurd (new q (record { watched = w; slot = old; is = sym ((laws key w.key).0 t) }))
                  | false ↦ λ t. refl
                ] refl
                ∙ l.1,
            l.2,
          )
    ]

-- a vertex leaves
pub watched_turn : KeyLaws → (look look2 : Key → Option NodeId) (slots slots2 : List Slot) (q : ℕ) → ((k : Key) → look2 k ≡ key_without (slot_at slots q) look k) → slots2 ≡ set slots q Free → AreWatched look slots → AreWatched look2 slots2
watched_turn laws look look2 slots slots2 q left is watched p w e =
    elim (same_or q p) [
      | inl s ↦ let no : Free ≡ Watch w = sym (slot_free slots q p s) ∙ ap (λ (xs : List Slot). slot_at xs p) (sym is) ∙ e in cc
      | inr n ↦
          let old : slot_at slots p ≡ Watch w = sym (slot_freed slots q p n) ∙ ap (λ (xs : List Slot). slot_at xs p) (sym is) ∙ e in
          let l = watched p w old in
          (l.0, left w.key ∙ by (slot_at slots q) refl p w old n ∙ l.1, l.2)
    ]
  where
    by : (t : Slot) → slot_at slots q ≡ t → (p : ℕ) (w : Watched) → slot_at slots p ≡ Watch w → (q ≡ p → ⊥) → key_without t look w.key ≡ look w.key
    by Free e p w o n = refl
    by (Node h) e p w o n = refl
    by (Watch v) e p w o n =
        elim (key_eq v.key w.key) as (λ b. key_eq v.key w.key ≡ b → cond b None (look w.key) ≡ look w.key) [
          | true ↦ λ t.
              let a = watched q v e in
              let b = watched p w o in
              let both : Some a.0 ≡ Some b.0 = sym a.1 ∙ ap look ((laws v.key w.key).0 t) ∙ b.1 in
              let same : a.0 ≡ b.0 = cc in
              absurd (n (sym a.2 ∙ ap (λ (i : NodeId). i.at) same ∙ b.2))
          | false ↦ λ t. refl
        ] refl

-- a node is held, and keys stay where they are
pub watched_kept : (look : Key → Option NodeId) (nodes nodes2 : Nodes) (slots slots2 : List Slot) (keys : List (Option NodeId)) → IsPlacedIn key_place nodes slots keys → IsPlacedIn key_place nodes2 slots2 keys
    → ((q : ℕ) → (slot_at slots q ≡ Free → ⊥) → slot_at slots2 q ≡ slot_at slots q) → AreWatched look slots → AreWatched look slots2
watched_kept look nodes nodes2 slots slots2 keys placed placed2 stays watched q w e =
    let st = placed2.stands q w.place (ap key_place e) in
    let was : key_place (slot_at slots q) ≡ Some w.place = ap (λ n. key_place (slot_at slots n)) (sym st.is) ∙ (placed.told w.place st.id st.there).0 in
    watched q w (sym (stays q (λ f. let no : None ≡ Some w.place = ap key_place (sym f) ∙ was in cc)) ∙ e)

-- each key with a place is in the graph
pub keys_live : (nodes : Nodes) (slots : List Slot) (keys : List (Option NodeId)) → IsPlacedIn key_place nodes slots keys → AreKeysLive nodes slots
keys_live nodes slots keys placed q w e =
    let st = placed.stands q w.place (ap key_place e) in
    subst (λ n. IsSome (map.get nodes n)) st.is (placed.told w.place st.id st.there).1

-- where nothing is kept there is no key
pub watched_none : (look : Key → Option NodeId) (slots : List Slot) → slots ≡ [] → AreWatched look slots
watched_none look slots none q w e =
    let free : slot_at slots q ≡ Free = ap (λ (xs : List Slot). slot_at xs q) none ∙ get_or_past {X = Slot} [] q Free (omega arith) in
    let no : Free ≡ Watch w = sym free ∙ e in
    cc
