-- Entries with their edges.
use Rattle.std.proofs.Common.{◌≡◌, ◌∙◌, ℕ, ◌+◌, true, false, cond, eqb, suc, zero, List, [], ◌∷◌, Option, Some, None, Bool, ◌++◌, refl, sym, ap, subst, arith, ◌⊎◌, inl, inr}
use Rattle.std.proofs.lemmas.Bool.{eqb-true, eqb-false}
use Rattle.mx_graph.specs.declared.ids.NodeId.{NodeId}
use Rattle.mx_graph.specs.Relation.{Entry}
use Rattle.mx_edit.specs.declared.key.Key.{Key}
use Rattle.mx_edit.specs.declared.key.Key.TheVariants.{Input}
use Rattle.mx_value.specs.declared.node.Node.{Node as Asked}
use Rattle.mx_vertices.specs.declared.slot.Slot.{Slot}
use Rattle.mx_vertices.specs.declared.slot.Watched.{Watched}
use Rattle.mx_vertices.specs.declared.slot.Slot.TheVariants.{Free, Node, Watch}
use Rattle.mx_vertices.specs.Inputs.{is_static}
use Rattle.mx_vertices.specs.Places.{slot_at, at, Has}
use Rattle.mx_vertices.specs.Kept.{Kept, Source, looked, asked, own_key, sources_at, source_in, kept, entries}
use Rattle.mx_vertices.specs.Reading.{ReadsBy}
use Rattle.mx_vertices.proofs.Places.{at_below}

pub read_edge : (slots : List Slot) (q : ℕ) (es : List Entry) (r : Source) → Has (sources_at slots q es) r → ReadsBy slots es q r
read_edge slots q [] r h = absurd h
read_edge slots q (e ∷ es) r h =
    elim (eqb e.reader.at q) as (λ b. eqb e.reader.at q ≡ b → Has (cond b (source_in e.read.at (slot_at slots e.read.at) ∷ sources_at slots q es) (sources_at slots q es)) r → ReadsBy slots (e ∷ es) q r) [
      | true ↦ λ t h. elim h [
        | inl i ↦ record { edge = e; among = inl refl; reader = eqb-true e.reader.at q t; is = i }
        | inr i ↦ let f = read_edge slots q es r i in record { edge = f.edge; among = inr f.among; reader = f.reader; is = f.is }
      ]
      | false ↦ λ t h. let f = read_edge slots q es r h in record { edge = f.edge; among = inr f.among; reader = f.reader; is = f.is }
    ] refl h

pub edge_read : (slots : List Slot) (q : ℕ) (es : List Entry) (e : Entry) → Has es e → e.reader.at ≡ q → Has (sources_at slots q es) (source_in e.read.at (slot_at slots e.read.at))
edge_read slots q [] e h s = absurd h
edge_read slots q (x ∷ es) e h s =
    elim (eqb x.reader.at q) as (λ b. eqb x.reader.at q ≡ b → Has (cond b (source_in x.read.at (slot_at slots x.read.at) ∷ sources_at slots q es) (sources_at slots q es)) (source_in e.read.at (slot_at slots e.read.at))) [
      | true ↦ λ t. elim h [
        | inl i ↦ inl (ap (λ (y : Entry). source_in y.read.at (slot_at slots y.read.at)) i)
        | inr i ↦ inr (edge_read slots q es e i s)
      ]
      | false ↦ λ t. elim h [
        | inl i ↦ absurd (eqb-false x.reader.at q t (ap (λ (y : Entry). y.reader.at) i ∙ s))
        | inr i ↦ edge_read slots q es e i s
      ]
    ] refl

-- a held node as it is seen
pub record IsEntry (edges : List Entry) (slots : List Slot) (p : ℕ) (list : List (Option NodeId)) (r : Kept) : Type 0 where
  pub id : NodeId
  pub place : ℕ
  pub stamp : ℕ
  pub there : at list place ≡ Some id
  pub is : kept edges slots stamp id ≡ r
  pub stamp_is : stamp ≡ p + place + 1

pub entry_at : (edges : List Entry) (slots : List Slot) (p : ℕ) (list : List (Option NodeId)) (r : Kept) → Has (entries edges slots p list) r → IsEntry edges slots p list r
entry_at edges slots p [] r h = absurd h
entry_at edges slots p (None ∷ list) r h = let f = entry_at edges slots (p + 1) list r h in record { id = f.id; place = suc f.place; stamp = f.stamp; there = f.there; is = f.is; stamp_is = let s = f.stamp_is in omega arith }
entry_at edges slots p (Some id ∷ list) r h =
    elim h [
      | inl e ↦ record { id = id; place = 0; stamp = p + 1; there = refl; is = e; stamp_is = omega arith }
      | inr i ↦ let f = entry_at edges slots (p + 1) list r i in record { id = f.id; place = suc f.place; stamp = f.stamp; there = f.there; is = f.is; stamp_is = let s = f.stamp_is in omega arith }
    ]

pub record HasEntry (edges : List Entry) (slots : List Slot) (held : List Kept) (id : NodeId) (n : ℕ) : Type 0 where
  pub stamp : ℕ
  pub stamp_is : stamp ≡ n
  pub among : Has held (kept edges slots stamp id)

pub at_entry : (edges : List Entry) (slots : List Slot) (p : ℕ) (list : List (Option NodeId)) (k : ℕ) (id : NodeId) → at list k ≡ Some id → HasEntry edges slots (entries edges slots p list) id (p + k + 1)
at_entry edges slots p [] k id h = let b = at_below [] k id h in absurd (omega arith)
at_entry edges slots p (None ∷ list) zero id h = cc
at_entry edges slots p (None ∷ list) (suc k) id h = let f = at_entry edges slots (p + 1) list k id h in record { stamp = f.stamp; stamp_is = let s = f.stamp_is in omega arith; among = f.among }
at_entry edges slots p (Some j ∷ list) zero id h =
    let s : j ≡ id = cc in
    record { stamp = p + 1; stamp_is = omega arith; among = inl (ap (λ (i : NodeId). kept edges slots (p + 1) i) s) }
at_entry edges slots p (Some j ∷ list) (suc k) id h = let f = at_entry edges slots (p + 1) list k id h in record { stamp = f.stamp; stamp_is = let s = f.stamp_is in omega arith; among = inr f.among }

-- what is read as a key is a key
pub key_read : (q : ℕ) (s : Slot) (k : Key) → source_in q s ≡ looked k → (w : Watched) × (s ≡ Watch w) × (w.key ≡ k)
key_read q Free k e = cc
key_read q (Node h) k e = cc
key_read q (Watch w) k e = (w, refl, let s : w.key ≡ k = cc in s)

pub node_read : (q : ℕ) (s : Slot) (m : ℕ) → source_in q s ≡ asked m → q ≡ m
node_read q Free m e = cc
node_read q (Node h) m e = cc
node_read q (Watch w) m e = cc

-- what is behind is there
pub has_behind : {X : Type 0} (xs ys : List X) (x : X) → Has ys x → Has (xs ++ ys) x
has_behind [] ys x h = h
has_behind (y ∷ xs) ys x h = inr (has_behind xs ys x h)

-- what a node asked is not the key of its own input
pub asked_behind : (n : Asked) (rs : List Source) (m : ℕ) → Has (own_key n ++ rs) (asked m) → Has rs (asked m)
unfolding own_key
asked_behind n rs m = by (is_static n)
  where
    by : (b : Bool) → Has (cond b (looked (Input n) ∷ []) [] ++ rs) (asked m) → Has rs (asked m)
    by true h = elim h [ inl e ↦ cc | inr i ↦ i ]
    by false h = h

-- a key that a node looked up is that of its own input, or one behind it
pub looked_either : (n : Asked) (rs : List Source) (k : Key) → Has (own_key n ++ rs) (looked k) → ((is_static n ≡ true) × (Input n ≡ k)) ⊎ Has rs (looked k)
unfolding own_key
looked_either n rs k h = by (is_static n) refl h
  where
    by : (b : Bool) → is_static n ≡ b → Has (cond b (looked (Input n) ∷ []) [] ++ rs) (looked k) → ((is_static n ≡ true) × (Input n ≡ k)) ⊎ Has rs (looked k)
    by true t h = elim h [ inl e ↦ let same : Input n ≡ k = cc in inl (t, same) | inr i ↦ inr i ]
    by false t h = inr h

-- a static node looks up the key of its own input
pub own_looked : (n : Asked) (rs : List Source) → is_static n ≡ true → Has (own_key n ++ rs) (looked (Input n))
unfolding own_key
own_looked n rs t = subst (λ b. Has (cond b (looked (Input n) ∷ []) [] ++ rs) (looked (Input n))) (sym t) (inl refl)
