-- Ids that were held last.
use Rattle.std.proofs.Common.{◌≡◌, List, [], ◌∷◌, ◌++◌, refl, sym, subst, ◌⊎◌, inl, inr}
use Rattle.mx_graph.specs.declared.ids.NodeId.{NodeId}
use Rattle.mx_vertices.specs.Places.{Has}
use Rattle.mx_vertices.specs.Kept.{Kept, IsHeld}
use Rattle.mx_memo.specs.Memos.{Memory, AreHeld, HoldsLast}

pub has_or_last : (xs : List NodeId) (id x : NodeId) → Has (xs ++ id ∷ []) x → Has xs x ⊎ (id ≡ x)
has_or_last [] id x h = elim h [ inl e ↦ inr e | inr n ↦ absurd n ]
has_or_last (y ∷ xs) id x h = elim h [ inl e ↦ inl (inl e) | inr i ↦ elim (has_or_last xs id x i) [ inl a ↦ inl (inr a) | inr a ↦ inr a ] ]

has_first : (xs ys : List Kept) (r : Kept) → Has xs r → Has (xs ++ ys) r
has_first [] ys r h = absurd h
has_first (x ∷ xs) ys r h = elim h [ inl e ↦ inl e | inr i ↦ inr (has_first xs ys r i) ]

has_last : (xs : List Kept) (r : Kept) → Has (xs ++ r ∷ []) r
has_last [] r = inl refl
has_last (x ∷ xs) r = inr (has_last xs r)

-- what was held is held where one more is, and so is that one
pub still_held : (old new : Memory) (k : Kept) (id x : NodeId) (ids : List NodeId) → HoldsLast old new k → k.id ≡ id.at → AreHeld old.held ids → Has ids x ⊎ (id ≡ x) → IsHeld new.held x.at
still_held old new k id x ids last same are h =
    subst (λ (m : Memory). IsHeld m.held x.at) (sym last)
    (elim h [
      | inl a ↦ let r = are x a in record { entry = r.entry; among = has_first old.held (k ∷ []) r.entry r.among; is = r.is }
      | inr e ↦ record { entry = k; among = has_last old.held k; is = subst (λ (i : NodeId). k.id ≡ i.at) e same }
    ])
