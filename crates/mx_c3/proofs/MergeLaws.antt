-- What a merge keeps.
use Rattle.std.proofs.Common.{◌≡◌, ℕ, zero, suc, false, Option, Some, None, Result, Ok, Err, List, [], ◌∷◌, inl, inr, refl, sym, ◌∙◌, ap, subst}
use Rattle.mx_c3.specs.declared.space.SpaceId.{SpaceId}
use Rattle.mx_c3.specs.Lists.{Has, Among, Distinct, Within}
use Rattle.mx_c3.specs.Merge.{tail, heads, stands, in_tail, first_free, next, without, without_all, put, stop, merging, size, merge, IsMerge, each_once}
use Rattle.mx_c3.proofs.ListLemmas.{Same, Other, compared}
use Rattle.mx_c3.proofs.MergeLemmas.{merging_none, merging_some, merge_none, merge_some, next_free, next_head_is, without_none, or_left, or_right}

pub record PutOk (x : SpaceId) (merged : Result (List SpaceId) (List SpaceId)) (order : List SpaceId) : Type 0 where
  pub rest : List SpaceId
  pub was : merged ≡ Ok rest
  pub is : order ≡ x ∷ rest

pub put_ok : (x : SpaceId) (merged : Result (List SpaceId) (List SpaceId)) (order : List SpaceId) → put x merged ≡ Ok order → PutOk x merged order
put_ok x (Ok rest) order e = record { rest = rest; was = refl; is = let i : order ≡ x ∷ rest = cc in i }
put_ok x (Err blocked) order e = absurd (let i : Err blocked ≡ Ok order = e in cc)

stop_ok : (hs order : List SpaceId) → stop hs ≡ Ok order → (hs ≡ []) × (order ≡ [])
stop_ok [] order e = (refl, let i : order ≡ [] = cc in i)
stop_ok (x ∷ xs) order e = absurd (let i : Err (each_once (x ∷ xs)) ≡ Ok order = e in cc)

stopped : (lists : List (List SpaceId)) (order : List SpaceId) → stop (heads lists) ≡ Ok order → IsMerge lists order
stopped lists order e =
    let p = stop_ok (heads lists) order e in
    subst (λ o. IsMerge lists o) (sym p.1) p.0

merging_by : (k : ℕ) (lists : List (List SpaceId)) (order : List SpaceId) → ((rest : List (List SpaceId)) (o : List SpaceId) → merging k rest ≡ Ok o → IsMerge rest o) → (o : Option SpaceId) → next lists ≡ o → merging (suc k) lists ≡ Ok order → IsMerge lists order
merging_by k lists order f None n e = stopped lists order (sym (merging_none (suc k) lists n) ∙ e)
merging_by k lists order f (Some x) n e =
    let p = put_ok x (merging k (without_all x lists)) order (sym (merging_some k lists x n) ∙ e) in
    subst (λ o. IsMerge lists o) (sym p.is) (n, f (without_all x lists) p.rest p.was)

merging_is : (k : ℕ) (lists : List (List SpaceId)) (order : List SpaceId) → merging k lists ≡ Ok order → IsMerge lists order
merging_is zero lists order e = stopped lists order e
merging_is (suc k) lists order e = merging_by k lists order (merging_is k) (next lists) refl e

pub merge_is : (lists : List (List SpaceId)) (order : List SpaceId) → merge lists ≡ Ok order → IsMerge lists order
unfolding merge
merge_is lists order e = merging_is (size lists) lists order e

pub is_merge : (lists : List (List SpaceId)) (order : List SpaceId) → IsMerge lists order → merge lists ≡ Ok order
is_merge lists [] m = merge_none lists (ap (first_free lists) m) ∙ ap stop m
is_merge lists (x ∷ order) m = merge_some lists x m.0 ∙ ap (put x) (is_merge (without_all x lists) order m.1)

heads_empty : (lists : List (List SpaceId)) (xs : List SpaceId) → heads lists ≡ [] → Has lists xs → xs ≡ []
heads_empty [] xs e h = absurd h
heads_empty ([] ∷ lists) xs e h = elim h [ inl i ↦ sym i | inr r ↦ heads_empty lists xs e r ]
heads_empty ((y ∷ ys) ∷ lists) xs e h = absurd (let i : y ∷ heads lists ≡ [] = e in cc)

not_in_tail : (lists : List (List SpaceId)) (xs : List SpaceId) (x : SpaceId) → in_tail lists x ≡ false → Has lists xs → stands (tail xs) x ≡ false
not_in_tail [] xs x e h = absurd h
not_in_tail (ys ∷ lists) xs x e h =
    elim h [
      | inl i ↦ subst (λ zs. stands (tail zs) x ≡ false) i (or_left (stands (tail ys) x) (in_tail lists x) e)
      | inr r ↦ not_in_tail lists xs x (or_right (stands (tail ys) x) (in_tail lists x) e) r
    ]

has_without : (x : SpaceId) (lists : List (List SpaceId)) (xs : List SpaceId) → Has lists xs → Has (without_all x lists) (without x xs)
has_without x [] xs h = absurd h
has_without x (ys ∷ lists) xs h = elim h [ inl i ↦ inl (ap (without x) i) | inr r ↦ inr (has_without x lists xs r) ]

within_step : (x : SpaceId) (xs order : List SpaceId) → stands (tail xs) x ≡ false → Within (without x xs) order → Within xs (x ∷ order)
within_step x [] order e w = tt
within_step x (y ∷ ys) order e w =
    let n : without x ys ≡ ys = without_none x ys e in
    elim (compared y x) [
      | Same s i ↦
          let d : without x (y ∷ ys) ≡ ys = rw s n in
          inl (sym i, subst (λ zs. Within zs order) d w)
      | Other s i ↦
          let d : without x (y ∷ ys) ≡ y ∷ ys = rw s (ap (λ zs. y ∷ zs) n) in
          inr (subst (λ zs. Within zs order) d w)
    ]

-- each list stands in the order
pub keeps : (lists : List (List SpaceId)) (order : List SpaceId) → IsMerge lists order → (xs : List SpaceId) → Has lists xs → Within xs order
keeps lists [] m xs h = subst (λ zs. Within zs []) (sym (heads_empty lists xs m h)) tt
keeps lists (x ∷ order) m xs h =
    within_step x xs order (not_in_tail lists xs x (next_free lists x m.0) h) (keeps (without_all x lists) order m.1 (without x xs) (has_without x lists xs h))

head_among : (lists : List (List SpaceId)) (x : SpaceId) → Has (heads lists) x → Among lists x
head_among [] x h = absurd h
head_among ([] ∷ lists) x h = inr (head_among lists x h)
head_among ((y ∷ ys) ∷ lists) x h = elim h [ inl e ↦ inl (inl e) | inr r ↦ inr (head_among lists x r) ]

has_kept : (x : SpaceId) (xs : List SpaceId) (z : SpaceId) → Has (without x xs) z → Has xs z
has_kept x [] z h = h
has_kept x (y ∷ ys) z h =
    elim (compared y x) [
      | Same s e ↦ inr (has_kept x ys z (let i : Has (without x ys) z = rw s at h in i))
      | Other s e ↦ (let i : Has (y ∷ without x ys) z = rw s at h in elim i [ inl p ↦ inl p | inr q ↦ inr (has_kept x ys z q) ])
    ]

among_kept : (x : SpaceId) (lists : List (List SpaceId)) (z : SpaceId) → Among (without_all x lists) z → Among lists z
among_kept x [] z h = h
among_kept x (ys ∷ lists) z h = elim h [ inl a ↦ inl (has_kept x ys z a) | inr b ↦ inr (among_kept x lists z b) ]

has_gone : (x : SpaceId) (xs : List SpaceId) → Has (without x xs) x → ⊥
has_gone x [] h = h
has_gone x (y ∷ ys) h =
    elim (compared y x) [
      | Same s e ↦ has_gone x ys (let i : Has (without x ys) x = rw s at h in i)
      | Other s e ↦ (let i : Has (y ∷ without x ys) x = rw s at h in elim i [ inl p ↦ e p | inr q ↦ has_gone x ys q ])
    ]

among_gone : (x : SpaceId) (lists : List (List SpaceId)) → Among (without_all x lists) x → ⊥
among_gone x [] h = h
among_gone x (ys ∷ lists) h = elim h [ inl a ↦ has_gone x ys a | inr b ↦ among_gone x lists b ]

-- the order has nothing but what the lists have
pub from_lists : (lists : List (List SpaceId)) (order : List SpaceId) → IsMerge lists order → (x : SpaceId) → Has order x → Among lists x
from_lists lists [] m x h = absurd h
from_lists lists (y ∷ order) m x h =
    elim h [
      | inl e ↦ subst (λ z. Among lists z) e (head_among lists y (next_head_is lists y m.0))
      | inr r ↦ among_kept y lists x (from_lists (without_all y lists) order m.1 x r)
    ]

-- the order has nothing twice
pub once : (lists : List (List SpaceId)) (order : List SpaceId) → IsMerge lists order → Distinct order
once lists [] m = tt
once lists (x ∷ order) m = (λ h. among_gone x lists (from_lists (without_all x lists) order m.1 x h), once (without_all x lists) order m.1)
