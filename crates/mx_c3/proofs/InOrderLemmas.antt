-- Laws of base lists in which each base stands before its spaces.
use Rattle.std.proofs.Common.{◌≡◌, ℕ, zero, suc, ◌+◌, ◌<◌, List, [], ◌∷◌, ◌++◌, length, take, get_or, inl, inr, sym, subst, arith}
use Rattle.std.proofs.lemmas.List.{take_more, length-take-le}
use Rattle.mx_c3.specs.declared.space.SpaceId.{SpaceId}
use Rattle.mx_c3.specs.Lists.{Has, Among, Distinct, AllDistinct}
use Rattle.mx_c3.specs.InOrder.{AllBelow, IsInOrder}
use Rattle.mx_c3.specs.Laws.{InOrderIsSound}
use Rattle.mx_c3.proofs.ListLemmas.{has_more, has_at}
use Rattle.mx_c3.proofs.NextLaws.{ranks_fall}
use Rattle.mx_c3.proofs.Working.{distinct_push}

below_base : (n : ℕ) (lists : List (List SpaceId)) → IsInOrder n lists → (i : ℕ) (b : SpaceId) → Has (get_or lists i []) b → b.0 < n + i
below_base n [] o i b h = absurd h
below_base n (xs ∷ lists) o zero b h = let l : b.0 < n = o.0 b h in omega arith
below_base n (xs ∷ lists) o (suc i) b h = let l : b.0 < suc n + i = below_base (suc n) lists o.2 i b h in omega arith

below_end : (n : ℕ) (lists : List (List SpaceId)) → IsInOrder n lists → (x : SpaceId) → Among lists x → x.0 < n + length lists
below_end n [] o x h = absurd h
below_end n (xs ∷ lists) o x h =
    elim h [
      | inl a ↦ (let l : x.0 < n = o.0 x a in omega arith)
      | inr b ↦ (let l : x.0 < suc n + length lists = below_end (suc n) lists o.2 x b in omega arith)
    ]

each_distinct : (n : ℕ) (lists : List (List SpaceId)) → IsInOrder n lists → AllDistinct lists
each_distinct n [] o = tt
each_distinct n (xs ∷ lists) o = (o.1, each_distinct (suc n) lists o.2)

pub in_order_sound : InOrderIsSound
in_order_sound lists o = record {
  in_range = λ x h. let l : x.0 < 0 + length lists = below_end 0 lists o x h in omega arith;
  distinct = each_distinct 0 lists o;
  no_ring = λ x r. ranks_fall lists (λ (s : SpaceId). s.0) (λ s b h. let l : b.0 < 0 + s.0 = below_base 0 lists o s.0 b h in omega arith) x r;
}

in_order_push : (n : ℕ) (lists : List (List SpaceId)) (bases : List SpaceId) → IsInOrder n lists → AllBelow (n + length lists) bases → Distinct bases → IsInOrder n (lists ++ bases ∷ [])
in_order_push n [] bases o b d = (λ x h. let l : x.0 < n + 0 = b x h in omega arith, d, tt)
in_order_push n (xs ∷ lists) bases o b d = (o.0, o.1, in_order_push (suc n) lists bases o.2 (λ x h. let l : x.0 < n + suc (length lists) = b x h in omega arith) d)

in_order_at : (n : ℕ) (lists : List (List SpaceId)) (i : ℕ) (d : List SpaceId) → IsInOrder n lists → i < length lists → AllBelow (n + i) (get_or lists i d) × Distinct (get_or lists i d)
in_order_at n [] i d o h = absurd (omega arith)
in_order_at n (xs ∷ lists) zero d o h = (λ x m. let l : x.0 < n = o.0 x m in omega arith, o.1)
in_order_at n (xs ∷ lists) (suc i) d o h =
    let r = in_order_at (suc n) lists i d o.2 (omega arith) in
    (λ x m. let l : x.0 < suc n + i = r.0 x m in omega arith, r.1)

pub in_order_more : (lists : List (List SpaceId)) (i : ℕ) (d : List SpaceId) → i < length lists → IsInOrder 0 (take i lists) → AllBelow i (get_or lists i d) → Distinct (get_or lists i d) → IsInOrder 0 (take (i + 1) lists)
in_order_more lists i d h o b e =
    subst (λ zs. IsInOrder 0 zs) (sym (take_more lists i d h))
    (in_order_push 0 (take i lists) (get_or lists i d) o (λ x m. let l : x.0 < i = b x m in let n : length (take i lists) ≡ i = length-take-le i lists (omega arith) in omega arith) e)

pub below_more : (spaces : List SpaceId) (i n : ℕ) (d : SpaceId) → i < length spaces → AllBelow n (take i spaces) → (get_or spaces i d).0 < n → AllBelow n (take (i + 1) spaces)
below_more spaces i n d h b l x m = elim (has_more spaces i d x h m) [ inl a ↦ b x a | inr e ↦ subst (λ (z : SpaceId). z.0 < n) e l ]

pub distinct_more : (spaces : List SpaceId) (i : ℕ) (d : SpaceId) → i < length spaces → Distinct (take i spaces) → (Has (take i spaces) (get_or spaces i d) → ⊥) → Distinct (take (i + 1) spaces)
distinct_more spaces i d h e n = subst (λ zs. Distinct zs) (sym (take_more spaces i d h)) (distinct_push (take i spaces) (get_or spaces i d) e n)

pub distinct_not : (spaces : List SpaceId) (i : ℕ) (d : SpaceId) → i < length spaces → Has (take i spaces) (get_or spaces i d) → Distinct spaces → ⊥
distinct_not [] i d h m e = absurd (omega arith)
distinct_not (x ∷ xs) zero d h m e = m
distinct_not (x ∷ xs) (suc i) d h m e =
    elim m [
      | inl j ↦ e.0 (subst (λ z. Has xs z) (sym j) (has_at xs i d (omega arith)))
      | inr k ↦ distinct_not xs i d (omega arith) k e.1
    ]

pub in_order_here : (lists : List (List SpaceId)) (i : ℕ) (d : List SpaceId) → IsInOrder 0 lists → i < length lists → AllBelow i (get_or lists i d) × Distinct (get_or lists i d)
in_order_here lists i d o h =
    let r = in_order_at 0 lists i d o h in
    (λ x m. let l : x.0 < 0 + i = r.0 x m in omega arith, r.1)
