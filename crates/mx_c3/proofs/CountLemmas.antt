-- Laws of the counts of tails.
use Rattle.std.proofs.Common.{◌≡◌, ℕ, zero, suc, ◌+◌, ◌-◌, ◌<◌, ◌≤◌, true, false, Some, None, List, [], ◌∷◌, ◌++◌, length, take, drop, get_or, slice_index, slice_set, ◌⊎◌, inl, inr, refl, sym, ◌∙◌, ap, subst, arith, length-set}
use Rattle.std.proofs.lemmas.List.{length-take-le, take_all, take_more, get_or-set_same, get_or-set_other}
use Rattle.std.proofs.Math.Seq.{take-append_seam}
use Rattle.mx_c3.specs.declared.space.SpaceId.{SpaceId}
use Rattle.mx_c3.specs.Lists.{Has, Distinct, AllDistinct}
use Rattle.mx_c3.specs.Merge.{same, tail, head, heads, stands, in_tail}
use Rattle.mx_c3.specs.Counts.{count, times, CountsFirst, IsCounted, CountsMore, AreZeros}
use Rattle.mx_c3.specs.Taking.{drop_head, CanTake, Follows}
use Rattle.mx_c3.proofs.ListLemmas.{Same, Other, compared, is_same, has_at, distinct_tail, among_at, among_set, all_distinct_take}

pub count-append : (xs ys : List SpaceId) (x : SpaceId) → count (xs ++ ys) x ≡ count xs x + count ys x
count-append [] ys x = omega arith
count-append (z ∷ xs) ys x = omega (arith, count-append xs ys x)

pub count_none : (xs : List SpaceId) (x : SpaceId) → (Has xs x → ⊥) → count xs x ≡ 0
count_none [] x n = refl
count_none (y ∷ ys) x n =
    elim (compared y x) [
      | Same h e ↦ absurd (n (inl e))
      | Other h e ↦ rw h (omega (arith, count_none ys x (λ m. n (inr m))))
    ]

pub count_once : (xs : List SpaceId) (x : SpaceId) → Distinct xs → count xs x ≤ 1
count_once [] x d = omega arith
count_once (y ∷ ys) x d =
    elim (compared y x) [
      | Same h e ↦ rw h (let z : count ys x ≡ 0 = count_none ys x (subst (λ w. Has ys w → ⊥) e d.0) in omega arith)
      | Other h e ↦ rw h (omega (arith, count_once ys x d.1))
    ]

pub count_self : (xs : List SpaceId) (x : SpaceId) → Has xs x → 0 < count xs x
count_self [] x h = absurd h
count_self (y ∷ ys) x h =
    elim h [ inl e ↦ rw (is_same y x e) (omega arith) | inr r ↦ omega (arith, count_self ys x r) ]

pub times-append : (xss yss : List (List SpaceId)) (x : SpaceId) → times (xss ++ yss) x ≡ times xss x + times yss x
times-append [] yss x = omega arith
times-append (xs ∷ xss) yss x = omega (arith, times-append xss yss x)

pub times_more : (lists : List (List SpaceId)) (i : ℕ) (d : List SpaceId) (x : SpaceId) → i < length lists → times (take (i + 1) lists) x ≡ times (take i lists) x + count (tail (get_or lists i d)) x
times_more lists i d x h = ap (λ zs. times zs x) (take_more lists i d h) ∙ omega (arith, times-append (take i lists) (get_or lists i d ∷ []) x)

pub times_few : (lists : List (List SpaceId)) (x : SpaceId) → AllDistinct lists → times lists x ≤ length lists
times_few [] x a = omega arith
times_few (xs ∷ lists) x a = omega (arith, times_few lists x a.1, count_once (tail xs) x (distinct_tail xs a.0))

pub times_at : (lists : List (List SpaceId)) (i : ℕ) (d : List SpaceId) (x : SpaceId) → i < length lists → count (tail (get_or lists i d)) x ≤ times lists x
times_at [] i d x h = absurd (omega arith)
times_at (xs ∷ lists) zero d x h = omega arith
times_at (xs ∷ lists) (suc i) d x h = omega (arith, times_at lists i d x (omega arith))

pub times_set : (lists : List (List SpaceId)) (i : ℕ) (d ys : List SpaceId) (x : SpaceId) → i < length lists → times (slice_set lists i ys) x + count (tail (get_or lists i d)) x ≡ times lists x + count (tail ys) x
times_set [] i d ys x h = absurd (omega arith)
times_set (xs ∷ lists) zero d ys x h = omega arith
times_set (xs ∷ lists) (suc i) d ys x h = omega (arith, times_set lists i d ys x (omega arith))

stands_none : (xs : List SpaceId) (x : SpaceId) → count xs x ≡ 0 → stands xs x ≡ false
stands_none [] x h = refl
stands_none (y ∷ ys) x h =
    elim (compared y x) [
      | Same s e ↦ absurd (let i : 0 < count (y ∷ ys) x = count_self (y ∷ ys) x (inl e) in omega arith)
      | Other s e ↦ rw s (stands_none ys x (omega arith))
    ]

stands_some : (xs : List SpaceId) (x : SpaceId) → 0 < count xs x → stands xs x ≡ true
stands_some [] x h = absurd (omega arith)
stands_some (y ∷ ys) x h =
    elim (compared y x) [
      | Same s e ↦ rw s refl
      | Other s e ↦ rw s (stands_some ys x (let i : count (y ∷ ys) x ≡ count ys x = rw s (omega arith) in omega arith))
    ]

below_or : (i n : ℕ) → (i < n) ⊎ (n ≤ i)
below_or i zero = inr (omega arith)
below_or zero (suc n) = inl (omega arith)
below_or (suc i) (suc n) = elim (below_or i n) [ inl l ↦ inl (omega arith) | inr l ↦ inr (omega arith) ]

pub zero_or : (n : ℕ) → (n ≡ 0) ⊎ (0 < n)
zero_or zero = inl refl
zero_or (suc n) = inr (omega arith)

pub in_tail_none : (lists : List (List SpaceId)) (x : SpaceId) → times lists x ≡ 0 → in_tail lists x ≡ false
in_tail_none [] x h = refl
in_tail_none (xs ∷ lists) x h = rw (stands_none (tail xs) x (omega arith)) (in_tail_none lists x (omega arith))

pub in_tail_some : (lists : List (List SpaceId)) (x : SpaceId) → 0 < times lists x → in_tail lists x ≡ true
in_tail_some [] x h = absurd (omega arith)
in_tail_some (xs ∷ lists) x h =
    elim (zero_or (count (tail xs) x)) [
      | inl z ↦ rw (stands_none (tail xs) x z) (in_tail_some lists x (omega arith))
      | inr p ↦ rw (stands_some (tail xs) x p) refl
    ]

-- one more of y
pub more_push : (before after : List ℕ) (ys : List SpaceId) (y : SpaceId) → CountsMore before ys after → y.0 < length before → CountsMore before (ys ++ y ∷ []) (slice_set after y.0 (slice_index after y.0 + 1))
more_push before after ys y m h = (
  length-set after y.0 (slice_index after y.0 + 1) ∙ m.0,
  λ x l.
      let c : count (ys ++ y ∷ []) x ≡ count ys x + count (y ∷ []) x = count-append ys (y ∷ []) x in
      let r : slice_index after x.0 ≡ slice_index before x.0 + count ys x = m.1 x l in
      elim (compared y x) [
        | Same s e ↦
            let one : count (y ∷ []) x ≡ 1 = rw s refl in
            let k : y.0 < length after = omega (arith, m.0) in
            let g : slice_index (slice_set after y.0 (slice_index after y.0 + 1)) y.0 ≡ slice_index after y.0 + 1 = get_or-set_same after y.0 (slice_index after y.0 + 1) 0 k in
            let i : slice_index (slice_set after y.0 (slice_index after y.0 + 1)) x.0 ≡ slice_index after x.0 + 1 = subst (λ (z : SpaceId). slice_index (slice_set after y.0 (slice_index after y.0 + 1)) z.0 ≡ slice_index after z.0 + 1) e g in
            omega arith
        | Other s e ↦
            let none : count (y ∷ []) x ≡ 0 = rw s refl in
            let place : ℕ → SpaceId = λ n. record { 0 = n } in
            let i : slice_index (slice_set after y.0 (slice_index after y.0 + 1)) x.0 ≡ slice_index after x.0 = get_or-set_other after y.0 x.0 (slice_index after y.0 + 1) 0 (λ q. e (sym (ap place q))) in
            omega arith
      ],
)

pub can_take : (lists : List (List SpaceId)) (counts : List ℕ) (i : ℕ) (d : List SpaceId) → i < length lists → IsCounted lists counts → CanTake (get_or lists i d) counts
can_take lists counts i d h c = record {
  room = λ x m. c.room x (among_at lists i d x h m);
  counted = λ x m.
      let r : slice_index counts x.0 ≡ times lists x = c.right x (c.room x (among_at lists i d x h m)) in
      let t : count (tail (get_or lists i d)) x ≤ times lists x = times_at lists i d x h in
      omega arith;
}

pub counted_step : (lists : List (List SpaceId)) (counts after : List ℕ) (i : ℕ) (d ys : List SpaceId) → i < length lists → IsCounted lists counts → ((x : SpaceId) → Has ys x → Has (get_or lists i d) x) → Follows (get_or lists i d) counts ys after → IsCounted (slice_set lists i ys) after
counted_step lists counts after i d ys h c f w = record {
  room = λ x m. let r : x.0 < length counts = c.room x (among_set lists i d ys x (f x) m) in omega (arith, w.long);
  right = λ x l.
      let k : x.0 < length counts = omega (arith, w.long) in
      let r : slice_index counts x.0 ≡ times lists x = c.right x k in
      let t : times (slice_set lists i ys) x + count (tail (get_or lists i d)) x ≡ times lists x + count (tail ys) x = times_set lists i d ys x h in
      let v : slice_index counts x.0 + count (tail ys) x ≡ slice_index after x.0 + count (tail (get_or lists i d)) x = w.moved x k in
      omega arith;
}

pub follows_same : (xs : List SpaceId) (counts : List ℕ) → Follows xs counts xs counts
follows_same xs counts = record { long = refl; moved = λ x h. refl }

pub follows_end : (xs : List SpaceId) (counts : List ℕ) → head (tail xs) ≡ None → Follows xs counts (tail xs) counts
follows_end [] counts e = follows_same [] counts
follows_end (x ∷ []) counts e = record { long = refl; moved = λ x h. refl }
follows_end (x ∷ y ∷ ys) counts e = absurd (let i : Some y ≡ None = e in cc)

follows_at : (x y : SpaceId) (ys : List SpaceId) (counts : List ℕ) → CanTake (x ∷ y ∷ ys) counts → Follows (x ∷ y ∷ ys) counts (y ∷ ys) (slice_set counts y.0 (slice_index counts y.0 - 1))
follows_at x y ys counts c = record {
  long = length-set counts y.0 (slice_index counts y.0 - 1);
  moved = λ z l.
      elim (compared y z) [
        | Same s e ↦
            let k : y.0 < length counts = c.room y (inr (inl refl)) in
            let b : count (y ∷ ys) y ≤ slice_index counts y.0 = c.counted y (inr (inl refl)) in
            let one : count (y ∷ ys) y ≡ 1 + count ys y = rw (is_same y y refl) refl in
            let g : slice_index (slice_set counts y.0 (slice_index counts y.0 - 1)) y.0 ≡ slice_index counts y.0 - 1 = get_or-set_same counts y.0 (slice_index counts y.0 - 1) 0 k in
            subst (λ (w : SpaceId). slice_index counts w.0 + count ys w ≡ slice_index (slice_set counts y.0 (slice_index counts y.0 - 1)) w.0 + count (y ∷ ys) w) e (omega arith)
        | Other s e ↦
            let none : count (y ∷ ys) z ≡ count ys z = rw s (omega arith) in
            let place : ℕ → SpaceId = λ n. record { 0 = n } in
            let i : slice_index (slice_set counts y.0 (slice_index counts y.0 - 1)) z.0 ≡ slice_index counts z.0 = get_or-set_other counts y.0 z.0 (slice_index counts y.0 - 1) 0 (λ q. e (sym (ap place q))) in
            omega arith
      ];
}

pub follows_move : (xs : List SpaceId) (y : SpaceId) (counts : List ℕ) → head (tail xs) ≡ Some y → CanTake xs counts → Follows xs counts (tail xs) (slice_set counts y.0 (slice_index counts y.0 - 1))
follows_move [] y counts e c = absurd (let i : None ≡ Some y = e in cc)
follows_move (x ∷ []) y counts e c = absurd (let i : None ≡ Some y = e in cc)
follows_move (x ∷ w ∷ ys) y counts e c =
    let i : w ≡ y = cc in
    subst (λ (z : SpaceId). Follows (x ∷ w ∷ ys) counts (w ∷ ys) (slice_set counts z.0 (slice_index counts z.0 - 1))) i (follows_at x w ys counts c)

pub tail_room : (xs : List SpaceId) (y : SpaceId) (counts : List ℕ) → head (tail xs) ≡ Some y → CanTake xs counts → (y.0 < length counts) × (0 < slice_index counts y.0)
tail_room [] y counts e c = absurd (let i : None ≡ Some y = e in cc)
tail_room (x ∷ []) y counts e c = absurd (let i : None ≡ Some y = e in cc)
tail_room (x ∷ w ∷ ys) y counts e c =
    let i : w ≡ y = cc in
    let h : Has (x ∷ w ∷ ys) y = inr (inl i) in
    let b : count (w ∷ ys) y ≤ slice_index counts y.0 = c.counted y h in
    let s : 0 < count (w ∷ ys) y = count_self (w ∷ ys) y (inl i) in
    (c.room y h, omega arith)

pub drop_head_none : (xs : List SpaceId) (x : SpaceId) → head xs ≡ None → drop_head x xs ≡ xs
drop_head_none [] x e = refl
drop_head_none (y ∷ ys) x e = absurd (let i : Some y ≡ None = e in cc)

pub drop_head_other : (xs : List SpaceId) (y x : SpaceId) → head xs ≡ Some y → same y x ≡ false → drop_head x xs ≡ xs
drop_head_other [] y x e s = refl
drop_head_other (z ∷ zs) y x e s = let i : z ≡ y = cc in let t : same z x ≡ false = ap (λ (w : SpaceId). same w x) i ∙ s in rw t refl

pub drop_head_same : (xs : List SpaceId) (y x : SpaceId) → head xs ≡ Some y → same y x ≡ true → drop_head x xs ≡ tail xs
drop_head_same [] y x e s = refl
drop_head_same (z ∷ zs) y x e s = let i : z ≡ y = cc in let t : same z x ≡ true = ap (λ (w : SpaceId). same w x) i ∙ s in rw t refl

pub has_drop_head : (x : SpaceId) (xs : List SpaceId) (z : SpaceId) → Has (drop_head x xs) z → Has xs z
has_drop_head x [] z h = h
has_drop_head x (y ∷ ys) z h =
    elim (compared y x) [
      | Same s e ↦ inr (let i : Has ys z = rw s at h in i)
      | Other s e ↦ (let i : Has (y ∷ ys) z = rw s at h in i)
    ]

-- in a list without doubles no item stands before itself
pub count_before : (xs : List SpaceId) (i : ℕ) (d : SpaceId) → Distinct xs → i < length xs → count (take i xs) (get_or xs i d) ≡ 0
count_before [] i d n h = absurd (omega arith)
count_before (x ∷ xs) zero d n h = refl
count_before (x ∷ xs) (suc i) d n h =
    elim (compared x (get_or xs i d)) [
      | Same s e ↦ absurd (n.0 (subst (λ z. Has xs z) (sym e) (has_at xs i d (omega arith))))
      | Other s e ↦ rw s (omega (arith, count_before xs i d n.1 (omega arith)))
    ]

pub tail_is : (xs : List SpaceId) → 1 ≤ length xs → take (length xs - 1) (drop 1 xs) ≡ tail xs
tail_is [] h = absurd (omega arith)
tail_is (x ∷ xs) h = take_all (length (x ∷ xs) - 1) xs (omega arith)

pub written : {X : Type 0} (n : ℕ) (xs ys : List X) → length xs ≡ n → take n (xs ++ ys) ≡ xs
written n xs ys e = subst (λ k. take k (xs ++ ys) ≡ xs) e (take-append_seam xs ys)

-- the tail of one more list is counted
pub counts_more : (lists : List (List SpaceId)) (i : ℕ) (d : List SpaceId) (counts after : List ℕ) → i < length lists → CountsFirst lists (take i lists) counts → CountsMore counts (tail (get_or lists i d)) after → CountsFirst lists (take (i + 1) lists) after
counts_more lists i d counts after h c m = record {
  room = λ x k. let r : x.0 < length counts = c.room x k in omega (arith, m.0);
  right = λ x k.
      let l : x.0 < length counts = omega (arith, m.0) in
      let r : slice_index counts x.0 ≡ times (take i lists) x = c.right x l in
      let t : times (take (i + 1) lists) x ≡ times (take i lists) x + count (tail (get_or lists i d)) x = times_more lists i d x h in
      let n : slice_index after x.0 ≡ slice_index counts x.0 + count (tail (get_or lists i d)) x = m.1 x l in
      omega arith;
}

pub counts_few : (lists : List (List SpaceId)) (i : ℕ) (counts : List ℕ) (x : SpaceId) → AllDistinct lists → i < length lists → CountsFirst lists (take i lists) counts → x.0 < length counts → slice_index counts x.0 ≤ i
counts_few lists i counts x a h c l =
    let r : slice_index counts x.0 ≡ times (take i lists) x = c.right x l in
    let f : times (take i lists) x ≤ length (take i lists) = times_few (take i lists) x (all_distinct_take lists i a) in
    let n : length (take i lists) ≡ i = length-take-le i lists (omega arith) in
    omega arith

pub tail_none : (xs : List SpaceId) → length xs < 1 → xs ≡ tail xs
tail_none [] h = refl
tail_none (x ∷ xs) h = absurd (omega arith)

pub zeros_push : (ns : List ℕ) → AreZeros ns → AreZeros (ns ++ 0 ∷ [])
zeros_push [] z zero = refl
zeros_push [] z (suc i) = refl
zeros_push (n ∷ ns) z zero = z zero
zeros_push (n ∷ ns) z (suc i) = zeros_push ns (λ j. z (suc j)) i

times_empty : (lists : List (List SpaceId)) (x : SpaceId) → heads lists ≡ [] → times lists x ≡ 0
times_empty [] x e = refl
times_empty ([] ∷ lists) x e = omega (arith, times_empty lists x e)
times_empty ((y ∷ ys) ∷ lists) x e = absurd (let i : y ∷ heads lists ≡ [] = e in cc)

beyond : (ns : List ℕ) (i : ℕ) → length ns ≤ i → slice_index ns i ≡ 0
beyond [] i h = refl
beyond (n ∷ ns) zero h = absurd (omega arith)
beyond (n ∷ ns) (suc i) h = beyond ns i (omega arith)

-- once nothing is left the table is as before
pub zeros_left : (lists : List (List SpaceId)) (counts : List ℕ) → IsCounted lists counts → heads lists ≡ [] → AreZeros counts
zeros_left lists counts c e i =
    let x : SpaceId = record { 0 = i } in
    elim (below_or i (length counts)) [ inl l ↦ c.right x l ∙ times_empty lists x e | inr l ↦ beyond counts i l ]
