-- Chunks of one length: what stands at a place, and what a change or one item more makes of them.
use Rattle.std.proofs.Common.{◌≡◌, ℕ, zero, suc, ◌+◌, ◌-◌, ◌*◌, ◌/◌, ◌%◌, ◌<◌, ◌≤◌, ◌⊎◌, List, [], ◌∷◌, ◌++◌, length, set, take, drop, Option, Some, None, slice_get, inl, inr, refl, sym, ◌∙◌, ap, subst, arith}
use Rattle.std.proofs.lemmas.List.{append-nil, append_assoc, length-append, length-set, set-append_left, set-append_right}
use Rattle.std.proofs.lemmas.Option.{same_Some}
use Rattle.std.proofs.Math.Nat.{div-eq-sub-div, mod-eq-sub-mod, div-eq_of_lt, mod-eq_of_lt}
use Rattle.mx_members.specs.Chunks.{joined, IsFull}

abbrev within : {X : Type 0} → Option (List X) → ℕ → Option X
within None i = None
within (Some c) i = slice_get c i

lower_or_not : (a b : ℕ) → (a < b) ⊎ (b ≤ a)
lower_or_not a zero = inr (omega arith)
lower_or_not zero (suc b) = inl (omega arith)
lower_or_not (suc a) (suc b) = elim (lower_or_not a b) [ inl h ↦ inl (omega arith) | inr h ↦ inr (omega arith) ]

module _ (n : ℕ) (some : 0 < n) where
  first_place : (at : ℕ) → at < n → at / n ≡ zero
  first_place at h = div-eq_of_lt h

  next_place : (at : ℕ) → n ≤ at → at / n ≡ suc ((at - n) / n)
  next_place at h = let e = div-eq-sub-div some h in omega arith

module _ {X : Type 0} where
  pub get_left : (xs ys : List X) (i : ℕ) → i < length xs → slice_get (xs ++ ys) i ≡ slice_get xs i
  get_left [] ys i h = absurd (omega arith)
  get_left (x ∷ xs) ys zero h = refl
  get_left (x ∷ xs) ys (suc i) h = get_left xs ys i (omega arith)

  pub get_right : (xs ys : List X) (i j : ℕ) → i ≡ length xs + j → slice_get (xs ++ ys) i ≡ slice_get ys j
  get_right [] ys i j h = let e : i ≡ j = omega arith in ap (slice_get ys) e
  get_right (x ∷ xs) ys zero j h = absurd (omega arith)
  get_right (x ∷ xs) ys (suc i) j h = get_right xs ys i j (omega arith)

  pub take_one : (xs : List X) (i : ℕ) (x : X) → slice_get xs i ≡ Some x → take i xs ++ x ∷ [] ≡ take (i + 1) xs
  take_one [] i x at = absurd (let f : None ≡ Some x = at in cc)
  take_one (y ∷ xs) zero x at = ap (λ (z : X). z ∷ []) (sym (same_Some y x at))
  take_one (y ∷ xs) (suc i) x at =
      let next : suc (i + 1) ≡ suc i + 1 = omega arith in
      ap (λ (l : List X). y ∷ l) (take_one xs i x at) ∙ ap (λ n. take n (y ∷ xs)) next

  -- one item more is shared
  pub take_more : (xs items after : List X) (i : ℕ) (x y : X) → items ≡ take i xs → slice_get xs i ≡ Some x → y ≡ x → after ≡ items ++ y ∷ [] → after ≡ take (i + 1) xs
  take_more xs items after i x y held at same is =
      is ∙ ap (λ (l : List X). l ++ y ∷ []) held ∙ ap (λ (z : X). take i xs ++ z ∷ []) same ∙ take_one xs i x at

  not_past : (xs : List X) (i : ℕ) → i < length xs → slice_get xs i ≡ None → ⊥
  not_past [] i h none = omega arith
  not_past (x ∷ xs) zero h none = let f : Some x ≡ None = none in cc
  not_past (x ∷ xs) (suc i) h none = not_past xs i (omega arith) none

  -- ---- full chunks

  pub full_at : (n : ℕ) (cs : List (List X)) (i : ℕ) (c : List X) → IsFull n cs → slice_get cs i ≡ Some c → length c ≡ n
  full_at n [] i c full at = let f : None ≡ Some c = at in cc
  full_at n (b ∷ cs) zero c full at = ap (λ (l : List X). length l) (sym (same_Some b c at)) ∙ full.0
  full_at n (b ∷ cs) (suc i) c full at = full_at n cs i c full.1 at

  full_set : (n : ℕ) (cs : List (List X)) (i : ℕ) (d : List X) → IsFull n cs → length d ≡ n → IsFull n (set cs i d)
  full_set n [] i d full e = tt
  full_set n (b ∷ cs) zero d full e = (e, full.1)
  full_set n (b ∷ cs) (suc i) d full e = (full.0, full_set n cs i d full.1 e)

  full_last : (n : ℕ) (cs : List (List X)) (c : List X) → IsFull n cs → length c ≡ n → IsFull n (cs ++ c ∷ [])
  full_last n [] c full e = (e, tt)
  full_last n (b ∷ cs) c full e = (full.0, full_last n cs c full.1 e)

  joined_last : (cs : List (List X)) (c : List X) → joined (cs ++ c ∷ []) ≡ joined cs ++ c
  joined_last [] c = append-nil c
  joined_last (d ∷ cs) c = ap (λ (r : List X). d ++ r) (joined_last cs c) ∙ sym (append_assoc d (joined cs) c)

  -- what ends with one chunk more
  module _ (cs all : List (List X)) (c d : List X) (is : all ≡ cs ++ d ∷ []) (own : d ≡ c) where
    ends : all ≡ cs ++ c ∷ []
    ends = is ∙ ap (λ (l : List X). cs ++ l ∷ []) own

    pub joined_added : joined all ≡ joined cs ++ c
    joined_added = ap (λ (ls : List (List X)). joined ls) ends ∙ joined_last cs c

    pub full_added : (n : ℕ) → IsFull n cs → length c ≡ n → IsFull n all
    full_added n full e = subst (IsFull n) (sym ends) (full_last n cs c full e)

    pub joined_next : (one : List X) (x : X) → one ≡ x ∷ [] → joined all ++ one ≡ (joined cs ++ c) ++ x ∷ []
    joined_next one x e = ap (λ (l : List X). l ++ one) joined_added ∙ ap (λ (l : List X). (joined cs ++ c) ++ l) e

module _ {X : Type 0} where
  -- ---- the first few chunks

  joined_split : (cs : List (List X)) (i : ℕ) → joined cs ≡ joined (take i cs) ++ joined (drop i cs)
  joined_split cs zero = refl
  joined_split [] (suc i) = refl
  joined_split (c ∷ cs) (suc i) = ap (λ (l : List X). c ++ l) (joined_split cs i) ∙ sym (append_assoc c (joined (take i cs)) (joined (drop i cs)))

  pub joined_take : (cs : List (List X)) (i : ℕ) (c : List X) → slice_get cs i ≡ Some c → joined (take (i + 1) cs) ≡ joined (take i cs) ++ c
  joined_take cs i c at = ap (λ (ls : List (List X)). joined ls) (sym (take_one cs i c at)) ∙ joined_last (take i cs) c

  pub joined_around : (cs : List (List X)) (i : ℕ) (c : List X) → slice_get cs i ≡ Some c → joined cs ≡ (joined (take i cs) ++ c) ++ joined (drop (i + 1) cs)
  joined_around cs i c at = joined_split cs (i + 1) ∙ ap (λ (l : List X). l ++ joined (drop (i + 1) cs)) (joined_take cs i c at)

  pub front_length : (n : ℕ) (cs : List (List X)) (i : ℕ) (c : List X) → IsFull n cs → slice_get cs i ≡ Some c → length (joined (take i cs)) ≡ n * i
  front_length n [] i c full at = let f : None ≡ Some c = at in cc
  front_length n (b ∷ cs) zero c full at = omega arith
  front_length n (b ∷ cs) (suc i) c full at =
      let e = front_length n cs i c full.1 at in
      let own = full.0 in
      omega (arith, length-append b (joined (take i cs)))

module _ {X : Type 0} (n : ℕ) (some : 0 < n) where
  -- ---- what stands at a place

  found_by : (c : List X) (cs : List (List X)) (at : ℕ) → length c ≡ n → slice_get (joined cs) (at - n) ≡ within (slice_get cs ((at - n) / n)) ((at - n) % n) → (at < n) ⊎ (n ≤ at) → slice_get (c ++ joined cs) at ≡ within (slice_get (c ∷ cs) (at / n)) (at % n)
  found_by c cs at own rest (inl h) =
      get_left c (joined cs) at (omega arith) ∙ ap (slice_get c) (sym (mod-eq_of_lt h)) ∙ ap (λ (q : ℕ). within (slice_get (c ∷ cs) q) (at % n)) (sym (first_place n some at h))
  found_by c cs at own rest (inr h) =
      get_right c (joined cs) at (at - n) (omega arith) ∙ rest ∙ ap (within (slice_get cs ((at - n) / n))) (sym (mod-eq-sub-mod h)) ∙ ap (λ (q : ℕ). within (slice_get (c ∷ cs) q) (at % n)) (sym (next_place n some at h))

  found : (cs : List (List X)) (at : ℕ) → IsFull n cs → slice_get (joined cs) at ≡ within (slice_get cs (at / n)) (at % n)
  found [] at full = refl
  found (c ∷ cs) at full = found_by c cs at full.0 (found cs (at - n) full.1) (lower_or_not at n)

  pub chunk_there : (cs : List (List X)) (at : ℕ) → IsFull n cs → at < length (joined cs) → None ≡ slice_get cs (at / n) → ⊥
  chunk_there cs at full h none = not_past (joined cs) at h (found cs at full ∙ ap (λ (o : Option (List X)). within o (at % n)) (sym none))

  pub found_some : (cs : List (List X)) (at : ℕ) (c : List X) → IsFull n cs → Some c ≡ slice_get cs (at / n) → slice_get c (at % n) ≡ slice_get (joined cs) at
  found_some cs at c full e = sym (found cs at full ∙ ap (λ (o : Option (List X)). within o (at % n)) (sym e))

  pub place_in : (cs : List (List X)) (at : ℕ) (c : List X) → IsFull n cs → Some c ≡ slice_get cs (at / n) → at % n < length c
  place_in cs at c full e = let own = full_at n cs (at / n) c full (sym e) in omega arith

  -- ---- a change

  set_by : (b : List X) (cs : List (List X)) (at : ℕ) (x : X) (c : List X) → length b ≡ n → slice_get (b ∷ cs) (at / n) ≡ Some c → (slice_get cs ((at - n) / n) ≡ Some c → joined (set cs ((at - n) / n) (set c ((at - n) % n) x)) ≡ set (joined cs) (at - n) x) → (at < n) ⊎ (n ≤ at) → joined (set (b ∷ cs) (at / n) (set c (at % n) x)) ≡ set (b ++ joined cs) at x
  set_by b cs at x c full here rest (inl h) =
      let own : b ≡ c = same_Some b c (ap (λ (q : ℕ). slice_get (b ∷ cs) q) (sym (first_place n some at h)) ∙ here) in
      ap (λ (q : ℕ). joined (set (b ∷ cs) q (set c (at % n) x))) (first_place n some at h) ∙ ap (λ (q : ℕ). set c q x ++ joined cs) (mod-eq_of_lt h) ∙
      ap (λ (l : List X). set l at x ++ joined cs) (sym own) ∙ sym (set-append_left b (joined cs) at x (omega arith))
  set_by b cs at x c full here rest (inr h) =
      let there : slice_get cs ((at - n) / n) ≡ Some c = ap (λ (q : ℕ). slice_get (b ∷ cs) q) (sym (next_place n some at h)) ∙ here in
      ap (λ (q : ℕ). joined (set (b ∷ cs) q (set c (at % n) x))) (next_place n some at h) ∙
      ap (λ (q : ℕ). b ++ joined (set cs ((at - n) / n) (set c q x))) (mod-eq-sub-mod h) ∙
      ap (λ (l : List X). b ++ l) (rest there) ∙ sym (set-append_right b (joined cs) n at x full h)

  set_joined : (cs : List (List X)) (at : ℕ) (x : X) (c : List X) → IsFull n cs → slice_get cs (at / n) ≡ Some c → joined (set cs (at / n) (set c (at % n) x)) ≡ set (joined cs) at x
  set_joined [] at x c full here = let f : None ≡ Some c = here in cc
  set_joined (b ∷ cs) at x c full here = set_by b cs at x c full.0 here (λ there. set_joined cs (at - n) x c full.1 there) (lower_or_not at n)

  pub changed : (cs : List (List X)) (at : ℕ) (x : X) (c d : List X) → IsFull n cs → Some c ≡ slice_get cs (at / n) → d ≡ set c (at % n) x → joined (set cs (at / n) d) ≡ set (joined cs) at x
  changed cs at x c d full here is = ap (λ (l : List X). joined (set cs (at / n) l)) is ∙ set_joined cs at x c full (sym here)

  pub full_changed : (cs : List (List X)) (at : ℕ) (x : X) (c d : List X) → IsFull n cs → Some c ≡ slice_get cs (at / n) → d ≡ set c (at % n) x → IsFull n (set cs (at / n) d)
  full_changed cs at x c d full here is =
      let e = ap (λ (l : List X). length l) is ∙ length-set c (at % n) x ∙ full_at n cs (at / n) c full (sym here) in
      full_set n cs (at / n) d full e
