-- A roll-back drops what was held later, and nothing else.
use Rattle.std.proofs.Common.{◌≡◌, ◌∙◌, ℕ, ◌<◌, ◌≤◌, List, [], ◌∷◌, ◌++◌, refl, sym, ap, subst, arith, ◌⊎◌, inl, inr}
use Rattle.mx_vertices.specs.Places.{Has}
use Rattle.mx_vertices.specs.Kept.{Kept, asked, IsHeld, IsTouched, Here, ByAsk, Sifts, Done, Keeps, Drops}
use Rattle.mx_memo.specs.Restoring.{AskBefore, AreApart}

pub has_front : (xs ys : List Kept) (r : Kept) → Has xs r → Has (xs ++ ys) r
has_front [] ys r h = absurd h
has_front (x ∷ xs) ys r h = elim h [ inl e ↦ inl e | inr i ↦ inr (has_front xs ys r i) ]

pub has_rest : (xs ys : List Kept) (r : Kept) → Has ys r → Has (xs ++ ys) r
has_rest [] ys r h = h
has_rest (x ∷ xs) ys r h = inr (has_rest xs ys r h)

pub one_entry : (rs : List Kept) → AreApart rs → (r s : Kept) → Has rs r → Has rs s → r.id ≡ s.id → r ≡ s
one_entry [] a r s h k e = absurd h
one_entry (x ∷ rs) a r s h k e =
    elim h [
      | inl i ↦ elim k [
        | inl j ↦ sym i ∙ j
        | inr j ↦ absurd (a.0 s j (ap (λ (y : Kept). y.id) i ∙ e))
      ]
      | inr i ↦ elim k [
        | inl j ↦ absurd (a.0 r i (ap (λ (y : Kept). y.id) j ∙ sym e))
        | inr j ↦ one_entry rs a.1 r s i j e
      ]
    ]

pub asks_front : (before : List ℕ) (held more : List Kept) → AskBefore before (held ++ more) → (r : Kept) → Has held r → (m : ℕ) → Has r.sources (asked m) → Has before m ⊎ IsHeld held m
asks_front before [] more a r h m k = absurd h
asks_front before (x ∷ held) more a r h m k =
    elim h [
      | inl e ↦ inl (a.0 m (subst (λ (y : Kept). Has y.sources (asked m)) (sym e) k))
      | inr i ↦ elim (asks_front (x.id ∷ before) held more a.1 r i m k) [
        | inl j ↦ elim j [ inl e ↦ inr (record { entry = x; among = inl refl; is = e }) | inr b ↦ inl b ]
        | inr s ↦ inr (record { entry = s.entry; among = inr s.among; is = s.is })
      ]
    ]

module _ (stamp : ℕ) (held more : List Kept) (early : (r : Kept) → Has held r → r.stamp ≤ stamp) (late : (r : Kept) → Has more r → stamp < r.stamp) (apart : AreApart (held ++ more)) (order : AskBefore [] (held ++ more)) where
  abbrev pub Out : ℕ → Type 0
  Out = IsTouched (λ r. stamp < r.stamp) (held ++ more)

  untouched : (q : ℕ) → Out q → (r : Kept) → Has held r → r.id ≡ q → ⊥
  untouched q (Here s h c) r k e =
      let same : r ≡ s = one_entry (held ++ more) apart r s (has_front held more r k) h e in
      let late : stamp < r.stamp = subst (λ (y : Kept). stamp < y.stamp) (sym same) c in
      let l = early r k in
      omega arith
  untouched q (ByAsk s h m a t) r k e =
      let same : r ≡ s = one_entry (held ++ more) apart r s (has_front held more r k) h e in
      elim (asks_front [] held more order r k m (subst (λ (y : Kept). Has y.sources (asked m)) (sym same) a)) [
        | inl z ↦ z
        | inr f ↦ untouched m t f.entry f.among f.is
      ]

  none_left : (rs ks : List Kept) → Sifts Out rs ks → ((r : Kept) → Has rs r → Out r.id) → ks ≡ []
  none_left rs ks Done h = refl
  none_left rs ks (Keeps r rest left n s) h = absurd (n (h r (inl refl)))
  none_left rs ks (Drops r rest left o s) h = none_left rest left s (λ x i. h x (inr i))

  front_left : (hs rs ks : List Kept) → rs ≡ hs ++ more → Sifts Out rs ks → ((r : Kept) → Has hs r → Has held r) → ks ≡ hs
  front_left [] rs ks e s h = none_left rs ks s (λ r i. Here r (has_rest held more r (subst (λ xs. Has xs r) e i)) (late r (subst (λ xs. Has xs r) e i)))
  front_left (x ∷ hs) rs ks e Done h = cc
  front_left (x ∷ hs) rs ks e (Keeps r rest left n s) h =
      let same : r ≡ x = cc in
      let tail : rest ≡ hs ++ more = cc in
      let ih : left ≡ hs = front_left hs rest left tail s (λ y i. h y (inr i)) in
      cc
  front_left (x ∷ hs) rs ks e (Drops r rest left o s) h =
      let same : r ≡ x = cc in
      absurd (untouched r.id o x (h x (inl refl)) (ap (λ (y : Kept). y.id) (sym same)))

pub restores : (stamp : ℕ) (held more kept : List Kept) → ((r : Kept) → Has held r → r.stamp ≤ stamp) → ((r : Kept) → Has more r → stamp < r.stamp) → AreApart (held ++ more) → AskBefore [] (held ++ more) → Sifts (IsTouched (λ r. stamp < r.stamp) (held ++ more)) (held ++ more) kept → kept ≡ held
restores stamp held more kept early late apart order s = front_left stamp held more early late apart order held (held ++ more) kept refl s (λ r i. i)
