-- Through which items the way to an address leads.
use Rattle.std.proofs.Common.{◌≡◌, suc, ◌+◌, List, [], ◌∷◌, ◌++◌, ◌⊎◌, inl, inr, length, refl, sym, ◌∙◌, ap, subst, arith, length-append}
use Rattle.std.proofs.lemmas.List.{append_assoc}
use Rattle.mx_value.specs.declared.label.Label.{Label}
use Rattle.mx_value.specs.declared.value.Value.{Value}
use Rattle.mx_value.specs.declared.value.Segment.{Segment, out-Segment}
use Rattle.mx_value.specs.declared.value.Segment.TheOpen.{Segment-F}
use Rattle.mx_value.specs.declared.value.Segment.TheVariants as segment
use Rattle.mx_meaning.specs.Namespaces.{Step}
use Rattle.mx_meaning.proofs.Walking.{out_name, out_item}
use Rattle.mx_suspended.specs.ItemsFirst.{PassesThrough}

same_head : {X : Type 0} (x y : X) (xs ys : List X) → x ∷ xs ≡ y ∷ ys → x ≡ y
same_head x y xs ys e = cc

same_rest : {X : Type 0} (x y : X) (xs ys : List X) → x ∷ xs ≡ y ∷ ys → xs ≡ ys
same_rest x y xs ys e = cc

-- An item in a list with one more at its end: it stands before the end, or it is the end.
pub found_before : (xs at behind : List Segment) (s t : Segment) → xs ++ s ∷ [] ≡ at ++ t ∷ behind → ((more : List Segment) × (xs ≡ at ++ t ∷ more)) ⊎ ((xs ≡ at) × (s ≡ t))
found_before [] [] behind s t e = inr (refl, same_head s t [] behind e)
found_before [] (a ∷ []) behind s t e = let none : [] ≡ t ∷ behind = same_rest s a [] (t ∷ behind) e in absurd (cc)
found_before [] (a ∷ b ∷ at) behind s t e = let none : [] ≡ b ∷ at ++ t ∷ behind = same_rest s a [] (b ∷ at ++ t ∷ behind) e in absurd (cc)
found_before (x ∷ xs) [] behind s t e = inl (xs, ap (λ y. y ∷ xs) (same_head x t (xs ++ s ∷ []) behind e))
found_before (x ∷ xs) (a ∷ at) behind s t e =
    let h : x ≡ a = same_head x a (xs ++ s ∷ []) (at ++ t ∷ behind) e in
    elim (found_before xs at behind s t (same_rest x a (xs ++ s ∷ []) (at ++ t ∷ behind) e)) [
      | inl p ↦ inl (p.0, ap (λ y. y ∷ xs) h ∙ ap (λ ys. a ∷ ys) p.1)
      | inr q ↦ inr (ap (λ y. y ∷ xs) h ∙ ap (λ ys. a ∷ ys) q.0, q.1)
    ]

same_step : (a b : List Value) → segment.Item a ≡ segment.Item b → a ≡ b
same_step a b e = let f : Segment-F.Item a ≡ Segment-F.Item b = sym (out_item a) ∙ ap out-Segment e ∙ out_item b in let g : item_in (Segment-F.Item a) ≡ item_in (Segment-F.Item b) = ap item_in f in g
  where
    item_in : Step → List Value
    item_in (Segment-F.Name name) = []
    item_in (Segment-F.Item args) = args

no_name : (name : Label) (args : List Value) → segment.Name name ≡ segment.Item args → ⊥
no_name name args e = let f : Segment-F.Name name ≡ Segment-F.Item args = sym (out_name name) ∙ ap out-Segment e ∙ out_item args in subst IsName f tt
  where
    IsName : Step → Type 0
    IsName (Segment-F.Name name) = Unit {0}
    IsName (Segment-F.Item args) = ⊥

module _ (at : List Segment) (args : List Value) where
  abbrev pub Passes : List Segment → Type 0
  Passes address = PassesThrough address at args

  -- the empty address leads through none
  pub none_on_top : Passes [] → ⊥
  none_on_top p = nothing at p.behind p.is
    where
      nothing : (xs behind : List Segment) → [] ≡ xs ++ segment.Item args ∷ behind → ⊥
      nothing [] behind e = absurd (cc)
      nothing (x ∷ xs) behind e = absurd (cc)

  -- what the way leads through, it leads through with one segment more
  pub stays_behind : (xs : List Segment) (s : Segment) → Passes xs → Passes (xs ++ s ∷ [])
  stays_behind xs s p = record { behind = p.behind ++ s ∷ []; is = ap (λ ys. ys ++ s ∷ []) p.is ∙ append_assoc at (segment.Item args ∷ p.behind) (s ∷ []) }

  -- a name at the end adds none
  pub name_adds_none : (xs : List Segment) (name : Label) → Passes (xs ++ segment.Name name ∷ []) → Passes xs
  name_adds_none xs name p =
      elim (found_before xs at p.behind (segment.Name name) (segment.Item args) p.is) [
        | inl h ↦ record { behind = h.0; is = h.1 }
        | inr h ↦ absurd (no_name name args h.1)
      ]

  -- an item at the end adds itself alone
  pub item_adds_itself : (xs : List Segment) (vs : List Value) → Passes (xs ++ segment.Item vs ∷ []) → Passes xs ⊎ ((xs ≡ at) × (vs ≡ args))
  item_adds_itself xs vs p =
      elim (found_before xs at p.behind (segment.Item vs) (segment.Item args) p.is) [
        | inl h ↦ inl (record { behind = h.0; is = h.1 })
        | inr h ↦ inr (h.0, same_step vs args h.1)
      ]

  -- the way to an item's own address does not lead through it
  pub not_its_own : Passes at → ⊥
  not_its_own p =
      let long : length at ≡ length at + suc (length p.behind) = ap length p.is ∙ length-append at (segment.Item args ∷ p.behind) in
      absurd (omega (arith, long))
