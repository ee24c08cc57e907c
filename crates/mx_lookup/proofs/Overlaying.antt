-- Overlays in parts.
use Rattle.std.proofs.Common.{◌≡◌, ◌∙◌, ◌<◌, ◌≤◌, ◌+◌, ℕ, [], ◌∷◌, ◌++◌, Bool, true, false, length, take, drop, get_or, refl, sym, ap, append_assoc, add-one}
use Rattle.std.specs.Prelude.{if◌then◌else◌, slice_set}
use Rattle.std.proofs.lemmas.List.{drop_all, drop_more, set_split, take_more}
use Rattle.mx_value.specs.Name.{same_name}
use Rattle.mx_value.specs.declared.label.Label.{Label}
use Rattle.mx_value.specs.declared.value.Value.{Value}
use Rattle.mx_meaning.specs.Namespaces.{Overlay, overlaid, overlaid_by}

module _ (os : Overlay) (i : ℕ) (name : Label) (o : Label × Value) (within : i < length os) (is : o ≡ get_or os i o) where
  begun : drop i os ≡ o ∷ drop (i + 1) os
  begun = drop_more os i o within ∙ ap (λ (p : Label × Value). p ∷ drop (i + 1) os) (sym is)

  put : (v : Value) → take i os ++ (name, v) ∷ drop (i + 1) os ≡ slice_set os i (name, v)
  put v = rw add-one (sym (set_split os i (name, v) within))

  -- the name stands at this place
  pub overlaid_at : (v : Value) → o.0 ≡ name → same_name o.0 name ≡ true → overlaid os name v ≡ take i os ++ overlaid (drop i os) name v → overlaid os name v ≡ slice_set os i (name, v)
  overlaid_at v same e h =
      h ∙ ap (λ (ps : Overlay). take i os ++ overlaid ps name v) begun
      ∙ ap (λ (t : Bool). take i os ++ (if t then (o.0, v) ∷ drop (i + 1) os else o ∷ overlaid (drop (i + 1) os) name v)) e
      ∙ ap (λ (n : Label). take i os ++ (n, v) ∷ drop (i + 1) os) same
      ∙ put v

  -- another name stands there
  pub overlaid_more : (v : Value) → same_name o.0 name ≡ false → overlaid os name v ≡ take i os ++ overlaid (drop i os) name v → overlaid os name v ≡ take (i + 1) os ++ overlaid (drop (i + 1) os) name v
  overlaid_more v e h =
      h ∙ ap (λ (ps : Overlay). take i os ++ overlaid ps name v) begun
      ∙ ap (λ (t : Bool). take i os ++ (if t then (o.0, v) ∷ drop (i + 1) os else o ∷ overlaid (drop (i + 1) os) name v)) e
      ∙ sym (append_assoc (take i os) (o ∷ []) (overlaid (drop (i + 1) os) name v))
      ∙ ap (λ (ps : Overlay). ps ++ overlaid (drop (i + 1) os) name v) (ap (λ (p : Label × Value). take i os ++ p ∷ []) is ∙ sym (take_more os i o within))

-- the name stands nowhere
pub overlaid_last : (os : Overlay) (i : ℕ) (name : Label) (v : Value) → length os ≤ i → take i os ≡ os → overlaid os name v ≡ take i os ++ overlaid (drop i os) name v → overlaid os name v ≡ os ++ (name, v) ∷ []
overlaid_last os i name v h all e = e ∙ ap (λ (ps : Overlay). take i os ++ overlaid ps name v) (drop_all i os h) ∙ ap (λ (ps : Overlay). ps ++ (name, v) ∷ []) all

-- one more
pub overlaid_by_more : (under more : Overlay) (i : ℕ) (o : Label × Value) → i < length more → o ≡ get_or more i o → overlaid_by under (take (i + 1) more) ≡ overlaid (overlaid_by under (take i more)) o.0 o.1
overlaid_by_more under more i o within is = ap (λ (ps : Overlay). overlaid_by under ps) (take_more more i o within ∙ ap (λ (p : Label × Value). take i more ++ p ∷ []) (sym is)) ∙ behind_all under (take i more)
  where
    behind_all : (under all : Overlay) → overlaid_by under (all ++ o ∷ []) ≡ overlaid (overlaid_by under all) o.0 o.1
    behind_all under [] = refl
    behind_all under (p ∷ ps) = behind_all (overlaid under p.0 p.1) ps
