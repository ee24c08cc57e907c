-- Lists of members by key: what a definition and a removal leave.
use Rattle.std.proofs.Common.{◌≡◌, Bool, true, false, List, [], ◌∷◌, map, ◌⊎◌, inl, inr, refl, sym, ◌∙◌, ap}
use Rattle.std.specs.Prelude.{if◌then◌else◌}
use Rattle.mx_c3.specs.Lists.{Has, Distinct}
use Rattle.mx_model.specs.Change.{define, without}

module _ {K X : Type 0} (same : K → K → Bool) (is : (a b : K) → same a b ≡ true → a ≡ b) (so : (a b : K) → a ≡ b → same a b ≡ true) where
  abbrev pub keys : List (K × X) → List K
  keys ms = map (λ (m : K × X). m.0) ms

  defined_by : (b : Bool) (m : K × X) (ms rest : List (K × X)) (key : K) (x : X) (n : K × X) → same key m.0 ≡ b → (Has rest n → Has ms n ⊎ ((n.0 ≡ key) × (n.1 ≡ x))) → Has (if b then (m.0, x) ∷ ms else m ∷ rest) n → Has (m ∷ ms) n ⊎ ((n.0 ≡ key) × (n.1 ≡ x))
  defined_by true m ms rest key x n e f h =
      elim h [
        | inl i ↦ inr (ap (λ (z : K × X). z.0) (sym i) ∙ sym (is key m.0 e), ap (λ (z : K × X). z.1) (sym i))
        | inr r ↦ inl (inr r)
      ]
  defined_by false m ms rest key x n e f h = elim h [ inl i ↦ inl (inl i) | inr r ↦ elim (f r) [ inl o ↦ inl (inr o) | inr q ↦ inr q ] ]

  -- what is defined is what was there, and the value of the key
  pub define_has : (ms : List (K × X)) (key : K) (x : X) (n : K × X) → Has (define same ms key x) n → Has ms n ⊎ ((n.0 ≡ key) × (n.1 ≡ x))
  define_has [] key x n h = elim h [ inl i ↦ inr (ap (λ (z : K × X). z.0) (sym i), ap (λ (z : K × X). z.1) (sym i)) | inr r ↦ absurd r ]
  define_has (m ∷ ms) key x n h = defined_by (same key m.0) m ms (define same ms key x) key x n refl (define_has ms key x n) h

  keyed_by : (b : Bool) (m : K × X) (ms rest : List (K × X)) (key : K) (x : X) (k : K) → (Has (keys rest) k → Has (keys ms) k ⊎ (k ≡ key)) → Has (keys (if b then (m.0, x) ∷ ms else m ∷ rest)) k → Has (keys (m ∷ ms)) k ⊎ (k ≡ key)
  keyed_by true m ms rest key x k f h = inl h
  keyed_by false m ms rest key x k f h = elim h [ inl i ↦ inl (inl i) | inr r ↦ elim (f r) [ inl o ↦ inl (inr o) | inr q ↦ inr q ] ]

  pub define_keys : (ms : List (K × X)) (key : K) (x : X) (k : K) → Has (keys (define same ms key x)) k → Has (keys ms) k ⊎ (k ≡ key)
  define_keys [] key x k h = elim h [ inl i ↦ inr (sym i) | inr r ↦ absurd r ]
  define_keys (m ∷ ms) key x k h = keyed_by (same key m.0) m ms (define same ms key x) key x k (define_keys ms key x k) h

  once_by : (b : Bool) (m : K × X) (ms rest : List (K × X)) (key : K) (x : X) → same key m.0 ≡ b → (Has (keys rest) m.0 → Has (keys ms) m.0 ⊎ (m.0 ≡ key)) → Distinct (keys rest) → Distinct (keys (m ∷ ms)) → Distinct (keys (if b then (m.0, x) ∷ ms else m ∷ rest))
  once_by true m ms rest key x e f r d = d
  once_by false m ms rest key x e f r d = (λ h. elim (f h) [ inl o ↦ d.0 o | inr q ↦ (let g : true ≡ false = sym (so key m.0 (sym q)) ∙ e in cc) ], r)

  pub define_once : (ms : List (K × X)) (key : K) (x : X) → Distinct (keys ms) → Distinct (keys (define same ms key x))
  define_once [] key x d = (λ h. h, tt)
  define_once (m ∷ ms) key x d = once_by (same key m.0) m ms (define same ms key x) key x refl (define_keys ms key x m.0) (define_once ms key x d.1) d

  left_by : (b : Bool) (m : K × X) (ms rest : List (K × X)) (n : K × X) → (Has rest n → Has ms n) → Has (if b then ms else m ∷ rest) n → Has (m ∷ ms) n
  left_by true m ms rest n f h = inr h
  left_by false m ms rest n f h = elim h [ inl i ↦ inl i | inr r ↦ inr (f r) ]

  pub without_has : (ms : List (K × X)) (key : K) (n : K × X) → Has (without same ms key) n → Has ms n
  without_has [] key n h = h
  without_has (m ∷ ms) key n h = left_by (same key m.0) m ms (without same ms key) n (without_has ms key n) h

  left_key : (b : Bool) (m : K × X) (ms rest : List (K × X)) (k : K) → (Has (keys rest) k → Has (keys ms) k) → Has (keys (if b then ms else m ∷ rest)) k → Has (keys (m ∷ ms)) k
  left_key true m ms rest k f h = inr h
  left_key false m ms rest k f h = elim h [ inl i ↦ inl i | inr r ↦ inr (f r) ]

  pub without_keys : (ms : List (K × X)) (key k : K) → Has (keys (without same ms key)) k → Has (keys ms) k
  without_keys [] key k h = h
  without_keys (m ∷ ms) key k h = left_key (same key m.0) m ms (without same ms key) k (without_keys ms key k) h

  left_once : (b : Bool) (m : K × X) (ms rest : List (K × X)) → (Has (keys rest) m.0 → Has (keys ms) m.0) → Distinct (keys rest) → Distinct (keys (m ∷ ms)) → Distinct (keys (if b then ms else m ∷ rest))
  left_once true m ms rest f r d = d.1
  left_once false m ms rest f r d = (λ h. d.0 (f h), r)

  pub without_once : (ms : List (K × X)) (key : K) → Distinct (keys ms) → Distinct (keys (without same ms key))
  without_once [] key d = tt
  without_once (m ∷ ms) key d = left_once (same key m.0) m ms (without same ms key) (without_keys ms key m.0) (without_once ms key d.1) d
