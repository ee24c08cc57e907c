-- The least of the first names, and the families without the children of that name.
use Rattle.std.proofs.Common.{◌≡◌, ℕ, zero, suc, ◌+◌, ◌<◌, Bool, true, false, List, [], ◌∷◌, ◌++◌, map, length, take, drop, get_or, slice_set, Option, Some, None, ◌⊎◌, inl, inr, refl, sym, ◌∙◌, ap, subst, arith, add-one}
use Rattle.std.specs.List.{filter_map, cons_option}
use Rattle.mx_value.specs.Name.{same_name}
use Rattle.mx_c3.specs.declared.space.SpaceId.{SpaceId}
use Rattle.mx_c3.specs.Lists.{Has}
use Rattle.mx_c3.proofs.ListLemmas.{has_left, has_right, has_push_cases}
use Rattle.mx_model.specs.Records.{Name}
use Rattle.mx_model.proofs.NameLemmas.{same_is, is_same}
use Rattle.std.proofs.lemmas.List.{take_more}
use Rattle.std.proofs.lemmas.List.Elements.{filter_map-append}
use Rattle.mx_paths.specs.declared.child.Child.{Child}
use Rattle.mx_paths.specs.Siblings.{Precedes, first, firsts, IsLeast}
use Rattle.mx_paths.specs.Walking.{families_in}
use Rattle.mx_paths.proofs.PathOrder.{bytes_cmp}
use Rattle.mx_paths.proofs.SiblingLemmas.{precedes_trans}
use Rattle.mx_paths.proofs.SortLemmas.{other_side}

pub least_alone : (c : Child) → IsLeast (c ∷ []) c.name
least_alone c = record {
  child = c;
  among = inl refl;
  is = refl;
  least = λ d h. elim h [ inl e ↦ inl (ap (λ (x : Child). x.name) e) | inr r ↦ absurd r ];
}

pub least_new : (cs : List Child) (name : Name) (c : Child) → IsLeast cs name → Precedes c.name name → IsLeast (cs ++ c ∷ []) c.name
least_new cs name c l p = record {
  child = c;
  among = has_right cs (c ∷ []) c (inl refl);
  is = refl;
  least = λ d h.
      elim (has_push_cases cs c d h) [
        | inl i ↦ elim (l.least d i) [
          | inl e ↦ inr (subst (λ (n : Name). Precedes c.name n) e p)
          | inr q ↦ inr (precedes_trans c.name name d.name p q)
        ]
        | inr e ↦ inl (ap (λ (x : Child). x.name) e)
      ];
}

level_by : (a b : Name) (t : Bool) → same_name a b ≡ t → (Precedes b a → ⊥) → (a ≡ b) ⊎ Precedes a b
level_by a b true e n = inl (same_is a b e)
level_by a b false e n = inr (other_side b a (bytes_cmp b a) refl n (λ i. let f : true ≡ false = sym (is_same a b (sym i)) ∙ e in cc))

pub least_old : (cs : List Child) (name : Name) (c : Child) → IsLeast cs name → (Precedes c.name name → ⊥) → IsLeast (cs ++ c ∷ []) name
least_old cs name c l n = record {
  child = l.child;
  among = has_left cs (c ∷ []) l.child l.among;
  is = l.is;
  least = λ d h.
      elim (has_push_cases cs c d h) [
        | inl i ↦ l.least d i
        | inr e ↦ subst (λ (x : Child). (name ≡ x.name) ⊎ Precedes name x.name) e (level_by name c.name (same_name name c.name) refl n)
      ];
}

pub append_nil : {X : Type 0} (xs : List X) → xs ++ [] ≡ xs
append_nil [] = refl
append_nil {X} (x ∷ xs) = ap (λ (ys : List X). x ∷ ys) (append_nil xs)

-- ---- one family more

pub one_more : {X Y : Type 0} (f : X → Option Y) (xs : List X) (i : ℕ) (d : X) (found : Option Y) → i < length xs → found ≡ f (get_or xs i d) → filter_map f (take (i + 1) xs) ≡ filter_map f (take i xs) ++ cons_option found []
one_more f xs i d found h e =
    ap (filter_map f) (take_more xs i d h) ∙ filter_map-append f (take i xs) (get_or xs i d ∷ []) ∙ ap (λ o. filter_map f (take i xs) ++ cons_option o []) (sym e)

pub firsts_none : (families : List (List Child)) (i : ℕ) (d : List Child) → i < length families → first (get_or families i d) ≡ None → firsts (take (i + 1) families) ≡ firsts (take i families)
firsts_none families i d h e = one_more first families i d None h (sym e) ∙ append_nil (firsts (take i families))

pub firsts_some : (families : List (List Child)) (i : ℕ) (d : List Child) (c : Child) → i < length families → first (get_or families i d) ≡ Some c → firsts (take (i + 1) families) ≡ firsts (take i families) ++ c ∷ []
firsts_some families i d c h e = one_more first families i d (Some c) h (sym e)

pub same_get : (xs : List (List Child)) (i : ℕ) (d e : List Child) → i < length xs → get_or xs i d ≡ get_or xs i e
same_get [] i d e l = absurd (omega arith)
same_get (x ∷ xs) zero d e l = refl
same_get (x ∷ xs) (suc i) d e l = same_get xs i d e (omega arith)

-- ---- families without children

none_by : (family : List Child) (families : List (List Child)) → firsts (family ∷ families) ≡ [] → (family ≡ []) × (firsts families ≡ [])
none_by [] families e = (refl, e)
none_by (c ∷ cs) families e = absurd (let i : c ∷ firsts families ≡ [] = e in cc)

pub none_has : (all : List (List Child)) (spaces : List SpaceId) (s : SpaceId) → firsts (families_in all spaces) ≡ [] → Has spaces s → get_or all s.0 [] ≡ []
none_has all [] s e h = absurd h
none_has all (x ∷ spaces) s e h =
    let n = none_by (get_or all x.0 []) (families_in all spaces) e in
    elim h [ inl i ↦ ap (λ (z : SpaceId). get_or all z.0 []) (sym i) ∙ n.0 | inr r ↦ none_has all spaces s n.1 r ]

pub none_more : (all : List (List Child)) (spaces : List SpaceId) (s : SpaceId) → firsts (families_in all spaces) ≡ [] → get_or all s.0 [] ≡ [] → firsts (families_in all (spaces ++ s ∷ [])) ≡ []
none_more all [] s e f = ap (λ (x : List Child). firsts (x ∷ [])) f
none_more all (x ∷ spaces) s e f =
    let n = none_by (get_or all x.0 []) (families_in all spaces) e in
    ap (λ (y : List Child). firsts (y ∷ families_in all (spaces ++ s ∷ []))) n.0 ∙ none_more all spaces s n.1 f

-- ---- families that are changed from the left

pub seam_get : (f : List Child → List Child) (families : List (List Child)) (i : ℕ) (d : List Child) → get_or (map f (take i families) ++ drop i families) i d ≡ get_or families i d
seam_get f [] zero d = refl
seam_get f [] (suc i) d = refl
seam_get f (x ∷ families) zero d = refl
seam_get f (x ∷ families) (suc i) d = seam_get f families i d

pub seam_set : (f : List Child → List Child) (families : List (List Child)) (i : ℕ) (d : List Child) → i < length families → slice_set (map f (take i families) ++ drop i families) i (f (get_or families i d)) ≡ map f (take (i + 1) families) ++ drop (i + 1) families
seam_set f families i d h = seam_by f families i d h ∙ ap (λ n. map f (take n families) ++ drop n families) (sym (add-one i))
  where
    seam_by : (f : List Child → List Child) (families : List (List Child)) (i : ℕ) (d : List Child) → i < length families → slice_set (map f (take i families) ++ drop i families) i (f (get_or families i d)) ≡ map f (take (suc i) families) ++ drop (suc i) families
    seam_by f [] i d h = absurd (omega arith)
    seam_by f (x ∷ families) zero d h = refl
    seam_by f (x ∷ families) (suc i) d h = ap (λ (xs : List (List Child)). f x ∷ xs) (seam_by f families i d (omega arith))
