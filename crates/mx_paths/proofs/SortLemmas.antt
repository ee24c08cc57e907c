-- How children are entered in the order of their names.
use Rattle.std.proofs.Common.{◌≡◌, ℕ, zero, suc, ◌+◌, ◌<◌, ◌≤◌, Bool, true, false, List, [], ◌∷◌, ◌++◌, length, take, drop, get_or, Option, Some, None, ◌⊎◌, inl, inr, refl, sym, ◌∙◌, ap, subst, arith}
use Rattle.std.specs.Ordering.{ordering_reverse}
use Rattle.std.specs.declared.cmp.Ordering.{Ordering}
use Rattle.std.specs.declared.cmp.Ordering.TheVariants.{Less, Equal, Greater}
use Rattle.std.specs.Cmp.Lexicographic.{nat_list_cmp_total}
use Rattle.mx_value.specs.Name.{same_name}
use Rattle.mx_c3.specs.declared.space.SpaceId.{SpaceId}
use Rattle.mx_c3.specs.Lists.{Has}
use Rattle.mx_c3.proofs.ListLemmas.{has_cases, has_more}
use Rattle.mx_model.specs.Records.{Name}
use Rattle.mx_model.proofs.NameLemmas.{same_is}
use Rattle.mx_paths.specs.declared.child.Child.{Child}
use Rattle.mx_paths.specs.Siblings.{Precedes, IsRising, named}
use Rattle.mx_paths.specs.Sorting.{IsEntered, IsPlace, IsBetween}
use Rattle.mx_paths.proofs.PathOrder.{bytes_cmp, name_same}
use Rattle.mx_paths.proofs.SiblingLemmas.{chosen, precedes_trans, some_named}

-- ---- names

pub other_side : (a b : Name) (o : Ordering) → bytes_cmp a b ≡ o → (Precedes a b → ⊥) → (a ≡ b → ⊥) → Precedes b a
other_side a b Less e n m = absurd (n e)
other_side a b Equal e n m = absurd (m (name_same a b e))
other_side a b Greater e n m = nat_list_cmp_total.antisymm b a ∙ ap ordering_reverse e

none_here : (name : Name) (cs : List Child) (c : Child) → named name cs ≡ None → Has cs c → name ≡ c.name → ⊥
none_here name cs c e h i = let m = some_named name cs c h (sym i) in let f : None ≡ Some m.0 = sym e ∙ m.1 in cc

-- ---- the place of a name

take_in : (cs : List Child) (i : ℕ) (c : Child) → Has (take i cs) c → Has cs c
take_in cs zero c h = absurd h
take_in [] (suc i) c h = absurd h
take_in (x ∷ cs) (suc i) c h = elim h [ inl e ↦ inl e | inr r ↦ inr (take_in cs i c r) ]

drop_in : (cs : List Child) (i : ℕ) (c : Child) → Has (drop i cs) c → Has cs c
drop_in cs zero c h = h
drop_in [] (suc i) c h = absurd h
drop_in (x ∷ cs) (suc i) c h = inr (drop_in cs i c h)

at_in : (cs : List Child) (i : ℕ) (d : Child) → i < length cs → Has cs (get_or cs i d)
at_in [] i d l = absurd (omega arith)
at_in (x ∷ cs) zero d l = inl refl
at_in (x ∷ cs) (suc i) d l = inr (at_in cs i d (omega arith))

rising_take : (cs : List Child) (i : ℕ) (d c : Child) → IsRising cs → i < length cs → Has (take i cs) c → Precedes c.name ((get_or cs i d).name)
rising_take cs zero d c r l h = absurd h
rising_take [] (suc i) d c r l h = absurd h
rising_take (x ∷ cs) (suc i) d c r l h =
    let m : i < length cs = omega arith in
    elim h [
      | inl e ↦ subst (λ (z : Child). Precedes z.name ((get_or cs i d).name)) e (r.0 (get_or cs i d) (at_in cs i d m))
      | inr k ↦ rising_take cs i d c r.1 m k
    ]

rising_drop : (cs : List Child) (i : ℕ) (d c : Child) → IsRising cs → i < length cs → Has (drop i cs) c → (get_or cs i d ≡ c) ⊎ Precedes ((get_or cs i d).name) c.name
rising_drop [] i d c r l h = absurd (omega arith)
rising_drop (x ∷ cs) zero d c r l h = elim h [ inl e ↦ inl e | inr k ↦ inr (r.0 c k) ]
rising_drop (x ∷ cs) (suc i) d c r l h = rising_drop cs i d c r.1 (omega arith) h

pub up : (cs : List Child) (name : Name) (low high middle : ℕ) (d : Child) → IsRising cs → IsBetween cs name low high → middle < high → Precedes ((get_or cs middle d).name) name → IsBetween cs name (middle + 1) high
up cs name low high middle d r b l p =
    let within = b.within in
    let m : middle < length cs = omega arith in
    record {
      ordered = omega arith;
      within = b.within;
      before = λ c h.
          elim (has_more cs middle d c m h) [
            | inl i ↦ precedes_trans c.name ((get_or cs middle d).name) name (rising_take cs middle d c r m i) p
            | inr e ↦ subst (λ (z : Child). Precedes z.name name) e p
          ];
      behind = b.behind;
    }

pub down : (cs : List Child) (name : Name) (low high middle : ℕ) (d : Child) → IsRising cs → IsBetween cs name low high → low ≤ middle → middle < high → (Precedes ((get_or cs middle d).name) name → ⊥) → IsBetween cs name low middle
down cs name low high middle d r b k l n =
    let within = b.within in
    let m : middle < length cs = omega arith in
    record {
      ordered = k;
      within = omega arith;
      before = b.before;
      behind = λ c h p.
          elim (rising_drop cs middle d c r m h) [
            | inl e ↦ n (subst (λ (z : Child). Precedes z.name name) (sym e) p)
            | inr q ↦ n (precedes_trans ((get_or cs middle d).name) c.name name q p)
          ];
    }

pub between_all : (cs : List Child) (name : Name) → IsBetween cs name 0 (length cs)
between_all cs name = record {
  ordered = omega arith;
  within = omega arith;
  before = λ c h. absurd h;
  behind = λ c h. absurd (none_behind cs c h);
}
  where
    none_behind : (cs : List Child) (c : Child) → Has (drop (length cs) cs) c → ⊥
    none_behind [] c h = h
    none_behind (x ∷ cs) c h = none_behind cs c h

-- ---- a child at its place

rising_by : (cs : List Child) (i : ℕ) (child : Child) → IsRising cs → ((c : Child) → Has (take i cs) c → Precedes c.name child.name) → ((c : Child) → Has (drop i cs) c → Precedes child.name c.name) → IsRising (take i cs ++ child ∷ drop i cs)
rising_by cs zero child r before behind = (behind, r)
rising_by [] (suc i) child r before behind = ((λ d h. absurd h), tt)
rising_by (c ∷ cs) (suc i) child r before behind = (
  λ d h.
      elim (has_cases (take i cs) (child ∷ drop i cs) d h) [
        | inl j ↦ r.0 d (take_in cs i d j)
        | inr j ↦ elim j [ inl e ↦ subst (λ (z : Child). Precedes c.name z.name) e (before c (inl refl)) | inr k ↦ r.0 d (drop_in cs i d k) ]
      ],
  rising_by cs i child r.1 (λ d h. before d (inr h)) behind,
)

named_by : (n : Name) (c child : Child) (found : Option SpaceId) (a b : Bool) → same_name n child.name ≡ a → same_name n c.name ≡ b → (child.name ≡ c.name → ⊥) → chosen b (Some c.space) (chosen a (Some child.space) found) ≡ chosen a (Some child.space) (chosen b (Some c.space) found)
named_by n c child found true true e f apart = absurd (apart (sym (same_is n child.name e) ∙ same_is n c.name f))
named_by n c child found true false e f apart = refl
named_by n c child found false true e f apart = refl
named_by n c child found false false e f apart = refl

entered_named : (cs : List Child) (i : ℕ) (child : Child) (n : Name) → ((c : Child) → Has cs c → child.name ≡ c.name → ⊥) → named n (take i cs ++ child ∷ drop i cs) ≡ chosen (same_name n child.name) (Some child.space) (named n cs)
entered_named cs zero child n apart = refl
entered_named [] (suc i) child n apart = refl
entered_named (c ∷ cs) (suc i) child n apart =
    ap (chosen (same_name n c.name) (Some c.space)) (entered_named cs i child n (λ d h. apart d (inr h))) ∙
    named_by n c child (named n cs) (same_name n child.name) (same_name n c.name) refl refl (apart c (inl refl))

pub entered : (cs : List Child) (place : ℕ) (child : Child) → IsRising cs → IsPlace cs child.name place → named child.name cs ≡ None → IsEntered child cs (take place cs ++ child ∷ drop place cs)
entered cs place child r at none = record {
  rising = rising_by cs place child r at.before (λ c h.
      let n = λ (e : c.name ≡ child.name). none_here child.name cs c none (drop_in cs place c h) (sym e) in
      other_side c.name child.name (bytes_cmp c.name child.name) refl (at.behind c h) n);
  has = λ n. entered_named cs place child n (λ c h e. none_here child.name cs c none h e);
}
