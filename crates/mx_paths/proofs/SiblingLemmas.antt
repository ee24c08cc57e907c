-- Families that are gone through together, by the least of their first names.
use Rattle.std.proofs.Common.{◌≡◌, ◌-◌, ◌<◌, ◌≤◌, Bool, true, false, List, [], ◌∷◌, map, length, take, drop, Option, Some, None, ◌⊎◌, inl, inr, refl, sym, ◌∙◌, ap, subst, arith}
use Rattle.std.proofs.lemmas.Option.{same_Some}
use Rattle.std.proofs.lemmas.List.{take_all}
use Rattle.std.specs.Prelude.{if◌then◌else◌}
use Rattle.std.specs.List.{filter_map, cons_option}
use Rattle.std.specs.declared.cmp.Ordering.TheVariants.{Less, Equal}
use Rattle.std.specs.Cmp.Lexicographic.{nat_list_cmp_total}
use Rattle.std.proofs.lemmas.Cmp.{tied_itself}
use Rattle.mx_value.specs.Name.{same_name}
use Rattle.mx_c3.specs.declared.space.SpaceId.{SpaceId}
use Rattle.mx_c3.specs.Lists.{Has, Among}
use Rattle.mx_model.specs.Records.{Name}
use Rattle.mx_model.proofs.NameLemmas.{same_is, is_same}
use Rattle.mx_paths.specs.declared.child.Child.{Child}
use Rattle.mx_paths.specs.Siblings.{Precedes, IsRising, named, all_named, first, others, firsts, first_named, without_first, IsLeast}

pub not_itself : (a : Name) → Precedes a a → ⊥
not_itself a p = let e = tied_itself nat_list_cmp_total a in let f : Less ≡ Equal = sym p ∙ e in cc

pub precedes_trans : (a b c : Name) → Precedes a b → Precedes b c → Precedes a c
precedes_trans a b c p q = nat_list_cmp_total.trans a b c p q

not_same_by : (a b : Name) (t : Bool) → same_name a b ≡ t → (a ≡ b → ⊥) → same_name a b ≡ false
not_same_by a b true e n = absurd (n (same_is a b e))
not_same_by a b false e n = e

pub not_same : (a b : Name) → (a ≡ b → ⊥) → same_name a b ≡ false
not_same a b n = not_same_by a b (same_name a b) refl n

before_other : (a b : Name) → Precedes a b → a ≡ b → ⊥
before_other a b p e = not_itself b (subst (λ (x : Name). Precedes x b) e p)

abbrev pub chosen : {X : Type 0} → Bool → X → X → X
chosen b x y = if b then x else y

-- ---- one family

-- the name is none of these
pub none_named : (name : Name) (cs : List Child) → ((c : Child) → Has cs c → name ≡ c.name → ⊥) → named name cs ≡ None
none_named name [] n = refl
none_named name (c ∷ cs) n =
    ap (λ b. chosen b (Some c.space) (named name cs)) (not_same name c.name (n c (inl refl))) ∙ none_named name cs (λ d h. n d (inr h))

pub record Named (name : Name) (cs : List Child) (s : SpaceId) : Type 0 where
  pub child : Child
  pub among : Has cs child
  pub called : child.name ≡ name
  pub is : child.space ≡ s

named_by : (name : Name) (c : Child) (cs : List Child) (s : SpaceId) (b : Bool) → same_name name c.name ≡ b → chosen b (Some c.space) (named name cs) ≡ Some s → (named name cs ≡ Some s → Named name cs s) → Named name (c ∷ cs) s
named_by name c cs s true e t rest = record { child = c; among = inl refl; called = sym (same_is name c.name e); is = let f : c.space ≡ s = cc in f }
named_by name c cs s false e t rest = let m = rest t in record { child = m.child; among = inr m.among; called = m.called; is = m.is }

pub has_named : (name : Name) (cs : List Child) (s : SpaceId) → named name cs ≡ Some s → Named name cs s
has_named name [] s e = absurd (let f : None ≡ Some s = e in cc)
has_named name (c ∷ cs) s e = named_by name c cs s (same_name name c.name) refl e (λ f. has_named name cs s f)

-- no name stands before this one
abbrev pub IsLow : Name → List Child → Type 0
IsLow name cs = (c : Child) → Has cs c → (name ≡ c.name) ⊎ Precedes name c.name

low_rest : (name : Name) (c : Child) (cs : List Child) → IsRising (c ∷ cs) → (name ≡ c.name) ⊎ Precedes name c.name → (d : Child) → Has cs d → Precedes name d.name
low_rest name c cs r l d h =
    elim l [ inl e ↦ subst (λ (x : Name). Precedes x d.name) (sym e) (r.0 d h) | inr p ↦ precedes_trans name c.name d.name p (r.0 d h) ]

low_all : (name : Name) (cs : List Child) → IsRising cs → ((c : Child) → first cs ≡ Some c → (name ≡ c.name) ⊎ Precedes name c.name) → IsLow name cs
low_all name [] r l c h = absurd h
low_all name (c ∷ cs) r l d h =
    let low = l c refl in
    elim h [ inl e ↦ subst (λ (x : Child). (name ≡ x.name) ⊎ Precedes name x.name) e low | inr i ↦ inr (low_rest name c cs r low d i) ]

first_is_by : (name : Name) (c : Child) (cs : List Child) (b : Bool) → same_name name c.name ≡ b → named name cs ≡ None → first_named name (c ∷ cs) ≡ named name (c ∷ cs)
first_is_by name c cs true e n = ap (λ b. chosen b (Some c.space) None) e ∙ sym (ap (λ b. chosen b (Some c.space) (named name cs)) e)
first_is_by name c cs false e n = ap (λ b. chosen b (Some c.space) None) e ∙ sym n ∙ sym (ap (λ b. chosen b (Some c.space) (named name cs)) e)

-- where none stands before, the first decides
first_is : (name : Name) (cs : List Child) → IsRising cs → IsLow name cs → first_named name cs ≡ named name cs
first_is name [] r l = refl
first_is name (c ∷ cs) r l =
    first_is_by name c cs (same_name name c.name) refl (none_named name cs (λ d h e. before_other name d.name (low_rest name c cs r (l c (inl refl)) d h) e))

without_by : (name : Name) (c : Child) (cs : List Child) (d : Child) (b : Bool) → same_name name c.name ≡ b → IsRising (c ∷ cs) → (name ≡ c.name) ⊎ Precedes name c.name → Has (chosen b cs (c ∷ cs)) d → Precedes name d.name
without_by name c cs d true e r l h = low_rest name c cs r l d h
without_by name c cs d false e r l h =
    let above : Precedes name c.name = elim l [ inl i ↦ absurd (let f : true ≡ false = sym (is_same name c.name i) ∙ e in cc) | inr p ↦ p ] in
    elim h [ inl i ↦ subst (λ (x : Child). Precedes name x.name) i above | inr i ↦ low_rest name c cs r l d i ]

-- what stays stands behind the name
without_above : (name : Name) (cs : List Child) → IsRising cs → IsLow name cs → (d : Child) → Has (without_first name cs) d → Precedes name d.name
without_above name [] r l d h = absurd h
without_above name (c ∷ cs) r l d h = without_by name c cs d (same_name name c.name) refl r (l c (inl refl)) h

stays_by : (name : Name) (c : Child) (cs : List Child) (d : Child) (b : Bool) → Has (chosen b cs (c ∷ cs)) d → Has (c ∷ cs) d
stays_by name c cs d true h = inr h
stays_by name c cs d false h = h

without_has : (name : Name) (cs : List Child) (d : Child) → Has (without_first name cs) d → Has cs d
without_has name [] d h = absurd h
without_has name (c ∷ cs) d h = stays_by name c cs d (same_name name c.name) h

rising_by : (c : Child) (cs : List Child) (b : Bool) → IsRising (c ∷ cs) → IsRising (chosen b cs (c ∷ cs))
rising_by c cs true r = r.1
rising_by c cs false r = r

pub without_rising : (name : Name) (cs : List Child) → IsRising cs → IsRising (without_first name cs)
without_rising name [] r = tt
without_rising name (c ∷ cs) r = rising_by c cs (same_name name c.name) r

other_by : (name other : Name) (c : Child) (cs : List Child) (b : Bool) → same_name name c.name ≡ b → (other ≡ name → ⊥) → named other (chosen b cs (c ∷ cs)) ≡ named other (c ∷ cs)
other_by name other c cs true e n =
    sym (ap (λ b. chosen b (Some c.space) (named other cs)) (not_same other c.name (λ i. n (i ∙ sym (same_is name c.name e)))))
other_by name other c cs false e n = refl

other_named : (name other : Name) (cs : List Child) → (other ≡ name → ⊥) → named other (without_first name cs) ≡ named other cs
other_named name other [] n = refl
other_named name other (c ∷ cs) n = other_by name other c cs (same_name name c.name) refl n

-- ---- all families

abbrev pub AreRising : List (List Child) → Type 0
AreRising families = (family : List Child) → Has families family → IsRising family

abbrev pub AreLow : Name → List (List Child) → Type 0
AreLow name families = (family : List Child) → Has families family → IsLow name family

first_has : (families : List (List Child)) (family : List Child) (c : Child) → Has families family → first family ≡ Some c → Has (firsts families) c
first_has [] family c h e = absurd h
first_has (f ∷ families) family c h e =
    elim h [ inl i ↦ head_has (first f) (firsts families) c (ap first i ∙ e) | inr r ↦ behind_has (first f) (firsts families) c (first_has families family c r e) ]
  where
    head_has : (o : Option Child) (cs : List Child) (c : Child) → o ≡ Some c → Has (cons_option o cs) c
    head_has None cs c e = absurd (let f : None ≡ Some c = e in cc)
    head_has (Some d) cs c e = inl (let f : d ≡ c = cc in f)

    behind_has : (o : Option Child) (cs : List Child) (c : Child) → Has cs c → Has (cons_option o cs) c
    behind_has None cs c h = h
    behind_has (Some d) cs c h = inr h

-- the least of the first names is the least of all
pub least_low : (families : List (List Child)) (name : Name) → AreRising families → IsLeast (firsts families) name → AreLow name families
least_low families name rising least family h =
    low_all name family (rising family h) (λ c e. least.least c (first_has families family c h e))

pub low_among : (families : List (List Child)) (name : Name) (c : Child) → AreRising families → AreLow name families → Among families c → (name ≡ c.name) ⊎ Precedes name c.name
low_among [] name c rising low h = absurd h
low_among (f ∷ families) name c rising low h =
    elim h [ inl i ↦ low f (inl refl) c i | inr r ↦ low_among families name c (λ g j. rising g (inr j)) (λ g j. low g (inr j)) r ]

pub taken_is : (families : List (List Child)) (name : Name) → AreRising families → AreLow name families → filter_map (first_named name) families ≡ all_named families name
taken_is [] name rising low = refl
taken_is (f ∷ families) name rising low =
    ap (λ o. cons_option o (filter_map (first_named name) families)) (first_is name f (rising f (inl refl)) (low f (inl refl))) ∙
    ap (cons_option (named name f)) (taken_is families name (λ g h. rising g (inr h)) (λ g h. low g (inr h)))

pub left_rising : (families : List (List Child)) (name : Name) → AreRising families → AreRising (map (without_first name) families)
left_rising [] name rising g h = absurd h
left_rising (f ∷ families) name rising g h =
    elim h [
      | inl e ↦ subst IsRising e (without_rising name f (rising f (inl refl)))
      | inr i ↦ left_rising families name (λ k j. rising k (inr j)) g i
    ]

pub left_among : (families : List (List Child)) (name : Name) (c : Child) → Among (map (without_first name) families) c → Among families c
left_among [] name c h = absurd h
left_among (f ∷ families) name c h = elim h [ inl i ↦ inl (without_has name f c i) | inr r ↦ inr (left_among families name c r) ]

pub left_above : (families : List (List Child)) (name : Name) → AreRising families → AreLow name families → (c : Child) → Among (map (without_first name) families) c → Precedes name c.name
left_above [] name rising low c h = absurd h
left_above (f ∷ families) name rising low c h =
    elim h [
      | inl i ↦ without_above name f (rising f (inl refl)) (low f (inl refl)) c i
      | inr r ↦ left_above families name (λ g j. rising g (inr j)) (λ g j. low g (inr j)) c r
    ]

pub left_other : (families : List (List Child)) (name other : Name) → (other ≡ name → ⊥) → all_named (map (without_first name) families) other ≡ all_named families other
left_other [] name other n = refl
left_other (f ∷ families) name other n =
    ap (λ o. cons_option o (all_named (map (without_first name) families) other)) (other_named name other f n) ∙
    ap (cons_option (named other f)) (left_other families name other n)

-- the name itself is gone
pub left_own : (families : List (List Child)) (name : Name) → AreRising families → AreLow name families → all_named (map (without_first name) families) name ≡ []
left_own [] name rising low = refl
left_own (f ∷ families) name rising low =
    let none = none_named name (without_first name f) (λ d h e. before_other name d.name (without_above name f (rising f (inl refl)) (low f (inl refl)) d h) e) in
    ap (λ o. cons_option o (all_named (map (without_first name) families) name)) none ∙
    left_own families name (λ g h. rising g (inr h)) (λ g h. low g (inr h))

pub record Called (families : List (List Child)) (name : Name) : Type 0 where
  pub child : Child
  pub among : Among families child
  pub is : child.name ≡ name

called_more : (f : List Child) (families : List (List Child)) (name : Name) (o : Option SpaceId) (d : SpaceId) → named name f ≡ o → Has (cons_option o (all_named families name)) d → (Has (all_named families name) d → Called families name) → Called (f ∷ families) name
called_more f families name None d e h rest = let m = rest h in record { child = m.child; among = inr m.among; is = m.is }
called_more f families name (Some s) d e h rest = let m = has_named name f s e in record { child = m.child; among = inl m.among; is = m.called }

-- a name that has children is one of the families' names
pub called : (families : List (List Child)) (name : Name) (d : SpaceId) → Has (all_named families name) d → Called families name
called [] name d h = absurd h
called (f ∷ families) name d h = called_more f families name (named name f) d refl h (λ i. called families name d i)

some_named_by : (name : Name) (c : Child) (cs : List Child) (child : Child) (b : Bool) → same_name name c.name ≡ b → Has (c ∷ cs) child → child.name ≡ name → (Has cs child → (s : SpaceId) × (named name cs ≡ Some s)) → (s : SpaceId) × (chosen b (Some c.space) (named name cs) ≡ Some s)
some_named_by name c cs child true e h i rest = (c.space, refl)
some_named_by name c cs child false e h i rest =
    elim h [ inl j ↦ absurd (let f : true ≡ false = sym (is_same name c.name (sym i ∙ sym (ap (λ (x : Child). x.name) j))) ∙ e in cc) | inr r ↦ rest r ]

pub some_named : (name : Name) (cs : List Child) (child : Child) → Has cs child → child.name ≡ name → (s : SpaceId) × (named name cs ≡ Some s)
some_named name [] child h i = absurd h
some_named name (c ∷ cs) child h i = some_named_by name c cs child (same_name name c.name) refl h i (λ r. some_named name cs child r i)

-- and a name of the families has children
pub has_called : (families : List (List Child)) (c : Child) → Among families c → (d : SpaceId) × Has (all_named families c.name) d
has_called [] c h = absurd h
has_called (f ∷ families) c h =
    elim h [
      | inl i ↦
          let m = some_named c.name f c i refl in
          let P : Option SpaceId → Type 0 = λ o. Has (cons_option o (all_named families c.name)) m.0 in
          (m.0, subst P (sym m.1) (inl refl))
      | inr r ↦
          let m = has_called families c r in
          (m.0, later (named c.name f) (all_named families c.name) m.0 m.1)
    ]
  where
    later : (o : Option SpaceId) (ds : List SpaceId) (d : SpaceId) → Has ds d → Has (cons_option o ds) d
    later None ds d h = h
    later (Some e) ds d h = inr h

first_among_by : (f : List Child) (o : Option Child) (families : List (List Child)) (c : Child) → first f ≡ o → Has (cons_option o (firsts families)) c → (Has (firsts families) c → Among families c) → Among (f ∷ families) c
first_among_by f None families c e h rest = inr (rest h)
first_among_by [] (Some d) families c e h rest = absurd (let g : None ≡ Some d = e in cc)
first_among_by (x ∷ f) (Some d) families c e h rest =
    elim h [ inl i ↦ inl (inl (let g : x ≡ d = cc in g ∙ i)) | inr r ↦ inr (rest r) ]

pub first_among : (families : List (List Child)) (c : Child) → Has (firsts families) c → Among families c
first_among [] c h = absurd h
first_among (f ∷ families) c h = first_among_by f (first f) families c refl h (λ r. first_among families c r)

empty_by : (f : List Child) (rest : List Child) (name : Name) → cons_option (first f) rest ≡ [] → (named name f ≡ None) × (rest ≡ [])
empty_by [] rest name e = (refl, e)
empty_by (c ∷ cs) rest name e = absurd (let g : c ∷ rest ≡ [] = e in cc)

-- where no family has a first child no name has children
pub none_left : (families : List (List Child)) (name : Name) → firsts families ≡ [] → all_named families name ≡ []
none_left [] name e = refl
none_left (f ∷ families) name e =
    let m = empty_by f (firsts families) name e in
    ap (λ o. cons_option o (all_named families name)) m.0 ∙ none_left families name m.1

-- ---- a family as a slice

pub others_is : (cs : List Child) → 1 ≤ length cs → take (length cs - 1) (drop 1 cs) ≡ others cs
others_is [] h = absurd (omega arith)
others_is (c ∷ cs) h = take_all (length (c ∷ cs) - 1) cs (omega arith)

pub no_others : (cs : List Child) → length cs < 1 → cs ≡ others cs
no_others [] h = refl
no_others (c ∷ cs) h = absurd (omega arith)

pub take_none : (cs : List Child) (name : Name) → first cs ≡ None → (first_named name cs ≡ None) × (without_first name cs ≡ cs)
take_none [] name e = (refl, refl)
take_none (c ∷ cs) name e = absurd (let f : Some c ≡ None = e in cc)

pub take_other : (cs : List Child) (name : Name) (c : Child) → first cs ≡ Some c → (c.name ≡ name → ⊥) → (first_named name cs ≡ None) × (without_first name cs ≡ cs)
take_other [] name c e n = absurd (let f : None ≡ Some c = e in cc)
take_other (d ∷ cs) name c e n =
    let same : d ≡ c = same_Some d c e in
    let no = not_same name d.name (λ i. n (sym (i ∙ ap (λ (x : Child). x.name) same))) in
    (ap (λ b. chosen b (Some d.space) None) no, ap (λ b. chosen b cs (d ∷ cs)) no)

pub take_own : (cs : List Child) (name : Name) (c : Child) → first cs ≡ Some c → c.name ≡ name → (first_named name cs ≡ Some c.space) × (without_first name cs ≡ others cs)
take_own [] name c e n = absurd (let f : None ≡ Some c = e in cc)
take_own (d ∷ cs) name c e n =
    let same : d ≡ c = same_Some d c e in
    let yes = is_same name d.name (sym (ap (λ (x : Child). x.name) same ∙ n)) in
    (ap (λ b. chosen b (Some d.space) None) yes ∙ ap (λ (x : Child). Some x.space) same, ap (λ b. chosen b cs (d ∷ cs)) yes)
