-- The walk over the static paths of a text, step by step.
use Rattle.std.proofs.Common.{◌≡◌, suc, ◌<◌, ◌≤◌, Bool, true, false, List, [], ◌∷◌, ◌++◌, map, length, Some, None, Result, Ok, Err, ◌⊎◌, inl, inr, refl, sym, ◌∙◌, ap, subst, arith}
use Rattle.std.specs.Prelude.{IsTrue}
use Rattle.std.proofs.lemmas.List.{length-map, map-append}
use Rattle.mx_c3.specs.declared.space.SpaceId.{SpaceId}
use Rattle.mx_c3.specs.Lists.{Has, Among, Distinct}
use Rattle.mx_c3.specs.Linearisation.{c3, each}
use Rattle.mx_c3.proofs.ListLemmas.{has_left, has_right, has_push_cases}
use Rattle.mx_edit.specs.declared.refusal.EditRefusal.{EditRefusal}
use Rattle.mx_model.specs.Records.{Name, Path, ModelRecord}
use Rattle.mx_model.specs.declared.layers.Layered.TheVariants.{Layers, NotStatic}
use Rattle.mx_model.specs.Layers.{layers, is_there, is_static, of_children, layered, merge_orders, base_lists}
use Rattle.mx_model.specs.Walk.{Before, own_trouble, HasBefore, MeetsAt, Meets}
use Rattle.mx_model.specs.Sound.{AreSpaces}
use Rattle.mx_model.proofs.Filtered.{map_has}
use Rattle.mx_model.proofs.NameLemmas.{same_is, is_same}
use Rattle.mx_value.specs.Name.{same_name}
use Rattle.mx_paths.specs.declared.child.Child.{Child}
use Rattle.mx_paths.specs.Names.{AreNames, IsNamed}
use Rattle.mx_paths.specs.Siblings.{Precedes, all_named, firsts, without_first, IsLeast}
use Rattle.mx_paths.specs.Table.{Row, paths_in, IsInOrder}
use Rattle.mx_paths.specs.Walking.{IsBegun, IsWalked, IsExpanding}
use Rattle.mx_paths.proofs.PathOrder.{First, Same, Second, ordered, before_push, before_last, before_trans, before_not}
use Rattle.mx_paths.proofs.SiblingLemmas.{AreLow, least_low, left_rising, left_among, left_above, left_other, left_own, called, has_called, first_among, none_left, low_among}
use Rattle.mx_paths.proofs.Statics.{static_names, parent_names, parent_static, layers_static, not_there, static_ended}

-- ---- no more distinct items than the list that has them

record Parted {X : Type 0} (xs : List X) (x : X) : Type 0 where
  pub before : List X
  pub after : List X
  pub is : xs ≡ before ++ x ∷ after

parted : {X : Type 0} (xs : List X) (x : X) → Has xs x → Parted xs x
parted [] x h = absurd h
parted {X} (y ∷ ys) x h =
    elim h [
      | inl e ↦ record { before = []; after = ys; is = ap (λ (z : X). z ∷ ys) e }
      | inr r ↦ let m = parted ys x r in record { before = y ∷ m.before; after = m.after; is = ap (λ (zs : List X). y ∷ zs) m.is }
    ]

other_has : {X : Type 0} (before after : List X) (x y : X) → Has (before ++ x ∷ after) y → (x ≡ y → ⊥) → Has (before ++ after) y
other_has [] after x y h n = elim h [ inl e ↦ absurd (n e) | inr r ↦ r ]
other_has (b ∷ before) after x y h n = elim h [ inl e ↦ inl e | inr r ↦ inr (other_has before after x y r n) ]

long_parted : {X : Type 0} (before after : List X) (x : X) → length (before ++ x ∷ after) ≡ suc (length (before ++ after))
long_parted [] after x = refl
long_parted (b ∷ before) after x = ap suc (long_parted before after x)

pub no_longer : {X : Type 0} (xs ys : List X) → Distinct xs → ((x : X) → Has xs x → Has ys x) → length xs ≤ length ys
no_longer [] ys d h = omega arith
no_longer {X} (x ∷ xs) ys d h =
    let m = parted ys x (h x (inl refl)) in
    let P : List X → X → Type 0 = λ zs y. Has zs y in
    let rest : length xs ≤ length (m.before ++ m.after) = no_longer xs (m.before ++ m.after) d.1 (λ y i. other_has m.before m.after x y (subst (λ (zs : List X). Has zs y) m.is (h y (inr i))) (λ e. d.0 (subst (λ (z : X). Has xs z) (sym e) i))) in
    let long : length ys ≡ suc (length (m.before ++ m.after)) = ap length m.is ∙ long_parted m.before m.after x in
    omega arith

-- ---- rows

abbrev path_in : Row → Path
path_in row = row.0

long_paths : (rows : List Row) → length (paths_in rows) ≡ length rows
long_paths rows = length-map rows path_in

paths_push : (rows : List Row) (row : Row) → paths_in (rows ++ row ∷ []) ≡ paths_in rows ++ row.0 ∷ []
paths_push rows row = map-append path_in rows (row ∷ [])

push_old : (rows : List Row) (row : Row) (q : Path) → Has (paths_in rows) q → Has (paths_in (rows ++ row ∷ [])) q
push_old rows row q h = subst (λ (ps : List Path). Has ps q) (sym (paths_push rows row)) (has_left (paths_in rows) (row.0 ∷ []) q h)

push_new : (rows : List Row) (row : Row) → Has (paths_in (rows ++ row ∷ [])) row.0
push_new rows row = subst (λ (ps : List Path). Has ps row.0) (sym (paths_push rows row)) (has_right (paths_in rows) (row.0 ∷ []) row.0 (inl refl))

push_cases : (rows : List Row) (row : Row) (q : Path) → Has (paths_in (rows ++ row ∷ [])) q → Has (paths_in rows) q ⊎ (row.0 ≡ q)
push_cases rows row q h = has_push_cases (paths_in rows) row.0 q (subst (λ (ps : List Path). Has ps q) (paths_push rows row) h)

long_row : (rows : List Row) (row : Row) → length (rows ++ row ∷ []) ≡ suc (length rows)
long_row [] row = refl
long_row (r ∷ rows) row = ap suc (long_row rows row)

order_push : (paths : List Path) (q : Path) → IsInOrder paths → ((p : Path) → Has paths p → Before p q) → IsInOrder (paths ++ q ∷ [])
order_push [] q o h = ((λ p i. absurd i), tt)
order_push (x ∷ paths) q o h = (
  λ p i. elim (has_push_cases paths q p i) [ inl j ↦ o.0 p j | inr e ↦ subst (λ (z : Path). Before x z) e (h x (inl refl)) ],
  order_push paths q o.1 (λ p i. h p (inr i)),
)

order_distinct : (paths : List Path) → IsInOrder paths → Distinct paths
order_distinct [] o = tt
order_distinct (p ∷ paths) o = ((λ h. before_not p (o.0 p h)), order_distinct paths o.1)

-- ---- what a begun table meets

module _ (text : ModelRecord) (rows : List Row) (begun : IsBegun text rows) where
  pub row_static : (q : Path) → Has (paths_in rows) q → IsTrue (is_static text q)
  row_static q h =
      let m = map_has path_in rows q h in
      subst (λ (p : Path). IsTrue (is_static text p)) m.is (layers_static text m.from.0 m.from.1 (begun.layered m.from m.among))

  row_fine : (q : Path) → Has (paths_in rows) q → own_trouble text q ≡ None
  row_fine q h =
      let m = map_has path_in rows q h in
      subst (λ (p : Path). own_trouble text p ≡ None) m.is (begun.fine m.from m.among)

  row_first : (q : Path) → Has (paths_in rows) q → HasBefore text q 20000 → ⊥
  row_first q h before =
      let long : length (q ∷ before.paths) ≤ length (paths_in rows) = no_longer (q ∷ before.paths) (paths_in rows) ((λ i. before_not q (before.before q i)), before.distinct) (λ p i. elim i [ inl e ↦ subst (λ (z : Path). Has (paths_in rows) z) e h | inr j ↦ begun.closed p q (before.static p j) h (before.before p j) ]) in
      let many = before.many in
      let few = begun.few in
      let same = long_paths rows in
      omega arith

  pub row_meets : (q : Path) (why : EditRefusal) → Has (paths_in rows) q → MeetsAt text q why → ⊥
  row_meets q why h meets =
      elim meets [
        | inl e ↦ let f : None ≡ Some why = sym (row_fine q h) ∙ e in cc
        | inr m ↦ row_first q h m.1
      ]

-- ---- the next child

pub there_of : (text : ModelRecord) (ds : List SpaceId) (d : SpaceId) → Has ds d → is_there (of_children text ds) ≡ true
there_of text [] d h = absurd h
there_of text (x ∷ ds) d h = there_layered (merge_orders (x ∷ ds) (each (c3 (base_lists text)) (x ∷ ds)))
  where
    there_layered : (r : Result (List SpaceId) (List SpaceId)) → is_there (layered r) ≡ true
    there_layered (Ok order) = refl
    there_layered (Err blocked) = refl

none_of : (text : ModelRecord) (ds : List SpaceId) → ds ≡ [] → of_children text ds ≡ NotStatic
none_of text ds e = ap (of_children text) e

some_of : (text : ModelRecord) (ds : List SpaceId) → is_there (of_children text ds) ≡ true → (d : SpaceId) × Has ds d
some_of text [] t = absurd (let f : false ≡ true = t in cc)
some_of text (d ∷ ds) t = (d, inl refl)

module _ (text : ModelRecord) (rows : List Row) (done : List Path) (path : Path) (families : List (List Child)) (named : IsNamed text) (at : IsExpanding text rows done path families) where
  child_static : (c : Child) → Among families c → IsTrue (is_static text (path ++ c.name ∷ []))
  child_static c h =
      elim (at.rest c.name) [
        | inl i ↦ row_static text rows at.begun (path ++ c.name ∷ []) i
        | inr l ↦ let m = has_called families c h in ap is_there l ∙ there_of text (all_named families c.name) m.0 m.1
      ]

  child_names : (c : Child) → Among families c → AreNames (path ++ c.name ∷ [])
  child_names c h = static_names text (path ++ c.name ∷ []) named (child_static c h)

  module _ (name : Name) (least : IsLeast (firsts families) name) where
    here : Among families least.child
    here = first_among families least.child least.among

    next : Path
    next = path ++ name ∷ []

    next_static : IsTrue (is_static text (path ++ name ∷ []))
    next_static = subst (λ (n : Name). IsTrue (is_static text (path ++ n ∷ []))) least.is (child_static least.child here)

    next_names : AreNames (path ++ name ∷ [])
    next_names = static_names text (path ++ name ∷ []) named next_static

    next_behind : (q : Path) → Has (paths_in rows) q → Before q (path ++ name ∷ [])
    next_behind q h = subst (λ (n : Name). Before q (path ++ n ∷ [])) least.is (at.behind least.child q here h)

    pub next_new : Has (paths_in rows) (path ++ name ∷ []) → ⊥
    next_new h = before_not (path ++ name ∷ []) (next_behind (path ++ name ∷ []) h)

    -- its layers are those of its children
    pub next_layers : layers text (path ++ name ∷ []) ≡ of_children text (all_named families name)
    next_layers = elim (at.rest name) [ inl h ↦ absurd (next_new h) | inr l ↦ l ]

    later_name : (n : Name) → Precedes name n → IsTrue (is_static text (path ++ n ∷ [])) → Before (path ++ n ∷ []) (path ++ name ∷ []) → ⊥
    later_name n p t b =
        let first = before_last path name n next_names (static_names text (path ++ n ∷ []) named t) p in
        before_not (path ++ name ∷ []) (before_trans (path ++ name ∷ []) (path ++ n ∷ []) (path ++ name ∷ []) first b)

    -- of this path the children before the next one are there
    own_closed : (n : Name) → IsTrue (is_static text (path ++ n ∷ [])) → Before (path ++ n ∷ []) (path ++ name ∷ []) → Has (paths_in rows) (path ++ n ∷ [])
    own_closed n t b =
        elim (at.rest n) [
          | inl h ↦ h
          | inr l ↦
              let some = some_of text (all_named families n) (sym (ap is_there l) ∙ t) in
              let c = called families n some.0 some.1 in
              let low = low_among families name c.child at.rising (least_low families name at.rising least) c.among in
              absurd (elim low [
                | inl e ↦ before_not (path ++ name ∷ []) (subst (λ (z : Name). Before (path ++ z ∷ []) (path ++ name ∷ [])) (sym (e ∙ c.is)) b)
                | inr p ↦ later_name n (subst (λ (z : Name). Precedes name z) c.is p) t b
              ])
        ]

    closed_at : (p : Path) (n : Name) → IsTrue (is_static text (p ++ n ∷ [])) → Before (p ++ n ∷ []) (path ++ name ∷ []) → Has (paths_in rows) (p ++ n ∷ [])
    closed_at p n t b =
        let parent = parent_static text p n t in
        elim (ordered p path (parent_names text p named parent) (parent_names text path named at.parent)) [
          | First f ↦ at.children p n (at.before p parent f) t
          | Same e ↦
              let P : Path → Type 0 = λ z. IsTrue (is_static text (z ++ n ∷ [])) in
              let Q : Path → Type 0 = λ z. Before (z ++ n ∷ []) (path ++ name ∷ []) in
              let R : Path → Type 0 = λ z. Has (paths_in rows) (z ++ n ∷ []) in
              subst R (sym e) (own_closed n (subst P e t) (subst Q e b))
          | Second s ↦
              let first = before_push path p name n next_names (static_names text (p ++ n ∷ []) named t) s in
              absurd (before_not (path ++ name ∷ []) (before_trans (path ++ name ∷ []) (p ++ n ∷ []) (path ++ name ∷ []) first b))
        ]

    -- all static paths before the next one are there
    pub next_closed : (q : Path) → IsTrue (is_static text q) → Before q (path ++ name ∷ []) → Has (paths_in rows) q
    next_closed q t b =
        let e = static_ended text q t in
        let P : Path → Type 0 = λ p. IsTrue (is_static text p) in
        let Q : Path → Type 0 = λ p. Before p (path ++ name ∷ []) in
        let R : Path → Type 0 = λ p. Has (paths_in rows) p in
        subst R (sym e.is) (closed_at e.parent e.name (subst P e.is t) (subst Q e.is b))

    -- where the next path meets something the walk does
    pub next_meets : (why : EditRefusal) → MeetsAt text (path ++ name ∷ []) why → Meets text why
    next_meets why meets = record {
      path = path ++ name ∷ [];
      static = next_static;
      meets = meets;
      first = λ q other t b m. row_meets text rows at.begun q other (next_closed q t b) m;
    }

    -- 20,000 paths are before it
    pub next_full : length rows ≡ 20000 → HasBefore text (path ++ name ∷ []) 20000
    next_full e = record {
      paths = paths_in rows;
      many = long_paths rows ∙ e;
      distinct = order_distinct (paths_in rows) at.begun.in_order;
      static = row_static text rows at.begun;
      before = next_behind;
    }

    -- ---- the table with the next path

    module _ (spaces : List SpaceId) (has : layers text (path ++ name ∷ []) ≡ Layers spaces) (fine : own_trouble text (path ++ name ∷ []) ≡ None) (room : length rows < 20000) where
      row : Row
      row = (path ++ name ∷ [], spaces)

      more_begun : IsBegun text (rows ++ (path ++ name ∷ [], spaces) ∷ [])
      more_begun = record {
        layered = λ r h. elim (has_push_cases rows (path ++ name ∷ [], spaces) r h) [ inl i ↦ at.begun.layered r i | inr e ↦ subst (λ (z : Row). layers text z.0 ≡ Layers z.1) e has ];
        fine = λ r h. elim (has_push_cases rows (path ++ name ∷ [], spaces) r h) [ inl i ↦ at.begun.fine r i | inr e ↦ subst (λ (z : Row). own_trouble text z.0 ≡ None) e fine ];
        in_order = subst IsInOrder (sym (paths_push rows (path ++ name ∷ [], spaces))) (order_push (paths_in rows) (path ++ name ∷ []) at.begun.in_order next_behind);
        few = let l : length (rows ++ (path ++ name ∷ [], spaces) ∷ []) ≡ suc (length rows) = long_row rows (path ++ name ∷ [], spaces) in omega arith;
        closed = λ p q t h b.
            elim (push_cases rows (path ++ name ∷ [], spaces) q h) [
              | inl i ↦ push_old rows (path ++ name ∷ [], spaces) p (at.begun.closed p q t i b)
              | inr e ↦ push_old rows (path ++ name ∷ [], spaces) p (next_closed p t (subst (λ (z : Path). Before p z) (sym e) b))
            ];
      }

      left : List (List Child)
      left = map (without_first name) families

      low : AreLow name families
      low = least_low families name at.rising least

      next_rest : (n : Name) (b : Bool) → same_name n name ≡ b → Has (paths_in (rows ++ (path ++ name ∷ [], spaces) ∷ [])) (path ++ n ∷ []) ⊎ (layers text (path ++ n ∷ []) ≡ of_children text (all_named (map (without_first name) families) n))
      next_rest n true e = inl (subst (λ (z : Name). Has (paths_in (rows ++ (path ++ name ∷ [], spaces) ∷ [])) (path ++ z ∷ [])) (sym (same_is n name e)) (push_new rows (path ++ name ∷ [], spaces)))
      next_rest n false e =
          let same = left_other families name n (λ i. let f : true ≡ false = sym (is_same n name i) ∙ e in cc) in
          elim (at.rest n) [
            | inl h ↦ inl (push_old rows (path ++ name ∷ [], spaces) (path ++ n ∷ []) h)
            | inr l ↦ inr (l ∙ ap (of_children text) (sym same))
          ]

      next_spaces : (n : Name) (b : Bool) → same_name n name ≡ b → AreSpaces text (all_named (map (without_first name) families) n)
      next_spaces n true e =
          let gone = ap (all_named (map (without_first name) families)) (same_is n name e) ∙ left_own families name at.rising low in
          subst (AreSpaces text) (sym gone) (tt, λ x h. absurd h)
      next_spaces n false e = subst (AreSpaces text) (sym (left_other families name n (λ i. let f : true ≡ false = sym (is_same n name i) ∙ e in cc))) (at.spaces n)

      next_before : (c : Child) (q : Path) → Among (map (without_first name) families) c → Has (paths_in (rows ++ (path ++ name ∷ [], spaces) ∷ [])) q → Before q (path ++ c.name ∷ [])
      next_before c q i h =
          let was = left_among families name c i in
          elim (push_cases rows (path ++ name ∷ [], spaces) q h) [
            | inl j ↦ at.behind c q was j
            | inr e ↦ subst (λ (z : Path). Before z (path ++ c.name ∷ [])) e (before_last path name c.name next_names (child_names c was) (left_above families name at.rising low c i))
          ]

      pub next_expanding : IsExpanding text (rows ++ (path ++ name ∷ [], spaces) ∷ []) done path (map (without_first name) families)
      next_expanding = record {
        begun = more_begun;
        children = λ p n d t. push_old rows (path ++ name ∷ [], spaces) (p ++ n ∷ []) (at.children p n d t);
        below = λ q h.
            elim (push_cases rows (path ++ name ∷ [], spaces) q h) [
              | inl i ↦ at.below q i
              | inr e ↦ record { parent = path; name = name; has = has_right done (path ∷ []) path (inl refl); is = sym e }
            ];
        parent = at.parent;
        before = at.before;
        rising = left_rising families name at.rising;
        behind = next_before;
        spaces = λ n. next_spaces n (same_name n name) refl;
        rest = λ n. next_rest n (same_name n name) refl;
      }

  -- ---- no child is left

  pub all_expanded : firsts families ≡ [] → IsWalked text rows (done ++ path ∷ [])
  all_expanded e = record {
    begun = at.begun;
    children = λ p n h t.
        elim (has_push_cases done path p h) [
          | inl i ↦ at.children p n i t
          | inr same ↦
              let P : Path → Type 0 = λ z. IsTrue (is_static text (z ++ n ∷ [])) in
              let Q : Path → Type 0 = λ z. Has (paths_in rows) (z ++ n ∷ []) in
              subst Q same (elim (at.rest n) [
                | inl j ↦ j
                | inr l ↦ absurd (not_there text (path ++ n ∷ []) (l ∙ none_of text (all_named families n) (none_left families n e)) (subst P (sym same) t))
              ])
        ];
    below = at.below;
  }
