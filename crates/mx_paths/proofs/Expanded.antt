-- From one path of the table to the next, and the end of the walk.
use Rattle.std.proofs.Common.{◌≡◌, ℕ, zero, suc, ◌<◌, ◌≤◌, List, [], ◌∷◌, ◌++◌, map, length, take, Option, Some, None, slice_get, inl, inr, refl, sym, ◌∙◌, ap, subst, arith}
use Rattle.std.specs.Prelude.{IsTrue, slice_index_or}
use Rattle.std.specs.List.{filter_map, cons_option}
use Rattle.std.proofs.lemmas.Option.{same_Some}
use Rattle.mx_c3.specs.declared.space.SpaceId.{SpaceId}
use Rattle.mx_c3.specs.Lists.{Has, Among}
use Rattle.mx_c3.specs.InOrder.{AllBelow}
use Rattle.mx_model.specs.Records.{Name, Path, ModelRecord}
use Rattle.mx_model.specs.declared.layers.Layered.TheVariants.{Layers}
use Rattle.mx_model.specs.Layers.{layers, is_there, is_static, of_children, child_of, id_of, at_top}
use Rattle.mx_model.specs.Walk.{Before, path_text, MeetsNothing}
use Rattle.std.specs.Ordering.{nat_cmp}
use Rattle.std.specs.declared.cmp.Ordering.TheVariants.{Less, Equal}
use Rattle.std.specs.Cmp.Lexicographic.{slice_cmp}
use Rattle.mx_c3.proofs.ListLemmas.{has_left}
use Rattle.mx_model.proofs.Places.{id_within}
use Rattle.mx_paths.proofs.OneChild.{one_child}
use Rattle.mx_model.specs.Sound.{IsSound, AreSpaces}
use Rattle.mx_model.proofs.SoundLemmas.{children_spaces}
use Rattle.mx_model.proofs.Filtered.{map_has}
use Rattle.mx_paths.specs.declared.child.Child.{Child}
use Rattle.mx_paths.specs.Names.{AreNames, IsNamed}
use Rattle.mx_paths.specs.Siblings.{IsRising, all_named}
use Rattle.mx_paths.specs.Table.{Row, paths_in, IsInOrder, IsTableOf}
use Rattle.mx_paths.specs.Walking.{IsWalked, IsExpanding, IsTop, AreFamilies}
use Rattle.mx_paths.proofs.PathOrder.{long_push, before_push, before_trans, before_not}
use Rattle.mx_paths.proofs.SiblingLemmas.{has_called}
use Rattle.mx_paths.proofs.Statics.{static_names, parent_static, layers_push, layers_static, static_ended}
use Rattle.mx_paths.proofs.Walked.{row_static, row_meets, there_of}

-- ---- the paths before a place

placed_before : (paths : List Path) (i : ℕ) (p q : Path) → IsInOrder paths → slice_get paths i ≡ Some p → Has paths q → Before q p → Has (take i paths) q
placed_before [] i p q o e h b = absurd h
placed_before (x ∷ paths) zero p q o e h b =
    let same : x ≡ p = same_Some x p e in
    elim h [
      | inl j ↦ absurd (before_not q (subst (λ (z : Path). Before q z) (sym same ∙ j) b))
      | inr r ↦ absurd (before_not q (before_trans q p q b (subst (λ (z : Path). Before z q) same (o.0 q r))))
    ]
placed_before (x ∷ paths) (suc i) p q o e h b = elim h [ inl j ↦ inl j | inr r ↦ inr (placed_before paths i p q o.1 e r b) ]

take_has : (paths : List Path) (i : ℕ) (q : Path) → Has (take i paths) q → Has paths q
take_has paths zero q h = absurd h
take_has [] (suc i) q h = absurd h
take_has (x ∷ paths) (suc i) q h = elim h [ inl e ↦ inl e | inr r ↦ inr (take_has paths i q r) ]

taken_before : (paths : List Path) (i : ℕ) (p q : Path) → IsInOrder paths → slice_get paths i ≡ Some p → Has (take i paths) q → Before q p
taken_before paths zero p q o e h = absurd h
taken_before [] (suc i) p q o e h = absurd h
taken_before (x ∷ paths) (suc i) p q o e h =
    elim h [ inl j ↦ subst (λ (z : Path). Before z p) j (o.0 p (at_has paths i p e)) | inr r ↦ taken_before paths i p q o.1 e r ]
  where
    at_has : (paths : List Path) (i : ℕ) (p : Path) → slice_get paths i ≡ Some p → Has paths p
    at_has [] i p e = absurd (let f : None ≡ Some p = e in cc)
    at_has (y ∷ paths) zero p e = inl (same_Some y p e)
    at_has (y ∷ paths) (suc i) p e = inr (at_has paths i p e)

-- ---- the families of layers

abbrev pub family_of : List (List Child) → SpaceId → List Child
family_of families s = slice_index_or families s.0 []

all_children : (text : ModelRecord) (families : List (List Child)) (spaces : List SpaceId) (n : Name) → AreFamilies text families → AllBelow (length text.spaces) spaces → all_named (map (family_of families) spaces) n ≡ filter_map (child_of text n) spaces
all_children text families [] n are below = refl
all_children text families (s ∷ spaces) n are below =
    ap (λ o. cons_option o (all_named (map (family_of families) spaces) n)) ((are.each s (below s (inl refl))).has n) ∙
    ap (cons_option (child_of text n s)) (all_children text families spaces n are (λ x h. below x (inr h)))

all_rising : (text : ModelRecord) (families : List (List Child)) (spaces : List SpaceId) → AreFamilies text families → AllBelow (length text.spaces) spaces → (family : List Child) → Has (map (family_of families) spaces) family → IsRising family
all_rising text families spaces are below family h =
    let m = map_has (family_of families) spaces family h in
    subst IsRising m.is ((are.each m.from (below m.from m.among)).rising)

-- ---- the next path whose children come

longer : (p : Path) (n : Name) → 0 < length (p ++ n ∷ [])
longer p n = let l = long_push p n in omega arith

module _ (text : ModelRecord) (rows : List Row) (i : ℕ) (named : IsNamed text) (sound : IsSound text) (walked : IsWalked text rows ([] ∷ take i (paths_in rows))) (path : Path) (spaces : List SpaceId) (placed : slice_get (paths_in rows) i ≡ Some path) (has : layers text path ≡ Layers spaces) (are : AreSpaces text spaces) (families : List (List Child)) (each : AreFamilies text families) where
  static : IsTrue (is_static text path)
  static = layers_static text path spaces has

  is_before : (r : Path) → Has ([] ∷ take i (paths_in rows)) r → Before r path
  is_before r h =
      elim h [
        | inl e ↦
            let m = static_ended text path static in
            let l : 0 < length path = subst (λ (z : Path). 0 < length z) (sym m.is) (longer m.parent m.name) in
            subst (λ (z : Path). Before z path) e (inl l)
        | inr t ↦ taken_before (paths_in rows) i path r walked.begun.in_order placed t
      ]

  path_among : Has (paths_in rows) path
  path_among = placed_has (paths_in rows) i path placed
    where
      placed_has : (paths : List Path) (i : ℕ) (p : Path) → slice_get paths i ≡ Some p → Has paths p
      placed_has [] i p e = absurd (let f : None ≡ Some p = e in cc)
      placed_has (y ∷ paths) zero p e = inl (same_Some y p e)
      placed_has (y ∷ paths) (suc i) p e = inr (placed_has paths i p e)

  its_children : (n : Name) → layers text (path ++ n ∷ []) ≡ of_children text (all_named (map (family_of families) spaces) n)
  its_children n = layers_push text path n spaces has ∙ ap (of_children text) (sym (all_children text families spaces n each are.1))

  child_is_static : (c : Child) → Among (map (family_of families) spaces) c → IsTrue (is_static text (path ++ c.name ∷ []))
  child_is_static c h =
      let m = has_called (map (family_of families) spaces) c h in
      ap is_there (its_children c.name) ∙ there_of text (all_named (map (family_of families) spaces) c.name) m.0 m.1

  is_behind : (c : Child) (q : Path) → Among (map (family_of families) spaces) c → Has (paths_in rows) q → Before q (path ++ c.name ∷ [])
  is_behind c q h i =
      let m = walked.below q i in
      let names : AreNames (m.parent ++ m.name ∷ []) = subst AreNames m.is (static_names text q named (row_static text rows walked.begun q i)) in
      subst (λ (z : Path). Before z (path ++ c.name ∷ [])) (sym m.is) (before_push m.parent path m.name c.name names (static_names text (path ++ c.name ∷ []) named (child_is_static c h)) (is_before m.parent m.has))

  pub begins : IsExpanding text rows ([] ∷ take i (paths_in rows)) path (map (family_of families) spaces)
  begins = record {
    begun = walked.begun;
    children = walked.children;
    below = λ q h. let m = walked.below q h in record { parent = m.parent; name = m.name; has = has_left ([] ∷ take i (paths_in rows)) (path ∷ []) m.parent m.has; is = m.is };
    parent = inr static;
    before = λ q p b. elim p [ inl e ↦ inl (sym e) | inr t ↦ inr (placed_before (paths_in rows) i path q walked.begun.in_order placed (walked.begun.closed q path t path_among b) b) ];
    rising = all_rising text families spaces each are.1;
    behind = is_behind;
    spaces = λ n. subst (AreSpaces text) (sym (all_children text families spaces n each are.1)) (children_spaces text n spaces sound are);
    rest = λ n. inr (its_children n);
  }

-- ---- the top

top_by : (text : ModelRecord) (found : Option SpaceId) → IsSound text → ((s : SpaceId) → found ≡ Some s → s.0 < length text.spaces) → at_top text found ≡ of_children text (cons_option found [])
top_by text None sound within = refl
top_by text (Some s) sound within = sym (one_child text s sound (within s refl))

top_children : (text : ModelRecord) (top : List Child) (n : Name) → IsSound text → IsTop text top → layers text (n ∷ []) ≡ of_children text (all_named (top ∷ []) n)
top_children text top n sound is =
    top_by text (id_of text (n ∷ [])) sound (λ s e. id_within text (n ∷ []) s e) ∙ ap (λ o. of_children text (cons_option o [])) (sym (is.has n))

top_spaces_by : (text : ModelRecord) (found : Option SpaceId) → ((s : SpaceId) → found ≡ Some s → s.0 < length text.spaces) → AreSpaces text (cons_option found [])
top_spaces_by text None within = (tt, λ x h. absurd h)
top_spaces_by text (Some s) within = (((λ h. absurd h), tt), λ x h. elim h [ inl e ↦ subst (λ (z : SpaceId). z.0 < length text.spaces) e (within s refl) | inr r ↦ absurd r ])

top_spaces : (text : ModelRecord) (top : List Child) (n : Name) → IsTop text top → AreSpaces text (all_named (top ∷ []) n)
top_spaces text top n is =
    subst (λ (o : Option SpaceId). AreSpaces text (cons_option o [])) (sym (is.has n)) (top_spaces_by text (id_of text (n ∷ [])) (λ s e. id_within text (n ∷ []) s e))

none_before : (path : Path) → Before path [] → ⊥
none_before path b = elim b [ inl l ↦ omega arith | inr m ↦ empty_before path m.0 m.1 ]
  where
    empty_before : (path : Path) → length path ≡ 0 → slice_cmp nat_cmp (path_text path) [] ≡ Less → ⊥
    empty_before [] l e = let f : Equal ≡ Less = e in cc
    empty_before (x ∷ path) l e = omega arith

pub top_begins : (text : ModelRecord) (top : List Child) → IsSound text → IsTop text top → IsExpanding text [] [] [] (top ∷ [])
top_begins text top sound is = record {
  begun = record { layered = λ r h. absurd h; fine = λ r h. absurd h; in_order = tt; few = omega arith; closed = λ p q t h b. absurd h };
  children = λ p n h t. absurd h;
  below = λ q h. absurd h;
  parent = inl refl;
  before = λ q p b. absurd (none_before q b);
  rising = λ family h. elim h [ inl e ↦ subst IsRising e is.rising | inr r ↦ absurd r ];
  behind = λ c q h i. absurd i;
  spaces = λ n. top_spaces text top n is;
  rest = λ n. inr (top_children text top n sound is);
}

-- ---- the end

all_by : (text : ModelRecord) (rows : List Row) (k : ℕ) (path : Path) → IsWalked text rows ([] ∷ paths_in rows) → length path ≤ k → IsTrue (is_static text path) → Has (paths_in rows) path
all_by text rows zero path walked long t =
    let m = static_ended text path t in
    let l : 0 < length path = subst (λ (z : Path). 0 < length z) (sym m.is) (longer m.parent m.name) in
    absurd (omega arith)
all_by text rows (suc k) path walked long t =
    let m = static_ended text path t in
    let l = long_push m.parent m.name in
    let P : Path → Type 0 = λ p. IsTrue (is_static text p) in
    let at : IsTrue (is_static text (m.parent ++ m.name ∷ [])) = subst P m.is t in
    let same : length path ≡ length (m.parent ++ m.name ∷ []) = ap length m.is in
    let less : length m.parent ≤ k = omega arith in
    let there : Has ([] ∷ paths_in rows) m.parent = elim (parent_static text m.parent m.name at) [ inl e ↦ inl (sym e) | inr s ↦ inr (all_by text rows k m.parent walked less s) ] in
    subst (λ (p : Path). Has (paths_in rows) p) (sym m.is) (walked.children m.parent m.name there at)

pub walked_all : (text : ModelRecord) (rows : List Row) → IsWalked text rows ([] ∷ paths_in rows) → IsTableOf text rows × MeetsNothing text
walked_all text rows walked =
    let all = λ (path : Path) (t : IsTrue (is_static text path)). all_by text rows (length path) path walked (omega arith) t in (
      record { layered = walked.begun.layered; all = all; in_order = walked.begun.in_order },
      λ path why t m. row_meets text rows walked.begun path why (all path t) m,
    )
