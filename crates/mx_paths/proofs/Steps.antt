-- One child is added to the table, or the walk meets something.
use Rattle.std.proofs.Common.{◌≡◌, ℕ, ◌≤◌, List, [], ◌∷◌, ◌++◌, map, length, take, drop, Err, inl, inr, refl, sym, ◌∙◌, ap, subst, arith, ◌+◌, append_assoc}
use Rattle.std.specs.List.{filter_map}
use Rattle.std.proofs.lemmas.List.{take-append-le, take_all, length-append}
use Rattle.mx_c3.specs.declared.space.SpaceId.{SpaceId}
use Rattle.mx_c3.specs.Lists.{Has}
use Rattle.mx_edit.specs.declared.refusal.EditRefusal.{EditRefusal}
use Rattle.mx_edit.specs.declared.refusal.EditRefusal.TheVariants as refusal
use Rattle.mx_model.specs.Records.{Name, Path, ModelRecord}
use Rattle.mx_model.specs.Layers.{layers, of_children}
use Rattle.mx_model.specs.Sound.{AreSpaces}
use Rattle.mx_model.specs.Walk.{MeetsAt, Meets, own_trouble}
use Rattle.mx_paths.specs.declared.child.Child.{Child}
use Rattle.mx_paths.specs.declared.refusal.PathsRefusal.{PathsRefusal}
use Rattle.mx_paths.specs.declared.refusal.PathsRefusal.TheVariants as refused
use Rattle.mx_paths.specs.Names.{IsNamed}
use Rattle.mx_paths.specs.Siblings.{all_named, firsts, first_named, without_first, IsLeast}
use Rattle.mx_paths.specs.Table.{Row, paths_in}
use Rattle.mx_paths.specs.Walking.{IsExpanding, IsLonger, IsAdded, MeetsBehind, Adds, IsMet}
use Rattle.mx_paths.proofs.SiblingLemmas.{least_low, taken_is, has_called, first_among}
use Rattle.mx_paths.proofs.Walked.{next_new, next_layers, next_meets, next_full, next_expanding}

pub written_all : {X : Type 0} (new items : List X) (n : ℕ) → length new ≡ n → take n (new ++ drop (length new) items) ≡ new
written_all new items n e =
    let l : n ≤ length new = omega arith in
    let m : length new ≤ n = omega arith in
    take-append-le n new (drop (length new) items) l ∙ take_all n new m

module _ (text : ModelRecord) (named : IsNamed text) (rows : List Row) (done : List Path) (path : Path) (families : List (List Child)) (at : IsExpanding text rows done path families) (name : Name) (least : IsLeast (firsts families) name) where
  taken : filter_map (first_named name) families ≡ all_named families name
  taken = taken_is families name at.rising (least_low families name at.rising least)

  pub child_new : (child : Path) → child ≡ path ++ name ∷ [] → Has (paths_in rows) child → ⊥
  child_new child e h = next_new text rows done path families named at name least (subst (λ (p : Path). Has (paths_in rows) p) e h)

  pub child_spaces : (spaces : List SpaceId) → spaces ≡ filter_map (first_named name) families → AreSpaces text spaces
  child_spaces spaces e = subst (AreSpaces text) (sym (e ∙ taken)) (at.spaces name)

  pub child_some : (spaces : List SpaceId) → spaces ≡ filter_map (first_named name) families → spaces ≡ [] → ⊥
  child_some spaces e none =
      let m = has_called families least.child (first_among families least.child least.among) in
      let h : Has (all_named families name) m.0 = subst (λ (n : Name). Has (all_named families n) m.0) least.is m.1 in
      subst (λ (ss : List SpaceId). Has ss m.0) (sym (e ∙ taken) ∙ none) h

  pub child_layers : (child : Path) (spaces : List SpaceId) → child ≡ path ++ name ∷ [] → spaces ≡ filter_map (first_named name) families → layers text child ≡ of_children text spaces
  child_layers child spaces e f = ap (layers text) e ∙ next_layers text rows done path families named at name least ∙ ap (of_children text) (sym (f ∙ taken))

  pub child_added : (child : Path) (new : List Row) → child ≡ path ++ name ∷ [] → IsAdded text child rows new → IsExpanding text new done path (map (without_first name) families)
  child_added child new e added =
      let P : Path → Type 0 = λ p. new ≡ rows ++ (p, added.spaces) ∷ [] in
      let has = ap (layers text) (sym e) ∙ added.has in
      let fine = ap (own_trouble text) (sym e) ∙ added.fine in
      subst (λ (rs : List Row). IsExpanding text rs done path (map (without_first name) families)) (sym (subst P e added.is)) (next_expanding text rows done path families named at name least added.spaces has fine added.room)

  meets_behind : (why : EditRefusal) → MeetsBehind text (path ++ name ∷ []) (length rows) why → MeetsAt text (path ++ name ∷ []) why
  meets_behind why meets =
      elim meets [
        | inl e ↦ inl e
        | inr m ↦ inr (m.0, next_full text rows done path families named at name least m.1, m.2)
      ]

  behind_meets : (child : Path) (why : EditRefusal) → child ≡ path ++ name ∷ [] → MeetsBehind text child (length rows) why → Meets text why
  behind_meets child why e meets =
      next_meets text rows done path families named at name least why (meets_behind why (subst (λ (p : Path). MeetsBehind text p (length rows) why) e meets))

  pub child_met : (child : Path) (new : List Row) (why : PathsRefusal) → child ≡ path ++ name ∷ [] → Adds text child rows new (Err why) → IsMet text why
  child_met child new (refused.NoOrder p) e meets = behind_meets child (refusal.NoOrder p) e meets
  child_met child new (refused.TooMany l) e meets = behind_meets child (refusal.TooMany l) e meets
  child_met child new refused.NoMemory e meets = tt

pub longer_self : (rows : List Row) → IsLonger rows rows
longer_self rows = record { more = []; is = nothing rows }
  where
    nothing : (rs : List Row) → rs ≡ rs ++ []
    nothing [] = refl
    nothing (r ∷ rs) = ap (λ (xs : List Row). r ∷ xs) (nothing rs)

pub longer_more : (text : ModelRecord) (child : Path) (first rows new : List Row) → IsLonger first rows → IsAdded text child rows new → IsLonger first new
longer_more text child first rows new l added = record {
  more = l.more ++ (child, added.spaces) ∷ [];
  is = added.is ∙ ap (λ (rs : List Row). rs ++ (child, added.spaces) ∷ []) l.is ∙ append_assoc first l.more ((child, added.spaces) ∷ []);
}

pub longer_length : (text : ModelRecord) (child : Path) (rows new : List Row) → IsAdded text child rows new → length new ≡ length rows + 1
longer_length text child rows new added = ap length added.is ∙ length-append rows ((child, added.spaces) ∷ [])
