-- The spaces of a text that an edit makes have names.
use Rattle.std.proofs.Common.{◌≡◌, Bool, true, false, not, List, [], ◌∷◌, ◌++◌, map, Option, Some, None, inl, inr, refl, ◌∙◌, ap, subst, if◌then◌else◌}
use Rattle.std.specs.Prelude.{IsTrue}
use Rattle.std.specs.List.{filter}
use Rattle.std.proofs.lemmas.List.{map-append}
use Rattle.std.proofs.lemmas.Simd.{map-map}
use Rattle.mx_value.specs.Name.{is_name, same_path}
use Rattle.mx_c3.specs.Lists.{Has}
use Rattle.mx_c3.proofs.ListLemmas.{has_push_cases}
use Rattle.mx_edit.specs.declared.edit.Edit.{Edit}
use Rattle.mx_edit.specs.declared.edit.Edit.TheVariants as edit
use Rattle.mx_edit.specs.declared.refusal.EditRefusal.TheVariants as refusal
use Rattle.mx_model.specs.Records.{Name, Path, SpaceRecord, ModelRecord, empty_space}
use Rattle.mx_model.specs.Layers.{paths_of}
use Rattle.mx_model.specs.Change.{is_within, at_space}
use Rattle.mx_model.specs.Refused.{is_holder, record_trouble}
use Rattle.mx_model.specs.Apply.{changed}
use Rattle.mx_model.proofs.Filtered.{map_has, has_map}
use Rattle.mx_model.proofs.Defined.{defined_has}
use Rattle.mx_changes.proofs.Free.{free_of, is_true, from_space}
use Rattle.mx_paths.specs.Names.{AreNames, IsNamed}
use Rattle.mx_prepare.specs.Shape.{shape_of}
use Rattle.mx_prepare.specs.Named.{EmptyIsNamed, EditsKeepNames}
use Rattle.mx_prepare.proofs.Shapes.{same_paths}
use Rattle.mx_prepare.proofs.KeptShape.{edits_keep_shape}

-- each path of the second was one of the first
AllOld : ModelRecord → ModelRecord → Type 0
AllOld text made = (path : Path) → Has (paths_of made) path → Has (paths_of text) path

named_old : (text made : ModelRecord) → ((path : Path) → Has (paths_of made) path → Has (paths_of text) path) → IsNamed text → IsNamed made
named_old text made old named = record { names = λ path h. named.names path (old path h); some = λ h. named.some (old [] h) }

-- ---- an edit that keeps the shape

same_named : (text made : ModelRecord) → shape_of made ≡ shape_of text → IsNamed text → IsNamed made
same_named text made same named = named_old text made (λ path h. subst (λ (paths : List Path). Has paths path) (same_paths made text same) h) named

-- ---- spaces that are removed

among_by : (xs ys : List SpaceRecord) (x s : SpaceRecord) (b : Bool) → (Has ys s → Has xs s) → Has (if b then x ∷ ys else ys) s → Has (x ∷ xs) s
among_by xs ys x s true more h = elim h [ inl e ↦ inl e | inr m ↦ inr (more m) ]
among_by xs ys x s false more h = inr (more h)

filter_among : (p : SpaceRecord → Bool) (xs : List SpaceRecord) (s : SpaceRecord) → Has (filter p xs) s → Has xs s
filter_among p [] s h = h
filter_among p (x ∷ xs) s h = among_by xs (filter p xs) x s (p x) (filter_among p xs s) h

filter_old : (p : SpaceRecord → Bool) (text : ModelRecord) (path : Path) → Has (map (λ (s : SpaceRecord). s.path) (filter p text.spaces)) path → Has (paths_of text) path
filter_old p text path h =
    let m = map_has (λ (s : SpaceRecord). s.path) (filter p text.spaces) path h in
    subst (λ (q : Path). Has (paths_of text) q) m.is (has_map (λ (s : SpaceRecord). s.path) text.spaces m.from (filter_among p text.spaces m.from m.among))

-- ---- bases that are set

path_either : (b : Bool) (f s : SpaceRecord) → f.path ≡ s.path → (if b then f else s).path ≡ s.path
path_either true f s same = same
path_either false f s same = refl

bases_paths : (text : ModelRecord) (path : Path) (bases : List Path) → paths_of (at_space text path (λ (s : SpaceRecord). record s { bases = bases })) ≡ paths_of text
bases_paths text path bases =
    map-map (λ (s : SpaceRecord). s.path) (λ (s : SpaceRecord). if same_path s.path path then record s { bases = bases } else s) text.spaces
    ∙ ap (λ (at : SpaceRecord → Path). map at text.spaces) (λ i. λ s. path_either (same_path s.path path) (record s { bases = bases }) s refl i)

-- ---- a new space

push_names : (names : Path) (name : Name) → AreNames names → IsTrue (is_name name) → AreNames (names ++ name ∷ [])
push_names [] name are is = (is, tt)
push_names (n ∷ names) name are is = (are.0, push_names names name are.1 is)

holder_names : (text : ModelRecord) (parent : Path) → IsNamed text → IsTrue (is_holder text parent) → AreNames parent
holder_names text [] named is = tt
holder_names text (n ∷ names) named is = named.names (n ∷ names) (defined_has text (n ∷ names) is)

not_empty : (names : Path) (name : Name) → names ++ name ∷ [] ≡ [] → ⊥
not_empty [] name e = cc
not_empty (n ∷ names) name e = cc

unless : (b : Bool) (why : refusal.the_data) (rest : Option refusal.the_data) → (if b then Some why else rest) ≡ None → b ≡ false
unless true why rest e = absurd (let f : Some why ≡ None = e in cc)
unless false why rest e = refl

new_named : (text : ModelRecord) (parent : Path) (name : Name) → IsNamed text → IsTrue (is_holder text parent) → IsTrue (is_name name) → (made : ModelRecord) → paths_of made ≡ paths_of text ++ (parent ++ name ∷ []) ∷ [] → IsNamed made
new_named text parent name named holder is made same = record {
  names = λ path h. elim (has_push_cases (paths_of text) (parent ++ name ∷ []) path (subst (λ (paths : List Path). Has paths path) same h)) [
    | inl old ↦ named.names path old
    | inr e ↦ subst AreNames e (push_names parent name (holder_names text parent named holder) is)
  ];
  some = λ h. elim (has_push_cases (paths_of text) (parent ++ name ∷ []) [] (subst (λ (paths : List Path). Has paths []) same h)) [
    | inl old ↦ named.some old
    | inr e ↦ not_empty parent name e
  ];
}

-- ---- each edit

pub named_after : (text : ModelRecord) (e : Edit) → IsNamed text → record_trouble text e ≡ None → IsNamed (changed text e)
named_after text (edit.NewSpace parent name) named free =
    new_named text parent name named
    (is_true (is_holder text parent) (free_of text (edit.NewSpace parent name) free).spaces)
    (is_true (is_name name) (unless (not (is_name name)) refusal.BadName (from_space text (edit.NewSpace parent name)) free))
    (changed text (edit.NewSpace parent name))
    (map-append (λ (s : SpaceRecord). s.path) text.spaces (empty_space (parent ++ name ∷ []) ∷ []))
named_after text (edit.DelSpace path) named free =
    named_old text (changed text (edit.DelSpace path)) (λ at h. filter_old (λ (s : SpaceRecord). not (is_within path s.path)) text at h) named
named_after text (edit.SetBases path bases) named free =
    named_old text (changed text (edit.SetBases path bases)) (λ at h. subst (λ (paths : List Path). Has paths at) (bases_paths text path bases) h) named
named_after text (edit.SetCells path name formula) named free = same_named text (changed text (edit.SetCells path name formula)) (edits_keep_shape text (edit.SetCells path name formula) refl) named
named_after text (edit.DelCells path name) named free = same_named text (changed text (edit.DelCells path name)) (edits_keep_shape text (edit.DelCells path name) refl) named
named_after text (edit.SetAllowNone path name flag) named free = same_named text (changed text (edit.SetAllowNone path name flag)) (edits_keep_shape text (edit.SetAllowNone path name flag) refl) named
named_after text (edit.SetRef path name value) named free = same_named text (changed text (edit.SetRef path name value)) (edits_keep_shape text (edit.SetRef path name value) refl) named
named_after text (edit.DelRef path name) named free = same_named text (changed text (edit.DelRef path name)) (edits_keep_shape text (edit.DelRef path name) refl) named
named_after text (edit.SetParams path params) named free = same_named text (changed text (edit.SetParams path params)) (edits_keep_shape text (edit.SetParams path params) refl) named
named_after text (edit.SetInput at name arguments value) named free = same_named text (changed text (edit.SetInput at name arguments value)) (edits_keep_shape text (edit.SetInput at name arguments value) refl) named
named_after text (edit.DelInput at name arguments) named free = same_named text (changed text (edit.DelInput at name arguments)) (edits_keep_shape text (edit.DelInput at name arguments) refl) named
named_after text (edit.SetTable name table) named free = same_named text (changed text (edit.SetTable name table)) (edits_keep_shape text (edit.SetTable name table) refl) named

-- ---- laws

pub empty_named : EmptyIsNamed
empty_named = record { names = λ path h. absurd h; some = λ h. h }

pub names_kept : EditsKeepNames
names_kept text e named free =
    let after = named_after text e named free in
    record { names = after.names; some = after.some }
