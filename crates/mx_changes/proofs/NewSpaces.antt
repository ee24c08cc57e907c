-- A new space behind the others: what stands beside them.
use Rattle.std.proofs.Common.{◌≡◌, ℕ, zero, suc, ◌+◌, ◌<◌, ◌^◌, Bool, true, false, List, [], ◌∷◌, ◌++◌, map, length, set, Option, Some, None, slice_get, ◌⊎◌, inl, inr, refl, sym, ◌∙◌, ap, subst, arith}
use Rattle.std.specs.Prelude.{IsTrue, is_some, option_map, option_and_then, if◌then◌else◌}
use Rattle.std.specs.Map.{lookup}
use Rattle.std.proofs.lemmas.Option.{same_Some, slice_get-map}
use Rattle.std.proofs.lemmas.List.{map-append, length-append}
use Rattle.mx_value.specs.Name.{same_name}
use Rattle.mx_c3.specs.Lists.{Has, Distinct}
use Rattle.mx_c3.proofs.ListLemmas.{has_left, has_right, has_push_cases}
use Rattle.mx_model.specs.declared.kind.Kind.TheVariants as kind
use Rattle.mx_model.specs.Records.{Name, Path, CellsRecord, SpaceRecord, ModelRecord, empty_space}
use Rattle.mx_c3.specs.declared.space.SpaceId.{SpaceId}
use Rattle.mx_model.specs.Layers.{paths_of, id_of, space_of}
use Rattle.mx_model.specs.Paths.{split_last, is_defined, space_at}
use Rattle.mx_edit.specs.declared.reference.RefValue.{RefValue}
use Rattle.mx_model.specs.Binding.{Member, Cells, Reference, Child, own_child, or_child, or_other, own_member}
use Rattle.mx_model.specs.Change.{define}
use Rattle.mx_model.specs.Lookup.{kind_of}
use Rattle.mx_model.specs.Parents.{HasParent}
use Rattle.mx_model.specs.Rings.{IsDefined}
use Rattle.mx_model.specs.Indexed.{Kinds, Tells, TellAll, ArePlaced}
use Rattle.mx_model.proofs.Defined.{some_not, split_push, same_ends, defined_has, same_defined, own_defined, distinct_push}
use Rattle.mx_model.proofs.NameLemmas.{same_is, is_same, define_own, define_other}
use Rattle.mx_model.proofs.KindLemmas.{tells_at}
use Rattle.mx_model.proofs.Places.{path_defined, id_at}

abbrev path_in : SpaceRecord → Path
path_in s = s.path

-- the text with an empty space of this path more
abbrev pub grown : ModelRecord → Path → ModelRecord
grown text new = record text { spaces = text.spaces ++ empty_space new ∷ [] }

pub grown_paths : (text : ModelRecord) (new : Path) → paths_of (grown text new) ≡ paths_of text ++ new ∷ []
grown_paths text new = map-append path_in text.spaces (empty_space new ∷ [])

grown_has : (text : ModelRecord) (new path : Path) → Has (paths_of text) path → Has (paths_of (grown text new)) path
grown_has text new path h =
    let P : List Path → Type 0 = λ ps. Has ps path in subst P (sym (grown_paths text new)) (has_left (paths_of text) (new ∷ []) path h)

grown_new : (text : ModelRecord) (new : Path) → Has (paths_of (grown text new)) new
grown_new text new =
    let P : List Path → Type 0 = λ ps. Has ps new in subst P (sym (grown_paths text new)) (has_right (paths_of text) (new ∷ []) new (inl refl))

grown_cases : (text : ModelRecord) (new path : Path) → Has (paths_of (grown text new)) path → Has (paths_of text) path ⊎ (new ≡ path)
grown_cases text new path h =
    let P : List Path → Type 0 = λ ps. Has ps path in has_push_cases (paths_of text) new path (subst P (grown_paths text new) h)

-- every other path is defined as before
grown_other : (text : ModelRecord) (new path : Path) → (new ≡ path → ⊥) → is_defined (grown text new) path ≡ is_defined text path
grown_other text new path n =
    same_defined text (grown text new) path (grown_has text new path) (λ h. elim (grown_cases text new path h) [ inl a ↦ a | inr e ↦ absurd (n e) ])

-- ---- tables

-- a space that is not the parent has what it had
other_tells : (text : ModelRecord) (parent : Path) (name : Name) (s : SpaceRecord) (kinds : Kinds) → (s.path ≡ parent → ⊥) → Tells text s kinds → Tells (grown text (parent ++ name ∷ [])) s kinds
other_tells text parent name s kinds apart tells n =
    let e = grown_other text (parent ++ name ∷ []) (s.path ++ n ∷ []) (λ i. apart (sym (same_ends parent s.path name n i).0)) in
    tells n ∙ ap (option_map kind_of) (sym (own_defined text (grown text (parent ++ name ∷ [])) n s e))

others_tell : (text : ModelRecord) (parent : Path) (name : Name) (spaces : List SpaceRecord) (tables : List Kinds) → (Has (map path_in spaces) parent → ⊥) → TellAll text spaces tables → TellAll (grown text (parent ++ name ∷ [])) spaces tables
others_tell text parent name [] [] apart t = tt
others_tell text parent name [] (k ∷ ks) apart t = absurd t
others_tell text parent name (s ∷ ss) [] apart t = absurd t
others_tell text parent name (s ∷ ss) (k ∷ ks) apart t = (other_tells text parent name s k (λ e. apart (inl e)) t.0, others_tell text parent name ss ks (λ h. apart (inr h)) t.1)

place_path : (spaces : List SpaceRecord) (i : ℕ) (old : SpaceRecord) → slice_get spaces i ≡ Some old → Has (map path_in spaces) old.path
place_path [] i old at = absurd (let f : None ≡ Some old = at in cc)
place_path (s ∷ ss) zero old at = inl (ap path_in (same_Some s old at))
place_path (s ∷ ss) (suc i) old at = inr (place_path ss i old at)

-- where the parent's table tells of the child too, all tables tell
parent_tells : (text : ModelRecord) (name : Name) (spaces : List SpaceRecord) (tables : List Kinds) (i : ℕ) (old : SpaceRecord) (kinds : Kinds) → Distinct (map path_in spaces) → slice_get spaces i ≡ Some old → Tells (grown text (old.path ++ name ∷ [])) old kinds → TellAll text spaces tables → TellAll (grown text (old.path ++ name ∷ [])) spaces (set tables i kinds)
parent_tells text name [] tables i old kinds d at own t = absurd (let f : None ≡ Some old = at in cc)
parent_tells text name (s ∷ ss) [] i old kinds d at own t = absurd t
parent_tells text name (s ∷ ss) (k ∷ ks) zero old kinds d at own t =
    let same : s ≡ old = same_Some s old at in
    let P : SpaceRecord → Type 0 = λ z. Tells (grown text (old.path ++ name ∷ [])) z kinds in
    let Q : Path → Type 0 = λ p. Has (map path_in ss) p → ⊥ in
    (subst P (sym same) own, others_tell text old.path name ss ks (subst Q (ap path_in same) d.0) t.1)
parent_tells text name (s ∷ ss) (k ∷ ks) (suc i) old kinds d at own t =
    let Q : Path → Type 0 = λ p. Has (map path_in ss) p in
    (other_tells text old.path name s k (λ e. d.0 (subst Q (sym e) (place_path ss i old at))) t.0, parent_tells text name ss ks i old kinds d.1 at own t.1)

-- no path stands below a new one
none_below : (text : ModelRecord) (parent : Path) (name n : Name) → ((path : Path) → Has (paths_of text) path → HasParent text (split_last path)) → (IsDefined text (parent ++ name ∷ []) → ⊥) → Has (paths_of text) ((parent ++ name ∷ []) ++ n ∷ []) → ⊥
none_below text parent name n parents free h =
    let P : Option (Path × Name) → Type 0 = λ split. HasParent text split in
    let at = subst P (split_push (parent ++ name ∷ []) n) (parents ((parent ++ name ∷ []) ++ n ∷ []) h) in
    elim at [
      | inl e ↦ some_not (parent, name) (sym (split_push parent name) ∙ ap split_last e)
      | inr d ↦ free d
    ]

longer : (path : Path) (n : Name) → path ≡ path ++ n ∷ [] → ⊥
longer path n e = let l = ap length e in let m = length-append path (n ∷ []) in let f : length path ≡ length path + 1 = l ∙ m in omega arith

false_by : (b : Bool) → (IsTrue b → ⊥) → b ≡ false
false_by true n = absurd (n refl)
false_by false n = refl

-- a new space has nothing
new_tells : (text : ModelRecord) (parent : Path) (name : Name) → ((path : Path) → Has (paths_of text) path → HasParent text (split_last path)) → (IsDefined text (parent ++ name ∷ []) → ⊥) → Tells (grown text (parent ++ name ∷ [])) (empty_space (parent ++ name ∷ [])) []
new_tells text parent name parents free n =
    let new = parent ++ name ∷ [] in
    let none = false_by (is_defined (grown text new) (new ++ n ∷ [])) (λ d.
    elim (grown_cases text new (new ++ n ∷ []) (defined_has (grown text new) (new ++ n ∷ []) d)) [
      | inl h ↦ none_below text parent name n parents free h
      | inr e ↦ longer new n e
    ]) in
    ap (λ (b : Bool). option_map kind_of (if b then Some Child else None)) (sym none)

-- ---- the parent's table

record HasNone (reference : Option RefValue) (cells : Option CellsRecord) : Type 0 where
  pub reference_none : reference ≡ None
  pub cells_none : cells ≡ None

none_of : (child : Option Member) (path : Path) (reference : Option RefValue) (cells : Option CellsRecord) → or_other (or_child child path reference) cells ≡ None → HasNone reference cells
none_of child path reference (Some c) e = absurd (let f : Some (Cells c) ≡ None = e in cc)
none_of child path (Some r) None e = absurd (let f : Some (Reference r path) ≡ None = e in cc)
none_of child path None None e = record { reference_none = refl; cells_none = refl }

child_kind : (text : ModelRecord) (name : Name) (old : SpaceRecord) → own_member text name old ≡ None → own_member (grown text (old.path ++ name ∷ [])) name old ≡ Some Child
child_kind text name old none =
    let new = old.path ++ name ∷ [] in
    let h = none_of (own_child text old.path name) old.path (lookup (same_name name) old.references) (lookup (same_name name) old.cells) none in
    let d : is_defined (grown text new) new ≡ true = path_defined (grown text new) new (grown_new text new) in
    ap (or_other (or_child (own_child (grown text new) old.path name) old.path (lookup (same_name name) old.references))) h.cells_none ∙
    ap (or_child (own_child (grown text new) old.path name) old.path) h.reference_none ∙
    ap (λ (b : Bool). if b then Some Child else None) d

parent_by : (text : ModelRecord) (name : Name) (old : SpaceRecord) (kinds : Kinds) → Tells text old kinds → own_member text name old ≡ None → (n : Name) (b : Bool) → same_name name n ≡ b → lookup (same_name n) (define same_name kinds name kind.Child) ≡ option_map kind_of (own_member (grown text (old.path ++ name ∷ [])) n old)
parent_by text name old kinds tells none n true e =
    let P : Name → Type 0 = λ m. lookup (same_name m) (define same_name kinds name kind.Child) ≡ option_map kind_of (own_member (grown text (old.path ++ name ∷ [])) m old) in
    subst P (same_is name n e) (define_own name kinds kind.Child ∙ sym (ap (option_map kind_of) (child_kind text name old none)))
parent_by text name old kinds tells none n false e =
    let other = grown_other text (old.path ++ name ∷ []) (old.path ++ n ∷ []) (λ i. let f : true ≡ false = sym (is_same name n (same_ends old.path old.path name n i).1) ∙ e in cc) in
    define_other name n kinds kind.Child e ∙ tells n ∙ ap (option_map kind_of) (sym (own_defined text (grown text (old.path ++ name ∷ [])) n old other))

pub child_tells : (text : ModelRecord) (name : Name) (old : SpaceRecord) (kinds : Kinds) → Tells text old kinds → own_member text name old ≡ None → Tells (grown text (old.path ++ name ∷ [])) old (define same_name kinds name kind.Child)
child_tells text name old kinds tells none n = parent_by text name old kinds tells none n (same_name name n) refl

-- ---- all together

pub tells_push : (text : ModelRecord) (spaces : List SpaceRecord) (tables : List Kinds) (s : SpaceRecord) (kinds : Kinds) → TellAll text spaces tables → Tells text s kinds → TellAll text (spaces ++ s ∷ []) (tables ++ kinds ∷ [])
tells_push text [] [] s kinds t own = (own, tt)
tells_push text [] (k ∷ ks) s kinds t own = absurd t
tells_push text (z ∷ zs) [] s kinds t own = absurd t
tells_push text (z ∷ zs) (k ∷ ks) s kinds t own = (t.0, tells_push text zs ks s kinds t.1 own)

grown_parent : (text : ModelRecord) (new : Path) (split : Option (Path × Name)) → HasParent text split → HasParent (grown text new) split
grown_parent text new None h = absurd h
grown_parent text new (Some (parent, name)) h =
    elim h [ inl e ↦ inl e | inr d ↦ inr (path_defined (grown text new) parent (grown_has text new parent (defined_has text parent d))) ]

parents_by : (text : ModelRecord) (parent : Path) (name : Name) → ((path : Path) → Has (paths_of text) path → HasParent text (split_last path)) → (parent ≡ []) ⊎ IsDefined text parent → (path : Path) → Has (paths_of text) path ⊎ (parent ++ name ∷ [] ≡ path) → HasParent (grown text (parent ++ name ∷ [])) (split_last path)
parents_by text parent name parents held path (inl h) = grown_parent text (parent ++ name ∷ []) (split_last path) (parents path h)
parents_by text parent name parents held path (inr e) =
    let P : Option (Path × Name) → Type 0 = λ split. HasParent (grown text (parent ++ name ∷ [])) split in
    subst P (sym (split_push parent name) ∙ ap split_last e) (grown_parent text (parent ++ name ∷ []) (Some (parent, name)) held)

-- a new space can stand behind the others where all tables tell of it
pub grown_placed : (text : ModelRecord) (tables tables' : List Kinds) (parent : Path) (name : Name) → ArePlaced tables text → (parent ≡ []) ⊎ IsDefined text parent → (IsDefined text (parent ++ name ∷ []) → ⊥) → length text.spaces + 1 < 2 ^ 32 → TellAll (grown text (parent ++ name ∷ [])) text.spaces tables' → ArePlaced (tables' ++ [] ∷ []) (grown text (parent ++ name ∷ []))
grown_placed text tables tables' parent name x held free few t =
    let new = parent ++ name ∷ [] in
    let P : List Path → Type 0 = λ ps. Distinct ps in
    record {
      once = subst P (sym (grown_paths text new)) (distinct_push (paths_of text) new x.once (λ h. free (path_defined text new h)));
      kinds = tells_push (grown text new) text.spaces tables' (empty_space new) [] t (new_tells text parent name x.parents free);
      parents = λ path h. parents_by text parent name x.parents held path (grown_cases text new path h);
      few = let l = length-append text.spaces (empty_space new ∷ []) in omega arith;
    }

-- no space has the empty path
pub top_tells : (text : ModelRecord) (tables : List Kinds) (name : Name) → ArePlaced tables text → TellAll (grown text ([] ++ name ∷ [])) text.spaces tables
top_tells text tables name x = others_tell text [] name text.spaces tables (λ h. x.parents [] h) x.kinds

-- ---- the parent by its place

pub record SpaceOf (text : ModelRecord) (s : SpaceId) (path : Path) : Type 0 where
  pub old : SpaceRecord
  pub is : space_of text s ≡ Some old
  pub at : old.path ≡ path

space_of_by : (text : ModelRecord) (s : SpaceId) (path : Path) (o : Option SpaceRecord) → space_of text s ≡ o → option_map path_in o ≡ Some path → SpaceOf text s path
space_of_by text s path None e m = absurd (let f : None ≡ Some path = m in cc)
space_of_by text s path (Some old) e m = record { old = old; is = e; at = same_Some old.path path m }

-- the space of the place of a path
pub space_of_id : (text : ModelRecord) (path : Path) (s : SpaceId) → id_of text path ≡ Some s → SpaceOf text s path
space_of_id text path s e = space_of_by text s path (space_of text s) refl (sym (slice_get-map path_in text.spaces s.0) ∙ id_at text path s e)

child_table : (text : ModelRecord) (name : Name) (old : SpaceRecord) (table table' : Kinds) → Tells text old table → own_member text name old ≡ None → ((lookup (same_name name) table ≡ Some kind.Child) × (table' ≡ table)) ⊎ (table' ≡ define same_name table name kind.Child) → Tells (grown text (old.path ++ name ∷ [])) old table'
child_table text name old table table' tells none (inl h) =
    let f : Some kind.Child ≡ None = sym h.0 ∙ tells name ∙ ap (option_map kind_of) none in absurd (cc)
child_table text name old table table' tells none (inr e) =
    let P : Kinds → Type 0 = λ t. Tells (grown text (old.path ++ name ∷ [])) old t in subst P (sym e) (child_tells text name old table tells none)

-- the tables with the child in that of its parent
pub with_child : (text : ModelRecord) (tables : List Kinds) (parent : Path) (name : Name) (s : SpaceId) (table table' : Kinds) → ArePlaced tables text → id_of text parent ≡ Some s → slice_get tables s.0 ≡ Some table → ((r : SpaceRecord) → space_at text parent ≡ Some r → own_member text name r ≡ None) → ((lookup (same_name name) table ≡ Some kind.Child) × (table' ≡ table)) ⊎ (table' ≡ define same_name table name kind.Child) → TellAll (grown text (parent ++ name ∷ [])) text.spaces (set tables s.0 table')
with_child text tables parent name s table table' x id at own child =
    let f = space_of_id text parent s id in
    let none = own f.old (ap (option_and_then (space_of text)) id ∙ f.is) in
    let tells = tells_at text text.spaces tables s.0 f.old table x.kinds f.is at in
    let P : Path → Type 0 = λ p. TellAll (grown text (p ++ name ∷ [])) text.spaces (set tables s.0 table') in
    subst P f.at (parent_tells text name text.spaces tables s.0 f.old table' x.once f.is (child_table text name f.old table table' tells none child) x.kinds)

none_id : (o : Option SpaceId) → o ≡ None → IsTrue (is_some o) → ⊥
none_id None e t = let f : false ≡ true = t in absurd (cc)
none_id (Some s) e t = let f : Some s ≡ None = e in absurd (cc)

-- a space at the top has no parent
pub without_parent : (text : ModelRecord) (tables : List Kinds) (parent : Path) (name : Name) → ArePlaced tables text → id_of text parent ≡ None → (parent ≡ []) ⊎ IsDefined text parent → TellAll (grown text (parent ++ name ∷ [])) text.spaces tables
without_parent text tables parent name x none (inl e) =
    let P : Path → Type 0 = λ p. TellAll (grown text (p ++ name ∷ [])) text.spaces tables in subst P (sym e) (top_tells text tables name x)
without_parent text tables parent name x none (inr d) = absurd (none_id (id_of text parent) none d)

-- all together, as code puts it together
pub grown_built : (text text' : ModelRecord) (tables tables' tables'' : List Kinds) (parent : Path) (name : Name) → ArePlaced tables text → (parent ≡ []) ⊎ IsDefined text parent → (IsDefined text (parent ++ name ∷ []) → ⊥) → length text.spaces + 1 < 2 ^ 32 → TellAll (grown text (parent ++ name ∷ [])) text.spaces tables' → tables'' ≡ tables' ++ [] ∷ [] → text' ≡ grown text (parent ++ name ∷ []) → ArePlaced tables'' text'
grown_built text text' tables tables' tables'' parent name x held free few t e is =
    let P : ModelRecord → Type 0 = λ z. ArePlaced tables'' z in
    let Q : List Kinds → Type 0 = λ ts. ArePlaced ts (grown text (parent ++ name ∷ [])) in
    subst P (sym is) (subst Q (sym e) (grown_placed text tables tables' parent name x held free few t))
