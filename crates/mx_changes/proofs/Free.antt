-- What holds of an edit to which no refusal applies.
use Rattle.std.proofs.Common.{◌≡◌, Bool, true, false, not, List, [], ◌∷◌, ◌++◌, Option, Some, None, ◌⊎◌, inl, inr, refl, sym, ◌∙◌, ap, subst}
use Rattle.std.specs.Prelude.{IsTrue, is_some, option_and_then, if◌then◌else◌, ◌||◌}
use Rattle.std.specs.List.{list_any}
use Rattle.std.specs.Map.{lookup}
use Rattle.mx_value.specs.Name.{same_name}
use Rattle.mx_edit.specs.declared.reference.RefValue.{RefValue}
use Rattle.mx_edit.specs.declared.edit.Edit.{Edit}
use Rattle.mx_edit.specs.declared.edit.Edit.TheVariants as edit
use Rattle.mx_edit.specs.declared.refusal.EditRefusal.{EditRefusal}
use Rattle.mx_edit.specs.declared.refusal.EditRefusal.TheVariants as refusal
use Rattle.mx_c3.specs.Lists.{Has}
use Rattle.mx_model.specs.Records.{Name, Path, CellsRecord, SpaceRecord, ModelRecord}
use Rattle.std.proofs.lemmas.Option.{same_Some}
use Rattle.mx_c3.specs.declared.space.SpaceId.{SpaceId}
use Rattle.mx_model.specs.Layers.{id_of, space_of}
use Rattle.mx_model.specs.Binding.{Member, Child, or_child, or_other, own_member}
use Rattle.mx_model.proofs.Filtered.{place_has}
use Rattle.mx_changes.proofs.NewSpaces.{space_of_id}
use Rattle.mx_model.specs.Paths.{is_defined, space_at, split_last}
use Rattle.mx_model.specs.Parents.{HasParent}
use Rattle.mx_model.specs.Rings.{IsDefined}
use Rattle.mx_model.specs.Refused.{bad_name, no_such_space, no_such_member, name_taken, wrong_count, item_address, bad_value, in_use, is_holder, has_cells, has_reference, holds_reference, record_trouble}

-- ---- each test in turn

abbrev pub from_value : ModelRecord → Edit → Option EditRefusal
from_value text e = if bad_value text e then Some refusal.BadValue else in_use text e

abbrev pub from_address : ModelRecord → Edit → Option EditRefusal
from_address text e = if item_address e then Some refusal.ItemAddress else from_value text e

abbrev pub from_count : ModelRecord → Edit → Option EditRefusal
from_count text e = if wrong_count text e then Some refusal.WrongCount else from_address text e

abbrev pub from_taken : ModelRecord → Edit → Option EditRefusal
from_taken text e = if name_taken text e then Some refusal.NameTaken else from_count text e

abbrev pub from_member : ModelRecord → Edit → Option EditRefusal
from_member text e = if no_such_member text e then Some refusal.NoSuchMember else from_taken text e

abbrev pub from_space : ModelRecord → Edit → Option EditRefusal
from_space text e = if no_such_space text e then Some refusal.NoSuchSpace else from_member text e

pub record IsFree (text : ModelRecord) (e : Edit) : Type 0 where
  pub spaces : no_such_space text e ≡ false
  pub members : no_such_member text e ≡ false
  pub names : name_taken text e ≡ false
  pub count : wrong_count text e ≡ false
  pub values : bad_value text e ≡ false

unless : (b : Bool) (why : EditRefusal) (rest : Option EditRefusal) → (if b then Some why else rest) ≡ None → (b ≡ false) × (rest ≡ None)
unless true why rest e = absurd (let f : Some why ≡ None = e in cc)
unless false why rest e = (refl, e)

pub free_of : (text : ModelRecord) (e : Edit) → record_trouble text e ≡ None → IsFree text e
free_of text e none =
    let a = unless (bad_name e) refusal.BadName (from_space text e) none in
    let b = unless (no_such_space text e) refusal.NoSuchSpace (from_member text e) a.1 in
    let c = unless (no_such_member text e) refusal.NoSuchMember (from_taken text e) b.1 in
    let d = unless (name_taken text e) refusal.NameTaken (from_count text e) c.1 in
    let f = unless (wrong_count text e) refusal.WrongCount (from_address text e) d.1 in
    let g = unless (item_address e) refusal.ItemAddress (from_value text e) f.1 in
    let h = unless (bad_value text e) refusal.BadValue (in_use text e) g.1 in
    record { spaces = b.0; members = c.0; names = d.0; count = f.0; values = h.0 }

pub free_at : (text : ModelRecord) (e e' : Edit) → record_trouble text e ≡ None → e ≡ e' → IsFree text e'
free_at text e e' none is = free_of text e' (ap (record_trouble text) (sym is) ∙ none)

-- ---- what the changes ask

pub is_true : (b : Bool) → not b ≡ false → IsTrue b
is_true true e = refl
is_true false e = absurd (let f : true ≡ false = e in cc)

pub either : (a b : Bool) → (a || b) ≡ false → (a ≡ false) × (b ≡ false)
either true b e = absurd (let f : true ≡ false = e in cc)
either false b e = (refl, e)

not_true : (b : Bool) → b ≡ false → IsTrue b → ⊥
not_true b e t = let f : b ≡ true = t in cc

pub bases_defined : (text : ModelRecord) (path : Path) (bases : List Path) → IsFree text (edit.SetBases path bases) → IsTrue (is_defined text path)
bases_defined text path bases f = is_true (is_defined text path) (either (not (is_defined text path)) (list_any (λ (base : Path). not (is_defined text base)) bases) f.spaces).0

pub allowed_cells : (text : ModelRecord) (path : Path) (name : Name) (flag : Bool) → IsFree text (edit.SetAllowNone path name flag) → IsTrue (is_some (option_and_then (λ (s : SpaceRecord). lookup (same_name name) s.cells) (space_at text path)))
allowed_cells text path name flag f = by_space (space_at text path) f.members
  where
    by_space : (o : Option SpaceRecord) → not (has_cells name o) ≡ false → IsTrue (is_some (option_and_then (λ (s : SpaceRecord). lookup (same_name name) s.cells) o))
    by_space (Some s) e = is_true (is_some (lookup (same_name name) s.cells)) e
    by_space None e = absurd (let f : true ≡ false = e in cc)

pub holds : (text : ModelRecord) (path : Path) → is_holder text path ≡ true → (path ≡ []) ⊎ IsDefined text path
holds text [] e = inl refl
holds text (name ∷ names) e = inr e

-- ---- a new space

none_of : {X : Type 0} (o : Option X) → is_some o ≡ false → o ≡ None
none_of None e = refl
none_of (Some x) e = absurd (let f : true ≡ false = e in cc)

abbrev made_of : Name → Path → Bool → Option RefValue → Option CellsRecord → Option Member
made_of name path child reference cells = or_other (or_child (if child then Some Child else None) path reference) cells

nothing_own : (text : ModelRecord) (name : Name) (s : SpaceRecord) → is_defined text (s.path ++ name ∷ []) ≡ false → is_some (lookup (same_name name) s.cells) ≡ false → is_some (lookup (same_name name) s.references) ≡ false → own_member text name s ≡ None
nothing_own text name s child cells reference =
    ap (λ (b : Bool). made_of name s.path b (lookup (same_name name) s.references) (lookup (same_name name) s.cells)) child ∙
    ap (λ (r : Option RefValue). made_of name s.path false r (lookup (same_name name) s.cells)) (none_of (lookup (same_name name) s.references) reference) ∙
    ap (λ (c : Option CellsRecord). made_of name s.path false None c) (none_of (lookup (same_name name) s.cells) cells)

own_at : (text : ModelRecord) (parent : Path) (name : Name) (s : SpaceRecord) → HasParent text (split_last s.path) → s.path ≡ parent → space_at text parent ≡ Some s → name_taken text (edit.NewSpace parent name) ≡ false → own_member text name s ≡ None
own_at text [] name s held path at free = absurd (let P : Path → Type 0 = λ p. HasParent text (split_last p) in subst P path held)
own_at text (first ∷ names) name s held path at free =
    let parent : Path = first ∷ names in
    let a = either (is_defined text (parent ++ name ∷ [])) (has_cells name (space_at text parent) || has_reference name (space_at text parent)) free in
    let b = either (has_cells name (space_at text parent)) (has_reference name (space_at text parent)) a.1 in
    nothing_own text name s
    (ap (λ (p : Path). is_defined text (p ++ name ∷ [])) path ∙ a.0)
    (ap (has_cells name) (sym at) ∙ b.0)
    (ap (has_reference name) (sym at) ∙ b.1)

own_by : (text : ModelRecord) (parent : Path) (name : Name) (s : SpaceRecord) (id : Option SpaceId) → id_of text parent ≡ id → ((z : SpaceRecord) → Has text.spaces z → HasParent text (split_last z.path)) → name_taken text (edit.NewSpace parent name) ≡ false → space_at text parent ≡ Some s → own_member text name s ≡ None
own_by text parent name s None e parents free at =
    let f : None ≡ Some s = ap (option_and_then (space_of text)) (sym e) ∙ at in absurd (cc)
own_by text parent name s (Some id) e parents free at =
    let found = space_of_id text parent id e in
    let is : space_of text id ≡ Some s = ap (option_and_then (space_of text)) (sym e) ∙ at in
    let same : found.old ≡ s = same_Some found.old s (sym found.is ∙ is) in
    own_at text parent name s (parents s (place_has text.spaces id.0 s is)) (ap (λ (z : SpaceRecord). z.path) (sym same) ∙ found.at) at free

pub own_none : (text : ModelRecord) (parent : Path) (name : Name) → ((z : SpaceRecord) → Has text.spaces z → HasParent text (split_last z.path)) → name_taken text (edit.NewSpace parent name) ≡ false → (s : SpaceRecord) → space_at text parent ≡ Some s → own_member text name s ≡ None
own_none text parent name parents free s at = own_by text parent name s (id_of text parent) refl parents free at

pub new_free : (text : ModelRecord) (parent : Path) (name : Name) → name_taken text (edit.NewSpace parent name) ≡ false → IsDefined text (parent ++ name ∷ []) → ⊥
new_free text parent name free defined =
    let a = either (is_defined text (parent ++ name ∷ [])) (has_cells name (space_at text parent) || holds_reference text parent name) free in
    not_true (is_defined text (parent ++ name ∷ [])) a.0 defined
