-- What the first layer that has a name has of it.
use Rattle.std.proofs.Common.{◌≡◌, ℕ, ◌+◌, ◌<◌, Bool, true, false, List, [], ◌∷◌, ◌++◌, drop, length, get_or, Option, Some, None, refl, sym, ◌∙◌, ap, subst}
use Rattle.std.specs.Prelude.{option_map, option_and_then, is_some, if◌then◌else◌}
use Rattle.std.specs.Option.{option_or}
use Rattle.std.specs.Map.{lookup}
use Rattle.std.proofs.lemmas.Option.{same_Some}
use Rattle.mx_value.specs.Name.{same_name}
use Rattle.mx_c3.specs.declared.space.SpaceId.{SpaceId}
use Rattle.mx_c3.specs.InOrder.{AllBelow}
use Rattle.mx_c3.proofs.ListLemmas.{drop_more}
use Rattle.mx_edit.specs.declared.reference.RefValue.{RefValue}
use Rattle.mx_model.specs.declared.kind.Kind.{Kind}
use Rattle.mx_model.specs.declared.kind.Kind.TheVariants as kind
use Rattle.mx_model.specs.declared.layers.Layered.{Layered}
use Rattle.mx_model.specs.declared.layers.Layered.TheVariants.{Layers, NotStatic}
use Rattle.mx_model.specs.Records.{Name, Path, CellsRecord, SpaceRecord, ModelRecord}
use Rattle.mx_model.specs.Layers.{id_of, space_of, layers}
use Rattle.mx_model.specs.Binding.{Member, Cells, Reference, Child, or_child, or_other, own_member, first_with}
use Rattle.mx_model.specs.Lookup.{kind_of, member_in, kind_in, IsBoundAt, IsBinding, bound_as}
use Rattle.mx_model.specs.Readers.{cells_of, formula_in, allows_in, or_false, reference_in, path_in}
use Rattle.mx_model.specs.Sound.{HasSpaces, IsFound}
use Rattle.mx_model.specs.Valid.{Valid}
use Rattle.mx_model.specs.Keys.{bound_to, formula_of}
use Rattle.mx_edit.specs.declared.key.KeyResult.TheVariants as found
use Rattle.mx_model.proofs.SoundLemmas.{layers_spaces, valid_sound}

-- ---- one layer after the other

pub first_step : {X : Type 0} (text : ModelRecord) (own : SpaceRecord → Option X) (spaces : List SpaceId) (i : ℕ) (d : SpaceId) → i < length spaces → first_with text own (drop i spaces) ≡ option_or (option_and_then own (space_of text (get_or spaces i d))) (first_with text own (drop (i + 1) spaces))
first_step text own spaces i d h = ap (first_with text own) (drop_more spaces i d h)

-- a layer that has nothing is passed
pub first_passed : {X : Type 0} (text : ModelRecord) (own : SpaceRecord → Option X) (spaces : List SpaceId) (i : ℕ) (d : SpaceId) → i < length spaces → option_and_then own (space_of text (get_or spaces i d)) ≡ None → first_with text own (drop i spaces) ≡ first_with text own (drop (i + 1) spaces)
first_passed {X} text own spaces i d h e = first_step text own spaces i d h ∙ ap (λ (o : Option X). option_or o (first_with text own (drop (i + 1) spaces))) e

pub first_taken : {X : Type 0} (text : ModelRecord) (own : SpaceRecord → Option X) (spaces : List SpaceId) (i : ℕ) (d : SpaceId) (x : X) → i < length spaces → option_and_then own (space_of text (get_or spaces i d)) ≡ Some x → first_with text own (drop i spaces) ≡ Some x
first_taken {X} text own spaces i d x h e = first_step text own spaces i d h ∙ ap (λ (o : Option X). option_or o (first_with text own (drop (i + 1) spaces))) e

abbrev is_cells : Kind → Bool
is_cells kind.Cells = true
is_cells _ = false

abbrev is_reference : Kind → Bool
is_reference kind.Reference = true
is_reference _ = false

abbrev is_child : Kind → Bool
is_child kind.Child = true
is_child _ = false

no_kind : (member : Option Member) → None ≡ option_map kind_of member → member ≡ None
no_kind None e = refl
no_kind (Some m) e = absurd (let f : None ≡ Some (kind_of m) = e in cc)

-- a layer that has no kind of a name is passed
pub none_passed : (text : ModelRecord) (name : Name) (spaces : List SpaceId) (i : ℕ) (d : SpaceId) → i < length spaces → None ≡ kind_in text (get_or spaces i d) name → first_with text (own_member text name) (drop i spaces) ≡ first_with text (own_member text name) (drop (i + 1) spaces)
none_passed text name spaces i d h e = first_passed text (own_member text name) spaces i d h (no_kind (member_in text (get_or spaces i d) name) e)

or_some : (member rest : Option Member) (k : Kind) → Some k ≡ option_map kind_of member → option_or member rest ≡ member
or_some None rest k e = absurd (let f : None ≡ Some k = sym e in cc)
or_some (Some m) rest k e = refl

child_some : (member : Option Member) → option_map kind_of member ≡ Some kind.Child → member ≡ Some Child
child_some None e = absurd (let f : None ≡ Some kind.Child = e in cc)
child_some (Some (Cells cells)) e = absurd (let g : false ≡ true = ap is_child (same_Some kind.Cells kind.Child e) in cc)
child_some (Some (Reference value owner)) e = absurd (let g : false ≡ true = ap is_child (same_Some kind.Reference kind.Child e) in cc)
child_some (Some Child) e = refl

binding_as : (text : ModelRecord) (name : Name) (s : SpaceId) (k : Kind) (member : Option Member) → IsBoundAt text name s k member → IsBinding text name (bound_as k s) member
binding_as text name s kind.Cells member b = b
binding_as text name s kind.Reference member b = b
binding_as text name s kind.Child member b = b.is ∙ child_some (member_in text s name) b.of_kind

-- a layer that has a kind of a name decides
pub some_taken : (text : ModelRecord) (name : Name) (spaces : List SpaceId) (i : ℕ) (d : SpaceId) (k : Kind) → i < length spaces → (get_or spaces i d).0 < length text.spaces → Some k ≡ kind_in text (get_or spaces i d) name → IsBinding text name (bound_as k (get_or spaces i d)) (first_with text (own_member text name) (drop i spaces))
some_taken text name spaces i d k h w e =
    let s = get_or spaces i d in
    let first = first_step text (own_member text name) spaces i d h in
    let rest = first_with text (own_member text name) (drop (i + 1) spaces) in
    binding_as text name s k (first_with text (own_member text name) (drop i spaces)) (record {
      within = w;
      is = first ∙ or_some (member_in text s name) rest k e;
      of_kind = sym e;
    })

-- ---- what a space has of a kind

abbrev own : Bool → Path → Option RefValue → Option CellsRecord → Option Member
own b path reference cells = or_other (or_child (if b then Some Child else None) path reference) cells

pub record HasCells (cells : Option CellsRecord) (member : Option Member) : Type 0 where
  pub found : CellsRecord
  pub has : cells ≡ Some found
  pub is : member ≡ Some (Cells found)

pub record HasReference (path : Path) (reference : Option RefValue) (member : Option Member) : Type 0 where
  pub value : RefValue
  pub has : reference ≡ Some value
  pub is : member ≡ Some (Reference value path)

cells_own : (b : Bool) (path : Path) (reference : Option RefValue) (cells : Option CellsRecord) → option_map kind_of (own b path reference cells) ≡ Some kind.Cells → HasCells cells (own b path reference cells)
cells_own b path reference (Some cells) e = record { found = cells; has = refl; is = refl }
cells_own b path (Some value) None e = absurd (let g : false ≡ true = ap is_cells (same_Some kind.Reference kind.Cells e) in cc)
cells_own true path None None e = absurd (let g : false ≡ true = ap is_cells (same_Some kind.Child kind.Cells e) in cc)
cells_own false path None None e = absurd (let f : None ≡ Some kind.Cells = e in cc)

reference_own : (b : Bool) (path : Path) (reference : Option RefValue) (cells : Option CellsRecord) → option_map kind_of (own b path reference cells) ≡ Some kind.Reference → HasReference path reference (own b path reference cells)
reference_own b path reference (Some cells) e = absurd (let g : false ≡ true = ap is_reference (same_Some kind.Cells kind.Reference e) in cc)
reference_own b path (Some value) None e = record { value = value; has = refl; is = refl }
reference_own true path None None e = absurd (let g : false ≡ true = ap is_reference (same_Some kind.Child kind.Reference e) in cc)
reference_own false path None None e = absurd (let f : None ≡ Some kind.Reference = e in cc)

abbrev own_of : ModelRecord → Name → SpaceRecord → Bool
own_of text name s = is_some (id_of text (s.path ++ name ∷ []))

pub record CellsAt (text : ModelRecord) (name : Name) (s : SpaceId) : Type 0 where
  pub found : CellsRecord
  pub formula : formula_in text s name ≡ Some found.formula
  pub allows : allows_in text s name ≡ found.allow_none
  pub is : member_in text s name ≡ Some (Cells found)

cells_by : (text : ModelRecord) (name : Name) (s : SpaceId) (space : Option SpaceRecord) → space_of text s ≡ space → option_map kind_of (option_and_then (own_member text name) space) ≡ Some kind.Cells → CellsAt text name s
cells_by text name s None e h = absurd (let f : None ≡ Some kind.Cells = h in cc)
cells_by text name s (Some space) e h =
    let m = cells_own (own_of text name space) space.path (lookup (same_name name) space.references) (lookup (same_name name) space.cells) h in
    record {
      found = m.found;
      formula = ap (option_and_then (λ (z : SpaceRecord). option_map (λ (c : CellsRecord). c.formula) (cells_of z name))) e ∙ ap (option_map (λ (c : CellsRecord). c.formula)) m.has;
      allows = ap (λ (o : Option SpaceRecord). or_false (option_and_then (λ (z : SpaceRecord). cells_of z name) o)) e ∙ ap or_false m.has;
      is = ap (option_and_then (own_member text name)) e ∙ m.is;
    }

-- cells that a space has
pub cells_at : (text : ModelRecord) (name : Name) (s : SpaceId) → kind_in text s name ≡ Some kind.Cells → CellsAt text name s
cells_at text name s h = cells_by text name s (space_of text s) refl h

pub record ReferenceAt (text : ModelRecord) (name : Name) (s : SpaceId) : Type 0 where
  pub value : RefValue
  pub path : Path
  pub has : reference_in text s name ≡ Some value
  pub at : path_in text s ≡ Some path
  pub is : member_in text s name ≡ Some (Reference value path)

reference_by : (text : ModelRecord) (name : Name) (s : SpaceId) (space : Option SpaceRecord) → space_of text s ≡ space → option_map kind_of (option_and_then (own_member text name) space) ≡ Some kind.Reference → ReferenceAt text name s
reference_by text name s None e h = absurd (let f : None ≡ Some kind.Reference = h in cc)
reference_by text name s (Some space) e h =
    let m = reference_own (own_of text name space) space.path (lookup (same_name name) space.references) (lookup (same_name name) space.cells) h in
    record {
      value = m.value;
      path = space.path;
      has = ap (option_and_then (λ (z : SpaceRecord). lookup (same_name name) z.references)) e ∙ m.has;
      at = ap (option_map (λ (z : SpaceRecord). z.path)) e;
      is = ap (option_and_then (own_member text name)) e ∙ m.is;
    }

-- a reference that a space has
pub reference_at : (text : ModelRecord) (name : Name) (s : SpaceId) → kind_in text s name ≡ Some kind.Reference → ReferenceAt text name s
reference_at text name s h = reference_by text name s (space_of text s) refl h

-- ---- paths

pub found_layers : (reached : Layered) (found : Option (List SpaceId)) (spaces : List SpaceId) → found ≡ Some spaces → IsFound found reached → reached ≡ Layers spaces
found_layers reached None spaces e f = absurd (let g : None ≡ Some spaces = e in cc)
found_layers reached (Some others) spaces e f = f ∙ ap Layers (same_Some others spaces e)

pub not_found : (reached : Layered) (found : Option (List SpaceId)) → found ≡ None → IsFound found reached → reached ≡ NotStatic
not_found reached None e f = f
not_found reached (Some spaces) e f = absurd (let g : Some spaces ≡ None = e in cc)

pub layers_below : (text : ModelRecord) (path : Path) (spaces : List SpaceId) → Valid text → layers text path ≡ Layers spaces → AllBelow (length text.spaces) spaces
layers_below text path spaces valid e =
    let P : Layered → Type 0 = λ reached. HasSpaces text reached in
    let are = subst P e (layers_spaces text path (valid_sound text valid)) in
    are.1

pub bound_cells : (text : ModelRecord) (name : Name) (s : SpaceId) (member : Option Member) → IsBoundAt text name s kind.Cells member → bound_to member ≡ found.CellsHere
bound_cells text name s member b = ap bound_to (b.is ∙ (cells_at text name s b.of_kind).is)

pub no_cells : (text : ModelRecord) (name : Name) (s : SpaceId) (member : Option Member) → IsBoundAt text name s kind.Reference member → formula_of member ≡ found.Missing
no_cells text name s member b = ap formula_of (b.is ∙ (reference_at text name s b.of_kind).is)
