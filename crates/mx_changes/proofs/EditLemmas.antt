-- Spaces that edits change: what they keep.
use Rattle.std.proofs.Common.{◌≡◌, Bool, true, false, List, Option, None, Some, refl, sym, ◌∙◌, ap, subst}
use Rattle.std.specs.Prelude.{IsTrue, is_some, option_and_then}
use Rattle.std.specs.Map.{lookup}
use Rattle.std.proofs.lemmas.Option.{same_Some}
use Rattle.mx_value.specs.Name.{same_name}
use Rattle.mx_c3.specs.declared.space.SpaceId.{SpaceId}
use Rattle.mx_syntax.specs.declared.stmt.Formula.{Formula}
use Rattle.mx_edit.specs.declared.reference.RefValue.{RefValue}
use Rattle.mx_model.specs.Records.{Name, Path, CellsRecord, SpaceRecord, ModelRecord}
use Rattle.mx_model.specs.Layers.{id_of, space_of}
use Rattle.mx_model.specs.Paths.{space_at}
use Rattle.mx_model.specs.Readers.{or_false}
use Rattle.mx_model.specs.Change.{define, without, define_cells, set_allow}
use Rattle.mx_changes.specs.Kept.{KeepsOthers}
use Rattle.mx_model.specs.Kept.{StaysInPlace}
use Rattle.mx_model.proofs.NameLemmas.{define_other, without_other, defined_cells, allowed}

-- ---- a space by its place

pub one_space : (text : ModelRecord) (s : SpaceId) (first old : SpaceRecord) → space_of text s ≡ Some first → space_of text s ≡ Some old → first ≡ old
one_space text s first old f e = same_Some first old (sym f ∙ e)

pub keeps_at : (text : ModelRecord) (s : SpaceId) (name : Name) (first old new made : SpaceRecord) → space_of text s ≡ Some first → new ≡ made → KeepsOthers name first made → space_of text s ≡ Some old → KeepsOthers name old new
keeps_at text s name first old new made f e keeps at =
    let P : SpaceRecord → Type 0 = λ z. KeepsOthers name first z in
    let Q : SpaceRecord → Type 0 = λ z. KeepsOthers name z new in
    subst Q (one_space text s first old f at) (subst P (sym e) keeps)

pub stays_at : (text : ModelRecord) (s : SpaceId) (first old new made : SpaceRecord) → space_of text s ≡ Some first → new ≡ made → StaysInPlace first made → space_of text s ≡ Some old → StaysInPlace old new
stays_at text s first old new made f e stays at =
    let P : SpaceRecord → Type 0 = λ z. StaysInPlace first z in
    let Q : SpaceRecord → Type 0 = λ z. StaysInPlace z new in
    subst Q (one_space text s first old f at) (subst P (sym e) stays)

pub made_at : (text : ModelRecord) (s : SpaceId) (first old new : SpaceRecord) (change : SpaceRecord → SpaceRecord) → space_of text s ≡ Some first → new ≡ change first → space_of text s ≡ Some old → new ≡ change old
made_at text s first old new change f e at = e ∙ ap change (one_space text s first old f at)

pub keeps_stays : (name : Name) (old new : SpaceRecord) → KeepsOthers name old new → StaysInPlace old new
keeps_stays name old new keeps = record { path = keeps.path; bases = keeps.bases }

-- ---- what changes keep

pub keeps_cells : (old : SpaceRecord) (cells : List (Name × CellsRecord)) (name : Name) → ((other : Name) → same_name name other ≡ false → lookup (same_name other) cells ≡ lookup (same_name other) old.cells) → KeepsOthers name old (record old { cells = cells })
keeps_cells old cells name others = record { path = refl; bases = refl; cells = others; references = λ other n. refl }

pub keeps_references : (old : SpaceRecord) (references : List (Name × RefValue)) (name : Name) → ((other : Name) → same_name name other ≡ false → lookup (same_name other) references ≡ lookup (same_name other) old.references) → KeepsOthers name old (record old { references = references })
keeps_references old references name others = record { path = refl; bases = refl; cells = λ other n. refl; references = others }

pub defined_keeps : (old : SpaceRecord) (name : Name) (formula : Formula) → KeepsOthers name old (record old { cells = define_cells old.cells name formula })
defined_keeps old name formula =
    let made : CellsRecord = record { formula = formula; allow_none = or_false (lookup (same_name name) old.cells) } in
    keeps_cells old (define_cells old.cells name formula) name (λ other n. ap (lookup (same_name other)) (sym (defined_cells old.cells name formula)) ∙ define_other name other old.cells made n)

pub removed_keeps : (old : SpaceRecord) (name : Name) → KeepsOthers name old (record old { cells = without same_name old.cells name })
removed_keeps old name = keeps_cells old (without same_name old.cells name) name (λ other n. without_other name other old.cells n)

pub allowed_keeps : (old : SpaceRecord) (name : Name) (flag : Bool) (c : CellsRecord) → lookup (same_name name) old.cells ≡ Some c → KeepsOthers name old (record old { cells = set_allow old.cells name flag })
allowed_keeps old name flag c at =
    keeps_cells old (set_allow old.cells name flag) name (λ other n. ap (lookup (same_name other)) (sym (allowed old.cells name flag c at)) ∙ define_other name other old.cells (record { formula = c.formula; allow_none = flag }) n)

pub reference_keeps : (old : SpaceRecord) (name : Name) (value : RefValue) → KeepsOthers name old (record old { references = define same_name old.references name value })
reference_keeps old name value = keeps_references old (define same_name old.references name value) name (λ other n. define_other name other old.references value n)

pub no_reference_keeps : (old : SpaceRecord) (name : Name) → KeepsOthers name old (record old { references = without same_name old.references name })
no_reference_keeps old name = keeps_references old (without same_name old.references name) name (λ other n. without_other name other old.references n)

pub record FoundCells (cells : Option CellsRecord) : Type 0 where
  pub found : CellsRecord
  pub is : cells ≡ Some found

found_cells : (cells : Option CellsRecord) → IsTrue (is_some cells) → FoundCells cells
found_cells None t = let f : false ≡ true = t in absurd (cc)
found_cells (Some c) t = record { found = c; is = refl }

-- cells that the space at a path has
pub some_cells : (text : ModelRecord) (path : Path) (s : SpaceId) (first : SpaceRecord) (name : Name) → id_of text path ≡ Some s → space_of text s ≡ Some first → IsTrue (is_some (option_and_then (λ (z : SpaceRecord). lookup (same_name name) z.cells) (space_at text path))) → FoundCells (lookup (same_name name) first.cells)
some_cells text path s first name id at t =
    let P : Option SpaceRecord → Type 0 = λ o. IsTrue (is_some (option_and_then (λ (z : SpaceRecord). lookup (same_name name) z.cells) o)) in
    found_cells (lookup (same_name name) first.cells) (subst P (ap (option_and_then (space_of text)) id ∙ at) t)
