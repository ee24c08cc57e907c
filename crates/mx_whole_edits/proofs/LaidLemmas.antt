-- Lines of a model file leave a text laid, and a laid text without a ring is one that whole edits can follow.
use Rattle.std.proofs.Common.{◌≡◌, Bool, true, false, List, [], ◌∷◌, ◌++◌, map, None, inl, inr, refl, sym, ap, subst}
use Rattle.std.specs.Prelude.{if◌then◌else◌}
use Rattle.mx_value.specs.Name.{same_path}
use Rattle.mx_value.specs.declared.value.Value.{Value}
use Rattle.mx_value.specs.declared.node.Node.{Node}
use Rattle.mx_edit.specs.Rows.{TableRows}
use Rattle.mx_edit.specs.declared.reference.RefValue.{RefValue}
use Rattle.mx_edit.specs.declared.edit.Edit.{Edit}
use Rattle.mx_edit.specs.declared.edit.Edit.TheVariants as edit
use Rattle.mx_c3.specs.Lists.{Has, Distinct}
use Rattle.mx_c3.proofs.ListLemmas.{has_push_cases}
use Rattle.mx_model.specs.Records.{Name, Path, CellsRecord, SpaceRecord, ModelRecord, empty_space}
use Rattle.mx_model.specs.Paths.{split_last}
use Rattle.mx_model.specs.Parents.{HasParent}
use Rattle.mx_model.specs.Rings.{IsDefined}
use Rattle.mx_model.specs.Change.{change, bound_edit}
use Rattle.mx_model.specs.Refused.{record_trouble}
use Rattle.mx_model.specs.Valid.{names_of, InputsFit}
use Rattle.mx_model.specs.Indexed.{Kinds, ArePlaced}
use Rattle.mx_model.proofs.Filtered.{has_map, map_has}
use Rattle.mx_model.proofs.Places.{bases_sound}
use Rattle.mx_changes.proofs.Free.{free_of}
use Rattle.mx_apply.specs.Chain.{BasesAreOnce}
use Rattle.mx_apply.proofs.ChainLemmas.{grown_once, set_once}
use Rattle.mx_whole_edits.specs.Laid.{IsBare, IsLaid, LaysOut, EmptyIsLaid, LinesAreTold, KeepsLaid, LaidGoesOn, LaidIsReady}
use Rattle.mx_whole_edits.proofs.Fine.{Fine, Top, names_from, references_from}
use Rattle.mx_whole_edits.proofs.FineSpaces.{AllFine}
use Rattle.mx_whole_edits.proofs.FineEdits.{Places, well}
use Rattle.mx_whole_edits.proofs.Free.{unused_of}

-- ---- what a laid text has

abbrev IsOnlyBases : SpaceRecord → Type 0
IsOnlyBases s = s ≡ record (empty_space s.path) { bases = s.bases }

bare_fine : (text : ModelRecord) (s : SpaceRecord) → IsOnlyBases s → ((base : Path) → Has s.bases base → IsDefined text base) → Fine text s
bare_fine text s is defined = record {
  cells_once = let P : List (Name × CellsRecord) → Type 0 = λ ms. Distinct (names_of ms) in subst P (sym cells) tt;
  refs_once = let P : List (Name × RefValue) → Type 0 = λ ms. Distinct (names_of ms) in subst P (sym references) tt;
  no_cells = λ n d h. no_cell n h;
  no_refs = λ n d h. let P : List (Name × RefValue) → Type 0 = λ ms. Has (names_of ms) n in subst P references h;
  apart = λ n h k. no_cell n h;
  bases = defined;
  refs = λ r h. absurd (let P : List (Name × RefValue) → Type 0 = λ ms. Has ms r in subst P references h);
  literal = λ c h. absurd (let P : List (Name × CellsRecord) → Type 0 = λ ms. Has ms c in subst P cells h);
}
  where
    cells : s.cells ≡ []
    cells = ap (λ (z : SpaceRecord). z.cells) is

    references : s.references ≡ []
    references = ap (λ (z : SpaceRecord). z.references) is

    no_cell : (n : Name) → Has (names_of s.cells) n → ⊥
    no_cell n h = let P : List (Name × CellsRecord) → Type 0 = λ ms. Has (names_of ms) n in subst P cells h

laid_fine : (text : ModelRecord) → IsLaid text → AllFine text
laid_fine text laid s h = bare_fine text s (laid.bare.spaces s h) (laid.bases s h).1

laid_top : (text : ModelRecord) → IsLaid text → Top text
laid_top text laid = record {
  once = let P : List (Name × RefValue) → Type 0 = λ ms. Distinct (names_of ms) in subst P (sym globals) tt;
  no_globals = λ n d h. let P : List (Name × RefValue) → Type 0 = λ ms. Has (names_of ms) n in subst P globals h;
  refs = λ r h. absurd (let P : List (Name × RefValue) → Type 0 = λ ms. Has ms r in subst P globals h);
  tables = let P : List (Name × TableRows) → Type 0 = λ ms. Distinct (names_of ms) in subst P (sym tables) tt;
}
  where
    globals : text.globals ≡ []
    globals = ap (λ (t : ModelRecord). t.globals) laid.bare.rest

    tables : text.tables ≡ []
    tables = ap (λ (t : ModelRecord). t.tables) laid.bare.rest

laid_inputs : (text : ModelRecord) → IsLaid text → InputsFit text
laid_inputs text laid = record {
  each = λ i h. absurd (let P : List (Node × Value) → Type 0 = λ is. Has is i in subst P inputs h);
  once = let P : List (Node × Value) → Type 0 = λ is. Distinct (map (λ (i : Node × Value). i.0) is) in subst P (sym inputs) tt;
}
  where
    inputs : text.inputs ≡ []
    inputs = ap (λ (t : ModelRecord). t.inputs) laid.bare.rest

laid_places : (text : ModelRecord) → IsLaid text → Places text
laid_places text laid = record {
  once = laid.paths;
  parents = λ path h.
      let m = map_has (λ (s : SpaceRecord). s.path) text.spaces path h in
      let P : Path → Type 0 = λ p. HasParent text (split_last p) in
      subst P m.is (laid.parents m.from m.among);
}

-- ---- the laws

pub empty_laid : EmptyIsLaid
empty_laid = record {
  paths = tt;
  parents = λ s h. absurd h;
  bases = λ s h. absurd h;
  bare = record { spaces = λ s h. absurd h; rest = refl };
}

pub laid_goes_on : LaidGoesOn
laid_goes_on text laid none = record {
  ringless = record { bases = λ s h. (laid.bases s h).0; no_ring = none };
  sound = record { bases = bases_sound text (λ s h. (laid.bases s h).0) none; paths = laid.paths };
}

pub laid_ready : LaidIsReady
laid_ready text laid counted = record {
  names = names_from text laid.paths (laid_places text laid).parents (laid_fine text laid) (laid_top text laid);
  bases = laid.bases;
  no_ring = counted.no_ring;
  few = counted.few;
  inputs = laid_inputs text laid;
  references = references_from text (laid_fine text laid) (laid_top text laid);
  literals = λ s c h k. (laid_fine text laid s h).literal c k;
}

pub lines_told : LinesAreTold
lines_told text (edit.NewSpace parent name) l looks = absurd (let f : false ≡ true = looks in cc)
lines_told text (edit.SetBases path bases) l looks = absurd (let f : false ≡ true = looks in cc)
lines_told text (edit.DelSpace path) l looks = absurd l
lines_told text (edit.SetCells path name formula) l looks = absurd l
lines_told text (edit.DelCells path name) l looks = absurd l
lines_told text (edit.SetAllowNone path name flag) l looks = absurd l
lines_told text (edit.SetRef path name value) l looks = absurd l
lines_told text (edit.DelRef path name) l looks = absurd l
lines_told text (edit.SetParams path params) l looks = absurd l
lines_told text (edit.SetInput at name arguments value) l looks = absurd l
lines_told text (edit.DelInput at name arguments) l looks = absurd l
lines_told text (edit.SetTable name table) l looks = absurd l

-- ---- a line more

-- bases are once, and all that is in it is bare
record IsNext (made : ModelRecord) : Type 0 where
  pub once : BasesAreOnce made
  pub fine : AllFine made
  pub bare : IsBare made

next_laid : (made : ModelRecord) (tables : List Kinds) → ArePlaced tables made → IsNext made → IsLaid made
next_laid made tables placed next = record {
  paths = placed.once;
  parents = λ s h. placed.parents s.path (has_map (λ (z : SpaceRecord). z.path) made.spaces s h);
  bases = λ s h. (next.once s h, (next.fine s h).bases);
  bare = next.bare;
}

space_next : (text : ModelRecord) (parent : Path) (name : Name) → record_trouble text (edit.NewSpace parent name) ≡ None → IsLaid text → IsNext (change text (edit.NewSpace parent name))
space_next text parent name none laid =
    let e = edit.NewSpace parent name in
    let new = parent ++ name ∷ [] in
    let spaces = (change text e).spaces in
    record {
      once = grown_once text new (λ s h. (laid.bases s h).0);
      fine = (well text (laid_places text laid) (laid_fine text laid) (laid_top text laid) e tt (free_of text e none) (unused_of text e none)).fine;
      bare = record {
        spaces = λ s h. elim (has_push_cases text.spaces (empty_space new) s h) [
          | inl i ↦ laid.bare.spaces s i
          | inr same ↦ (let P : SpaceRecord → Type 0 = λ z. IsOnlyBases z in subst P same refl)
        ];
        rest = ap (λ (t : ModelRecord). record t { spaces = spaces }) laid.bare.rest;
      };
    }

only_bases_by : (bases : List Path) (s old : SpaceRecord) (b : Bool) → IsOnlyBases old → (if b then record old { bases = bases } else old) ≡ s → IsOnlyBases s
only_bases_by bases s old true is same =
    let P : SpaceRecord → Type 0 = λ z. IsOnlyBases z in
    subst P same (ap (λ (z : SpaceRecord). record z { bases = bases }) is)
only_bases_by bases s old false is same = let P : SpaceRecord → Type 0 = λ z. IsOnlyBases z in subst P same is

bases_next : (text : ModelRecord) (path : Path) (bases : List Path) → record_trouble text (edit.SetBases path bases) ≡ None → IsLaid text → IsNext (change text (edit.SetBases path bases))
bases_next text path bases none laid =
    let e = edit.SetBases path bases in
    let spaces = (change text e).spaces in
    record {
      once = set_once text path bases none (λ s h. (laid.bases s h).0);
      fine = (well text (laid_places text laid) (laid_fine text laid) (laid_top text laid) e tt (free_of text e none) (unused_of text e none)).fine;
      bare = record {
        spaces = λ s h.
            let m = map_has (λ (z : SpaceRecord). if same_path z.path path then record z { bases = bases } else z) text.spaces s h in
            only_bases_by bases s m.from (same_path m.from.path path) (laid.bare.spaces m.from m.among) m.is;
        rest = ap (λ (t : ModelRecord). record t { spaces = spaces }) laid.bare.rest;
      };
    }

line_next : (text : ModelRecord) (e : Edit) → record_trouble text e ≡ None → IsLaid text → LaysOut e → IsNext (change text (bound_edit text e))
line_next text (edit.NewSpace parent name) none laid l = space_next text parent name none laid
line_next text (edit.SetBases path bases) none laid l = bases_next text path bases none laid
line_next text (edit.DelSpace path) none laid l = absurd l
line_next text (edit.SetCells path name formula) none laid l = absurd l
line_next text (edit.DelCells path name) none laid l = absurd l
line_next text (edit.SetAllowNone path name flag) none laid l = absurd l
line_next text (edit.SetRef path name value) none laid l = absurd l
line_next text (edit.DelRef path name) none laid l = absurd l
line_next text (edit.SetParams path params) none laid l = absurd l
line_next text (edit.SetInput at name arguments value) none laid l = absurd l
line_next text (edit.DelInput at name arguments) none laid l = absurd l
line_next text (edit.SetTable name table) none laid l = absurd l

pub kept_laid : (text made : ModelRecord) (tables : List Kinds) (e : Edit) → ArePlaced tables made → record_trouble text e ≡ None → made ≡ change text (bound_edit text e) → KeepsLaid text e made
kept_laid text made tables e placed none is laid l =
    let P : ModelRecord → Type 0 = λ t. IsNext t in
    next_laid made tables placed (subst P (sym is) (line_next text e none laid l))
