-- Each edit leaves what a valid text asks of its spaces.
use Rattle.std.proofs.Common.{◌≡◌, Bool, true, false, List, [], ◌∷◌, map, Option, inl, inr, refl, sym, ◌∙◌, ap, subst}
use Rattle.std.specs.Prelude.{IsTrue, is_some, if◌then◌else◌}
use Rattle.std.specs.Map.{lookup}
use Rattle.mx_value.specs.Name.{same_name, same_path}
use Rattle.mx_value.proofs.NodeSames.{path_decides}
use Rattle.mx_syntax.specs.declared.stmt.Formula.{Formula}
use Rattle.mx_syntax.specs.declared.stmt.Params.{Params}
use Rattle.mx_edit.specs.declared.reference.RefValue.{RefValue}
use Rattle.mx_c3.specs.Lists.{Has, Distinct}
use Rattle.mx_model.specs.Records.{Name, Path, CellsRecord, SpaceRecord, ModelRecord}
use Rattle.mx_model.specs.Layers.{id_in}
use Rattle.mx_model.specs.Rings.{IsDefined}
use Rattle.mx_model.specs.Readers.{or_false}
use Rattle.mx_model.specs.Change.{at_space, define, without, define_cells, set_allow}
use Rattle.mx_model.specs.Valid.{names_of, IsReference}
use Rattle.mx_model.proofs.Filtered.{map_has}
use Rattle.mx_model.proofs.NameLemmas.{same_is, is_same, defined_cells}
use Rattle.mx_model.specs.Literals.{AreLiteral}
use Rattle.mx_whole_edits.proofs.Members.{define_has, define_keys, define_once, without_has, without_keys, without_once}
use Rattle.mx_whole_edits.proofs.Fine.{child, Fine}

abbrev pub AllFine : ModelRecord → Type 0
AllFine text = (s : SpaceRecord) → Has text.spaces s → Fine text s

-- ---- members of one space

set_by : (b : Bool) (c : Name × CellsRecord) (cells rest : List (Name × CellsRecord)) (flag : Bool) → names_of rest ≡ names_of cells → names_of (if b then (c.0, record { formula = c.1.formula; allow_none = flag }) ∷ cells else c ∷ rest) ≡ names_of (c ∷ cells)
set_by true c cells rest flag e = refl
set_by false c cells rest flag e = ap (λ (ns : List Name). c.0 ∷ ns) e

set_names : (cells : List (Name × CellsRecord)) (name : Name) (flag : Bool) → names_of (set_allow cells name flag) ≡ names_of cells
set_names [] name flag = refl
set_names (c ∷ cells) name flag = set_by (same_name name c.0) c cells (set_allow cells name flag) flag (set_names cells name flag)

record SetFrom (cells : List (Name × CellsRecord)) (c : Name × CellsRecord) : Type 0 where
  pub old : Name × CellsRecord
  pub among : Has cells old
  pub is : old.1.formula ≡ c.1.formula

from_rest : (z : Name × CellsRecord) (cells : List (Name × CellsRecord)) (c : Name × CellsRecord) → SetFrom cells c → SetFrom (z ∷ cells) c
from_rest z cells c f = record { old = f.old; among = inr f.among; is = f.is }

from_by : (b : Bool) (z : Name × CellsRecord) (cells rest : List (Name × CellsRecord)) (flag : Bool) (c : Name × CellsRecord) → (Has rest c → SetFrom cells c) → Has (if b then (z.0, record { formula = z.1.formula; allow_none = flag }) ∷ cells else z ∷ rest) c → SetFrom (z ∷ cells) c
from_by true z cells rest flag c f h =
    elim h [
      | inl e ↦ record { old = z; among = inl refl; is = ap (λ (m : Name × CellsRecord). m.1.formula) e }
      | inr r ↦ record { old = c; among = inr r; is = refl }
    ]
from_by false z cells rest flag c f h = elim h [ inl e ↦ record { old = z; among = inl refl; is = ap (λ (m : Name × CellsRecord). m.1.formula) e } | inr r ↦ from_rest z cells c (f r) ]

set_has : (cells : List (Name × CellsRecord)) (name : Name) (flag : Bool) (c : Name × CellsRecord) → Has (set_allow cells name flag) c → SetFrom cells c
set_has [] name flag c h = absurd h
set_has (z ∷ cells) name flag c h = from_by (same_name name z.0) z cells (set_allow cells name flag) flag c (set_has cells name flag c) h

module _ (text : ModelRecord) (s : SpaceRecord) (fine : Fine text s) where
  pub fine_params : (params : Option Params) → Fine text (record s { params = params })
  fine_params params = record {
    cells_once = fine.cells_once;
    refs_once = fine.refs_once;
    no_cells = fine.no_cells;
    no_refs = fine.no_refs;
    apart = fine.apart;
    bases = fine.bases;
    refs = fine.refs;
    literal = fine.literal;
  }

  pub fine_bases : (bases : List Path) → ((base : Path) → Has bases base → IsDefined text base) → Fine text (record s { bases = bases })
  fine_bases bases defined = record {
    cells_once = fine.cells_once;
    refs_once = fine.refs_once;
    no_cells = fine.no_cells;
    no_refs = fine.no_refs;
    apart = fine.apart;
    bases = defined;
    refs = fine.refs;
    literal = fine.literal;
  }

  fine_cells : (cells : List (Name × CellsRecord)) → Distinct (names_of cells) → ((n : Name) → Has (names_of cells) n → IsDefined text (child s.path n) → ⊥) → ((n : Name) → Has (names_of cells) n → Has (names_of s.references) n → ⊥) → ((c : Name × CellsRecord) → Has cells c → AreLiteral c.1.formula.params) → Fine text (record s { cells = cells })
  fine_cells cells once child apart literal = record {
    cells_once = once;
    refs_once = fine.refs_once;
    no_cells = λ n d h. child n h d;
    no_refs = fine.no_refs;
    apart = apart;
    bases = fine.bases;
    refs = fine.refs;
    literal = literal;
  }

  fine_references : (refs : List (Name × RefValue)) → Distinct (names_of refs) → ((n : Name) → Has (names_of refs) n → IsDefined text (child s.path n) → ⊥) → ((n : Name) → Has (names_of s.cells) n → Has (names_of refs) n → ⊥) → ((r : Name × RefValue) → Has refs r → IsReference text r.1) → Fine text (record s { references = refs })
  fine_references refs once child apart fit = record {
    cells_once = fine.cells_once;
    refs_once = once;
    no_cells = fine.no_cells;
    no_refs = λ n d h. child n h d;
    apart = apart;
    bases = fine.bases;
    refs = fit;
    literal = fine.literal;
  }

  pub fine_defined_cells : (name : Name) (formula : Formula) → (IsDefined text (child s.path name) → ⊥) → (Has (names_of s.references) name → ⊥) → AreLiteral formula.params → Fine text (record s { cells = define_cells s.cells name formula })
  fine_defined_cells name formula free no_reference literal =
      let P : List (Name × CellsRecord) → Type 0 = λ cells. Fine text (record s { cells = cells }) in
      subst P (defined_cells s.cells name formula) (fine_cells cells
      (define_once same_name same_is is_same s.cells name made fine.cells_once)
      (λ n h d. elim (define_keys same_name same_is is_same s.cells name made n h) [ inl o ↦ fine.no_cells n d o | inr e ↦ free (let Q : Name → Type 0 = λ z. IsDefined text (child s.path z) in subst Q e d) ])
      (λ n h r. elim (define_keys same_name same_is is_same s.cells name made n h) [ inl o ↦ fine.apart n o r | inr e ↦ no_reference (let Q : Name → Type 0 = λ z. Has (names_of s.references) z in subst Q e r) ])
      (λ c h. elim (define_has same_name same_is is_same s.cells name made c h) [ inl o ↦ fine.literal c o | inr e ↦ (let Q : CellsRecord → Type 0 = λ z. AreLiteral z.formula.params in subst Q (sym e.1) literal) ]))
    where
      made : CellsRecord
      made = record { formula = formula; allow_none = or_false (lookup (same_name name) s.cells) }

      cells : List (Name × CellsRecord)
      cells = define same_name s.cells name made

  pub fine_without_cells : (name : Name) → Fine text (record s { cells = without same_name s.cells name })
  fine_without_cells name = fine_cells (without same_name s.cells name)
      (without_once same_name same_is is_same s.cells name fine.cells_once)
      (λ n h d. fine.no_cells n d (without_keys same_name same_is is_same s.cells name n h))
      (λ n h r. fine.apart n (without_keys same_name same_is is_same s.cells name n h) r)
      (λ c h. fine.literal c (without_has same_name same_is is_same s.cells name c h))

  pub fine_set : (name : Name) (flag : Bool) → Fine text (record s { cells = set_allow s.cells name flag })
  fine_set name flag =
      let same = set_names s.cells name flag in
      let P : List Name → Type 0 = λ ns. Distinct ns in
      fine_cells (set_allow s.cells name flag)
      (subst P (sym same) fine.cells_once)
      (λ n h d. fine.no_cells n d (let Q : List Name → Type 0 = λ ns. Has ns n in subst Q same h))
      (λ n h r. fine.apart n (let Q : List Name → Type 0 = λ ns. Has ns n in subst Q same h) r)
      (λ c h. let o = set_has s.cells name flag c h in let Q : Formula → Type 0 = λ f. AreLiteral f.params in subst Q o.is (fine.literal o.old o.among))

  pub fine_defined_reference : (name : Name) (value : RefValue) → (IsDefined text (child s.path name) → ⊥) → (Has (names_of s.cells) name → ⊥) → IsReference text value → Fine text (record s { references = define same_name s.references name value })
  fine_defined_reference name value free no_cells fit = fine_references (define same_name s.references name value)
      (define_once same_name same_is is_same s.references name value fine.refs_once)
      (λ n h d. elim (define_keys same_name same_is is_same s.references name value n h) [ inl o ↦ fine.no_refs n d o | inr e ↦ free (let Q : Name → Type 0 = λ z. IsDefined text (child s.path z) in subst Q e d) ])
      (λ n c h. elim (define_keys same_name same_is is_same s.references name value n h) [ inl o ↦ fine.apart n c o | inr e ↦ no_cells (let Q : Name → Type 0 = λ z. Has (names_of s.cells) z in subst Q e c) ])
      (λ r h. elim (define_has same_name same_is is_same s.references name value r h) [ inl o ↦ fine.refs r o | inr e ↦ (let Q : RefValue → Type 0 = λ z. IsReference text z in subst Q (sym e.1) fit) ])

  pub fine_without_reference : (name : Name) → Fine text (record s { references = without same_name s.references name })
  fine_without_reference name = fine_references (without same_name s.references name)
      (without_once same_name same_is is_same s.references name fine.refs_once)
      (λ n h d. fine.no_refs n d (without_keys same_name same_is is_same s.references name n h))
      (λ n c h. fine.apart n c (without_keys same_name same_is is_same s.references name n h))
      (λ r h. fine.refs r (without_has same_name same_is is_same s.references name r h))

-- ---- another text

-- what is defined and what is referred to is the same
pub carry : (text made : ModelRecord) (s : SpaceRecord) → ((path : Path) → IsDefined made path → IsDefined text path) → ((path : Path) → IsDefined text path → IsDefined made path) → ((value : RefValue) → IsReference text value → IsReference made value) → Fine text s → Fine made s
carry text made s back on refs fine = record {
  cells_once = fine.cells_once;
  refs_once = fine.refs_once;
  no_cells = λ n d h. fine.no_cells n (back (child s.path n) d) h;
  no_refs = λ n d h. fine.no_refs n (back (child s.path n) d) h;
  apart = fine.apart;
  bases = λ base h. on base (fine.bases base h);
  refs = λ r h. refs r.1 (fine.refs r h);
  literal = fine.literal;
}

-- a space of a path is changed and keeps its path
kept_path : (b : Bool) (f : SpaceRecord → SpaceRecord) (s : SpaceRecord) → ((z : SpaceRecord) → (f z).path ≡ z.path) → (if b then f s else s).path ≡ s.path
kept_path true f s keeps = keeps s
kept_path false f s keeps = refl

pub kept_paths : (path : Path) (f : SpaceRecord → SpaceRecord) (spaces : List SpaceRecord) → ((z : SpaceRecord) → (f z).path ≡ z.path) → map (λ (z : SpaceRecord). z.path) (map (λ (s : SpaceRecord). if same_path s.path path then f s else s) spaces) ≡ map (λ (z : SpaceRecord). z.path) spaces
kept_paths path f [] keeps = refl
kept_paths path f (s ∷ spaces) keeps =
    ap (λ (p : Path). p ∷ map (λ (z : SpaceRecord). z.path) (map (λ (s : SpaceRecord). if same_path s.path path then f s else s) spaces)) (kept_path (same_path s.path path) f s keeps) ∙
    ap (λ (ps : List Path). s.path ∷ ps) (kept_paths path f spaces keeps)

chosen_by : (made : ModelRecord) (path : Path) (f : SpaceRecord → SpaceRecord) (from s : SpaceRecord) (b : Bool) → same_path from.path path ≡ b → (if b then f from else from) ≡ s → (from.path ≡ path → Fine made (f from)) → Fine made from → Fine made s
chosen_by made path f from s true e is changed stays = let P : SpaceRecord → Type 0 = λ z. Fine made z in subst P is (changed ((path_decides from.path path).0 e))
chosen_by made path f from s false e is changed stays = let P : SpaceRecord → Type 0 = λ z. Fine made z in subst P is stays

pub at_fine : (text : ModelRecord) (path : Path) (f : SpaceRecord → SpaceRecord) → ((z : SpaceRecord) → (f z).path ≡ z.path) → AllFine text → ((s : SpaceRecord) → Has text.spaces s → s.path ≡ path → Fine (at_space text path f) s → Fine (at_space text path f) (f s)) → AllFine (at_space text path f)
at_fine text path f keeps all changed s h =
    let made = at_space text path f in
    let m = map_has (λ (z : SpaceRecord). if same_path z.path path then f z else z) text.spaces s h in
    let same = kept_paths path f text.spaces keeps in
    let stays = carry text made m.from
    (λ p d. let P : List Path → Type 0 = λ ps. IsTrue (is_some (id_in ps p)) in subst P same d)
    (λ p d. let P : List Path → Type 0 = λ ps. IsTrue (is_some (id_in ps p)) in subst P (sym same) d)
    (λ value r. r) (all m.from m.among) in
    chosen_by made path f m.from s (same_path m.from.path path) refl m.is (λ e. changed m.from m.among e stays) stays

pub at_defined : (text : ModelRecord) (path : Path) (f : SpaceRecord → SpaceRecord) → ((z : SpaceRecord) → (f z).path ≡ z.path) → (p : Path) → IsDefined (at_space text path f) p → IsDefined text p
at_defined text path f keeps p d = let P : List Path → Type 0 = λ ps. IsTrue (is_some (id_in ps p)) in subst P (kept_paths path f text.spaces keeps) d
