-- An edit with small literals keeps the literals of a text small.
use Rattle.std.proofs.Common.{Bool, true, false, not, if◌then◌else◌, List, [], ◌∷◌, ◌++◌}
use Rattle.std.specs.List.{filter}
use Rattle.mx_value.specs.Name.{same_name, same_path}
use Rattle.mx_syntax.specs.declared.stmt.Formula.{Formula}
use Rattle.mx_edit.specs.declared.reference.RefValue.{RefValue}
use Rattle.mx_edit.specs.declared.edit.Edit.{Edit}
use Rattle.mx_edit.specs.declared.edit.Edit.TheVariants as edit
use Rattle.mx_model.specs.Records.{Name, Path, CellsRecord, SpaceRecord, ModelRecord, empty_space}
use Rattle.mx_model.specs.Change.{define, without, define_cells, set_allow, at_space, is_within, set_reference, remove_reference, change, bound_edit}
use Rattle.mx_model.specs.Apply.{IsAccepted}
use Rattle.mx_limit_laws.specs.Values.{Each}
use Rattle.mx_limit_laws.specs.Replies.{HasSmallLiterals, IsSmallTable}
use Rattle.mx_limit_laws.specs.Texts.{IsSmallSpace, HasSmallFormulas, HasSmallTables, HasSmallFormula, HasSmallTable}
use Rattle.mx_limit_laws.specs.Laws.{BeginsSmall, EditsKeepFormulasSmall, EditsKeepSmall}
use Rattle.mx_limit_laws.proofs.Lists.{each_append, each_map, if_each}

-- ---- lists of members

each_filter : {X : Type 0} (P : X → Type 0) (test : X → Bool) (xs : List X) → Each P xs → Each P (filter test xs)
each_filter P test [] h = tt
each_filter P test (x ∷ xs) h = if_each P (test x) (x ∷ filter test xs) (filter test xs) (h.0, each_filter P test xs h.1) (each_filter P test xs h.1)

module _ {K X : Type 0} (P : X → Type 0) (same : K → K → Bool) where
  abbrev OfMember : K × X → Type 0
  OfMember m = P m.1

  defined : (ms : List (K × X)) → Each OfMember ms → (key : K) (x : X) → P x → Each OfMember (define same ms key x)
  defined [] h key x p = (p, tt)
  defined (m ∷ ms) h key x p = if_each OfMember (same key m.0) ((m.0, x) ∷ ms) (m ∷ define same ms key x) (p, h.1) (h.0, defined ms h.1 key x p)

abbrev OfCells : Name × CellsRecord → Type 0
OfCells c = HasSmallLiterals c.1.formula

cells_removed : (cells : List (Name × CellsRecord)) → Each OfCells cells → (name : Name) → Each OfCells (without same_name cells name)
cells_removed [] h name = tt
cells_removed (c ∷ cells) h name = if_each OfCells (same_name name c.0) cells (c ∷ without same_name cells name) h.1 (h.0, cells_removed cells h.1 name)

cells_defined : (cells : List (Name × CellsRecord)) → Each OfCells cells → (name : Name) (f : Formula) → HasSmallLiterals f → Each OfCells (define_cells cells name f)
cells_defined [] h name f l = (l, tt)
cells_defined (c ∷ cells) h name f l =
    if_each OfCells (same_name name c.0) ((c.0, record { formula = f; allow_none = c.1.allow_none }) ∷ cells) (c ∷ define_cells cells name f) (l, h.1) (h.0, cells_defined cells h.1 name f l)

cells_allowed : (cells : List (Name × CellsRecord)) → Each OfCells cells → (name : Name) (flag : Bool) → Each OfCells (set_allow cells name flag)
cells_allowed [] h name flag = tt
cells_allowed (c ∷ cells) h name flag =
    if_each OfCells (same_name name c.0) ((c.0, record { formula = c.1.formula; allow_none = flag }) ∷ cells) (c ∷ set_allow cells name flag) (h.0, h.1) (h.0, cells_allowed cells h.1 name flag)

-- ---- spaces

space_if : (b : Bool) (s t : SpaceRecord) → IsSmallSpace s → IsSmallSpace t → IsSmallSpace (if b then s else t)
space_if true s t h k = h
space_if false s t h k = k

module _ (text : ModelRecord) (small : HasSmallFormulas text) where
  space_changed : (path : Path) (f : SpaceRecord → SpaceRecord) → ((s : SpaceRecord) → IsSmallSpace s → IsSmallSpace (f s)) → HasSmallFormulas (at_space text path f)
  space_changed path f h = each_map IsSmallSpace IsSmallSpace (λ (s : SpaceRecord). if same_path s.path path then f s else s) (λ s k. space_if (same_path s.path path) (f s) s (h s k) k) text.spaces small

  reference_set : (path : Path) (name : Name) (value : RefValue) → HasSmallFormulas (set_reference text path name value)
  reference_set [] name value = small
  reference_set (first ∷ names) name value = space_changed (first ∷ names) (λ (s : SpaceRecord). record s { references = define same_name s.references name value }) (λ s k. record { cells = k.cells; params = k.params })

  reference_removed : (path : Path) (name : Name) → HasSmallFormulas (remove_reference text path name)
  reference_removed [] name = small
  reference_removed (first ∷ names) name = space_changed (first ∷ names) (λ (s : SpaceRecord). record s { references = without same_name s.references name }) (λ s k. record { cells = k.cells; params = k.params })

  formulas_changed : (e : Edit) → HasSmallFormula e → HasSmallFormulas (change text e)
  formulas_changed (edit.NewSpace parent name) l = each_append IsSmallSpace text.spaces (empty_space (parent ++ name ∷ []) ∷ []) small (record { cells = tt; params = tt }, tt)
  formulas_changed (edit.DelSpace path) l = each_filter IsSmallSpace (λ (s : SpaceRecord). not (is_within path s.path)) text.spaces small
  formulas_changed (edit.SetBases path bases) l = space_changed path (λ (s : SpaceRecord). record s { bases = bases }) (λ s k. record { cells = k.cells; params = k.params })
  formulas_changed (edit.SetCells path name formula) l = space_changed path (λ (s : SpaceRecord). record s { cells = define_cells s.cells name formula }) (λ s k. record { cells = cells_defined s.cells k.cells name formula l; params = k.params })
  formulas_changed (edit.DelCells path name) l = space_changed path (λ (s : SpaceRecord). record s { cells = without same_name s.cells name }) (λ s k. record { cells = cells_removed s.cells k.cells name; params = k.params })
  formulas_changed (edit.SetAllowNone path name flag) l = space_changed path (λ (s : SpaceRecord). record s { cells = set_allow s.cells name flag }) (λ s k. record { cells = cells_allowed s.cells k.cells name flag; params = k.params })
  formulas_changed (edit.SetRef path name value) l = reference_set path name value
  formulas_changed (edit.DelRef path name) l = reference_removed path name
  formulas_changed (edit.SetParams path params) l = space_changed path (λ (s : SpaceRecord). record s { params = params }) (λ s k. record { cells = k.cells; params = l })
  formulas_changed (edit.SetInput at name arguments value) l = small
  formulas_changed (edit.DelInput at name arguments) l = small
  formulas_changed (edit.SetTable name table) l = small

bound_formula : (text : ModelRecord) (e : Edit) → HasSmallFormula e → HasSmallFormula (bound_edit text e)
bound_formula text (edit.SetInput at name arguments value) l = tt
bound_formula text (edit.DelInput at name arguments) l = tt
bound_formula text (edit.NewSpace parent name) l = l
bound_formula text (edit.DelSpace path) l = l
bound_formula text (edit.SetBases path bases) l = l
bound_formula text (edit.SetCells path name formula) l = l
bound_formula text (edit.DelCells path name) l = l
bound_formula text (edit.SetAllowNone path name flag) l = l
bound_formula text (edit.SetRef path name value) l = l
bound_formula text (edit.DelRef path name) l = l
bound_formula text (edit.SetParams path params) l = l
bound_formula text (edit.SetTable name table) l = l

pub edits_keep_formulas_small : EditsKeepFormulasSmall
edits_keep_formulas_small text next e small l (IsAccepted t c m) = formulas_changed text small (bound_edit text e) (bound_formula text e l)

-- ---- tables

module _ (text : ModelRecord) (small : HasSmallTables text) where
  set_keeps : (path : Path) (name : Name) (value : RefValue) → HasSmallTables (set_reference text path name value)
  set_keeps [] name value = small
  set_keeps (first ∷ names) name value = small

  removed_keeps : (path : Path) (name : Name) → HasSmallTables (remove_reference text path name)
  removed_keeps [] name = small
  removed_keeps (first ∷ names) name = small

  tables_changed : (e : Edit) → HasSmallTable e → HasSmallTables (change text (bound_edit text e))
  tables_changed (edit.NewSpace parent name) l = small
  tables_changed (edit.DelSpace path) l = small
  tables_changed (edit.SetBases path bases) l = small
  tables_changed (edit.SetCells path name formula) l = small
  tables_changed (edit.DelCells path name) l = small
  tables_changed (edit.SetAllowNone path name flag) l = small
  tables_changed (edit.SetRef path name value) l = set_keeps path name value
  tables_changed (edit.DelRef path name) l = removed_keeps path name
  tables_changed (edit.SetParams path params) l = small
  tables_changed (edit.SetInput at name arguments value) l = small
  tables_changed (edit.DelInput at name arguments) l = small
  tables_changed (edit.SetTable name table) l = defined IsSmallTable same_name text.tables small name table l

-- ---- texts

pub edits_keep_small : EditsKeepSmall
edits_keep_small text next e small l (IsAccepted t c m) = record {
  formulas = formulas_changed text small.formulas (bound_edit text e) (bound_formula text e l.0);
  tables = tables_changed text small.tables e l.1;
}

pub begins_small : BeginsSmall
begins_small = record { formulas = (record { cells = tt; params = tt }, tt); tables = tt }
