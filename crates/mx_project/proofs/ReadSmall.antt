-- The literals of a model that a folder says are small.
use Rattle.std.proofs.Common.{ℕ, List, [], ◌∷◌, ◌++◌, Bool, true, false, Option, Result, Ok, Err}
use Rattle.std.specs.Prelude.{if◌then◌else◌}
use Rattle.mx_value.specs.Name.{same_path}
use Rattle.mx_outside.specs.Files.{FileMap}
use Rattle.mx_print.specs.Texts.{Text}
use Rattle.mx_edit.specs.Rows.{TableRows}
use Rattle.mx_edit.specs.declared.edit.Edit.{Edit}
use Rattle.mx_edit.specs.declared.edit.Edit.TheVariants as edit
use Rattle.mx_edit.specs.declared.table.TableRefusal.{TableRefusal}
use Rattle.mx_tables.specs.Reading.{table_of}
use Rattle.mx_words.specs.declared.command.Command.TheVariants as command
use Rattle.mx_script.specs.Script.{Command, commands}
use Rattle.mx_model.specs.Records.{Name, Path, SpaceRecord, ModelRecord, empty_space}
use Rattle.mx_model.specs.Change.{change, bound_edit}
use Rattle.mx_whole_edits.specs.Laid.{LaysOut as IsLine}
use Rattle.mx_limit_laws.specs.Texts.{IsSmallSpace, HasSmallFormulas, HasSmallFormula}
use Rattle.mx_limit_laws.proofs.Lists.{each_append, each_map}
use Rattle.mx_limit_laws.proofs.Edits.{edits_keep_formulas_small}
use Rattle.mx_command_laws.proofs.ProperCommands.{commands_are_proper}
use Rattle.mx_project.specs.Folder.{EditFile, edit_files, table_file}
use Rattle.mx_project.specs.Reading.{InTurn, Laid, LaysLine, Completes, LaysOut, ModelSays, Puts, TableSaid, TableSays, SetsTable, EditsBy, EditsSay, EditsFrom, ReadsTables, IsReadAs}
use Rattle.mx_project.proofs.WordLemmas.{model_lays}
use Rattle.mx_project.proofs.ReadNamed.{kept, file_says}

-- ---- the model file

abbrev with_bases : List Path → SpaceRecord → SpaceRecord
with_bases bases s = record s { bases = bases }

based : (b : Bool) (bases : List Path) (s : SpaceRecord) → IsSmallSpace s → IsSmallSpace (if b then with_bases bases s else s)
based true bases s small = record { cells = small.cells; params = small.params }
based false bases s small = small

line_small : (text : ModelRecord) (e : Edit) → HasSmallFormulas text → IsLine e → HasSmallFormulas (change text (bound_edit text e))
line_small text (edit.NewSpace parent name) small line = each_append IsSmallSpace text.spaces (empty_space (parent ++ name ∷ []) ∷ []) small (record { cells = tt; params = tt }, tt)
line_small text (edit.SetBases path bases) small line = each_map IsSmallSpace IsSmallSpace (λ (s : SpaceRecord). if same_path s.path path then with_bases bases s else s) (λ s h. based (same_path s.path path) bases s h) text.spaces small
line_small text (edit.DelSpace path) small line = absurd line
line_small text (edit.SetCells path name formula) small line = absurd line
line_small text (edit.DelCells path name) small line = absurd line
line_small text (edit.SetAllowNone path name flag) small line = absurd line
line_small text (edit.SetRef path name value) small line = absurd line
line_small text (edit.DelRef path name) small line = absurd line
line_small text (edit.SetParams path params) small line = absurd line
line_small text (edit.SetInput at name arguments value) small line = absurd line
line_small text (edit.DelInput at name arguments) small line = absurd line
line_small text (edit.SetTable name table) small line = absurd line

abbrev IsLaidSmall : Laid → Type 0
IsLaidSmall l = HasSmallFormulas l.text

lay_small : (l : Laid) (c : Command) (t : Laid) → IsLaidSmall l → LaysLine l c (Ok t) → IsLaidSmall t
lay_small l c _ small (LaysLine.laid e other reads free) = line_small l.text e small (model_lays c.text (command.Edit e) other reads)
lay_small l c _ small (LaysLine.names t table says is) = small

ends_small : (l t : Laid) → IsLaidSmall l → Completes l (Ok t) → IsLaidSmall t
ends_small l _ small (Completes.complete h) = small

out_small : (bytes : List ℕ) (t : Laid) → LaysOut bytes (Ok t) → IsLaidSmall t
out_small bytes t (InTurn.goes_on l first next) = ends_small l t (kept LaysLine IsLaidSmall lay_small _ _ l tt first) next

model_small : (bytes : List ℕ) (t : Laid) → ModelSays bytes (Ok t) → IsLaidSmall t
model_small bytes t (ModelSays.lays_out first rest) = out_small bytes t rest

-- ---- tables and edits

put_small : (file : Text) (text : ModelRecord) (line : ℕ) (e : Edit) (t : ModelRecord) → HasSmallFormula e → HasSmallFormulas text → Puts file text line e (Ok t) → HasSmallFormulas t
put_small file text line e t literals small (Puts.made made h) = edits_keep_formulas_small text t e small literals h

table_small : (text : ModelRecord) (name : Name) (r : Result TableRows TableRefusal) (t : ModelRecord) → HasSmallFormulas text → TableSaid (table_file name) text name r (Ok t) → HasSmallFormulas t
table_small text name (Ok rows) t small h = put_small (table_file name) text 0 (edit.SetTable name rows) t tt small h
table_small text name (Err why) t small h = absurd cc

edit_small : (f : EditFile) (text : ModelRecord) (c : Command) (t : ModelRecord) → HasSmallFormulas text → EditsBy f text c (Ok t) → HasSmallFormulas t
edit_small f text c t small (EditsBy.edits e reads puts) = put_small f.name text c.number e t (commands_are_proper f.words c.text (command.Edit e) reads) small puts

edits_small : (f : EditFile) (text : ModelRecord) → HasSmallFormulas text → (bytes : List ℕ) (t : ModelRecord) → EditsSay f text bytes (Ok t) → HasSmallFormulas t
edits_small f text small bytes t h = kept (EditsBy f) HasSmallFormulas (edit_small f) text (commands f.words bytes) t small h

-- ---- the whole

module _ (files : Option FileMap) (folder : Text) where
  set_small : (text : ModelRecord) (name : Name) (t : ModelRecord) → HasSmallFormulas text → SetsTable files folder text name (Ok t) → HasSmallFormulas t
  set_small text name t small h = file_says _ (TableSays text name) HasSmallFormulas (λ bytes a is. table_small text name (table_of bytes) a small is) files folder t h

  from_small : (text : ModelRecord) (f : EditFile) (t : ModelRecord) → HasSmallFormulas text → EditsFrom files folder text f (Ok t) → HasSmallFormulas t
  from_small text f t small h = file_says f.name (EditsSay f text) HasSmallFormulas (edits_small f text small) files folder t h

  rest_small : (l : Laid) (t : ModelRecord) → IsLaidSmall l → ReadsTables files folder l (Ok t) → HasSmallFormulas t
  rest_small l t small (InTurn.goes_on text first next) =
      kept (EditsFrom files folder) HasSmallFormulas from_small text (edit_files text) t (kept (SetsTable files folder) HasSmallFormulas set_small l.text l.tables text small first) next

  pub read_small : (t : ModelRecord) → IsReadAs files folder (Ok t) → HasSmallFormulas t
  read_small t (InTurn.goes_on l first next) = rest_small l t (file_says _ ModelSays IsLaidSmall model_small files folder l first) next
