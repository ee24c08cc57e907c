-- The spaces of a model that a folder says have names.
use Rattle.std.proofs.Common.{ℕ, List, Option, Result, Ok, Err}
use Rattle.mx_outside.specs.Files.{FileMap}
use Rattle.mx_outside.specs.declared.files.Found.{Found}
use Rattle.mx_outside.specs.declared.files.Found.TheVariants as found
use Rattle.mx_print.specs.Texts.{Text}
use Rattle.mx_edit.specs.Rows.{TableRows}
use Rattle.mx_edit.specs.declared.edit.Edit.{Edit}
use Rattle.mx_edit.specs.declared.edit.Edit.TheVariants as edit
use Rattle.mx_edit.specs.declared.table.TableRefusal.{TableRefusal}
use Rattle.mx_tables.specs.Reading.{table_of}
use Rattle.mx_script.specs.Script.{Command, commands}
use Rattle.mx_model.specs.Records.{Name, ModelRecord}
use Rattle.mx_model.specs.Apply.{IsAccepted}
use Rattle.mx_paths.specs.Names.{IsNamed}
use Rattle.mx_prepare.proofs.Named.{empty_named, names_kept}
use Rattle.mx_project.specs.Folder.{EditFile, edit_files, table_file}
use Rattle.mx_project.specs.Reading.{Said, InTurn, OneByOne, OfFound, OfFile, Laid, LaysLine, Completes, LaysOut, ModelSays, Puts, TableSaid, TableSays, SetsTable, EditsBy, EditsSay, EditsFrom, ReadsTables, IsReadAs}

-- ---- one after the other

module _ {S X : Type 0} (Step : S → X → Said S → Type 0) (P : S → Type 0) (keep : (s : S) (x : X) (t : S) → P s → Step s x (Ok t) → P t) where
  pub kept : (s : S) (xs : List X) (t : S) → P s → OneByOne Step s xs (Ok t) → P t
  kept s _ _ p OneByOne.end = p
  kept s _ t p (OneByOne.goes_on {x} {xs} next first rest) = kept next xs t (keep s x next p first) rest

-- ---- files

module _ {A : Type 0} (name : Text) (Says : List ℕ → Said A → Type 0) (P : A → Type 0) (says : (bytes : List ℕ) (a : A) → Says bytes (Ok a) → P a) where
  found_says : (f : Found) (a : A) → OfFound name Says f (Ok a) → P a
  found_says found.Missing a h = absurd cc
  found_says found.TooBig a h = absurd cc
  found_says (found.Bytes bytes) a h = says bytes.items a h

  pub file_says : (files : Option FileMap) (folder : Text) (a : A) → OfFile files folder name Says (Ok a) → P a
  file_says files folder a h = found_says h.found a h.says

-- ---- the model file

abbrev IsLaidNamed : Laid → Type 0
IsLaidNamed l = IsNamed l.text

line_named : (l : Laid) (c : Command) (t : Laid) → IsLaidNamed l → LaysLine l c (Ok t) → IsLaidNamed t
line_named l c _ p (LaysLine.laid e other reads free) = names_kept l.text e p free
line_named l c _ p (LaysLine.names t table names is) = p

completed_named : (l t : Laid) → IsLaidNamed l → Completes l (Ok t) → IsLaidNamed t
completed_named l _ p (Completes.complete h) = p

laid_named : (bytes : List ℕ) (t : Laid) → LaysOut bytes (Ok t) → IsLaidNamed t
laid_named bytes t (InTurn.goes_on l first next) = completed_named l t (kept LaysLine IsLaidNamed line_named _ _ l empty_named first) next

model_named : (bytes : List ℕ) (t : Laid) → ModelSays bytes (Ok t) → IsLaidNamed t
model_named bytes t (ModelSays.lays_out first rest) = laid_named bytes t rest

-- ---- tables and edits

put_named : (file : Text) (text : ModelRecord) (line : ℕ) (e : Edit) (t : ModelRecord) → IsNamed text → Puts file text line e (Ok t) → IsNamed t
put_named file text line e _ p (Puts.made made (IsAccepted free counted meets)) = let after = names_kept text e p free in record { names = after.names; some = after.some }

table_named : (text : ModelRecord) (name : Name) (r : Result TableRows TableRefusal) (t : ModelRecord) → IsNamed text → TableSaid (table_file name) text name r (Ok t) → IsNamed t
table_named text name (Ok rows) t p h = put_named (table_file name) text 0 (edit.SetTable name rows) t p h
table_named text name (Err why) t p h = absurd cc

edited_named : (f : EditFile) (text : ModelRecord) (c : Command) (t : ModelRecord) → IsNamed text → EditsBy f text c (Ok t) → IsNamed t
edited_named f text c t p (EditsBy.edits e reads puts) = put_named f.name text c.number e t p puts

edits_named : (f : EditFile) (text : ModelRecord) → IsNamed text → (bytes : List ℕ) (t : ModelRecord) → EditsSay f text bytes (Ok t) → IsNamed t
edits_named f text p bytes t h = kept (EditsBy f) IsNamed (edited_named f) text (commands f.words bytes) t p h

-- ---- the whole

module _ (files : Option FileMap) (folder : Text) where
  tables_named : (text : ModelRecord) (name : Name) (t : ModelRecord) → IsNamed text → SetsTable files folder text name (Ok t) → IsNamed t
  tables_named text name t p h = file_says _ (TableSays text name) IsNamed (λ bytes a is. table_named text name (table_of bytes) a p is) files folder t h

  from_named : (text : ModelRecord) (f : EditFile) (t : ModelRecord) → IsNamed text → EditsFrom files folder text f (Ok t) → IsNamed t
  from_named text f t p h = file_says f.name (EditsSay f text) IsNamed (edits_named f text p) files folder t h

  rest_named : (l : Laid) (t : ModelRecord) → IsLaidNamed l → ReadsTables files folder l (Ok t) → IsNamed t
  rest_named l t p (InTurn.goes_on text first next) =
      kept (EditsFrom files folder) IsNamed from_named text (edit_files text) t (kept (SetsTable files folder) IsNamed tables_named l.text l.tables text p first) next

  pub read_named : (t : ModelRecord) → IsReadAs files folder (Ok t) → IsNamed t
  read_named t (InTurn.goes_on l first next) = rest_named l t (file_says _ ModelSays IsLaidNamed model_named files folder l first) next
