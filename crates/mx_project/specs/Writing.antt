-- The canonical files of a model, and what a write of them leaves.
use Rattle.std.specs.Prelude.{◌≡◌, ◌≤◌, ◌<◌, ℕ, List, [], ◌∷◌, ◌++◌, Option, Result, Err, map, length, codes}
use Rattle.std.specs.List.{concat, AllByRecursion}
use Rattle.mx_syntax.specs.Lists.{flat}
use Rattle.std.specs.List.Sorted.{IsPermutation}
use Rattle.std.specs.Ordering.{nat_cmp}
use Rattle.std.specs.Cmp.Lexicographic.{slice_cmp}
use Rattle.std.specs.declared.cmp.Ordering.TheVariants.{Less}
use Rattle.mx_outside.specs.Files.{FileMap, most_bytes, with_bytes, ChangesOnly}
use Rattle.mx_outside.specs.Outside.{Rose}
use Rattle.mx_value.specs.declared.value.Value.{Value}
use Rattle.mx_value.specs.declared.node.Node.{Node}
use Rattle.mx_print.specs.Texts.{Text}
use Rattle.mx_print.specs.Values.{node_text}
use Rattle.mx_edit.specs.Rows.{TableRows}
use Rattle.mx_tables.specs.Writing.{table_text}
use Rattle.mx_c3.specs.Lists.{Has}
use Rattle.mx_model.specs.Records.{Name, SpaceRecord, ModelRecord}
use Rattle.mx_project.specs.Folder.{model_file, refs_file, inputs_file, table_file, space_file, in_folder, project_line, tops}
use Rattle.mx_project.specs.Lines.{space_line, bases_lines, table_line, tree_lines, refs_lines, input_lines}
use Rattle.mx_project.specs.declared.refusal.ProjectRefusal.{ProjectRefusal}
use Rattle.mx_project.specs.declared.refusal.ProjectRefusal.TheVariants as refusal

-- ---- the files of a model

pub record File : Type 0 where
  pub name : Text
  pub bytes : Text

abbrev pub file : Text → List Text → File
file name lines = record { name = name; bytes = concat lines }

abbrev pub first_line : Text
first_line = project_line ++ codes "\n"

abbrev pub space_lines : List SpaceRecord → List Text
space_lines spaces = map (λ (s : SpaceRecord). space_line s.path) spaces

abbrev pub all_bases_lines : List SpaceRecord → List Text
all_bases_lines spaces = flat (map (λ (s : SpaceRecord). bases_lines s.path s.bases) spaces)

abbrev pub table_lines : List (Name × TableRows) → List Text
table_lines tables = map (λ (t : Name × TableRows). table_line t.0) tables

-- spaces, bases and tables
abbrev pub model_lines : ModelRecord → List Text
model_lines text = first_line ∷ (space_lines text.spaces ++ (all_bases_lines text.spaces ++ table_lines text.tables))

abbrev pub file_of_model : ModelRecord → File
file_of_model text = file model_file (model_lines text)

abbrev pub file_of_table : Name → TableRows → File
file_of_table name table = record { name = table_file name; bytes = table_text table }

abbrev pub table_files : List (Name × TableRows) → List File
table_files tables = map (λ (t : Name × TableRows). file_of_table t.0 t.1) tables

abbrev pub file_of_tree : ModelRecord → Name → File
file_of_tree text top = file (space_file top) (tree_lines text top)

abbrev pub space_files : ModelRecord → List File
space_files text = map (file_of_tree text) (tops text)

-- the last two, with the inputs in this order
abbrev pub end_files : ModelRecord → List (Node × Value) → List File
end_files text inputs = file refs_file (refs_lines text) ∷ file inputs_file (input_lines inputs) ∷ []

-- all files in order, with the inputs in this order
abbrev pub files_by : ModelRecord → List (Node × Value) → List File
files_by text inputs = file_of_model text ∷ (table_files text.tables ++ (space_files text ++ end_files text inputs))

-- no input stands before one whose node has a text that is less by its bytes
abbrev pub AreByText : List (Node × Value) → Type 0
AreByText [] = Unit {0}
AreByText (x ∷ xs) = ((y : Node × Value) → Has xs y → slice_cmp nat_cmp (node_text y.0) (node_text x.0) ≡ Less → ⊥) × AreByText xs

-- the inputs in that order
pub record AreOrdered (inputs ordered : List (Node × Value)) : Type 0 where
  pub same : IsPermutation inputs ordered
  pub by_text : AreByText ordered

-- the files are the canonical ones of a model
pub record IsProjectText (text : ModelRecord) (files : List File) : Type 0 where
  pub inputs : List (Node × Value)
  pub ordered : AreOrdered text.inputs inputs
  pub are : files ≡ files_by text inputs

-- these files, and behind them the last two with the inputs in order
pub record EndsText (text : ModelRecord) (before files : List File) : Type 0 where
  pub inputs : List (Node × Value)
  pub ordered : AreOrdered text.inputs inputs
  pub are : files ≡ before ++ end_files text inputs

-- ---- what a write leaves

-- the files with these set within a folder, one after the other
abbrev pub with_files : Option FileMap → Text → List File → Option FileMap
with_files told folder [] = told
with_files told folder (f ∷ fs) = with_files (with_bytes told (in_folder folder f.name) f.bytes) folder fs

-- a file is not set: at a fault no other name has changed, and without memory none has
abbrev pub IsNotSet : Text → File → Option FileMap → Option FileMap → ProjectRefusal → Type 0
IsNotSet folder f old new refusal.WriteFault = ChangesOnly (in_folder folder f.name) old new
IsNotSet folder f old new refusal.NoMemory = new ≡ old
IsNotSet folder f old new _ = ⊥

-- the files in front of one are set, and that one is not
pub record StopsAt (folder : Text) (files : List File) (old new : Option FileMap) (why : ProjectRefusal) : Type 0 where
  pub before : List File
  pub unset : File
  pub after : List File
  pub whole : files ≡ before ++ unset ∷ after
  pub left : IsNotSet folder unset (with_files old folder before) new why

abbrev pub IsShort : File → Type 0
IsShort f = length f.bytes ≤ most_bytes

-- the first of these files that is longer than a file may be
pub record IsFirstBig (files : List File) (big : File) : Type 0 where
  pub before : List File
  pub after : List File
  pub whole : files ≡ before ++ big ∷ after
  pub short : AllByRecursion IsShort before
  pub long : most_bytes < length big.bytes

-- that the file of this name is too big is told, but for want of memory
abbrev pub TellsBig : Text → ProjectRefusal → Type 0
TellsBig name (refusal.TooBig told) = told ≡ name
TellsBig name refusal.NoMemory = Unit {0}
TellsBig name _ = ⊥

-- all files are set
pub record IsWritten (text : ModelRecord) (folder : Text) (old new : Option FileMap) : Type 0 where
  pub files : List File
  pub are : IsProjectText text files
  pub short : AllByRecursion IsShort files
  pub set : new ≡ with_files old folder files

-- the first file that is longer than a file may be has this name
pub record IsTooBig (text : ModelRecord) (name : Text) : Type 0 where
  pub before : List File
  pub big : File
  pub after : List File
  pub are : IsProjectText text (before ++ big ∷ after)
  pub short : AllByRecursion IsShort before
  pub long : most_bytes < length big.bytes
  pub named : name ≡ big.name

-- the files before one are set, and no other but that one can have changed
pub record IsBroken (text : ModelRecord) (folder : Text) (old new : Option FileMap) : Type 0 where
  pub before : List File
  pub broken : File
  pub after : List File
  pub are : IsProjectText text (before ++ broken ∷ after)
  pub left : ChangesOnly (in_folder folder broken.name) (with_files old folder before) new

-- nothing is set, or the first files are, and no other has changed
pub data IsCutShort (text : ModelRecord) (folder : Text) (old new : Option FileMap) : Type 0 where
  nothing : new ≡ old → IsCutShort text folder old new
  front : (before after : List File) → IsProjectText text (before ++ after) → new ≡ with_files old folder before → IsCutShort text folder old new

-- what is left after a refused write: nothing is written where a file is too big
abbrev pub IsUnwritten : ModelRecord → Text → Option FileMap → Option FileMap → ProjectRefusal → Type 0
IsUnwritten text folder old new (refusal.TooBig name) = IsTooBig text name × (new ≡ old)
IsUnwritten text folder old new refusal.WriteFault = IsBroken text folder old new
IsUnwritten text folder old new refusal.NoMemory = IsCutShort text folder old new
IsUnwritten text folder old new _ = ⊥

-- the count of faults at writes has risen at a fault; else it is as before, but for want of memory
abbrev pub CountsWrites : {A : Type 0} → Result A ProjectRefusal → ℕ → ℕ → Type 0
CountsWrites (Err refusal.WriteFault) old new = Rose old new
CountsWrites (Err refusal.NoMemory) old new = old ≤ new
CountsWrites answer old new = new ≡ old
