-- The files of a project's folder: their names, and the words that their lines begin with.
use Rattle.std.specs.Prelude.{List, [], ◌∷◌, ◌++◌, Option, Some, None, map, codes}
use Rattle.std.specs.List.{filter_map}
use Rattle.mx_print.specs.Texts.{Text}
use Rattle.mx_words.specs.declared.table.CommandWord.{CommandWord}
use Rattle.mx_words.specs.declared.table.CommandWord.TheVariants as word
use Rattle.mx_model.specs.Records.{Name, Path, SpaceRecord, ModelRecord}

-- the first line of the model file
abbrev pub project_line : Text
project_line = codes "mx project 1"

-- ---- names

abbrev pub model_file : Text
model_file = codes "model.mx"

abbrev pub refs_file : Text
refs_file = codes "refs.mx"

abbrev pub inputs_file : Text
inputs_file = codes "inputs.mx"

-- the file of a table
abbrev pub table_file : Name → Text
table_file name = codes "table_" ++ (name ++ codes ".csv")

-- the file of a top space, for all spaces of its tree
abbrev pub space_file : Name → Text
space_file top = codes "space_" ++ (top ++ codes ".mx")

-- a file within a folder
abbrev pub in_folder : Text → Text → Text
in_folder folder name = folder ++ (codes "/" ++ name)

-- ---- top spaces

abbrev pub top_name : Path → Option Name
top_name (name ∷ []) = Some name
top_name path = None

-- the spaces at the top, in order of creation
abbrev pub tops : ModelRecord → List Name
tops text = filter_map (λ (s : SpaceRecord). top_name s.path) text.spaces

-- ---- words: behind the model file and the tables stand files of edits

-- a file whose lines are edits, with the words that they may begin with
pub record EditFile : Type 0 where
  pub name : Text
  pub words : List CommandWord

abbrev pub edit_file : Text → List CommandWord → EditFile
edit_file name words = record { name = name; words = words }

abbrev pub model_words : List CommandWord
model_words = word.Space ∷ word.Bases ∷ word.Table ∷ []

abbrev pub space_words : List CommandWord
space_words = word.Cells ∷ word.Def ∷ word.Allow ∷ word.Params ∷ []

abbrev pub refs_words : List CommandWord
refs_words = word.Ref ∷ word.Global ∷ []

abbrev pub inputs_words : List CommandWord
inputs_words = word.Input ∷ []

-- those of the spaces, of the references and of the inputs, in this order
abbrev pub edit_files : ModelRecord → List EditFile
edit_files text =
    map (λ (top : Name). edit_file (space_file top) space_words) (tops text)
    ++ edit_file refs_file refs_words ∷ edit_file inputs_file inputs_words ∷ []
