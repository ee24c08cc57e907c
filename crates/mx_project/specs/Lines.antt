-- The lines that a project is written in. Each is a command with full paths, and ends with a line feed.
use Rattle.std.specs.Prelude.{◌-◌, Bool, List, [], ◌∷◌, ◌++◌, Option, Some, None, map, length, take, if◌then◌else◌, codes}
use Rattle.std.specs.List.{filter}
use Rattle.mx_syntax.specs.Lists.{flat}
use Rattle.mx_value.specs.declared.value.Value.{Value}
use Rattle.mx_value.specs.declared.node.Node.{Node}
use Rattle.mx_syntax.specs.declared.stmt.Formula.{Formula}
use Rattle.mx_syntax.specs.declared.stmt.Params.{Params}
use Rattle.mx_print.specs.Texts.{Text, commas}
use Rattle.mx_print.specs.Values.{value_text, node_text}
use Rattle.mx_print.specs.Statements.{print, print_params}
use Rattle.mx_edit.specs.declared.reference.RefValue.{RefValue}
use Rattle.mx_edit.specs.declared.reference.RefValue.TheVariants as ref
use Rattle.mx_text.specs.Edit.{path_text}
use Rattle.mx_model.specs.Records.{Name, Path, CellsRecord, SpaceRecord, ModelRecord}
use Rattle.mx_model.specs.Change.{is_within}

-- a word, and what stands behind it on its line
abbrev pub line_of : Text → Text → Text
line_of word rest = word ++ (codes " " ++ (rest ++ codes "\n"))

-- a member of a space
abbrev pub member_text : Path → Name → Text
member_text path name = path_text path ++ (codes "." ++ name)

-- ---- spaces and tables

abbrev pub space_line : Path → Text
space_line path = line_of (codes "space") (path_text path)

abbrev pub bases_text : Path → List Path → Text
bases_text path bases = path_text path ++ (codes ": " ++ commas (map path_text bases))

abbrev pub bases_line : Path → List Path → Text
bases_line path bases = line_of (codes "bases") (bases_text path bases)

-- a space without bases has no such line
abbrev pub bases_lines : Path → List Path → List Text
bases_lines path [] = []
bases_lines path (base ∷ bases) = bases_line path (base ∷ bases) ∷ []

abbrev pub table_line : Name → Text
table_line name = line_of (codes "table") name

-- ---- cells and parameters: the text of a formula has its own line ends

abbrev pub cells_line : Path → Name → Formula → Text
cells_line path name formula = codes "cells " ++ (member_text path name ++ print formula)

abbrev pub allow_line : Path → Name → Text
allow_line path name = line_of (codes "allow") (member_text path name)

abbrev pub allow_lines : Path → Name → Bool → List Text
allow_lines path name allowed = if allowed then allow_line path name ∷ [] else []

-- cells, and directly behind them that they may give None
abbrev pub cells_lines : Path → Name × CellsRecord → List Text
cells_lines path c = cells_line path c.0 c.1.formula ∷ allow_lines path c.0 c.1.allow_none

abbrev pub params_line : Path → Params → Text
params_line path params = codes "params " ++ (path_text path ++ print_params params)

abbrev pub params_lines : Path → Option Params → List Text
params_lines path None = []
params_lines path (Some params) = params_line path params ∷ []

-- the cells of a space, and then its parameters
abbrev pub members_lines : SpaceRecord → List Text
members_lines s = flat (map (cells_lines s.path) s.cells) ++ params_lines s.path s.params

-- those of the spaces at a path and below it, in order of creation
abbrev pub lines_within : Path → List SpaceRecord → List Text
lines_within path spaces = flat (map members_lines (filter (λ (s : SpaceRecord). is_within path s.path) spaces))

-- those of all spaces in the tree of a top space
abbrev pub tree_lines : ModelRecord → Name → List Text
tree_lines text top = lines_within (top ∷ []) text.spaces

-- ---- references

abbrev pub target_word : Bool → Text
target_word fixed = if fixed then codes "abs " else codes "to "

abbrev pub reference_text : RefValue → Text
reference_text (ref.Plain value) = value_text value
reference_text (ref.Table name) = codes "table " ++ name
reference_text (ref.Target path fixed) = target_word fixed ++ path_text path

abbrev pub set_text : Text → RefValue → Text
set_text named value = named ++ (codes " = " ++ reference_text value)

abbrev pub ref_line : Path → Name → RefValue → Text
ref_line path name value = line_of (codes "ref") (set_text (member_text path name) value)

abbrev pub global_line : Name → RefValue → Text
global_line name value = line_of (codes "global") (set_text name value)

-- those of a space
abbrev pub owned_lines : Path → List (Name × RefValue) → List Text
owned_lines path references = map (λ (r : Name × RefValue). ref_line path r.0 r.1) references

-- those of the model
abbrev pub global_lines : List (Name × RefValue) → List Text
global_lines globals = map (λ (r : Name × RefValue). global_line r.0 r.1) globals

abbrev pub all_owned_lines : List SpaceRecord → List Text
all_owned_lines spaces = flat (map (λ (s : SpaceRecord). owned_lines s.path s.references) spaces)

-- the references of each space, and then those of the model
abbrev pub refs_lines : ModelRecord → List Text
refs_lines text = all_owned_lines text.spaces ++ global_lines text.globals

-- ---- inputs

abbrev pub input_line : Node → Value → Text
input_line n value = line_of (codes "input") (node_text n ++ (codes " = " ++ value_text value))

abbrev pub input_lines : List (Node × Value) → List Text
input_lines inputs = map (λ (i : Node × Value). input_line i.0 i.1) inputs

-- ---- commands

-- the command of a line, which is its text without the last line feed
abbrev pub command_of : Text → Text
command_of line = take (length line - 1) line
