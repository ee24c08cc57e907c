-- The texts of why a project is not read or written.
use Rattle.std.specs.Prelude.{ℕ, [], ◌++◌, codes}
use Rattle.std.specs.Fmt.{decimal}
use Rattle.mx_print.specs.Texts.{Text}
use Rattle.mx_edit.specs.declared.refusal.EditRefusal.{EditRefusal}
use Rattle.mx_edit.specs.declared.table.TableRefusal.{TableRefusal}
use Rattle.mx_grammar.specs.declared.refusal.ParseRefusal.{ParseRefusal}
use Rattle.mx_text.specs.Edit.{edit_refusal_text}
use Rattle.mx_text.specs.File.{missing_text, too_big_text}
use Rattle.mx_text.specs.Parsing.{parse_refusal_text}
use Rattle.mx_text.specs.Table.{table_refusal_text}
use Rattle.mx_project.specs.declared.refusal.ProjectRefusal.{ProjectRefusal}
use Rattle.mx_project.specs.declared.refusal.ProjectRefusal.TheVariants as refusal

-- a word, the name of a file and a line of it
abbrev pub line_text : Text → Text → ℕ → Text
line_text word file line = word ++ (file ++ (codes " " ++ decimal line))

abbrev pub bad_formula_text : Text → ℕ → ParseRefusal → Text
bad_formula_text file line why = line_text (codes "bad formula ") file line ++ (codes ": " ++ parse_refusal_text why)

abbrev pub bad_table_text : Text → TableRefusal → Text
bad_table_text file why = codes "bad table " ++ (file ++ (codes ": " ++ table_refusal_text why))

abbrev pub refused_text : Text → ℕ → EditRefusal → Text
refused_text file line why = line_text (codes "refused ") file line ++ (codes ": " ++ edit_refusal_text why)

-- why a project is not read or written; faults and want of memory have no text
abbrev pub project_refusal_text : ProjectRefusal → Text
project_refusal_text (refusal.Missing file) = missing_text file
project_refusal_text (refusal.TooBig file) = too_big_text file
project_refusal_text (refusal.BadLine file line) = line_text (codes "bad line ") file line
project_refusal_text (refusal.BadFormula file line why) = bad_formula_text file line why
project_refusal_text (refusal.BadTable file why) = bad_table_text file why
project_refusal_text (refusal.Refused file line why) = refused_text file line why
project_refusal_text _ = []

-- it is no fault and no want of memory
abbrev pub HasText : ProjectRefusal → Type 0
HasText refusal.ReadFault = ⊥
HasText refusal.WriteFault = ⊥
HasText refusal.NoMemory = ⊥
HasText _ = Unit {0}
