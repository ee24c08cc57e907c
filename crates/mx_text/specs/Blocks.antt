-- The blocks that answer the commands of a script. An LF ends each line.
use Rattle.std.specs.Prelude.{ℕ, Bool, true, false, List, [], ◌∷◌, ◌++◌, length, map, Result, Ok, Err, codes}
use Rattle.std.specs.Fmt.{decimal}
use Rattle.mx_value.specs.declared.label.Label.{Label}
use Rattle.mx_value.specs.declared.node.Node.{Node}
use Rattle.mx_value.specs.declared.read.Read.{Read}
use Rattle.mx_value.specs.declared.value.Value.{Value}
use Rattle.mx_value.specs.declared.refusal.EvalRefusal.{EvalRefusal}
use Rattle.mx_syntax.specs.Lists.{flat}
use Rattle.mx_edit.specs.declared.refusal.EditRefusal.{EditRefusal}
use Rattle.mx_edit.specs.declared.table.TableRefusal.{TableRefusal}
use Rattle.mx_print.specs.Texts.{Text, commas}
use Rattle.mx_print.specs.Values.{value_text, node_text}
use Rattle.mx_text.specs.Edit.{path_text, edit_refusal_text}
use Rattle.mx_text.specs.Evaluation.{refusal_text}
use Rattle.mx_text.specs.File.{missing_text, too_big_text}
use Rattle.mx_text.specs.Table.{table_refusal_text}
use Rattle.mx_text.specs.Reads.{read_text}

abbrev pub node_line : Node → Text
node_line n = node_text n ++ 10 ∷ []

abbrev pub read_line : Read → Text
read_line r = read_text r ++ 10 ∷ []

-- an evaluation that began so many runs
abbrev pub eval_block : Result Value EvalRefusal → ℕ → Text
eval_block (Ok v) runs =
    codes "= " ++ (value_text v ++ (codes " runs " ++ (decimal runs ++ 10 ∷ [])))
eval_block (Err why) runs = refusal_text why ++ 10 ∷ []

-- what a node reads, each on a line of its own
abbrev pub reads_block : Result (List Read) EvalRefusal → Text
reads_block (Ok reads) =
    codes "reads " ++ (decimal (length reads) ++ 10 ∷ flat (map read_line reads))
reads_block (Err why) = refusal_text why ++ 10 ∷ []

-- which held nodes ask a node, each on a line of its own
abbrev pub succs_block : List Node → Text
succs_block nodes =
    codes "succs " ++ (decimal (length nodes) ++ 10 ∷ flat (map node_line nodes))

-- how many nodes are held
abbrev pub count_block : ℕ → Text
count_block count = codes "held " ++ (decimal count ++ 10 ∷ [])

-- whether a node is held
abbrev pub held_block : Bool → Text
held_block true = codes "held" ++ 10 ∷ []
held_block false = codes "not held" ++ 10 ∷ []

-- a clearing that dropped so many nodes
abbrev pub cleared_block : ℕ → Text
cleared_block dropped = codes "cleared " ++ (decimal dropped ++ 10 ∷ [])

-- what is accepted, and what is refused
abbrev pub accepted_block : Text
accepted_block = codes "ok" ++ 10 ∷ []

abbrev pub refused_block : Text → Text
refused_block why = codes "refused: " ++ (why ++ 10 ∷ [])

abbrev pub edit_block : Result ℕ EditRefusal → Text
edit_block (Ok dropped) = accepted_block
edit_block (Err why) = refused_block (edit_refusal_text why)

-- a file that is not read, and one that says no table
abbrev pub missing_block : Label → Text
missing_block name = refused_block (missing_text name)

abbrev pub too_big_block : Label → Text
too_big_block name = refused_block (too_big_text name)

abbrev pub table_block : TableRefusal → Text
table_block why = refused_block (table_refusal_text why)

-- the paths of layers, in order
abbrev pub order_block : List (List Label) → Text
order_block paths = codes "order " ++ (commas (map path_text paths) ++ 10 ∷ [])
