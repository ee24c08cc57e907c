-- Calls and subscripts: of cells, of spaces, of the functions that a formula can always call, of tuples, texts and tables.
use Rattle.std.specs.Prelude.{ℕ, ℤ, if◌then◌else◌, List, [], ◌∷◌, Option, Some, Err, length}
use Rattle.std.specs.List.{list_all}
use Rattle.mx_value.specs.Plain.{is_plain}
use Rattle.mx_value.specs.Normal.{normal_of}
use Rattle.mx_value.specs.declared.label.Label.{Label}
use Rattle.mx_value.specs.declared.value.Value.{Value, out-Value}
use Rattle.mx_value.specs.declared.value.Segment.{Segment}
use Rattle.mx_value.specs.declared.value.Segment.TheOpen.{Value-F}
use Rattle.mx_value.specs.declared.value.CellsAt.{CellsAt, out-CellsAt}
use Rattle.mx_value.specs.declared.namespace.Namespace.{Namespace}
use Rattle.mx_value.specs.declared.node.Node.TheVariants.{Cell, Item}
use Rattle.mx_value.specs.declared.read.Read.TheVariants as read
use Rattle.mx_value.specs.declared.fault.FaultKind.TheVariants.{TypeMismatch, NotCallable, WrongCountInside, TooLarge, NoIndex}
use Rattle.mx_syntax.specs.declared.stmt.Param.{Param}
use Rattle.mx_syntax.specs.Binding.{bound, is_wrong_count}
use Rattle.mx_edit.specs.Rows.{TableRows}
use Rattle.mx_edit.specs.Table.{entry_at}
use Rattle.mx_edit.specs.declared.key.Key.TheVariants as key
use Rattle.mx_edit.specs.declared.key.KeyResult.{KeyResult}
use Rattle.mx_edit.specs.declared.key.KeyResult.TheVariants as found
use Rattle.mx_syntax.specs.declared.op.Op.TheVariants as op
use Rattle.mx_ops.specs.Kinds.{Content, bytes_of}
use Rattle.mx_ops.specs.Numbers.{whole_of}
use Rattle.mx_ops.specs.Answers.{Answer}
use Rattle.mx_ops.specs.Builtins.{or_no_index}
use Rattle.mx_ops.specs.Names.{op_of}
use Rattle.mx_ops.specs.Table.{gives}
use Rattle.mx_runs.specs.Runs.{Run, Looks, Asks, Notes}
use Rattle.mx_meaning.specs.Namespaces.{ends_with_name, is_allowed, item_at}
use Rattle.mx_meaning.specs.Walks.{walked}
use Rattle.mx_meaning.specs.Environments.{Env, Reading, fault, computed}
use Rattle.mx_meaning.specs.Lookup.{Callee, Called, Function}

-- ---- cells and spaces

-- on with the arguments of a node: they are plain, and then the parameters bind them
abbrev pub arguments_bound : List Param → List Value → Env → (List Value → Run) → Run
arguments_bound params args env go =
    if list_all is_plain args
    then if is_wrong_count params (length args) then fault WrongCountInside env else go (bound params args)
    else fault TypeMismatch env

-- by what the cells are: their formula has the parameters
abbrev pub cells_asked : Namespace → Label → List Value → Env → (Value → Run) → KeyResult → Run
cells_asked ns name args env go (found.Formula f allow) =
    arguments_bound f.params args env (λ vs. Asks (Cell ns.at name vs) (λ r. go r.value))
cells_asked ns name args env go other = fault NotCallable env

-- a call of cells: the walk of their space, then their parameters, then the node is asked
abbrev pub cells_called : CellsAt → List Value → Reading
cells_called cells args env go =
    walked (out-CellsAt cells).space (λ ns.
    Looks (key.Cells ns.source (out-CellsAt cells).name) (cells_asked ns (out-CellsAt cells).name args env go))

-- the item of these arguments is asked, where its space may be so large
abbrev pub item_asked : Namespace → Env → (Value → Run) → List Value → Run
item_asked ns env go args = if is_allowed (item_at ns args) then Asks (Item ns.at args) (λ r. go r.value) else fault TooLarge env

-- by what the space is: one with parameters, or none that can be called
abbrev pub space_asked : Namespace → List Value → Env → (Value → Run) → KeyResult → Run
space_asked ns args env go (found.Params ps) = arguments_bound ps.params args env (item_asked ns env go)
space_asked ns args env go other = fault NotCallable env

-- a space whose address ends with an item has no parameters
abbrev pub space_sought : List Value → Env → (Value → Run) → Namespace → Run
space_sought args env go ns =
    if ends_with_name ns.at then Looks (key.Params ns.source) (space_asked ns args env go) else fault NotCallable env

-- a call or subscript of a space with parameters: its walk, then its parameters, then the item node, which gives the space
abbrev pub space_called : List Segment → List Value → Reading
space_called at args env go = walked at (space_sought args env go)

-- ---- tables

-- the key of a row: a whole number, a flag or a whole decimal number
abbrev pub row_key : Value → Option ℤ
row_key v = whole_of (normal_of v)

-- the entry of a row and a column, where both are of the kinds that these have
abbrev pub entry : TableRows → Option ℤ → Option (List ℕ) → Answer
entry t (Some row) (Some column) = or_no_index (entry_at t row column)
entry t row column = Err TypeMismatch

-- the entry of a table at a key and the name of a column
abbrev pub entry_of : TableRows → List Value → Answer
entry_of t (row ∷ column ∷ []) = entry t (row_key row) (bytes_of column)
entry_of t args = Err TypeMismatch

-- a table that is not there has no entry
abbrev pub table_found : List Value → Env → (Value → Run) → KeyResult → Run
table_found args env go (found.Table t) = computed (entry_of t args) env go
table_found args env go other = fault NoIndex env

-- a table counts as read, and its key too, before its subscripts are tested
abbrev pub table_indexed : Label → List Value → Reading
table_indexed name args env go = Notes (read.Table name) (Looks (key.Table name) (table_found args env go))

-- ---- what is called or subscripted with these arguments

-- cells and spaces are called, and no other value is
abbrev pub value_called : Content → List Value → Reading
value_called (Value-F.Cells cells) args env go = cells_called cells args env go
value_called (Value-F.Space at) args env go = space_called at args env go
value_called other args env go = fault NotCallable env

-- a value or a function that a formula can always call
abbrev pub called : Callee → List Value → Reading
called (Called v) args env go = value_called (out-Value v) args env go
called (Function b) args env go = computed (gives (op_of b) args) env go

-- cells and spaces as in a call; of a tuple or a text the item or the byte at a place, of a table its entry
abbrev pub content_indexed : Content → Value → List Value → Reading
content_indexed (Value-F.Cells cells) v args env go = cells_called cells args env go
content_indexed (Value-F.Space at) v args env go = space_called at args env go
content_indexed (Value-F.Table name) v args env go = table_indexed name args env go
content_indexed (Value-F.Tup items) v args env go = computed (gives op.Index (v ∷ args)) env go
content_indexed (Value-F.Text bytes) v args env go = computed (gives op.Index (v ∷ args)) env go
content_indexed other v args env go = fault NotCallable env

abbrev pub indexed : Value → List Value → Reading
indexed v args env go = content_indexed (out-Value v) v args env go
