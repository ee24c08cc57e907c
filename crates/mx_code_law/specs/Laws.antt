-- The laws: instructions do what formulas mean.
use Rattle.std.specs.Prelude.{◌≡◌, ℕ, zero, suc, ◌-◌, Bool, false, List, [], ◌∷◌, ◌++◌, length, map, Option, Some, None, true}
use Rattle.mx_value.specs.declared.value.Value.{Value}
use Rattle.mx_value.specs.declared.node.Node.{Node}
use Rattle.mx_value.specs.declared.namespace.Namespace.{Namespace}
use Rattle.mx_syntax.specs.declared.expr.Expr.{Expr}
use Rattle.mx_syntax.specs.declared.stmt.Stmt.{Stmt}
use Rattle.mx_syntax.specs.declared.stmt.Param.{Param}
use Rattle.mx_syntax.specs.Binding.{bound, is_wrong_count}
use Rattle.mx_syntax.specs.Locals.{bound_by}
use Rattle.mx_meaning.specs.Environments.{at_line}
use Rattle.mx_meaning.specs.Expressions.{part_read, reading}
use Rattle.mx_meaning.specs.Statements.{doing, body_done}
use Rattle.mx_meaning.specs.Nodes.{arguments_of, first_env, cells_returned, item_done}
use Rattle.mx_code.specs.declared.action.Instr.{Instr}
use Rattle.mx_code.specs.declared.action.Local.{Local}
use Rattle.mx_code.specs.Expressions.{part_code, expr_code}
use Rattle.mx_code.specs.Statements.{stmt_code, code_of, body_of, size_of}
use Rattle.mx_code_law.specs.States.{Home, OfCells, OfItem, state}
use Rattle.mx_code_law.specs.Machine.{Does}
use Rattle.mx_code_law.specs.Fits.{IsScope, Fits, CalleeFits, HavePlaces, DoesFit}

-- The instructions of each expression do what it means, in any code, wherever they stand, over any scope and at any line.
abbrev pub ExpressionLaw : Type 0
ExpressionLaw = (code : List Instr) (h : Home) (size : ℕ) (e : Expr) (scope : List Local) (line : ℕ) → IsScope scope
    → Fits code h size scope line (expr_code e scope line) (reading e)

-- and those of each expression as a part that is called
abbrev pub CalleeLaw : Type 0
CalleeLaw = (code : List Instr) (h : Home) (size : ℕ) (e : Expr) (scope : List Local) (line : ℕ) → IsScope scope
    → CalleeFits code h size scope line (part_code e true scope line) (part_read e)

-- the instructions of each statement do what it means, over any scope that has places for the names that it binds
abbrev pub StatementLaw : Type 0
StatementLaw = (code : List Instr) (h : Home) (size : ℕ) (s : Stmt) (scope : List Local) (line : ℕ) → IsScope scope → HavePlaces scope (bound_by s)
    → DoesFit code h size scope (stmt_code s scope line) (λ env. doing s (at_line line env))

-- ---- formulas

-- so many locals that are not set
abbrev pub unset : ℕ → List (Option Value)
unset zero = []
unset (suc n) = None ∷ unset n

abbrev pub set : Value → Option Value
set v = Some v

-- the locals with which a run begins: the arguments, where the caller left them, and then those that are not set
abbrev pub begun : ℕ → List Value → List (Option Value)
begun size args = map set args ++ unset (size - length args)

-- The code of cells does the run of their formula, from its first instruction on, where the arguments bind.
abbrev pub CellsLaw : Type 0
CellsLaw = (n : Node) (ns : Namespace) (allow : Bool) (params : List Param) (body : List Stmt) (args : List Value) → is_wrong_count params (length args) ≡ false
    → Does (code_of params body) (record { node = n; space = ns; work = OfCells allow }) (state 0 [] (begun (size_of params body) (bound params args)))
    (body_done body (first_env n ns (arguments_of params (bound params args)) body) (cells_returned allow n))

-- The code of the parameters of a space makes their item, likewise.
abbrev pub ItemLaw : Type 0
ItemLaw = (n : Node) (ns : Namespace) (params : List Param) (body : Option (List Stmt)) (args : List Value) → is_wrong_count params (length args) ≡ false
    → Does (code_of params (body_of body)) (record { node = n; space = ns; work = OfItem (bound params args) (arguments_of params (bound params args)) })
    (state 0 [] (begun (size_of params (body_of body)) (bound params args)))
    (item_done body n ns (bound params args) (arguments_of params (bound params args)))

-- a run has as many locals as its code says
abbrev pub SizeLaw : Type 0
SizeLaw = (params : List Param) (body : List Stmt) (args : List Value) → is_wrong_count params (length args) ≡ false
    → length (begun (size_of params body) (bound params args)) ≡ size_of params body
