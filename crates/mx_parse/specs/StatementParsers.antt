-- What the code of statements, formulas and the parameters of spaces computes.
use Rattle.std.specs.Prelude.{ℕ, List, [], ◌∷◌, ◌++◌, Option, Some, None}
use Rattle.mx_syntax.specs.declared.expr.Expr.{Expr}
use Rattle.mx_syntax.specs.declared.stmt.Stmt.{Stmt}
use Rattle.mx_syntax.specs.declared.stmt.Stmt.TheVariants as stmt
use Rattle.mx_syntax.specs.declared.stmt.IfArm.{IfArm, roll-IfArm}
use Rattle.mx_syntax.specs.declared.stmt.ArithOp.{ArithOp}
use Rattle.mx_syntax.specs.declared.stmt.ArithOp.TheVariants.{Add, Sub, Mul}
use Rattle.mx_syntax.specs.declared.stmt.ItemEntry.{ItemEntry}
use Rattle.mx_syntax.specs.declared.stmt.Param.{Param}
use Rattle.mx_syntax.specs.declared.stmt.Formula.{Formula}
use Rattle.mx_syntax.specs.declared.stmt.Params.{Params}
use Rattle.mx_grammar.specs.declared.word.Symbol.TheVariants as symbol
use Rattle.mx_grammar.specs.Words.{is}
use Rattle.mx_grammar.specs.Reading.{Parser, ◌>>=◌, ◌>>◌, pure, accept, expect, choose, line, Turn, On, Done, turning, many_turn, levels}
use Rattle.mx_grammar.specs.AddressParsers.{name_of}

-- ---- simple statements, each to the end of its line

-- an expression on the rest of the line, as what is made of it
unfoldable pub valued : {A : Type 0} → (Expr → A) → Parser Expr → Parser A
valued build expression = expression >>= λ x. expect symbol.Newline >> pure (build x)

-- a display, or else an expression
unfoldable pub given : {A : Type 0} → (List ItemEntry → A) → (Expr → A) → Parser Expr → Parser (List ItemEntry) → Parser A
given item value expression display =
    choose (is symbol.OpenCurly) (display >>= λ entries. expect symbol.Newline >> pure (item entries)) (valued value expression)

abbrev pub returning : Expr → Stmt
returning x = stmt.Return (Some x)

-- behind `return`
unfoldable pub returned : Parser Expr → Parser (List ItemEntry) → Parser Stmt
returned expression display =
    choose (is symbol.Newline) (expect symbol.Newline >> pure (stmt.Return None)) (given (λ entries. stmt.ReturnItem entries) returning expression display)

unfoldable pub change : Parser ArithOp
change =
    choose (is symbol.PlusAssign) (expect symbol.PlusAssign >> pure Add)
    (choose (is symbol.MinusAssign) (expect symbol.MinusAssign >> pure Sub) (expect symbol.TimesAssign >> pure Mul))

-- behind a name
unfoldable pub changed : Parser Expr → List ℕ → Parser Stmt
changed expression n =
    choose (is symbol.Assign) (expect symbol.Assign >> valued (λ x. stmt.Assign n x) expression) (change >>= λ op. valued (λ x. stmt.Change n op x) expression)

unfoldable pub simple : Parser Expr → Parser (List ItemEntry) → Parser Stmt
simple expression display =
    choose (is symbol.Pass) (expect symbol.Pass >> (expect symbol.Newline >> pure stmt.Pass))
    (choose (is symbol.Return) (expect symbol.Return >> returned expression display) (accept name_of >>= changed expression))

-- ---- loops and branches

-- a colon, and the body behind it as what is made of it
unfoldable pub headed : {A : Type 0} → (List Stmt → A) → Parser (List Stmt) → Parser A
headed build body = expect symbol.Colon >> (body >>= λ b. pure (build b))

abbrev pub arm_of : Expr → List Stmt → IfArm
arm_of test body = roll-IfArm (record { test = test; body = body })

unfoldable pub arm : Parser Expr → Parser (List Stmt) → Parser IfArm
arm expression body = expression >>= λ test. headed (arm_of test) body

unfoldable pub elif : Parser Expr → Parser (List Stmt) → Parser IfArm
elif expression body = expect symbol.Elif >> arm expression body

-- any number of arms behind those found before
abbrev pub elifs : Parser Expr → Parser (List Stmt) → List IfArm → Parser (List IfArm)
elifs expression body = turning (many_turn (is symbol.Elif) (elif expression body))

unfoldable pub otherwise : Parser (List Stmt) → List IfArm → Parser Stmt
otherwise body arms = choose (is symbol.Else) (expect symbol.Else >> headed (λ b. stmt.If arms (Some b)) body) (pure (stmt.If arms None))

unfoldable pub branches : Parser Expr → Parser (List Stmt) → Parser Stmt
branches expression body = expect symbol.If >> (arm expression body >>= λ first. elifs expression body (first ∷ []) >>= otherwise body)

unfoldable pub each : Parser Expr → Parser (List Stmt) → Parser Stmt
each expression body = expect symbol.For >> (accept name_of >>= λ n. expect symbol.In >> (expression >>= λ over. headed (λ b. stmt.For n over b) body))

unfoldable pub statement : Parser Expr → Parser (List ItemEntry) → Parser (List Stmt) → Parser Stmt
statement expression display body =
    choose (is symbol.If) (branches expression body) (choose (is symbol.For) (each expression body) (simple expression display))

-- ---- bodies. A rule takes what parses a block.

unfoldable pub body_by : Parser Expr → Parser (List ItemEntry) → Parser (List Stmt) → Parser (List Stmt)
body_by expression display block = choose (is symbol.Newline) block (simple expression display >>= λ s. pure (s ∷ []))

-- a statement behind those found before, and maybe the end of the block
unfoldable pub statement_turn : Parser Expr → Parser (List ItemEntry) → Parser (List Stmt) → List Stmt → Parser (Turn (List Stmt) (List Stmt))
statement_turn expression display body found =
    statement expression display body >>= λ s. choose (is symbol.Dedent) (expect symbol.Dedent >> pure (Done (found ++ s ∷ []))) (pure (On (found ++ s ∷ [])))

abbrev pub statements : Parser Expr → Parser (List ItemEntry) → Parser (List Stmt) → List Stmt → Parser (List Stmt)
statements expression display body = turning (statement_turn expression display body)

unfoldable pub block_rule : Parser Expr → Parser (List ItemEntry) → Parser (List Stmt) → Parser (List Stmt)
block_rule expression display inner = expect symbol.Newline >> (expect symbol.Indent >> statements expression display (body_by expression display inner) [])

abbrev pub block : Parser Expr → Parser (List ItemEntry) → ℕ → Parser (List Stmt)
block expression display = levels (block_rule expression display)

-- with blocks in so many levels
abbrev pub body : Parser Expr → Parser (List ItemEntry) → ℕ → Parser (List Stmt)
body expression display n = body_by expression display (block expression display n)

-- ---- whole texts

abbrev pub formula_of : List Param → List Stmt → Formula
formula_of params body = record { params = params; body = body }

-- a formula behind its parameters
unfoldable pub formula_rest : Parser Expr → Parser (List Stmt) → List Param → Parser Formula
formula_rest expression body params =
    choose (is symbol.Assign) (expect symbol.Assign >> valued (λ x. formula_of params (returning x ∷ [])) expression) (headed (formula_of params) body)

unfoldable pub formula : Parser (List Param) → Parser Expr → Parser (List Stmt) → Parser Formula
formula params expression body = params >>= formula_rest expression body

abbrev pub params_of : List Param → Option (List Stmt) → Params
params_of params body = record { params = params; body = body }

abbrev pub item_of : List Param → List ItemEntry → Params
item_of params entries = params_of params (Some (stmt.ReturnItem entries ∷ []))

abbrev pub item_value_of : List Param → Expr → Params
item_value_of params x = params_of params (Some (returning x ∷ []))

abbrev pub item_body_of : List Param → List Stmt → Params
item_body_of params body = params_of params (Some body)

-- what stands behind the parameters of a space
unfoldable pub params_rest : Parser Expr → Parser (List ItemEntry) → Parser (List Stmt) → List Param → Parser Params
params_rest expression display body params =
    choose (is symbol.Newline) (expect symbol.Newline >> pure (params_of params None))
    (choose (is symbol.Assign) (expect symbol.Assign >> given (item_of params) (item_value_of params) expression display) (headed (item_body_of params) body))

unfoldable pub space_params : Parser (List Param) → Parser Expr → Parser (List ItemEntry) → Parser (List Stmt) → Parser Params
space_params params expression display body = params >>= params_rest expression display body
