-- The line of the printed text at which each statement stands.
use Rattle.std.specs.Prelude.{◌≡◌, ◌≢◌, ℕ, ◌+◌, ◌==◌, Bool, true, false, if◌then◌else◌, List, [], ◌∷◌, ◌++◌, Option, None, Some, map, length, codes, is_some}
use Rattle.mx_syntax.specs.declared.expr.Expr.{Expr}
use Rattle.mx_syntax.specs.declared.stmt.Stmt.{Stmt}
use Rattle.mx_syntax.specs.declared.stmt.Stmt.TheVariants as made
use Rattle.mx_syntax.specs.declared.stmt.IfArm.{IfArm, out-IfArm}
use Rattle.mx_syntax.specs.declared.stmt.Param.{Param}
use Rattle.mx_syntax.specs.Heights.{height, arm_height, body_height, arms_height, is_of_one_line, first_line}
use Rattle.mx_print.specs.Texts.{Text}
use Rattle.mx_print.specs.Statements.{stmt_lines, arm_lines, body_lines, if_lines, arm_word, whole, returned, one_line, formula_lines, margin, lines_text}

-- heights count the lines of the printed text
pub record HeightsCountLines : Type 0 where
  pub statement : (stmt : Stmt) → length (stmt_lines stmt) ≡ height stmt
  pub arm : (arm : IfArm) → length (arm_lines arm) ≡ arm_height arm
  pub body : (body : List Stmt) → length (body_lines body) ≡ body_height body
  pub arms : (arms : List IfArm) → length (if_lines (map arm_lines arms)) ≡ arms_height arms
  pub one : (body : List Stmt) → is_some (one_line (map returned body)) ≡ is_of_one_line body

-- In a body whose first statement stands at the line `first`, the statement stands at `line`: below
-- the statements before it, and below the head of the loop or the arm that it is in.
pub data AtLine : ℕ → List Stmt → ℕ → Stmt → Type 0 where
  here : {first : ℕ} {stmt : Stmt} {body : List Stmt} → AtLine first (stmt ∷ body) first stmt
  later : {first line : ℕ} {before stmt : Stmt} {body : List Stmt} → AtLine (first + height before) body line stmt → AtLine first (before ∷ body) line stmt
  loop : {first line : ℕ} {body : List Stmt} {stmt : Stmt} (name : Text) (over : Expr) (inner : List Stmt) → AtLine (first + 1) inner line stmt → AtLine first (made.For name over inner ∷ body) line stmt
  arm : {first line : ℕ} {body : List Stmt} {stmt : Stmt} (arms : List IfArm) (a : IfArm) (more : List IfArm) (other : Option (List Stmt))
      → AtLine (first + arms_height arms + 1) (out-IfArm a).body line stmt → AtLine first (made.If (arms ++ a ∷ more) other ∷ body) line stmt
  otherwise : {first line : ℕ} {body : List Stmt} {stmt : Stmt} (arms : List IfArm) (inner : List Stmt) → AtLine (first + arms_height arms + 1) inner line stmt → AtLine first (made.If arms (Some inner) ∷ body) line stmt

-- lines, so many levels in
abbrev pub deep : ℕ → List Text → List Text
deep depth lines = map (λ (line : Text). margin depth ++ line) lines

-- Among lines of which the first has the number `first`, the lines of something stand from `line` on.
pub record Stands (first : ℕ) (lines : List Text) (line : ℕ) (own : List Text) : Type 0 where
  pub depth : ℕ
  pub before : List Text
  pub after : List Text
  pub whole : lines ≡ before ++ (deep depth own ++ after)
  pub place : line ≡ first + length before

-- a statement stands in the printed text at its line
abbrev pub StatementsStand : Type 0
StatementsStand = (params : List Param) (body : List Stmt) (line : ℕ) (stmt : Stmt) → one_line (map returned body) ≡ None → AtLine (first_line body) body line stmt → Stands 1 (formula_lines params body) line (stmt_lines stmt)

abbrev pub is_first : List IfArm → Bool
is_first [] = true
is_first (a ∷ arms) = false

-- the line of an arm's test
abbrev pub arm_head : Bool → IfArm → Text
arm_head first a = arm_word first ++ (whole (out-IfArm a).test ++ codes ":")

-- an arm of an `if` stands below the arms before it
abbrev pub ArmsStand : Type 0
ArmsStand = (first : ℕ) (arms more : List IfArm) (a : IfArm) (other : Option (List Stmt)) → Stands first (stmt_lines (made.If (arms ++ a ∷ more) other)) (first + arms_height arms) (arm_head (is_first arms) a ∷ [])

abbrev with_first : ℕ → List Text → List Text
with_first b [] = (b ∷ []) ∷ []
with_first b (line ∷ lines) = (b ∷ line) ∷ lines

-- the lines of a text, each without the line feed that ends it
abbrev pub split : Text → List Text
split [] = []
split (b ∷ bs) = if b == 10 then [] ∷ split bs else with_first b (split bs)

abbrev pub HasNoFeed : Text → Type 0
HasNoFeed [] = Unit {0}
HasNoFeed (b ∷ bs) = (b ≢ 10) × HasNoFeed bs

abbrev pub HaveNoFeed : List Text → Type 0
HaveNoFeed [] = Unit {0}
HaveNoFeed (line ∷ lines) = HasNoFeed line × HaveNoFeed lines

-- the text of lines is split into them, where none holds a line feed: names and texts are printable
abbrev pub TextHasItsLines : Type 0
TextHasItsLines = (lines : List Text) → HaveNoFeed lines → split (lines_text 0 lines) ≡ lines
