-- How the statements of a formula are done, each at its line of the printed text.
use Rattle.std.specs.Prelude.{ℕ, ◌+◌, List, [], ◌∷◌, Option, Some, None, map}
use Rattle.mx_value.specs.declared.label.Label.{Label}
use Rattle.mx_value.specs.declared.value.Value.{Value}
use Rattle.mx_value.specs.declared.value.Value.TheVariants.{Nothing}
use Rattle.mx_syntax.specs.declared.expr.Expr.{Expr}
use Rattle.mx_syntax.specs.declared.stmt.Stmt.{Stmt, para-Stmt}
use Rattle.mx_syntax.specs.declared.stmt.Stmt.TheOpen.{Stmt-F, IfArm-F}
use Rattle.mx_syntax.specs.declared.stmt.IfArm.{IfArm}
use Rattle.mx_syntax.specs.declared.stmt.ItemEntry.{ItemEntry}
use Rattle.mx_syntax.specs.declared.stmt.ItemEntry.TheVariants as entry
use Rattle.mx_syntax.specs.Heights.{height, arm_height, first_line}
use Rattle.mx_ops.specs.Kinds.{items_of}
use Rattle.mx_ops.specs.Truth.{truth}
use Rattle.mx_runs.specs.Runs.{Run}
use Rattle.mx_meaning.specs.Namespaces.{Overlay}
use Rattle.mx_meaning.specs.Environments.{Env, Reading, computed, tested, with_local, at_line}
use Rattle.mx_meaning.specs.Lookup.{named, valued}
use Rattle.mx_meaning.specs.Operations.{changing, of_two}
use Rattle.mx_meaning.specs.Expressions.{reading, values_beside, items_or_fault}

-- what a formula returns: a value, or a display of references and a base
pub data Returned : Type 0 where
  Plain : Value → Returned
  Display : Overlay → Option Value → Returned

-- How a statement is done in an environment, before what comes after it, with what a return does.
abbrev pub Doing : Type 0
Doing = Env → (Env → Run) → (Returned → Run) → Run

-- ---- displays

-- a reference of a display, by its name
abbrev pub named_reading : Label × Expr → Label × Reading
named_reading ref = (ref.0, reading ref.1)

-- the entries of a display, computed from the left, behind these references and with this base
abbrev pub displayed_from : List ItemEntry → Overlay → Option Value → Env → (Returned → Run) → Run
displayed_from [] refs base env back = back (Display refs base)
displayed_from (entry.Refs more ∷ entries) refs base env back =
    values_beside (map named_reading more) refs env (λ all. displayed_from entries all base env back)
displayed_from (entry.Base e ∷ entries) refs base env back =
    reading e env (λ v. displayed_from entries refs (Some v) env back)

-- ---- statements in a row

-- a statement beside how it is done
abbrev pub Done : Type 0
Done = Stmt × Doing

-- statements one after the other, the first at this line
abbrev pub done_from : List Done → ℕ → Doing
done_from [] line env after back = after env
done_from (s ∷ body) line env after back =
    s.1 (at_line line env) (λ e. done_from body (line + height s.0) e after back) back

-- the statements of `else`, below its line
abbrev pub other_from : Option (List Done) → ℕ → Doing
other_from None line env after back = after env
other_from (Some body) line env after back = done_from body (line + 1) env after back

-- how an arm of an `if` is done: its test, and its statements
abbrev pub ArmDoing : Type 0
ArmDoing = Reading × List Done

-- The arms of an `if`, the first at this line, and what is done where no test holds. A test is at its arm's line.
abbrev pub arms_from : List (IfArm × ArmDoing) → Option (List Done) → ℕ → Doing
arms_from [] other line env after back = other_from other line env after back
arms_from (a ∷ arms) other line env after back =
    a.1.0 (at_line line env) (λ v. tested (truth v)
    (done_from a.1.1 (line + 1) env after back)
    (arms_from arms other (line + arm_height a.0) env after back)
    (at_line line env))

-- the body of a loop for each of these items, its name set before each
abbrev pub looped_from : Label → List Done → List Value → ℕ → Doing
looped_from name body [] line env after back = after env
looped_from name body (v ∷ vs) line env after back =
    done_from body line (with_local name v env) (λ e. looped_from name body vs line e after back) back

-- ---- each form of statement, at the line of its environment

-- each form of statement; `x op= e` reads x first
abbrev pub stmt_step : Stmt-F Done (IfArm × ArmDoing) → Doing
stmt_step Stmt-F.Pass env after back = after env
stmt_step (Stmt-F.Return None) env after back = back (Plain Nothing)
stmt_step (Stmt-F.Return (Some e)) env after back = reading e env (λ v. back (Plain v))
stmt_step (Stmt-F.ReturnItem entries) env after back = displayed_from entries [] None env back
stmt_step (Stmt-F.Assign name e) env after back = reading e env (λ v. after (with_local name v env))
stmt_step (Stmt-F.Change name op e) env after back =
    valued (named name) env (λ old. reading e env (λ v.
    computed (of_two (changing op) old v) env (λ new. after (with_local name new env))))
stmt_step (Stmt-F.If arms other) env after back = arms_from arms other env.line env after back
stmt_step (Stmt-F.For name over body) env after back =
    reading over env (λ v. items_or_fault (items_of v) env (λ items.
    looped_from name body items (env.line + 1) env after back))

-- an arm: its test, and its statements
abbrev pub arm_step : IfArm-F Done (IfArm × ArmDoing) → ArmDoing
arm_step arm = (reading arm.test, arm.body)

-- how a statement is done
abbrev pub doing : Stmt → Doing
doing = para-Stmt Doing ArmDoing stmt_step arm_step

-- a statement, with how it is done
abbrev pub done_by : Stmt → Done
done_by s = (s, doing s)

-- The statements of a formula, from its first line on. A body that comes to its end returns None.
abbrev pub body_done : List Stmt → Env → (Returned → Run) → Run
body_done body env back = done_from (map done_by body) (first_line body) env (λ e. back (Plain Nothing)) back
