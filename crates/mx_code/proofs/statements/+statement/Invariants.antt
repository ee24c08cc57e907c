use Rattle.std.proofs.Common.{◌≡◌, ◌+◌, List, ◌++◌, Option, map, take, drop, reverse, length}
use Rattle.mx_syntax.specs.declared.stmt.Stmt.{Stmt}
use Rattle.mx_syntax.specs.Heights.{body_height, arms_height}
use Rattle.mx_code.specs.declared.action.Instr.{Instr}
use Rattle.mx_code.specs.Expressions.{Coded}
use Rattle.mx_code.specs.Statements.{body_code, other_code, branches_code, coded}
use Rattle.mx_code.specs.Parts.{arm_coded}
use Rattle.mx_code.proofs.statements.+statement.Given as goal

abbrev pub invariant-put_body-loop-i : goal.invariant-put_body-loop-i
invariant-put_body-loop-i l = (l.below ≡ l.line + body_height (take l.i l.body)) × (reverse l.code.items ≡ body_code (map coded (drop l.i l.body)) l.scope l.below ++ reverse l.fn.code.items)

abbrev pub invariant-put_branches-loop-i : goal.invariant-put_branches-loop-i
invariant-put_branches-loop-i l = (l.head ≡ l.line + arms_height (take l.i l.arms)) × ((other : Option (List (Stmt × Coded))) (below : List Instr) → reverse l.fn.code.items ≡ other_code other l.scope (l.line + arms_height l.arms) ++ below → length below ≡ l.end → reverse l.code.items ≡ branches_code (map arm_coded (drop l.i l.arms)) other l.scope l.head ++ below)
