-- The loops of a statement by those of its parts.
use Rattle.std.proofs.Common.{◌≡◌, ℕ, ◌+◌, ◌-◌, ◌<◌, Bool, true, nat_le, max, List, map, Option, Some, None, sym, ap, ◌∙◌, arith}
use Rattle.mx_syntax.specs.declared.expr.Expr.{Expr}
use Rattle.mx_syntax.specs.declared.stmt.Stmt.{Stmt, fold-roll-Stmt}
use Rattle.mx_syntax.specs.declared.stmt.Stmt.TheVariants as made
use Rattle.mx_syntax.specs.declared.stmt.Stmt.TheOpen.{Stmt-F}
use Rattle.mx_syntax.specs.declared.stmt.IfArm.{IfArm, out-IfArm, fold_out-IfArm}
use Rattle.mx_syntax.specs.declared.stmt.ItemEntry.{ItemEntry}
use Rattle.mx_expression.specs.Loops.{greatest, loops_in}
use Rattle.mx_parse.specs.FewLoops.{few}
use Rattle.mx_parse.specs.FormulaLimits.{entry_loops, stmt_step, if_arm_step, loops, if_arm_loops}
use Rattle.mx_parse.proofs.FewLoops.{le_true, le_both, le_greatest, le_loop}

pub item_is : (x : Stmt) (entries : List ItemEntry) → x ≡ made.ReturnItem entries → loops x ≡ greatest (map entry_loops entries)
item_is x entries is = ap loops (is ∙ sym (made.rolls-ReturnItem entries)) ∙ fold-roll-Stmt ℕ ℕ stmt_step if_arm_step (Stmt-F.ReturnItem entries)

some_is : (x : Stmt) (arms : List IfArm) (body : List Stmt) → x ≡ made.If arms (Some body) → loops x ≡ max (greatest (map if_arm_loops arms)) (greatest (map loops body))
some_is x arms body is = ap loops (is ∙ sym (made.rolls-If arms (Some body))) ∙ fold-roll-Stmt ℕ ℕ stmt_step if_arm_step (Stmt-F.If arms (Some body))

none_is : (x : Stmt) (arms : List IfArm) → x ≡ made.If arms None → loops x ≡ max (greatest (map if_arm_loops arms)) 0
none_is x arms is = ap loops (is ∙ sym (made.rolls-If arms None)) ∙ fold-roll-Stmt ℕ ℕ stmt_step if_arm_step (Stmt-F.If arms None)

pub if_is : (x : Stmt) (arms : List IfArm) (other : Option (List Stmt)) → x ≡ made.If arms other → (b : ℕ) × (loops x ≡ max (greatest (map if_arm_loops arms)) b)
if_is x arms (Some body) is = (greatest (map loops body), some_is x arms body is)
if_is x arms None is = (0, none_is x arms is)

pub if_some_is : (x : Stmt) (arms : List IfArm) (other : Option (List Stmt)) (body : List Stmt) → x ≡ made.If arms other → other ≡ Some body → loops x ≡ max (greatest (map if_arm_loops arms)) (greatest (map loops body))
if_some_is x arms other body is some = some_is x arms body (is ∙ ap (λ (o : Option (List Stmt)). made.If arms o) some)

pub if_none_is : (x : Stmt) (arms : List IfArm) (other : Option (List Stmt)) → x ≡ made.If arms other → other ≡ None → loops x ≡ max (greatest (map if_arm_loops arms)) 0
if_none_is x arms other is none = none_is x arms (is ∙ ap (λ (o : Option (List Stmt)). made.If arms o) none)

pub for_is : (x : Stmt) (name : List ℕ) (over : Expr) (body : List Stmt) → x ≡ made.For name over body → loops x ≡ max (loops_in over) (greatest (map loops body) + 1)
for_is x name over body is = ap loops (is ∙ sym (made.rolls-For name over body)) ∙ fold-roll-Stmt ℕ ℕ stmt_step if_arm_step (Stmt-F.For name over body)

pub arm_is : (arm : IfArm) → if_arm_loops arm ≡ max (loops_in (out-IfArm arm).test) (greatest (map loops (out-IfArm arm).body))
arm_is arm = fold_out-IfArm ℕ ℕ stmt_step if_arm_step arm

-- ---- what the code answers

-- a list, and then another
pub lists : (ns ms : List ℕ) (n most : ℕ) (r : Bool) → n ≡ max (greatest ns) (greatest ms) → few most ns ≡ true → r ≡ few most ms → r ≡ nat_le n most
lists ns ms n most r is held h = h ∙ sym (le_greatest ms most) ∙ sym (le_both (greatest ns) (greatest ms) most (le_greatest ns most ∙ held)) ∙ ap (λ (k : ℕ). nat_le k most) (sym is)

pub list_alone : (ns : List ℕ) (n most : ℕ) → n ≡ max (greatest ns) 0 → few most ns ≡ true → true ≡ nat_le n most
list_alone ns n most is held = sym (le_true 0 most (omega arith)) ∙ sym (le_both (greatest ns) 0 most (le_greatest ns most ∙ held)) ∙ ap (λ (k : ℕ). nat_le k most) (sym is)

-- a part, and then the body of a loop
pub loop_body : (a : ℕ) (ns : List ℕ) (n most : ℕ) (r : Bool) → n ≡ max a (greatest ns + 1) → 0 < most → nat_le a most ≡ true → r ≡ few (most - 1) ns → r ≡ nat_le n most
loop_body a ns n most r is some held h = h ∙ sym (le_greatest ns (most - 1)) ∙ sym (le_loop (greatest ns) most some) ∙ sym (le_both a (greatest ns + 1) most held) ∙ ap (λ (k : ℕ). nat_le k most) (sym is)
