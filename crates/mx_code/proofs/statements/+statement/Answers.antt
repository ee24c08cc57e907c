use Rattle.std.proofs.Common.{false, ◌≡◌, ◌+◌, ◌-◌, ◌^◌, min, ◌∷◌, [], ◌++◌, List, Some, None, refl, ap, sym, ◌∙◌, subst, reverse, drop, map, length, arith, append-nil}
use Rattle.std.specs.Prelude.{OnOk}
use Rattle.std.proofs.lemmas.List.{length-reverse}
use Rattle.mx_syntax.specs.declared.stmt.Stmt.{Stmt}
use Rattle.mx_syntax.specs.declared.stmt.Stmt.TheVariants as made
use Rattle.mx_syntax.specs.declared.stmt.IfArm.{IfArm, out-IfArm}
use Rattle.mx_syntax.specs.Heights.{height, arm_height, arms_height}
use Rattle.mx_syntax.specs.declared.stmt.ItemEntry.{ItemEntry}
use Rattle.mx_code.specs.declared.action.Instr.{Instr}
use Rattle.mx_code.specs.declared.action.Action.TheVariants as act
use Rattle.mx_code.specs.Names.{place_of}
use Rattle.mx_code.specs.Operators.{change_op}
use Rattle.mx_code.specs.Expressions.{at, expr_code, name_code}
use Rattle.mx_code.specs.Statements.{store_action, display_code, coded, body_code, branches_code, turns_code, loop_code}
use Rattle.mx_code.specs.Parts.{arm_coded}
use Rattle.mx_code.proofs.Putting.{in_front, one_more}
use Rattle.mx_code.proofs.Stacking.{code-pass, code-return, code-item, code-assign, code-change, code-if, code-for, as_stmt, choice_put, sum_more, counted_on, body_more, branch_more}
use Rattle.mx_code.proofs.statements.+statement.Goals as goal

pub put_stmt-returns-in-Pass : goal.put_stmt-returns-in-Pass
put_stmt-returns-in-Pass t c = ap (λ is. is ++ reverse c.args.code.now.items) (as_stmt c.args.stmt.now made.Pass _ c.args.scope.now c.args.line c.in-Pass.is code-pass)

pub put_stmt-returns-in-Return : goal.put_stmt-returns-in-Return
put_stmt-returns-in-Return t c =
    subst (λ is. OnOk c.put_return.result (reverse c.put_return.new.code.items ≡ is ++ reverse c.args.code.now.items))
    (as_stmt c.args.stmt.now (made.Return c.in-Return.value) _ c.args.scope.now c.args.line c.in-Return.is (code-return c.in-Return.value)) c.put_return.ensures

pub put_stmt-returns-in-ReturnItem : goal.put_stmt-returns-in-ReturnItem
put_stmt-returns-in-ReturnItem t c =
    subst (λ is. OnOk c.put_display.result (reverse c.put_display.new.code.items ≡ is ++ reverse c.args.code.now.items))
    (ap (λ (es : List ItemEntry). display_code es c.args.scope.now c.args.line) c.as_slice.ensures ∙ as_stmt c.args.stmt.now (made.ReturnItem c.in-ReturnItem.entries) _ c.args.scope.now c.args.line c.in-ReturnItem.is (code-item c.in-ReturnItem.entries)) c.put_display.ensures

pub put_stmt-returns-in_ok-put-in-For : goal.put_stmt-returns-in_ok-put-in-For
put_stmt-returns-in_ok-put-in-For t c =
    let rest = reverse c.args.code.now.items in
    let scope = c.args.scope.now in
    let line = c.args.line in
    let name = c.in-For.name in
    let over = c.in-For.over in
    let body = c.in-For.body in
    let inner = body_code (map coded body) scope (line + 1) in
    let turns = turns_code (place_of scope name) line inner in
    let first : reverse c.put_body-in-For.new.code.items ≡ inner = c.in_ok-put_body-in-For.ensures ∙ ap (λ (b : List Stmt). body_code (map coded b) scope c.in_ok-inner-in-For.inner ++ reverse c.new-turns.result.items) c.as_slice-in-For.ensures
    ∙ ap (λ n. body_code (map coded body) scope n ++ reverse c.new-turns.result.items) (c.in_ok-inner-in-For.ensures 1 refl) ∙ ap (λ (xs : List Instr). inner ++ reverse xs) c.new-turns.ensures.items ∙ append-nil inner in
    let second : reverse c.put_turns.new.code.items ≡ turns ++ rest = c.in_ok-put_turns-in-For.ensures ∙ ap (λ is. turns_code (place_of scope name) line is ++ rest) first in
    let third : reverse c.put-in-For.new.code.items ≡ (at line act.Iterate ∷ turns) ++ rest = c.in_ok-put-in-For.ensures ∙ ap (λ is. at line act.Iterate ∷ is) second in
    subst (λ is. OnOk c.put_part-in-For.result (reverse c.put_part-in-For.new.code.items ≡ is))
    (in_front (expr_code over scope line) (at line act.Iterate ∷ turns) (reverse c.put-in-For.new.code.items) rest third
    ∙ ap (λ is. is ++ rest) (as_stmt c.args.stmt.now (made.For name over body) (loop_code name over (map coded body)) scope line c.in-For.is (code-for name over body)))
    c.put_part-in-For.ensures

pub put_stmt-returns-in-Assign : goal.put_stmt-returns-in-Assign
put_stmt-returns-in-Assign t c =
    subst (λ is. OnOk c.put_assign.result (reverse c.put_assign.new.code.items ≡ is ++ reverse c.args.code.now.items))
    (as_stmt c.args.stmt.now (made.Assign c.in-Assign.name c.in-Assign.value) _ c.args.scope.now c.args.line c.in-Assign.is (code-assign c.in-Assign.name c.in-Assign.value)) c.put_assign.ensures

pub put_stmt-returns-in_ok-put_part-in-Change : goal.put_stmt-returns-in_ok-put_part-in-Change
put_stmt-returns-in_ok-put_part-in-Change t c =
    let rest = reverse c.args.code.now.items in
    let scope = c.args.scope.now in
    let line = c.args.line in
    let store = at line (store_action (place_of scope c.in-Change.name)) in
    let change = at line (act.Binary (change_op c.in-Change.op)) in
    let value = expr_code c.in-Change.value scope line in
    let name = name_code c.in-Change.name false scope line in
    subst (λ is. OnOk c.put_name.result (reverse c.put_name.new.code.items ≡ is))
    (in_front name (value ++ (change ∷ store ∷ [])) (reverse c.put_part.new.code.items) rest
    (c.in_ok-put_part-in-Change.ensures ∙ in_front value (change ∷ store ∷ []) (reverse c.put.new.code.items) rest (c.in_ok-put-in-Change.ensures ∙ ap (λ o. at line (act.Binary o) ∷ reverse c.put_store.new.code.items) c.changing.ensures ∙ ap (λ is. change ∷ is) c.in_ok-put_store-in-Change.ensures))
    ∙ ap (λ is. is ++ rest) (as_stmt c.args.stmt.now (made.Change c.in-Change.name c.in-Change.op c.in-Change.value) _ scope line c.in-Change.is (code-change c.in-Change.name c.in-Change.op c.in-Change.value)))
    c.put_name.ensures

pub put_body-loop-i-preserved : goal.put_body-loop-i-preserved
put_body-loop-i-preserved t c =
    let next : c.loop-i.i ≡ (c.loop-i.i - 1) + 1 = omega (arith, c.loop-i-test.true) in
    let more = sum_more height c.args.body.now c.loop-i.i (c.loop-i.i - 1) c.index-body-i.result next c.loop-i.auto.i c.index-body-i.is in
    let from = counted_on c.loop-i.below c.args.line _ _ _ c.loop-i.invariant.0 more in
    let here = c.line_above-below.ensures _ _ from c.height.ensures in (
      here,
      body_more c.args.body.now c.loop-i.i (c.loop-i.i - 1) c.index-body-i.result c.args.scope.now c.loop-i.below c.line_above-below.result c.args.code.now.items c.loop-i.code.items c.put_stmt.new.code.items
          (one_more c.args.body.now c.loop-i.i (c.loop-i.i - 1) c.index-body-i.result next c.loop-i.auto.i c.index-body-i.is) (from ∙ ap (λ n. n + height c.index-body-i.result) (sym here)) c.loop-i.invariant.1 c.in_ok-put_stmt.ensures,
    )

pub put_branches-loop-i-preserved : goal.put_branches-loop-i-preserved
put_branches-loop-i-preserved t c =
    let next : c.loop-i.i ≡ (c.loop-i.i - 1) + 1 = omega (arith, c.loop-i-test.true) in
    let more = sum_more arm_height c.args.arms.now c.loop-i.i (c.loop-i.i - 1) c.index-arms-i.result next c.loop-i.auto.i c.index-arms-i.is in
    let from = counted_on c.loop-i.head c.args.line _ _ _ c.loop-i.invariant.0 more in
    let here = c.line_above-head.ensures _ _ from c.arm_height.ensures in (
      here,
      λ other below e k.
          let arm = c.index-arms-i.result in
          let line = c.line_above-head.result in
          let inner = c.in_ok-put_body.ensures ∙ ap (λ (b : List Stmt). body_code (map coded b) c.args.scope.now c.in_ok-line_below.field-0 ++ reverse c.put.new.code.items) c.as_slice.ensures
          ∙ ap (λ n. body_code (map coded (out-IfArm arm).body) c.args.scope.now n ++ reverse c.put.new.code.items) (c.in_ok-line_below.ensures 1 refl) in
          branch_more c.args.arms.now c.loop-i.i (c.loop-i.i - 1) arm c.args.scope.now c.loop-i.head line other below c.put_part.new.code.items
          (one_more c.args.arms.now c.loop-i.i (c.loop-i.i - 1) arm next c.loop-i.auto.i c.index-arms-i.is) (from ∙ ap (λ n. n + arm_height arm) (sym here))
          (choice_put line c.since-other.result c.since-given.result c.args.end (expr_code (out-IfArm arm).test c.args.scope.now line) (body_code (map coded (out-IfArm arm).body) c.args.scope.now (line + 1)) (branches_code (map arm_coded (drop c.loop-i.i c.args.arms.now)) other c.args.scope.now c.loop-i.head) below
          c.loop-i.code.items c.put.new.code.items c.put_body.new.code.items c.put-in-loop-i.new.code.items c.put_part.new.code.items k (c.loop-i.invariant.1 other below e k)
          c.since-other.ensures c.in_ok-put.ensures inner (omega (arith, c.since-given.ensures, c.len-below.ensures)) c.in_ok-put-2.ensures c.in_ok-put_part.ensures),
    )

pub put_stmt-returns-in-None : goal.put_stmt-returns-in-None
put_stmt-returns-in-None t c =
    let rest = reverse c.args.code.now.items in
    let long : length rest ≡ c.len-end.result = length-reverse c.args.code.now.items ∙ omega (arith, c.len-end.ensures) in
    subst (λ is. OnOk c.put_branches.result (reverse c.put_branches.new.code.items ≡ is ++ rest))
    (ap (λ (as_ : List IfArm). branches_code (map arm_coded as_) None c.args.scope.now c.args.line) c.as_slice-in-None.ensures
    ∙ as_stmt c.args.stmt.now (made.If c.in-If.arms None) _ c.args.scope.now c.args.line (c.in-If.is ∙ ap (made.If c.in-If.arms) c.in-None.is) (code-if c.in-If.arms None))
    (c.put_branches.ensures None rest refl long)

pub put_stmt-returns-in_ok-put_body-in-Some : goal.put_stmt-returns-in_ok-put_body-in-Some
put_stmt-returns-in_ok-put_body-in-Some t c =
    let rest = reverse c.args.code.now.items in
    let scope = c.args.scope.now in
    let arms = c.in-If.arms in
    let long : length rest ≡ c.len-end.result = length-reverse c.args.code.now.items ∙ omega (arith, c.len-end.ensures) in
    let head : c.in_ok-head-in-Some.head ≡ c.args.line + arms_height arms = c.in_ok-head-in-Some.ensures (arms_height arms) (c.arms_height.ensures ∙ ap (λ (as_ : List IfArm). min (arms_height as_) (2 ^ 32 - 1)) c.as_slice-in-Some.ensures) in
    let place : c.in_ok-line_below-in-Some.field-0 ≡ c.args.line + arms_height arms + 1 = c.in_ok-line_below-in-Some.ensures 1 refl ∙ ap (λ n. n + 1) head in
    let put = c.in_ok-put_body-in-Some.ensures ∙ ap (λ (b : List Stmt). body_code (map coded b) scope c.in_ok-line_below-in-Some.field-0 ++ rest) c.as_slice-in-Some-2.ensures
    ∙ ap (λ n. body_code (map coded c.in-Some.body) scope n ++ rest) place
    ∙ ap (λ (as_ : List IfArm). body_code (map coded c.in-Some.body) scope (c.args.line + arms_height as_ + 1) ++ rest) (sym c.as_slice-in-Some-3.ensures) in
    subst (λ is. OnOk c.put_branches-in-Some.result (reverse c.put_branches-in-Some.new.code.items ≡ is ++ rest))
    (ap (λ (as_ : List IfArm). branches_code (map arm_coded as_) (Some (map coded c.in-Some.body)) scope c.args.line) c.as_slice-in-Some-3.ensures
    ∙ as_stmt c.args.stmt.now (made.If arms (Some c.in-Some.body)) _ scope c.args.line (c.in-If.is ∙ ap (made.If arms) c.in-Some.is) (code-if arms (Some c.in-Some.body)))
    (c.put_branches-in-Some.ensures (Some (map coded c.in-Some.body)) rest put long)
