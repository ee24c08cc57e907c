use Rattle.std.proofs.Common.{◌≡◌, List, Option, Some, map, refl, sym, ap, ◌∙◌, subst}
use Rattle.std.specs.Prelude.{OnOk}
use Rattle.mx_syntax.specs.declared.stmt.Stmt.{Stmt}
use Rattle.mx_syntax.specs.declared.stmt.Stmt.TheVariants as made
use Rattle.mx_syntax.specs.declared.stmt.IfArm.{IfArm}
use Rattle.mx_syntax.specs.Lists.{flat}
use Rattle.mx_syntax.specs.Locals.{Name, add_all, bound_by, arm_bound}
use Rattle.mx_syntax.proofs.LocalLemmas.{add_flat_more, add_all_append, arm_is, if_else_is}
use Rattle.mx_syntax.proofs.locals.+locals.Goals as goal

pub add_arms-loop-arm-preserved : goal.add_arms-loop-arm-preserved
add_arms-loop-arm-preserved t c =
    let more = add_flat_more arm_bound c.args.names.now.items c.args.arms.now c.loop-arm.arm-index c.arm-item.result c.loop-arm-test.true c.arm-item.is in
    let here = arm_is c.arm-item.result in
    rw (← more, here, c.in_ok-add_body.ensures, c.as_slice.ensures, c.loop-arm.invariant) refl

pub add_body-loop-stmt-preserved : goal.add_body-loop-stmt-preserved
add_body-loop-stmt-preserved t c = rw (c.in_ok-add_bound.ensures, c.loop-stmt.invariant) (add_flat_more bound_by c.args.names.now.items c.args.body.now c.loop-stmt.stmt-index c.stmt-item.result c.loop-stmt-test.true c.stmt-item.is)

both : (stmt : Stmt) (arms : List IfArm) (other : Option (List Stmt)) (body : List Stmt) (names between : List Name)
    → stmt ≡ made.If arms other → other ≡ Some body → between ≡ add_all names (flat (map arm_bound arms)) → add_all between (flat (map bound_by body)) ≡ add_all names (bound_by stmt)
both stmt arms other body names between is some here =
    ap (λ (ns : List Name). add_all ns (flat (map bound_by body))) here ∙ sym (add_all_append names (flat (map arm_bound arms)) (flat (map bound_by body)))
    ∙ ap (λ (ns : List Name). add_all names ns) (sym (ap bound_by (is ∙ ap (λ (o : Option (List Stmt)). made.If arms o) some) ∙ if_else_is arms body))

pub add_bound-returns-in-Some : goal.add_bound-returns-in-Some
add_bound-returns-in-Some t c =
    let here : c.add_arms.new.names.items ≡ add_all c.args.names.now.items (flat (map arm_bound c.in-If.arms)) = c.in_ok-add_arms-in-If.ensures ∙ ap (λ (arms : List IfArm). add_all c.args.names.now.items (flat (map arm_bound arms))) c.as_slice.ensures in
    subst (λ (ns : List Name). OnOk c.add_body.result (c.add_body.new.names.items ≡ ns))
    (ap (λ (body : List Stmt). add_all c.add_arms.new.names.items (flat (map bound_by body))) c.as_slice-in-Some.ensures ∙ both c.args.stmt.now c.in-If.arms c.in-If.other c.in-Some.body c.args.names.now.items c.add_arms.new.names.items c.in-If.is c.in-Some.is here)
    c.add_body.ensures
