use Rattle.std.proofs.Common.{◌≡◌, ℕ, List, ◌∷◌, ◌++◌, map, sym, ap, ◌∙◌, subst}
use Rattle.std.specs.Prelude.{OnOk, codes}
use Rattle.mx_syntax.specs.declared.stmt.Stmt.{Stmt}
use Rattle.mx_syntax.specs.declared.stmt.IfArm.{IfArm}
use Rattle.mx_print.specs.Texts.{Text}
use Rattle.mx_print.specs.Statements.{stmt_lines, arm_lines, if_lines, lines_text, body_lines, block}
use Rattle.mx_print.proofs.StatementLemmas.{block_deeper, body_more, arms_more, if_else_whole, for_whole}
use Rattle.mx_print.proofs.statement.+statements.Goals as goal

pub push_body-loop-stmt-preserved : goal.push_body-loop-stmt-preserved
push_body-loop-stmt-preserved g t c = rw (c.in_ok-push_stmt.ensures, c.loop-stmt.invariant) (body_more c.args.depth (g.S.Sink.written c.args.out.now) c.args.body.now c.loop-stmt.stmt-index c.stmt-item.result c.loop-stmt-test.true c.stmt-item.is)

pub push_arms-loop-i-preserved : goal.push_arms-loop-i-preserved
push_arms-loop-i-preserved g t c = rw (c.in_ok-push_arm.ensures, c.loop-i.invariant) (arms_more c.args.depth (g.S.Sink.written c.args.out.now) c.args.arms.now c.loop-i.i c.index-arms-i.result c.loop-i-test.true c.index-arms-i.is)

pub push_block-returns : goal.push_block-returns
push_block-returns g t c =
    subst (λ (u : Text). OnOk c.push_body.result ((g.S.Sink.written c.push_body.new.out) ≡ (g.S.Sink.written c.args.out.now) ++ u))
    (ap (λ (n : ℕ). lines_text n (body_lines c.args.body.now)) c.in-Some.ensures.1 ∙ sym (block_deeper c.args.depth (map stmt_lines c.args.body.now)))
    c.push_body.ensures

pub push_stmt-returns-in_ok-push_for-in-For : goal.push_stmt-returns-in_ok-push_for-in-For
push_stmt-returns-in_ok-push_for-in-For g t c =
    let form = c.in-For in
    subst (λ (u : Text). OnOk c.push_block.result ((g.S.Sink.written c.push_block.new.out) ≡ u))
    (ap (λ (body : List Stmt). (g.S.Sink.written c.push_for.new.out) ++ lines_text c.args.depth (block (map stmt_lines body))) c.as_slice-in-For.ensures
    ∙ for_whole c.args.stmt.now form.name form.over form.body c.args.depth (g.S.Sink.written c.args.out.now) (g.S.Sink.written c.push_for.new.out) form.is c.in_ok-push_for-in-For.ensures)
    c.push_block.ensures

pub push_stmt-returns-in_ok-push_arms-in-Some : goal.push_stmt-returns-in_ok-push_arms-in-Some
push_stmt-returns-in_ok-push_arms-in-Some g t c =
    let form = c.in-If in
    subst (λ (u : Text). OnOk c.push_else.result ((g.S.Sink.written c.push_else.new.out) ≡ u))
    (ap (λ (body : List Stmt). (g.S.Sink.written c.push_arms.new.out) ++ lines_text c.args.depth (codes "else:" ∷ block (map stmt_lines body))) c.as_slice-in-Some-2.ensures
    ∙ if_else_whole c.args.stmt.now form.arms form.other c.in-Some.body c.args.depth (g.S.Sink.written c.args.out.now) (g.S.Sink.written c.push_arms.new.out) form.is c.in-Some.is
    (c.in_ok-push_arms-in-Some.ensures ∙ ap (λ (arms : List IfArm). (g.S.Sink.written c.args.out.now) ++ lines_text c.args.depth (if_lines (map arm_lines arms))) c.as_slice-in-Some.ensures))
    c.push_else.ensures
