use Rattle.std.proofs.Common.{◌≡◌, ◌∙◌, false, List, length, sym, ap}
use Rattle.mx_value.specs.declared.value.Value.{Value}
use Rattle.mx_syntax.specs.declared.stmt.Param.{Param}
use Rattle.mx_syntax.specs.declared.stmt.Params.{Params}
use Rattle.mx_syntax.specs.Binding.{bound, is_wrong_count}
use Rattle.mx_meaning.specs.Nodes.{arguments_of}
use Rattle.mx_code.specs.Statements.{body_of, size_of}
use Rattle.mx_state.specs.Model.{model_of}
use Rattle.mx_node_runs.proofs.Beginning.{enters, in_full, right, wrong}
use Rattle.mx_node_runs.proofs.Halting.{of_both}
use Rattle.mx_node_runs.proofs.Formulas.{item_runs, item_too_large, item_unbound}
use Rattle.mx_node_runs.proofs.items.make_item.Goals as goal

pub returns-then-not-is_allowed : goal.returns-then-not-is_allowed
returns-then-not-is_allowed c =
    let a = c.args.arrived in
    let p = c.args.compiled.now in
    let ps : c.as_slice-params.result.now ≡ p.params = c.as_slice-params.ensures ∙ ap (λ (x : Params). x.params) c.params.ensures in
    let count : is_wrong_count p.params (length a.arguments.now) ≡ false = right p.params c.as_slice-params.result.now a.arguments.now c.in_ok-copy_items.field-0 c.bind.result ps c.in_ok-copy_items.ensures c.bind.ensures.wrong_count c.in-Ok.full c.in-Ok.is in
    let full : c.in-Ok.full ≡ bound p.params a.arguments.now = in_full p.params c.as_slice-params.result.now a.arguments.now c.in_ok-copy_items.field-0 c.bind.result ps c.in_ok-copy_items.ensures c.bind.ensures.wrong_count c.in-Ok.full c.in-Ok.ensures.full in
    item_too_large (model_of c.args.world.now) a.node.now a.space a.arguments.now p.params p.body c.args.seen.now c.args.stack.now c.in-Ok.full count full (sym c.is_allowed.ensures ∙ c.if-not-is_allowed.true)

pub returns-in-Ok : goal.returns-in-Ok
returns-in-Ok c =
    let a = c.args.arrived in
    let p = c.args.compiled.now in
    let ps : c.as_slice-params.result.now ≡ p.params = c.as_slice-params.ensures ∙ ap (λ (x : Params). x.params) c.params.ensures in
    let count : is_wrong_count p.params (length a.arguments.now) ≡ false = right p.params c.as_slice-params.result.now a.arguments.now c.in_ok-copy_items.field-0 c.bind.result ps c.in_ok-copy_items.ensures c.bind.ensures.wrong_count c.in-Ok.full c.in-Ok.is in
    let full : c.in-Ok.full ≡ bound p.params a.arguments.now = in_full p.params c.as_slice-params.result.now a.arguments.now c.in_ok-copy_items.field-0 c.bind.result ps c.in_ok-copy_items.ensures c.bind.ensures.wrong_count c.in-Ok.full c.in-Ok.ensures.full in
    let given : c.in_ok-given-in-Ok.given ≡ arguments_of p.params c.in-Ok.full =
    c.in_ok-given-in-Ok.ensures ∙ ap (λ (x : List Param). arguments_of x c.as_slice-in-Ok.result.now) ps ∙ ap (λ (x : List Value). arguments_of p.params x) c.as_slice-in-Ok.ensures in
    let at_code = enters c.code.result.now.size (size_of p.params (body_of p.body)) c.as_slice.result.now c.in-Ok.full c.args.stack.now c.enter.new.self c.in_ok-enter-in-Ok.ensures c.code.ensures.size c.as_slice.ensures in
    of_both c.proceed.result c.proceed.ensures.halts c.proceed.ensures.below (λ at on below.
    item_runs (model_of c.args.world.now) a.node.now a.space a.arguments.now p.params p.body c.args.seen.now c.args.stack.now c.enter.new.self c.proceed.new.stack c.in_ok-copy-in-Ok.field-0 c.in_ok-home-in-Ok.home c.in-Ok.full c.in_ok-given-in-Ok.given
    c.in_ok-share_code-in-Ok.field-0 c.proceed.new.seen at c.in_ok-home-in-Ok.ensures c.in_ok-copy-in-Ok.ensures count full (sym c.is_allowed.ensures ∙ c.if-not-is_allowed.false) given at_code c.in_ok-share_code-in-Ok.ensures.0 on below)

pub returns-in-Err-WrongCount : goal.returns-in-Err-WrongCount
returns-in-Err-WrongCount c =
    let a = c.args.arrived in
    let p = c.args.compiled.now in
    let ps : c.as_slice-params.result.now ≡ p.params = c.as_slice-params.ensures ∙ ap (λ (x : Params). x.params) c.params.ensures in
    item_unbound (model_of c.args.world.now) a.node.now a.space a.arguments.now p.params p.body c.args.seen.now c.args.stack.now
    (wrong p.params c.as_slice-params.result.now a.arguments.now c.in_ok-copy_items.field-0 c.bind.result ps c.in_ok-copy_items.ensures c.bind.ensures.wrong_count c.in-Err-WrongCount.field-0 c.in-Err-WrongCount.is c.in-Err-WrongCount.field-0-is)
