use Rattle.std.proofs.Common.{◌∙◌, ◌-◌, ap, subst}
use Rattle.mx_value.specs.declared.node.Node.{Node}
use Rattle.mx_edit.specs.declared.reply.Reply.{Reply}
use Rattle.mx_state.specs.Model.{model_of}
use Rattle.mx_frames.specs.Known.{IsFound, IsKnownAs}
use Rattle.mx_frames.specs.declared.known.Known.{Known}
use Rattle.mx_machine.specs.Closing.{HasClosed}
use Rattle.mx_machine.specs.Settings.{evaluation_of}
use Rattle.mx_machine.proofs.Answered.{closed_input, closed_held}
use Rattle.mx_machine.proofs.evaluating.evaluate.Goals as goal

pub returns-in-Input-clause-closed : goal.returns-in-Input-clause-closed
returns-in-Input-clause-closed g c =
    closed_input c.args.setting.now.world.now c.args.memo.now c.requires.kept c.args.setting.now.limit c.args.node c.args.steps.now c.in-Input.reply c.in_ok-copy-in-Input.field-0
    (subst (λ (k : Known). IsKnownAs (model_of c.args.setting.now.world.now) c.args.memo.now c.args.node k) c.in-Input.is
    (subst (λ (n : Node). IsKnownAs (model_of c.args.setting.now.world.now) c.args.memo.now n c.in_ok-reply.field-0) c.in_ok-node.ensures c.in_ok-reply.ensures))
    (c.in_ok-copy-in-Input.ensures ∙ ap (λ (r : Reply). r.value) c.get.ensures)

pub returns-in-Held-clause-closed : goal.returns-in-Held-clause-closed
returns-in-Held-clause-closed g c =
    let f : IsFound c.args.memo.now.held c.args.node c.in-Held.found = subst (λ (k : Known). IsKnownAs (model_of c.args.setting.now.world.now) c.args.memo.now c.args.node k) c.in-Held.is
    (subst (λ (n : Node). IsKnownAs (model_of c.args.setting.now.world.now) c.args.memo.now n c.in_ok-reply.field-0) c.in_ok-node.ensures c.in_ok-reply.ensures) in
    closed_held c.args.setting.now.world.now c.args.memo.now c.requires.kept c.args.setting.now.limit c.args.node c.args.steps.now c.in-Held.found.id.at c.in-Held.found.reply c.in_ok-copy-in-Held.field-0 f.gives
    (c.in_ok-copy-in-Held.ensures ∙ ap (λ (r : Reply). r.value) c.get-in-Held.ensures)

pub returns-in-New-clause-closed : goal.returns-in-New-clause-closed
returns-in-New-clause-closed g c =
    subst (λ (n : Node). HasClosed (model_of c.args.setting.now.world.now) (evaluation_of n c.args.memo.now c.args.setting.now.limit) c.evaluate_new.new.memo (c.evaluate_new.new.steps - c.args.steps.now) c.evaluate_new.result)
    c.in_ok-node.ensures c.evaluate_new.ensures.closed
