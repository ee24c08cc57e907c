use Rattle.std.proofs.Common.{◌≡◌, true, ◌∙◌}
use Rattle.mx_retain.proofs.Changed.{adds_none, adds_one}
use Rattle.mx_retain.proofs.inputs.add_one.Goals as goal

pub returns-then-is_same : goal.returns-then-is_same
returns-then-is_same c = adds_none c.args.before.now c.args.after.now c.key_laws.ensures c.args.node.now c.args.nodes.now.items (c.is_same.ensures.0 c.if-is_same.true)

pub returns : goal.returns
returns c =
    adds_one c.args.before.now c.args.after.now c.key_laws.ensures c.args.node.now c.in_ok-new.field-0 c.args.nodes.now.items c.push.new.self.items
    (λ s. let t : c.is_same.result ≡ true = c.is_same.ensures.1 s in let f = c.if-is_same.false in cc)
    (c.in_ok-new.ensures ∙ c.in_ok-copy.ensures) c.in_ok-push.ensures.items
