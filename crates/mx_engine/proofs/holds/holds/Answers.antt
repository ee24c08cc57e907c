use Rattle.std.proofs.Common.{◌-◌, ◌<◌, ◌∙◌, sym, ap, refl, arith}
use Rattle.mx_value.specs.Equality.{node_eq}
use Rattle.mx_value.specs.declared.node.Node.{Node}
use Rattle.mx_engine.proofs.Sought.{is_later, is_given, none_further, is_found, none_yet}
use Rattle.mx_engine.proofs.holds.holds.Goals as goal

pub loop-id-init : goal.loop-id-init
loop-id-init c = none_yet c.args.memo.now c.args.node.now c.requires

pub returns-then-eq : goal.returns-then-eq
returns-then-eq c = (
  λ t.
      is_found c.args.memo.now c.requires c.args.node.now c.loop-id.seen c.in-Some.id.at c.in-Some-stamp.stamp c.in-Some-body.body.now c.in-Some.ensures c.in-Some-body.ensures c.in-Some-stamp.ensures
      c.laws.ensures.held_is_entered (ap (λ (n : Node). node_eq n c.args.node.now) (sym c.get.ensures) ∙ sym c.eq.ensures ∙ c.if-eq.true),
  λ h. refl,
)

pub loop-id-smaller : goal.loop-id-smaller
loop-id-smaller c =
    let later = is_later c.args.memo.now c.requires c.args.node.now c.loop-id.seen c.in-Some.id.at c.in-Some-stamp.stamp c.in-Some-body.body.now c.in-Some.ensures c.in-Some-body.ensures c.in-Some-stamp.ensures in
    let given = is_given c.args.memo.now c.requires c.args.node.now c.loop-id.seen c.in-Some.id.at c.in-Some-stamp.stamp c.in-Some-body.body.now c.in-Some.ensures c.in-Some-body.ensures c.in-Some-stamp.ensures in
    let less : c.args.memo.now.last - c.in-Some-stamp.stamp < c.args.memo.now.last - c.loop-id.seen = omega (arith, later, given) in
    less

pub loop-id-preserved : goal.loop-id-preserved
loop-id-preserved c =
    none_further c.args.memo.now c.requires c.args.node.now c.loop-id.seen c.in-Some.id.at c.in-Some-stamp.stamp c.in-Some-body.body.now c.in-Some.ensures c.in-Some-body.ensures c.in-Some-stamp.ensures
    c.loop-id.invariant (ap (λ (n : Node). node_eq n c.args.node.now) (sym c.get.ensures) ∙ sym c.eq.ensures ∙ c.if-eq.false)
