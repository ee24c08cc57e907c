use Rattle.std.proofs.Common.{refl}
use Rattle.std.proofs.lemmas.List.{nil_from_length}
use Rattle.mx_frames.proofs.HeldLast.{without_own, with_all, with_none}
use Rattle.mx_frames.proofs.hold.other_keys.Goals as goal

pub returns-in_default : goal.returns-in_default
returns-in_default c = with_none c.args.node.now c.args.keys.now (nil_from_length c.args.keys.now c.in_default.ensures.cases)

pub returns-then-is_static : goal.returns-then-is_static
returns-then-is_static c = without_own c.args.node.now c.args.node.now c.in-Some._own.now c.args.keys.now c.in-Some.others.now c.is_static.result c.in-Some.ensures.cases.0 c.is_static.ensures c.if-is_static.true refl

pub returns-else-is_static : goal.returns-else-is_static
returns-else-is_static c = λ own. with_all c.args.node.now c.args.node.now c.args.keys.now c.is_static.result c.is_static.ensures c.if-is_static.false refl
