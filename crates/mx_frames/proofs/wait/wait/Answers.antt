use Rattle.std.proofs.Common.{◌∙◌, subst, arith}
use Rattle.mx_value.specs.declared.node.Node.{Node}
use Rattle.mx_runs.specs.Lists.{Has}
use Rattle.mx_frames.specs.Flights.{frame_nodes}
use Rattle.mx_frames.specs.Rings.{IsFrom}
use Rattle.mx_frames.proofs.Waiting.{waits_ring, waits_too_deep, waits_on}
use Rattle.mx_frames.proofs.wait.wait.Goals as goal

pub returns-then-is_begun-clause-waited : goal.returns-then-is_begun-clause-waited
returns-then-is_begun-clause-waited c = λ model q m now ends items within s p.
    waits_ring model q m now ends items c.args.runs.now.stack c.args.runs.now.frames.items c.args.current c.args.asked s p
    c.deref.result.now _ c.frames_from.result.now (c.deref.ensures.value ∙ c.in_ok-push_frame.ensures.ok) c.if-is_begun.true
    (subst (λ (n : Node). Has (frame_nodes c.deref.result.now) n → IsFrom (frame_nodes c.deref.result.now) n (frame_nodes c.frames_from.result.now)) c.get.ensures c.frames_from.ensures) c.in_ok-nodes_of.ensures

pub returns-then-saturating_sub-len-clause-waited : goal.returns-then-saturating_sub-len-clause-waited
returns-then-saturating_sub-len-clause-waited c = λ model q m now ends items within s p.
    waits_too_deep model q m now ends items c.args.runs.now.stack c.args.runs.now.frames.items c.args.current c.args.asked s p
    c.push_frame.new.frames.items _ c.args.setting.now.limit c.args.setting.now.below c.in_ok-push_frame.ensures.ok within c.if-is_begun.false (c.in_ok-copy.ensures ∙ c.get-then-saturating_sub-len.ensures)
    (let i = c.saturating_sub.ensures in let j = c.len.ensures in let k = c.if-saturating_sub-len.true in omega (arith, i, j, k))

pub returns-clause-waited : goal.returns-clause-waited
returns-clause-waited c = λ model q m now ends items within s p.
    waits_on model q m now ends items c.args.runs.now.stack c.args.runs.now.frames.items c.args.current c.args.asked s p
    c.push_frame.new.frames.items c.args.setting.now.limit c.args.setting.now.below c.in_ok-push_frame.ensures.ok within c.if-is_begun.false
    (let i = c.saturating_sub.ensures in let j = c.len.ensures in let k = c.if-saturating_sub-len.false in omega (arith, i, j, k))
    c.begin.new.self c.in_ok-begin.ensures
