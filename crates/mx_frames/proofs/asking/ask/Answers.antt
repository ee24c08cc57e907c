use Rattle.std.proofs.Common.{◌≡◌, List, sym, ◌∙◌, ap, subst}
use Rattle.mx_graph.specs.declared.ids.NodeId.{NodeId}
use Rattle.mx_value.specs.declared.node.Node.{Node}
use Rattle.mx_value.specs.declared.read.Read.TheVariants as read
use Rattle.mx_memo.specs.Memos.{AreHeld}
use Rattle.mx_state.specs.Model.{model_of}
use Rattle.mx_memo_laws.proofs.Nodes.{one_under_id}
use Rattle.mx_read_set.specs.Seen.{with_read}
use Rattle.mx_binding.proofs.Recording.{ask_held}
use Rattle.mx_frames.specs.Known.{RepliesInput, GivesHeld, IsFound}
use Rattle.mx_frames.proofs.Asks.{input_answers, held_answers}
use Rattle.mx_frames.proofs.asking.ask.Goals as goal

pub returns-in_ok-ask_input-in-Input-clause-met : goal.returns-in_ok-ask_input-in-Input-clause-met
returns-in_ok-ask_input-in-Input-clause-met c =
    let i : RepliesInput (model_of c.args.world.now) c.args.node.now c.in-Input.reply = rw c.in-Input.is at c.in_ok-reply.ensures in
    input_answers (model_of c.args.world.now) c.args.memo.now c.args.node.now c.args.current.now.records c.ask_input.new.self c.in-Input.reply i c.in_ok-ask_input-in-Input.ensures.seen c.in_ok-ask_input-in-Input.ensures.asks

pub returns-in_ok-ask_input-in-Input-clause-asks : goal.returns-in_ok-ask_input-in-Input-clause-asks
returns-in_ok-ask_input-in-Input-clause-asks c = subst (λ (ids : List NodeId). AreHeld c.args.memo.now.held ids) (sym c.in_ok-ask_input-in-Input.ensures.asks) c.requires.asks

pub returns-in_ok-ask-in-Held-clause-met : goal.returns-in_ok-ask-in-Held-clause-met
returns-in_ok-ask-in-Held-clause-met c =
    let f : IsFound c.args.memo.now.held c.args.node.now c.in-Held.found = rw c.in-Held.is at c.in_ok-reply.ensures in
    let g : GivesHeld c.args.memo.now.held c.in-Held.found.id.at c.args.node.now c.in-Held.found.reply = f.gives in
    let seen : c.ask.new.self.seen ≡ with_read (read.Node c.args.node.now) c.args.current.now.records.seen =
    c.in_ok-ask-in-Held.ensures.seen ∙ ap (λ (n : Node). with_read (read.Node n) c.args.current.now.records.seen) f.node_is in
    held_answers (model_of c.args.world.now) c.args.memo.now c.args.node.now c.args.current.now.records c.ask.new.self c.requires.once c.requires.asks c.in-Held.found.id c.in-Held.found.reply g
    (one_under_id c.args.memo.now c.in-Held.found.id.at c.args.node.now c.requires.ordered (record { entry = g.entry; among = g.among; id_is = g.id_is; node_is = g.node_is }))
    seen c.in_ok-ask-in-Held.ensures.asks

pub returns-in_ok-ask-in-Held-clause-asks : goal.returns-in_ok-ask-in-Held-clause-asks
returns-in_ok-ask-in-Held-clause-asks c =
    let f : IsFound c.args.memo.now.held c.args.node.now c.in-Held.found = rw c.in-Held.is at c.in_ok-reply.ensures in
    let g : GivesHeld c.args.memo.now.held c.in-Held.found.id.at c.args.node.now c.in-Held.found.reply = f.gives in
    subst (λ (ids : List NodeId). AreHeld c.args.memo.now.held ids) (sym c.in_ok-ask-in-Held.ensures.asks)
    (ask_held c.args.memo.now.held c.args.current.now.records.asks c.in-Held.found.id c.requires.asks (record { entry = g.entry; among = g.among; is = g.id_is }))
