use Rattle.std.proofs.Common.{◌≡◌, sym, ◌∙◌, ap}
use Rattle.mx_vertices.specs.declared.slot.Body.{Body}
use Rattle.mx_vertices.specs.Found.{IsHeldWith}
use Rattle.mx_memo_laws.proofs.Nodes.{body_is_of_node}
use Rattle.mx_frames.proofs.known.held.Goals as goal

pub returns : goal.returns
returns c =
    let w : IsHeldWith c.args.memo.now.held c.args.id.at c.in-Some.body.now = c.in-Some.ensures in
    let same : c.in-Some.body.now.node ≡ c.args.node.now = body_is_of_node c.args.memo.now c.args.id.at c.args.node.now c.in-Some.body.now c.requires.ordered c.requires.held w in
    record {
      node_is = c.in_ok-node.ensures ∙ same;
      gives = record {
        entry = w.entry;
        among = w.among;
        id_is = w.id_is;
        node_is = ap (λ (b : Body). b.node) w.body_is ∙ same;
        reply_is = ap (λ (b : Body). b.reply) w.body_is ∙ sym c.in_ok-reply.ensures;
      };
    }
