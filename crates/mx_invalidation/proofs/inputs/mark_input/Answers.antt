use Rattle.std.proofs.Common.{◌≡◌, ◌∙◌, true, sym, ap, inl, inr, refl}
use Rattle.mx_vertices.specs.Inputs.{is_static}
use Rattle.mx_invalidation.proofs.MarkedInputs.{input_reaches, reaches_marked}
use Rattle.mx_invalidation.proofs.inputs.mark_input.Goals as goal

pub mark_readers-requires : goal.mark_readers-requires
mark_readers-requires c = let n = (c.in-Some.ensures c.in-Some.id.at).1 (inl refl) in c.requires.nodes c.in-Some.id.at n.held n.slot

pub returns-in-Some-clause-marked : goal.returns-in-Some-clause-marked
returns-in-Some-clause-marked c q =
    let own : is_static c.args.node.now ≡ true = ap is_static (sym c.get.ensures) ∙ sym c.is_static.ensures ∙ c.if-not-is_static.false in
    reaches_marked (c.mark_readers.ensures.marked q) (input_reaches c.args.slots.now c.args.graph.now.edges c.args.node.now c.in-Some.id c.in-Some.ensures own q)

pub returns-in_default-clause-marked : goal.returns-in_default-clause-marked
returns-in_default-clause-marked c q = (λ m. inl m, λ m. elim m [ inl a ↦ a | inr i ↦ absurd ((c.in_default.ensures i.vertex).0 i.is) ])
