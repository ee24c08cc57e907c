use Rattle.std.proofs.Common.{◌≡◌, ◌∙◌, List, Option, refl, sym, ap, subst}
use Rattle.mx_value.specs.declared.value.Segment.{Segment}
use Rattle.mx_value.specs.declared.value.Value.{Value}
use Rattle.mx_edit.specs.declared.reply.Reply.{Reply}
use Rattle.mx_model.specs.Keys.{key_result}
use Rattle.mx_meaning.specs.Nodes.{body}
use Rattle.mx_state.specs.Model.{model_of}
use Rattle.mx_walks.specs.Ways.{begun_way, told}
use Rattle.mx_node_runs.specs.Behind.{address_of, after_input}
use Rattle.mx_lookup.specs.declared.ending.Ending.TheVariants as ending
use Rattle.mx_node_runs.specs.declared.halt.Halt.TheVariants as halt
use Rattle.mx_node_runs.specs.Halts.{GoesOn, HaltsAt}
use Rattle.mx_node_runs.proofs.Halting.{of_one}
use Rattle.mx_node_runs.proofs.Walks.{from_top, put_in}
use Rattle.mx_node_runs.proofs.runs.start.Goals as goal

pub returns-in-Some : goal.returns-in-Some
returns-in-Some c = λ i. (
  subst (λ (r : Reply). HaltsAt (model_of c.args.world.now) c.args.node.now (body c.args.node.now) c.args.seen.now c.find_input.new.seen (halt.Ends (ending.Gives r)) c.args.stack.now.top) (sym c.in_ok-new.ensures)
      (put_in (key_result c.args.world.now) c.args.node.now c.in-Some.value c.args.seen.now c.find_input.new.seen c.args.stack.now
      (subst (λ (o : Option Value). GoesOn (model_of c.args.world.now) (body c.args.node.now) c.args.seen.now (after_input c.args.node.now o) c.find_input.new.seen) c.in-Some.is c.in_ok-value.ensures)),
  refl,
)

pub returns : goal.returns
returns c =
    let g = subst (λ (o : Option Value). GoesOn (model_of c.args.world.now) (body c.args.node.now) c.args.seen.now (after_input c.args.node.now o) c.find_input.new.seen) c.in_default.is c.in_ok-value.ensures in
    let at_end : told c.in_ok-walked.walked ≡ begun_way (key_result c.args.world.now) (address_of c.args.node.now) =
    c.in_ok-walked.ensures ∙ ap (λ (x : List Segment). begun_way (key_result c.args.world.now) x) (c.address_of.ensures ∙ ap address_of c.get.ensures) in
    of_one c.arrive.result c.arrive.ensures (λ at h.
    from_top (key_result c.args.world.now) c.args.node.now c.in_ok-walked.walked c.args.seen.now c.find_input.new.seen c.arrive.new.seen at c.args.stack.now c.arrive.new.stack at_end g h)
