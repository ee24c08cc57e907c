use Rattle.std.proofs.Common.{◌≡◌, ◌∙◌, true, false, List, sym, ap}
use Rattle.mx_value.specs.declared.label.Label.{Label}
use Rattle.mx_edit.specs.declared.key.Key.TheVariants as key
use Rattle.mx_model.specs.Keys.{key_result}
use Rattle.mx_meaning.specs.Laws.{model_of}
use Rattle.mx_meaning.specs.Namespaces.{ends_with_name}
use Rattle.mx_meaning.specs.Nodes.{item_made, item_run}
use Rattle.mx_meaning.specs.Walks.{bound_or_refused}
use Rattle.mx_lookup.specs.declared.ending.Ending.TheVariants as ending
use Rattle.mx_read_set.specs.Seen.{with_key}
use Rattle.mx_node_runs.specs.declared.halt.Halt.TheVariants as halt
use Rattle.mx_node_runs.proofs.Halting.{from_seen, of_one, of_seen}
use Rattle.mx_node_runs.proofs.Formulas.{no_name, no_params, with_params}
use Rattle.mx_node_runs.proofs.items.enter_item.Goals as goal

pub returns-then-not-ends_with_name : goal.returns-then-not-ends_with_name
returns-then-not-ends_with_name c =
    let a = c.args.arrived in
    let named : ends_with_name a.space.at ≡ false = ap ends_with_name (sym c.as_slice.ensures) ∙ sym c.ends_with_name.ensures ∙ c.if-not-ends_with_name.true in
    no_name (key_result c.args.world.now) a.node.now a.space a.arguments.now c.args.seen.now c.args.stack.now named

pub returns-in-Some : goal.returns-in-Some
returns-in-Some c =
    let a = c.args.arrived in
    let p = c.in-Some.params.now in
    let named : ends_with_name a.space.at ≡ true = ap ends_with_name (sym c.as_slice.ensures) ∙ sym c.ends_with_name.ensures ∙ c.if-not-ends_with_name.false in
    let s : c.look.new.self ≡ with_key (key.Params a.space.source) c.args.seen.now = c.in_ok-look.ensures ∙ ap (λ (x : List Label). with_key (key.Params x) c.args.seen.now) c.in_ok-copy.ensures in
    of_one c.make_item.result c.make_item.ensures (λ at h.
    with_params (key_result c.args.world.now) a.node.now a.space a.arguments.now c.args.seen.now p c.make_item.new.seen at c.args.stack.now c.make_item.new.stack named c.in-Some.ensures
    (from_seen (model_of (key_result c.args.world.now)) a.node.now (bound_or_refused p.params a.arguments.now (item_made p.body p.params a.node.now a.space)) c.look.new.self (with_key (key.Params a.space.source) c.args.seen.now)
    c.make_item.new.seen at c.args.stack.now c.make_item.new.stack s h))

pub returns-in-None : goal.returns-in-None
returns-in-None c =
    let a = c.args.arrived in
    let named : ends_with_name a.space.at ≡ true = ap ends_with_name (sym c.as_slice.ensures) ∙ sym c.ends_with_name.ensures ∙ c.if-not-ends_with_name.false in
    let s : c.look.new.self ≡ with_key (key.Params a.space.source) c.args.seen.now = c.in_ok-look.ensures ∙ ap (λ (x : List Label). with_key (key.Params x) c.args.seen.now) c.in_ok-copy.ensures in
    of_seen (model_of (key_result c.args.world.now)) a.node.now (item_run a.node.now a.arguments.now a.space) c.args.seen.now c.look.new.self (with_key (key.Params a.space.source) c.args.seen.now) (halt.Ends ending.NoSuch)
    c.args.stack.now c.args.stack.now s
    (no_params (key_result c.args.world.now) a.node.now a.space a.arguments.now c.args.seen.now c.args.stack.now named c.in-None.ensures)
