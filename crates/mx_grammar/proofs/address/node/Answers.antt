use Rattle.std.proofs.Common.{◌<◌, Ok, sym, ◌∙◌, length, subst}
use Rattle.std.proofs.lemmas.Result.{err_from_is_err_and}
use Rattle.mx_grammar.specs.declared.address.Turn.{Turn}
use Rattle.mx_grammar.specs.LiteralParsers.{literal}
use Rattle.mx_grammar.specs.AddressParsers.{node_turn, Ends}
use Rattle.mx_grammar.proofs.Loops.{loop_on, loop_done, loop_err}
use Rattle.mx_grammar.proofs.Languages.{node_shorter}
use Rattle.mx_grammar.proofs.address.node.Goals as goal

pub returns-in_err-steps : goal.returns-in_err-steps
returns-in_err-steps c =
    let p = err_from_is_err_and c.from_residual.result c.from_residual.ensures.1 in
    rw (p.1, p.2) (λ n. sym c.loop-steps.invariant ∙ loop_err (node_turn (literal c.args.levels)) (node_shorter c.args.levels c.requires) c.loop-steps.found c.loop-steps.tokens c.in_err-steps.field-0.0 (c.in_err-steps.ensures n))

pub loop-steps-smaller : goal.loop-steps-smaller
loop-steps-smaller c =
    let turn = subst (λ (t : Turn). Ends (node_turn (literal c.args.levels) c.loop-steps.found c.loop-steps.tokens) (Ok t) c.node_turn.new.tokens) c.in-On.is c.in_ok-steps.ensures in
    let less : length c.node_turn.new.tokens < length c.loop-steps.tokens = node_shorter c.args.levels c.requires c.loop-steps.found c.loop-steps.tokens c.node_turn.new.tokens c.in-On.steps turn in
    less

pub loop-steps-preserved : goal.loop-steps-preserved
loop-steps-preserved c =
    let turn = subst (λ (t : Turn). Ends (node_turn (literal c.args.levels) c.loop-steps.found c.loop-steps.tokens) (Ok t) c.node_turn.new.tokens) c.in-On.is c.in_ok-steps.ensures in
    sym (loop_on (node_turn (literal c.args.levels)) (node_shorter c.args.levels c.requires) c.loop-steps.found c.in-On.steps c.loop-steps.tokens c.node_turn.new.tokens turn) ∙ c.loop-steps.invariant

pub returns-in-Done : goal.returns-in-Done
returns-in-Done c =
    let turn = subst (λ (t : Turn). Ends (node_turn (literal c.args.levels) c.loop-steps.found c.loop-steps.tokens) (Ok t) c.node_turn.new.tokens) c.in-Done.is c.in_ok-steps.ensures in
    sym c.loop-steps.invariant ∙ loop_done (node_turn (literal c.args.levels)) (node_shorter c.args.levels c.requires) c.loop-steps.found c.in-Done.node c.loop-steps.tokens c.node_turn.new.tokens turn
