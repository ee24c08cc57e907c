use Rattle.std.proofs.Common.{◌∙◌, Some, ap, subst}
use Rattle.mx_rings.specs.declared.search.Stage.{Stage}
use Rattle.mx_rings.specs.declared.search.Turn.{Turn}
use Rattle.mx_rings.specs.Search.{ComesTo}
use Rattle.mx_rings.proofs.Steps.{entered, entered_seen, can_begin}
use Rattle.mx_rings.proofs.search.Search.visit.Goals as goal

pub turns-init : goal.turns-init
turns-init c =
    let moves = c.in_ok-enter.ensures in
    let step = entered c.args.graph.now c.args.x c.args.self.now c.enter.new.self c.requires.search (c.stage.ensures ∙ ap (λ (s : Stage). Some s) c.in-Unseen.is)
    (can_begin c.args.graph.now c.args.self.now.way.items c.args.x c.requires.empty) moves in
    (step.search, step.seen, entered_seen c.args.graph.now c.args.x c.args.self.now.way.items c.args.self.now c.enter.new.self step.search moves)

pub turn-requires-clause-search : goal.turn-requires-clause-search
turn-requires-clause-search c = c.turns.invariant.0

pub returns-in-Back : goal.returns-in-Back
returns-in-Back c =
    let step = c.in_ok-turn.ensures in
    record {
      search = step.search;
      seen = λ y seen. step.seen y (c.turns.invariant.1 y seen);
      comes = subst (λ (t : Turn). ComesTo c.args.graph.now c.turn.new.self.way.items t) c.in-Back.is step.comes;
    }

pub returns-in-End : goal.returns-in-End
returns-in-End c =
    let step = c.in_ok-turn.ensures in
    record {
      search = step.search;
      seen = λ y seen. step.seen y (c.turns.invariant.1 y seen);
      comes = (subst (λ (t : Turn). ComesTo c.args.graph.now c.turn.new.self.way.items t) c.in-End.is step.comes, step.seen c.args.x c.turns.invariant.2);
    }

pub turns-preserved : goal.turns-preserved
turns-preserved c =
    let step = c.in_ok-turn.ensures in
    (step.search, (λ y seen. step.seen y (c.turns.invariant.1 y seen)), step.seen c.args.x c.turns.invariant.2)
