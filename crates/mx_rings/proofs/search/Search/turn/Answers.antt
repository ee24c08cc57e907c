use Rattle.std.proofs.Common.{◌∙◌, sym, arith}
use Rattle.mx_rings.proofs.Steps.{last_within, left}
use Rattle.mx_rings.proofs.search.Search.turn.Goals as goal

pub next-requires-clause-graph : goal.next-requires-clause-graph
next-requires-clause-graph c = last_within c.args.graph.now c.args.self.now c.requires.search c.in-Some.last (c.in-Some.ensures)

pub next-requires-clause-passed : goal.next-requires-clause-passed
next-requires-clause-passed c =
    let l = last_within c.args.graph.now c.args.self.now c.requires.search c.in-Some.last (c.in-Some.ensures) in
    let e = c.requires.search.passed_long in omega arith

pub leave-requires : goal.leave-requires
leave-requires c =
    let l = last_within c.args.graph.now c.args.self.now c.requires.search c.in-Some.last (c.in-Some.ensures) in
    let e = c.requires.search.stages_long in omega arith

pub returns-in-None : goal.returns-in-None
returns-in-None c =
    let ends = c.in-Some.ensures in
    left c.args.graph.now c.in-Some.last c.args.self.now c.leave.new.self c.requires.search ends (sym c.in-None.is ∙ c.next.ensures.next) (c.leave.ensures ends.front ends.is)
