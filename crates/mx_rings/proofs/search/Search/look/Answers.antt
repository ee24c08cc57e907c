use Rattle.std.proofs.Common.{◌<◌, ◌∙◌, length, Some, ap, arith}
use Rattle.mx_rings.specs.declared.search.Stage.{Stage}
use Rattle.mx_rings.proofs.Steps.{next_within, last_within, entered, can_enter, back, passed_one}
use Rattle.mx_rings.proofs.search.Search.look.Goals as goal

pub stage-requires : goal.stage-requires
stage-requires c =
    let l = next_within c.args.graph.now c.args.self.now c.requires.search c.requires.closed c.args.last c.args.next _ c.requires.last c.requires.next in
    let e = c.requires.search.stages_long in omega arith

pub enter-requires : goal.enter-requires
enter-requires c =
    let l = next_within c.args.graph.now c.args.self.now c.requires.search c.requires.closed c.args.last c.args.next _ c.requires.last c.requires.next in
    let e = c.requires.search.stages_long in omega arith

pub returns-in-Unseen : goal.returns-in-Unseen
returns-in-Unseen c =
    entered c.args.graph.now c.args.next c.args.self.now c.enter.new.self c.requires.search (c.stage.ensures ∙ ap (λ (s : Stage). Some s) c.in-Unseen.is)
    (can_enter c.args.graph.now c.args.self.now c.args.last c.args.next _ c.requires.search c.requires.last c.requires.next) (c.in_ok-enter-in-Unseen.ensures)

pub returns-in-OnWay : goal.returns-in-OnWay
returns-in-OnWay c =
    back c.args.graph.now c.args.self.now c.args.last c.args.next _ c.requires.search c.requires.last c.requires.next (c.stage.ensures ∙ ap (λ (s : Stage). Some s) c.in-OnWay.is)

pub pass-requires-clause-within : goal.pass-requires-clause-within
pass-requires-clause-within c =
    let l = last_within c.args.graph.now c.args.self.now c.requires.search c.args.last c.requires.last in
    let e = c.requires.search.passed_long in omega arith

pub returns-in-Done : goal.returns-in-Done
returns-in-Done c =
    let l = last_within c.args.graph.now c.args.self.now c.requires.search c.args.last c.requires.last in
    let e = c.requires.search.passed_long in
    let within : c.args.last.0 < length c.args.self.now.passed.items = omega arith in
    passed_one c.args.graph.now c.args.last c.args.next c.args.self.now c.pass.new.self c.requires.search within c.requires.next (c.stage.ensures ∙ ap (λ (s : Stage). Some s) c.in-Done.is) c.pass.ensures
