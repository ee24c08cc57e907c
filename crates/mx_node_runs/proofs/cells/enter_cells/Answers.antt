use Rattle.std.proofs.Common.{◌≡◌, ◌∙◌, Bool, List, ap, subst}
use Rattle.mx_value.specs.declared.label.Label.{Label}
use Rattle.mx_edit.specs.declared.key.Key.TheVariants as key
use Rattle.mx_model.specs.Keys.{key_result}
use Rattle.mx_meaning.specs.Laws.{model_of}
use Rattle.mx_lookup.specs.declared.ending.Ending.TheVariants as ending
use Rattle.mx_read_set.specs.Seen.{with_key}
use Rattle.mx_node_runs.specs.declared.halt.Halt.TheVariants as halt
use Rattle.mx_node_runs.specs.Begins.{Begins}
use Rattle.mx_node_runs.proofs.Halting.{of_both, of_seen}
use Rattle.mx_node_runs.proofs.Formulas.{cells_look, cells_run, cells_unbound, no_cells}
use Rattle.mx_node_runs.proofs.cells.enter_cells.Goals as goal

pub returns-in_default : goal.returns-in_default
returns-in_default c =
    let a = c.args.arrived in
    let s : c.look.new.self ≡ with_key (key.Cells a.space.source c.args.name.now) c.args.seen.now =
    c.in_ok-look.ensures ∙ ap (λ (p : List Label). with_key (key.Cells p c.in_ok-copy-2.field-0) c.args.seen.now) c.in_ok-copy.ensures
    ∙ ap (λ (x : Label). with_key (key.Cells a.space.source x) c.args.seen.now) c.in_ok-copy-2.ensures in
    of_seen (model_of (key_result c.args.world.now)) a.node.now (cells_look (key_result c.args.world.now) a.node.now a.space c.args.name.now a.arguments.now c.args.seen.now) c.args.seen.now c.look.new.self
    (with_key (key.Cells a.space.source c.args.name.now) c.args.seen.now) (halt.Ends ending.NoSuch) c.args.stack.now c.args.stack.now s
    (no_cells (key_result c.args.world.now) a.node.now a.space c.args.name.now a.arguments.now c.args.seen.now c.args.stack.now c.in_default.ensures)

pub returns-then-not-branch : goal.returns-then-not-branch
returns-then-not-branch c =
    let a = c.args.arrived in
    let s : c.look.new.self ≡ with_key (key.Cells a.space.source c.args.name.now) c.args.seen.now =
    c.in_ok-look.ensures ∙ ap (λ (p : List Label). with_key (key.Cells p c.in_ok-copy-2.field-0) c.args.seen.now) c.in_ok-copy.ensures
    ∙ ap (λ (x : Label). with_key (key.Cells a.space.source x) c.args.seen.now) c.in_ok-copy-2.ensures in
    let f = c.in-Some.cells.formula.now in
    let b = subst (λ (x : Bool). Begins f.params f.body a.arguments.now x c.args.stack.now c.begin_formula.new.stack) c.if-not-branch.true c.in_ok-begin_formula.ensures in
    of_seen (model_of (key_result c.args.world.now)) a.node.now (cells_look (key_result c.args.world.now) a.node.now a.space c.args.name.now a.arguments.now c.args.seen.now) c.args.seen.now c.look.new.self
    (with_key (key.Cells a.space.source c.args.name.now) c.args.seen.now) (halt.Ends ending.WrongCount) c.args.stack.now c.begin_formula.new.stack s
    (cells_unbound (key_result c.args.world.now) a.node.now a.space c.args.name.now a.arguments.now c.args.seen.now f c.in-Some.cells.allow_none c.in-Some.ensures c.args.stack.now c.begin_formula.new.stack b.0 b.1)

pub returns : goal.returns
returns c =
    let a = c.args.arrived in
    let s : c.look.new.self ≡ with_key (key.Cells a.space.source c.args.name.now) c.args.seen.now =
    c.in_ok-look.ensures ∙ ap (λ (p : List Label). with_key (key.Cells p c.in_ok-copy-2.field-0) c.args.seen.now) c.in_ok-copy.ensures
    ∙ ap (λ (x : Label). with_key (key.Cells a.space.source x) c.args.seen.now) c.in_ok-copy-2.ensures in
    let f = c.in-Some.cells.formula.now in
    let b = subst (λ (x : Bool). Begins f.params f.body a.arguments.now x c.args.stack.now c.begin_formula.new.stack) c.if-not-branch.false c.in_ok-begin_formula.ensures in
    of_both c.proceed.result c.proceed.ensures.halts c.proceed.ensures.below (λ at on below.
    cells_run (key_result c.args.world.now) a.node.now a.space c.args.name.now a.arguments.now c.args.seen.now f c.in-Some.cells.allow_none c.in-Some.ensures
    c.args.stack.now c.begin_formula.new.stack c.proceed.new.stack c.in_ok-copy-3.field-0 c.in_ok-home.home c.look.new.self c.in_ok-code.code c.proceed.new.seen at c.in_ok-home.ensures c.in_ok-copy-3.ensures s b.0 b.1 c.in_ok-code.ensures.0 on below)
