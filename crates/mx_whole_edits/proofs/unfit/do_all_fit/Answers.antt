use Rattle.std.proofs.Common.{◌≤◌, ◌∙◌, Bool, length, sym, arith}
use Rattle.mx_value.specs.declared.value.Value.{Value}
use Rattle.mx_value.specs.declared.node.Node.{Node}
use Rattle.mx_model.specs.Inputs.{fits}
use Rattle.mx_whole_edits.proofs.KeptInputs.{all_more, fails_so, all_so}
use Rattle.mx_whole_edits.proofs.unfit.do_all_fit.Goals as goal

pub returns-then-not-branch : goal.returns-then-not-branch
returns-then-not-branch g c =
    let p : Node × Value → Bool = λ input. fits (g.F.Fitting.text c.args.fitting.now) input.0 in
    fails_so p c.args.inputs.now c.loop-place.place c.in-Some.node.now c.in-Some.field-0-1.now c.in_ok-fits.field-0 (sym c.in-Some.ensures) c.in_ok-fits.ensures c.if-not-branch.true

pub loop-place-preserved : goal.loop-place-preserved
loop-place-preserved g c =
    let p : Node × Value → Bool = λ input. fits (g.F.Fitting.text c.args.fitting.now) input.0 in
    all_more p c.args.inputs.now c.loop-place.place (c.in-Some.node.now, c.in-Some.field-0-1.now) c.loop-place.invariant (sym c.in-Some.ensures) (sym c.in_ok-fits.ensures ∙ c.if-not-branch.false)

pub returns : goal.returns
returns g c =
    let p : Node × Value → Bool = λ input. fits (g.F.Fitting.text c.args.fitting.now) input.0 in
    let l : length c.args.inputs.now ≤ c.loop-place.place = let e = c.count-place-end.ensures.all in omega arith in
    all_so p c.args.inputs.now c.loop-place.place l c.loop-place.invariant
