use Rattle.std.proofs.Common.{◌≤◌, Bool, length, sym, arith}
use Rattle.mx_value.specs.declared.value.Value.{Value}
use Rattle.mx_value.specs.declared.node.Node.{Node}
use Rattle.mx_model.specs.Inputs.{fits}
use Rattle.mx_whole_edits.proofs.KeptInputs.{keep_one, kept_all}
use Rattle.mx_whole_edits.proofs.unfit.those_that_fit.Goals as goal

pub loop-place-preserved : goal.loop-place-preserved
loop-place-preserved g c =
    let p : Node × Value → Bool = λ input. fits (g.F.Fitting.text c.args.fitting.now) input.0 in
    keep_one p c.args.inputs.now c.loop-place.kept c.loop-place.place c.in-Some.node.now c.in-Some.value.now c.in_ok-fits.fits c.keep.new.kept
    c.count-place-end.ensures.distinct c.loop-place.invariant (sym c.in-Some.ensures) c.in_ok-fits.ensures c.in_ok-keep.ensures

pub returns : goal.returns
returns g c =
    let p : Node × Value → Bool = λ input. fits (g.F.Fitting.text c.args.fitting.now) input.0 in
    let l : length c.args.inputs.now ≤ c.loop-place.place = let e = c.count-place-end.ensures.all in omega arith in
    kept_all p c.args.inputs.now c.loop-place.kept c.loop-place.place l c.loop-place.invariant
