use Rattle.std.proofs.Common.{◌≡◌, take}
use Rattle.std.specs.List.{filter}
use Rattle.mx_value.specs.declared.value.Value.{Value}
use Rattle.mx_value.specs.declared.node.Node.{Node}
use Rattle.mx_model.specs.Inputs.{fits}
use Rattle.mx_whole_edits.proofs.unfit.those_that_fit.Given as goal

abbrev pub invariant-loop-place : goal.invariant-loop-place
invariant-loop-place g l = l.kept ≡ filter (λ (input : Node × Value). fits (g.F.Fitting.text l.fitting) input.0) (take l.place l.inputs)
