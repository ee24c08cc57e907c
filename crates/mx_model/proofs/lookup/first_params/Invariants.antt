use Rattle.std.proofs.Common.{◌≡◌, drop}
use Rattle.mx_model.specs.Records.{SpaceRecord}
use Rattle.mx_model.specs.Binding.{first_with}
use Rattle.mx_model.proofs.lookup.first_params.Given as goal

abbrev pub invariant-loop-s : goal.invariant-loop-s
invariant-loop-s l = first_with l.text (λ (s : SpaceRecord). s.params) l.layers ≡ first_with l.text (λ (s : SpaceRecord). s.params) (drop l.s-index l.s-items)
