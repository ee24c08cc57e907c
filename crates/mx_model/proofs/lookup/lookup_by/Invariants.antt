use Rattle.std.proofs.Common.{◌≡◌, drop}
use Rattle.mx_model.specs.Binding.{own_member, first_with}
use Rattle.mx_model.proofs.lookup.lookup_by.Given as goal

abbrev pub invariant-loop-s : goal.invariant-loop-s
invariant-loop-s l = first_with l.text (own_member l.text l.name.now) l.layers ≡ first_with l.text (own_member l.text l.name.now) (drop l.s-index l.s-items)
