use Rattle.std.proofs.Common.{◌≡◌, take}
use Rattle.mx_model.specs.Layers.{further}
use Rattle.mx_model.specs.Sound.{HasSpaces}
use Rattle.mx_model.proofs.layers.further.Given as goal

abbrev pub invariant-loop-name : goal.invariant-loop-name
invariant-loop-name l = (l.reached ≡ further l.text l.initial.reached (take l.name-index l.names)) × HasSpaces l.text l.reached
