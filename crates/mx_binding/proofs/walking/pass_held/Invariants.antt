use Rattle.mx_state.specs.Model.{model_of}
use Rattle.mx_walks.specs.Ways.{told}
use Rattle.mx_binding.specs.Walking.{Address, Stands, StandsOn}
use Rattle.mx_binding.proofs.walking.pass_held.Given as goal

-- it stands where it came to past the items that it asked, by events behind those that it began with
abbrev pub invariant-loop : goal.invariant-loop
invariant-loop l = (at : Address) → (s : Stands (model_of l.world) l.memo.held at (told l.fn.from) l.fn.records) → StandsOn (model_of l.world) l.memo.held at s.walk.events (told l.walked) l.records
