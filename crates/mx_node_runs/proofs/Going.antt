-- How runs go on past what they look up, and what is read then.
use Rattle.mx_value.specs.declared.node.Node.{Node}
use Rattle.mx_edit.specs.Equality.{key_eq}
use Rattle.mx_edit.proofs.Keys.{key_decides}
use Rattle.mx_edit.specs.declared.key.Key.{Key}
use Rattle.mx_edit.specs.declared.key.KeyResult.{KeyResult}
use Rattle.mx_runs.specs.Runs.{Model, Run, Looks}
use Rattle.mx_suspended.specs.Recorded.{Stays, PastLook}
use Rattle.mx_suspended.proofs.Standing.{past_then}
use Rattle.mx_read_set.specs.Seen.{Seen, added, with_key}
use Rattle.mx_interpreter.proofs.Adding.{adds}
use Rattle.mx_node_runs.specs.declared.halt.Halt.{Halt}
use Rattle.mx_code_law.specs.States.{State}
use Rattle.mx_node_runs.specs.Halts.{GoesOn, HaltsAt}
use Rattle.mx_interpreter.specs.Runs.{recorded}

module _ (model : Model) where
  -- it stays where it is
  pub stays : (run : Run) (seen : Seen) → GoesOn model run seen run seen
  stays run seen = λ held asks. Stays run (recorded seen asks)

  -- past a key that is looked up
  pub looked : (key : Key) (go : KeyResult → Run) (seen : Seen) → GoesOn model (Looks key go) seen (go (model.look key)) (with_key key seen)
  looked key go seen = λ held asks.
      PastLook key go (go (model.look key)) (recorded seen asks) (recorded (with_key key seen) asks) (added key_eq seen.keys key)
      (adds key_eq key_decides key seen.keys) (Stays (go (model.look key)) (recorded (with_key key seen) asks))

  -- what goes on to where a run halts
  pub goes_to_halt : (n : Node) (run half : Run) (olds mids news : Seen) (at : Halt) (s : State) → GoesOn model run olds half mids → HaltsAt model n half mids news at s → HaltsAt model n run olds news at s
  goes_to_halt n run half olds mids news at s p h = record {
    rest = h.rest;
    past = λ held asks. past_then model held run half h.rest (recorded olds asks) (recorded mids asks) (recorded news asks) (p held asks) (h.past held asks);
    halts = h.halts;
  }
