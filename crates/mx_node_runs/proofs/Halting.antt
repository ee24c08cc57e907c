-- Where the run of a node halts.
use Rattle.std.proofs.Common.{◌≡◌, refl, sym, subst}
use Rattle.std.specs.Prelude.{IfOk, OnOk, Result, Ok, Err}
use Rattle.mx_value.specs.declared.node.Node.{Node}
use Rattle.mx_edit.specs.declared.key.Key.{Key}
use Rattle.mx_edit.specs.declared.key.KeyResult.{KeyResult}
use Rattle.mx_edit.specs.declared.reply.Reply.{Reply}
use Rattle.mx_runs.specs.Runs.{Model, Run, Ends, Asks, Looks}
use Rattle.mx_code_law.specs.States.{State}
use Rattle.mx_read_set.specs.Seen.{Seen, with_key}
use Rattle.mx_stack.specs.Flight.{Flight}
use Rattle.mx_lookup.specs.declared.ending.Ending.{Ending}
use Rattle.mx_lookup.specs.Endings.{ending_of}
use Rattle.mx_node_runs.specs.declared.halt.Halt.{Halt}
use Rattle.mx_node_runs.specs.declared.halt.Halt.TheVariants as halt
use Rattle.mx_node_runs.specs.declared.halt.Waiting.{Waiting}
use Rattle.mx_node_runs.specs.Halts.{HaltsAt, HaltsFrom, Resumes}
use Rattle.mx_node_runs.proofs.Going.{goes_to_halt, looked, stays}

-- what follows from what holds of a result
pub of_one : {X E : Type 0} (r : Result X E) {P Q : X → Type 0} → IfOk r P → ((x : X) → P x → Q x) → IfOk r Q
of_one (Ok x) p f = f x p
of_one (Err e) p f = tt

-- and what follows from two such things
pub of_both : {X E : Type 0} (r : Result X E) {P Q : X → Type 0} {B : Type 0} → IfOk r P → OnOk r B → ((x : X) → P x → B → Q x) → IfOk r Q
of_both (Ok x) p b f = f x p b
of_both (Err e) p b f = tt

module _ (model : Model) (n : Node) where
  -- the run has ended
  pub ended : (run : Run) (seen : Seen) (e : Ending) (s : State) → run ≡ Ends (ending_of n e) → HaltsAt model n run seen seen (halt.Ends e) s
  ended run seen e s is = record { rest = run; past = stays model run seen; halts = is }

  -- it asks
  pub asking : (run : Run) (seen : Seen) (m : Node) (w : Waiting) (s : State) (go : Reply → Run) → run ≡ Asks m go → Resumes n w s go → HaltsAt model n run seen seen (halt.Asks m w) s
  asking run seen m w s go is r = record { rest = run; past = stays model run seen; halts = (go, is, r) }

  -- it has ended before its code began
  pub ends_unbegun : (run : Run) (seen : Seen) (e : Ending) (f : Flight) → run ≡ Ends (ending_of n e) → HaltsFrom model n run seen seen (halt.Ends e) f f
  ends_unbegun run seen e f is = λ i. (ended run seen e f.top is, refl)

  -- past a key that is looked up
  pub from_look : (key : Key) (go : KeyResult → Run) (olds news : Seen) (at : Halt) (before after : Flight) → HaltsFrom model n (go (model.look key)) (with_key key olds) news at before after → HaltsFrom model n (Looks key go) olds news at before after
  from_look key go olds news at before after h = λ i.
      let p = h i in
      (goes_to_halt model n (Looks key go) (go (model.look key)) olds (with_key key olds) news at after.top (looked model key go olds) p.0, p.1)

  -- the same run
  pub of_same : (run other : Run) (olds news : Seen) (at : Halt) (before after : Flight) → run ≡ other → HaltsFrom model n other olds news at before after → HaltsFrom model n run olds news at before after
  of_same run other olds news at before after e h = subst (λ (r : Run). HaltsFrom model n r olds news at before after) (sym e) h

  -- with the same read
  pub of_seen : (run : Run) (olds news others : Seen) (at : Halt) (before after : Flight) → news ≡ others → HaltsFrom model n run olds others at before after → HaltsFrom model n run olds news at before after
  of_seen run olds news others at before after e h = subst (λ (s : Seen). HaltsFrom model n run olds s at before after) (sym e) h

  -- from the same read
  pub from_seen : (run : Run) (olds others news : Seen) (at : Halt) (before after : Flight) → olds ≡ others → HaltsFrom model n run olds news at before after → HaltsFrom model n run others news at before after
  from_seen run olds others news at before after e h = subst (λ (s : Seen). HaltsFrom model n run s news at before after) e h
