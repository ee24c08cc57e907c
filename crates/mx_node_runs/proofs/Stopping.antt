-- Where the code of a run stops, the run halts.
use Rattle.std.proofs.Common.{◌≡◌, refl, subst}
use Rattle.mx_value.specs.declared.node.Node.{Node}
use Rattle.mx_runs.specs.Runs.{Model, Run}
use Rattle.mx_code.specs.declared.code.Code.{Code}
use Rattle.mx_code.specs.Told.{told}
use Rattle.mx_code_law.specs.States.{State}
use Rattle.mx_code_law.specs.Machine.{Does}
use Rattle.mx_read_set.specs.Seen.{Seen}
use Rattle.mx_lookup.specs.declared.ending.Ending.{Ending}
use Rattle.mx_lookup.specs.declared.home.Home.{Home}
use Rattle.mx_lookup.specs.Homes.{home_of}
use Rattle.mx_interpreter.specs.declared.stepped.Resume.{Resume}
use Rattle.mx_interpreter.specs.declared.stepped.Stop.{Stop}
use Rattle.mx_interpreter.specs.declared.stepped.Stop.TheVariants as stop
use Rattle.mx_interpreter.specs.Runs.{RunsTo}
use Rattle.mx_node_runs.specs.declared.halt.Halt.TheVariants as halt
use Rattle.mx_node_runs.specs.declared.halt.Waiting.TheVariants as waiting
use Rattle.mx_node_runs.specs.Halts.{HaltsAt}

module _ (model : Model) (code given : Code) (home here : Home) (same : given ≡ code) (there : here ≡ home) (run : Run) (olds news : Seen) (before after : State) where
  -- the code stops there, whatever run it does
  abbrev pub StopsThere : Stop → Type 0
  StopsThere at = (r : Run) → Does (told given) (home_of here) before r → RunsTo model (told given) (home_of here) r olds news at after

  runs_to : (at : Stop) → StopsThere at → Does (told code) (home_of home) before run → RunsTo model (told code) (home_of home) run olds news at after
  runs_to at on d =
      subst (λ (h : Home). Does (told code) (home_of h) before run → RunsTo model (told code) (home_of h) run olds news at after) there
      (subst (λ (k : Code). Does (told k) (home_of here) before run → RunsTo model (told k) (home_of here) run olds news at after) same (on run)) d

  pub ends : (at : Stop) (e : Ending) → at ≡ stop.Ends e → StopsThere at → Does (told code) (home_of home) before run → HaltsAt model home.node run olds news (halt.Ends e) after
  ends at e is on d =
      let r : RunsTo model (told code) (home_of home) run olds news (stop.Ends e) after =
      subst (λ (x : Stop). RunsTo model (told code) (home_of home) run olds news x after) is (runs_to at on d) in
      record { rest = r.rest; past = r.past; halts = r.stops }

  pub asks : (at : Stop) (m : Node) (how : Resume) → at ≡ stop.Asks m how → StopsThere at → Does (told code) (home_of home) before run → HaltsAt model home.node run olds news (halt.Asks m (waiting.InCode (record { home = home; code = code; resume = how }))) after
  asks at m how is on d =
      let r : RunsTo model (told code) (home_of home) run olds news (stop.Asks m how) after =
      subst (λ (x : Stop). RunsTo model (told code) (home_of home) run olds news x after) is (runs_to at on d) in
      record { rest = r.rest; past = r.past; halts = (r.stops.0, r.stops.1, (refl, r.stops.2)) }
