-- Evaluations of nodes whose walk waits for items: where the run of the node that is asked stands, from item to item.
use Rattle.std.specs.Prelude.{◌≡◌, ◌⊎◌, ℕ, ◌+◌, false, List, [], ◌∷◌, ◌++◌, Result, Ok, Err}
use Rattle.mx_value.specs.declared.value.Value.{Value}
use Rattle.mx_value.specs.declared.node.Node.{Node}
use Rattle.mx_value.specs.declared.namespace.Namespace.{Namespace}
use Rattle.mx_value.specs.declared.refusal.EvalRefusal.{EvalRefusal}
use Rattle.mx_edit.specs.declared.reply.Reply.{Reply}
use Rattle.mx_memo.specs.Memos.{Memory}
use Rattle.mx_runs.specs.Runs.{Model, Run, Ends, Asks, NoSuch, WrongCount, Event}
use Rattle.mx_runs.specs.Inputs.{is_static}
use Rattle.mx_runs.specs.Meaning.{Leads}
use Rattle.mx_meaning.specs.Laws.{BindsTo}
use Rattle.mx_answers.specs.Answers.{IsSettled}
use Rattle.mx_suspended.specs.Flights.{InFlight, IsTop}
use Rattle.mx_suspended.specs.Ended.{HasEnded}
use Rattle.mx_state.specs.Evaluations.{IsAsked, HasAsked}
use Rattle.mx_state.specs.Proper.{address_of}
use Rattle.mx_stack.specs.Flight.{Flight}
use Rattle.mx_node_runs.specs.Behind.{behind}
use Rattle.mx_node_runs.specs.Halts.{HaltsAt}
use Rattle.mx_frames.specs.declared.current.Running.{Running}
use Rattle.mx_memo_laws.specs.Entries.{entries_of, IsKept}
use Rattle.mx_binding.specs.Records.{recorded_in}
use Rattle.mx_binding.specs.declared.records.Records.{Records}
use Rattle.mx_binding.specs.declared.walking.Led.{Led}
use Rattle.mx_binding.specs.declared.walking.Led.TheVariants as led
use Rattle.mx_binding.specs.Walking.{IsLed}
use Rattle.mx_machine.specs.Closing.{IsOver}
use Rattle.mx_machine.specs.Settings.{evaluation_of}
use Rattle.mx_machine.specs.declared.arriving.Arrived.{Arrived}
use Rattle.mx_machine.specs.declared.behind.Walk.{Walk}

-- the run of a node stands where the walk leads
abbrev pub RunsTo : Led → Node → Run → Type 0
RunsTo (led.Came ns) c run = run ≡ behind c ns
RunsTo (led.Waits i rest) c run = (go : Reply → Run) × (run ≡ Asks i go)
RunsTo led.NoSuch c run = run ≡ Ends NoSuch
RunsTo led.WrongCount c run = run ≡ Ends WrongCount

-- the run of the node comes there by these events
pub record RunAt (model : Model) (c : Node) (es : List Event) (to : Led) : Type 0 where
  pub run : Run
  pub leads : Leads model (model.body c) es run
  pub runs : RunsTo to c run

-- the run of the node is on top of an evaluation of it, and stands where the walk leads
pub record IsOnWay (model : Model) (start m : Memory) (limit before now : ℕ) (c : Node) (to : Led) (records : Records) (es : List Event) : Type 0 where
  pub flight : InFlight
  pub held : flight.held ≡ entries_of m.held
  pub counted : before + flight.ticks ≡ now
  pub alone : flight.waiting ≡ []
  pub at : RunAt model c es to
  pub top : IsTop model (evaluation_of c start limit) flight c (recorded_in m.held records) at.run

-- Only the end of its walk tells which node is asked for the one that is written: till then all is said of both, of that
-- and of its bound form, which walk alike.
abbrev pub IsFor : Model → Node → Node → Type 0
IsFor model n c = (c ≡ n) ⊎ BindsTo model n c

-- the walk of a node leads there, and the run of the node stands there
pub record StandsThere (model : Model) (n : Node) (start m : Memory) (limit before now : ℕ) (c : Node) (to : Led) (records : Records) : Type 0 where
  pub led : IsLed model m.held (address_of n) to records
  pub way : IsOnWay model start m limit before now c to records led.stands.walk.events

-- An evaluation that began with this memo, when so many runs had begun, and whose walk leads there. The address has an item.
pub record IsWalking (model : Model) (n : Node) (start m : Memory) (limit before now : ℕ) (to : Led) (records : Records) : Type 0 where
  pub item : is_static (address_of n) ≡ false
  pub stands : (c : Node) → IsFor model n c → StandsThere model n start m limit before now c to records

-- it has broken off; where the answer says what comes of the node, that has no bound form
pub record HasLostItem (model : Model) (n : Node) (start m : Memory) (limit before now : ℕ) (c : Node) (e : EvalRefusal) : Type 0 where
  pub ticks : ℕ
  pub counted : before + ticks ≡ now
  pub ended : HasEnded model (evaluation_of c start limit) (entries_of m.held) ticks (Err e)
  pub lost : IsSettled (Err e) → (b : Node) → BindsTo model n b → ⊥

-- an item was to give its reply, and the walk to go on
abbrev pub HasPassedItem : Model → Node → Memory → Memory → ℕ → ℕ → ℕ → Result Walk EvalRefusal → Type 0
HasPassedItem model n start m limit before now (Ok w) = IsWalking model n start m limit before now w.led w.records
HasPassedItem model n start m limit before now (Err e) = (c : Node) → IsFor model n c → HasLostItem model n start m limit before now c e

-- where the answer says what comes of the node, it is known which is asked
abbrev pub TellsAsked : Model → Node → Result Value EvalRefusal → Type 0
TellsAsked model n answer = IsSettled answer → HasAsked model n

-- The evaluation of the node that is asked has come to an answer. It is over for some node in any case.
pub record IsOverFor (model : Model) (n : Node) (start m : Memory) (limit ticks : ℕ) (answer : Result Value EvalRefusal) : Type 0 where
  pub asked : (c : Node) → IsAsked model n c → IsOver model start m (evaluation_of c start limit) ticks answer
  pub tells : TellsAsked model n answer
  pub some : Node
  pub over : IsOver model start m (evaluation_of some start limit) ticks answer

-- some evaluation has its walk there
pub record IsSomeWalking (model : Model) (n : Node) (m : Memory) (limit now : ℕ) (to : Led) (records : Records) : Type 0 where
  pub start : Memory
  pub before : ℕ
  pub walking : IsWalking model n start m limit before now to records

-- the run of the node has begun, and has halted behind its walk
pub record EntersAs (model : Model) (old new : Memory) (n : Node) (a : Arrived) (stack : Flight) (r : Running) : Type 0 where
  pub begun : new ≡ record old { begun = old.begun ++ n ∷ [] }
  pub node : r.current.node ≡ n
  pub asks : r.current.records.asks ≡ a.records.asks
  pub halts : HaltsAt model n (behind n a.space) a.records.seen r.current.records.seen r.halt stack.top
