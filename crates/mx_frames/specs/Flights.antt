-- What holds of the runs in flight.
use Rattle.std.specs.Prelude.{◌≡◌, ℕ, ◌+◌, ◌≤◌, ◌<◌, List, [], ◌∷◌, ◌++◌, Result, Ok, Err, length, map, reverse}
use Rattle.mx_value.specs.declared.value.Value.{Value}
use Rattle.mx_value.specs.declared.value.Segment.{Segment}
use Rattle.mx_value.specs.declared.node.Node.{Node}
use Rattle.mx_value.specs.declared.node.Node.TheVariants.{Item}
use Rattle.mx_value.specs.declared.refusal.EvalRefusal.{EvalRefusal}
use Rattle.mx_edit.specs.declared.reply.Reply.{Reply}
use Rattle.mx_vertices.specs.Found.{IsNew, IsHeldAs}
use Rattle.mx_vertices.specs.Kept.{Kept}
use Rattle.mx_memo.specs.Memos.{Memory, AreHeld}
use Rattle.mx_runs.specs.Lists.{Has, Distinct}
use Rattle.mx_runs.specs.Runs.{Model, Run, Event, Asks}
use Rattle.mx_runs.specs.Meaning.{Leads}
use Rattle.mx_runs.specs.Chains.{DoesAsk, HasValue, asks_of}
use Rattle.mx_meaning.specs.Laws.{BindsTo}
use Rattle.mx_answers.specs.Answers.{Evaluation, IsSettled}
use Rattle.mx_suspended.specs.Flights.{Suspended, InFlight, IsTop, Awaits, IsDone, nodes_waiting}
use Rattle.mx_suspended.specs.Ended.{HasEnded}
use Rattle.mx_suspended.specs.ItemsFirst.{PassesThrough, address_of}
use Rattle.mx_code_law.specs.States.{State}
use Rattle.mx_stack.specs.Flight.{Flight, idle}
use Rattle.mx_node_runs.specs.Halts.{HaltsAs, Resumes}
use Rattle.mx_memo_laws.specs.Entries.{entries_of, IsOrdered}
use Rattle.mx_memo_laws.specs.Laws.{HeldOnce}
use Rattle.mx_binding.specs.Records.{recorded_in, HasOwnKey}
use Rattle.mx_frames.specs.Passing.{IsPausedAt}
use Rattle.mx_lookup.specs.declared.ending.Ending.{Ending}
use Rattle.mx_lookup.specs.declared.ending.Ending.TheVariants as ending
use Rattle.mx_frames.specs.declared.passing.Asked.{Asked}
use Rattle.mx_frames.specs.declared.passing.Paused.TheVariants as paused
use Rattle.mx_frames.specs.declared.passing.Stretch.{Stretch}
use Rattle.mx_frames.specs.declared.current.Current.{Current}
use Rattle.mx_frames.specs.declared.runs.Frame.{Frame}
use Rattle.mx_frames.specs.declared.current.Running.{Running}
use Rattle.mx_frames.specs.declared.progress.Given.{Given}
use Rattle.mx_frames.specs.declared.progress.Progress.{Progress}
use Rattle.mx_frames.specs.declared.progress.Progress.TheVariants as progress

-- ---- what is told of the memo and of the frames, whatever is evaluated

-- the nodes of these frames
abbrev pub frame_nodes : List Frame → List Node
frame_nodes frames = map (λ (w : Frame). w.current.node) frames

-- Exactly the runs of these nodes are in flight, none of which is held; what is held stands in order, each node once; and
-- what is recorded of the runs that wait is fit.
pub record IsSound (m : Memory) (frames : List Frame) (nodes : List Node) : Type 0 where
  pub ordered : IsOrdered m
  pub held_once : HeldOnce m.held
  pub begun : m.begun ≡ nodes
  pub once : Distinct nodes
  pub new : (x : Node) → Has nodes x → IsNew m.held x
  pub asks : (w : Frame) → Has frames w → AreHeld m.held w.current.records.asks

-- the same with a run on top
pub record IsSoundWith (m : Memory) (frames : List Frame) (r : Running) : Type 0 where
  pub sound : IsSound m frames (frame_nodes frames ++ r.current.node ∷ [])
  pub asks : AreHeld m.held r.current.records.asks

-- ---- what holds of the evaluation

-- A frame stands for a suspended run, at this state: with the answer it goes on with what that does.
pub record StandsFor (held : List Kept) (s : State) (w : Frame) (f : Suspended) : Type 0 where
  pub node : f.node ≡ w.current.node
  pub so_far : f.so_far ≡ recorded_in held w.current.records
  pub resumes : Resumes w.current.node w.waiting s f.go
  pub own : HasOwnKey w.current.node w.current.records.seen.keys

-- frames, the last first, stand for these runs, at the states on the stack; below them wait those of the bottom
abbrev pub Stand : List Kept → List State → List Frame → List Suspended → List Suspended → Type 0
Stand held b [] fs bottom = fs ≡ bottom
Stand held b (w ∷ ws) [] bottom = ⊥
Stand held b (w ∷ ws) (f ∷ fs) bottom = (s : State) × (others : List State) × (b ≡ s ∷ others) × StandsFor held s w f × Stand held others ws fs bottom

-- what the machine is at: an evaluation, the runs that wait below all of its own, and how many runs had begun before
pub record Work : Type 0 where
  pub ev : Evaluation
  pub bottom : List Suspended
  pub before : ℕ

-- the first node of those in flight
abbrev pub first_of : List Frame → Node → Node
first_of [] n = n
first_of (w ∷ ws) n = w.current.node

-- the first is an item node, through whose space the way to the second leads
pub record IsItemBefore (i n : Node) : Type 0 where
  pub at : List Segment
  pub args : List Value
  pub is : i ≡ Item at args
  pub passes : PassesThrough (address_of n) at args

-- the way to each node of the bottom that is its own bound form leads through the space of this one
abbrev pub IsOnTheWay : Model → List Suspended → Node → Type 0
IsOnTheWay model bottom n = (f : Suspended) → Has bottom f → BindsTo model f.node f.node → IsItemBefore n f.node

-- What the laws of formulas say of a model: a run asks the items on the way of a node before it asks the node, and each
-- node that it asks is its own bound form.
pub record AsksInOrder (model : Model) : Type 0 where
  pub items : (n m : Node) (es : List Event) (go : Reply → Run) (at : List Segment) (args : List Value)
      → Leads model (model.body n) es (Asks m go) → PassesThrough (address_of m) at args → Has (asks_of es) (Item at args)
  pub bound : (n m : Node) → DoesAsk model n m → BindsTo model m m

-- the flight is that of this memo and these frames
pub record IsAloft (q : Work) (m : Memory) (b : List State) (frames : List Frame) (now : ℕ) (flight : InFlight) : Type 0 where
  pub held : flight.held ≡ entries_of m.held
  pub counted : q.before + flight.ticks ≡ now
  pub stand : Stand m.held b (reverse frames) flight.waiting q.bottom

-- a run is on top, and has come to this
pub record Flies (model : Model) (q : Work) (m : Memory) (stack : Flight) (frames : List Frame) (r : Running) (now : ℕ) : Type 0 where
  pub flight : InFlight
  pub aloft : IsAloft q m stack.below frames now flight
  pub way : IsOnTheWay model q.bottom (first_of frames r.current.node)
  pub run : Run
  pub halts : HaltsAs r.current.node run r.halt stack.top
  pub own : HasOwnKey r.current.node r.current.records.seen.keys
  pub top : IsTop model q.ev flight r.current.node (recorded_in m.held r.current.records) run

-- the node is to be run: none of its code has begun on top of the stack, none of those that wait is its, and there is room
pub record IsAwaited (model : Model) (q : Work) (m : Memory) (stack : Flight) (frames : List Frame) (n : Node) (now : ℕ) : Type 0 where
  pub flight : InFlight
  pub aloft : IsAloft q m stack.below frames now flight
  pub idle : stack.top ≡ idle
  pub way : IsOnTheWay model q.bottom (first_of frames n)
  pub awaits : Awaits model q.ev flight n
  pub apart : Has (nodes_waiting flight.waiting) n → ⊥
  pub room : length flight.waiting < q.ev.limit

-- the node has given its reply and is held, and the last of the bottom is to go on with it
pub record IsGiven (model : Model) (q : Work) (m : Memory) (given : Given) (now : ℕ) : Type 0 where
  pub flight : InFlight
  pub held : flight.held ≡ entries_of m.held
  pub counted : q.before + flight.ticks ≡ now
  pub waiting : flight.waiting ≡ q.bottom
  pub done : IsDone model q.ev flight given.node given.reply

-- the run on top has come to where it pauses, past all that is known
pub record IsPaused (model : Model) (q : Work) (m : Memory) (stack : Flight) (frames : List Frame) (s : Stretch) (now : ℕ) : Type 0 where
  pub flight : InFlight
  pub aloft : IsAloft q m stack.below frames now flight
  pub way : IsOnTheWay model q.bottom (first_of frames s.current.node)
  pub run : Run
  pub pauses : IsPausedAt model m s.current.node run s.paused stack.top
  pub own : HasOwnKey s.current.node s.current.records.seen.keys
  pub top : IsTop model q.ev flight s.current.node (recorded_in m.held s.current.records) run

-- The evaluation has ended with this refusal. Where that says what comes of the node, the first one in flight has no value.
pub record HasBrokenOff (model : Model) (q : Work) (m : Memory) (first : Node) (now : ℕ) (e : EvalRefusal) : Type 0 where
  pub ticks : ℕ
  pub counted : q.before + ticks ≡ now
  pub ended : HasEnded model q.ev (entries_of m.held) ticks (Err e)
  pub lost : IsSettled (Err e) → HasValue model first → ⊥

-- how an evaluation stands after a step
abbrev pub Flew : Model → Work → Memory → Flight → List Frame → Node → ℕ → Result Progress EvalRefusal → Type 0
Flew model q m stack frames first now (Ok (progress.Going r)) = Flies model q m stack frames r now × (first_of frames r.current.node ≡ first)
Flew model q m stack frames first now (Ok (progress.Done given)) = IsGiven model q m given now × (given.node ≡ first)
Flew model q m stack frames first now (Err e) = HasBrokenOff model q m first now e

-- a node whose run was to begin
abbrev pub Begins : Model → Work → Memory → Flight → List Frame → Node → ℕ → Result Running EvalRefusal → Type 0
Begins model q m stack frames first now (Ok r) = Flies model q m stack frames r now × (first_of frames r.current.node ≡ first)
Begins model q m stack frames first now (Err e) = HasBrokenOff model q m first now e

-- a node for which the run on top was to wait
abbrev pub Waited : Model → Work → Memory → Flight → List Frame → Node → ℕ → Result Node EvalRefusal → Type 0
Waited model q m stack frames first now (Ok n) = IsAwaited model q m stack frames n now × (first_of frames n ≡ first)
Waited model q m stack frames first now (Err e) = HasBrokenOff model q m first now e

-- the first node was to give its reply
abbrev pub Drove : Model → Work → Memory → Node → ℕ → Result Given EvalRefusal → Type 0
Drove model q m first now (Ok given) = IsGiven model q m given now × (given.node ≡ first)
Drove model q m first now (Err e) = HasBrokenOff model q m first now e

-- a run that asks a node which is not known, and one that gives its reply
abbrev pub stretch_asking : Current → Asked → Stretch
stretch_asking current asked = record { current = current; paused = paused.Asks asked }

abbrev pub stretch_ending : Current → Ending → Stretch
stretch_ending current e = record { current = current; paused = paused.Ends e }

abbrev pub stretch_giving : Current → Reply → Stretch
stretch_giving current reply = record { current = current; paused = paused.Ends (ending.Gives reply) }

-- one more frame stands behind the others, of this run
pub record IsPushed (current : Current) (olds news : List Frame) : Type 0 where
  pub frame : Frame
  pub is : news ≡ olds ++ frame ∷ []
  pub of : frame.current ≡ current

-- ---- what is told of the memo and of the frames then

-- with a run on top that has paused
pub record IsSoundPaused (m : Memory) (frames : List Frame) (s : Stretch) : Type 0 where
  pub sound : IsSound m frames (frame_nodes frames ++ s.current.node ∷ [])
  pub asks : AreHeld m.held s.current.records.asks

abbrev pub IsSoundAfter : Memory → List Frame → Result Progress EvalRefusal → Type 0
IsSoundAfter m frames (Ok (progress.Going r)) = IsSoundWith m frames r
IsSoundAfter m frames (Ok (progress.Done given)) = IsSound m [] [] × (frames ≡ []) × IsHeldAs m.held given.id.at given.node
IsSoundAfter m frames (Err e) = IsOrdered m

abbrev pub IsBegun : Memory → List Frame → Result Running EvalRefusal → Type 0
IsBegun m frames (Ok r) = IsSoundWith m frames r
IsBegun m frames (Err e) = IsOrdered m

abbrev pub IsDriven : Memory → List Frame → Result Given EvalRefusal → Type 0
IsDriven m frames (Ok given) = IsSound m [] [] × (frames ≡ []) × IsHeldAs m.held given.id.at given.node
IsDriven m frames (Err e) = IsOrdered m

-- the evaluation is one within these bounds
pub record IsWithin (q : Work) (limit below : ℕ) : Type 0 where
  pub limit_is : q.ev.limit ≡ limit
  pub below_is : length q.bottom ≡ below
