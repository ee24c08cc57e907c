-- Laws of runs in flight, in the order in which an evaluation takes its steps.
use Rattle.std.specs.Prelude.{◌≡◌, ℕ, suc, ◌≤◌, ◌<◌, true, List, [], ◌∷◌, ◌++◌, Result, Ok, Err, length, reverse}
use Rattle.mx_value.specs.declared.node.Node.{Node}
use Rattle.mx_value.specs.declared.read.Read.{Read}
use Rattle.mx_value.specs.declared.read.Read.TheVariants as read
use Rattle.mx_value.specs.declared.value.Value.{Value}
use Rattle.mx_value.specs.declared.fault.FaultKind.{FaultKind}
use Rattle.mx_value.specs.declared.refusal.EvalRefusal.{EvalRefusal}
use Rattle.mx_value.specs.declared.refusal.EvalRefusal.TheVariants as refusal
use Rattle.mx_edit.specs.Entry.{Entry}
use Rattle.mx_edit.specs.declared.key.Key.TheVariants.{Input}
use Rattle.mx_edit.specs.declared.key.KeyResult.TheVariants as found
use Rattle.mx_edit.specs.declared.reply.Reply.{Reply}
use Rattle.mx_runs.specs.Lists.{Has}
use Rattle.mx_runs.specs.Runs.{Model, Run, Ends, Asks, Gives, Faults, NoSuch, WrongCount}
use Rattle.mx_runs.specs.Inputs.{is_input, InputsEnd}
use Rattle.mx_answers.specs.Held.{most_held, nodes_of, IsKnown}
use Rattle.mx_answers.specs.Records.{IsRightMemo}
use Rattle.mx_answers.specs.Answers.{Evaluation, Answer}
use Rattle.mx_suspended.specs.Recorded.{Recorded, nothing, as_entry, Adds, GoesPast}
use Rattle.mx_suspended.specs.Ended.{HasEnded, IsClosed, left_by}
use Rattle.mx_suspended.specs.Flights.{Suspended, InFlight, nodes_waiting, IsUnderWay, IsTop, Awaits, IsDone}

-- a node that is held is answered by what is held, and no run begins
abbrev pub AnsweringHeld : Type 0
AnsweringHeld =
    (model : Model) (ev : Evaluation) (e : Entry) → InputsEnd model → IsRightMemo model ev.held → Has ev.held e
    → e.node ≡ ev.node → Answer model ev (Ok e.reply.value) ev.held 0

-- so is an input, by the value that was put in
abbrev pub AnsweringInput : Type 0
AnsweringInput =
    (model : Model) (ev : Evaluation) (value : Value) → InputsEnd model → IsRightMemo model ev.held
    → is_input model ev.node ≡ true → model.look (Input ev.node) ≡ found.Value value
    → Answer model ev (Ok value) ev.held 0

-- nothing waits yet, and no run has begun
abbrev pub at_start : Evaluation → InFlight
at_start ev = record { held = ev.held; ticks = 0; waiting = [] }

-- from a right memo any other node awaits its run
abbrev pub Starting : Type 0
Starting =
    (model : Model) (ev : Evaluation) → IsRightMemo model ev.held → (IsKnown model (nodes_of ev.held) ev.node → ⊥)
    → Awaits model ev (at_start ev) ev.node

-- the run of an awaited node begins, where it is not in flight and the limit has room for it
abbrev pub Beginning : Type 0
Beginning =
    (model : Model) (ev : Evaluation) (flight : InFlight) (m : Node) → Awaits model ev flight m
    → (Has (nodes_waiting flight.waiting) m → ⊥) → length flight.waiting < ev.limit
    → IsTop model ev (record flight { ticks = suc flight.ticks }) m nothing (model.body m)

-- the run on top goes on past what is known
abbrev pub Passing : Type 0
Passing =
    (model : Model) (ev : Evaluation) (flight : InFlight) (n : Node) (run rest : Run) (so_far last : Recorded)
    → InputsEnd model → GoesPast model flight.held run so_far rest last → IsTop model ev flight n so_far run
    → IsTop model ev flight n last rest

-- what goes past and then past more goes past both
abbrev pub PassingOn : Type 0
PassingOn =
    (model : Model) (held : List Entry) (run half rest : Run) (so_far mid last : Recorded)
    → GoesPast model held run so_far half mid → GoesPast model held half mid rest last
    → GoesPast model held run so_far rest last

-- the run on top asks a node that is not known, and waits for it
abbrev pub Asking : Type 0
Asking =
    (model : Model) (ev : Evaluation) (flight : InFlight) (n m : Node) (so_far : Recorded) (go : Reply → Run)
    → IsTop model ev flight n so_far (Asks m go) → (IsKnown model (nodes_of flight.held) m → ⊥)
    → Awaits model ev (record flight { waiting = record { node = n; so_far = so_far; go = go } ∷ flight.waiting }) m

-- the run on top gives a reply, which is held with what is recorded of the run
abbrev pub Giving : Type 0
Giving =
    (model : Model) (ev : Evaluation) (flight : InFlight) (n : Node) (so_far : Recorded) (reply : Reply)
    → IsTop model ev flight n so_far (Ends (Gives reply)) → length flight.held < most_held
    → IsDone model ev (record flight { held = flight.held ++ as_entry n reply so_far ∷ [] }) n reply

-- the last of those that wait goes on with the reply; it is recorded that it asked the node and read it
abbrev pub HandingDown : Type 0
HandingDown =
    (model : Model) (ev : Evaluation) (flight : InFlight) (f : Suspended) (below : List Suspended) (n : Node)
    (reply : Reply) (asks : List Node) (reads : List Read)
    → IsDone model ev (record flight { waiting = f ∷ below }) n reply
    → Adds f.so_far.asks n asks → Adds f.so_far.reads (read.Node n) reads
    → IsTop model ev (record flight { waiting = below }) f.node (record f.so_far { asks = asks; reads = reads })
    (f.go reply)

-- where none waits, the reply's value is the answer
abbrev pub AnsweringValue : Type 0
AnsweringValue =
    (model : Model) (ev : Evaluation) (flight : InFlight) (n : Node) (reply : Reply) → InputsEnd model
    → IsDone model ev (record flight { waiting = [] }) n reply
    → Answer model ev (Ok reply.value) flight.held flight.ticks

-- a fault of the run on top ends all that wait, and is the answer
abbrev pub AnsweringFault : Type 0
AnsweringFault =
    (model : Model) (ev : Evaluation) (flight : InFlight) (n m : Node) (so_far : Recorded) (kind : FaultKind) (line : ℕ)
    → InputsEnd model → IsTop model ev flight n so_far (Ends (Faults kind m line))
    → Answer model ev (Err (refusal.Fault kind m line)) flight.held flight.ticks

-- so is that there is no such node; then only what was held at the start is held
abbrev pub AnsweringNoSuch : Type 0
AnsweringNoSuch =
    (model : Model) (ev : Evaluation) (flight : InFlight) (n : Node) (so_far : Recorded) (ticks : ℕ) → InputsEnd model
    → IsTop model ev flight n so_far (Ends NoSuch) → Answer model ev (Err refusal.NoSuch) ev.held ticks

-- so is that arguments do not bind
abbrev pub AnsweringWrongCount : Type 0
AnsweringWrongCount =
    (model : Model) (ev : Evaluation) (flight : InFlight) (n : Node) (so_far : Recorded) (ticks : ℕ) → InputsEnd model
    → IsTop model ev flight n so_far (Ends WrongCount) → Answer model ev (Err refusal.WrongCount) ev.held ticks

-- an awaited node that is in flight is a ring, with those that wait from it on
abbrev pub AnsweringRing : Type 0
AnsweringRing =
    (model : Model) (ev : Evaluation) (flight : InFlight) (m : Node) (lead rest : List Node) → InputsEnd model
    → Awaits model ev flight m → reverse (nodes_waiting flight.waiting) ≡ lead ++ m ∷ rest
    → Answer model ev (Err (refusal.Ring (m ∷ rest))) flight.held flight.ticks

-- an awaited node that is not in flight, and for which the limit has no room, is too deep
abbrev pub AnsweringTooDeep : Type 0
AnsweringTooDeep =
    (model : Model) (ev : Evaluation) (flight : InFlight) (m : Node) (ticks : ℕ) → InputsEnd model
    → Awaits model ev flight m → (Has (nodes_waiting flight.waiting) m → ⊥) → ev.limit ≤ length flight.waiting
    → Answer model ev (Err (refusal.TooDeep m)) ev.held ticks

-- the run on top gives a reply, and as many nodes are held as may be
abbrev pub AnsweringFull : Type 0
AnsweringFull =
    (model : Model) (ev : Evaluation) (flight : InFlight) (n : Node) (so_far : Recorded) (reply : Reply) (ticks : ℕ)
    → IsTop model ev flight n so_far (Ends (Gives reply)) → most_held ≤ length flight.held
    → Answer model ev (Err refusal.Full) ev.held ticks

-- where a run is on top, fewer wait than the limit
abbrev pub StayingWithin : Type 0
StayingWithin =
    (model : Model) (ev : Evaluation) (flight : InFlight) (n : Node) (so_far : Recorded) (run : Run)
    → IsTop model ev flight n so_far run → length flight.waiting < ev.limit

-- an evaluation that breaks off for want of memory has ended
abbrev pub WantingMemory : Type 0
WantingMemory =
    (model : Model) (ev : Evaluation) (held : List Entry) (ticks flying : ℕ)
    → IsUnderWay model ev held ticks flying → HasEnded model ev held ticks (Err refusal.NoMemory)

-- what an answer does not keep is cut off at its end, and then the answer and what is held are right
abbrev pub Closing : Type 0
Closing =
    (model : Model) (ev : Evaluation) (held : List Entry) (ticks : ℕ) (answer : Result Value EvalRefusal)
    → HasEnded model ev held ticks answer → IsClosed model ev answer (left_by answer ev.held held) ticks
