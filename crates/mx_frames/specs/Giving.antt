-- How a run gives its reply: that is held, and the run that asked goes on with it.
use Rattle.std.specs.Prelude.{◌≡◌, ℕ, ◌≤◌, ◌<◌, List, [], ◌∷◌, ◌++◌, Result, Ok, Err, length}
use Rattle.std.specs.declared.alloc.AllocError.{AllocError}
use Rattle.mx_value.specs.declared.node.Node.{Node}
use Rattle.mx_edit.specs.declared.key.Key.{Key}
use Rattle.mx_edit.specs.declared.reply.Reply.{Reply}
use Rattle.mx_vertices.specs.Found.{IsHeldAs, IsNew}
use Rattle.mx_vertices.specs.Kept.{Kept}
use Rattle.mx_memo.specs.Memos.{Memory, AreHeld}
use Rattle.mx_memo.specs.declared.refusal.HoldRefusal.{HoldRefusal}
use Rattle.mx_memo.specs.declared.refusal.HoldRefusal.TheVariants as refusal
use Rattle.mx_runs.specs.Lists.{Has}
use Rattle.mx_runs.specs.Runs.{Model}
use Rattle.mx_answers.specs.Held.{most_held}
use Rattle.mx_suspended.specs.Flights.{InFlight, IsDone}
use Rattle.mx_code_law.specs.States.{State}
use Rattle.mx_stack.specs.Flight.{Flight}
use Rattle.mx_memo_laws.specs.Entries.{IsOrdered, entries_of, entry_held, own_keys}
use Rattle.mx_memo_laws.specs.Laws.{HeldOnce, HasGrown}
use Rattle.mx_binding.specs.Records.{HasOwnKey}
use Rattle.mx_frames.specs.Flights.{Work, IsAloft, Flies, IsGiven, IsOnTheWay, IsSound, IsSoundWith, first_of}
use Rattle.mx_frames.specs.declared.progress.Given.{Given}
use Rattle.mx_frames.specs.declared.progress.Progress.{Progress}
use Rattle.mx_frames.specs.declared.progress.Progress.TheVariants as progress
use Rattle.mx_frames.specs.declared.runs.Frame.{Frame}
use Rattle.mx_frames.specs.declared.current.Current.{Current}

-- the run that began last is this one, and its node is not held
pub record IsReadyToHold (m : Memory) (c : Current) : Type 0 where
  pub ordered : IsOrdered m
  pub held_once : HeldOnce m.held
  pub before : List Node
  pub begun : m.begun ≡ before ++ c.node ∷ []
  pub apart : Has before c.node → ⊥
  pub new : IsNew m.held c.node
  pub asks : AreHeld m.held c.records.asks

-- the node of the run is held behind all others, with its reply and what is recorded of the run
pub record IsHeldLast (old new : Memory) (c : Current) (reply : Reply) (g : Given) : Type 0 where
  pub entry : Kept
  pub keys : List Key
  pub holds : new.held ≡ old.held ++ entry ∷ []
  pub entries : entries_of new.held ≡ entries_of old.held ++ entry_held old.held entry.body keys c.records.asks ∷ []
  pub id_is : entry.id ≡ g.id.at
  pub node_is : entry.body.node ≡ c.node
  pub reply_is : entry.body.reply ≡ reply
  pub reads_are : entry.body.reads ≡ c.records.seen.reads
  pub keys_are : HasOwnKey c.node c.records.seen.keys → c.records.seen.keys ≡ own_keys c.node ++ keys
  pub few : length old.held < most_held
  pub ended : old.begun ≡ new.begun ++ c.node ∷ []
  pub ordered : IsOrdered new
  pub node_given : g.node ≡ c.node
  pub reply_given : g.reply ≡ reply
  pub grown : (start : Memory) → HasGrown start old → HasGrown start new

-- the same is held as before
pub record HoldsSame (old new : Memory) : Type 0 where
  pub held : new.held ≡ old.held
  pub last : new.last ≡ old.last

-- it could not be held, and what was held is: as many as may be, or no memory
abbrev pub IsHeldThen : Memory → Memory → HoldRefusal → Type 0
IsHeldThen old new refusal.Full = HoldsSame old new × (most_held ≤ length old.held)
IsHeldThen old new refusal.NoMemory = HoldsSame old new

-- the node has given its reply and is held; the frames stand for those that wait
pub record IsHandedOver (model : Model) (q : Work) (m : Memory) (b : List State) (frames : List Frame) (n : Node) (reply : Reply) (now : ℕ) : Type 0 where
  pub flight : InFlight
  pub aloft : IsAloft q m b frames now flight
  pub way : IsOnTheWay model q.bottom (first_of frames n)
  pub done : IsDone model q.ev flight n reply

-- the node that was given is held, each node once and in order, and so are those that the waiting runs asked
pub record IsAtHand (m : Memory) (frames : List Frame) (given : Given) : Type 0 where
  pub ordered : IsOrdered m
  pub held_once : HeldOnce m.held
  pub is : IsHeldAs m.held given.id.at given.node
  pub asks : (w : Frame) → Has frames w → AreHeld m.held w.current.records.asks

-- what comes of the runs in flight where a node was handed over
abbrev pub GoesDown : Model → Work → Memory → Given → Flight → List Frame → Node → ℕ → Result Progress AllocError → Type 0
GoesDown model q m given stack frames first now (Ok (progress.Going r)) = Flies model q m stack frames r now × (first_of frames r.current.node ≡ first)
GoesDown model q m given stack frames first now (Ok (progress.Done g)) = IsGiven model q m g now × (g.node ≡ first)
GoesDown model q m given stack frames first now (Err e) = Unit {0}

-- and of the frames
abbrev pub IsHandedDown : Memory → List Frame → Given → Result Progress AllocError → Type 0
IsHandedDown m frames given (Ok (progress.Going r)) = IsSoundWith m frames r
IsHandedDown m frames given (Ok (progress.Done g)) = (g ≡ given) × (frames ≡ []) × IsSound m [] []
IsHandedDown m frames given (Err e) = Unit {0}
