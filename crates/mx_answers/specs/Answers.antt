-- The answers of an evaluation.
use Rattle.std.specs.Prelude.{◌≡◌, ◌⊎◌, ℕ, suc, ◌+◌, ◌≤◌, List, [], ◌∷◌, ◌++◌, Result, Ok, Err, length}
use Rattle.mx_value.specs.declared.node.Node.{Node}
use Rattle.mx_value.specs.declared.value.Value.{Value}
use Rattle.mx_value.specs.declared.refusal.EvalRefusal.{EvalRefusal}
use Rattle.mx_value.specs.declared.refusal.EvalRefusal.TheVariants as refusal
use Rattle.mx_edit.specs.Entry.{Entry}
use Rattle.mx_edit.specs.declared.reply.Reply.{Reply}
use Rattle.mx_runs.specs.Lists.{Has, Distinct}
use Rattle.mx_runs.specs.Runs.{Model, Gives, Faults, NoSuch, WrongCount}
use Rattle.mx_runs.specs.Meaning.{Means}
use Rattle.mx_runs.specs.Chains.{Reaches, HasValue, IsFirstChain, IsRing, MeansNothing, first_or}
use Rattle.mx_answers.specs.Held.{most_held, nodes_of, Counts, IsKnown, HoldsMore}

-- the greatest limit on the nodes of a chain
abbrev pub greatest_limit : ℕ
greatest_limit = 100000

-- a limit within its bounds
pub record IsLimit (limit : ℕ) : Type 0 where
  pub least : 1 ≤ limit
  pub greatest : limit ≤ greatest_limit

-- an evaluation: the node that is asked for, what is held as it begins, and how many nodes a chain may have
pub record Evaluation : Type 0 where
  pub node : Node
  pub held : List Entry
  pub limit : ℕ

-- Each first chain from n that meets none of these nodes and no input has so few nodes, where n is at this depth.
abbrev pub IsShallow : Model → ℕ → ℕ → List Node → Node → Type 0
IsShallow model limit depth avoid n = (rest : List Node) → IsFirstChain model (n ∷ rest) → ((x : Node) → Has (n ∷ rest) x → IsKnown model avoid x → ⊥) → depth + length rest ≤ limit

-- a first chain of limit + 1 nodes from n to m, of which none is held and none an input
pub record DeepChain (model : Model) (held : List Entry) (limit : ℕ) (n m : Node) : Type 0 where
  pub chain : List Node
  pub long : length chain ≡ limit
  pub begins : first_or m chain ≡ n
  pub first : IsFirstChain model (chain ++ m ∷ [])
  pub unknown : (x : Node) → Has (chain ++ m ∷ []) x → IsKnown model (nodes_of held) x → ⊥

-- no chain from n is too deep
abbrev pub NoDeepChain : Model → List Entry → ℕ → Node → Type 0
NoDeepChain model held limit n = (m : Node) → DeepChain model held limit n m → ⊥

-- the node is held, or n reaches it and it counts
abbrev pub IsCounted : Model → List Entry → Node → Node → Type 0
IsCounted model held n x = Has (nodes_of held) x ⊎ (Reaches model n x × Counts model x)

-- a list of at most so many nodes has all that are counted
pub record AtMost (model : Model) (held : List Entry) (n : Node) (most : ℕ) : Type 0 where
  pub nodes : List Node
  pub few : length nodes ≤ most
  pub whole : (x : Node) → IsCounted model held n x → Has nodes x

-- one more than so many distinct nodes are counted
pub record PastMost (model : Model) (held : List Entry) (n : Node) (most : ℕ) : Type 0 where
  pub nodes : List Node
  pub distinct : Distinct nodes
  pub many : length nodes ≡ suc most
  pub each : (x : Node) → Has nodes x → IsCounted model held n x

-- no chain is too deep, and no more nodes are counted than may be held
pub record HasRoom (model : Model) (ev : Evaluation) : Type 0 where
  pub shallow : NoDeepChain model ev.held ev.limit ev.node
  pub few : AtMost model ev.held ev.node most_held

-- so many nodes that n reaches have no value
pub record AreLost (model : Model) (n : Node) (count : ℕ) : Type 0 where
  pub nodes : List Node
  pub distinct : Distinct nodes
  pub only : (x : Node) → Has nodes x → Reaches model n x × (HasValue model x → ⊥)
  pub whole : (x : Node) → Reaches model n x → (HasValue model x → ⊥) → Has nodes x
  pub many : length nodes ≡ count

-- There is room, all that counts is held afterwards, and each run that began is that of a newly held node or of a
-- reached node with no value.
pub record Completes (model : Model) (ev : Evaluation) (after : List Entry) (ticks : ℕ) : Type 0 where
  pub room : HasRoom model ev
  pub holds : HoldsMore model ev.held ev.node after
  pub lost : ℕ
  pub are_lost : AreLost model ev.node lost
  pub runs : ticks + length ev.held ≡ length after + lost

-- there is room, and what was held is held
pub record Leaves (model : Model) (ev : Evaluation) (after : List Entry) : Type 0 where
  pub room : HasRoom model ev
  pub same : after ≡ ev.held

-- n gives this value
pub record GivesValue (model : Model) (n : Node) (v : Value) : Type 0 where
  pub reply : Reply
  pub means : Means model n (Gives reply)
  pub value : reply.value ≡ v

-- what an evaluation answers, what is held after it, and how many formula runs it began
abbrev pub Answer : Model → Evaluation → Result Value EvalRefusal → List Entry → ℕ → Type 0
Answer model ev (Ok v) after ticks = GivesValue model ev.node v × Completes model ev after ticks
Answer model ev (Err (refusal.Fault k m line)) after ticks = Means model ev.node (Faults k m line) × Completes model ev after ticks
Answer model ev (Err (refusal.Ring ring)) after ticks = IsRing model ev.node ring × MeansNothing model ev.node × Completes model ev after ticks
Answer model ev (Err refusal.NoSuch) after ticks = Means model ev.node NoSuch × Leaves model ev after
Answer model ev (Err refusal.WrongCount) after ticks = Means model ev.node WrongCount × Leaves model ev after
Answer model ev (Err (refusal.TooDeep m)) after ticks = DeepChain model ev.held ev.limit ev.node m × (after ≡ ev.held)
Answer model ev (Err refusal.Full) after ticks = PastMost model ev.held ev.node most_held × (after ≡ ev.held)
Answer model ev (Err refusal.NoMemory) after ticks = after ≡ ev.held

-- the answer says what comes of the node: it is no refusal for want of room or memory
abbrev pub IsSettled : Result Value EvalRefusal → Type 0
IsSettled (Ok v) = Unit {0}
IsSettled (Err (refusal.Fault k m line)) = Unit {0}
IsSettled (Err (refusal.Ring ring)) = Unit {0}
IsSettled (Err refusal.NoSuch) = Unit {0}
IsSettled (Err refusal.WrongCount) = Unit {0}
IsSettled (Err (refusal.TooDeep m)) = ⊥
IsSettled (Err refusal.Full) = ⊥
IsSettled (Err refusal.NoMemory) = ⊥
