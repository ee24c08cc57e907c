-- What holds of the runs in flight, whatever runs them: those that wait, one for the other, and the one on top.
use Rattle.std.specs.Prelude.{◌≡◌, ℕ, suc, ◌+◌, ◌≤◌, List, [], ◌∷◌, ◌++◌, ◌⊎◌, length, map}
use Rattle.mx_value.specs.declared.node.Node.{Node}
use Rattle.mx_edit.specs.Entry.{Entry}
use Rattle.mx_edit.specs.declared.reply.Reply.{Reply}
use Rattle.mx_runs.specs.Lists.{Has, Distinct}
use Rattle.mx_runs.specs.Runs.{Model, Run, Asks, Gives}
use Rattle.mx_runs.specs.Meaning.{Means}
use Rattle.mx_runs.specs.Chains.{Reaches, ReachedFrom, IsFirstChain}
use Rattle.mx_answers.specs.Held.{nodes_of, IsKnown}
use Rattle.mx_answers.specs.Records.{IsRightMemo}
use Rattle.mx_answers.specs.Answers.{Evaluation, IsShallow}
use Rattle.mx_suspended.specs.Recorded.{Recorded, ComesTo}

-- A run that waits for the answer of a node that it asked: its node, what is recorded of it so far, and what it does
-- with the answer.
pub record Suspended : Type 0 where
  pub node : Node
  pub so_far : Recorded
  pub go : Reply → Run

-- An evaluation in flight: what is held now, how many runs it has begun, and those that wait, the last one first.
pub record InFlight : Type 0 where
  pub held : List Entry
  pub ticks : ℕ
  pub waiting : List Suspended

-- the nodes of runs that wait
abbrev pub nodes_waiting : List Suspended → List Node
nodes_waiting fs = map (λ (f : Suspended). f.node) fs

-- none of the first is among the second, which are held, or is an input
abbrev pub AreUnknown : Model → List Node → List Node → Type 0
AreUnknown model nodes held = (x : Node) → Has nodes x → IsKnown model held x → ⊥

-- How the run of a node stands at this depth, where the nodes `since` were held as it began and `held` are held now.
-- What was held is held; what is newly held is reached by a node that it asked; each node that it asked is held; and no
-- first chain that goes on by such a node, and meets none that was known as the run began, is too long.
pub record StandsAt (model : Model) (limit depth : ℕ) (since held : List Node) (n : Node) (so_far : Recorded) (run : Run) : Type 0 where
  pub comes : ComesTo model n so_far run
  pub still : (x : Node) → Has since x → Has held x
  pub newly : (x : Node) → Has held x → Has since x ⊎ ReachedFrom model so_far.asks x
  pub kept : (x : Node) → Has so_far.asks x → Has held x
  pub shallow : (b : Node) (rest : List Node) → Has so_far.asks b → IsFirstChain model (n ∷ b ∷ rest)
      → AreUnknown model (n ∷ b ∷ rest) since → depth + length (b ∷ rest) ≤ limit

-- These runs, the last one first, each wait for the next one's node, and the last for m; the first one's node is that
-- which is asked for. `since` was held as m was asked.
abbrev pub Waits : Model → Evaluation → List Suspended → Node → List Node → Type 0
Waits model ev [] m since = (m ≡ ev.node) × (since ≡ nodes_of ev.held)
Waits model ev (f ∷ below) m since =
    (before : List Node)
    × StandsAt model ev.limit (suc (length below)) before since f.node f.so_far (Asks m f.go)
    × Waits model ev below f.node before

-- the nodes in flight: each once, none held and none an input, and no more than the limit
pub record AreApart (model : Model) (limit : ℕ) (nodes held : List Node) : Type 0 where
  pub distinct : Distinct nodes
  pub unknown : AreUnknown model nodes held
  pub within : length nodes ≤ limit

-- An evaluation that has begun so many runs, of which so many are in flight. What is held is right as a memo, and is
-- what was held at the start with more behind it. Each run that was begun gave a value that is newly held, or is in
-- flight.
pub record IsUnderWay (model : Model) (ev : Evaluation) (held : List Entry) (ticks flying : ℕ) : Type 0 where
  pub memo : IsRightMemo model held
  pub more : List Entry
  pub grown : ev.held ++ more ≡ held
  pub counted : ticks + length ev.held ≡ length held + flying

-- The run of n is on top: of it so much is recorded, and this is its rest.
pub record IsTop (model : Model) (ev : Evaluation) (flight : InFlight) (n : Node) (so_far : Recorded) (run : Run) : Type 0 where
  pub under_way : IsUnderWay model ev flight.held flight.ticks (suc (length flight.waiting))
  pub since : List Node
  pub waits : Waits model ev flight.waiting n since
  pub stands : StandsAt model ev.limit (suc (length flight.waiting)) since (nodes_of flight.held) n so_far run
  pub apart : AreApart model ev.limit (n ∷ nodes_waiting flight.waiting) (nodes_of flight.held)

-- The last of those that wait asks m, which is neither held nor an input. Where none waits, m is the node that is asked
-- for.
pub record Awaits (model : Model) (ev : Evaluation) (flight : InFlight) (m : Node) : Type 0 where
  pub under_way : IsUnderWay model ev flight.held flight.ticks (length flight.waiting)
  pub waits : Waits model ev flight.waiting m (nodes_of flight.held)
  pub apart : AreApart model ev.limit (nodes_waiting flight.waiting) (nodes_of flight.held)
  pub unknown : IsKnown model (nodes_of flight.held) m → ⊥

-- n gave this reply and is held, and the last of those that wait is to go on with it. Where none waits, n is the node
-- that is asked for.
pub record IsDone (model : Model) (ev : Evaluation) (flight : InFlight) (n : Node) (reply : Reply) : Type 0 where
  pub under_way : IsUnderWay model ev flight.held flight.ticks (length flight.waiting)
  pub since : List Node
  pub waits : Waits model ev flight.waiting n since
  pub means : Means model n (Gives reply)
  pub still : (x : Node) → Has since x → Has (nodes_of flight.held) x
  pub newly : (x : Node) → Has (nodes_of flight.held) x → Has since x ⊎ Reaches model n x
  pub kept : Has (nodes_of flight.held) n
  pub shallow : IsShallow model ev.limit (suc (length flight.waiting)) since n
  pub apart : AreApart model ev.limit (nodes_waiting flight.waiting) (nodes_of flight.held)
