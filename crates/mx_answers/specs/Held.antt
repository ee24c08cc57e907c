-- What is held.
use Rattle.std.specs.Prelude.{◌≡◌, ◌↔◌, ◌⊎◌, ℕ, ◌≤◌, true, false, List, ◌++◌, length, map}
use Rattle.mx_value.specs.declared.node.Node.{Node}
use Rattle.mx_edit.specs.Entry.{Entry}
use Rattle.mx_runs.specs.Lists.{Has, Distinct}
use Rattle.mx_runs.specs.Runs.{Model, Gives}
use Rattle.mx_runs.specs.Inputs.{is_input}
use Rattle.mx_runs.specs.Meaning.{Means}
use Rattle.mx_runs.specs.Chains.{DoesAsk, Reaches, HasValue}

-- the greatest number of nodes that are held
abbrev pub most_held : ℕ
most_held = 4000000

-- the held nodes, in order
abbrev pub nodes_of : List Entry → List Node
nodes_of held = map (λ (e : Entry). e.node) held

-- the node means a value and is no input: such nodes are held, and count
pub record Counts (model : Model) (n : Node) : Type 0 where
  pub value : HasValue model n
  pub own : is_input model n ≡ false

-- the node needs no run: it is among these, which are held, or it is an input
abbrev pub IsKnown : Model → List Node → Node → Type 0
IsKnown model nodes n = Has nodes n ⊎ (is_input model n ≡ true)

-- Each held node means its value and is no input, is held once, and asks none but held nodes and inputs. No more are
-- held than may be.
pub record IsRight (model : Model) (held : List Entry) : Type 0 where
  pub means : (e : Entry) → Has held e → Means model e.node (Gives e.reply)
  pub own : (n : Node) → Has (nodes_of held) n → is_input model n ≡ false
  pub once : Distinct (nodes_of held)
  pub closed : (n m : Node) → Has (nodes_of held) n → DoesAsk model n m → IsKnown model (nodes_of held) m
  pub room : length held ≤ most_held

-- Held are those before and, behind them, some more: exactly the nodes that n reaches, that count and that were not
-- held before, each once and with the value that it means.
pub record HoldsMore (model : Model) (before : List Entry) (n : Node) (after : List Entry) : Type 0 where
  pub more : List Entry
  pub is : after ≡ before ++ more
  pub once : Distinct (nodes_of more)
  pub exactly : (x : Node) → Has (nodes_of more) x ↔ (Reaches model n x × Counts model x × (Has (nodes_of before) x → ⊥))
  pub means : (e : Entry) → Has more e → Means model e.node (Gives e.reply)

-- both hold the same nodes with the same replies, and as many, in whatever order
pub record HoldAlike (held others : List Entry) : Type 0 where
  pub nodes : (x : Node) → Has (nodes_of held) x ↔ Has (nodes_of others) x
  pub replies : (d e : Entry) → Has held d → Has others e → d.node ≡ e.node → d.reply ≡ e.reply
  pub many : length held ≡ length others
