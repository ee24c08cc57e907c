-- Which nodes a node asks and reaches, first chains, stuck chains and rings.
use Rattle.std.specs.Prelude.{◌≡◌, List, [], ◌∷◌, ◌++◌}
use Rattle.mx_value.specs.declared.node.Node.{Node}
use Rattle.mx_edit.specs.declared.key.Key.{Key}
use Rattle.mx_edit.specs.declared.reply.Reply.{Reply}
use Rattle.mx_runs.specs.Lists.{Has, Distinct}
use Rattle.mx_runs.specs.Runs.{Model, Run, Asks, Outcome, Gives, Event, Looked, Tested, Asked, Noted}
use Rattle.mx_runs.specs.Meaning.{Means, Leads}

-- the nodes that a run has asked, in order
abbrev pub asks_of : List Event → List Node
asks_of [] = []
asks_of (Looked k ∷ es) = asks_of es
asks_of (Tested k ∷ es) = asks_of es
asks_of (Asked m r ∷ es) = m ∷ asks_of es
asks_of (Noted r ∷ es) = asks_of es

-- the keys of a run so far, in order: what it looked up, and not what it tested
abbrev pub keys_of : List Event → List Key
keys_of [] = []
keys_of (Looked k ∷ es) = k ∷ keys_of es
keys_of (Tested k ∷ es) = keys_of es
keys_of (Asked m r ∷ es) = keys_of es
keys_of (Noted r ∷ es) = keys_of es

-- n's run comes to ask m
pub record DoesAsk (model : Model) (n m : Node) : Type 0 where
  pub events : List Event
  pub go : Reply → Run
  pub leads : Leads model (model.body n) events (Asks m go)

-- a chain of asks leads from n to m
pub data Reaches (model : Model) : Node → Node → Type 0 where
  Itself : {n : Node} → Reaches model n n
  Through : {n m : Node} (k : Node) → DoesAsk model n k → Reaches model k m → Reaches model n m

-- a node among these reaches x
pub record ReachedFrom (model : Model) (ns : List Node) (x : Node) : Type 0 where
  pub from : Node
  pub among : Has ns from
  pub reaches : Reaches model from x

-- n means a value
pub record HasValue (model : Model) (n : Node) : Type 0 where
  pub reply : Reply
  pub means : Means model n (Gives reply)

-- no level gives n an end
abbrev pub MeansNothing : Model → Node → Type 0
MeansNothing model n = (o : Outcome) → Means model n o → ⊥

-- a asks the first of these, and none of them is reached by a node that it asks before
pub record AsksFirst (model : Model) (a b : Node) (rest : List Node) : Type 0 where
  pub events : List Event
  pub go : Reply → Run
  pub leads : Leads model (model.body a) events (Asks b go)
  pub fresh : (x : Node) → Has (b ∷ rest) x → ReachedFrom model (asks_of events) x → ⊥

-- each asks the next in this way
abbrev pub AskInTurn : Model → List Node → Type 0
AskInTurn model [] = Unit {0}
AskInTurn model (a ∷ []) = Unit {0}
AskInTurn model (a ∷ b ∷ rest) = AsksFirst model a b rest × AskInTurn model (b ∷ rest)

-- Distinct nodes of which each asks the next, and before that none that reaches the next or one behind it.
abbrev pub IsFirstChain : Model → List Node → Type 0
IsFirstChain model ns = Distinct ns × AskInTurn model ns

-- the last ask of a run that comes to no end
pub record LastAsk (model : Model) (n m : Node) : Type 0 where
  pub asks : DoesAsk model n m
  pub lost : MeansNothing model m

-- the first of these, or m where there is none
abbrev pub first_or : Node → List Node → Node
first_or m [] = m
first_or m (n ∷ ns) = n

-- the last ask of each is the next, and that of the last is m
abbrev pub StuckChain : Model → List Node → Node → Type 0
StuckChain model [] m = Unit {0}
StuckChain model (n ∷ ns) m = LastAsk model n (first_or m ns) × StuckChain model ns m

-- the part of n's stuck chain from the first node that it meets again
pub record IsRing (model : Model) (n : Node) (ring : List Node) : Type 0 where
  pub lead : List Node
  pub again : Node
  pub rest : List Node
  pub is : ring ≡ again ∷ rest
  pub begins : first_or again lead ≡ n
  pub distinct : Distinct (lead ++ again ∷ rest)
  pub stuck : StuckChain model (lead ++ again ∷ rest) again
