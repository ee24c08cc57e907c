-- What an edit and a clearing keep.
use Rattle.std.specs.Prelude.{◌≡◌, Bool, true, false, List, [], ◌∷◌, ◌++◌}
use Rattle.mx_value.specs.declared.label.Label.{Label}
use Rattle.mx_value.specs.declared.value.Value.{Value, out-Value}
use Rattle.mx_value.specs.declared.value.CellsAt.{CellsAt}
use Rattle.mx_value.specs.declared.value.Segment.{Segment}
use Rattle.mx_value.specs.declared.value.Segment.TheOpen.{Value-F}
use Rattle.mx_value.specs.declared.node.Node.{Node}
use Rattle.mx_value.specs.declared.node.Node.TheVariants.{Cell, Item}
use Rattle.mx_edit.specs.Entry.{Entry}
use Rattle.mx_edit.specs.declared.key.Key.{Key}
use Rattle.mx_edit.specs.declared.key.KeyResult.{KeyResult}
use Rattle.mx_edit.specs.declared.scope.Scope.{Scope}
use Rattle.mx_edit.specs.declared.scope.Scope.TheVariants as scope
use Rattle.mx_runs.specs.Lists.{Has, Distinct}
use Rattle.mx_runs.specs.Runs.{Model}
use Rattle.mx_runs.specs.Chains.{Reaches}
use Rattle.mx_runs.specs.Support.{HasSameKeys}
use Rattle.mx_answers.specs.Held.{nodes_of}

-- after an edit exactly the held nodes are held of which no supporting key is changed, as they were
pub record Retains (model : Model) (other : Key → KeyResult) (held kept : List Entry) : Type 0 where
  pub once : Distinct (nodes_of kept)
  pub only : (e : Entry) → Has kept e → Has held e × HasSameKeys model other e.node
  pub whole : (e : Entry) → Has held e → HasSameKeys model other e.node → Has kept e

-- the second address begins with the first
pub record BeginsWith (at address : List Segment) : Type 0 where
  pub rest : List Segment
  pub is : address ≡ at ++ rest

-- the value is a space at an address that begins with this one
abbrev pub IsSpaceIn : List Segment → Value-F Segment Value CellsAt → Type 0
IsSpaceIn at (Value-F.Space address) = BeginsWith at address
IsSpaceIn at content = ⊥

-- the node of cells in a space at an address that begins with this one, or an item node whose value is such a space
abbrev pub IsInSpace : List Segment → Node → Value → Type 0
IsInSpace at (Cell address name arguments) v = BeginsWith at address
IsInSpace at (Item address arguments) v = IsSpaceIn at (out-Value v)

-- the node is of the cells of this name at exactly this address
abbrev pub IsOfCells : List Segment → Label → Node → Type 0
IsOfCells at name (Cell address x arguments) = (address ≡ at) × (x ≡ name)
IsOfCells at name (Item address arguments) = ⊥

-- a clearing of this scope begins with the entry
abbrev pub IsInScope : Scope → Entry → Type 0
IsInScope scope.All e = Unit {0}
IsInScope (scope.Space at) e = IsInSpace at e.node e.reply.value
IsInScope (scope.Cells at name) e = IsOfCells at name e.node
IsInScope (scope.One n) e = e.node ≡ n

-- n reaches no held node of these
abbrev pub IsOutside : Model → (Entry → Type 0) → List Entry → Node → Type 0
IsOutside model In held n = (e : Entry) → Has held e → In e → Reaches model n e.node → ⊥

-- after a clearing exactly the held nodes are held that reach none of these, as they were
pub record Clears (model : Model) (In : Entry → Type 0) (held kept : List Entry) : Type 0 where
  pub once : Distinct (nodes_of kept)
  pub only : (e : Entry) → Has kept e → Has held e × IsOutside model In held e.node
  pub whole : (e : Entry) → Has held e → IsOutside model In held e.node → Has kept e

-- it is told of each key whether it is changed
pub record Tells (look other : Key → KeyResult) (changed : Key → Bool) : Type 0 where
  pub same : (k : Key) → changed k ≡ false → other k ≡ look k
  pub differs : (k : Key) → changed k ≡ true → other k ≡ look k → ⊥

-- a recorded key is changed
pub record HasChanged (changed : Key → Bool) (e : Entry) : Type 0 where
  pub key : Key
  pub among : Has e.keys key
  pub is : changed key ≡ true

-- an entry of this node is of these, or one that it leads to by recorded asks
pub data IsTouched (In : Entry → Type 0) (held : List Entry) : Node → Type 0 where
  Here : (e : Entry) → Has held e → In e → IsTouched In held e.node
  ByAsk : (e : Entry) → Has held e → (m : Node) → Has e.asks m → IsTouched In held m → IsTouched In held e.node

-- the second is the first, in order, without the entries of nodes that are out
pub data Sifts (Out : Node → Type 0) : List Entry → List Entry → Type 0 where
  NoneLeft : Sifts Out [] []
  Keeps : (e : Entry) (es ks : List Entry) → (Out e.node → ⊥) → Sifts Out es ks → Sifts Out (e ∷ es) (e ∷ ks)
  Drops : (e : Entry) (es ks : List Entry) → Out e.node → Sifts Out es ks → Sifts Out (e ∷ es) ks
