-- What a memo does to the entries that it holds.
use Rattle.std.specs.Prelude.{◌≡◌, ◌↔◌, ℕ, ◌+◌, ◌<◌, ◌≤◌, Bool, List, [], ◌∷◌, ◌++◌, None, length, take, map}
use Rattle.mx_graph.specs.declared.ids.NodeId.{NodeId}
use Rattle.mx_value.specs.declared.node.Node.{Node}
use Rattle.mx_edit.specs.declared.key.Key.{Key}
use Rattle.mx_edit.specs.declared.scope.Scope.{Scope}
use Rattle.mx_edit.specs.declared.scope.Scope.TheVariants as scope
use Rattle.mx_edit.specs.Entry.{Entry}
use Rattle.mx_vertices.specs.declared.slot.Body.{Body}
use Rattle.mx_vertices.specs.Found.{IsHeldAs, IsHeldWith, IsNew}
use Rattle.mx_vertices.specs.Held.{entry_with}
use Rattle.mx_vertices.specs.Kept.{Kept, looked, asked, IsToGo}
use Rattle.mx_vertices.specs.Kept as kept
use Rattle.mx_vertices.specs.Reading.{LookedUp, Asked, AreTakers, id_at}
use Rattle.mx_invalidation.specs.Stamps.{renumbered}
use Rattle.mx_vertices.specs.Places as places
use Rattle.mx_memo.specs.Memos.{Memory, AreHeld, HoldsLast}
use Rattle.mx_memo.specs.Namespaces.{namespace_held}
use Rattle.mx_memo.specs.Order.{IsInOrder}
use Rattle.mx_clear.specs.Scope.{is_any, is_in_space, is_of_cells, is_one}
use Rattle.mx_runs.specs.Lists.{Has, Distinct}
use Rattle.mx_answers.specs.Held.{nodes_of}
use Rattle.mx_answers.specs.Retention.{HasChanged, IsInScope, IsTouched, Sifts}
use Rattle.mx_memo_laws.specs.Entries.{node_under, nodes_under, entries_of, entry_held, IsOrdered}

-- nothing is held twice
abbrev pub HeldOnce : List Kept → Type 0
HeldOnce held = Distinct (nodes_of (entries_of held))

-- a held node is that of an entry
abbrev pub HeldIsEntered : Type 0
HeldIsEntered = (held : List Kept) (id : ℕ) (n : Node) → IsHeldAs held id n → Has (nodes_of (entries_of held)) n

-- the node is held under some id
pub record IsUnderId (held : List Kept) (n : Node) : Type 0 where
  pub id : ℕ
  pub is : IsHeldAs held id n

-- the node of an entry is held
abbrev pub EnteredIsHeld : Type 0
EnteredIsHeld = (held : List Kept) (n : Node) → Has (nodes_of (entries_of held)) n → IsUnderId held n

-- a node is new exactly where no entry is its
abbrev pub NewIsNotEntered : Type 0
NewIsNotEntered = (held : List Kept) (n : Node) → IsNew held n ↔ (Has (nodes_of (entries_of held)) n → ⊥)

-- an entry of what is held has the node, the reply and the reads of this body
pub record IsEntered (held : List Kept) (body : Body) : Type 0 where
  pub entry : Entry
  pub among : Has (entries_of held) entry
  pub node_is : entry.node ≡ body.node
  pub reply_is : entry.reply ≡ body.reply
  pub reads_are : entry.reads ≡ body.reads

-- a node is held with the reply and the reads of this entry
pub record IsOfBody (held : List Kept) (e : Entry) : Type 0 where
  pub id : ℕ
  pub body : Body
  pub is : IsHeldWith held id body
  pub node_is : e.node ≡ body.node
  pub reply_is : e.reply ≡ body.reply
  pub reads_are : e.reads ≡ body.reads

-- what is entered is held under some id
abbrev pub EntryIsOfBody : Type 0
EntryIsOfBody = (held : List Kept) (e : Entry) → Has (entries_of held) e → IsOfBody held e

-- what is held under an id is entered
abbrev pub BodyIsEntered : Type 0
BodyIsEntered = (held : List Kept) (id : ℕ) (body : Body) → IsHeldWith held id body → IsEntered held body

-- the node that is held under an id is the one under it
abbrev pub OneUnderId : Type 0
OneUnderId = (m : Memory) (id : ℕ) (n : Node) → IsOrdered m → IsHeldAs m.held id n → node_under m.held id ≡ n

-- what is held under the id of a node is of that node
abbrev pub BodyIsOfNode : Type 0
BodyIsOfNode = (m : Memory) (id : ℕ) (n : Node) (body : Body) → IsOrdered m → IsHeldAs m.held id n → IsHeldWith m.held id body → body.node ≡ n

-- the nodes that are held under these ids are entered
abbrev pub AsksAreEntered : Type 0
AsksAreEntered = (m : Memory) (ids : List NodeId) (x : Node) → IsOrdered m → AreHeld m.held ids → Has (nodes_under m.held (map id_at ids)) x → Has (nodes_of (entries_of m.held)) x

-- as many are entered as are held
abbrev pub AsManyEntries : Type 0
AsManyEntries = (held : List Kept) → length (entries_of held) ≡ length held

-- what is in flight has no part in the order, nor have stamps that are given later
abbrev pub OrderIsOfHeld : Type 0
OrderIsOfHeld = (old new : Memory) → IsOrdered old → new.held ≡ old.held → old.last ≤ new.last → IsOrdered new

-- the entry of the node has these keys and asks
pub record AreReadOf (held : List Kept) (n : Node) (keys : List Key) (asks : List Node) : Type 0 where
  pub entry : Entry
  pub among : Has (entries_of held) entry
  pub node_is : entry.node ≡ n
  pub keys_are : entry.keys ≡ keys
  pub asks_are : entry.asks ≡ asks

-- the keys and asks that are read under the id of a node are those of its entry
abbrev pub ReadIsEntered : Type 0
ReadIsEntered = (m : Memory) (id : ℕ) (n : Node) (keys : List Key) (ids : List NodeId) → IsOrdered m → IsHeldAs m.held id n → LookedUp m.held id keys → Asked m.held id ids → AreReadOf m.held n keys (nodes_under m.held (map id_at ids))

-- one more entry stands behind those that were held, and order stays
pub record HoldsEntry (old new : Memory) (e : Entry) : Type 0 where
  pub entries : entries_of new.held ≡ entries_of old.held ++ e ∷ []
  pub ordered : IsOrdered new

-- a node that is held last is the last entry, where it asks what was held
abbrev pub Holding : Type 0
Holding = (old new : Memory) (id : ℕ) (body : Body) (keys : List Key) (asks : List NodeId) → IsOrdered old → AreHeld old.held asks → IsInOrder new → HoldsLast old new (entry_with (old.last + 1) id body keys asks) → HoldsEntry old new (entry_held old.held body keys asks)

-- what is held last is held under its id
abbrev pub LastIsHeld : Type 0
LastIsHeld = (old new : Memory) (id : ℕ) (body : Body) (keys : List Key) (asks : List NodeId) → HoldsLast old new (entry_with (old.last + 1) id body keys asks) → IsHeldAs new.held id body.node

-- what was held is held, behind it what was held later
pub record HasGrown (start m : Memory) : Type 0 where
  pub more : List Kept
  pub is : m.held ≡ start.held ++ more
  pub later : (r : Kept) → places.Has more r → start.last < r.stamp
  pub given : start.last ≤ m.last

-- a memo has grown from itself
abbrev pub GrownFromItself : Type 0
GrownFromItself = (m : Memory) → HasGrown m m

-- it grows by what is held last
abbrev pub GrowsByHolding : Type 0
GrowsByHolding = (start old new : Memory) (id : ℕ) (body : Body) (keys : List Key) (asks : List NodeId) → HasGrown start old → HoldsLast old new (entry_with (old.last + 1) id body keys asks) → HasGrown start new

-- what was held under an id is held under it
abbrev pub HeldStays : Type 0
HeldStays = (start m : Memory) (id : ℕ) (n : Node) → HasGrown start m → IsHeldAs start.held id n → IsHeldAs m.held id n

-- the entries that were held are the first
pub record HasGrownBy (start m : Memory) : Type 0 where
  pub more : List Entry
  pub is : entries_of m.held ≡ entries_of start.held ++ more

-- a memo that has grown holds the entries that it held, and others behind them
abbrev pub EntriesStay : Type 0
EntriesStay = (start m : Memory) → IsOrdered start → HasGrown start m → HasGrownBy start m

-- exactly what was held at the start is left
pub record IsRolledBack (start old new : Memory) : Type 0 where
  pub same : new.held ≡ start.held
  pub first : entries_of new.held ≡ take (length start.held) (entries_of old.held)
  pub ordered : IsOrdered new

-- a roll-back to the last stamp that was given at the start leaves what was held then
abbrev pub RollingBack : Type 0
RollingBack = (start old new : Memory) → IsOrdered start → IsOrdered old → HasGrown start old → kept.Sifts (kept.IsTouched (λ r. start.last < r.stamp) old.held) old.held new.held → new.last ≡ old.last → IsRolledBack start old new

-- what is left is the entries without those that are out, and order stays
pub record AreSifted (In : Entry → Type 0) (old new : Memory) : Type 0 where
  pub entries : Sifts (IsTouched In (entries_of old.held)) (entries_of old.held) (entries_of new.held)
  pub ordered : IsOrdered new

-- what drops the nodes that a changed key touches drops the entries that it touches
abbrev pub Retention : Type 0
Retention = (changed : Key → Bool) (old new : Memory) → IsOrdered old → HeldOnce old.held → kept.Sifts (kept.IsTouched (kept.HasChanged changed) old.held) old.held new.held → new.last ≡ old.last → AreSifted (HasChanged changed) old new

-- the test of a held node that a clearing makes
abbrev pub test_of : Scope → Body → Bool
test_of scope.All = is_any
test_of (scope.Space at) = is_in_space at
test_of (scope.Cells at name) = is_of_cells at name
test_of (scope.One n) = is_one n

-- what drops the nodes that the test of a scope touches drops the entries that the scope does
abbrev pub Clearing : Type 0
Clearing = (scope : Scope) (old new : Memory) → IsOrdered old → HeldOnce old.held → kept.Sifts (kept.IsTouched (IsToGo (test_of scope)) old.held) old.held new.held → new.last ≡ old.last → AreSifted (IsInScope scope) old new

-- the same entries are held, in order
pub record HoldsSame (old new : Memory) : Type 0 where
  pub entries : entries_of new.held ≡ entries_of old.held
  pub ordered : IsOrdered new

-- new stamps change no entry
abbrev pub Renumbering : Type 0
Renumbering = (old new : Memory) → IsOrdered old → new.held ≡ renumbered 0 old.held → new.last ≡ length old.held → HoldsSame old new

-- the namespace that is held for the node of an entry is that of its reply
abbrev pub NamespaceIsEntered : Type 0
NamespaceIsEntered = (held : List Kept) (e : Entry) → HeldOnce held → Has (entries_of held) e → namespace_held held e.node ≡ e.reply.namespace

-- for a node of no entry none is held
abbrev pub NoNamespaceIsHeld : Type 0
NoNamespaceIsHeld = (held : List Kept) (n : Node) → (Has (nodes_of (entries_of held)) n → ⊥) → namespace_held held n ≡ None

-- the entry of the second node has asked the first
pub record IsAsker (entries : List Entry) (n asker : Node) : Type 0 where
  pub entry : Entry
  pub among : Has entries entry
  pub node_is : entry.node ≡ asker
  pub asks : Has entry.asks n

-- the entry of the node has the key
pub record IsReader (entries : List Entry) (key : Key) (reader : Node) : Type 0 where
  pub entry : Entry
  pub among : Has entries entry
  pub node_is : entry.node ≡ reader
  pub reads : Has entry.keys key

-- the nodes under the ids of those that asked a node are exactly those whose entries did
abbrev pub AskersAreEntered : Type 0
AskersAreEntered = (m : Memory) (id : ℕ) (n : Node) (ids : List NodeId) → IsOrdered m → HeldOnce m.held → IsHeldAs m.held id n → AreTakers m.held (asked id) ids → (x : Node) → Has (nodes_under m.held (map id_at ids)) x ↔ IsAsker (entries_of m.held) n x

-- the nodes under the ids of those that looked a key up are exactly those whose entries have it
abbrev pub ReadersAreEntered : Type 0
ReadersAreEntered = (m : Memory) (key : Key) (ids : List NodeId) → IsOrdered m → AreTakers m.held (looked key) ids → (x : Node) → Has (nodes_under m.held (map id_at ids)) x ↔ IsReader (entries_of m.held) key x
