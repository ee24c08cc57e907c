-- The walk of an address past the items that are held.
use Rattle.std.specs.Prelude.{◌≡◌, false, List, [], ◌∷◌, ◌++◌, Option}
use Rattle.mx_value.specs.declared.value.Segment.{Segment}
use Rattle.mx_value.specs.declared.namespace.Namespace.{Namespace}
use Rattle.mx_value.specs.declared.node.Node.{Node}
use Rattle.mx_value.specs.declared.read.Read.TheVariants as read
use Rattle.mx_edit.specs.Entry.{Entry}
use Rattle.mx_edit.specs.declared.reply.Reply.{Reply}
use Rattle.mx_vertices.specs.Kept.{Kept}
use Rattle.mx_vertices.specs.Found.{IsNew}
use Rattle.mx_memo.specs.Memos.{AreHeld}
use Rattle.mx_runs.specs.Lists.{Has, EachOnce}
use Rattle.mx_runs.specs.Runs.{Model, NoSuch, WrongCount, Event, Looked, Tested, Asked, Noted}
use Rattle.mx_runs.specs.Inputs.{is_input}
use Rattle.mx_runs.specs.Meaning.{Leads}
use Rattle.mx_answers.specs.Records.{recorded_keys, recorded_asks, reads_of}
use Rattle.mx_meaning.specs.Walks.{Onward, walked}
use Rattle.mx_suspended.specs.Recorded.{Recorded, Adds}
use Rattle.mx_walks.specs.Ways.{Leading, Came, AsksAt, Refused, leading_run, told}
use Rattle.mx_memo_laws.specs.Entries.{entries_of}
use Rattle.mx_binding.specs.Records.{recorded_in}
use Rattle.mx_binding.specs.declared.records.Records.{Records}
use Rattle.mx_binding.specs.declared.walking.Led.{Led}
use Rattle.mx_binding.specs.declared.walking.Led.TheVariants as led
use Rattle.mx_binding.specs.declared.walking.Passed.{Passed}
use Rattle.mx_binding.specs.declared.walking.Passed.TheVariants as passed

abbrev pub Address : Type 0
Address = List Segment

-- the node is held with this reply
pub record IsAnswered (held : List Entry) (m : Node) (r : Reply) : Type 0 where
  pub entry : Entry
  pub among : Has held entry
  pub node_is : entry.node ≡ m
  pub reply_is : entry.reply ≡ r

-- each node that was asked is held with the reply that it gave
abbrev pub AreAnswered : List Entry → List Event → Type 0
AreAnswered held [] = Unit {0}
AreAnswered held (Asked m r ∷ es) = IsAnswered held m r × AreAnswered held es
AreAnswered held (Looked k ∷ es) = AreAnswered held es
AreAnswered held (Tested k ∷ es) = AreAnswered held es
AreAnswered held (Noted r ∷ es) = AreAnswered held es

-- what is asked is no input
abbrev pub AsksNoInput : Model → Leading → Type 0
AsksNoInput model (Came ns) = Unit {0}
AsksNoInput model (AsksAt m rest) = is_input model m ≡ false
AsksNoInput model (Refused o) = Unit {0}

-- The walk of an address comes to this, however it goes on there, by what it tests and by the replies of held nodes that
-- it asks; and so much is recorded of it.
pub record WalksTo (model : Model) (held : List Entry) (at : Address) (to : Leading) (so_far : Recorded) : Type 0 where
  pub events : List Event
  pub leads : (go : Onward) → Leads model (walked at go) events (leading_run to go)
  pub answered : AreAnswered held events
  pub own : AsksNoInput model to
  pub keys : EachOnce (recorded_keys model events) so_far.keys
  pub asks : EachOnce (recorded_asks model events) so_far.asks
  pub reads : EachOnce (reads_of events) so_far.reads

-- the walk of an address stands here, with these records: each node that it asked is held
pub record Stands (model : Model) (held : List Kept) (at : Address) (to : Leading) (records : Records) : Type 0 where
  pub walk : WalksTo model (entries_of held) at to (recorded_in held records)
  pub asks : AreHeld held records.asks

-- what a walk past held items leads to, as the definitions of walks have it
abbrev pub led_as : Led → Leading
led_as (led.Came ns) = Came ns
led_as (led.Waits i rest) = AsksAt i rest
led_as led.NoSuch = Refused NoSuch
led_as led.WrongCount = Refused WrongCount

-- it waits for no node but one that is not held
abbrev pub WaitsForNew : List Kept → Led → Type 0
WaitsForNew held (led.Came ns) = Unit {0}
WaitsForNew held (led.Waits i rest) = IsNew held i
WaitsForNew held led.NoSuch = Unit {0}
WaitsForNew held led.WrongCount = Unit {0}

-- the walk of an address, past each item that is held, leads to this
pub record IsLed (model : Model) (held : List Kept) (at : Address) (to : Led) (records : Records) : Type 0 where
  pub stands : Stands model held at (led_as to) records
  pub waits : WaitsForNew held to

-- the walk of an address leads to this, by these events and others behind them
pub record IsLedOn (model : Model) (held : List Kept) (at : Address) (es : List Event) (to : Led) (records : Records) : Type 0 where
  pub led : IsLed model held at to records
  pub more : List Event
  pub is : led.stands.walk.events ≡ es ++ more

-- the walk of an address stands here, by these events and others behind them
pub record StandsOn (model : Model) (held : List Kept) (at : Address) (es : List Event) (to : Leading) (records : Records) : Type 0 where
  pub stands : Stands model held at to records
  pub more : List Event
  pub is : stands.walk.events ≡ es ++ more

-- by these events and others behind them it stands at the next place, or has come to where it leads
abbrev pub IsPastOn : Model → List Kept → Address → List Event → Passed → Records → Type 0
IsPastOn model held at es (passed.On walked) records = StandsOn model held at es (told walked) records
IsPastOn model held at es (passed.Stops to) records = IsLedOn model held at es to records

-- a walk that stood there, with those records, goes on and leads to this with these
abbrev pub LeadsOn : Model → List Kept → Leading → Records → Led → Records → Type 0
LeadsOn model held from olds to news = (at : Address) → (s : Stands model held at from olds) → IsLedOn model held at s.walk.events to news

-- likewise past one item
abbrev pub PassesOn : Model → List Kept → Leading → Records → Passed → Records → Type 0
PassesOn model held from olds past news = (at : Address) → (s : Stands model held at from olds) → IsPastOn model held at s.walk.events past news

-- A walk that waited for an item is to go on with what the item gives. The item is held now, with all that was held as
-- the walk came to wait, and it is recorded that the walk asked it.
pub record GoesOn (model : Model) (held : List Kept) (at : Address) (rest : List Segment) (came : Option Namespace) (records : Records) : Type 0 where
  pub earlier : List Entry
  pub still : (e : Entry) → Has earlier e → Has (entries_of held) e
  pub item : Node
  pub before : Recorded
  pub waited : WalksTo model earlier at (AsksAt item rest) before
  pub reply : Reply
  pub answered : IsAnswered (entries_of held) item reply
  pub came_is : came ≡ reply.namespace
  pub keys : records.seen.keys ≡ before.keys
  pub asks : Adds before.asks item (recorded_in held records).asks
  pub reads : Adds before.reads (read.Node item) records.seen.reads
  pub held_asks : AreHeld held records.asks

-- a walk that is to go on asks the item that it waited for, goes on and leads to this
abbrev pub LeadsFurther : Model → List Kept → List Segment → Option Namespace → Records → Led → Records → Type 0
LeadsFurther model held rest came olds to news =
    (at : Address) → (g : GoesOn model held at rest came olds) → IsLedOn model held at (g.waited.events ++ Asked g.item g.reply ∷ []) to news
