-- Walks of addresses where every look-up is answered: a function, which comes to the next ask or to its end.
use Rattle.std.specs.Prelude.{nat_le, if◌then◌else◌, List, [], ◌∷◌, length, drop, Option, Some, None}
use Rattle.mx_value.specs.declared.value.Value.{Value}
use Rattle.mx_value.specs.declared.value.Segment.{Segment, out-Segment}
use Rattle.mx_value.specs.declared.value.Segment.TheOpen.{Segment-F}
use Rattle.mx_value.specs.declared.namespace.Namespace.{Namespace}
use Rattle.mx_value.specs.declared.node.Node.{Node}
use Rattle.mx_value.specs.declared.node.Node.TheVariants.{Item}
use Rattle.mx_syntax.specs.Binding.{bound, is_wrong_count}
use Rattle.mx_edit.specs.declared.key.Key.{Key}
use Rattle.mx_edit.specs.declared.key.Key.TheVariants as key
use Rattle.mx_edit.specs.declared.key.KeyResult.{KeyResult}
use Rattle.mx_edit.specs.declared.key.KeyResult.TheVariants as found
use Rattle.mx_runs.specs.Runs.{Outcome, NoSuch, WrongCount, Run, Ends, Asks}
use Rattle.mx_meaning.specs.Namespaces.{Step, root, child, ends_with_name}
use Rattle.mx_meaning.specs.Walks.{Onward, entered, walked_from}
use Rattle.mx_code_law.specs.States.{Next, End, Ask}
use Rattle.mx_code_law.specs.Finding.{Again, Place}
use Rattle.mx_walks.specs.declared.items.Stop.{Stop}
use Rattle.mx_walks.specs.declared.items.Stop.TheVariants as stop
use Rattle.mx_walks.specs.declared.walks.Walked.{Walked}
use Rattle.mx_walks.specs.declared.walks.Walked.TheVariants as walked

-- what a walk leads to: a namespace, an ask with the segments behind it, or a refusal
pub data Leading : Type 0 where
  Came : Namespace → Leading
  AsksAt : Node → List Segment → Leading
  Refused : Outcome → Leading

-- an item of a space, by the parameters of the space, with these segments behind it
abbrev pub item_way : List Segment → Namespace → List Value → KeyResult → Leading
item_way more ns args (found.Params ps) =
    if is_wrong_count ps.params (length args) then Refused WrongCount else AsksAt (Item ns.at (bound ps.params args)) more
item_way more ns args other = Refused NoSuch

-- what answers each key
abbrev pub Look : Type 0
Look = Key → KeyResult

-- a step from a namespace, with these segments behind it: to a child, from where the walk goes on, or to an item
abbrev pub step_way : Look → List Segment → Step → Namespace → (Namespace → Leading) → Leading
step_way look more (Segment-F.Name name) ns to = to (child name ns)
step_way look more (Segment-F.Item args) ns to =
    if ends_with_name ns.at then item_way more ns args (look (key.Params ns.source)) else Refused NoSuch

-- on through these segments, up to the next item
abbrev pub way_of : Look → List Segment → Namespace → Leading
way_of look [] ns = Came ns
way_of look (s ∷ more) ns =
    if nat_le 64 (length ns.at) then Refused NoSuch else step_way look more (out-Segment s) ns (λ next. way_of look more next)

-- the walk of an address from the top
abbrev pub begun_way : Look → List Segment → Leading
begun_way look [] = Refused NoSuch
begun_way look (s ∷ more) = way_of look (s ∷ more) root

-- on behind an answer
abbrev pub resumed_way : Look → List Segment → Option Namespace → Leading
resumed_way look rest (Some ns) = way_of look rest ns
resumed_way look rest None = Refused NoSuch

-- the walk of an address, from where it is
abbrev pub walked_way : Look → Place → List Segment → Leading
walked_way look None at = begun_way look at
walked_way look (Some way) at = resumed_way look way.0 way.1

-- what comes of an instruction by what its walk leads to
abbrev pub leading_next : Leading → Again → (Namespace → Next) → Next
leading_next (Came ns) again to = to ns
leading_next (AsksAt m rest) again to = Ask m (λ r. again rest r.namespace)
leading_next (Refused o) again to = End o

-- how a run goes on by what a walk leads to
abbrev pub leading_run : Leading → Onward → Run
leading_run (Came ns) go = go ns
leading_run (AsksAt m rest) go = Asks m (λ r. entered r.namespace (λ ns. walked_from rest ns go))
leading_run (Refused o) go = Ends o

-- what a walk led to, as the definitions have it
abbrev pub told : Walked → Leading
told (walked.Came ns) = Came ns
told (walked.Asks m rest) = AsksAt m rest
told walked.NoSuch = Refused NoSuch
told walked.WrongCount = Refused WrongCount

-- where a walk through these segments stopped, likewise
abbrev pub stopped_way : List Segment → Stop → Leading
stopped_way segments (stop.Came ns) = Came ns
stopped_way segments (stop.Asks m passed) = AsksAt m (drop passed segments)
stopped_way segments stop.NoSuch = Refused NoSuch
stopped_way segments stop.WrongCount = Refused WrongCount
