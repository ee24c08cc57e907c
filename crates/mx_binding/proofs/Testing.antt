-- The walk of an address up to its next item does nothing but test keys, and tests the same however it goes on.
use Rattle.std.proofs.Common.{◌≡◌, Bool, true, false, List, [], ◌∷◌, Option, Some, None, length, refl}
use Rattle.std.specs.Prelude.{nat_le, if◌then◌else◌}
use Rattle.mx_value.specs.declared.value.Value.{Value}
use Rattle.mx_value.specs.declared.value.Segment.{Segment, out-Segment}
use Rattle.mx_value.specs.declared.value.Segment.TheOpen.{Segment-F}
use Rattle.mx_value.specs.declared.namespace.Namespace.{Namespace}
use Rattle.mx_value.specs.declared.node.Node.TheVariants.{Item}
use Rattle.mx_syntax.specs.Binding.{bound, is_wrong_count}
use Rattle.mx_edit.specs.Entry.{Entry}
use Rattle.mx_edit.specs.declared.key.Key.{Key}
use Rattle.mx_edit.specs.declared.key.Key.TheVariants as key
use Rattle.mx_edit.specs.declared.key.KeyResult.{KeyResult}
use Rattle.mx_edit.specs.declared.key.KeyResult.TheVariants as found
use Rattle.mx_runs.specs.Runs.{Model, Run, Ends, Tests, NoSuch, WrongCount, Event, Looked, Tested, Asked, Noted}
use Rattle.mx_runs.specs.Meaning.{Leads}
use Rattle.mx_answers.specs.Records.{recorded_keys, recorded_asks, reads_of}
use Rattle.mx_meaning.specs.Namespaces.{Step, root, child, ends_with_name}
use Rattle.mx_meaning.specs.Walks.{Onward, entered, item_entered, stepped, walked, walked_from}
use Rattle.mx_walks.specs.Ways.{Leading, Came, AsksAt, Refused, item_way, step_way, way_of, begun_way, resumed_way, leading_run}
use Rattle.mx_binding.specs.Walking.{AreAnswered, AsksNoInput}

-- each event is a test
abbrev pub AreTests : List Event → Type 0
AreTests [] = Unit {0}
AreTests (Looked k ∷ es) = ⊥
AreTests (Tested k ∷ es) = AreTests es
AreTests (Asked m r ∷ es) = ⊥
AreTests (Noted r ∷ es) = ⊥

-- ---- tests record nothing

pub no_keys : (model : Model) (es : List Event) → AreTests es → recorded_keys model es ≡ []
no_keys model [] t = refl
no_keys model (Tested k ∷ es) t = no_keys model es t
no_keys model (Looked k ∷ es) t = absurd t
no_keys model (Asked m r ∷ es) t = absurd t
no_keys model (Noted r ∷ es) t = absurd t

pub no_asks : (model : Model) (es : List Event) → AreTests es → recorded_asks model es ≡ []
no_asks model [] t = refl
no_asks model (Tested k ∷ es) t = no_asks model es t
no_asks model (Looked k ∷ es) t = absurd t
no_asks model (Asked m r ∷ es) t = absurd t
no_asks model (Noted r ∷ es) t = absurd t

pub no_reads : (es : List Event) → AreTests es → reads_of es ≡ []
no_reads [] t = refl
no_reads (Tested k ∷ es) t = no_reads es t
no_reads (Looked k ∷ es) t = absurd t
no_reads (Asked m r ∷ es) t = absurd t
no_reads (Noted r ∷ es) t = absurd t

pub none_asked : (held : List Entry) (es : List Event) → AreTests es → AreAnswered held es
none_asked held [] t = tt
none_asked held (Tested k ∷ es) t = none_asked held es t
none_asked held (Looked k ∷ es) t = absurd t
none_asked held (Asked m r ∷ es) t = absurd t
none_asked held (Noted r ∷ es) t = absurd t

-- ---- walks

-- the run goes on as a walk leads, by tests alone
pub record ComesByTests (model : Model) (run : Onward → Run) (to : Leading) : Type 0 where
  pub events : List Event
  pub tests : AreTests events
  pub leads : (go : Onward) → Leads model (run go) events (leading_run to go)
  pub own : AsksNoInput model to

module _ (model : Model) where
  at_once : (to : Leading) → AsksNoInput model to → ComesByTests model (leading_run to) to
  at_once to i = record { events = []; tests = tt; leads = λ go. refl; own = i }

  one_comes : (b : Bool) (f g : Onward → Run) (l k : Leading) → ComesByTests model f l → ComesByTests model g k → ComesByTests model (λ go. if b then f go else g go) (if b then l else k)
  one_comes true f g l k p q = p
  one_comes false f g l k p q = q

  tested : (k : Key) (next : KeyResult → Onward → Run) (to : Leading) → ComesByTests model (next (model.look k)) to → ComesByTests model (λ go. Tests k (λ q. next q go)) to
  tested k next to c = record { events = Tested k ∷ c.events; tests = c.tests; leads = λ go. (refl, c.leads go); own = c.own }

  refused : ComesByTests model (λ go. Ends NoSuch) (Refused NoSuch)
  refused = at_once (Refused NoSuch) tt

  module _ (more : List Segment) (ns : Namespace) (args : List Value) where
    -- an item with the segments behind it
    abbrev item_on : KeyResult → Onward → Run
    item_on q go = item_entered ns args (λ next. walked_from more next go) q

    item_comes : (q : KeyResult) → ComesByTests model (item_on q) (item_way more ns args q)
    item_comes (found.Params ps) =
        one_comes (is_wrong_count ps.params (length args))
        (λ go. Ends WrongCount)
        (λ go. leading_run (AsksAt (Item ns.at (bound ps.params args)) more) go)
        (Refused WrongCount)
        (AsksAt (Item ns.at (bound ps.params args)) more)
        (at_once (Refused WrongCount) tt)
        (at_once (AsksAt (Item ns.at (bound ps.params args)) more) refl)
    item_comes other = refused

  step_comes : (more : List Segment) → ((next : Namespace) → ComesByTests model (walked_from more next) (way_of model.look more next)) → (ns : Namespace) (s : Step) → ComesByTests model (λ go. stepped s ns (λ next. walked_from more next go)) (step_way model.look more s ns (λ next. way_of model.look more next))
  step_comes more on ns (Segment-F.Name name) = on (child name ns)
  step_comes more on ns (Segment-F.Item args) =
      one_comes (ends_with_name ns.at)
      (λ go. Tests (key.Params ns.source) (λ q. item_on more ns args q go))
      (λ go. Ends NoSuch)
      (item_way more ns args (model.look (key.Params ns.source)))
      (Refused NoSuch)
      (tested (key.Params ns.source) (item_on more ns args) (item_way more ns args (model.look (key.Params ns.source))) (item_comes more ns args (model.look (key.Params ns.source))))
      refused

  walk_comes : (rest : List Segment) (ns : Namespace) → ComesByTests model (walked_from rest ns) (way_of model.look rest ns)
  walk_comes [] ns = at_once (Came ns) tt
  walk_comes (s ∷ more) ns =
      one_comes (nat_le 64 (length ns.at))
      (λ go. Ends NoSuch)
      (λ go. stepped (out-Segment s) ns (λ next. walked_from more next go))
      (Refused NoSuch)
      (step_way model.look more (out-Segment s) ns (λ next. way_of model.look more next))
      refused
      (step_comes more (walk_comes more) ns (out-Segment s))

  -- from the top
  pub begun_comes : (at : List Segment) → ComesByTests model (walked at) (begun_way model.look at)
  begun_comes [] = refused
  begun_comes (s ∷ more) = walk_comes (s ∷ more) root

  -- and behind an answer
  pub resumed_comes : (rest : List Segment) (came : Option Namespace) → ComesByTests model (λ go. entered came (λ ns. walked_from rest ns go)) (resumed_way model.look rest came)
  resumed_comes rest (Some ns) = walk_comes rest ns
  resumed_comes rest None = refused
