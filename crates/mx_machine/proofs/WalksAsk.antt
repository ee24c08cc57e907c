-- What the walk of an address asks: items alone, and none where the address has no item.
use Rattle.std.proofs.Common.{◌≡◌, Bool, true, false, ◌&&◌, List, [], ◌∷◌, Option, Some, None, length, refl, sym, ap, subst}
use Rattle.std.specs.Prelude.{nat_le, if◌then◌else◌}
use Rattle.mx_value.specs.declared.value.Value.{Value}
use Rattle.mx_value.specs.declared.value.Segment.{Segment, out-Segment}
use Rattle.mx_value.specs.declared.value.Segment.TheOpen.{Segment-F}
use Rattle.mx_value.specs.declared.namespace.Namespace.{Namespace}
use Rattle.mx_value.specs.declared.node.Node.{Node}
use Rattle.mx_value.specs.declared.node.Node.TheVariants.{Cell, Item}
use Rattle.mx_syntax.specs.Binding.{bound, is_wrong_count}
use Rattle.mx_edit.specs.declared.key.Key.{Key}
use Rattle.mx_edit.specs.declared.key.Key.TheVariants as key
use Rattle.mx_edit.specs.declared.key.KeyResult.{KeyResult}
use Rattle.mx_edit.specs.declared.key.KeyResult.TheVariants as found
use Rattle.mx_edit.specs.declared.reply.Reply.{Reply}
use Rattle.mx_runs.specs.Runs.{Model, Run, Outcome, Ends, Tests, Asks, NoSuch, WrongCount, Event, Looked, Tested, Asked, Noted}
use Rattle.mx_runs.specs.Inputs.{is_name, is_static}
use Rattle.mx_runs.specs.Meaning.{Leads}
use Rattle.mx_runs.proofs.Levels.{ends_only}
use Rattle.mx_meaning.specs.Namespaces.{Step, root, child, ends_with_name}
use Rattle.mx_meaning.specs.Walks.{Onward, entered, item_entered, stepped, walked, walked_from}

-- the node is of an item
pub record IsItem (m : Node) : Type 0 where
  pub at : List Segment
  pub args : List Value
  pub is : m ≡ Item at args

-- a walk that leads to nothing more
abbrev pub stop : Onward
stop ns = Ends NoSuch

module _ (model : Model) (i : Node) (k : Reply → Run) where
  no_end : (o : Outcome) (es : List Event) → Leads model (Ends o) es (Asks i k) → ⊥
  no_end o es l = let e : Asks i k ≡ Ends o = (ends_only model o (Asks i k) es l).1 in cc

  -- from a namespace, whatever events lead from there to the ask
  abbrev AsksItem : Run → Type 0
  AsksItem run = (es : List Event) → Leads model run es (Asks i k) → IsItem i

  entered_asks : (o : Option Namespace) (on : Onward) → ((ns : Namespace) → AsksItem (on ns)) → AsksItem (entered o on)
  entered_asks (Some ns) on f es l = f ns es l
  entered_asks None on f es l = absurd (no_end NoSuch es l)

  item_asked : (at : List Segment) (vs : List Value) (on : Onward) → ((ns : Namespace) → AsksItem (on ns)) → AsksItem (Asks (Item at vs) (λ r. entered r.namespace on))
  item_asked at vs on f [] l = let e : Asks (Item at vs) (λ r. entered r.namespace on) ≡ Asks i k = l in record { at = at; args = vs; is = (cc) }
  item_asked at vs on f (Asked x v ∷ es) l = entered_asks v.namespace on f es l.2
  item_asked at vs on f (Looked x ∷ es) l = absurd l
  item_asked at vs on f (Tested x ∷ es) l = absurd l
  item_asked at vs on f (Noted x ∷ es) l = absurd l

  counted_asks : (b : Bool) (run : Run) → AsksItem run → AsksItem (if b then Ends WrongCount else run)
  counted_asks true run f es l = absurd (no_end WrongCount es l)
  counted_asks false run f es l = f es l

  found_asks : (ns : Namespace) (args : List Value) (on : Onward) → ((n : Namespace) → AsksItem (on n)) → (q : KeyResult) → AsksItem (item_entered ns args on q)
  found_asks ns args on f (found.Params ps) es l = counted_asks (is_wrong_count ps.params (length args)) _ (item_asked ns.at (bound ps.params args) on f) es l
  found_asks ns args on f q es l = absurd (no_end NoSuch es l)

  tested_asks : (b : Bool) (x : Key) (go : KeyResult → Run) → AsksItem (go (model.look x)) → AsksItem (if b then Tests x go else Ends NoSuch)
  tested_asks true x go f [] l = let e : Tests x go ≡ Asks i k = l in absurd (cc)
  tested_asks true x go f (Tested y ∷ es) l = f es l.1
  tested_asks true x go f (Looked y ∷ es) l = absurd l
  tested_asks true x go f (Asked y v ∷ es) l = absurd l
  tested_asks true x go f (Noted y ∷ es) l = absurd l
  tested_asks false x go f es l = absurd (no_end NoSuch es l)

  stepped_asks : (s : Step) (ns : Namespace) (on : Onward) → ((n : Namespace) → AsksItem (on n)) → AsksItem (stepped s ns on)
  stepped_asks (Segment-F.Name name) ns on f es l = f (child name ns) es l
  stepped_asks (Segment-F.Item args) ns on f es l = tested_asks (ends_with_name ns.at) (key.Params ns.source) (item_entered ns args on) (found_asks ns args on f (model.look (key.Params ns.source))) es l

  short_asks : (b : Bool) (run : Run) → AsksItem run → AsksItem (if b then Ends NoSuch else run)
  short_asks true run f es l = absurd (no_end NoSuch es l)
  short_asks false run f es l = f es l

  from_asks : (at : List Segment) (ns : Namespace) → AsksItem (walked_from at ns stop)
  from_asks [] ns es l = absurd (no_end NoSuch es l)
  from_asks (s ∷ more) ns es l = short_asks (nat_le 64 (length ns.at)) _ (stepped_asks (out-Segment s) ns (λ next. walked_from more next stop) (from_asks more)) es l

  -- what the walk of an address asks is an item
  pub walk_asks_item : (at : List Segment) (es : List Event) → Leads model (walked at stop) es (Asks i k) → IsItem i
  walk_asks_item [] es l = absurd (no_end NoSuch es l)
  walk_asks_item (s ∷ more) es l = from_asks (s ∷ more) root es l

  -- ---- an address without items

  abbrev AsksNone : Run → Type 0
  AsksNone run = (es : List Event) → Leads model run es (Asks i k) → ⊥

  short_none : (b : Bool) (run : Run) → AsksNone run → AsksNone (if b then Ends NoSuch else run)
  short_none true run f es l = no_end NoSuch es l
  short_none false run f es l = f es l

  name_none : (s : Step) (ns : Namespace) (on : Onward) → is_name s ≡ true → ((n : Namespace) → AsksNone (on n)) → AsksNone (stepped s ns on)
  name_none (Segment-F.Name name) ns on e f es l = f (child name ns) es l
  name_none (Segment-F.Item args) ns on e f es l = let z : false ≡ true = e in absurd (cc)

  both_true : (a b : Bool) → (a && b) ≡ true → (a ≡ true) × (b ≡ true)
  both_true true b e = (refl, e)
  both_true false b e = let z : false ≡ true = e in absurd (cc)

  from_none : (at : List Segment) → is_static at ≡ true → (ns : Namespace) → AsksNone (walked_from at ns stop)
  from_none [] e ns es l = no_end NoSuch es l
  from_none (s ∷ more) e ns es l =
      let t = both_true (is_name (out-Segment s)) (is_static more) e in
      short_none (nat_le 64 (length ns.at)) _ (name_none (out-Segment s) ns (λ next. walked_from more next stop) t.0 (from_none more t.1)) es l

  not_true : (b : Bool) → (b ≡ true → ⊥) → b ≡ false
  not_true true f = absurd (f refl)
  not_true false f = refl

  -- an address whose walk asks has an item
  pub asking_is_not_static : (at : List Segment) (es : List Event) → Leads model (walked at stop) es (Asks i k) → is_static at ≡ false
  asking_is_not_static [] es l = absurd (no_end NoSuch es l)
  asking_is_not_static (s ∷ more) es l = not_true (is_static (s ∷ more)) (λ e. from_none (s ∷ more) e root es l)
