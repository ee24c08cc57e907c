-- The run of a node whose walk waits for items: where it stands from item to item. It is said of the node as it is written
-- and of its bound form, which walk alike, since only the end of the walk tells which of them is asked.
use Rattle.std.proofs.Common.{◌≡◌, ℕ, zero, suc, ◌+◌, ◌≤◌, ◌<◌, Bool, true, false, ◌&&◌, List, [], ◌∷◌, ◌++◌, ◌⊎◌, inl, inr, Result, Ok, Err, length, length-append, map, refl, sym, ◌∙◌, ap, subst, arith}
use Rattle.std.specs.Prelude.{if◌then◌else◌}
use Rattle.std.proofs.lemmas.List.{append-nil, append_assoc}
use Rattle.mx_value.specs.declared.value.Value.{Value}
use Rattle.mx_value.specs.declared.value.Segment.{Segment}
use Rattle.mx_value.specs.declared.value.Segment.TheVariants as segment
use Rattle.mx_value.specs.declared.namespace.Namespace.{Namespace}
use Rattle.mx_value.specs.declared.node.Node.{Node}
use Rattle.mx_value.specs.declared.node.Node.TheVariants.{Cell, Item}
use Rattle.mx_value.specs.declared.read.Read.TheVariants as read
use Rattle.mx_value.specs.declared.refusal.EvalRefusal.{EvalRefusal}
use Rattle.mx_value.specs.declared.refusal.EvalRefusal.TheVariants as refusal
use Rattle.mx_edit.specs.Entry.{Entry}
use Rattle.mx_edit.specs.declared.key.Key.{Key}
use Rattle.mx_edit.specs.declared.key.Key.TheVariants.{Input}
use Rattle.mx_edit.specs.declared.reply.Reply.{Reply}
use Rattle.mx_vertices.specs.declared.slot.Body.{Body}
use Rattle.mx_vertices.specs.Kept.{Kept}
use Rattle.mx_vertices.specs.Found.{IsHeldAs, IsHeldWith}
use Rattle.mx_memo.specs.Memos.{Memory, AreHeld}
use Rattle.mx_runs.specs.Lists.{Has, EachOnce, Done}
use Rattle.mx_runs.specs.Runs.{Model, Run, Outcome, Ends, Looks, Asks, NoSuch, WrongCount, Event, Looked, Tested, Asked, Noted}
use Rattle.mx_runs.specs.Inputs.{is_input, is_static, is_value}
use Rattle.mx_runs.specs.Meaning.{Leads}
use Rattle.mx_runs.specs.Chains.{DoesAsk}
use Rattle.mx_answers.specs.Held.{nodes_of, IsKnown}
use Rattle.mx_answers.specs.Answers.{Evaluation}
use Rattle.mx_answers.specs.Records.{IsRightMemo, recorded_keys, recorded_asks, reads_of}
use Rattle.mx_model.specs.Records.{ModelRecord}
use Rattle.mx_model.specs.Keys.{key_result}
use Rattle.mx_meaning.specs.Laws.{BindsTo}
use Rattle.mx_meaning.specs.Walks.{Onward, entered, walked, walked_from}
use Rattle.mx_meaning.specs.Nodes.{body, cells_run, input_or}
use Rattle.mx_meaning.specs.Binding.{binding}
use Rattle.mx_suspended.specs.Recorded.{Recorded, Adds, GoesPast, nothing}
use Rattle.mx_suspended.specs.Flights.{Suspended, InFlight, IsTop, Awaits, IsDone}
use Rattle.mx_suspended.specs.Ended.{HasEnded}
use Rattle.mx_suspended.specs.Laws.{at_start}
use Rattle.mx_suspended.proofs.Growing.{each_adds, keys_grow, asks_grow, reads_grow, other_no_key, other_ask_alone}
use Rattle.mx_suspended.proofs.Steps.{starting, beginning, passing, asking, handing_down, answering_too_deep}
use Rattle.mx_state.specs.Model.{model_of}
use Rattle.mx_state.specs.Proper.{address_of}
use Rattle.mx_state.specs.Walks.{WalksAlike}
use Rattle.mx_state.proofs.Binding.{each_binds_behind, end_binds_none, bound_walks_alike}
use Rattle.mx_state.proofs.Bound.{inputs_end}
use Rattle.mx_node_runs.specs.Behind.{behind}
use Rattle.mx_read_set.specs.Seen.{Seen, with_read}
use Rattle.mx_stack.specs.Flight.{Flight, idle}
use Rattle.mx_runs.proofs.Levels.{Split, leads_split, leads_once, same_value}
use Rattle.mx_memo_laws.specs.Entries.{entries_of, IsKept, IsOrdered}
use Rattle.mx_memo_laws.specs.Laws.{HasGrown}
use Rattle.mx_memo_laws.proofs.Nodes.{new_is_not_entered}
use Rattle.mx_binding.specs.Records.{recorded_in}
use Rattle.mx_binding.specs.declared.records.Records.{Records}
use Rattle.mx_binding.specs.declared.walking.Led.{Led}
use Rattle.mx_binding.specs.declared.walking.Led.TheVariants as led
use Rattle.mx_binding.specs.Walking.{IsLed}
use Rattle.mx_binding.specs.Records.{with_ask}
use Rattle.mx_binding.specs.Walking.{AreAnswered, IsLedOn}
use Rattle.mx_binding.proofs.Passing.{asks_added, reads_added}
use Rattle.mx_binding.proofs.Resuming.{still_held}
use Rattle.mx_suspended.specs.ItemsFirst as first
use Rattle.mx_suspended.specs.ItemsFirst.{PassesThrough, WaitsOnTheWay}
use Rattle.mx_frames.specs.Flights.{AsksInOrder, IsAwaited, IsGiven, IsItemBefore, IsOnTheWay, Work}
use Rattle.mx_frames.specs.declared.progress.Given.{Given}
use Rattle.mx_frames.proofs.Flown.{unkept_end}
use Rattle.mx_frames.proofs.Standing.{recorded_grown}
use Rattle.mx_machine.specs.Behind.{IsFor, IsOnWay, RunAt, RunsTo}
use Rattle.mx_machine.specs.Settings.{evaluation_of}
use Rattle.mx_machine.proofs.WalksAsk.{IsItem, stop, asking_is_not_static, walk_asks_item}
use Rattle.mx_machine.proofs.ByEvents.{IsRecorded, past_by}

-- ---- addresses

-- the events behind others are answered
answered_behind : (held : List Entry) (es fs : List Event) → AreAnswered held (es ++ fs) → AreAnswered held fs
answered_behind held [] fs a = a
answered_behind held (Looked k ∷ es) fs a = answered_behind held es fs a
answered_behind held (Tested k ∷ es) fs a = answered_behind held es fs a
answered_behind held (Asked m r ∷ es) fs a = answered_behind held es fs a.1
answered_behind held (Noted r ∷ es) fs a = answered_behind held es fs a

same_address : (n : Node) → address_of n ≡ first.address_of n
same_address (Cell at name args) = refl
same_address (Item at args) = refl

-- no item lies in its own space
longer : (at : List Segment) (s : Segment) (more : List Segment) → at ≡ at ++ s ∷ more → ⊥
longer at s more e = let k : length at ≡ length (at ++ s ∷ more) = ap length e in let j = length-append at (s ∷ more) in omega (arith, k, j)

not_within : (c i : Node) → c ≡ i → IsItemBefore i c → ⊥
not_within c i e b =
    let is : c ≡ Item b.at b.args = e ∙ b.is in
    let passes : PassesThrough b.at b.at b.args = subst (λ (x : Node). PassesThrough (first.address_of x) b.at b.args) is b.passes in
    longer b.at (segment.Item b.args) passes.behind passes.is

input_is_static : (model : Model) (c : Node) → is_input model c ≡ true → is_static (address_of c) ≡ false → ⊥
input_is_static model (Cell at name args) e s =
    let z : false ≡ true = subst (λ (b : Bool). (b && is_value (model.look (Input (Cell at name args)))) ≡ true) s e in absurd (cc)
input_is_static model (Item at args) e s = let z : false ≡ true = e in absurd (cc)

body_walks : (c : Node) → is_static (address_of c) ≡ false → body c ≡ walked (address_of c) (behind c)
body_walks (Cell at name args) s = ap (λ (b : Bool). if b then Looks (Input (Cell at name args)) (input_or (cells_run (Cell at name args) at name args)) else cells_run (Cell at name args) at name args) s
body_walks (Item at args) s = refl

module _ (text : ModelRecord) (n : Node) where
  walks_itself : WalksAlike (model_of text) (address_of n) (address_of n)
  walks_itself = record { comes = λ es ns h. h; waits = λ es i more h. record { more = more; waits = h }; static = refl }

  pub walks_alike : (c : Node) → IsFor (model_of text) n c → WalksAlike (model_of text) (address_of n) (address_of c)
  walks_alike c f = elim f [
    | inl e ↦ subst (λ (x : Node). WalksAlike (model_of text) (address_of n) (address_of x)) (sym e) walks_itself
    | inr b ↦ bound_walks_alike text n c b
  ]

  -- its walk waits for an item: the address has one
  pub waiting_has_item : (held : List Kept) (records : Records) (i : Node) (rest : List Segment) → IsLed (model_of text) held (address_of n) (led.Waits i rest) records → is_static (address_of n) ≡ false
  waiting_has_item held records i rest l = asking_is_not_static (model_of text) i (λ r. entered r.namespace (λ ns. walked_from rest ns stop)) (address_of n) l.stands.walk.events (l.stands.walk.leads stop)

  -- where its own run stands then
  module _ (item : is_static (address_of n) ≡ false) (held : List Kept) (records : Records) where
    static_for : (c : Node) → IsFor (model_of text) n c → is_static (address_of c) ≡ false
    static_for c f = (walks_alike c f).static ∙ item

    from_body : (c : Node) → IsFor (model_of text) n c → (es : List Event) (run : Run) → Leads (model_of text) (walked (address_of c) (behind c)) es run → Leads (model_of text) (body c) es run
    from_body c f es run l = subst (λ (r : Run). Leads (model_of text) r es run) (sym (body_walks c (static_for c f))) l

    ended_at : (o : Outcome) (c : Node) (es : List Event) → IsFor (model_of text) n c → ((go : Onward) → Leads (model_of text) (walked (address_of n) go) es (Ends o)) → Leads (model_of text) (body c) es (Ends o)
    ended_at o c es (inl e) l = from_body c (inl e) es (Ends o) (subst (λ (x : Node). Leads (model_of text) (walked (address_of x) (behind c)) es (Ends o)) (sym e) (l (behind c)))
    ended_at o c es (inr b) l = absurd (end_binds_none text n es o (λ go. subst (λ (r : Run). Leads (model_of text) r es (Ends o)) (sym ((each_binds_behind n).is go)) (l ((each_binds_behind n).behind go))) c b)

    pub run_at : (to : Led) (l : IsLed (model_of text) held (address_of n) to records) (c : Node) → IsFor (model_of text) n c → RunAt (model_of text) c l.stands.walk.events to
    run_at (led.Came ns) l c f = record {
      run = behind c ns;
      leads = from_body c f l.stands.walk.events (behind c ns) ((walks_alike c f).comes l.stands.walk.events ns l.stands.walk.leads (behind c));
      runs = refl;
    }
    run_at (led.Waits i rest) l c f =
        let w = (walks_alike c f).waits l.stands.walk.events i rest l.stands.walk.leads in
        let go : Reply → Run = λ r. entered r.namespace (λ ns. walked_from w.more ns (behind c)) in
        record {
          run = Asks i go;
          leads = from_body c f l.stands.walk.events (Asks i go) (w.waits (behind c));
          runs = (go, refl);
        }
    run_at led.NoSuch l c f = record { run = Ends NoSuch; leads = ended_at NoSuch c l.stands.walk.events f l.stands.walk.leads; runs = refl }
    run_at led.WrongCount l c f = record { run = Ends WrongCount; leads = ended_at WrongCount c l.stands.walk.events f l.stands.walk.leads; runs = refl }

  -- ---- the first item

  module _ (start : Memory) (kept : IsKept (model_of text) start) (limit : ℕ) (some : 1 ≤ limit) (records : Records) (i : Node) (rest : List Segment) (l : IsLed (model_of text) start.held (address_of n) (led.Waits i rest) records) (c : Node) (f : IsFor (model_of text) n c) where
    first_at : RunAt (model_of text) c l.stands.walk.events (led.Waits i rest)
    first_at = run_at (waiting_has_item start.held records i rest l) start.held records (led.Waits i rest) l c f

    does_ask : DoesAsk (model_of text) c i
    does_ask = record { events = l.stands.walk.events; go = first_at.runs.0; leads = subst (λ (r : Run). Leads (model_of text) (body c) l.stands.walk.events r) first_at.runs.1 first_at.leads }

    item_unknown : IsKnown (model_of text) (nodes_of (entries_of start.held)) i → ⊥
    item_unknown k = elim k [
      | inl h ↦ (new_is_not_entered start.held i).0 l.waits h
      | inr e ↦ let z : is_input (model_of text) i ≡ false = l.stands.walk.own in let y : true ≡ false = sym e ∙ z in absurd (cc)
    ]

    -- it is neither held nor an input: it asks what is neither
    pub first_unknown : IsKnown (model_of text) (nodes_of (entries_of start.held)) c → ⊥
    first_unknown k = elim k [
      | inl h ↦ item_unknown (kept.memo.right.closed c i h does_ask)
      | inr e ↦ input_is_static (model_of text) c e (static_for (waiting_has_item start.held records i rest l) start.held records c f)
    ]

    -- its run has begun and stands there
    pub first_on_way : (before : ℕ) → IsOnWay (model_of text) start start limit before (suc before) c (led.Waits i rest) records l.stands.walk.events
    first_on_way before =
        let ev : Evaluation = evaluation_of c start limit in
        let flight : InFlight = record (at_start ev) { ticks = 1 } in
        let top : IsTop (model_of text) ev flight c nothing (body c) =
        beginning (model_of text) ev (at_start ev) c (starting (model_of text) ev kept.memo first_unknown) (λ h. h) (omega (arith, some)) in
        record {
          flight = flight;
          held = refl;
          counted = omega arith;
          alone = refl;
          at = first_at;
          top = passing (model_of text) ev flight c (body c) first_at.run nothing (recorded_in start.held records) (inputs_end (key_result text))
              (past_by (model_of text) (entries_of start.held) kept.memo.right l.stands.walk.events [] (body c) first_at.run nothing (recorded_in start.held records) first_at.leads l.stands.walk.answered
              (record { keys = Done; asks = Done; reads = Done }) (record { keys = l.stands.walk.keys; asks = l.stands.walk.asks; reads = l.stands.walk.reads })) top;
        }

  -- ---- an item has its turn

  module _ (in_order : AsksInOrder (model_of text)) (on_the_way : WaitsOnTheWay) (start m : Memory) (limit before now : ℕ) (records : Records) (i : Node) (rest : List Segment) (l : IsLed (model_of text) m.held (address_of n) (led.Waits i rest) records) (c : Node) (f : IsFor (model_of text) n c)
      (o : IsOnWay (model_of text) start m limit before now c (led.Waits i rest) records l.stands.walk.events) where
    abbrev pub waiter : Suspended
    waiter = record { node = c; so_far = recorded_in m.held records; go = o.at.runs.0 }

    -- the evaluation of it, which waits for the item
    abbrev pub work_waiting : Work
    work_waiting = record { ev = evaluation_of c start limit; bottom = waiter ∷ []; before = before }

    abbrev flight_waiting : InFlight
    flight_waiting = record o.flight { waiting = waiter ∷ [] }

    asks_item : DoesAsk (model_of text) c i
    asks_item = record { events = l.stands.walk.events; go = o.at.runs.0; leads = subst (λ (r : Run). Leads (model_of text) (body c) l.stands.walk.events r) o.at.runs.1 o.at.leads }

    its_unknown : IsKnown (model_of text) (nodes_of o.flight.held) i → ⊥
    its_unknown k = elim k [
      | inl h ↦ (new_is_not_entered m.held i).0 l.waits (subst (λ (es : List Entry). Has (nodes_of es) i) o.held h)
      | inr e ↦ let z : is_input (model_of text) i ≡ false = l.stands.walk.own in let y : true ≡ false = sym e ∙ z in absurd (cc)
    ]

    top_asks : IsTop (model_of text) (evaluation_of c start limit) o.flight c (recorded_in m.held records) (Asks i o.at.runs.0)
    top_asks = subst (λ (r : Run). IsTop (model_of text) (evaluation_of c start limit) o.flight c (recorded_in m.held records) r) o.at.runs.1 o.top

    awaits_item : Awaits (model_of text) (evaluation_of c start limit) flight_waiting i
    awaits_item = subst (λ (fs : List Suspended). Awaits (model_of text) (evaluation_of c start limit) (record o.flight { waiting = waiter ∷ fs }) i) o.alone
        (asking (model_of text) (evaluation_of c start limit) o.flight c i (recorded_in m.held records) o.at.runs.0 top_asks its_unknown)

    item_is : IsItem i
    item_is = walk_asks_item (model_of text) i (λ r. entered r.namespace (λ ns. walked_from rest ns stop)) (address_of n) l.stands.walk.events (l.stands.walk.leads stop)

    binds : BindsTo (model_of text) c c → BindsTo (model_of text) n c
    binds b = elim f [
      | inl e ↦ subst (λ (x : Node). BindsTo (model_of text) x c) e b
      | inr d ↦ d
    ]

    waits_at : (go : Onward) → Leads (model_of text) (walked (address_of n) go) l.stands.walk.events (Asks (Item item_is.at item_is.args) (λ r. entered r.namespace (λ ns. walked_from rest ns go)))
    waits_at go = subst (λ (x : Node). Leads (model_of text) (walked (address_of n) go) l.stands.walk.events (Asks x (λ r. entered r.namespace (λ ns. walked_from rest ns go)))) item_is.is (l.stands.walk.leads go)

    -- the way to its bound form leads through the space of the item
    passes_item : BindsTo (model_of text) c c → IsItemBefore i c
    passes_item b = record {
      at = item_is.at;
      args = item_is.args;
      is = item_is.is;
      passes = on_the_way (key_result text) n c l.stands.walk.events item_is.at item_is.args rest (binds b) (λ go. subst (λ (at : List Segment). Leads (model_of text) (walked at go) l.stands.walk.events (Asks (Item item_is.at item_is.args) (λ r. entered r.namespace (λ ns. walked_from rest ns go)))) (same_address n) (waits_at go));
    }

    way_waiting : IsOnTheWay (model_of text) (waiter ∷ []) i
    way_waiting g h b = elim h [
      | inl e ↦ subst (λ (s : Suspended). IsItemBefore i s.node) e (passes_item (subst (λ (s : Suspended). BindsTo (model_of text) s.node s.node) (sym e) b))
      | inr none ↦ absurd none
    ]

    -- the item is another node
    apart_item : Has (c ∷ []) i → ⊥
    apart_item h = elim h [
      | inl e ↦ (
          let b : BindsTo (model_of text) c c = subst (λ (x : Node). BindsTo (model_of text) x x) (sym e) (in_order.bound c i asks_item) in
          not_within c i e (passes_item b))
      | inr none ↦ none
    ]

    -- the item awaits its run, with nothing on a stack of its own
    pub item_awaited : 1 < limit → (stack : Flight) → stack.top ≡ idle → IsAwaited (model_of text) work_waiting m stack [] i now
    item_awaited room stack none = record {
      flight = flight_waiting;
      aloft = record { held = o.held; counted = o.counted; stand = refl };
      idle = none;
      way = way_waiting;
      awaits = awaits_item;
      apart = apart_item;
      room = room;
    }

    -- there is no room for it
    pub item_too_deep : limit ≤ 1 → (to : Node) → to ≡ i → HasEnded (model_of text) (evaluation_of c start limit) (entries_of m.held) o.flight.ticks (Err (refusal.TooDeep to))
    item_too_deep deep to e = subst (λ (x : Node). HasEnded (model_of text) (evaluation_of c start limit) (entries_of m.held) o.flight.ticks (Err (refusal.TooDeep x))) (sym e)
        (unkept_end (model_of text) (inputs_end (key_result text)) work_waiting m flight_waiting _ (refusal.TooDeep i) refl o.held awaits_item.under_way
        (answering_too_deep (model_of text) (evaluation_of c start limit) flight_waiting i o.flight.ticks (inputs_end (key_result text)) awaits_item apart_item (omega (arith, deep))))

    -- ---- it has given its reply

    module _ (m2 : Memory) (later : ℕ) (given : Given) (g : IsGiven (model_of text) work_waiting m2 given later) (is : given.node ≡ i) (ordered : IsOrdered m2) (grown : HasGrown m m2)
        (body_held : Body) (of : IsHeldAs m2.held given.id.at i) (with : IsHeldWith m2.held given.id.at body_held)
        (asked records3 : Records) (seen : asked.seen ≡ with_read (read.Node i) records.seen) (asks : asked.asks ≡ with_ask given.id records.asks)
        (to : Led) (lo : IsLedOn (model_of text) m2.held (address_of n) (l.stands.walk.events ++ Asked i body_held.reply ∷ []) to records3) where
      right2 : IsRightMemo (model_of text) (entries_of m2.held)
      right2 = subst (λ (es : List Entry). IsRightMemo (model_of text) es) g.held g.done.under_way.memo

      fit : AreHeld m2.held records.asks
      fit = subst (λ (ks : List Kept). AreHeld ks records.asks) (sym grown.is) (still_held m.held grown.more records.asks l.stands.asks)

      -- what was recorded is recorded still
      so_far_still : recorded_in m2.held records ≡ recorded_in m.held records
      so_far_still = subst (λ (ks : List Kept). recorded_in ks records ≡ recorded_in m.held records) (sym grown.is) (recorded_grown m.held grown.more c records l.stands.asks)

      abbrev mid : Recorded
      mid = recorded_in m2.held asked

      mid_keys : mid.keys ≡ (recorded_in m.held records).keys
      mid_keys = ap (λ (s : Seen). s.keys) seen

      mid_asks : Adds (recorded_in m.held records).asks i mid.asks
      mid_asks = subst (λ (r : Recorded). Adds r.asks i mid.asks) so_far_still (asks_added (model_of text) m2 right2 ordered i given.id body_held of with records asked seen asks fit)

      mid_reads : Adds (recorded_in m.held records).reads (read.Node i) mid.reads
      mid_reads = reads_added (model_of text) m2 right2 ordered i given.id body_held of with records asked seen asks fit

      done : IsDone (model_of text) (evaluation_of c start limit) (record g.flight { waiting = waiter ∷ [] }) i given.reply
      done = subst (λ (x : Node). IsDone (model_of text) (evaluation_of c start limit) (record g.flight { waiting = waiter ∷ [] }) x given.reply) is
          (subst (λ (fs : List Suspended). IsDone (model_of text) (evaluation_of c start limit) (record g.flight { waiting = fs }) given.node given.reply) g.waiting g.done)

      -- its run is on top again, with the reply
      top_replied : IsTop (model_of text) (evaluation_of c start limit) (record g.flight { waiting = [] }) c mid (o.at.runs.0 given.reply)
      top_replied = subst (λ (ks : List Key). IsTop (model_of text) (evaluation_of c start limit) (record g.flight { waiting = [] }) c (record { keys = ks; asks = mid.asks; reads = mid.reads }) (o.at.runs.0 given.reply)) (sym mid_keys)
          (handing_down (model_of text) (evaluation_of c start limit) g.flight waiter [] i given.reply mid.asks mid.reads done mid_asks mid_reads)

      -- where it stands then
      then_at : RunAt (model_of text) c lo.led.stands.walk.events to
      then_at = run_at (waiting_has_item m.held records i rest l) m2.held records3 to lo.led c f

      whole : lo.led.stands.walk.events ≡ l.stands.walk.events ++ Asked i body_held.reply ∷ lo.more
      whole = lo.is ∙ append_assoc l.stands.walk.events (Asked i body_held.reply ∷ []) lo.more

      parts : Split (model_of text) (body c) then_at.run l.stands.walk.events (Asked i body_held.reply ∷ lo.more)
      parts = leads_split (model_of text) (body c) then_at.run l.stands.walk.events (Asked i body_held.reply ∷ lo.more) (subst (λ (es : List Event). Leads (model_of text) (body c) es then_at.run) whole then_at.leads)

      goes_on_by : Leads (model_of text) (Asks i o.at.runs.0) (Asked i body_held.reply ∷ lo.more) then_at.run
      unfolding asks_item
      goes_on_by = subst (λ (r : Run). Leads (model_of text) r (Asked i body_held.reply ∷ lo.more) then_at.run) (leads_once (model_of text) (body c) parts.mid (Asks i o.at.runs.0) l.stands.walk.events parts.first asks_item.leads) parts.second

      same_reply : given.reply ≡ body_held.reply
      same_reply = same_value (model_of text) i given.reply body_held.reply done.means goes_on_by.1

      recorded_before : IsRecorded (model_of text) (l.stands.walk.events ++ Asked i body_held.reply ∷ []) mid
      recorded_before = record {
        keys = subst (λ (ks : List Key). EachOnce (recorded_keys (model_of text) (l.stands.walk.events ++ Asked i body_held.reply ∷ [])) ks) (sym mid_keys)
            (subst (λ (ks : List Key). EachOnce ks (recorded_in m.held records).keys) (sym (keys_grow (model_of text) l.stands.walk.events (Asked i body_held.reply ∷ []) ∙ ap (λ ks. recorded_keys (model_of text) l.stands.walk.events ++ ks) (other_no_key (model_of text) i body_held.reply l.stands.walk.own) ∙ append-nil (recorded_keys (model_of text) l.stands.walk.events))) l.stands.walk.keys);
        asks = each_adds (recorded_in m.held records).asks mid.asks i mid_asks (recorded_asks (model_of text) l.stands.walk.events) _ l.stands.walk.asks
            (asks_grow (model_of text) l.stands.walk.events (Asked i body_held.reply ∷ []) ∙ ap (λ ns. recorded_asks (model_of text) l.stands.walk.events ++ ns) (other_ask_alone (model_of text) i body_held.reply l.stands.walk.own));
        reads = each_adds (recorded_in m.held records).reads mid.reads (read.Node i) mid_reads (reads_of l.stands.walk.events) _ l.stands.walk.reads
            (reads_grow l.stands.walk.events (Asked i body_held.reply ∷ []));
      }

      recorded_then : IsRecorded (model_of text) ((l.stands.walk.events ++ Asked i body_held.reply ∷ []) ++ lo.more) (recorded_in m2.held records3)
      recorded_then = subst (λ (es : List Event). IsRecorded (model_of text) es (recorded_in m2.held records3)) lo.is
          (record { keys = lo.led.stands.walk.keys; asks = lo.led.stands.walk.asks; reads = lo.led.stands.walk.reads })

      answered_then : AreAnswered (entries_of m2.held) lo.more
      answered_then = answered_behind (entries_of m2.held) (l.stands.walk.events ++ Asked i body_held.reply ∷ []) lo.more (subst (λ (es : List Event). AreAnswered (entries_of m2.held) es) lo.is lo.led.stands.walk.answered)

      past_then_by : GoesPast (model_of text) (entries_of m2.held) (o.at.runs.0 given.reply) mid then_at.run (recorded_in m2.held records3)
      past_then_by = subst (λ (r : Reply). GoesPast (model_of text) (entries_of m2.held) (o.at.runs.0 r) mid then_at.run (recorded_in m2.held records3)) (sym same_reply)
          (past_by (model_of text) (entries_of m2.held) right2.right lo.more (l.stands.walk.events ++ Asked i body_held.reply ∷ []) (o.at.runs.0 body_held.reply) then_at.run mid (recorded_in m2.held records3) goes_on_by.2 answered_then recorded_before recorded_then)

      -- its run stands where the walk leads further
      pub next_on_way : IsOnWay (model_of text) start m2 limit before later c to records3 lo.led.stands.walk.events
      next_on_way = record {
        flight = record g.flight { waiting = [] };
        held = g.held;
        counted = g.counted;
        alone = refl;
        at = then_at;
        top = passing (model_of text) (evaluation_of c start limit) (record g.flight { waiting = [] }) c (o.at.runs.0 given.reply) then_at.run mid (recorded_in m2.held records3) (inputs_end (key_result text))
            (subst (λ (es : List Entry). GoesPast (model_of text) es (o.at.runs.0 given.reply) mid then_at.run (recorded_in m2.held records3)) (sym g.held) past_then_by) top_replied;
      }
