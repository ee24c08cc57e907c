-- How a walk goes on past held items, and what is recorded then.
use Rattle.std.proofs.Common.{◌≡◌, false, List, [], ◌∷◌, ◌++◌, map, Option, refl, sym, ◌∙◌, ap, subst}
use Rattle.std.specs.Prelude.{if◌then◌else◌}
use Rattle.std.proofs.lemmas.List.{append-nil, append_assoc}
use Rattle.mx_graph.specs.declared.ids.NodeId.{NodeId}
use Rattle.mx_value.specs.declared.value.Segment.{Segment}
use Rattle.mx_value.specs.declared.namespace.Namespace.{Namespace}
use Rattle.mx_value.specs.declared.node.Node.{Node}
use Rattle.mx_value.specs.declared.read.Read.TheVariants as read
use Rattle.mx_value.specs.Equality.{read_eq}
use Rattle.mx_value.proofs.NodeSames.{read_decides}
use Rattle.mx_edit.specs.Entry.{Entry}
use Rattle.mx_edit.specs.declared.key.Key.TheVariants.{Input}
use Rattle.mx_edit.specs.declared.reply.Reply.{Reply}
use Rattle.mx_vertices.specs.declared.slot.Body.{Body}
use Rattle.mx_vertices.specs.Kept.{Kept}
use Rattle.mx_vertices.specs.Found.{IsHeldAs, IsHeldWith}
use Rattle.mx_vertices.specs.Reading.{id_at}
use Rattle.mx_memo.specs.Memos.{Memory, AreHeld}
use Rattle.mx_runs.specs.Lists.{Has, EachOnce, Done}
use Rattle.mx_runs.specs.Runs.{Model, Gives, Event, Looked, Tested, Asked, Noted}
use Rattle.mx_runs.specs.Inputs.{is_input}
use Rattle.mx_runs.specs.Meaning.{Means}
use Rattle.mx_runs.proofs.Levels.{leads_append}
use Rattle.mx_answers.specs.Held.{IsRight}
use Rattle.mx_answers.specs.Records.{IsRightMemo, recorded_keys, recorded_asks, reads_of}
use Rattle.mx_meaning.specs.Walks.{walked}
use Rattle.mx_suspended.specs.Recorded.{Recorded, nothing, Adds}
use Rattle.mx_suspended.proofs.Growing.{each_adds, keys_grow, asks_grow, reads_grow}
use Rattle.mx_read_set.specs.Seen.{Seen, with_read}
use Rattle.mx_walks.specs.Ways.{Leading, AsksAt, begun_way, resumed_way, leading_run}
use Rattle.mx_memo_laws.specs.Entries.{entries_of, nodes_under, IsOrdered}
use Rattle.mx_memo_laws.proofs.Nodes.{body_is_entered, body_is_of_node, one_under_id}
use Rattle.mx_binding.specs.Records.{recorded_in, with_ask}
use Rattle.mx_binding.specs.declared.records.Records.{Records}
use Rattle.mx_binding.specs.declared.walking.Led.{Led}
use Rattle.mx_binding.specs.Walking.{Address, IsAnswered, AreAnswered, WalksTo, Stands, StandsOn, WaitsForNew, IsLedOn, LeadsOn, led_as, GoesOn}
use Rattle.mx_binding.proofs.Recording.{added_adds, ask_adds, ask_held}
use Rattle.mx_binding.proofs.Testing.{AreTests, no_keys, no_asks, no_reads, none_asked, begun_comes, resumed_comes}

-- ---- what is held of asks

pub answered_append : (held : List Entry) (es fs : List Event) → AreAnswered held es → AreAnswered held fs → AreAnswered held (es ++ fs)
answered_append held [] fs a b = b
answered_append held (Looked k ∷ es) fs a b = answered_append held es fs a b
answered_append held (Tested k ∷ es) fs a b = answered_append held es fs a b
answered_append held (Asked m r ∷ es) fs a b = (a.0, answered_append held es fs a.1 b)
answered_append held (Noted r ∷ es) fs a b = answered_append held es fs a b

module _ (earlier held : List Entry) (still : (e : Entry) → Has earlier e → Has held e) where
  still_answered : (es : List Event) → AreAnswered earlier es → AreAnswered held es
  still_answered [] a = tt
  still_answered (Looked k ∷ es) a = still_answered es a
  still_answered (Tested k ∷ es) a = still_answered es a
  still_answered (Asked m r ∷ es) a =
      let b : IsAnswered earlier m r = a.0 in
      (record { entry = b.entry; among = still b.entry b.among; node_is = b.node_is; reply_is = b.reply_is }, still_answered es a.1)
  still_answered (Noted r ∷ es) a = still_answered es a

  -- a walk stays where it is as more is held
  pub still_walks : (model : Model) (at : Address) (to : Leading) (so_far : Recorded) → WalksTo model earlier at to so_far → WalksTo model held at to so_far
  still_walks model at to so_far w = record {
    events = w.events;
    leads = w.leads;
    answered = still_answered w.events w.answered;
    own = w.own;
    keys = w.keys;
    asks = w.asks;
    reads = w.reads;
  }

-- ---- from the top

pub begins : (model : Model) (held : List Entry) (at : Address) → WalksTo model held at (begun_way model.look at) nothing
begins model held at =
    let c = begun_comes model at in
    record {
      events = c.events;
      leads = c.leads;
      answered = none_asked held c.events c.tests;
      own = c.own;
      keys = subst (λ xs. EachOnce xs []) (sym (no_keys model c.events c.tests)) Done;
      asks = subst (λ xs. EachOnce xs []) (sym (no_asks model c.events c.tests)) Done;
      reads = subst (λ xs. EachOnce xs []) (sym (no_reads c.events c.tests)) Done;
    }

-- ---- past a held item

-- what stands behind an ask, where no more is recorded
grown : {X : Type 0} (whole front back item : List X) → whole ≡ front ++ back → back ≡ item → whole ≡ front ++ item
grown whole front back item e b = e ∙ ap (λ xs. front ++ xs) b

module _ (model : Model) (held : List Entry) (at : Address) (m : Node) (rest : List Segment) (r : Reply) where
  ask_alone : (fs : List Event) → is_input model m ≡ false → AreTests fs → recorded_asks model (Asked m r ∷ fs) ≡ m ∷ []
  ask_alone fs i t = ap (λ b. if b then recorded_asks model fs else m ∷ recorded_asks model fs) i ∙ ap (λ xs. m ∷ xs) (no_asks model fs t)

  no_key : (fs : List Event) → is_input model m ≡ false → AreTests fs → recorded_keys model (Asked m r ∷ fs) ≡ []
  no_key fs i t = ap (λ b. if b then Input m ∷ recorded_keys model fs else recorded_keys model fs) i ∙ no_keys model fs t

  -- a walk that stands at a held item goes on with the reply, and it is recorded that it asked and read the item
  pub goes_past : IsRight model held → IsAnswered held m r → (before after : Recorded) → WalksTo model held at (AsksAt m rest) before → after.keys ≡ before.keys → Adds before.asks m after.asks → Adds before.reads (read.Node m) after.reads → WalksTo model held at (resumed_way model.look rest r.namespace) after
  goes_past right a before after w keys asks reads =
      let c = resumed_comes model rest r.namespace in
      let means : Means model m (Gives r) = subst (λ (x : Node). Means model x (Gives r)) a.node_is (subst (λ (x : Reply). Means model a.entry.node (Gives x)) a.reply_is (right.means a.entry a.among)) in
      record {
        events = w.events ++ Asked m r ∷ c.events;
        leads = λ go. leads_append model (walked at go) (leading_run (AsksAt m rest) go) (leading_run (resumed_way model.look rest r.namespace) go) w.events (Asked m r ∷ c.events) (w.leads go) (refl, means, c.leads go);
        answered = answered_append held w.events (Asked m r ∷ c.events) w.answered (a, none_asked held c.events c.tests);
        own = c.own;
        keys =
            let e : recorded_keys model (w.events ++ Asked m r ∷ c.events) ≡ recorded_keys model w.events = grown _ _ _ _ (keys_grow model w.events (Asked m r ∷ c.events)) (no_key c.events w.own c.tests) ∙ append-nil (recorded_keys model w.events) in
            subst (λ xs. EachOnce xs after.keys) (sym e) (subst (λ ks. EachOnce (recorded_keys model w.events) ks) (sym keys) w.keys);
        asks = each_adds before.asks after.asks m asks (recorded_asks model w.events) _ w.asks (grown _ _ _ _ (asks_grow model w.events (Asked m r ∷ c.events)) (ask_alone c.events w.own c.tests));
        reads = each_adds before.reads after.reads (read.Node m) reads (reads_of w.events) _ w.reads (grown _ _ _ _ (reads_grow w.events (Asked m r ∷ c.events)) (ap (λ xs. read.Node m ∷ xs) (no_reads c.events c.tests)));
      }

-- ---- with records

-- where a walk from the top stands
pub stands_first : (model : Model) (held : List Kept) (at : Address) (records : Records) → records.seen ≡ record { keys = []; reads = [] } → records.asks ≡ [] → Stands model held at (begun_way model.look at) records
stands_first model held at records s a =
    let e : recorded_in held records ≡ nothing =
    ap (λ (x : Seen). record { keys = x.keys; asks = nodes_under held (map id_at records.asks); reads = x.reads }) s
    ∙ ap (λ (ids : List NodeId). record { keys = []; asks = nodes_under held (map id_at ids); reads = [] }) a in
    record {
      walk = subst (λ (x : Recorded). WalksTo model (entries_of held) at (begun_way model.look at) x) (sym e) (begins model (entries_of held) at);
      asks = subst (λ (ids : List NodeId). AreHeld held ids) (sym a) (λ id h. absurd h);
    }

-- where it stands behind an answer, by the events of the walk that waited and the ask
pub stands_behind : (model : Model) (held : List Kept) (at : Address) (rest : List Segment) (came : Option Namespace) (records : Records) → IsRight model (entries_of held) → (g : GoesOn model held at rest came records) → StandsOn model held at (g.waited.events ++ Asked g.item g.reply ∷ []) (resumed_way model.look rest came) records
unfolding goes_past still_walks
stands_behind model held at rest came records right g =
    subst (λ (x : Option Namespace). StandsOn model held at (g.waited.events ++ Asked g.item g.reply ∷ []) (resumed_way model.look rest x) records) (sym g.came_is)
    (record {
      stands = record {
        walk = goes_past model (entries_of held) at g.item rest g.reply right g.answered g.before (recorded_in held records)
            (still_walks g.earlier (entries_of held) g.still model at (AsksAt g.item rest) g.before g.waited)
            g.keys g.asks g.reads;
        asks = g.held_asks;
      };
      more = behind;
      is = sym (append_assoc g.waited.events (Asked g.item g.reply ∷ []) behind);
    })
  where
    behind : List Event
    behind = (resumed_comes model rest g.reply.namespace).events

-- ---- by events that are further ones of a walk

-- a walk that waits for no held item has come to where it leads
pub led_there : (model : Model) (held : List Kept) (to : Led) (records : Records) → WaitsForNew held to → LeadsOn model held (led_as to) records to records
led_there model held to records new at s = record { led = record { stands = s; waits = new }; more = []; is = sym (append-nil s.walk.events) }

module _ (model : Model) (held : List Kept) (at : Address) (es : List Event) where
  -- a walk stands where it stands
  pub stands_still : (to : Leading) (records : Records) (s : Stands model held at to records) → StandsOn model held at s.walk.events to records
  stands_still to records s = record { stands = s; more = []; is = sym (append-nil s.walk.events) }

  module _ (from : Leading) (olds news : Records) (s : StandsOn model held at es from olds) where
    -- what stands further on behind a walk does so behind its first events
    joined : (whole more : List Event) → whole ≡ s.stands.walk.events ++ more → whole ≡ es ++ (s.more ++ more)
    joined whole more e = e ∙ ap (λ (fs : List Event). fs ++ more) s.is ∙ append_assoc es s.more more

    pub stands_on : (to : Leading) → StandsOn model held at s.stands.walk.events to news → StandsOn model held at es to news
    stands_on to n = record { stands = n.stands; more = s.more ++ n.more; is = joined n.stands.walk.events n.more n.is }

    pub led_on : (to : Led) → IsLedOn model held at s.stands.walk.events to news → IsLedOn model held at es to news
    led_on to n = record { led = n.led; more = s.more ++ n.more; is = joined n.led.stands.walk.events n.more n.is }

module _ (model : Model) (m : Memory) (right : IsRightMemo model (entries_of m.held)) (ordered : IsOrdered m) (item : Node) (id : NodeId) (body : Body) (of : IsHeldAs m.held id.at item) (with : IsHeldWith m.held id.at body) where
  -- a held item is answered
  pub is_answered : IsAnswered (entries_of m.held) item body.reply
  is_answered =
      let e = body_is_entered m.held id.at body with in
      record {
        entry = e.entry;
        among = e.among;
        node_is = e.node_is ∙ body_is_of_node m id.at item body ordered of with;
        reply_is = e.reply_is;
      }

  module _ (before after : Records) (seen : after.seen ≡ with_read (read.Node item) before.seen) (asks : after.asks ≡ with_ask id before.asks) (fit : AreHeld m.held before.asks) where
    pub asks_added : Adds (recorded_in m.held before).asks item (recorded_in m.held after).asks
    asks_added =
        subst (λ (ids : List NodeId). Adds (nodes_under m.held (map id_at before.asks)) item (nodes_under m.held (map id_at ids))) (sym asks)
        (subst (λ (x : Node). Adds (nodes_under m.held (map id_at before.asks)) x (nodes_under m.held (map id_at (with_ask id before.asks)))) of.node_is
        (ask_adds m.held right.right.once before.asks fit id of.entry of.among of.id_is (one_under_id m id.at item ordered of ∙ sym of.node_is)))

    pub reads_added : Adds before.seen.reads (read.Node item) after.seen.reads
    reads_added =
        subst (λ (x : Seen). Adds before.seen.reads (read.Node item) x.reads) (sym seen)
        (added_adds read_eq (λ a b. read_decides a b) before.seen.reads (read.Node item))

    pub fit_still : AreHeld m.held after.asks
    fit_still =
        subst (λ (ids : List NodeId). AreHeld m.held ids) (sym asks)
        (ask_held m.held before.asks id fit (record { entry = of.entry; among = of.among; is = of.id_is }))

    -- where a walk stands behind a held item that it asked, by its events and others
    pub stands_past : (at : Address) (rest : List Segment) (s : Stands model m.held at (AsksAt item rest) before) → StandsOn model m.held at s.walk.events (resumed_way model.look rest body.reply.namespace) after
    unfolding goes_past
    stands_past at rest s = record {
      stands = record {
        walk = goes_past model (entries_of m.held) at item rest body.reply right.right is_answered (recorded_in m.held before) (recorded_in m.held after) s.walk (ap (λ (x : Seen). x.keys) seen) asks_added reads_added;
        asks = fit_still;
      };
      more = Asked item body.reply ∷ (resumed_comes model rest body.reply.namespace).events;
      is = refl;
    }
