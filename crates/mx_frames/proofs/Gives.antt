-- A run that gives its reply: it is held, and the run that asked its node goes on with it.
use Rattle.std.proofs.Common.{◌≡◌, ℕ, ◌≤◌, ◌<◌, List, [], ◌∷◌, ◌++◌, length, map, reverse, refl, sym, ◌∙◌, ap, subst, arith}
use Rattle.std.proofs.lemmas.List.{length-map}
use Rattle.mx_graph.specs.declared.ids.NodeId.{NodeId}
use Rattle.mx_value.specs.declared.node.Node.{Node}
use Rattle.mx_value.specs.declared.read.Read.{Read}
use Rattle.mx_value.specs.declared.read.Read.TheVariants as read
use Rattle.mx_value.specs.Equality.{read_eq}
use Rattle.mx_value.specs.declared.refusal.EvalRefusal.TheVariants as refusal
use Rattle.mx_edit.specs.declared.key.Key.{Key}
use Rattle.mx_edit.specs.declared.reply.Reply.{Reply}
use Rattle.mx_edit.specs.Entry.{Entry}
use Rattle.mx_vertices.specs.Kept.{Kept}
use Rattle.mx_vertices.specs.Reading.{id_at}
use Rattle.mx_vertices.specs.Places as places
use Rattle.mx_vertices.specs.declared.slot.Body.{Body}
use Rattle.mx_memo.specs.Memos.{Memory, AreHeld}
use Rattle.mx_runs.specs.Lists.{Has}
use Rattle.mx_runs.specs.Runs.{Model, Run, Ends, Gives}
use Rattle.mx_runs.specs.Inputs.{InputsEnd}
use Rattle.mx_answers.specs.Held.{most_held}
use Rattle.mx_suspended.specs.Recorded.{Recorded, Adds, GoesPast, as_entry}
use Rattle.mx_suspended.specs.Flights.{Suspended, InFlight, IsTop, IsDone}
use Rattle.mx_suspended.proofs.Steps.{giving, handing_down, passing, answering_full}
use Rattle.mx_code_law.specs.States.{State}
use Rattle.mx_stack.specs.Flight.{Flight}
use Rattle.mx_lookup.specs.declared.ending.Ending.TheVariants as ending
use Rattle.mx_read_set.specs.Seen.{Seen, added, with_read}
use Rattle.mx_interpreter.specs.Runs.{recorded}
use Rattle.mx_node_runs.specs.Halts.{HaltsAs, HaltsAt, Resumes}
use Rattle.mx_memo_laws.specs.Entries.{entries_of, entry_held, nodes_under, node_under, own_keys}
use Rattle.mx_memo_laws.specs.Laws.{HeldOnce}
use Rattle.mx_binding.specs.Records.{recorded_in, with_ask, HasOwnKey}
use Rattle.mx_binding.specs.declared.records.Records.{Records}
use Rattle.mx_binding.proofs.Recording.{ask_adds}
use Rattle.mx_frames.specs.Passing.{IsPausedAt}
use Rattle.mx_frames.specs.Flights.{Work, Flies, IsGiven, IsPaused, HasBrokenOff, IsOnTheWay, Stand, StandsFor, first_of}
use Rattle.mx_frames.specs.Giving.{IsHandedOver}
use Rattle.mx_frames.specs.declared.runs.Frame.{Frame}
use Rattle.mx_frames.specs.declared.current.Running.{Running}
use Rattle.mx_frames.specs.declared.progress.Given.{Given}
use Rattle.mx_frames.specs.declared.passing.Paused.{Paused}
use Rattle.mx_frames.specs.declared.passing.Paused.TheVariants as paused
use Rattle.mx_frames.specs.declared.passing.Stretch.{Stretch}
use Rattle.mx_frames.proofs.Asks.{recorded_as, read_adds}
use Rattle.mx_frames.proofs.Standing.{rev_push, first_pushed, stand_grown}
use Rattle.mx_frames.proofs.Flown.{under_broken, unkept_end}

module _ (model : Model) (ends : InputsEnd model) (q : Work) (now : ℕ) where
  module _ (m : Memory) (stack : Flight) (frames : List Frame) (s : Stretch) (reply : Reply) (p : IsPaused model q m stack frames s now) (e : s.paused ≡ paused.Ends (ending.Gives reply)) where
    given_top : IsTop model q.ev p.flight s.current.node (recorded_in m.held s.current.records) (Ends (Gives reply))
    given_top = subst (λ (x : Run). IsTop model q.ev p.flight s.current.node (recorded_in m.held s.current.records) x) (subst (λ (x : Paused). IsPausedAt model m s.current.node p.run x stack.top) e p.pauses) p.top

    -- as many are held as may be
    pub given_full : (after : Memory) (first : Node) → after.held ≡ m.held → most_held ≤ length m.held → HasBrokenOff model q after first now refusal.Full
    given_full after first h most =
        let long : length p.flight.held ≡ length m.held = ap length p.aloft.held ∙ length-map m.held _ in
        record {
          ticks = p.flight.ticks;
          counted = p.aloft.counted;
          ended = unkept_end model ends q after p.flight _ refusal.Full refl (p.aloft.held ∙ ap entries_of (sym h)) p.top.under_way
              (answering_full model q.ev p.flight s.current.node (recorded_in m.held s.current.records) reply p.flight.ticks given_top (omega (arith, long, most)));
          lost = λ z. absurd z;
        }

    pub given_broken : (after : Memory) (first : Node) → after.held ≡ m.held → HasBrokenOff model q after first now refusal.NoMemory
    given_broken after first h = under_broken model ends q after p.flight _ first now (p.aloft.held ∙ ap entries_of (sym h)) p.aloft.counted p.top.under_way

    -- it is held
    pub given_held : (after : Memory) (k : Kept) (body : Body) (keys : List Key) → after.held ≡ m.held ++ k ∷ [] → entries_of after.held ≡ entries_of m.held ++ entry_held m.held body keys s.current.records.asks ∷ []
        → body.node ≡ s.current.node → body.reply ≡ reply → body.reads ≡ s.current.records.seen.reads → s.current.records.seen.keys ≡ own_keys s.current.node ++ keys → length m.held < most_held
        → ((w : Frame) → Has (reverse frames) w → AreHeld m.held w.current.records.asks) → IsHandedOver model q after stack.below frames s.current.node reply now
    given_held after k body keys h es en er erd ek few fit =
        let so_far : Recorded = recorded_in m.held s.current.records in
        let entry : entry_held m.held body keys s.current.records.asks ≡ as_entry s.current.node reply so_far =
        ap (λ (x : Node). record { node = x; reply = body.reply; keys = own_keys x ++ keys; asks = nodes_under m.held (map id_at s.current.records.asks); reads = body.reads }) en
        ∙ ap (λ (x : Reply). record { node = s.current.node; reply = x; keys = own_keys s.current.node ++ keys; asks = nodes_under m.held (map id_at s.current.records.asks); reads = body.reads }) er
        ∙ ap (λ (x : List Read). record { node = s.current.node; reply = reply; keys = own_keys s.current.node ++ keys; asks = nodes_under m.held (map id_at s.current.records.asks); reads = x }) erd
        ∙ ap (λ (x : List Key). record { node = s.current.node; reply = reply; keys = x; asks = nodes_under m.held (map id_at s.current.records.asks); reads = s.current.records.seen.reads }) (sym ek) in
        let long : length p.flight.held ≡ length m.held = ap length p.aloft.held ∙ length-map m.held _ in
        record {
          flight = record p.flight { held = p.flight.held ++ as_entry s.current.node reply so_far ∷ [] };
          aloft = record {
            held = ap (λ (x : List Entry). x ++ as_entry s.current.node reply so_far ∷ []) p.aloft.held ∙ ap (λ (x : Entry). entries_of m.held ++ x ∷ []) (sym entry) ∙ sym es;
            counted = p.aloft.counted;
            stand = subst (λ (ks : List Kept). Stand ks stack.below (reverse frames) p.flight.waiting q.bottom) (sym h) (stand_grown m.held (k ∷ []) stack.below (reverse frames) p.flight.waiting q.bottom fit p.aloft.stand);
          };
          way = p.way;
          done = giving model q.ev p.flight s.current.node so_far reply given_top (omega (arith, long, few));
        }

  -- none waits above the bottom
  pub handed_to_bottom : (m : Memory) (b : List State) (given : Given) → IsHandedOver model q m b [] given.node given.reply now → IsGiven model q m given now
  handed_to_bottom m b given h = record {
    flight = h.flight;
    held = h.aloft.held;
    counted = h.aloft.counted;
    waiting = h.aloft.stand;
    done = h.done;
  }

  pub handed_broken : (m : Memory) (b : List State) (frames : List Frame) (n first : Node) (reply : Reply) → IsHandedOver model q m b frames n reply now → HasBrokenOff model q m first now refusal.NoMemory
  handed_broken m b frames n first reply h = under_broken model ends q m h.flight _ first now h.aloft.held h.aloft.counted h.done.under_way

  -- the last frame goes on
  module _ (m : Memory) (b : List State) (front : List Frame) (w : Frame) (n : Node) (reply : Reply) (h : IsHandedOver model q m b (front ++ w ∷ []) n reply now) where
    stood : Stand m.held b (w ∷ reverse front) h.flight.waiting q.bottom
    stood = subst (λ (ws : List Frame). Stand m.held b ws h.flight.waiting q.bottom) (rev_push front w) h.aloft.stand

    -- the run that the frame stands for, and those below it
    pub record Popped : Type 0 where
      pub asker : Suspended
      pub below : List Suspended
      pub is : h.flight.waiting ≡ asker ∷ below
      pub state : State
      pub states : List State
      pub on : b ≡ state ∷ states
      pub stands : StandsFor m.held state w asker
      pub others : Stand m.held states (reverse front) below q.bottom

    popped_from : (fs : List Suspended) → h.flight.waiting ≡ fs → Stand m.held b (w ∷ reverse front) fs q.bottom → Popped
    popped_from [] e s = absurd s
    popped_from (f ∷ fs) e s = record { asker = f; below = fs; is = e; state = s.0; states = s.1; on = s.2; stands = s.3; others = s.4 }

    pub popped : Popped
    popped = popped_from h.flight.waiting refl stood

    -- what it did with the answer
    pub asker_resumes : Resumes w.current.node w.waiting popped.state popped.asker.go
    asker_resumes = popped.stands.resumes

    abbrev popped_flight : InFlight
    popped_flight = record h.flight { waiting = popped.below }

    module _ (once : HeldOnce m.held) (asks : AreHeld m.held w.current.records.asks) (id : NodeId) (k : Kept) (among : places.Has m.held k) (id_is : k.id ≡ id.at) (node_is : k.body.node ≡ n) (under : node_under m.held id.at ≡ n)
        (records : Records) (rs : records.seen ≡ with_read (read.Node n) w.current.records.seen) (ra : records.asks ≡ with_ask id w.current.records.asks) where
      done_on : IsDone model q.ev (record popped_flight { waiting = popped.asker ∷ popped.below }) n reply
      done_on = subst (λ (fs : List Suspended). IsDone model q.ev (record h.flight { waiting = fs }) n reply) popped.is h.done

      abbrev handed : Recorded
      handed = record popped.asker.so_far { asks = nodes_under m.held (map id_at (with_ask id w.current.records.asks)); reads = added read_eq w.current.records.seen.reads (read.Node n) }

      handed_top : IsTop model q.ev popped_flight popped.asker.node handed (popped.asker.go reply)
      handed_top = handing_down model q.ev popped_flight popped.asker popped.below n reply _ _ done_on
          (subst (λ (x : Recorded). Adds x.asks n (nodes_under m.held (map id_at (with_ask id w.current.records.asks)))) (sym popped.stands.so_far)
          (subst (λ (x : Node). Adds (nodes_under m.held (map id_at w.current.records.asks)) x (nodes_under m.held (map id_at (with_ask id w.current.records.asks)))) node_is (ask_adds m.held once w.current.records.asks asks id k among id_is (under ∙ sym node_is))))
          (subst (λ (x : Recorded). Adds x.reads (read.Node n) (added read_eq w.current.records.seen.reads (read.Node n))) (sym popped.stands.so_far) (read_adds w.current.records.seen.reads (read.Node n)))

      handed_is : handed ≡ recorded_in m.held records
      handed_is =
          ap (λ (x : Recorded). record x { asks = nodes_under m.held (map id_at (with_ask id w.current.records.asks)); reads = added read_eq w.current.records.seen.reads (read.Node n) }) popped.stands.so_far
          ∙ sym (recorded_as m.held records (with_read (read.Node n) w.current.records.seen) (with_ask id w.current.records.asks) rs ra)

      -- it goes on to where it halts
      pub asker_flies : (stack : Flight) (r : Running) (seen : Seen) → stack.below ≡ popped.states → r.current.node ≡ w.current.node → r.current.records.seen ≡ seen → r.current.records.asks ≡ records.asks
          → HaltsAt model w.current.node (popped.asker.go reply) records.seen seen r.halt stack.top → HasOwnKey w.current.node seen.keys → Flies model q m stack front r now
      asker_flies stack r seen eb en es ea halts own =
          let ids : List Node = nodes_under m.held (map id_at records.asks) in
          let past : GoesPast model popped_flight.held (popped.asker.go reply) (recorded_in m.held records) halts.rest (recorded seen ids) = halts.past popped_flight.held ids in
          let top : IsTop model q.ev popped_flight popped.asker.node (recorded_in m.held records) (popped.asker.go reply) = subst (λ (x : Recorded). IsTop model q.ev popped_flight popped.asker.node x (popped.asker.go reply)) handed_is handed_top in
          let on : IsTop model q.ev popped_flight popped.asker.node (recorded seen ids) halts.rest = passing model q.ev popped_flight popped.asker.node (popped.asker.go reply) halts.rest (recorded_in m.held records) (recorded seen ids) ends past top in
          let same : recorded_in m.held r.current.records ≡ recorded seen ids = recorded_as m.held r.current.records seen records.asks es ea in
          record {
            flight = popped_flight;
            aloft = record {
              held = h.aloft.held;
              counted = h.aloft.counted;
              stand = subst (λ (x : List State). Stand m.held x (reverse front) popped.below q.bottom) (sym eb) popped.others;
            };
            way = subst (λ (x : Node). IsOnTheWay model q.bottom x) (first_pushed front w n ∙ ap (first_of front) (sym en)) h.way;
            run = halts.rest;
            halts = subst (λ (x : Node). HaltsAs x halts.rest r.halt stack.top) (sym en) halts.halts;
            own = subst (λ (x : Node). HasOwnKey x r.current.records.seen.keys) (sym en) (subst (λ (x : Seen). HasOwnKey w.current.node x.keys) (sym es) own);
            top = subst (λ (x : Node). IsTop model q.ev popped_flight x (recorded_in m.held r.current.records) halts.rest) (popped.stands.node ∙ sym en) (subst (λ (x : Recorded). IsTop model q.ev popped_flight popped.asker.node x halts.rest) (sym same) on);
          }
