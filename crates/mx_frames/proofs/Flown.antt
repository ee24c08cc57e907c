-- What each step makes of the runs in flight.
use Rattle.std.proofs.Common.{Bool, true, false, if◌then◌else◌, ◌≡◌, ℕ, suc, ◌+◌, List, [], ◌∷◌, ◌++◌, inl, inr, Err, reverse, refl, sym, ◌∙◌, ap, subst, arith}
use Rattle.mx_value.specs.declared.node.Node.{Node}
use Rattle.mx_value.specs.declared.fault.FaultKind.{FaultKind}
use Rattle.mx_value.specs.declared.refusal.EvalRefusal.{EvalRefusal}
use Rattle.mx_value.specs.declared.refusal.EvalRefusal.TheVariants as refusal
use Rattle.mx_edit.specs.Entry.{Entry}
use Rattle.mx_vertices.specs.Kept.{Kept}
use Rattle.mx_memo.specs.Memos.{Memory}
use Rattle.mx_runs.specs.Lists.{Has}
use Rattle.mx_runs.specs.Runs.{Model, Run, Outcome, Ends, Faults, NoSuch, WrongCount}
use Rattle.mx_runs.specs.Inputs.{InputsEnd}
use Rattle.mx_runs.specs.Chains.{HasValue}
use Rattle.mx_runs.specs.Meaning.{Leads}
use Rattle.mx_runs.proofs.Meanings.{finished, failure_no_value, IsFailure, failure_reached}
use Rattle.mx_answers.specs.Answers.{Answer}
use Rattle.mx_suspended.specs.Recorded.{Recorded, GoesPast, nothing}
use Rattle.mx_suspended.specs.Flights.{InFlight, IsTop, IsUnderWay, nodes_waiting}
use Rattle.mx_suspended.specs.Ended.{HasEnded, keeps}
use Rattle.mx_suspended.proofs.Steps.{beginning, passing, answering_fault, answering_no_such, answering_wrong_count, wanting_memory}
use Rattle.mx_suspended.proofs.Waiting.{none_has_value}
use Rattle.mx_code_law.specs.States.{State}
use Rattle.mx_stack.specs.Flight.{Flight}
use Rattle.mx_lookup.specs.declared.ending.Ending.TheVariants as ending
use Rattle.mx_read_set.specs.Seen.{Seen, nothing_seen}
use Rattle.mx_interpreter.specs.Runs.{recorded}
use Rattle.mx_node_runs.specs.Halts.{HaltsAs, HaltsAt}
use Rattle.mx_memo_laws.specs.Entries.{entries_of}
use Rattle.mx_binding.specs.Records.{recorded_in, HasOwnKey}
use Rattle.mx_binding.specs.declared.records.Records.{Records}
use Rattle.mx_frames.specs.Passing.{IsPausedAt, Pauses}
use Rattle.mx_frames.specs.Flights.{Work, Flies, IsAwaited, IsPaused, HasBrokenOff, Stand, IsOnTheWay, first_of, frame_nodes}
use Rattle.mx_frames.specs.declared.runs.Frame.{Frame}
use Rattle.mx_frames.specs.declared.current.Running.{Running}
use Rattle.mx_frames.specs.declared.passing.Stretch.{Stretch}
use Rattle.mx_frames.specs.declared.passing.Paused.{Paused}
use Rattle.mx_frames.specs.declared.passing.Paused.TheVariants as paused
use Rattle.mx_frames.proofs.Asks.{recorded_as}
use Rattle.mx_frames.proofs.Standing.{stand_nodes, map_reverse, rev_front}

-- nothing is asked yet
recorded_none : (held : List Kept) (r : Records) (seen : Seen) → r.seen ≡ seen → r.asks ≡ [] → recorded_in held r ≡ recorded seen []
recorded_none held r seen s a = recorded_as held r seen [] s a

pub in_front : {X : Type 0} (xs ys : List X) (x : X) → Has xs x → Has (xs ++ ys) x
in_front [] ys x h = absurd h
in_front (z ∷ xs) ys x h = elim h [ inl i ↦ inl i | inr i ↦ inr (in_front xs ys x i) ]

pub at_end : {X : Type 0} (xs : List X) (x : X) → Has (xs ++ x ∷ []) x
at_end [] x = inl refl
at_end (z ∷ xs) x = inr (at_end xs x)

module _ (model : Model) (ends : InputsEnd model) (q : Work) where
  -- what has ended, by an answer that keeps what is held, and by one that does not
  pub kept_end : (m : Memory) (flight : InFlight) (flying : ℕ) (e : EvalRefusal) → keeps (Err e) ≡ true → flight.held ≡ entries_of m.held → IsUnderWay model q.ev flight.held flight.ticks flying → Answer model q.ev (Err e) flight.held flight.ticks → HasEnded model q.ev (entries_of m.held) flight.ticks (Err e)
  kept_end m flight flying e k h u a = subst (λ (es : List Entry). HasEnded model q.ev es flight.ticks (Err e)) h (record {
    memo = u.memo;
    more = u.more;
    grown = u.grown;
    right = subst (λ (b : Bool). Answer model q.ev (Err e) (if b then flight.held else q.ev.held) flight.ticks) (sym k) a;
  })

  pub unkept_end : (m : Memory) (flight : InFlight) (flying : ℕ) (e : EvalRefusal) → keeps (Err e) ≡ false → flight.held ≡ entries_of m.held → IsUnderWay model q.ev flight.held flight.ticks flying → Answer model q.ev (Err e) q.ev.held flight.ticks → HasEnded model q.ev (entries_of m.held) flight.ticks (Err e)
  unkept_end m flight flying e k h u a = subst (λ (es : List Entry). HasEnded model q.ev es flight.ticks (Err e)) h (record {
    memo = u.memo;
    more = u.more;
    grown = u.grown;
    right = subst (λ (b : Bool). Answer model q.ev (Err e) (if b then flight.held else q.ev.held) flight.ticks) (sym k) a;
  })

  -- no memory
  pub under_broken : (m : Memory) (flight : InFlight) (flying : ℕ) (first : Node) (now : ℕ) → flight.held ≡ entries_of m.held → q.before + flight.ticks ≡ now → IsUnderWay model q.ev flight.held flight.ticks flying → HasBrokenOff model q m first now refusal.NoMemory
  under_broken m flight flying first now h t u = record {
    ticks = flight.ticks;
    counted = t;
    ended = subst (λ (es : List Entry). HasEnded model q.ev es flight.ticks (Err refusal.NoMemory)) h (wanting_memory model q.ev flight.held flight.ticks flying u);
    lost = λ s v. s;
  }

  pub awaited_broken : (m : Memory) (stack : Flight) (frames : List Frame) (n : Node) (first : Node) (now : ℕ) → IsAwaited model q m stack frames n now → HasBrokenOff model q m first now refusal.NoMemory
  awaited_broken m stack frames n first now a = under_broken m a.flight _ first now a.aloft.held a.aloft.counted a.awaits.under_way

  pub flying_broken : (m : Memory) (stack : Flight) (frames : List Frame) (r : Running) (first : Node) (now : ℕ) → Flies model q m stack frames r now → HasBrokenOff model q m first now refusal.NoMemory
  flying_broken m stack frames r first now f = under_broken m f.flight _ first now f.aloft.held f.aloft.counted f.top.under_way

  pub paused_broken : (m : Memory) (stack : Flight) (frames : List Frame) (s : Stretch) (first : Node) (now : ℕ) → IsPaused model q m stack frames s now → HasBrokenOff model q m first now refusal.NoMemory
  paused_broken m stack frames s first now f = under_broken m f.flight _ first now f.aloft.held f.aloft.counted f.top.under_way

  -- ---- a run begins

  module _ (m : Memory) (stack : Flight) (frames : List Frame) (n : Node) (now : ℕ) (a : IsAwaited model q m stack frames n now) where
    abbrev begun : InFlight
    begun = record a.flight { ticks = suc a.flight.ticks }

    abbrev begun_top : IsTop model q.ev begun n nothing (model.body n)
    begun_top = beginning model q.ev a.flight n a.awaits a.apart a.room

    -- it is counted, and wants memory
    pub begun_broken : (after : Memory) (first : Node) (later : ℕ) → after.held ≡ m.held → later ≡ suc now → HasBrokenOff model q after first later refusal.NoMemory
    begun_broken after first later h t = under_broken after begun _ first later (a.aloft.held ∙ ap entries_of (sym h)) (let z = a.aloft.counted in omega (arith, z, t)) begun_top.under_way

    -- it goes on to where it halts
    pub begun_flies : (after : Memory) (stack2 : Flight) (r : Running) (seen : Seen) (later : ℕ) → after.held ≡ m.held → stack2.below ≡ stack.below → later ≡ suc now
        → r.current.node ≡ n → r.current.records.seen ≡ seen → r.current.records.asks ≡ [] → HaltsAt model n (model.body n) nothing_seen seen r.halt stack2.top → HasOwnKey n seen.keys → Flies model q after stack2 frames r later
    begun_flies after stack2 r seen later h b t e es ea halts own =
        let past : GoesPast model begun.held (model.body n) nothing halts.rest (recorded seen []) = halts.past begun.held [] in
        let top : IsTop model q.ev begun n (recorded seen []) halts.rest = passing model q.ev begun n (model.body n) halts.rest nothing (recorded seen []) ends past begun_top in
        let same : recorded_in after.held r.current.records ≡ recorded seen [] = recorded_none after.held r.current.records seen es ea in
        record {
          flight = begun;
          aloft = record {
            held = a.aloft.held ∙ ap entries_of (sym h);
            counted = (let z = a.aloft.counted in omega (arith, z, t));
            stand = subst (λ (ks : List Kept). Stand ks stack2.below (reverse frames) a.flight.waiting q.bottom) (sym h) (subst (λ (x : List State). Stand m.held x (reverse frames) a.flight.waiting q.bottom) (sym b) a.aloft.stand);
          };
          way = subst (λ (x : Node). IsOnTheWay model q.bottom (first_of frames x)) (sym e) a.way;
          run = halts.rest;
          halts = subst (λ (x : Node). HaltsAs x halts.rest r.halt stack2.top) (sym e) halts.halts;
          own = subst (λ (x : Node). HasOwnKey x r.current.records.seen.keys) (sym e) (subst (λ (x : Seen). HasOwnKey n x.keys) (sym es) own);
          top = subst (λ (x : Node). IsTop model q.ev begun x (recorded_in after.held r.current.records) halts.rest) (sym e) (subst (λ (x : Recorded). IsTop model q.ev begun n x halts.rest) (sym same) top);
        }

  -- ---- a run goes on past what is known

  pub flies_past : (m : Memory) (stack stack2 : Flight) (frames : List Frame) (r : Running) (s : Stretch) (now : ℕ) → (f : Flies model q m stack frames r now) → s.current.node ≡ r.current.node → stack2.below ≡ stack.below → Pauses model m f.run r.current.records s stack2.top → HasOwnKey s.current.node s.current.records.seen.keys → IsPaused model q m stack2 frames s now
  flies_past m stack stack2 frames r s now f e b p own = record {
    flight = f.flight;
    aloft = record {
      held = f.aloft.held;
      counted = f.aloft.counted;
      stand = subst (λ (x : List State). Stand m.held x (reverse frames) f.flight.waiting q.bottom) (sym b) f.aloft.stand;
    };
    way = subst (λ (x : Node). IsOnTheWay model q.bottom (first_of frames x)) (sym e) f.way;
    run = p.rest;
    pauses = p.pauses;
    own = own;
    top = subst (λ (x : Node). IsTop model q.ev f.flight x (recorded_in m.held s.current.records) p.rest) (sym e)
        (passing model q.ev f.flight r.current.node f.run p.rest (recorded_in m.held r.current.records) (recorded_in m.held s.current.records) ends
        (subst (λ (es : List Entry). GoesPast model es f.run (recorded_in m.held r.current.records) p.rest (recorded_in m.held s.current.records)) (sym f.aloft.held) p.past) f.top);
  }

  -- ---- a run ends without a value

  module _ (m : Memory) (stack : Flight) (frames : List Frame) (s : Stretch) (now : ℕ) (p : IsPaused model q m stack frames s now) where
    -- the first in flight is the run on top, or waits
    pub is_flying : (first : Node) → first_of frames s.current.node ≡ first → Has (s.current.node ∷ nodes_waiting p.flight.waiting) first
    is_flying first e = subst (λ (x : Node). Has (s.current.node ∷ nodes_waiting p.flight.waiting) x) e
        (subst (λ (ns : List Node). Has (s.current.node ∷ ns) (first_of frames s.current.node)) (sym (stand_nodes m.held stack.below (reverse frames) p.flight.waiting q.bottom p.aloft.stand)) (here frames))
      where
        here : (ws : List Frame) → Has (s.current.node ∷ (frame_nodes (reverse ws) ++ nodes_waiting q.bottom)) (first_of ws s.current.node)
        here [] = inl refl
        here (w ∷ ws) = inr (in_front (frame_nodes (reverse (w ∷ ws))) (nodes_waiting q.bottom) w.current.node
            (subst (λ (ns : List Node). Has ns w.current.node) (sym (map_reverse (λ (v : Frame). v.current.node) (w ∷ ws) ∙ rev_front w.current.node (frame_nodes ws))) (at_end (reverse (frame_nodes ws)) w.current.node)))

    -- it has no value where the run on top has none
    first_lost : (first : Node) → first_of frames s.current.node ≡ first → (HasValue model s.current.node → ⊥) → HasValue model first → ⊥
    first_lost first e none = none_has_value model q.ev p.flight.waiting s.current.node p.top.since p.top.waits none first (is_flying first e)

    top_fails : (o : Outcome) → IsFailure o → p.run ≡ Ends o → HasValue model s.current.node → ⊥
    top_fails o f e = failure_no_value model s.current.node o f (finished model s.current.node p.top.stands.comes.events o (failure_reached o f) (subst (λ (x : Run). Leads model (model.body s.current.node) p.top.stands.comes.events x) e p.top.stands.comes.leads))

    pub paused_fault : (kind : FaultKind) (line : ℕ) (n first : Node) → n ≡ s.current.node → first_of frames s.current.node ≡ first → s.paused ≡ paused.Ends (ending.Faults kind line) → HasBrokenOff model q m first now (refusal.Fault kind n line)
    paused_fault kind line n first en ef e =
        let is : p.run ≡ Ends (Faults kind s.current.node line) = subst (λ (x : Paused). IsPausedAt model m s.current.node p.run x stack.top) e p.pauses in
        let top : IsTop model q.ev p.flight s.current.node (recorded_in m.held s.current.records) (Ends (Faults kind s.current.node line)) = subst (λ (x : Run). IsTop model q.ev p.flight s.current.node (recorded_in m.held s.current.records) x) is p.top in
        subst (λ (x : Node). HasBrokenOff model q m first now (refusal.Fault kind x line)) (sym en) (record {
          ticks = p.flight.ticks;
          counted = p.aloft.counted;
          ended = kept_end m p.flight _ (refusal.Fault kind s.current.node line) refl p.aloft.held p.top.under_way (answering_fault model q.ev p.flight s.current.node s.current.node (recorded_in m.held s.current.records) kind line ends top);
          lost = λ z. first_lost first ef (top_fails (Faults kind s.current.node line) tt is);
        })

    pub paused_no_such : (first : Node) → first_of frames s.current.node ≡ first → s.paused ≡ paused.Ends ending.NoSuch → HasBrokenOff model q m first now refusal.NoSuch
    paused_no_such first ef e =
        let is : p.run ≡ Ends NoSuch = subst (λ (x : Paused). IsPausedAt model m s.current.node p.run x stack.top) e p.pauses in
        let top : IsTop model q.ev p.flight s.current.node (recorded_in m.held s.current.records) (Ends NoSuch) = subst (λ (x : Run). IsTop model q.ev p.flight s.current.node (recorded_in m.held s.current.records) x) is p.top in
        record {
          ticks = p.flight.ticks;
          counted = p.aloft.counted;
          ended = unkept_end m p.flight _ refusal.NoSuch refl p.aloft.held p.top.under_way (answering_no_such model q.ev p.flight s.current.node (recorded_in m.held s.current.records) p.flight.ticks ends top);
          lost = λ z. first_lost first ef (top_fails NoSuch tt is);
        }

    pub paused_wrong_count : (first : Node) → first_of frames s.current.node ≡ first → s.paused ≡ paused.Ends ending.WrongCount → HasBrokenOff model q m first now refusal.WrongCount
    paused_wrong_count first ef e =
        let is : p.run ≡ Ends WrongCount = subst (λ (x : Paused). IsPausedAt model m s.current.node p.run x stack.top) e p.pauses in
        let top : IsTop model q.ev p.flight s.current.node (recorded_in m.held s.current.records) (Ends WrongCount) = subst (λ (x : Run). IsTop model q.ev p.flight s.current.node (recorded_in m.held s.current.records) x) is p.top in
        record {
          ticks = p.flight.ticks;
          counted = p.aloft.counted;
          ended = unkept_end m p.flight _ refusal.WrongCount refl p.aloft.held p.top.under_way (answering_wrong_count model q.ev p.flight s.current.node (recorded_in m.held s.current.records) p.flight.ticks ends top);
          lost = λ z. first_lost first ef (top_fails WrongCount tt is);
        }
