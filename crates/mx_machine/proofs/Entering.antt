-- What comes of an evaluation whose walk waited for items: where it broke off on the way, and where its run goes on behind.
use Rattle.std.proofs.Common.{◌≡◌, ℕ, ◌+◌, ◌-◌, ◌≤◌, false, if◌then◌else◌, List, [], ◌∷◌, ◌++◌, Result, Ok, Err, map, inl, inr, refl, sym, ◌∙◌, ap, subst, arith}
use Rattle.mx_graph.specs.declared.ids.NodeId.{NodeId}
use Rattle.mx_value.specs.declared.value.Value.{Value}
use Rattle.mx_value.specs.declared.value.Segment.{Segment}
use Rattle.mx_value.specs.declared.node.Node.{Node}
use Rattle.mx_value.specs.declared.node.Node.TheVariants.{Cell, Item}
use Rattle.mx_value.specs.declared.refusal.EvalRefusal.{EvalRefusal}
use Rattle.mx_value.specs.declared.refusal.EvalRefusal.TheVariants as refusal
use Rattle.mx_edit.specs.Entry.{Entry}
use Rattle.mx_edit.specs.declared.key.Key.{Key}
use Rattle.mx_edit.specs.declared.key.Key.TheVariants.{Input}
use Rattle.mx_vertices.specs.Found.{IsNew}
use Rattle.mx_vertices.specs.Kept.{Kept}
use Rattle.mx_vertices.specs.Inputs as vertices
use Rattle.mx_vertices.specs.Reading.{id_at}
use Rattle.mx_memo.specs.Memos.{Memory, AreHeld}
use Rattle.mx_runs.specs.Lists.{Has}
use Rattle.mx_runs.specs.Runs.{Model, Run, Ends, NoSuch, WrongCount}
use Rattle.mx_runs.specs.Inputs.{is_static}
use Rattle.mx_answers.specs.Answers.{Evaluation, IsSettled}
use Rattle.mx_answers.specs.Held.{nodes_of}
use Rattle.mx_model.specs.Records.{ModelRecord}
use Rattle.mx_model.specs.Keys.{key_result}
use Rattle.mx_suspended.specs.Recorded.{Recorded, GoesPast}
use Rattle.mx_suspended.specs.Flights.{InFlight, IsTop}
use Rattle.mx_suspended.specs.Ended.{HasEnded}
use Rattle.mx_suspended.proofs.Steps.{passing, answering_no_such, answering_wrong_count, wanting_memory}
use Rattle.mx_state.specs.Evaluations.{IsAsked, AsBound, AsWritten, HasAsked}
use Rattle.mx_state.specs.Model.{model_of}
use Rattle.mx_state.specs.Proper.{address_of}
use Rattle.mx_state.proofs.Bound.{inputs_end}
use Rattle.mx_state.proofs.States.{one_is_asked}
use Rattle.mx_stack.specs.Flight.{Flight}
use Rattle.mx_node_runs.specs.Behind.{behind}
use Rattle.mx_node_runs.specs.Halts.{HaltsAs, HaltsAt}
use Rattle.mx_read_set.specs.Seen.{Seen}
use Rattle.mx_interpreter.specs.Runs.{recorded}
use Rattle.mx_memo_laws.specs.Entries.{entries_of, nodes_under, own_keys, IsKept, IsOrdered}
use Rattle.mx_memo_laws.specs.Laws.{HasGrown, HeldOnce}
use Rattle.mx_memo_laws.proofs.Nodes.{new_is_not_entered}
use Rattle.mx_binding.specs.Records.{recorded_in, HasOwnKey}
use Rattle.mx_binding.specs.declared.records.Records.{Records}
use Rattle.mx_binding.specs.declared.walking.Led.{Led}
use Rattle.mx_binding.specs.declared.walking.Led.TheVariants as led
use Rattle.mx_frames.specs.declared.current.Running.{Running}
use Rattle.mx_frames.specs.Flights.{AsksInOrder, Flies, IsSound, IsSoundWith, Drove, first_of}
use Rattle.mx_frames.specs.Driving.{DrivesOn, stage, within}
use Rattle.mx_frames.specs.declared.progress.Given.{Given}
use Rattle.mx_frames.specs.declared.runs.Frame.{Frame}
use Rattle.mx_frames.proofs.Flown.{unkept_end}
use Rattle.mx_frames.proofs.HeldLast.{grown_same}
use Rattle.mx_frames.proofs.Sound.{order_same, same_static}
use Rattle.mx_machine.specs.Behind.{IsFor, IsWalking, StandsThere, HasLostItem, IsOverFor, EntersAs}
use Rattle.mx_machine.specs.Closing.{IsOver}
use Rattle.mx_machine.specs.Settings.{evaluation_of}
use Rattle.mx_machine.specs.declared.arriving.Arrived.{Arrived}
use Rattle.mx_machine.proofs.Asked.{refused_no_such, refused_wrong_count}
use Rattle.mx_machine.proofs.Beginning.{work_of}
use Rattle.mx_machine.proofs.OnWay.{walks_alike}
use Rattle.mx_machine.proofs.Over.{over_by, over_broken, over_given, over_lost}

-- a node that is asked is the one written or its bound form
pub for_asked : (model : Model) (n c : Node) → IsAsked model n c → IsFor model n c
for_asked model n c (AsBound b) = inr b
for_asked model n c (AsWritten none) = inl refl

module _ (text : ModelRecord) (n : Node) (start m : Memory) (limit before now : ℕ) (kept : IsKept (model_of text) start) (grown : HasGrown start m) where
  -- ---- it breaks off

  module _ (to : Led) (records : Records) (w : IsWalking (model_of text) n start m limit before now to records) where
    unmade_for : (c : Node) → IsFor (model_of text) n c → IsOver (model_of text) start m (evaluation_of c start limit) (now - before) (Err refusal.NoMemory)
    unmade_for c f =
        let s : StandsThere (model_of text) n start m limit before now c to records = w.stands c f in
        over_by text start c kept m limit before now grown s.way.flight.ticks (Err refusal.NoMemory) s.way.counted
        (subst (λ (es : List Entry). HasEnded (model_of text) (evaluation_of c start limit) es s.way.flight.ticks (Err refusal.NoMemory)) s.way.held
        (wanting_memory (model_of text) (evaluation_of c start limit) s.way.flight.held s.way.flight.ticks _ s.way.top.under_way))

    -- there was no memory
    pub over_unmade : IsOverFor (model_of text) n start m limit (now - before) (Err refusal.NoMemory)
    over_unmade = record {
      asked = λ c a. unmade_for c (for_asked (model_of text) n c a);
      tells = λ s. absurd s;
      some = n;
      over = unmade_for n (inl refl);
    }

  -- an item gave no reply
  pub over_lost_item : (e : EvalRefusal) → ((c : Node) → IsFor (model_of text) n c → HasLostItem (model_of text) n start m limit before now c e) → IsOverFor (model_of text) n start m limit (now - before) (Err e)
  over_lost_item e l =
      let over : (c : Node) → IsFor (model_of text) n c → IsOver (model_of text) start m (evaluation_of c start limit) (now - before) (Err e) = λ c f.
      over_by text start c kept m limit before now grown (l c f).ticks (Err e) (l c f).counted (l c f).ended in
      record {
        asked = λ c a. over c (for_asked (model_of text) n c a);
        tells = λ s. record { node = n; asked = AsWritten (λ b t. (l n (inl refl)).lost s b t) };
        some = n;
        over = over n (inl refl);
      }

  -- the walk led nowhere
  pub over_no_such : (records : Records) → IsWalking (model_of text) n start m limit before now led.NoSuch records → IsOverFor (model_of text) n start m limit (now - before) (Err refusal.NoSuch)
  over_no_such records w =
      let over : (c : Node) → IsFor (model_of text) n c → IsOver (model_of text) start m (evaluation_of c start limit) (now - before) (Err refusal.NoSuch) = λ c f.
      let s : StandsThere (model_of text) n start m limit before now c led.NoSuch records = w.stands c f in
      let top : IsTop (model_of text) (evaluation_of c start limit) s.way.flight c (recorded_in m.held records) (Ends NoSuch) =
      subst (λ (r : Run). IsTop (model_of text) (evaluation_of c start limit) s.way.flight c (recorded_in m.held records) r) s.way.at.runs s.way.top in
      over_by text start c kept m limit before now grown s.way.flight.ticks (Err refusal.NoSuch) s.way.counted
      (unkept_end (model_of text) (inputs_end (key_result text)) (work_of c start limit before) m s.way.flight _ refusal.NoSuch refl s.way.held s.way.top.under_way
      (answering_no_such (model_of text) (evaluation_of c start limit) s.way.flight c (recorded_in m.held records) s.way.flight.ticks (inputs_end (key_result text)) top)) in
      record {
        asked = λ c a. over c (for_asked (model_of text) n c a);
        tells = λ s. record { node = n; asked = refused_no_such text n m.held records (w.stands n (inl refl)).led };
        some = n;
        over = over n (inl refl);
      }

  -- arguments on the way do not bind
  pub over_wrong_count : (records : Records) → IsWalking (model_of text) n start m limit before now led.WrongCount records → IsOverFor (model_of text) n start m limit (now - before) (Err refusal.WrongCount)
  over_wrong_count records w =
      let over : (c : Node) → IsFor (model_of text) n c → IsOver (model_of text) start m (evaluation_of c start limit) (now - before) (Err refusal.WrongCount) = λ c f.
      let s : StandsThere (model_of text) n start m limit before now c led.WrongCount records = w.stands c f in
      let top : IsTop (model_of text) (evaluation_of c start limit) s.way.flight c (recorded_in m.held records) (Ends WrongCount) =
      subst (λ (r : Run). IsTop (model_of text) (evaluation_of c start limit) s.way.flight c (recorded_in m.held records) r) s.way.at.runs s.way.top in
      over_by text start c kept m limit before now grown s.way.flight.ticks (Err refusal.WrongCount) s.way.counted
      (unkept_end (model_of text) (inputs_end (key_result text)) (work_of c start limit before) m s.way.flight _ refusal.WrongCount refl s.way.held s.way.top.under_way
      (answering_wrong_count (model_of text) (evaluation_of c start limit) s.way.flight c (recorded_in m.held records) s.way.flight.ticks (inputs_end (key_result text)) top)) in
      record {
        asked = λ c a. over c (for_asked (model_of text) n c a);
        tells = λ s. record { node = n; asked = refused_wrong_count text n m.held records (w.stands n (inl refl)).led };
        some = n;
        over = over n (inl refl);
      }

-- ---- it goes on behind

no_own_key : (c : Node) → is_static (address_of c) ≡ false → own_keys c ≡ []
no_own_key (Cell at name args) s = ap (λ b. if b then Input (Cell at name args) ∷ [] else []) (same_static at ∙ s)
no_own_key (Item at args) s = refl

-- behind a walk, nothing of its own input is owed
has_no_own_key : (c : Node) (keys : List Key) → is_static (address_of c) ≡ false → HasOwnKey c keys
has_no_own_key c keys s = record { more = keys; is = ap (λ (ks : List Key). ks ++ keys) (sym (no_own_key c s)) }

-- the node that is asked is not held
pub asked_new : (text : ModelRecord) (n c : Node) (start m : Memory) (limit before now : ℕ) (to : Led) (records : Records) → IsFor (model_of text) n c → IsWalking (model_of text) n start m limit before now to records → IsNew m.held c
asked_new text n c start m limit before now to records f w =
    let s : StandsThere (model_of text) n start m limit before now c to records = w.stands c f in
    (new_is_not_entered m.held c).1 (λ h. s.way.top.apart.unknown c (inl refl) (inl (subst (λ (es : List Entry). Has (nodes_of es) c) (sym s.way.held) h)))

-- only this node is asked
pub over_for_one : (text : ModelRecord) (n c : Node) (start m : Memory) (limit ticks : ℕ) (answer : Result Value EvalRefusal) → IsAsked (model_of text) n c → IsOver (model_of text) start m (evaluation_of c start limit) ticks answer → IsOverFor (model_of text) n start m limit ticks answer
over_for_one text n c start m limit ticks answer asked over = record {
  asked = λ d a. subst (λ (x : Node). IsOver (model_of text) start m (evaluation_of x start limit) ticks answer) (one_is_asked text n c d asked a) over;
  tells = λ s. record { node = c; asked = asked };
  some = c;
  over = over;
}

module _ (text : ModelRecord) (n c : Node) (start m m2 : Memory) (limit before now : ℕ) (a : Arrived) (asked : IsAsked (model_of text) n c) (w : IsWalking (model_of text) n start m limit before now (led.Came a.space) a.records)
    (stack : Flight) (r : Running) (e : EntersAs (model_of text) m m2 c a stack r) where
  abbrev there : StandsThere (model_of text) n start m limit before now c (led.Came a.space) a.records
  there = w.stands c (for_asked (model_of text) n c asked)

  held_same : m2.held ≡ m.held
  held_same = ap (λ (x : Memory). x.held) e.begun

  -- no other run waits
  pub enters_sound : IsSound m [] [] → IsSoundWith m2 [] r
  enters_sound s = record {
    sound = subst (λ (x : Node). IsSound m2 [] (x ∷ [])) (sym e.node) (record {
      ordered = order_same m m2 s.ordered held_same (ap (λ (x : Memory). x.last) e.begun);
      held_once = subst (λ (ks : List Kept). HeldOnce ks) (sym held_same) s.held_once;
      begun = ap (λ (x : Memory). x.begun) e.begun ∙ ap (λ (ns : List Node). ns ++ c ∷ []) s.begun;
      once = ((λ h. h), tt);
      new = λ x h. elim h [
        | inl i ↦ subst (λ (ks : List Kept). IsNew ks x) (sym held_same) (subst (λ (y : Node). IsNew m.held y) i (asked_new text n c start m limit before now (led.Came a.space) a.records (for_asked (model_of text) n c asked) w))
        | inr i ↦ absurd i
      ];
      asks = λ v h. absurd h;
    });
    asks = subst (λ (ids : List NodeId). AreHeld m2.held ids) (sym e.asks) (subst (λ (ks : List Kept). AreHeld ks a.records.asks) (sym held_same) there.led.stands.asks);
  }

  recorded_then : recorded_in m2.held r.current.records ≡ recorded r.current.records.seen (recorded_in m.held a.records).asks
  recorded_then =
      ap (λ (ids : List NodeId). recorded r.current.records.seen (nodes_under m2.held (map id_at ids))) e.asks
      ∙ ap (λ (ks : List Kept). recorded r.current.records.seen (nodes_under ks (map id_at a.records.asks))) held_same

  top_behind : IsTop (model_of text) (evaluation_of c start limit) there.way.flight c (recorded_in m.held a.records) (behind c a.space)
  top_behind = subst (λ (x : Run). IsTop (model_of text) (evaluation_of c start limit) there.way.flight c (recorded_in m.held a.records) x) there.way.at.runs there.way.top

  top_halted : IsTop (model_of text) (evaluation_of c start limit) there.way.flight c (recorded_in m2.held r.current.records) e.halts.rest
  top_halted = subst (λ (x : Recorded). IsTop (model_of text) (evaluation_of c start limit) there.way.flight c x e.halts.rest) (sym recorded_then)
      (passing (model_of text) (evaluation_of c start limit) there.way.flight c (behind c a.space) e.halts.rest (recorded_in m.held a.records) (recorded r.current.records.seen (recorded_in m.held a.records).asks) (inputs_end (key_result text))
      (e.halts.past there.way.flight.held (recorded_in m.held a.records).asks) top_behind)

  -- the run of the node flies alone
  pub enters_flying : Flies (model_of text) (work_of c start limit before) m2 stack [] r now
  enters_flying = record {
    flight = there.way.flight;
    aloft = record {
      held = there.way.held ∙ ap entries_of (sym held_same);
      counted = there.way.counted;
      stand = there.way.alone;
    };
    way = λ f h. absurd h;
    run = e.halts.rest;
    halts = subst (λ (x : Node). HaltsAs x e.halts.rest r.halt stack.top) (sym e.node) e.halts.halts;
    own = subst (λ (x : Node). HasOwnKey x r.current.records.seen.keys) (sym e.node) (has_no_own_key c r.current.records.seen.keys ((walks_alike text n c (for_asked (model_of text) n c asked)).static ∙ w.item));
    top = subst (λ (x : Node). IsTop (model_of text) (evaluation_of c start limit) there.way.flight x (recorded_in m2.held r.current.records) e.halts.rest) (sym e.node) top_halted;
  }

  -- ---- and comes to its end

  module _ (kept : IsKept (model_of text) start) (order : AsksInOrder (model_of text)) (frames : List Frame) (none : frames ≡ []) (m3 : Memory) (later : ℕ) (grown : HasGrown start m3) where
    went_on : (result : Result Given EvalRefusal) → DrivesOn (model_of text) (within limit 0) r (stage m2 stack frames now) m3 later result → Drove (model_of text) (work_of c start limit before) m3 (first_of frames r.current.node) later result
    went_on result drives = drives (work_of c start limit before) order (record { limit_is = refl; below_is = refl })
        (subst (λ (ws : List Frame). Flies (model_of text) (work_of c start limit before) m2 stack ws r now) (sym none) enters_flying)

    -- without a reply
    pub over_gone : (e : EvalRefusal) → DrivesOn (model_of text) (within limit 0) r (stage m2 stack frames now) m3 later (Err e) → IsOverFor (model_of text) n start m3 limit (later - before) (Err e)
    over_gone e drives = over_for_one text n c start m3 limit (later - before) (Err e) asked
        (over_broken text start c kept m3 limit before later grown (first_of frames r.current.node) e (went_on (Err e) drives))

    module _ (given : Given) (drives : DrivesOn (model_of text) (within limit 0) r (stage m2 stack frames now) m3 later (Ok given)) where
      -- with its reply, whose value is the answer
      pub over_replied : (v : Value) → v ≡ given.reply.value → IsOverFor (model_of text) n start m3 limit (later - before) (Ok v)
      over_replied v e = over_for_one text n c start m3 limit (later - before) (Ok v) asked (over_given text start c kept m3 limit before later grown given (went_on (Ok given) drives).0 v e)

      -- there was no memory for the value
      pub over_forgotten : IsOverFor (model_of text) n start m3 limit (later - before) (Err refusal.NoMemory)
      over_forgotten = over_for_one text n c start m3 limit (later - before) (Err refusal.NoMemory) asked (over_lost text start c kept m3 limit before later grown given (went_on (Ok given) drives).0)

-- an evaluation is over by what is held, whatever has begun
pub over_same : (text : ModelRecord) (n : Node) (start m m2 : Memory) (limit ticks : ℕ) (answer : Result Value EvalRefusal) → m2.held ≡ m.held → m2.last ≡ m.last → IsOverFor (model_of text) n start m limit ticks answer → IsOverFor (model_of text) n start m2 limit ticks answer
over_same text n start m m2 limit ticks answer h l o =
    let same : (c : Node) → IsOver (model_of text) start m (evaluation_of c start limit) ticks answer → IsOver (model_of text) start m2 (evaluation_of c start limit) ticks answer = λ c v. record {
      kept = v.kept;
      held = v.held;
      grown = grown_same start m m2 h l v.grown;
      ended = subst (λ (ks : List Kept). HasEnded (model_of text) (evaluation_of c start limit) (entries_of ks) ticks answer) (sym h) v.ended;
    } in
    record {
      asked = λ c a. same c (o.asked c a);
      tells = o.tells;
      some = o.some;
      over = same o.some o.over;
    }
