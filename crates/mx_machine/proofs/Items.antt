-- An item on the way has given its reply, or has broken off.
use Rattle.std.proofs.Common.{◌≡◌, ℕ, ◌+◌, ◌-◌, ◌≤◌, ◌<◌, List, [], ◌∷◌, ◌++◌, Option, Result, Ok, Err, length, inl, inr, refl, sym, ◌∙◌, ap, subst, arith}
use Rattle.mx_graph.specs.declared.ids.NodeId.{NodeId}
use Rattle.mx_value.specs.declared.value.Segment.{Segment}
use Rattle.mx_value.specs.declared.namespace.Namespace.{Namespace}
use Rattle.mx_value.specs.declared.node.Node.{Node}
use Rattle.mx_value.specs.declared.read.Read.TheVariants as read
use Rattle.mx_value.specs.declared.refusal.EvalRefusal.{EvalRefusal}
use Rattle.mx_value.specs.declared.refusal.EvalRefusal.TheVariants as refusal
use Rattle.mx_edit.specs.Entry.{Entry}
use Rattle.mx_edit.specs.declared.reply.Reply.{Reply}
use Rattle.mx_vertices.specs.declared.slot.Body.{Body}
use Rattle.mx_vertices.specs.Found.{IsHeldAs, IsHeldWith}
use Rattle.mx_memo.specs.Memos.{Memory}
use Rattle.mx_runs.specs.Runs.{Model, Run, Asks, Event, Asked}
use Rattle.mx_runs.specs.Meaning.{Leads}
use Rattle.mx_runs.specs.Chains.{HasValue}
use Rattle.mx_answers.specs.Answers.{IsSettled}
use Rattle.mx_answers.specs.Records.{IsRightMemo}
use Rattle.mx_model.specs.Records.{ModelRecord}
use Rattle.mx_model.specs.Keys.{key_result}
use Rattle.mx_suspended.specs.ItemsFirst.{WaitsOnTheWay}
use Rattle.mx_meaning.specs.Laws.{BindsTo}
use Rattle.mx_meaning.specs.Walks.{entered, walked_from}
use Rattle.mx_meaning.specs.Binding.{binding}
use Rattle.mx_suspended.specs.Ended.{HasEnded}
use Rattle.mx_suspended.proofs.Steps.{wanting_memory}
use Rattle.mx_state.specs.Model.{model_of}
use Rattle.mx_state.specs.Proper.{address_of}
use Rattle.mx_state.proofs.Binding.{each_binds_behind, lost_binds_none}
use Rattle.mx_stack.specs.Flight.{Flight, idle}
use Rattle.mx_read_set.specs.Seen.{with_read}
use Rattle.mx_memo_laws.specs.Entries.{entries_of, IsOrdered}
use Rattle.mx_memo_laws.specs.Laws.{HasGrown}
use Rattle.mx_binding.specs.Records.{with_ask}
use Rattle.mx_binding.specs.declared.records.Records.{Records}
use Rattle.mx_binding.specs.declared.walking.Led.{Led}
use Rattle.mx_binding.specs.declared.walking.Led.TheVariants as led
use Rattle.mx_binding.specs.Walking.{IsLedOn, LeadsFurther}
use Rattle.mx_binding.proofs.Resuming.{goes_on}
use Rattle.mx_frames.specs.Flights.{AsksInOrder, Drove, HasBrokenOff, IsAwaited, IsGiven, IsWithin, Work, first_of}
use Rattle.mx_frames.specs.Driving.{DrivesFrom, stage, within}
use Rattle.mx_frames.specs.declared.runs.Frame.{Frame}
use Rattle.mx_frames.specs.declared.progress.Given.{Given}
use Rattle.mx_machine.specs.Behind.{IsFor, IsWalking, StandsThere, HasLostItem}
use Rattle.mx_machine.specs.Settings.{evaluation_of}
use Rattle.mx_machine.proofs.OnWay.{item_awaited, item_too_deep, next_on_way, work_waiting}

-- what `drive` ensures, with no frame on its stack
pub drives_alone : (text : ModelRecord) (m : Memory) (stack : Flight) (frames : List Frame) (i : Node) (limit now : ℕ) (m2 : Memory) (later : ℕ) (result : Result Given EvalRefusal) → frames ≡ [] → AsksInOrder (model_of text)
    → DrivesFrom (model_of text) (within limit 1) i (stage m stack frames now) m2 later result
    → (q : Work) → IsWithin q limit 1 → IsAwaited (model_of text) q m stack [] i now → Drove (model_of text) q m2 i later result
drives_alone text m stack frames i limit now m2 later result e order drove q w a =
    subst (λ (ws : List Frame). Drove (model_of text) q m2 (first_of ws i) later result) e
    (drove q order w (subst (λ (ws : List Frame). IsAwaited (model_of text) q m stack ws i now) (sym e) a))

module _ (text : ModelRecord) (n : Node) (in_order : AsksInOrder (model_of text)) (on_the_way : WaitsOnTheWay) (start m : Memory) (limit before now : ℕ) (records : Records) (i : Node) (rest : List Segment)
    (w : IsWalking (model_of text) n start m limit before now (led.Waits i rest) records) where
  abbrev there : (c : Node) → IsFor (model_of text) n c → StandsThere (model_of text) n start m limit before now c (led.Waits i rest) records
  there c f = w.stands c f

  -- the evaluation that waits for the item, of either node
  abbrev work : (c : Node) → IsFor (model_of text) n c → Work
  work c f = work_waiting text n in_order on_the_way start m limit before now records i rest (there c f).led c f (there c f).way

  -- a node whose item has no value has no bound form
  lost_with : (HasValue (model_of text) i → ⊥) → (b : Node) → BindsTo (model_of text) n b → ⊥
  lost_with none b = lost_binds_none text n i (there n (inl refl)).led.stands.walk.events (λ go r. entered r.namespace (λ ns. walked_from rest ns ((each_binds_behind n).behind go)))
      (λ go. subst (λ (x : Run). Leads (model_of text) x (there n (inl refl)).led.stands.walk.events (Asks i (λ r. entered r.namespace (λ ns. walked_from rest ns ((each_binds_behind n).behind go))))) (sym ((each_binds_behind n).is go)) ((there n (inl refl)).led.stands.walk.leads ((each_binds_behind n).behind go))) none b

  -- there is no room for it
  pub too_deep : limit ≤ 1 → (to : Node) → to ≡ i → (c : Node) → IsFor (model_of text) n c → HasLostItem (model_of text) n start m limit before now c (refusal.TooDeep to)
  too_deep deep to e c f = record {
    ticks = (there c f).way.flight.ticks;
    counted = (there c f).way.counted;
    ended = item_too_deep text n in_order on_the_way start m limit before now records i rest (there c f).led c f (there c f).way deep to e;
    lost = λ s b t. s;
  }

  -- there is no memory before it
  pub unmade : (c : Node) → IsFor (model_of text) n c → HasLostItem (model_of text) n start m limit before now c refusal.NoMemory
  unmade c f = record {
    ticks = (there c f).way.flight.ticks;
    counted = (there c f).way.counted;
    ended = subst (λ (es : List Entry). HasEnded (model_of text) (evaluation_of c start limit) es (there c f).way.flight.ticks (Err refusal.NoMemory)) (there c f).way.held
        (wanting_memory (model_of text) (evaluation_of c start limit) (there c f).way.flight.held (there c f).way.flight.ticks _ (there c f).way.top.under_way);
    lost = λ s b t. s;
  }

  module _ (room : 1 < limit) (stack : Flight) (unbegun : stack.top ≡ idle) (m2 : Memory) (later : ℕ) where
    within_waiting : (c : Node) (f : IsFor (model_of text) n c) → IsWithin (work c f) limit 1
    within_waiting c f = record { limit_is = refl; below_is = refl }

    awaited : (c : Node) (f : IsFor (model_of text) n c) → IsAwaited (model_of text) (work c f) m stack [] i now
    awaited c f = item_awaited text n in_order on_the_way start m limit before now records i rest (there c f).led c f (there c f).way room stack unbegun

    -- it has broken off
    pub broken : (e : EvalRefusal) → ((q : Work) → IsWithin q limit 1 → IsAwaited (model_of text) q m stack [] i now → HasBrokenOff (model_of text) q m2 i later e) → (c : Node) → IsFor (model_of text) n c → HasLostItem (model_of text) n start m2 limit before later c e
    broken e drove c f =
        let b : HasBrokenOff (model_of text) (work c f) m2 i later e = drove (work c f) (within_waiting c f) (awaited c f) in
        record { ticks = b.ticks; counted = b.counted; ended = b.ended; lost = λ s d t. lost_with (b.lost s) d t }

    module _ (given : Given) (drove : (q : Work) → IsWithin q limit 1 → IsAwaited (model_of text) q m stack [] i now → IsGiven (model_of text) q m2 given later × (given.node ≡ i)) where
      gave : (c : Node) (f : IsFor (model_of text) n c) → IsGiven (model_of text) (work c f) m2 given later × (given.node ≡ i)
      gave c f = drove (work c f) (within_waiting c f) (awaited c f)

      -- the memo is right
      pub right_then : IsRightMemo (model_of text) (entries_of m2.held)
      right_then = let g = (gave n (inl refl)).0 in subst (λ (es : List Entry). IsRightMemo (model_of text) es) g.held g.done.under_way.memo

      pub is_item : given.node ≡ i
      is_item = (gave n (inl refl)).1

      -- there is no memory behind it
      pub unmade_then : (c : Node) → IsFor (model_of text) n c → HasLostItem (model_of text) n start m2 limit before later c refusal.NoMemory
      unmade_then c f =
          let g = (gave c f).0 in
          record {
            ticks = g.flight.ticks;
            counted = g.counted;
            ended = subst (λ (es : List Entry). HasEnded (model_of text) (evaluation_of c start limit) es g.flight.ticks (Err refusal.NoMemory)) g.held
                (wanting_memory (model_of text) (evaluation_of c start limit) g.flight.held g.flight.ticks _ g.done.under_way);
            lost = λ s b t. s;
          }

      module _ (first : IsOrdered m) (ordered : IsOrdered m2) (grown : HasGrown m m2) (body : Body) (of : IsHeldAs m2.held given.id.at i) (with : IsHeldWith m2.held given.id.at body)
          (asked records3 : Records) (seen : asked.seen ≡ with_read (read.Node i) records.seen) (asks : asked.asks ≡ with_ask given.id records.asks) (to : Led) (further : LeadsFurther (model_of text) m2.held rest body.reply.namespace asked to records3) where
        led_on : (c : Node) (f : IsFor (model_of text) n c) → IsLedOn (model_of text) m2.held (address_of n) ((there c f).led.stands.walk.events ++ Asked i body.reply ∷ []) to records3
        unfolding goes_on
        led_on c f = further (address_of n) (goes_on (model_of text) m m2 (address_of n) rest i records asked (there c f).led first grown right_then ordered given.id body of with seen asks)

        -- the walk has gone on
        pub walks_on : IsWalking (model_of text) n start m2 limit before later to records3
        walks_on = record {
          item = w.item;
          stands = λ c f. record {
            led = (led_on c f).led;
            way = next_on_way text n in_order on_the_way start m limit before now records i rest (there c f).led c f (there c f).way m2 later given (gave c f).0 is_item ordered grown body of with asked records3 seen asks to (led_on c f);
          };
        }
