-- What each step does to an evaluation in flight.
use Rattle.std.proofs.Common.{◌≡◌, true, false, suc, ◌+◌, ◌≤◌, ◌<◌, List, [], ◌∷◌, ◌++◌, length, ◌⊎◌, inl, inr, refl, sym, ◌∙◌, ap, subst, arith, length-append, None, take, if◌then◌else◌}
use Rattle.std.proofs.lemmas.List.{append-nil, append_assoc, length-map, take_at}
use Rattle.mx_value.specs.declared.node.Node.{Node}
use Rattle.mx_edit.specs.Entry.{Entry}
use Rattle.mx_edit.specs.declared.reply.Reply.{Reply}
use Rattle.mx_runs.specs.Lists.{Has}
use Rattle.mx_runs.specs.Runs.{Model, Outcome, Ends, Gives, Faults, NoSuch, WrongCount}
use Rattle.mx_runs.specs.Inputs.{is_input, InputsEnd}
use Rattle.mx_runs.specs.Meaning.{Means}
use Rattle.mx_runs.specs.Chains.{asks_of, DoesAsk, Reaches, Itself, HasValue}
use Rattle.mx_runs.proofs.Lists.{onto, onto_is, has_right, has_left}
use Rattle.mx_runs.proofs.Runs.{asked_by_end}
use Rattle.mx_runs.proofs.Meanings.{IsFailure, failure_reached, failure_no_value, finished}
use Rattle.mx_runs.proofs.Inputs.{input_reaches}
use Rattle.mx_answers.specs.Held.{most_held, nodes_of, Counts, IsKnown, IsRight}
use Rattle.mx_answers.specs.Records.{IsRecordOf, IsRightMemo}
use Rattle.mx_answers.specs.Answers.{Answer, Evaluation, IsShallow, IsCounted, PastMost, Completes}
use Rattle.mx_answers.proofs.Held.{nodes_grow, nodes_added, nodes_cases, input_or_not, held_reach, named}
use Rattle.mx_answers.proofs.Sifting.{holding, rolling_back}
use Rattle.mx_suspended.specs.Recorded.{Recorded, as_entry}
use Rattle.mx_suspended.specs.Ended.{keeps, IsClosed}
use Rattle.mx_suspended.specs.Flights.{Suspended, InFlight, nodes_waiting, IsTop, IsDone}
use Rattle.mx_suspended.specs.Laws.{AnsweringHeld, AnsweringInput, Starting, Beginning, Passing, PassingOn, Asking, Giving, HandingDown, AnsweringValue, AnsweringFault, AnsweringNoSuch, AnsweringWrongCount, AnsweringRing, AnsweringTooDeep, AnsweringFull, StayingWithin, WantingMemory, Closing}
use Rattle.mx_suspended.proofs.Growing.{asked_recorded, reached_on}
use Rattle.mx_suspended.proofs.Standing.{stands_first, stands_past, past_then, stands_given, stands_shallow_end, shallow_more, put_in}
use Rattle.mx_suspended.proofs.Waiting.{handed_down, asked_reaches, waits_closed, held_counts}
use Rattle.mx_suspended.proofs.Deep.{deep, ring, on_ring, asked_nothing}
use Rattle.mx_suspended.proofs.Ends.{completes, known_completes, none_lost, stopped}

pub answering_held : AnsweringHeld
answering_held model ev e ends memo h i =
    let has : Has (nodes_of ev.held) ev.node = subst (λ x. Has (nodes_of ev.held) x) i (named ev.held e h) in
    let means : Means model ev.node (Gives e.reply) = subst (λ x. Means model x (Gives e.reply)) i (memo.right.means e h) in
    let whole : (x : Node) → Reaches model ev.node x → Counts model x → Has (nodes_of ev.held) x = λ x r c.
    elim (held_reach model ev.held ends memo.right ev.node x has r) [ inl k ↦ k | inr k ↦ absurd (let j = sym k ∙ c.own in cc) ] in
    (record { reply = e.reply; means = means; value = refl }, known_completes model ev ends memo.right (record { reply = e.reply; means = means }) (inl has) whole)

pub answering_input : AnsweringInput
answering_input model ev value ends memo i look =
    let r : Reply = record { value = value; namespace = None } in
    let means : Means model ev.node (Gives r) = put_in model ev.node value ends i look in
    let whole : (x : Node) → Reaches model ev.node x → Counts model x → Has (nodes_of ev.held) x = λ x q c.
    let j = sym (subst (λ y. is_input model y ≡ true) (input_reaches model ev.node ends i x q) i) ∙ c.own in absurd (cc) in
    (record { reply = r; means = means; value = refl }, known_completes model ev ends memo.right (record { reply = r; means = means }) (inr i) whole)

pub starting : Starting
starting model ev memo new = record {
  under_way = record { memo = memo; more = []; grown = append-nil ev.held; counted = omega arith };
  waits = (refl, refl);
  apart = record { distinct = tt; unknown = λ x h. absurd h; within = omega arith };
  unknown = new;
}

pub beginning : Beginning
beginning model ev flight m a new room =
    let fs : List Suspended = flight.waiting in
    let i : length (nodes_waiting fs) ≡ length fs = length-map fs (λ (f : Suspended). f.node) in
    let j : flight.ticks + length ev.held ≡ length flight.held + length fs = a.under_way.counted in
    record {
      under_way = record { memo = a.under_way.memo; more = a.under_way.more; grown = a.under_way.grown; counted = omega arith };
      since = nodes_of flight.held;
      waits = a.waits;
      stands = stands_first model ev.limit (suc (length fs)) (nodes_of flight.held) m;
      apart = record {
        distinct = (new, a.apart.distinct);
        unknown = λ x q k. elim q [ inl e ↦ a.unknown (subst (λ y. IsKnown model (nodes_of flight.held) y) (sym e) k) | inr r ↦ a.apart.unknown x r k ];
        within = omega arith;
      };
    }

pub passing : Passing
passing model ev flight n run rest so_far last ends g t = record {
  under_way = t.under_way;
  since = t.since;
  waits = t.waits;
  stands = stands_past model flight.held ends t.under_way.memo.right ev.limit (suc (length flight.waiting)) t.since n run rest so_far last g t.stands;
  apart = t.apart;
}

pub passing_on : PassingOn
passing_on = past_then

pub asking : Asking
asking model ev flight n m so_far go t new = record {
  under_way = t.under_way;
  waits = (t.since, t.stands, t.waits);
  apart = t.apart;
  unknown = new;
}

-- the run on top gave a reply
module _ (model : Model) (ev : Evaluation) (flight : InFlight) (n : Node) (so_far : Recorded) (reply : Reply) (t : IsTop model ev flight n so_far (Ends (Gives reply))) where
  top_means : Means model n (Gives reply)
  top_means = finished model n t.stands.comes.events (Gives reply) tt t.stands.comes.leads

  top_own : is_input model n ≡ false
  top_own = elim (input_or_not model n) [ inl i ↦ absurd (t.apart.unknown n (inl refl) (inr i)) | inr i ↦ i ]

  top_record : IsRecordOf model (as_entry n reply so_far)
  top_record = record { events = t.stands.comes.events; leads = t.stands.comes.leads; keys = t.stands.comes.keys; asks = t.stands.comes.asks; reads = t.stands.comes.reads }

  abbrev after : List Entry
  after = flight.held ++ as_entry n reply so_far ∷ []

  top_memo : length flight.held < most_held → IsRightMemo model after
  top_memo room = holding model flight.held (as_entry n reply so_far) t.under_way.memo top_record (λ h. t.apart.unknown n (inl refl) (inl h)) top_own t.stands.kept room

  after_cases : (x : Node) → Has (nodes_of after) x → Has (nodes_of flight.held) x ⊎ (n ≡ x)
  after_cases x h = elim (nodes_cases flight.held (as_entry n reply so_far ∷ []) after x refl h) [ inl a ↦ inl a | inr b ↦ elim b [ inl i ↦ inr i | inr z ↦ absurd z ] ]

  top_done : length flight.held < most_held → IsDone model ev (record flight { held = after }) n reply
  top_done room =
      let fs : List Suspended = flight.waiting in
      let c : flight.ticks + length ev.held ≡ length flight.held + suc (length fs) = t.under_way.counted in
      let i : length (nodes_waiting fs) ≡ length fs = length-map fs (λ (f : Suspended). f.node) in
      let w : suc (length (nodes_waiting fs)) ≤ ev.limit = t.apart.within in
      record {
        under_way = record {
          memo = top_memo room;
          more = t.under_way.more ++ as_entry n reply so_far ∷ [];
          grown = sym (append_assoc ev.held t.under_way.more (as_entry n reply so_far ∷ [])) ∙ ap (λ es. es ++ as_entry n reply so_far ∷ []) t.under_way.grown;
          counted = omega (arith, length-append flight.held (as_entry n reply so_far ∷ []), c);
        };
        since = t.since;
        waits = t.waits;
        means = top_means;
        still = λ x h. nodes_grow flight.held (as_entry n reply so_far ∷ []) after x refl (t.stands.still x h);
        newly = λ x h. elim (after_cases x h) [
          | inl a ↦ elim (t.stands.newly x a) [ inl b ↦ inl b | inr b ↦ inr (reached_on model n so_far (Ends (Gives reply)) t.stands.comes x b) ]
          | inr e ↦ inr (subst (λ y. Reaches model n y) e Itself)
        ];
        kept = nodes_added flight.held (as_entry n reply so_far ∷ []) after n refl (inl refl);
        shallow = stands_shallow_end model ev.limit (suc (length fs)) t.since (nodes_of flight.held) n so_far (Gives reply) t.stands (omega arith);
        apart = record {
          distinct = t.apart.distinct.1;
          unknown = λ x h k. elim k [
            | inl a ↦ elim (after_cases x a) [
              | inl b ↦ t.apart.unknown x (inr h) (inl b)
              | inr e ↦ t.apart.distinct.0 (subst (λ y. Has (nodes_waiting fs) y) (sym e) h)
            ]
            | inr a ↦ t.apart.unknown x (inr h) (inr a)
          ];
          within = omega arith;
        };
      }

  top_past : most_held ≤ length flight.held → PastMost model ev.held ev.node most_held
  top_past full = record {
    nodes = n ∷ nodes_of flight.held;
    distinct = ((λ h. t.apart.unknown n (inl refl) (inl h)), t.under_way.memo.right.once);
    many =
        let i : length (nodes_of flight.held) ≡ length flight.held = length-map flight.held (λ (e : Entry). e.node) in
        let j : length flight.held ≤ most_held = t.under_way.memo.right.room in
        ap suc (let k : length (nodes_of flight.held) ≡ most_held = omega arith in k);
    each = λ x h. elim h [
      | inl e ↦ subst (λ y. IsCounted model ev.held ev.node y) e (inr (asked_reaches model ev flight.waiting n t.since t.waits, record { value = record { reply = reply; means = top_means }; own = top_own }))
      | inr h2 ↦ held_counts model ev flight.waiting n t.since flight.held t.waits t.under_way.memo.right (λ y q. elim (t.stands.newly y q) [ inl b ↦ inl b | inr b ↦ inr (reached_on model n so_far (Ends (Gives reply)) t.stands.comes y b) ]) x h2
    ];
  }

pub giving : Giving
giving model ev flight n so_far reply t room = top_done model ev flight n so_far reply t room

pub answering_full : AnsweringFull
answering_full model ev flight n so_far reply ticks t full = (top_past model ev flight n so_far reply t full, refl)

pub handing_down : HandingDown
handing_down model ev flight f below n reply asks reads d a b = record {
  under_way = d.under_way;
  since = d.waits.0;
  waits = d.waits.2;
  stands = stands_given model ev.limit (suc (length below)) d.waits.0 d.since f.node n f.go f.so_far d.waits.1 reply (nodes_of flight.held) asks reads a b (d.under_way.memo.right.own n d.kept) d.still d.newly d.kept d.means d.shallow;
  apart = d.apart;
}

pub answering_value : AnsweringValue
answering_value model ev flight n reply ends d =
    let held : List Entry = flight.held in
    let right : IsRight model held = d.under_way.memo.right in
    let means : Means model ev.node (Gives reply) = subst (λ x. Means model x (Gives reply)) d.waits.0 d.means in
    let whole : (x : Node) → Reaches model n x → Counts model x → Has (nodes_of held) x = λ x r c.
    elim (held_reach model held ends right n x d.kept r) [ inl k ↦ k | inr k ↦ absurd (let j = sym k ∙ c.own in cc) ] in (
      record { reply = reply; means = means; value = refl },
      completes model ev held d.under_way.more flight.ticks 0 right d.under_way.grown
          (subst (λ x. IsShallow model ev.limit 1 (nodes_of ev.held) x) d.waits.0 (subst (λ ns. IsShallow model ev.limit 1 ns n) d.waits.1 d.shallow))
          (held_counts model ev [] n d.since held d.waits right d.newly)
          (subst (λ y. (x : Node) → Reaches model y x → Counts model x → Has (nodes_of held) x) d.waits.0 whole)
          (none_lost model ev.node (record { reply = reply; means = means }))
          d.under_way.counted,
    )

-- the run on top ended with no value
module _ (model : Model) (ev : Evaluation) (flight : InFlight) (n : Node) (so_far : Recorded) (o : Outcome) (ends : InputsEnd model) (fail : IsFailure o) (t : IsTop model ev flight n so_far (Ends o)) where
  fail_means : Means model n o
  fail_means = finished model n t.stands.comes.events o (failure_reached o fail) t.stands.comes.leads

  failed_means : Means model ev.node o
  failed_means = handed_down model ev flight.waiting n t.since o fail t.waits fail_means

  -- what it asked is known
  fail_asked : (z : Node) → DoesAsk model n z → IsKnown model (nodes_of flight.held) z ⊎ Has (n ∷ nodes_waiting flight.waiting) z
  fail_asked z a =
      let h : Has (asks_of t.stands.comes.events) z = asked_by_end model (model.body n) z a.go o a.events t.stands.comes.events a.leads t.stands.comes.leads in
      elim (input_or_not model z) [
        | inl i ↦ inl (inr i)
        | inr i ↦ inl (inl (t.stands.kept z (asked_recorded model n so_far (Ends o) t.stands.comes z i h)))
      ]

  failed_completes : Completes model ev flight.held flight.ticks
  failed_completes =
      let fs : List Suspended = flight.waiting in
      let i : length (nodes_waiting fs) ≡ length fs = length-map fs (λ (f : Suspended). f.node) in
      let c : flight.ticks + length ev.held ≡ length flight.held + suc (length fs) = t.under_way.counted in
      let w : suc (length (nodes_waiting fs)) ≤ ev.limit = t.apart.within in
      let newly : (x : Node) → Has (nodes_of flight.held) x → Has t.since x ⊎ Reaches model n x = λ x h.
      elim (t.stands.newly x h) [ inl b ↦ inl b | inr b ↦ inr (reached_on model n so_far (Ends o) t.stands.comes x b) ] in
      stopped model ev ends fs n t.since flight.held t.under_way.more t.waits t.under_way.memo.right t.under_way.grown t.stands.still newly
      (failure_no_value model n o fail fail_means) fail_asked (n ∷ nodes_waiting fs) t.apart.distinct (λ x h. h) (λ x h. h) flight.ticks (omega arith) (omega arith)
      (shallow_more model ev.limit (suc (length fs)) t.since (nodes_waiting fs) n
      (stands_shallow_end model ev.limit (suc (length fs)) t.since (nodes_of flight.held) n so_far o t.stands (omega arith)))

pub answering_fault : AnsweringFault
answering_fault model ev flight n m so_far kind line ends t = (failed_means model ev flight n so_far (Faults kind m line) ends tt t, failed_completes model ev flight n so_far (Faults kind m line) ends tt t)

pub answering_no_such : AnsweringNoSuch
answering_no_such model ev flight n so_far ticks ends t = (failed_means model ev flight n so_far NoSuch ends tt t, record { room = (failed_completes model ev flight n so_far NoSuch ends tt t).room; same = refl })

pub answering_wrong_count : AnsweringWrongCount
answering_wrong_count model ev flight n so_far ticks ends t = (failed_means model ev flight n so_far WrongCount ends tt t, record { room = (failed_completes model ev flight n so_far WrongCount ends tt t).room; same = refl })

onto_cases : (xs rest : List Node) (x : Node) → Has (onto xs rest) x → Has xs x ⊎ Has rest x
onto_cases [] rest x h = inr h
onto_cases (y ∷ xs) rest x h =
    elim (onto_cases xs (y ∷ rest) x h) [ inl a ↦ inl (inr a) | inr b ↦ elim b [ inl e ↦ inl (inl e) | inr c ↦ inr c ] ]

pub answering_ring : AnsweringRing
answering_ring model ev flight m lead rest ends a e =
    let fs : List Suspended = flight.waiting in
    let ns : List Node = nodes_waiting fs in
    let held : List Node = nodes_of flight.held in
    let i : onto ns [] ≡ lead ++ m ∷ rest = onto_is ns [] ∙ append-nil _ ∙ e in
    let h : Has ns m = elim (onto_cases ns [] m (subst (λ zs. Has zs m) (sym i) (has_right lead (m ∷ rest) m (inl refl)))) [ inl j ↦ j | inr j ↦ absurd j ] in
    let none : HasValue model m → ⊥ = λ v. on_ring model ev fs m held a.waits h m (inl refl) (Gives v.reply) v.means in
    let own : (z : Node) → DoesAsk model m z → IsKnown model held z ⊎ Has (m ∷ ns) z = λ z b. waits_closed model ev fs m held held a.waits none (λ x q. q) m z h b in
    let l : length ns ≡ length fs = length-map fs (λ (f : Suspended). f.node) in
    let w : length ns ≤ ev.limit = a.apart.within in
    let c : flight.ticks + length ev.held ≡ length flight.held + length fs = a.under_way.counted in (
      ring model ev fs m held a.waits h a.apart.distinct lead rest i,
      asked_nothing model ev fs m held a.waits h,
      stopped model ev ends fs m held flight.held a.under_way.more a.waits a.under_way.memo.right a.under_way.grown (λ x q. q) (λ x q. inl q) none own
          ns a.apart.distinct (λ x q. elim q [ inl j ↦ subst (λ y. Has ns y) j h | inr j ↦ j ]) (λ x q. inr q) flight.ticks (omega arith) (omega arith)
          (λ rest2 d u. absurd (u m (inl refl) (inl (has_left ns held m h)))),
    )

pub answering_too_deep : AnsweringTooDeep
answering_too_deep model ev flight m ticks ends a new full =
    (deep model ev flight.held ends a.under_way.memo.right flight.waiting m a.waits a.apart a.unknown new full, refl)

pub staying_within : StayingWithin
staying_within model ev flight n so_far run t =
    let i : length (nodes_waiting flight.waiting) ≡ length flight.waiting = length-map flight.waiting (λ (f : Suspended). f.node) in
    let w : suc (length (nodes_waiting flight.waiting)) ≤ ev.limit = t.apart.within in
    omega arith

-- what was held at the start, of what is held now
cut_off : (start more held : List Entry) → start ++ more ≡ held → take (length start) held ≡ start
cut_off start more held e = subst (λ es. take (length start) es ≡ start) e (take_at start more (length start) refl)

pub wanting_memory : WantingMemory
wanting_memory model ev held ticks flying u = record { memo = u.memo; more = u.more; grown = u.grown; right = refl }

pub closing : Closing
closing model ev held ticks answer h =
    let at : take (length ev.held) held ≡ ev.held = cut_off ev.held h.more held h.grown in
    let first : IsRightMemo model (take (length ev.held) held) = subst (λ es. IsRightMemo model es) (sym at) (rolling_back model ev.held h.more (subst (λ es. IsRightMemo model es) (sym h.grown) h.memo)) in
    elim (keeps answer) as (λ b. Answer model ev answer (if b then held else ev.held) ticks → IsClosed model ev answer (if b then held else take (length ev.held) held) ticks) [
      | true ↦ λ r. record { right = r; memo = h.memo }
      | false ↦ λ r. record { right = subst (λ es. Answer model ev answer es ticks) (sym at) r; memo = first }
    ] h.right
