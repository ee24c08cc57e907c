-- How a run goes on past what is known, and what is recorded of it then.
use Rattle.std.proofs.Common.{◌≡◌, None, List, [], ◌∷◌, ◌++◌, map, inl, inr, refl, sym, ◌∙◌, ap, subst}
use Rattle.std.proofs.lemmas.List.{append-nil, append_assoc}
use Rattle.mx_graph.specs.declared.ids.NodeId.{NodeId}
use Rattle.mx_value.specs.declared.node.Node.{Node}
use Rattle.mx_edit.specs.Entry.{Entry}
use Rattle.mx_edit.specs.declared.key.Key.{Key}
use Rattle.mx_edit.specs.declared.key.Key.TheVariants.{Input}
use Rattle.mx_edit.specs.declared.reply.Reply.{Reply}
use Rattle.mx_vertices.specs.Reading.{id_at}
use Rattle.mx_memo.specs.Memos.{Memory}
use Rattle.mx_runs.specs.Runs.{Model, Run, Asks}
use Rattle.mx_suspended.specs.Recorded.{Recorded, Adds, GoesPast, Stays, PastLook, PastTest, PastNote, PastHeld, PastInput}
use Rattle.mx_suspended.proofs.Standing.{past_then}
use Rattle.mx_code_law.specs.States.{State}
use Rattle.mx_stack.specs.Flight.{Flight}
use Rattle.mx_node_runs.specs.declared.halt.Waiting.{Waiting}
use Rattle.mx_node_runs.specs.declared.halt.Halt.TheVariants as halt
use Rattle.mx_node_runs.specs.Halts.{HaltsAs, HaltsAt, Resumes}
use Rattle.mx_memo_laws.specs.Entries.{entries_of, nodes_under, own_keys}
use Rattle.mx_binding.specs.declared.records.Records.{Records}
use Rattle.mx_binding.specs.Records.{recorded_in, HasOwnKey}
use Rattle.mx_frames.specs.declared.current.Current.{Current}
use Rattle.mx_frames.specs.declared.current.Running.{Running}
use Rattle.mx_frames.specs.declared.passing.Asked.{Asked}
use Rattle.mx_frames.specs.declared.passing.Passed.{Passed}
use Rattle.mx_frames.specs.declared.passing.Passed.TheVariants as passed
use Rattle.mx_frames.specs.declared.passing.Paused.{Paused}
use Rattle.mx_frames.specs.declared.passing.Paused.TheVariants as paused
use Rattle.mx_frames.specs.declared.passing.Stretch.{Stretch}
use Rattle.mx_frames.specs.Asking.{IsAnswered}
use Rattle.mx_frames.specs.Passing.{Pauses, HaltsPast, PassesTo, IsPausedAt, Stands}

-- ---- what is recorded grows

-- more keys are recorded behind those that were
pub record Grows (so_far last : Recorded) : Type 0 where
  pub more : List Key
  pub is : last.keys ≡ so_far.keys ++ more

grows_on : (olds keys : List Key) (k : Key) (so_far last : Recorded) → so_far.keys ≡ olds → Adds olds k keys → (more : List Key) → last.keys ≡ keys ++ more → Grows so_far last
grows_on olds keys k so_far last e a more i = elim a [
  | inl p ↦ record { more = more; is = i ∙ ap (λ (ks : List Key). ks ++ more) (p.1 ∙ sym e) }
  | inr p ↦ record { more = k ∷ more; is = i ∙ ap (λ (ks : List Key). ks ++ more) p.1 ∙ append_assoc olds (k ∷ []) more ∙ ap (λ (ks : List Key). ks ++ k ∷ more) (sym e) }
]

pub grows : (model : Model) (held : List Entry) (run rest : Run) (so_far last : Recorded) → GoesPast model held run so_far rest last → Grows so_far last
grows model held run rest so_far last (Stays at olds) = record { more = []; is = sym (append-nil olds.keys) }
grows model held run rest so_far last (PastLook key go to olds news keys a more) =
    let g = grows model held (go (model.look key)) to (record olds { keys = keys }) news more in
    grows_on olds.keys keys key olds news refl a g.more g.is
grows model held run rest so_far last (PastTest key go to olds news more) = grows model held (go (model.look key)) to olds news more
grows model held run rest so_far last (PastNote noted next to olds news reads a more) =
    let g = grows model held next to (record olds { reads = reads }) news more in record { more = g.more; is = g.is }
grows model held run rest so_far last (PastHeld e go to olds news asks reads h a b more) =
    let g = grows model held (go e.reply) to (record olds { asks = asks; reads = reads }) news more in record { more = g.more; is = g.is }
grows model held run rest so_far last (PastInput m value go to olds news keys reads i look a b more) =
    let g = grows model held (go (record { value = value; namespace = None })) to (record olds { keys = keys; reads = reads }) news more in
    grows_on olds.keys keys (Input m) olds news refl a g.more g.is

-- the first key is the first of those that are recorded then
pub own_stays : (n : Node) (so_far last : Recorded) → Grows so_far last → HasOwnKey n so_far.keys → HasOwnKey n last.keys
own_stays n so_far last g own = record {
  more = own.more ++ g.more;
  is = g.is ∙ ap (λ (ks : List Key). ks ++ g.more) own.is ∙ append_assoc (own_keys n) own.more g.more;
}

-- ---- past one node

module _ (model : Model) (m : Memory) (run : Run) (olds : Records) where
  -- where a run halts at its end, or at a node that is not known, it pauses
  pub stays_paused : (at : Stretch) (s : State) → at.current.records ≡ olds → IsPausedAt model m at.current.node run at.paused s → Pauses model m run olds at s
  stays_paused at s e p = record {
    rest = run;
    past = subst (λ (r : Records). GoesPast model (entries_of m.held) run (recorded_in m.held olds) run (recorded_in m.held r)) (sym e) (Stays run (recorded_in m.held olds));
    pauses = p;
  }

  pub asks_paused : (n : Node) (asked : Asked) (at : Stretch) (s : State) → HaltsAs n run (halt.Asks asked.node asked.waiting) s → Stands model m asked.node asked.is_begun → at.current.node ≡ n → at.paused ≡ paused.Asks asked → at.current.records ≡ olds → Pauses model m run olds at s
  asks_paused n asked at s h stands i e f =
      stays_paused at s f
      (subst (λ (x : Node). IsPausedAt model m x run at.paused s) (sym i)
      (subst (λ (x : Paused). IsPausedAt model m n run x s) (sym e) (h.0, h.1, h.2, stands)))

  -- a run whose ask is answered goes on with the reply to where it halts
  pub answered_on : (n to : Node) (w : Waiting) (r : Reply) (mid : Records) (at : Running) (s after : State) → HaltsAs n run (halt.Asks to w) s → IsAnswered model m to r olds mid
      → ((go : Reply → Run) → Resumes n w s go → HaltsAt model n (go r) mid.seen at.current.records.seen at.halt after)
      → at.current.records.asks ≡ mid.asks → at.current.node ≡ n → HaltsPast model m run olds at after
  answered_on n to w r mid at s after h answered on e i =
      let go : Reply → Run = h.0 in
      let b : HaltsAt model n (go r) mid.seen at.current.records.seen at.halt after = on go h.2 in
      let held : List Entry = entries_of m.held in
      let news : List NodeId → Recorded = λ ids. record { keys = at.current.records.seen.keys; asks = nodes_under m.held (map id_at ids); reads = at.current.records.seen.reads } in
      let second : GoesPast model held (go r) (recorded_in m.held mid) b.rest (news at.current.records.asks) =
      subst (λ (ids : List NodeId). GoesPast model held (go r) (recorded_in m.held mid) b.rest (news ids)) (sym e) (b.past held (nodes_under m.held (map id_at mid.asks))) in
      record {
        rest = b.rest;
        past = subst (λ (x : Run). GoesPast model held x (recorded_in m.held olds) b.rest (recorded_in m.held at.current.records)) (sym h.1)
            (past_then model held (Asks to go) (go r) b.rest (recorded_in m.held olds) (recorded_in m.held mid) (recorded_in m.held at.current.records) (answered go) second);
        halts = subst (λ (x : Node). HaltsAs x b.rest at.halt after) (sym i) b.halts;
      }

  -- a run that halted goes on
  pub passes_on : (at : Running) (current : Current) (s after : State) (to : Passed) → HaltsPast model m run olds at s
      → ((rest : Run) → HaltsAs at.current.node rest at.halt s → PassesTo model m rest at.current.records current to after) → PassesTo model m run olds current to after
  passes_on at current s after (passed.Halts halt) h on =
      let t = on h.rest h.halts in
      record {
        rest = t.rest;
        past = past_then model (entries_of m.held) run h.rest t.rest (recorded_in m.held olds) (recorded_in m.held at.current.records) (recorded_in m.held current.records) h.past t.past;
        halts = t.halts;
      }
  passes_on at current s after (passed.Pauses p) h on =
      let t = on h.rest h.halts in
      record {
        rest = t.rest;
        past = past_then model (entries_of m.held) run h.rest t.rest (recorded_in m.held olds) (recorded_in m.held at.current.records) (recorded_in m.held current.records) h.past t.past;
        pauses = t.pauses;
      }

  -- and what belongs to the runs below is kept
  pub then_passes : (at : Running) (current : Current) (before after : Flight) (first : List State) (to : Passed) → HaltsPast model m run olds at before.top × (before.below ≡ first)
      → ((rest : Run) → HaltsAs at.current.node rest at.halt before.top → PassesTo model m rest at.current.records current to after.top × (after.below ≡ before.below))
      → PassesTo model m run olds current to after.top × (after.below ≡ first)
  then_passes at current before after first to h on = (passes_on at current before.top after.top to h.0 (λ rest g. (on rest g).0), (on h.0.rest h.0.halts).1 ∙ h.1)

  -- the first key stays where it pauses
  pub own_paused : (n : Node) (at : Stretch) (s : State) → Pauses model m run olds at s → at.current.node ≡ n → HasOwnKey n olds.seen.keys → HasOwnKey at.current.node at.current.records.seen.keys
  own_paused n at s p e own =
      subst (λ (x : Node). HasOwnKey x at.current.records.seen.keys) (sym e)
      (own_stays n (recorded_in m.held olds) (recorded_in m.held at.current.records) (grows model (entries_of m.held) run p.rest (recorded_in m.held olds) (recorded_in m.held at.current.records) p.past) own)
