-- What comes of an evaluation whose run has ended, or has broken off.
use Rattle.std.proofs.Common.{◌≡◌, ℕ, ◌+◌, ◌-◌, List, [], Result, Ok, Err, refl, sym, subst, arith}
use Rattle.mx_value.specs.declared.value.Value.{Value}
use Rattle.mx_value.specs.declared.node.Node.{Node}
use Rattle.mx_value.specs.declared.refusal.EvalRefusal.{EvalRefusal}
use Rattle.mx_value.specs.declared.refusal.EvalRefusal.TheVariants as refusal
use Rattle.mx_edit.specs.Entry.{Entry}
use Rattle.mx_memo.specs.Memos.{Memory}
use Rattle.mx_model.specs.Records.{ModelRecord}
use Rattle.mx_model.specs.Keys.{key_result}
use Rattle.mx_suspended.specs.Ended.{HasEnded}
use Rattle.mx_suspended.specs.Flights.{Suspended, IsDone}
use Rattle.mx_suspended.proofs.Steps.{answering_value, wanting_memory}
use Rattle.mx_state.specs.Model.{model_of}
use Rattle.mx_state.proofs.Bound.{inputs_end}
use Rattle.mx_memo_laws.specs.Entries.{IsKept, entries_of}
use Rattle.mx_memo_laws.specs.Laws.{HasGrown}
use Rattle.mx_frames.specs.Flights.{IsGiven, HasBrokenOff}
use Rattle.mx_frames.specs.declared.progress.Given.{Given}
use Rattle.mx_machine.specs.Closing.{IsOver}
use Rattle.mx_machine.specs.Settings.{evaluation_of}
use Rattle.mx_machine.proofs.Beginning.{work_of}

module _ (text : ModelRecord) (m : Memory) (n : Node) (kept : IsKept (model_of text) m) (new : Memory) (limit before now : ℕ) (grown : HasGrown m new) where
  pub over_by : (ticks : ℕ) (answer : Result Value EvalRefusal) → before + ticks ≡ now → HasEnded (model_of text) (evaluation_of n m limit) (entries_of new.held) ticks answer → IsOver (model_of text) m new (evaluation_of n m limit) (now - before) answer
  over_by ticks answer counted ended = record {
    kept = kept;
    held = refl;
    grown = grown;
    ended = subst (λ (k : ℕ). HasEnded (model_of text) (evaluation_of n m limit) (entries_of new.held) k answer) (let e : ticks ≡ now - before = omega (arith, counted) in e) ended;
  }

  -- with a refusal
  pub over_broken : (first : Node) (e : EvalRefusal) → HasBrokenOff (model_of text) (work_of n m limit before) new first now e → IsOver (model_of text) m new (evaluation_of n m limit) (now - before) (Err e)
  over_broken first e b = over_by b.ticks (Err e) b.counted b.ended

  -- with the reply, whose value is the answer
  module _ (given : Given) (g : IsGiven (model_of text) (work_of n m limit before) new given now) where
    over_held : (answer : Result Value EvalRefusal) → HasEnded (model_of text) (evaluation_of n m limit) g.flight.held g.flight.ticks answer → IsOver (model_of text) m new (evaluation_of n m limit) (now - before) answer
    over_held answer ended =
        over_by g.flight.ticks answer g.counted
        (subst (λ (held : List Entry). HasEnded (model_of text) (evaluation_of n m limit) held g.flight.ticks answer) g.held ended)

    done_alone : IsDone (model_of text) (evaluation_of n m limit) (record g.flight { waiting = [] }) given.node given.reply
    done_alone = subst (λ (ws : List Suspended). IsDone (model_of text) (evaluation_of n m limit) (record g.flight { waiting = ws }) given.node given.reply) g.waiting g.done

    pub over_given : (v : Value) → v ≡ given.reply.value → IsOver (model_of text) m new (evaluation_of n m limit) (now - before) (Ok v)
    over_given v e =
        subst (λ (x : Value). IsOver (model_of text) m new (evaluation_of n m limit) (now - before) (Ok x)) (sym e)
        (over_held (Ok given.reply.value)
        (record {
          memo = g.done.under_way.memo;
          more = g.done.under_way.more;
          grown = g.done.under_way.grown;
          right = answering_value (model_of text) (evaluation_of n m limit) g.flight given.node given.reply (inputs_end (key_result text)) done_alone;
        }))

    -- there was no memory for its value
    pub over_lost : IsOver (model_of text) m new (evaluation_of n m limit) (now - before) (Err refusal.NoMemory)
    over_lost = over_held (Err refusal.NoMemory) (wanting_memory (model_of text) (evaluation_of n m limit) g.flight.held g.flight.ticks _ g.done.under_way)
