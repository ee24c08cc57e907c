-- The run of a node that is asked from outside: how it begins.
use Rattle.std.proofs.Common.{◌≡◌, ◌∙◌, ℕ, ◌+◌, ◌-◌, ◌<◌, List, [], Result, Ok, Err, inl, inr, refl, sym, subst, arith}
use Rattle.std.proofs.lemmas.Bool.{false≢true}
use Rattle.mx_value.specs.declared.value.Value.{Value}
use Rattle.mx_value.specs.declared.node.Node.{Node}
use Rattle.mx_value.specs.declared.refusal.EvalRefusal.{EvalRefusal}
use Rattle.mx_value.specs.declared.refusal.EvalRefusal.TheVariants as refusal
use Rattle.mx_edit.specs.Entry.{Entry}
use Rattle.mx_memo.specs.Memos.{Memory}
use Rattle.mx_model.specs.Records.{ModelRecord}
use Rattle.mx_model.specs.Keys.{key_result}
use Rattle.mx_answers.specs.Held.{nodes_of, IsKnown}
use Rattle.mx_suspended.specs.Ended.{HasEnded}
use Rattle.mx_suspended.specs.Flights.{Suspended, IsDone}
use Rattle.mx_suspended.specs.Laws.{at_start}
use Rattle.mx_suspended.proofs.Steps.{starting, answering_value, wanting_memory}
use Rattle.mx_state.specs.Model.{model_of}
use Rattle.mx_state.proofs.Bound.{inputs_end}
use Rattle.mx_suspended.specs.ItemsFirst.{ItemsFirst}
use Rattle.mx_stack.specs.Flight.{Flight, idle}
use Rattle.mx_memo_laws.specs.Entries.{IsKept, entries_of}
use Rattle.mx_memo_laws.specs.Laws.{HasGrown}
use Rattle.mx_memo_laws.proofs.Nodes.{new_is_not_entered}
use Rattle.mx_frames.specs.Known.{IsUnknown}
use Rattle.mx_frames.specs.Flights.{AsksInOrder, Drove, HasBrokenOff, IsAwaited, IsGiven, IsWithin, Work}
use Rattle.mx_frames.specs.declared.runs.Frame.{Frame}
use Rattle.mx_frames.specs.declared.progress.Given.{Given}
use Rattle.mx_machine.specs.Closing.{IsOver}
use Rattle.mx_machine.specs.Settings.{IsAlone, evaluation_of}
use Rattle.mx_machine.proofs.InOrder.{asks_in_order}

-- nothing waits, and so many runs had begun
abbrev pub work_of : Node → Memory → ℕ → ℕ → Work
work_of n m limit before = record { ev = evaluation_of n m limit; bottom = []; before = before }

module _ (text : ModelRecord) (m : Memory) (n : Node) (kept : IsKept (model_of text) m) (unknown : IsUnknown (model_of text) m n) where
  none_known : IsKnown (model_of text) (nodes_of (entries_of m.held)) n → ⊥
  none_known k = elim k [ inl h ↦ (new_is_not_entered m.held n).0 unknown.new h | inr e ↦ false≢true (sym unknown.own ∙ e) ]

  awaited_first : (limit before : ℕ) (stack : Flight) (frames : List Frame) → stack.top ≡ idle → 0 < limit → frames ≡ [] → IsAwaited (model_of text) (work_of n m limit before) m stack frames n before
  awaited_first limit before stack frames none room e =
      subst (λ (ws : List Frame). IsAwaited (model_of text) (work_of n m limit before) m stack ws n before) (sym e)
      (record {
        flight = at_start (evaluation_of n m limit);
        aloft = record { held = refl; counted = omega arith; stand = refl };
        idle = none;
        way = λ f h. absurd h;
        awaits = starting (model_of text) (evaluation_of n m limit) kept.memo none_known;
        apart = λ h. h;
        room = room;
      })

  -- what `drive` ensures of each work, of this one
  pub drove_alone : (limit below before : ℕ) (stack : Flight) (frames : List Frame) (new : Memory) (first : Node) (now : ℕ) (result : Result Given EvalRefusal)
      → ItemsFirst → IsAlone limit below → stack.top ≡ idle → frames ≡ []
      → ((q : Work) → AsksInOrder (model_of text) → IsWithin q limit below → IsAwaited (model_of text) q m stack frames n before → Drove (model_of text) q new first now result)
      → Drove (model_of text) (work_of n m limit before) new first now result
  drove_alone limit below before stack frames new first now result items_first alone unbegun none drove =
      drove (work_of n m limit before) (asks_in_order items_first text) (record { limit_is = refl; below_is = sym alone.alone })
      (awaited_first limit before stack frames unbegun alone.room none)
