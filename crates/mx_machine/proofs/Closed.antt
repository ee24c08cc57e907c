-- What an evaluation leaves that is closed.
use Rattle.std.proofs.Common.{◌≡◌, ◌∙◌, ℕ, ◌<◌, ◌≤◌, true, false, List, [], Result, sym, subst, arith}
use Rattle.std.specs.Prelude.{Bool, if◌then◌else◌}
use Rattle.mx_value.specs.declared.value.Value.{Value}
use Rattle.mx_value.specs.declared.refusal.EvalRefusal.{EvalRefusal}
use Rattle.mx_edit.specs.Entry.{Entry}
use Rattle.mx_vertices.specs.Kept.{Kept, IsTouched, Sifts}
use Rattle.mx_memo.specs.Memos.{Memory}
use Rattle.mx_runs.specs.Runs.{Model}
use Rattle.mx_answers.specs.Answers.{Evaluation, Answer}
use Rattle.mx_answers.specs.Records.{IsRightMemo}
use Rattle.mx_suspended.specs.Ended.{keeps}
use Rattle.mx_memo_laws.specs.Entries.{IsOrdered, entries_of}
use Rattle.mx_memo_laws.specs.Laws.{HasGrown}
use Rattle.mx_memo_laws.proofs.Evaluations.{roll_back_keeps}
use Rattle.mx_memo_laws.proofs.Nodes.{order_is_of_held}
use Rattle.mx_machine.specs.Closing.{HasClosed, IsOver}

-- an evaluation whose runs in flight were ended
module _ (model : Model) (start old mid : Memory) (ev : Evaluation) (ticks : ℕ) (answer : Result Value EvalRefusal)
    (over : IsOver model start old ev ticks answer) (ordered : IsOrdered old)
    (same : mid.held ≡ old.held) (last : mid.last ≡ old.last) (idle : mid.begun ≡ []) where
  still_ordered : IsOrdered mid
  still_ordered = order_is_of_held old mid ordered same (omega (arith, last))

  right_by : (b : Bool) → keeps answer ≡ b → Answer model ev answer (if b then entries_of old.held else ev.held) ticks
  right_by b e = subst (λ (c : Bool). Answer model ev answer (if c then entries_of old.held else ev.held) ticks) e over.ended.right

  -- what was computed stays held
  pub closed_with_all : keeps answer ≡ true → HasClosed model ev mid ticks answer
  closed_with_all e = record {
    right = subst (λ (held : List Kept). Answer model ev answer (entries_of held) ticks) (sym same) (right_by true e);
    kept = record {
      memo = subst (λ (held : List Kept). IsRightMemo model (entries_of held)) (sym same) over.ended.memo;
      ordered = still_ordered;
      idle = idle;
    };
  }

  still_grown : HasGrown start mid
  still_grown = record {
    more = over.grown.more;
    is = same ∙ over.grown.is;
    later = over.grown.later;
    given = subst (λ (k : ℕ). start.last ≤ k) (sym last) over.grown.given;
  }

  -- what was computed is dropped
  pub closed_as_before : (new : Memory) (since : ℕ) → since ≡ start.last → keeps answer ≡ false → Sifts (IsTouched (λ r. since < r.stamp) mid.held) mid.held new.held → new.last ≡ mid.last → new.begun ≡ mid.begun → HasClosed model ev new ticks answer
  closed_as_before new since at e sifts given begun =
      let back =
      roll_back_keeps model start mid new over.kept still_ordered still_grown
      (subst (λ (k : ℕ). Sifts (IsTouched (λ (r : Kept). k < r.stamp) mid.held) mid.held new.held) at sifts) given (begun ∙ idle) in
      record {
        right = subst (λ (held : List Entry). Answer model ev answer held ticks) (over.held ∙ sym back.same) (right_by false e);
        kept = back.kept;
      }
