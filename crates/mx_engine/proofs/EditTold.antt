-- What an edit of a world and of what is held for it is to the state of an engine.
use Rattle.std.proofs.Common.{◌≡◌, ℕ, ◌+◌, Result, Ok, Err, OnOk, OnErr, IfOk, length, ap, sym, ◌∙◌, subst, arith}
use Rattle.mx_edit.specs.declared.edit.Edit.{Edit}
use Rattle.mx_edit.specs.declared.refusal.EditRefusal.{EditRefusal}
use Rattle.mx_model.specs.Records.{ModelRecord}
use Rattle.mx_memo.specs.Memos.{Memory}
use Rattle.mx_machine.specs.States.{state_of}
use Rattle.mx_state.specs.State.{State}
use Rattle.mx_state.specs.Changes.{Edits}
use Rattle.mx_engine.specs.Engine.{IsSound}
use Rattle.mx_engine.specs.Edited.{HasEdited}
use Rattle.mx_engine.proofs.Read.{as_many}

module _ (w v : ModelRecord) (m k : Memory) (e : Edit) (limit : ℕ) (sound : IsSound w m limit) where
  pub still_sound : (r : Result ℕ EditRefusal) → OnOk r (HasEdited w m e v k) → OnErr r (v ≡ w) → OnErr r (k ≡ m) → IsSound v k limit
  still_sound (Ok n) done text held = (done limit sound).sound
  still_sound (Err why) done text held =
      let P : ModelRecord → Type 0 = λ t. IsSound t k limit in
      let Q : Memory → Type 0 = λ n. IsSound w n limit in
      subst P (sym text) (subst Q (sym held) sound)

  module _ (s : State) (view : state_of w m limit ≡ s) where
    pub edits_told : (r : Result ℕ EditRefusal) → OnOk r (HasEdited w m e v k) → OnOk r (Edits s e (state_of v k limit))
    edits_told (Ok n) done = let P : State → Type 0 = λ t. Edits t e (state_of v k limit) in subst P view (done limit sound).edits
    edits_told (Err why) done = done

    pub dropped_told : (r : Result ℕ EditRefusal) → IfOk r (λ n. n + length k.held ≡ length m.held) → IfOk r (λ n. n + length (state_of v k limit).held ≡ length s.held)
    dropped_told (Ok n) count =
        let before = as_many m in
        let after = as_many k in
        let same = ap (λ (t : State). length t.held) view in
        omega (arith, before, after, same, count)
    dropped_told (Err why) count = count

    pub same_told : (r : Result ℕ EditRefusal) → OnErr r (v ≡ w) → OnErr r (k ≡ m) → OnErr r (state_of v k limit ≡ s)
    same_told (Ok n) text held = text
    same_told (Err why) text held = ap (λ (t : ModelRecord). state_of t k limit) text ∙ ap (λ (n : Memory). state_of w n limit) held ∙ view
