-- An engine's held nodes stay proper.
use Rattle.std.proofs.Common.{◌≡◌, ℕ, Result, List, [], Ok, Err, OnOk, OnErr, refl, sym, ap, subst}
use Rattle.mx_value.specs.declared.node.Node.{Node}
use Rattle.mx_value.specs.declared.read.Read.{Read}
use Rattle.mx_value.specs.declared.value.Value.{Value}
use Rattle.mx_value.specs.declared.refusal.EvalRefusal.{EvalRefusal}
use Rattle.mx_edit.specs.declared.edit.Edit.{Edit}
use Rattle.mx_edit.specs.declared.refusal.EditRefusal.{EditRefusal}
use Rattle.mx_edit.specs.declared.scope.Scope.{Scope}
use Rattle.mx_model.specs.Records.{ModelRecord, beginning}
use Rattle.mx_model.specs.Tables.{HasTables}
use Rattle.mx_model.specs.Valid.{Valid}
use Rattle.mx_vertices.specs.Kept.{Kept}
use Rattle.mx_memo.specs.Memos.{Memory, nothing_held}
use Rattle.mx_memo_laws.specs.Entries.{entries_of}
use Rattle.mx_machine.specs.States.{state_of}
use Rattle.mx_state.specs.Proper.{IsProper}
use Rattle.mx_state.specs.State.{State, AreProper}
use Rattle.mx_state.specs.Evaluations.{Evaluates, HasPrecedents}
use Rattle.mx_state.specs.Changes.{Edits, Clearing}
use Rattle.mx_limit_laws.specs.Texts.{HasSmallFormulas, IsSmallText, IsSmallEdit}
use Rattle.mx_limit_laws.proofs.Edits.{begins_small, edits_keep_small}
use Rattle.mx_limit_laws.proofs.Tables.{text_tables_are_small}
use Rattle.mx_limit_laws.proofs.States.{begins_proper, proper_after_evaluation, proper_after_edit, proper_after_clearing}
use Rattle.mx_engine.specs.Edited.{HasEdited}
use Rattle.mx_engine.specs.Engine.{first_limit, IsSound}
use Rattle.mx_engine.specs.Proper.{IsProperState}
use Rattle.mx_engine.proofs.EditTold.{same_told}

pub after_evaluation : (s t : State) (n : Node) (a : Result Value EvalRefusal) (ticks : ℕ) → Valid s.text → IsProper n → Evaluates s n a ticks t → IsProperState s → IsProperState t
after_evaluation s t n a ticks valid is ev p = record {
  small = subst IsSmallText (sym ev.text) p.small;
  proper = proper_after_evaluation s t n a ticks valid p.small is p.proper ev;
}

pub after_precedents : (s t : State) (n : Node) (a : Result (List Read) EvalRefusal) (ticks : ℕ) → Valid s.text → IsProper n → HasPrecedents s n a ticks t → IsProperState s → IsProperState t
after_precedents s t n a ticks valid is has = after_evaluation s t n has.value ticks valid is has.evaluates

pub after_clearing : (s t : State) (scope : Scope) → Clearing s scope t → IsProperState s → IsProperState t
after_clearing s t scope clearing p = record {
  small = subst IsSmallText (sym clearing.text) p.small;
  proper = proper_after_clearing s t scope p.proper clearing;
}

pub after_edit : (s t : State) (e : Edit) → IsSmallEdit e → Edits s e t → IsProperState s → IsProperState t
after_edit s t e small edits p = record {
  small = edits_keep_small s.text t.text e p.small small edits.accepted;
  proper = proper_after_edit s t e p.proper edits;
}

-- whether the edit was accepted or not
module _ (w v : ModelRecord) (m k : Memory) (e : Edit) (limit : ℕ) (sound : IsSound w m limit) where
  pub proper_told : (r : Result ℕ EditRefusal) → OnOk r (HasEdited w m e v k) → OnErr r (v ≡ w) → OnErr r (k ≡ m) → IsSmallEdit e → IsProperState (state_of w m limit) → IsProperState (state_of v k limit)
  proper_told (Ok n) done text held small p = after_edit (state_of w m limit) (state_of v k limit) e small (done limit sound).edits p
  proper_told (Err why) done text held small p =
      subst IsProperState (sym (same_told w v m k e limit sound (state_of w m limit) refl (Err why) text held)) p

-- the tables of a text keep their limits by themselves
pub small_text : (text same : ModelRecord) → same ≡ text → HasSmallFormulas text → HasTables same → IsSmallText text
small_text text same is formulas has = record { formulas = formulas; tables = text_tables_are_small text (subst HasTables is has) }

-- nothing held is proper
pub proper_empty : (text : ModelRecord) (m : Memory) (limit : ℕ) → m.held ≡ [] → IsSmallText text → IsProperState (state_of text m limit)
proper_empty text m limit none small =
    let P : List Kept → Type 0 = λ held. AreProper (record { text = text; held = entries_of held; limit = limit }) in
    record { small = small; proper = subst P (sym none) (begins_proper text limit) }

pub proper_first : (text : ModelRecord) (m : Memory) → text ≡ beginning → m ≡ nothing_held → IsProperState (state_of text m first_limit)
proper_first text m is none =
    proper_empty text m first_limit (ap (λ (n : Memory). n.held) none) (subst IsSmallText (sym is) begins_small)
