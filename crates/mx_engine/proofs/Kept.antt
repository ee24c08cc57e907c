-- An engine's state stays right, and nothing is in flight, whatever a call did.
use Rattle.std.proofs.Common.{◌≡◌, ℕ, List, [], Result, Ok, refl, sym, ◌∙◌, ap, subst, lit≤}
use Rattle.mx_value.specs.declared.node.Node.{Node}
use Rattle.mx_value.specs.declared.value.Value.{Value}
use Rattle.mx_value.specs.declared.refusal.EvalRefusal.{EvalRefusal}
use Rattle.mx_edit.specs.Entry.{Entry}
use Rattle.mx_edit.specs.declared.edit.Edit.{Edit}
use Rattle.mx_edit.specs.declared.scope.Scope.{Scope}
use Rattle.mx_memo.specs.Memos.{Memory, nothing_held}
use Rattle.mx_memo.specs.Restoring.{AreApart, AskBefore}
use Rattle.mx_memo.specs.Order.{StampsRise}
use Rattle.mx_vertices.specs.Places.{Has}
use Rattle.mx_vertices.specs.Kept as kept
use Rattle.mx_answers.specs.Answers.{IsLimit}
use Rattle.mx_model.specs.Records.{ModelRecord, beginning}
use Rattle.mx_model.specs.Keys.{is_changed}
use Rattle.mx_model.specs.Apply.{Apply}
use Rattle.mx_model.specs.Valid.{Valid}
use Rattle.mx_memo_laws.specs.Entries.{entries_of, IsOrdered, IsKept}
use Rattle.mx_memo_laws.specs.Laws as entries
use Rattle.mx_machine.specs.States.{state_of}
use Rattle.mx_state.specs.Model.{model_of}
use Rattle.mx_state.specs.State.{State, IsRightState}
use Rattle.mx_state.specs.Evaluations.{Evaluates}
use Rattle.mx_state.specs.Changes.{Clearing}
use Rattle.mx_state.specs.Laws as states
use Rattle.mx_engine.specs.Edited.{IsEdited}
use Rattle.mx_engine.specs.Engine.{first_limit, first_state, IsSound}

-- ---- nothing held

pub first_is_limit : IsLimit first_limit
first_is_limit = record { least = lit≤ tt; greatest = lit≤ tt }

ordered_empty : (m : Memory) → m.held ≡ [] → IsOrdered m
ordered_empty m none = record {
  stands = record {
    apart = subst AreApart (sym none) tt;
    rising = subst (λ (held : List kept.Kept). StampsRise 0 held) (sym none) tt;
    given = λ r h. absurd (subst (λ (held : List kept.Kept). Has held r) none h);
  };
  asks = subst (λ (held : List kept.Kept). AskBefore [] held) (sym none) tt;
}

pub sound_empty : states.BeginsRight → (text : ModelRecord) (m : Memory) (limit : ℕ) → Valid text → IsLimit limit → m.held ≡ [] → m.begun ≡ [] → IsSound text m limit
sound_empty law text m limit valid within none idle =
    let right = law text limit valid within in
    let P : List kept.Kept → Type 0 = λ held. IsRightState (record { text = text; held = entries_of held; limit = limit }) in
    let there : P m.held = subst P (sym none) right in
    record {
      right = there;
      kept = record { memo = there.memo; ordered = ordered_empty m none; idle = idle };
    }

pub first_view : (text : ModelRecord) (m : Memory) → text ≡ beginning → m ≡ nothing_held → state_of text m first_limit ≡ first_state
first_view text m is none = ap (λ (t : ModelRecord). state_of t m first_limit) is ∙ ap (λ (n : Memory). state_of beginning n first_limit) none

pub sound_first : states.BeginsRight → (text : ModelRecord) (m : Memory) → Valid beginning → text ≡ beginning → m ≡ nothing_held → IsSound text m first_limit
sound_first law text m valid is none =
    let P : ModelRecord → Type 0 = λ t. IsSound t m first_limit in
    subst P (sym is) (sound_empty law beginning m first_limit valid first_is_limit (ap (λ (x : Memory). x.held) none) (ap (λ (x : Memory). x.begun) none))

-- ---- another limit

pub sound_limit : states.RightWithLimit → (text : ModelRecord) (m : Memory) (old limit : ℕ) → IsSound text m old → IsLimit limit → IsSound text m limit
sound_limit law text m old limit sound within = record {
  right = law (state_of text m old) limit sound.right within;
  kept = sound.kept;
}

-- ---- the same entries under other ids and stamps

pub same_state : (text : ModelRecord) (limit : ℕ) (m k : Memory) → entries_of k.held ≡ entries_of m.held → state_of text k limit ≡ state_of text m limit
same_state text limit m k e = ap (λ (held : List Entry). record { text = text; held = held; limit = limit }) e

pub sound_same : (text : ModelRecord) (limit : ℕ) (m k : Memory) → entries_of k.held ≡ entries_of m.held → IsOrdered k → k.begun ≡ m.begun → IsSound text m limit → IsSound text k limit
sound_same text limit m k e ordered idle sound =
    let P : List Entry → Type 0 = λ held. IsRightState (record { text = text; held = held; limit = limit }) in
    let right : P (entries_of k.held) = subst P (sym e) sound.right in
    record {
      right = right;
      kept = record { memo = right.memo; ordered = ordered; idle = idle ∙ sound.kept.idle };
    }

-- ---- evaluations

pub record Evaluated (text : ModelRecord) (m k : Memory) (limit : ℕ) (n : Node) (a : Result Value EvalRefusal) (ticks : ℕ) : Type 0 where
  pub sound : IsSound text k limit
  pub evaluates : Evaluates (state_of text m limit) n a ticks (state_of text k limit)

pub evaluated : states.RightAfterEvaluation → (text : ModelRecord) (m mid k : Memory) (limit : ℕ) (n : Node) (a : Result Value EvalRefusal) (ticks : ℕ)
    → IsSound text m limit → entries_of mid.held ≡ entries_of m.held → IsKept (model_of text) k
    → Evaluates (state_of text mid limit) n a ticks (state_of text k limit) → Evaluated text m k limit n a ticks
evaluated law text m mid k limit n a ticks sound e after ev =
    let P : State → Type 0 = λ s. Evaluates s n a ticks (state_of text k limit) in
    let from : Evaluates (state_of text m limit) n a ticks (state_of text k limit) = subst P (same_state text limit m mid e) ev in
    record {
      sound = record { right = (law (state_of text m limit) (state_of text k limit) n a ticks sound.right from).right; kept = after };
      evaluates = from;
    }

-- ---- edits

pub edited : states.RightAfterEdit → entries.Retention → (before after : ModelRecord) (m k : Memory) (limit : ℕ) (e : Edit) → IsSound before m limit → Apply before e (Ok after) → Valid after
    → kept.Sifts (kept.IsTouched (kept.HasChanged (is_changed before after)) m.held) m.held k.held → k.last ≡ m.last → k.begun ≡ m.begun → IsEdited before m e after k limit
edited law retention before after m k limit e sound accepted valid sifts last idle =
    let s = retention (is_changed before after) m k sound.kept.ordered sound.right.memo.right.once sifts last in
    let all = law (state_of before m limit) (state_of after k limit) e sound.right accepted valid (record { sifts = s.entries; limit = refl }) in
    record {
      sound = record { right = all.right; kept = record { memo = all.right.memo; ordered = s.ordered; idle = idle ∙ sound.kept.idle } };
      edits = all.edits;
    }

-- ---- clearings

pub record Cleared (text : ModelRecord) (m k : Memory) (limit : ℕ) (scope : Scope) : Type 0 where
  pub sound : IsSound text k limit
  pub clearing : Clearing (state_of text m limit) scope (state_of text k limit)

pub cleared : states.RightAfterClearing → entries.Clearing → (text : ModelRecord) (m k : Memory) (limit : ℕ) (scope : Scope) → IsSound text m limit
    → kept.Sifts (kept.IsTouched (kept.IsToGo (entries.test_of scope)) m.held) m.held k.held → k.last ≡ m.last → k.begun ≡ m.begun → Cleared text m k limit scope
cleared law clears text m k limit scope sound sifts last idle =
    let s = clears scope m k sound.kept.ordered sound.right.memo.right.once sifts last in
    let all = law (state_of text m limit) (state_of text k limit) scope sound.right (record { sifts = s.entries; text = refl; limit = refl }) in
    record {
      sound = record { right = all.right; kept = record { memo = all.right.memo; ordered = s.ordered; idle = idle ∙ sound.kept.idle } };
      clearing = all.clearing;
    }
