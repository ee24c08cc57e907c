-- Held nodes stay proper.
use Rattle.std.proofs.Common.{◌≡◌, ℕ, ◌⊎◌, inl, inr, List, Result, Ok, Err, subst}
use Rattle.mx_value.specs.declared.node.Node.{Node}
use Rattle.mx_value.specs.declared.value.Value.{Value}
use Rattle.mx_value.specs.declared.refusal.EvalRefusal.{EvalRefusal}
use Rattle.mx_value.specs.declared.refusal.EvalRefusal.TheVariants as refusal
use Rattle.mx_edit.specs.Entry.{Entry}
use Rattle.mx_runs.specs.Lists.{Has}
use Rattle.mx_runs.specs.Runs.{Model}
use Rattle.mx_runs.specs.Chains.{Reaches}
use Rattle.mx_runs.proofs.Lists.{among_or_not}
use Rattle.mx_answers.specs.Held.{nodes_of}
use Rattle.mx_answers.specs.Answers.{Evaluation, Answer, Completes}
use Rattle.mx_answers.proofs.Held.{nodes_cases, named, entry_of}
use Rattle.mx_model.specs.Keys.{key_result}
use Rattle.mx_state.specs.Model.{model_of}
use Rattle.mx_state.specs.Proper.{IsProper}
use Rattle.mx_state.specs.State.{State, AreProper}
use Rattle.mx_state.specs.Evaluations.{IsAsked, AsBound, AsWritten, HasAsked, KnowsAsked, Evaluates}
use Rattle.mx_limit_laws.specs.Replies.{HasSmallResults}
use Rattle.mx_limit_laws.specs.Laws as law
use Rattle.mx_limit_laws.proofs.Nodes.{bound_proper, reached_proper}
use Rattle.mx_limit_laws.proofs.Texts.{results_small}

-- ---- what is newly held is reached

module _ (model : Model) (x : Node) where
  -- it is held afterwards, and was not held before
  abbrev IsNew : List Entry → List Entry → Type 0
  IsNew before after = Has (nodes_of after) x × (Has (nodes_of before) x → ⊥)

  new_of_completed : (ev : Evaluation) (after : List Entry) (ticks : ℕ) → Completes model ev after ticks → IsNew ev.held after → Reaches model ev.node x
  new_of_completed ev after ticks c n =
      elim (nodes_cases ev.held c.holds.more after x c.holds.is n.0) [
        | inl a ↦ absurd (n.1 a)
        | inr b ↦ ((c.holds.exactly x).0 b).0
      ]

  none_new : (before after : List Entry) → after ≡ before → IsNew before after → ⊥
  none_new before after e n = n.1 (subst (λ es. Has (nodes_of es) x) e n.0)

  new_reached : (ev : Evaluation) (a : Result Value EvalRefusal) (after : List Entry) (ticks : ℕ) → Answer model ev a after ticks → IsNew ev.held after → Reaches model ev.node x
  new_reached ev (Ok v) after ticks p n = new_of_completed ev after ticks p.1 n
  new_reached ev (Err (refusal.Fault k m line)) after ticks p n = new_of_completed ev after ticks p.1 n
  new_reached ev (Err (refusal.Ring ring)) after ticks p n = new_of_completed ev after ticks p.2 n
  new_reached ev (Err refusal.NoSuch) after ticks p n = absurd (none_new ev.held after p.1.same n)
  new_reached ev (Err refusal.WrongCount) after ticks p n = absurd (none_new ev.held after p.1.same n)
  new_reached ev (Err (refusal.TooDeep m)) after ticks p n = absurd (none_new ev.held after p.1 n)
  new_reached ev (Err refusal.Full) after ticks p n = absurd (none_new ev.held after p.1 n)
  new_reached ev (Err refusal.NoMemory) after ticks p n = absurd (none_new ev.held after p n)

  -- either it is known which node is asked, or nothing is new
  known_or_same : (n : Node) (a : Result Value EvalRefusal) (before after : List Entry) → KnowsAsked model n a before after → HasAsked model n ⊎ (after ≡ before)
  known_or_same n (Ok v) before after k = inl k
  known_or_same n (Err (refusal.Fault kind m line)) before after k = inl k
  known_or_same n (Err (refusal.Ring ring)) before after k = inl k
  known_or_same n (Err refusal.NoSuch) before after k = inl k
  known_or_same n (Err refusal.WrongCount) before after k = inl k
  known_or_same n (Err (refusal.TooDeep m)) before after k = inr k
  known_or_same n (Err refusal.Full) before after k = inr k
  known_or_same n (Err refusal.NoMemory) before after k = inr k

-- ---- evaluations

module _ (s t : State) (n : Node) (a : Result Value EvalRefusal) (ticks : ℕ) (small : HasSmallResults (key_result s.text)) (p : IsProper n) (ev : Evaluates s n a ticks t) where
  asked_proper : (b : Node) → IsAsked (model_of s.text) n b → IsProper b
  asked_proper b (AsBound q) = bound_proper (key_result s.text) small n b p.has q
  asked_proper b (AsWritten q) = p

  new_proper : (x : Node) → Has (nodes_of t.held) x → (Has (nodes_of s.held) x → ⊥) → IsProper x
  new_proper x i out =
      elim (known_or_same (model_of s.text) x n a s.held t.held ev.known) [
        | inl k ↦
            reached_proper (key_result s.text) small k.node x (asked_proper k.node k.asked)
            (new_reached (model_of s.text) x (record { node = k.node; held = s.held; limit = s.limit }) a t.held ticks (ev.answers k.node k.asked) (i, out))
        | inr e ↦ absurd (none_new (model_of s.text) x s.held t.held e (i, out))
      ]

  held_proper : AreProper s → AreProper t
  held_proper proper e h =
      elim (among_or_not e.node (nodes_of s.held)) [
        | inl i ↦ let f = entry_of s.held e.node i in subst IsProper f.is (proper f.item f.among)
        | inr out ↦ new_proper e.node (named t.held e h) out
      ]

pub proper_after_evaluation : law.ProperAfterEvaluation
proper_after_evaluation s t n a ticks valid small p proper ev = held_proper s t n a ticks (results_small s.text valid small) p ev proper

-- ---- nothing held, edits and clearings

pub begins_proper : law.BeginsProper
begins_proper text limit e h = absurd h

pub proper_after_edit : law.ProperAfterEdit
proper_after_edit s t e proper edits entry h = proper entry (edits.retains.only entry h).0

pub proper_after_clearing : law.ProperAfterClearing
proper_after_clearing s t scope proper clearing entry h = proper entry (clearing.clears.only entry h).0
