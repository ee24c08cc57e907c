-- A right state stays right.
use Rattle.std.proofs.Common.{◌≡◌, ℕ, ◌⊎◌, inl, inr, Bool, true, false, not, List, Some, None, Result, Ok, Err, refl, sym, ap, subst, arith}
use Rattle.std.specs.Bool.{Decides}
use Rattle.mx_value.specs.declared.node.Node.{Node}
use Rattle.mx_value.specs.declared.read.Read.{Read}
use Rattle.mx_value.specs.declared.value.Value.{Value}
use Rattle.mx_value.specs.declared.refusal.EvalRefusal.{EvalRefusal}
use Rattle.mx_value.specs.declared.refusal.EvalRefusal.TheVariants as refusal
use Rattle.mx_edit.specs.Entry.{Entry}
use Rattle.mx_edit.specs.Equality.{key_result_eq}
use Rattle.mx_edit.specs.declared.key.Key.{Key}
use Rattle.mx_edit.proofs.Results.{key_result_decides}
use Rattle.mx_runs.specs.Lists.{Has}
use Rattle.mx_runs.specs.Runs.{Model}
use Rattle.mx_runs.specs.Chains.{DoesAsk, Reaches, Itself, Through}
use Rattle.mx_runs.specs.Support.{HasSameKeys}
use Rattle.mx_runs.proofs.Lists.{among_or_not}
use Rattle.mx_runs.proofs.Agreement.{keys_unchanged, key_agreement}
use Rattle.mx_meaning.specs.Laws.{BindsTo}
use Rattle.mx_meaning.proofs.Binds.{one_bound_form as one_over, bound_is_bound as own_bound}
use Rattle.mx_meaning.proofs.Sound.{asked_is_bound, tests_are_covered}
use Rattle.mx_answers.specs.Held.{nodes_of, Counts, IsRight}
use Rattle.mx_answers.specs.Records.{IsRightMemo, HasReads}
use Rattle.mx_answers.specs.Answers.{IsLimit, IsSettled, Evaluation, Answer, Completes}
use Rattle.mx_answers.specs.Retention.{Tells}
use Rattle.mx_answers.proofs.Held.{nodes_cases, named, entry_of}
use Rattle.mx_answers.proofs.Unique.{one_answer}
use Rattle.mx_answers.proofs.Alike.{one_step, right_alike}
use Rattle.mx_answers.proofs.Steps.{stays_right, value_ticks}
use Rattle.mx_answers.proofs.Records.{one_reads}
use Rattle.mx_answers.proofs.Retaining.{sifted_by_keys}
use Rattle.mx_answers.proofs.Clearing.{sifted_by_scope}
use Rattle.mx_model.specs.Records.{ModelRecord}
use Rattle.mx_model.specs.Keys.{key_result, is_changed}
use Rattle.mx_state.specs.Model.{model_of}
use Rattle.mx_state.specs.Proper.{HasArguments, IsProper, IsPlace}
use Rattle.mx_state.specs.State.{State, IsHeldAsBound, IsRightState, AreProper}
use Rattle.mx_state.specs.Evaluations.{IsAsked, AsBound, AsWritten, HasAsked, KnowsAsked, Evaluates, TellsReads}
use Rattle.mx_state.specs.Laws as law
use Rattle.mx_state.proofs.Bound.{inputs_end, bound_as, value_bound}
use Rattle.mx_state.proofs.Staying.{binds_still}

pub texts_have_runs : law.TextsHaveRuns
texts_have_runs text = record { inputs_end = inputs_end (key_result text); tests_are_covered = tests_are_covered (key_result text) }

-- ---- bound forms

pub one_bound_form : law.OneBoundForm
one_bound_form text n b c p q = one_over (key_result text) n b c p q

pub one_is_asked : law.OneIsAsked
one_is_asked text n b c (AsBound p) (AsBound q) = one_bound_form text n b c p q
one_is_asked text n b c (AsBound p) (AsWritten h) = absurd (h b p)
one_is_asked text n b c (AsWritten h) (AsBound q) = absurd (h c q)
one_is_asked text n b c (AsWritten h) (AsWritten i) = refl

pub one_bound_answer : law.OneBoundAnswer
one_bound_answer s n (Some b) (Some c) p q = ap Some (one_bound_form s.text n b c (record { events = p.events; leads = p.leads }) (record { events = q.events; leads = q.leads }))
one_bound_answer s n (Some b) None p q = absurd (q b p)
one_bound_answer s n None (Some c) p q = absurd (p c q)
one_bound_answer s n None None p q = refl

pub bound_is_bound : law.BoundIsBound
bound_is_bound text n b p = own_bound (key_result text) n b p

pub value_binds : law.ValueBinds
value_binds text n r m i =
    let h = value_bound (key_result text) n r m i in
    record { node = h.node; binds = record { events = _; leads = h.is.binds } }

pub bound_is_there : law.BoundIsThere
bound_is_there text n p =
    let a = bound_as (key_result text) n n p in
    record { place = subst IsPlace (sym a.at) a.place; there = record { space = a.space; events = a.before; leads = a.walks } }

held_as_bound : (text : ModelRecord) (n : Node) → BindsTo (model_of text) n n → IsHeldAsBound (model_of text) n
held_as_bound text n b = let s = bound_is_there text n b in record { bound = b; place = s.place; there = s.there }

pub held_is_asked : law.HeldIsAsked
held_is_asked s n right h = let f = entry_of s.held n h in AsBound (subst (λ x. BindsTo (model_of s.text) x x) f.is (right.bound f.item f.among).bound)

-- ---- states without what is held

pub begins_right : law.BeginsRight
begins_right text limit valid l = record {
  valid = valid;
  memo = record {
    right = record { means = λ e h. absurd h; own = λ n h. absurd h; once = tt; closed = λ n m h a. absurd h; room = omega arith };
    records = λ e h. absurd h;
    order = tt;
  };
  bound = λ e h. absurd h;
  limit = l;
}

pub right_with_limit : law.RightWithLimit
right_with_limit s limit right l = record { valid = right.valid; memo = right.memo; bound = right.bound; limit = l }

-- ---- evaluations

-- a node that is newly held is reached, has a value and is no input
record IsNew (model : Model) (n x : Node) : Type 0 where
  reaches : Reaches model n x
  counts : Counts model x

new_of_completed : (model : Model) (ev : Evaluation) (after : List Entry) (ticks : ℕ) → Completes model ev after ticks → (x : Node) → Has (nodes_of after) x → (Has (nodes_of ev.held) x → ⊥) → IsNew model ev.node x
new_of_completed model ev after ticks c x h out =
    elim (nodes_cases ev.held c.holds.more after x c.holds.is h) [
      | inl a ↦ absurd (out a)
      | inr b ↦ let o = (c.holds.exactly x).0 b in record { reaches = o.0; counts = o.1 }
    ]

none_new : (model : Model) (n x : Node) (held after : List Entry) → after ≡ held → Has (nodes_of after) x → (Has (nodes_of held) x → ⊥) → IsNew model n x
none_new model n x held after e h out = absurd (out (subst (λ es. Has (nodes_of es) x) e h))

newly_held : (model : Model) (ev : Evaluation) (a : Result Value EvalRefusal) (after : List Entry) (ticks : ℕ) → Answer model ev a after ticks → (x : Node) → Has (nodes_of after) x → (Has (nodes_of ev.held) x → ⊥) → IsNew model ev.node x
newly_held model ev (Ok v) after ticks p x h out = new_of_completed model ev after ticks p.1 x h out
newly_held model ev (Err (refusal.Fault k m line)) after ticks p x h out = new_of_completed model ev after ticks p.1 x h out
newly_held model ev (Err (refusal.Ring ring)) after ticks p x h out = new_of_completed model ev after ticks p.2 x h out
newly_held model ev (Err refusal.NoSuch) after ticks p x h out = none_new model ev.node x ev.held after p.1.same h out
newly_held model ev (Err refusal.WrongCount) after ticks p x h out = none_new model ev.node x ev.held after p.1.same h out
newly_held model ev (Err (refusal.TooDeep m)) after ticks p x h out = none_new model ev.node x ev.held after p.1 h out
newly_held model ev (Err refusal.Full) after ticks p x h out = none_new model ev.node x ev.held after p.1 h out
newly_held model ev (Err refusal.NoMemory) after ticks p x h out = none_new model ev.node x ev.held after p h out

-- a node that is reached is the one itself, or is asked by some node
record IsAskedBySome (model : Model) (x : Node) : Type 0 where
  by : Node
  asks : DoesAsk model by x

reached_asked : (model : Model) (n x : Node) → Reaches model n x → (n ≡ x) ⊎ IsAskedBySome model x
reached_asked model n x Itself = inl refl
reached_asked model n x (Through k a q) =
    elim (reached_asked model k x q) [
      | inl e ↦ inr (record { by = n; asks = subst (λ y. DoesAsk model n y) e a })
      | inr w ↦ inr w
    ]

-- the node that an evaluation asks is in bound form where it counts
asked_binds : (text : ModelRecord) (n b : Node) → IsAsked (model_of text) n b → Counts (model_of text) b → BindsTo (model_of text) b b
asked_binds text n b (AsBound p) c = bound_is_bound text n b p
asked_binds text n b (AsWritten h) c = let v = value_binds text b c.value.reply c.value.means c.own in absurd (h v.node v.binds)

new_binds : (text : ModelRecord) (n b x : Node) → IsAsked (model_of text) n b → IsNew (model_of text) b x → BindsTo (model_of text) x x
new_binds text n b x a w =
    elim (reached_asked (model_of text) b x w.reaches) [
      | inl e ↦ subst (λ y. BindsTo (model_of text) y y) e (asked_binds text n b a (subst (λ y. Counts (model_of text) y) (sym e) w.counts))
      | inr k ↦ asked_is_bound (key_result text) k.by x k.asks
    ]

-- either it is known which node is asked, or what was held is held
known_or_same : (model : Model) (n : Node) (a : Result Value EvalRefusal) (before after : List Entry) → KnowsAsked model n a before after → HasAsked model n ⊎ (after ≡ before)
known_or_same model n (Ok v) before after k = inl k
known_or_same model n (Err (refusal.Fault kind m line)) before after k = inl k
known_or_same model n (Err (refusal.Ring ring)) before after k = inl k
known_or_same model n (Err refusal.NoSuch) before after k = inl k
known_or_same model n (Err refusal.WrongCount) before after k = inl k
known_or_same model n (Err (refusal.TooDeep m)) before after k = inr k
known_or_same model n (Err refusal.Full) before after k = inr k
known_or_same model n (Err refusal.NoMemory) before after k = inr k

module _ (s t : State) (n : Node) (a : Result Value EvalRefusal) (ticks : ℕ) (right : IsRightState s) (ev : Evaluates s n a ticks t) where
  abbrev evaluation : Node → Evaluation
  evaluation b = record { node = b; held = s.held; limit = s.limit }

  abbrev known : HasAsked (model_of s.text) n ⊎ (t.held ≡ s.held)
  known = known_or_same (model_of s.text) n a s.held t.held ev.known

  new_bound : (x : Node) → Has (nodes_of t.held) x → (Has (nodes_of s.held) x → ⊥) → IsHeldAsBound (model_of s.text) x
  new_bound x h out =
      elim known [
        | inl k ↦
            let new = newly_held (model_of s.text) (evaluation k.node) a t.held ticks (ev.answers k.node k.asked) x h out in
            held_as_bound s.text x (new_binds s.text n k.node x k.asked new)
        | inr e ↦ absurd (out (subst (λ es. Has (nodes_of es) x) e h))
      ]

  held_bound : (e : Entry) → Has t.held e → IsHeldAsBound (model_of s.text) e.node
  held_bound e h =
      elim (among_or_not e.node (nodes_of s.held)) [
        | inl i ↦ let f = entry_of s.held e.node i in subst (λ x. IsHeldAsBound (model_of s.text) x) f.is (right.bound f.item f.among)
        | inr out ↦ new_bound e.node (named t.held e h) out
      ]

  held_right : IsRight (model_of s.text) t.held
  held_right =
      elim known [
        | inl k ↦ stays_right (model_of s.text) (evaluation k.node) a t.held ticks right.memo.right (ev.answers k.node k.asked)
        | inr e ↦ subst (λ es. IsRight (model_of s.text) es) (sym e) right.memo.right
      ]

  abbrev with_text : ModelRecord → Type 0
  with_text text = IsRightState (record { text = text; held = t.held; limit = t.limit })

  right_after : IsRightState t
  right_after = subst with_text (sym ev.text) (record {
    valid = right.valid;
    memo = record { right = held_right; records = ev.recorded.records; order = ev.recorded.order };
    bound = held_bound;
    limit = subst IsLimit (sym ev.limit) right.limit;
  })

  proper_after : AreProper s → ((x : Node) → Has (nodes_of t.held) x → (Has (nodes_of s.held) x → ⊥) → HasArguments x) → AreProper t
  proper_after proper arguments e h =
      elim (among_or_not e.node (nodes_of s.held)) [
        | inl i ↦ let f = entry_of s.held e.node i in subst IsProper f.is (proper f.item f.among)
        | inr out ↦ record { has = arguments e.node (named t.held e h) out; small = (held_bound e h).place.small }
      ]

pub right_after_evaluation : law.RightAfterEvaluation
right_after_evaluation s t n a ticks right ev = record { right = right_after s t n a ticks right ev; proper = proper_after s t n a ticks right ev }

-- ---- edits

told_same : (b : Bool) {P : Type 0} → Decides b P → not b ≡ false → P
told_same true d e = d.0 refl
told_same false d e = cc

told_differs : (b : Bool) {P : Type 0} → Decides b P → not b ≡ true → P → ⊥
told_differs true d e p = cc
told_differs false d e p = let i : false ≡ true = d.1 p in cc

pub changes_told : (before after : ModelRecord) → Tells (key_result before) (key_result after) (is_changed before after)
changes_told before after =
    let decides : (k : Key) → Decides (key_result_eq (key_result before k) (key_result after k)) (key_result before k ≡ key_result after k) = λ k. key_result_decides (key_result before k) (key_result after k) in
    record {
      same = λ k e. sym (told_same (key_result_eq (key_result before k) (key_result after k)) (decides k) e);
      differs = λ k e p. told_differs (key_result_eq (key_result before k) (key_result after k)) (decides k) e (sym p);
    }

-- a held node with the same support is held as bound
bound_still : (before after : ModelRecord) (held : List Entry) (e : Entry) → IsRightMemo (model_of before) held → Has held e → HasSameKeys (model_of before) (key_result after) e.node → IsHeldAsBound (model_of before) e.node → IsHeldAsBound (model_of after) e.node
bound_still before after held e memo h same b =
    held_as_bound after e.node
    (binds_still (key_result before) (key_result after) e.node e.node
    (keys_unchanged (model_of before) (key_result after) e.node e.reply (tests_are_covered (key_result before)) (memo.right.means e h) same)
    (memo.right.own e.node (named held e h)) b.bound)

pub right_after_edit : law.RightAfterEdit
right_after_edit s t e right accepted valid sifted =
    let r = sifted_by_keys (model_of s.text) (key_result t.text) (is_changed s.text t.text) s.held t.held (inputs_end (key_result s.text)) (inputs_end (key_result t.text)) (tests_are_covered (key_result s.text)) (changes_told s.text t.text) right.memo sifted.sifts in
    record {
      right = record {
        valid = valid;
        memo = r.memo;
        bound = λ d h. let q = r.retains.only d h in bound_still s.text t.text s.held d right.memo q.0 q.1 (right.bound d q.0);
        limit = subst IsLimit (sym sifted.limit) right.limit;
      };
      proper = λ p d h. p d (r.retains.only d h).0;
      edits = record { accepted = accepted; retains = r.retains; limit = sifted.limit };
    }

-- ---- clearings

pub right_after_clearing : law.RightAfterClearing
right_after_clearing s t scope right sifted =
    let r = sifted_by_scope (model_of s.text) scope s.held t.held (inputs_end (key_result s.text)) right.memo sifted.sifts in
    let with_text : ModelRecord → Type 0 = λ text. IsRightState (record { text = text; held = t.held; limit = t.limit }) in
    record {
      right = subst with_text (sym sifted.text) (record {
        valid = right.valid;
        memo = r.memo;
        bound = λ d h. right.bound d (r.clears.only d h).0;
        limit = subst IsLimit (sym sifted.limit) right.limit;
      });
      proper = λ p d h. p d (r.clears.only d h).0;
      clearing = record { clears = r.clears; text = sifted.text; limit = sifted.limit };
    }

-- ---- answers

pub keys_decide : law.KeysDecide
keys_decide before after n r m same = key_agreement (model_of before) (key_result after) n r (tests_are_covered (key_result before)) m same

-- a settled answer knows the node that is asked
settled_asked : (model : Model) (n : Node) (a : Result Value EvalRefusal) (before after : List Entry) → IsSettled a → KnowsAsked model n a before after → HasAsked model n
settled_asked model n (Ok v) before after settled k = k
settled_asked model n (Err (refusal.Fault kind m line)) before after settled k = k
settled_asked model n (Err (refusal.Ring ring)) before after settled k = k
settled_asked model n (Err refusal.NoSuch) before after settled k = k
settled_asked model n (Err refusal.WrongCount) before after settled k = k
settled_asked model n (Err (refusal.TooDeep m)) before after settled k = absurd settled
settled_asked model n (Err refusal.Full) before after settled k = absurd settled
settled_asked model n (Err refusal.NoMemory) before after settled k = absurd settled

pub one_answer_of : law.OneAnswer
one_answer_of s t u n a b ticks runs p q settled other =
    let k = settled_asked (model_of s.text) n a s.held t.held settled p.known in
    one_answer (model_of s.text) (record { node = k.node; held = s.held; limit = s.limit }) a b t.held u.held ticks runs (p.answers k.node k.asked) (q.answers k.node k.asked) settled other

pub one_step_of : law.OneStep
one_step_of s t u n a b ticks runs right p q settled memory =
    let k = settled_asked (model_of s.text) n a s.held t.held settled p.known in
    one_step (model_of s.text) (record { node = k.node; held = s.held; limit = s.limit }) s.held a b t.held u.held ticks runs (right_alike (model_of s.text) s.held right.memo.right)
    (p.answers k.node k.asked) (q.answers k.node k.asked) settled memory

pub value_ticks_of : law.ValueTicks
value_ticks_of s t n v ticks p =
    value_ticks (model_of s.text) (record { node = p.known.node; held = s.held; limit = s.limit }) v t.held ticks (p.answers p.known.node p.known.asked)

-- what an answer of a node tells of it
known_by : (model : Model) (n b : Node) (held after : List Entry) (limit ticks : ℕ) (a : Result Value EvalRefusal) → IsAsked model n b → Answer model (record { node = b; held = held; limit = limit }) a after ticks → KnowsAsked model n a held after
known_by model n b held after limit ticks (Ok v) asked p = record { node = b; asked = asked }
known_by model n b held after limit ticks (Err (refusal.Fault kind m line)) asked p = record { node = b; asked = asked }
known_by model n b held after limit ticks (Err (refusal.Ring ring)) asked p = record { node = b; asked = asked }
known_by model n b held after limit ticks (Err refusal.NoSuch) asked p = record { node = b; asked = asked }
known_by model n b held after limit ticks (Err refusal.WrongCount) asked p = record { node = b; asked = asked }
known_by model n b held after limit ticks (Err (refusal.TooDeep m)) asked p = p.1
known_by model n b held after limit ticks (Err refusal.Full) asked p = p.1
known_by model n b held after limit ticks (Err refusal.NoMemory) asked p = p

pub evaluates_as : law.EvaluatesAs
evaluates_as s t n b a ticks asked answer recorded text limit = record {
  known = known_by (model_of s.text) n b s.held t.held s.limit ticks a asked answer;
  answers = λ c other. subst (λ x. Answer (model_of s.text) (record { node = x; held = s.held; limit = s.limit }) a t.held ticks) (one_is_asked s.text n b c asked other) answer;
  recorded = recorded;
  text = text;
  limit = limit;
}

-- ---- precedents

pub precedents_as : law.PrecedentsAs
precedents_as s t n b v a ticks ev asked told = record {
  value = v;
  evaluates = ev;
  tells = λ c other. subst (λ x. TellsReads (model_of s.text) x v a) (one_is_asked s.text n b c asked other) told;
}

-- it can't be that no node is asked
not_unasked : (model : Model) (n : Node) → ((b : Node) → IsAsked model n b → ⊥) → ⊥
not_unasked model n none = none n (AsWritten (λ b p. none b (AsBound p)))

-- the node that is asked has these reads
record IsReadAs (model : Model) (n : Node) (reads : List Read) : Type 0 where
  node : Node
  asked : IsAsked model n node
  has : HasReads model node reads

reads_told : (model : Model) (n : Node) (v : Result Value EvalRefusal) (before after : List Entry) (reads : List Read) → KnowsAsked model n v before after → ((b : Node) → IsAsked model n b → TellsReads model b v (Ok reads)) → IsReadAs model n reads
reads_told model n (Ok v) before after reads k tells = record { node = k.node; asked = k.asked; has = tells k.node k.asked }
reads_told model n (Err why) before after reads k tells = absurd (not_unasked model n tells)

pub one_precedents : law.OnePrecedents
one_precedents s t u n xs ys ticks runs p q =
    let k = reads_told (model_of s.text) n p.value s.held t.held xs p.evaluates.known p.tells in
    let j = reads_told (model_of s.text) n q.value s.held u.held ys q.evaluates.known q.tells in
    let e : k.node ≡ j.node = one_is_asked s.text n k.node j.node k.asked j.asked in
    one_reads (model_of s.text) j.node xs ys (subst (λ x. HasReads (model_of s.text) x xs) e k.has) j.has
