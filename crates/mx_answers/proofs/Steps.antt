-- What is held after a right answer is right.
use Rattle.std.proofs.Common.{◌≡◌, ℕ, ◌+◌, ◌≤◌, false, List, [], ◌∷◌, ◌++◌, length, Ok, Err, inl, inr, refl, sym, ◌∙◌, ap, subst, arith}
use Rattle.std.proofs.lemmas.List.{length-map}
use Rattle.mx_value.specs.declared.node.Node.{Node}
use Rattle.mx_value.specs.declared.refusal.EvalRefusal.TheVariants as refusal
use Rattle.mx_edit.specs.Entry.{Entry}
use Rattle.mx_runs.specs.Lists.{Has, Distinct}
use Rattle.mx_runs.specs.Runs.{Model, Gives}
use Rattle.mx_runs.specs.Inputs.{is_input}
use Rattle.mx_runs.specs.Meaning.{Means}
use Rattle.mx_runs.specs.Chains.{DoesAsk}
use Rattle.mx_runs.proofs.Lists.{has_cases, among_or_not, distinct_join, no_more}
use Rattle.mx_runs.proofs.Meanings.{ask_has_value}
use Rattle.mx_runs.proofs.Reach.{reach_ask, reach_has_value}
use Rattle.mx_answers.specs.Held.{most_held, nodes_of, Counts, IsKnown, IsRight}
use Rattle.mx_answers.specs.Answers.{Evaluation, Completes}
use Rattle.mx_answers.specs.Laws.{StaysRight, ValueTicks}
use Rattle.mx_answers.proofs.Held.{nodes_append, nodes_grow, nodes_added, nodes_cases, input_or_not}

module _ (model : Model) (ev : Evaluation) (after : List Entry) (ticks : ℕ) (r : IsRight model ev.held) (c : Completes model ev after ticks) where
  after_means : (e : Entry) → Has after e → Means model e.node (Gives e.reply)
  after_means e h = elim (has_cases ev.held c.holds.more e (subst (λ es. Has es e) c.holds.is h)) [ inl a ↦ r.means e a | inr b ↦ c.holds.means e b ]

  after_own : (n : Node) → Has (nodes_of after) n → is_input model n ≡ false
  after_own n h =
      elim (nodes_cases ev.held c.holds.more after n c.holds.is h) [
        | inl a ↦ r.own n a
        | inr b ↦ let o = (c.holds.exactly n).0 b in let k : Counts model n = o.1 in k.own
      ]

  after_once : Distinct (nodes_of after)
  after_once =
      let d : Distinct (nodes_of ev.held ++ nodes_of c.holds.more) = distinct_join (nodes_of ev.held) (nodes_of c.holds.more) r.once c.holds.once (λ x h k. ((c.holds.exactly x).0 k).2 h) in
      subst (λ ns. Distinct ns) (sym (ap (λ es. nodes_of es) c.holds.is ∙ nodes_append ev.held c.holds.more)) d

  stays_known : (n : Node) → IsKnown model (nodes_of ev.held) n → IsKnown model (nodes_of after) n
  stays_known n k = elim k [ inl a ↦ inl (nodes_grow ev.held c.holds.more after n c.holds.is a) | inr b ↦ inr b ]

  -- what a newly held node asks is an input, was held, or is newly held
  new_closed : (n m : Node) → Has (nodes_of c.holds.more) n → DoesAsk model n m → IsKnown model (nodes_of after) m
  new_closed n m h a =
      let o = (c.holds.exactly n).0 h in
      let k : Counts model n = o.1 in
      elim (input_or_not model m) [
        | inl i ↦ inr i
        | inr own ↦ elim (among_or_not m (nodes_of ev.held)) [
          | inl b ↦ stays_known m (inl b)
          | inr new ↦
              let counts : Counts model m = record { value = ask_has_value model n m a k.value; own = own } in
              inl (nodes_added ev.held c.holds.more after m c.holds.is ((c.holds.exactly m).1 (reach_ask model ev.node n m o.0 a, counts, new)))
        ]
      ]

  after_closed : (n m : Node) → Has (nodes_of after) n → DoesAsk model n m → IsKnown model (nodes_of after) m
  after_closed n m h a =
      elim (nodes_cases ev.held c.holds.more after n c.holds.is h) [
        | inl b ↦ stays_known m (r.closed n m b a)
        | inr b ↦ new_closed n m b a
      ]

  after_room : length after ≤ most_held
  after_room =
      let f = c.room.few in
      let all : (x : Node) → Has (nodes_of after) x → Has f.nodes x = λ x h.
      f.whole x (elim (nodes_cases ev.held c.holds.more after x c.holds.is h) [ inl a ↦ inl a | inr b ↦ let o = (c.holds.exactly x).0 b in inr (o.0, o.1) ]) in
      let i : length (nodes_of after) ≤ length f.nodes = no_more (nodes_of after) f.nodes after_once all in
      let j : length (nodes_of after) ≡ length after = length-map after (λ e. e.node) in
      let k : length f.nodes ≤ most_held = f.few in
      omega arith

  completed_right : IsRight model after
  completed_right = record { means = after_means; own = after_own; once = after_once; closed = after_closed; room = after_room }

-- what was held is held again
same_right : (model : Model) (held after : List Entry) → IsRight model held → after ≡ held → IsRight model after
same_right model held after r e = subst (λ es. IsRight model es) (sym e) r

pub stays_right : StaysRight
stays_right model ev (Ok v) after ticks r x = completed_right model ev after ticks r x.1
stays_right model ev (Err (refusal.Fault k m line)) after ticks r x = completed_right model ev after ticks r x.1
stays_right model ev (Err (refusal.Ring ring)) after ticks r x = completed_right model ev after ticks r x.2
stays_right model ev (Err refusal.NoSuch) after ticks r x = same_right model ev.held after r x.1.same
stays_right model ev (Err refusal.WrongCount) after ticks r x = same_right model ev.held after r x.1.same
stays_right model ev (Err (refusal.TooDeep m)) after ticks r x = same_right model ev.held after r x.1
stays_right model ev (Err refusal.Full) after ticks r x = same_right model ev.held after r x.1
stays_right model ev (Err refusal.NoMemory) after ticks r x = same_right model ev.held after r x

none_among : (nodes : List Node) → ((x : Node) → Has nodes x → ⊥) → length nodes ≡ 0
none_among [] h = refl
none_among (x ∷ nodes) h = absurd (h x (inl refl))

pub value_ticks : ValueTicks
value_ticks model ev v after ticks x =
    let c : Completes model ev after ticks = x.1 in
    let l = c.are_lost in
    let i : length l.nodes ≡ 0 = none_among l.nodes (λ y h. let o = l.only y h in o.1 (reach_has_value model ev.node y o.0 (record { reply = x.0.reply; means = x.0.means }))) in
    let j : length l.nodes ≡ c.lost = l.many in
    let k : ticks + length ev.held ≡ length after + c.lost = c.runs in
    omega arith
