-- Two evaluations from what is held alike end alike.
use Rattle.std.proofs.Common.{◌≡◌, ℕ, ◌+◌, ◌≤◌, List, ◌++◌, length, Result, Ok, Err, inl, inr, refl, sym, ap, subst, arith, length-append}
use Rattle.std.proofs.lemmas.List.{length-map}
use Rattle.mx_value.specs.declared.node.Node.{Node}
use Rattle.mx_value.specs.declared.value.Value.{Value as Values}
use Rattle.mx_value.specs.declared.refusal.EvalRefusal.{EvalRefusal}
use Rattle.mx_value.specs.declared.refusal.EvalRefusal.TheVariants as refusal
use Rattle.mx_edit.specs.Entry.{Entry}
use Rattle.mx_runs.specs.Lists.{Has}
use Rattle.mx_runs.specs.Runs.{Model, Gives}
use Rattle.mx_runs.specs.Meaning.{Means}
use Rattle.mx_runs.proofs.Lists.{has_cases, no_more}
use Rattle.mx_runs.proofs.Levels.{same_value}
use Rattle.mx_answers.specs.Held.{nodes_of, IsKnown, HoldsMore, HoldAlike}
use Rattle.mx_answers.specs.Answers.{Evaluation, Answer, AreLost, HasRoom, Completes, IsSettled}
use Rattle.mx_answers.specs.Laws.{EndAlike, OneStep, RightIsAlike}
use Rattle.mx_answers.proofs.Held.{nodes_grow, nodes_added, nodes_cases, named}
use Rattle.mx_answers.proofs.Unique.{rests, with_room, same_answer}

pub right_alike : RightIsAlike
right_alike model held r = record {
  nodes = λ x. ((λ h. h), (λ h. h));
  replies = λ d e h k i. same_value model e.node d.reply e.reply (subst (λ n. Means model n (Gives d.reply)) i (r.means d h)) (r.means e k);
  many = refl;
}

alike_back : (held others : List Entry) → HoldAlike held others → HoldAlike others held
alike_back held others a = record {
  nodes = λ x. ((a.nodes x).1, (a.nodes x).0);
  replies = λ d e h k i. sym (a.replies e d k h (sym i));
  many = sym a.many;
}

lost_alike : (model : Model) (n : Node) (j k : ℕ) → AreLost model n j → AreLost model n k → j ≡ k
lost_alike model n j k a b =
    let le : length a.nodes ≤ length b.nodes = no_more a.nodes b.nodes a.distinct (λ x h. let o = a.only x h in b.whole x o.0 o.1) in
    let ge : length b.nodes ≤ length a.nodes = no_more b.nodes a.nodes b.distinct (λ x h. let o = b.only x h in a.whole x o.0 o.1) in
    let i : length a.nodes ≡ j = a.many in
    let l : length b.nodes ≡ k = b.many in
    omega arith

-- two lists of the nodes that are newly held
module _ (model : Model) (n : Node) (held others after last : List Entry) (alike : HoldAlike held others) (g : HoldsMore model held n after) (h : HoldsMore model others n last) where
  new_across : (x : Node) → Has (nodes_of g.more) x → Has (nodes_of h.more) x
  new_across x i = let o = (g.exactly x).0 i in (h.exactly x).1 (o.0, o.1, λ k. o.2 ((alike.nodes x).1 k))

  all_across : (x : Node) → Has (nodes_of after) x → Has (nodes_of last) x
  all_across x i =
      elim (nodes_cases held g.more after x g.is i) [
        | inl a ↦ nodes_grow others h.more last x h.is ((alike.nodes x).0 a)
        | inr b ↦ nodes_added others h.more last x h.is (new_across x b)
      ]

  no_fewer : length g.more ≤ length h.more
  no_fewer =
      let i : length (nodes_of g.more) ≤ length (nodes_of h.more) = no_more (nodes_of g.more) (nodes_of h.more) g.once new_across in
      let j : length (nodes_of g.more) ≡ length g.more = length-map g.more (λ e. e.node) in
      let k : length (nodes_of h.more) ≡ length h.more = length-map h.more (λ e. e.node) in
      omega arith

  -- an entry that was held and one that is new are of two nodes
  not_old : (d e : Entry) → Has held d → Has h.more e → d.node ≡ e.node → ⊥
  not_old d e i j s =
      let o = (h.exactly e.node).0 (named h.more e j) in
      o.2 (subst (λ x. Has (nodes_of others) x) s ((alike.nodes d.node).0 (named held d i)))

  new_replies : (d e : Entry) → Has g.more d → Has h.more e → d.node ≡ e.node → d.reply ≡ e.reply
  new_replies d e i j s = same_value model e.node d.reply e.reply (subst (λ x. Means model x (Gives d.reply)) s (g.means d i)) (h.means e j)

more_alike : (model : Model) (n : Node) (held others after last : List Entry) → HoldAlike held others → HoldsMore model held n after → HoldsMore model others n last → HoldAlike after last
more_alike model n held others after last alike g h =
    let back : HoldAlike others held = alike_back held others alike in
    record {
      nodes = λ x. (all_across model n held others after last alike g h x, all_across model n others held last after back h g x);
      replies = λ d e i j s. elim (has_cases held g.more d (subst (λ es. Has es d) g.is i)) [
        | inl a ↦ elim (has_cases others h.more e (subst (λ es. Has es e) h.is j)) [
          | inl b ↦ alike.replies d e a b s
          | inr b ↦ absurd (not_old model n held others after last alike g h d e a b s)
        ]
        | inr a ↦ elim (has_cases others h.more e (subst (λ es. Has es e) h.is j)) [
          | inl b ↦ absurd (not_old model n others held last after back h g e d b a (sym s))
          | inr b ↦ new_replies model n held others after last alike g h d e a b s
        ]
      ];
      many =
          let le : length g.more ≤ length h.more = no_fewer model n held others after last alike g h in
          let ge : length h.more ≤ length g.more = no_fewer model n others held last after back h g in
          let i : length held ≡ length others = alike.many in
          let j : length after ≡ length (held ++ g.more) = ap length g.is in
          let k : length last ≡ length (others ++ h.more) = ap length h.is in
          omega (arith, length-append held g.more, length-append others h.more);
    }

-- what was held is held again
stayed_alike : (held others after last : List Entry) → HoldAlike held others → after ≡ held → last ≡ others → HoldAlike after last
stayed_alike held others after last alike e f = subst (λ es. HoldAlike es last) (sym e) (subst (λ es. HoldAlike held es) (sym f) alike)

abbrev from_others : Evaluation → List Entry → Evaluation
from_others ev others = record ev { held = others }

module _ (model : Model) (ev : Evaluation) (others : List Entry) (alike : HoldAlike ev.held others) where
  known_back : (x : Node) → IsKnown model (nodes_of ev.held) x → IsKnown model (nodes_of others) x
  known_back x k = elim k [ inl a ↦ inl ((alike.nodes x).0 a) | inr b ↦ inr b ]

  -- no chain is too deep over the one that is not over the other, and no more nodes are counted
  room_across : HasRoom model ev → HasRoom model (from_others ev others)
  room_across h = record {
    shallow = λ m d. h.shallow m (record { chain = d.chain; long = d.long; begins = d.begins; first = d.first; unknown = λ x i k. d.unknown x i (known_back x k) });
    few = record { nodes = h.few.nodes; few = h.few.few; whole = λ x i. h.few.whole x (elim i [ inl a ↦ inl ((alike.nodes x).1 a) | inr b ↦ inr b ]) };
  }

  completed : (a : Result Values EvalRefusal) (after last : List Entry) (ticks runs : ℕ) → Completes model ev after ticks → Completes model (from_others ev others) last runs → EndAlike a a after last ticks runs
  completed a after last ticks runs x y =
      let l : HoldAlike after last = more_alike model ev.node ev.held others after last alike x.holds y.holds in
      record {
        same = refl;
        alike = l;
        began = λ _ _.
            let e : x.lost ≡ y.lost = lost_alike model ev.node x.lost y.lost x.are_lost y.are_lost in
            let i : length ev.held ≡ length others = alike.many in
            let j : length after ≡ length last = l.many in
            let p : ticks + length ev.held ≡ length after + x.lost = x.runs in
            let q : runs + length others ≡ length last + y.lost = y.runs in
            omega arith;
      }

  end_alike : (a : Result Values EvalRefusal) (after last : List Entry) (ticks runs : ℕ) → IsSettled a → Answer model ev a after ticks → Answer model (from_others ev others) a last runs → EndAlike a a after last ticks runs
  end_alike (Ok v) after last ticks runs i x y = completed (Ok v) after last ticks runs x.1 y.1
  end_alike (Err (refusal.Fault k m line)) after last ticks runs i x y = completed (Err (refusal.Fault k m line)) after last ticks runs x.1 y.1
  end_alike (Err (refusal.Ring ring)) after last ticks runs i x y = completed (Err (refusal.Ring ring)) after last ticks runs x.2 y.2
  end_alike (Err refusal.NoSuch) after last ticks runs i x y = record { same = refl; alike = stayed_alike ev.held others after last alike x.1.same y.1.same; began = λ h _. absurd (h refl) }
  end_alike (Err refusal.WrongCount) after last ticks runs i x y = record { same = refl; alike = stayed_alike ev.held others after last alike x.1.same y.1.same; began = λ _ h. absurd (h refl) }
  end_alike (Err (refusal.TooDeep m)) after last ticks runs i x y = absurd i
  end_alike (Err refusal.Full) after last ticks runs i x y = absurd i
  end_alike (Err refusal.NoMemory) after last ticks runs i x y = absurd i

pub one_step : OneStep
one_step model ev others a b after last ticks runs alike x y i k =
    let fv : Evaluation = from_others ev others in
    let over = rests model ev a after ticks x i in
    let j : IsSettled b = with_room model (from_others ev others) b last runs y (room_across model ev others alike over.1) k in
    let under = rests model (from_others ev others) b last runs y j in
    let same : a ≡ b = same_answer model ev.node a b over.0 under.0 in
    let z : Answer model (from_others ev others) a last runs = subst (λ (c : Result Values EvalRefusal). Answer model (from_others ev others) c last runs) (sym same) y in
    subst (λ (c : Result Values EvalRefusal). EndAlike a c after last ticks runs) same (end_alike model ev others alike a after last ticks runs i x z)
