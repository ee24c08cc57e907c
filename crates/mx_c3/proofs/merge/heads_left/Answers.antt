use Rattle.std.proofs.Common.{◌≡◌, Some, None, take, get_or, sym, ap, ◌∙◌}
use Rattle.mx_c3.specs.Merge.{head, heads, each_once, stands}
use Rattle.mx_c3.proofs.MergeLemmas.{heads_more_some, heads_more_none, once_pushed, once_kept}
use Rattle.mx_c3.proofs.merge.heads_left.Goals as goal
use Rattle.mx_c3.proofs.merge.heads_left.Goals.{then-not-contains+in_ok-push, else-not-contains}

pub loop-remaining-preserved-in_default : goal.loop-remaining-preserved-in_default
loop-remaining-preserved-in_default c =
    let e : head (get_or c.args.rest.now c.loop-remaining.remaining-index c.remaining-item.result) ≡ None = ap head (sym c.remaining-item.is) ∙ sym c.head.ensures ∙ c.in_default.is in
    c.loop-remaining.invariant ∙ ap each_once (sym (heads_more_none c.args.rest.now c.loop-remaining.remaining-index c.remaining-item.result c.loop-remaining-test.true e))

pub loop-remaining-preserved : goal.loop-remaining-preserved
loop-remaining-preserved c =
    let e : head (get_or c.args.rest.now c.loop-remaining.remaining-index c.remaining-item.result) ≡ Some c.in-Some.head = ap head (sym c.remaining-item.is) ∙ sym c.in-Some.ensures in
    let m = heads_more_some c.args.rest.now c.loop-remaining.remaining-index c.remaining-item.result c.in-Some.head c.loop-remaining-test.true e in
    let s : c.contains.result ≡ stands c.loop-remaining.left.items c.in-Some.head = c.contains.ensures.value ∙ ap (λ zs. stands zs c.in-Some.head) c.deref.ensures.value in
    elim c.if-not-contains.branch [
      | then-not-contains+in_ok-push w ↦
          let i = once_pushed (heads (take c.loop-remaining.remaining-index c.args.rest.now)) c.loop-remaining.left.items c.in-Some.head c.loop-remaining.invariant (sym s ∙ w.if-not-contains.true) in
          ap (λ v. v.items) w.left-is ∙ w.in_ok-push.ensures.items ∙ i ∙ ap each_once (sym m)
      | else-not-contains w ↦
          let i = once_kept (heads (take c.loop-remaining.remaining-index c.args.rest.now)) c.loop-remaining.left.items c.in-Some.head c.loop-remaining.invariant (sym s ∙ w.if-not-contains.false) in
          ap (λ v. v.items) w.left-is ∙ i ∙ ap each_once (sym m)
    ]
