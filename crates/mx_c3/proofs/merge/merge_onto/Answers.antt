use Rattle.std.proofs.Common.{◌≡◌, ◌<◌, ◌++◌, [], true, false, Some, None, Ok, Err, vec_len, length, take, drop, refl, sym, ap, subst, ◌∙◌, arith}
use Rattle.std.proofs.lemmas.Bool.{eqb-true, eq-eqb}
use Rattle.std.proofs.lemmas.List.{append-nil}
use Rattle.mx_c3.specs.Merge.{next, heads, each_once, in_tail, size, merge, put, put_all, without_all}
use Rattle.mx_c3.specs.Counts.{IsCounted}
use Rattle.mx_c3.proofs.ListLemmas.{none_long}
use Rattle.mx_c3.proofs.CountLemmas.{written, zeros_left}
use Rattle.mx_c3.proofs.MergeLemmas.{next_free, size_less, merge_some, merge_none, stop_done, stop_blocked, put_all_push, put_all_ok, put_all_err, once_none}
use Rattle.mx_c3.proofs.merge.merge_onto.Goals as goal

pub loop-space-init : goal.loop-space-init
loop-space-init c = record {
  counted = subst (λ zs. IsCounted zs c.in_ok-counts.counts.items) c.deref.ensures.value c.in_ok-counts.ensures;
  same = refl;
}

pub take-requires-clause-free : goal.take-requires-clause-free
take-requires-clause-free c =
    let n : next c.loop-space.rest.items ≡ Some c.in-Some.space = ap next (sym c.deref-in-loop-space.ensures.value) ∙ sym c.in-Some.ensures in
    ap (λ zs. in_tail zs c.in-Some.space) c.deref_mut.ensures.value ∙ next_free c.loop-space.rest.items c.in-Some.space n

pub loop-space-smaller : goal.loop-space-smaller
loop-space-smaller c =
    let n : next c.loop-space.rest.items ≡ Some c.in-Some.space = ap next (sym c.deref-in-loop-space.ensures.value) ∙ sym c.in-Some.ensures in
    let l : length c.take.new.rest ≡ c.loop-space.rest.len = omega (arith, c.deref_mut.ensures.len) in
    let e = written c.loop-space.rest.len c.take.new.rest (drop (length c.take.new.rest) c.loop-space.rest.items) l in
    let r : c.take.new.rest ≡ without_all c.in-Some.space c.loop-space.rest.items = c.take.ensures.removed ∙ ap (without_all c.in-Some.space) c.deref_mut.ensures.value in
    subst (λ zs. size zs < size c.loop-space.rest.items) (sym (e ∙ r)) (size_less c.loop-space.rest.items c.in-Some.space n)

pub loop-space-preserved : goal.loop-space-preserved
loop-space-preserved c =
    let n : next c.loop-space.rest.items ≡ Some c.in-Some.space = ap next (sym c.deref-in-loop-space.ensures.value) ∙ sym c.in-Some.ensures in
    let l : length c.take.new.rest ≡ c.loop-space.rest.len = omega (arith, c.deref_mut.ensures.len) in
    let e = written c.loop-space.rest.len c.take.new.rest (drop (length c.take.new.rest) c.loop-space.rest.items) l in
    let k : length c.take.new.counts ≡ c.loop-space.counts.len = omega (arith, c.deref_mut-in-Some.ensures.len) in
    let f = written c.loop-space.counts.len c.take.new.counts (drop (length c.take.new.counts) c.loop-space.counts.items) k in
    let r : c.take.new.rest ≡ without_all c.in-Some.space c.loop-space.rest.items = c.take.ensures.removed ∙ ap (without_all c.in-Some.space) c.deref_mut.ensures.value in
    record {
      counted = subst (λ zs. IsCounted zs (take c.loop-space.counts.len (c.take.new.counts ++ drop (length c.take.new.counts) c.loop-space.counts.items))) (sym e) (subst (λ ks. IsCounted c.take.new.rest ks) (sym f) c.take.ensures.counted);
      same =
          ap (λ os. put_all os (merge (take c.loop-space.rest.len (c.take.new.rest ++ drop (length c.take.new.rest) c.loop-space.rest.items)))) c.in_ok-push.ensures.items
          ∙ put_all_push c.loop-space.order.items c.in-Some.space (merge (take c.loop-space.rest.len (c.take.new.rest ++ drop (length c.take.new.rest) c.loop-space.rest.items)))
          ∙ ap (λ zs. put_all c.loop-space.order.items (put c.in-Some.space (merge zs))) (e ∙ r)
          ∙ ap (put_all c.loop-space.order.items) (sym (merge_some c.loop-space.rest.items c.in-Some.space n))
          ∙ c.loop-space.invariant.same;
    }

pub put-requires : goal.put-requires
put-requires c =
    let l : c.in_ok-left.left.items ≡ each_once (heads c.loop-space.rest.items) = c.in_ok-left.ensures ∙ ap (λ zs. each_once (heads zs)) c.deref-2.ensures.value in
    let z : vec_len c.in_ok-left.left ≡ 0 = eqb-true (vec_len c.in_ok-left.left) 0 (sym c.is_empty.ensures ∙ c.if-is_empty.true) in
    let e : c.in_ok-left.left.items ≡ [] = none_long c.in_ok-left.left.items (omega arith) in
    zeros_left c.loop-space.rest.items c.loop-space.counts.items c.loop-space.invariant.counted (once_none (heads c.loop-space.rest.items) (sym l ∙ e))

pub returns-then-is_empty : goal.returns-then-is_empty
returns-then-is_empty c =
    let n : next c.loop-space.rest.items ≡ None = ap next (sym c.deref-in-loop-space.ensures.value) ∙ sym c.next_head.ensures ∙ c.in_default.is in
    let l : c.in_ok-left.left.items ≡ each_once (heads c.loop-space.rest.items) = c.in_ok-left.ensures ∙ ap (λ zs. each_once (heads zs)) c.deref-2.ensures.value in
    let z : vec_len c.in_ok-left.left ≡ 0 = eqb-true (vec_len c.in_ok-left.left) 0 (sym c.is_empty.ensures ∙ c.if-is_empty.true) in
    let e : c.in_ok-left.left.items ≡ [] = none_long c.in_ok-left.left.items (omega arith) in
    sym c.loop-space.invariant.same
    ∙ ap (put_all c.loop-space.order.items) (merge_none c.loop-space.rest.items n ∙ stop_done (heads c.loop-space.rest.items) (sym l ∙ e))
    ∙ put_all_ok c.loop-space.order.items []
    ∙ ap Ok (append-nil c.loop-space.order.items ∙ sym c.in_ok-from_vec.ensures)

pub returns : goal.returns
returns c =
    let n : next c.loop-space.rest.items ≡ None = ap next (sym c.deref-in-loop-space.ensures.value) ∙ sym c.next_head.ensures ∙ c.in_default.is in
    let l : c.in_ok-left.left.items ≡ each_once (heads c.loop-space.rest.items) = c.in_ok-left.ensures ∙ ap (λ zs. each_once (heads zs)) c.deref-2.ensures.value in
    sym c.loop-space.invariant.same
    ∙ ap (put_all c.loop-space.order.items) (merge_none c.loop-space.rest.items n ∙ stop_blocked (heads c.loop-space.rest.items) (λ e.
    let z : length c.in_ok-left.left.items ≡ 0 = ap length (l ∙ e) in
    let y : vec_len c.in_ok-left.left ≡ 0 = omega arith in
    let t : c.is_empty.result ≡ true = c.is_empty.ensures ∙ eq-eqb (vec_len c.in_ok-left.left) 0 y in
    let f : c.is_empty.result ≡ false = c.if-is_empty.false in
    absurd cc))
    ∙ put_all_err c.loop-space.order.items (each_once (heads c.loop-space.rest.items))
    ∙ ap Err (sym l ∙ sym c.from_vec-2.ensures)
