use Rattle.std.proofs.Common.{◌≡◌, ◌∙◌, false, [], ap, sym, subst}
use Rattle.std.specs.List.{list_any}
use Rattle.indexmap.specs.IndexSet.{insert_all}
use Rattle.mx_read_set.specs.Seen.{added}
use Rattle.mx_read_set.specs.Distinct.{items_of, IsEachOnce}
use Rattle.mx_read_set.proofs.Entering.{key_added, once_more}
use Rattle.mx_read_set.proofs.distinct.enter_in.Goals as goal

pub returns-then-len-lt-FEW-clause-once : goal.returns-then-len-lt-FEW-clause-once
returns-then-len-lt-FEW-clause-once g c =
    let eq = g.T.PartialEq.eq in
    let once = subst (IsEachOnce eq) c.in-Few.is c.requires in
    let new : list_any (λ y. eq y c.args.item) c.in-Few.items.items ≡ false =
    sym (c.has_item.ensures ∙ ap (list_any (λ y. eq y c.args.item)) c.deref.ensures.value) ∙ c.if-has_item.false in
    let pushed = c.in_ok-push_few-in-Few.ensures.ok in
    ap (insert_all eq []) pushed ∙ once_more eq g.met.T.Eq.laws c.in-Few.items.items c.args.item once new ∙ sym pushed

pub returns-in-Few-clause-items : goal.returns-in-Few-clause-items
returns-in-Few-clause-items g c =
    let eq = g.T.PartialEq.eq in
    let few : items_of c.args.held.now ≡ c.in-Few.items.items = ap items_of c.in-Few.is in
    ap (λ s. s.keys) c.in_ok-new-in-Few.ensures.ok ∙ c.in_ok-set-in-Few.ensures.all
    ∙ key_added eq g.met.T.Eq.laws c.in-Few.items.items c.args.item
    ∙ ap (λ xs. added eq xs c.args.item) (sym few)
