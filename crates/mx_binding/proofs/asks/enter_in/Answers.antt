use Rattle.std.proofs.Common.{◌≡◌, ◌==◌, ◌∙◌, Bool, false, IfSome, List, [], map, nat_eq, ap, sym, subst}
use Rattle.std.specs.List.{list_any}
use Rattle.indexmap.specs.IndexSet.{insert_all}
use Rattle.mx_graph.specs.declared.ids.NodeId.{NodeId}
use Rattle.mx_vertices.specs.Reading.{id_at}
use Rattle.mx_binding.proofs.Asking.{still_once, stays, grows}
use Rattle.mx_binding.proofs.asks.enter_in.Goals as goal

pub returns-in_err-places_of-in-None-clause-once :
    goal.returns-in_err-places_of-in-None-clause-once
returns-in_err-places_of-in-None-clause-once c =
    let any : List NodeId → Bool = list_any (λ (a : NodeId). a.at == c.args.id.at) in
    let new : any c.args.ids.now.items ≡ false = sym (c.has_id.ensures ∙ ap any c.deref.ensures.value) ∙ c.if-has_id.false in
    still_once c.args.ids.now.items c.args.id c.push.new.self.items c.requires.once new c.in_ok-push-in-None.ensures.items

pub returns-in_ok-places_of-in-None-clause-once : goal.returns-in_ok-places_of-in-None-clause-once
returns-in_ok-places_of-in-None-clause-once c =
    let any : List NodeId → Bool = list_any (λ (a : NodeId). a.at == c.args.id.at) in
    let new : any c.args.ids.now.items ≡ false = sym (c.has_id.ensures ∙ ap any c.deref.ensures.value) ∙ c.if-has_id.false in
    still_once c.args.ids.now.items c.args.id c.push.new.self.items c.requires.once new c.in_ok-push-in-None.ensures.items

pub returns-in_ok-places_of-in-None-clause-places :
    goal.returns-in_ok-places_of-in-None-clause-places
returns-in_ok-places_of-in-None-clause-places c =
    let any : List NodeId → Bool = list_any (λ (a : NodeId). a.at == c.args.id.at) in
    let new : any c.args.ids.now.items ≡ false = sym (c.has_id.ensures ∙ ap any c.deref.ensures.value) ∙ c.if-has_id.false in
    c.in_ok-places_of-in-None.ensures
    ∙ ap (λ (ids : List NodeId). insert_all nat_eq [] (map id_at ids)) c.deref-then-len-gt-FEW.ensures.value
    ∙ still_once c.args.ids.now.items c.args.id c.push.new.self.items c.requires.once new c.in_ok-push-in-None.ensures.items

pub returns-else-len-gt-FEW-clause-once : goal.returns-else-len-gt-FEW-clause-once
returns-else-len-gt-FEW-clause-once c =
    let any : List NodeId → Bool = list_any (λ (a : NodeId). a.at == c.args.id.at) in
    let new : any c.args.ids.now.items ≡ false = sym (c.has_id.ensures ∙ ap any c.deref.ensures.value) ∙ c.if-has_id.false in
    still_once c.args.ids.now.items c.args.id c.push.new.self.items c.requires.once new c.in_ok-push-in-None.ensures.items

pub returns-then-not-is_new-clause-ids : goal.returns-then-not-is_new-clause-ids
returns-then-not-is_new-clause-ids c =
    let found : c.in-Some.found.value.keys ≡ map id_at c.args.ids.now.items =
    subst (λ p. IfSome p (λ set. set.value.keys ≡ map id_at c.args.ids.now.items)) c.in-Some.is c.requires.places in
    sym (stays c.args.ids.now.items c.args.id c.deref_mut.result.now.keys (ap (λ s. s.keys) c.deref_mut.ensures.value ∙ found) c.index.result c.index.ensures
    c.in_ok-is_new-in-Some.is_new c.in_ok-is_new-in-Some.ensures.added c.if-not-is_new.true)

pub returns-in-Some-clause-ids : goal.returns-in-Some-clause-ids
returns-in-Some-clause-ids c =
    let found : c.in-Some.found.value.keys ≡ map id_at c.args.ids.now.items =
    subst (λ p. IfSome p (λ set. set.value.keys ≡ map id_at c.args.ids.now.items)) c.in-Some.is c.requires.places in
    c.in-Ok.ensures.items
    ∙ sym (grows c.args.ids.now.items c.args.id c.deref_mut.result.now.keys (ap (λ s. s.keys) c.deref_mut.ensures.value ∙ found) c.index.result c.index.ensures
    c.in_ok-is_new-in-Some.is_new c.in_ok-is_new-in-Some.ensures.added c.if-not-is_new.false)
