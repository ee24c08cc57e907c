use Rattle.std.proofs.Common.{◌∙◌, List, Option, get_or, sym, subst}
use Rattle.mx_c3.specs.declared.space.SpaceId.{SpaceId}
use Rattle.mx_c3.specs.Lists.{Has}
use Rattle.mx_c3.proofs.ListLemmas.{has_at}
use Rattle.mx_model.specs.declared.lookup.Binding.{Binding}
use Rattle.mx_model.specs.Binding.{Member, own_member, first_with}
use Rattle.mx_model.specs.Lookup.{IsBinding, bound_as}
use Rattle.mx_model.proofs.LookupLemmas.{none_passed, some_taken}
use Rattle.mx_model.proofs.lookup.lookup_by.Goals as goal

abbrev first : SpaceId
first = record { 0 = 0 }

pub kind_by-requires : goal.kind_by-requires
kind_by-requires c =
    let items = c.as_slice-s-items.result.now in
    let s = get_or items c.loop-s.s-index first in
    let P : List SpaceId → Type 0 = λ xs. Has xs s in
    c.requires s (subst P c.as_slice-s-items.ensures (has_at items c.loop-s.s-index first c.loop-s-test.true))

pub returns-in-Some : goal.returns-in-Some
returns-in-Some c =
    let text = c.args.text.now in
    let name = c.args.name.now.now in
    let items = c.as_slice-s-items.result.now in
    let s = get_or items c.loop-s.s-index first in
    let P : List SpaceId → Type 0 = λ xs. Has xs s in
    let within = c.requires s (subst P c.as_slice-s-items.ensures (has_at items c.loop-s.s-index first c.loop-s-test.true)) in
    let taken = some_taken text name items c.loop-s.s-index first c.in-Some.kind c.loop-s-test.true within c.in-Some.ensures in
    let Q : Option Member → Type 0 = λ member. IsBinding text name (bound_as c.in-Some.kind s) member in
    let R : Binding → Type 0 = λ b. IsBinding text name b (first_with text (own_member text name) c.args.layers.now) in
    subst R (sym c.bound_as.ensures) (subst Q (sym c.loop-s.invariant) taken)

pub loop-s-preserved : goal.loop-s-preserved
loop-s-preserved c =
    c.loop-s.invariant ∙ none_passed c.args.text.now c.args.name.now.now c.as_slice-s-items.result.now c.loop-s.s-index first c.loop-s-test.true c.in-None.ensures
