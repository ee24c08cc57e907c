use Rattle.std.proofs.Common.{◌∙◌, List, get_or, sym, subst}
use Rattle.mx_c3.specs.declared.space.SpaceId.{SpaceId}
use Rattle.mx_c3.specs.Lists.{Has}
use Rattle.mx_c3.proofs.ListLemmas.{has_at}
use Rattle.mx_model.specs.Records.{SpaceRecord}
use Rattle.mx_model.proofs.LookupLemmas.{first_passed, first_taken}
use Rattle.mx_model.proofs.lookup.first_params.Goals as goal

abbrev first : SpaceId
first = record { 0 = 0 }

pub compiled_params-requires : goal.compiled_params-requires
compiled_params-requires c =
    let items = c.as_slice-s-items.result.now in
    let s = get_or items c.loop-s.s-index first in
    let P : List SpaceId → Type 0 = λ xs. Has xs s in
    c.requires s (subst P c.as_slice-s-items.ensures (has_at items c.loop-s.s-index first c.loop-s-test.true))

pub returns-in-Some : goal.returns-in-Some
returns-in-Some c =
    let own = λ (s : SpaceRecord). s.params in
    sym (c.loop-s.invariant ∙ first_taken c.args.text.now own c.as_slice-s-items.result.now c.loop-s.s-index first c.in-Some.params.now c.loop-s-test.true (sym c.in-Some.ensures))

pub loop-s-preserved : goal.loop-s-preserved
loop-s-preserved c =
    let own = λ (s : SpaceRecord). s.params in
    c.loop-s.invariant ∙ first_passed c.args.text.now own c.as_slice-s-items.result.now c.loop-s.s-index first c.loop-s-test.true (sym c.in_default.ensures)
