use Rattle.std.proofs.Common.{◌≡◌, ◌∙◌, ◌<◌, ◌≤◌, ◌++◌, ◌∷◌, [], ℕ, List, Some, take, length, get_or, sym, ap, subst, arith}
use Rattle.std.proofs.lemmas.List.{take_all, take_more}
use Rattle.mx_value.specs.declared.label.Label.{Label}
use Rattle.mx_value.specs.declared.value.Segment.{Segment}
use Rattle.mx_model.specs.Inputs.{path_of}
use Rattle.mx_model.proofs.AddressLemmas.{path_more}
use Rattle.mx_walks.proofs.near.are_names.Goals as goal

pub loop-place-preserved : goal.loop-place-preserved
loop-place-preserved c =
    let at = c.args.segments.now in
    let names = c.args.names.now in
    let i = c.loop-place.place in
    let name = c.index-names-place.result in
    let within : i < length names = subst (λ n. i < n) c.if-segments-names.false c.loop-place-test.true in
    path_more at i (take i names) c.index-segments-place.result name c.loop-place-test.true c.loop-place.invariant c.index-segments-place.is (c.is_name.ensures c.if-not-is_name.false)
    ∙ ap (λ (ns : List Label). Some ns) (ap (λ (n : Label). take i names ++ n ∷ []) c.index-names-place.is ∙ sym (take_more names i name within))

pub returns : goal.returns
returns c = λ _.
    let at = c.args.segments.now in
    let names = c.args.names.now in
    let i = c.loop-place.place in
    let past : length names ≤ i = subst (λ n. n ≤ i) c.if-segments-names.false c.loop-place-test.false in
    ap path_of (sym (take_all i at c.loop-place-test.false)) ∙ c.loop-place.invariant ∙ ap (λ (ns : List Label). Some ns) (take_all i names past)
