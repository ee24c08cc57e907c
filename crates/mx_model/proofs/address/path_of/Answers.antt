use Rattle.std.proofs.Common.{◌≡◌, ◌∙◌, ◌<◌, List, Option, Some, None, [], ◌∷◌, ◌++◌, length, get_or, sym, ap, subst, rules}
use Rattle.mx_value.specs.declared.value.Segment.{Segment, out-Segment}
use Rattle.mx_value.specs.declared.value.Segment.TheFolds.{the_lemmas}
use Rattle.mx_model.specs.Records.{Name, Path}
use Rattle.mx_model.specs.Inputs.{name_in}
use Rattle.mx_model.proofs.AddressLemmas.{path_more, path_ends}
use Rattle.mx_model.proofs.address.path_of.Goals as goal

pub loop-segment-preserved : goal.loop-segment-preserved
loop-segment-preserved c =
    let at = c.args.at.now in
    let i = c.loop-segment.segment-index in
    let segment = c.segment-item.result in
    let name = c.in-Name.name in
    let same = c.as_slice-segment-items.ensures in
    let P : List Segment → Type 0 = λ xs. i < length xs in
    let tell = c.in-Name.is in
    let s : name_in (out-Segment segment) ≡ Some name = search (the_lemmas, rules, tell) in
    let more = path_more at i c.loop-segment.names.items segment name (subst P same c.loop-segment-test.true) c.loop-segment.invariant (c.segment-item.is ∙ ap (λ (xs : List Segment). get_or xs i segment) same) s in
    let pushed = ◌∙◌ {A = Path} c.in_ok-push-in-Name.ensures.items (ap (λ (n : Name). c.loop-segment.names.items ++ n ∷ []) c.in_ok-copy-in-Name.ensures) in
    ◌∙◌ {A = Option Path} more (ap (λ (ns : Path). Some ns) (sym pushed))

pub returns-in-Item : goal.returns-in-Item
returns-in-Item c =
    let at = c.args.at.now in
    let i = c.loop-segment.segment-index in
    let segment = c.segment-item.result in
    let same = c.as_slice-segment-items.ensures in
    let P : List Segment → Type 0 = λ xs. i < length xs in
    let tell = c.in-Item.is in
    let s : name_in (out-Segment segment) ≡ None = search (the_lemmas, rules, tell) in
    sym (path_ends at i segment (subst P same c.loop-segment-test.true) (c.segment-item.is ∙ ap (λ (xs : List Segment). get_or xs i segment) same) s)
