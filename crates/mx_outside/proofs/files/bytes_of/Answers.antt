use Rattle.std.proofs.Common.{◌≡◌, ◌∙◌, sym, ap, Some, slice_index_or}
use Rattle.mx_outside.proofs.Listed.{bytes_there, bytes_nowhere}
use Rattle.mx_outside.proofs.files.bytes_of.Goals as goal

pub returns-in-Some : goal.returns-in-Some
returns-in-Some c =
    let there = bytes_there c.args.name.now c.args.files.now c.in-Some.place c.index-files-place.result (sym c.place_of.ensures ∙ c.in-Some.is) in
    let bytes : c.as_slice.result.now ≡ (slice_index_or c.args.files.now c.in-Some.place c.index-files-place.result).1.items =
    c.as_slice.ensures.value in
    ap Some bytes ∙ there

pub returns-in-None : goal.returns-in-None
returns-in-None c = bytes_nowhere c.args.name.now c.args.files.now (sym c.place_of.ensures ∙ c.in-None.is)
