use Rattle.std.proofs.Common.{◌∙◌, ◌<◌, ◌/◌, ◌%◌, slice_get, length, sym, ap, arith}
use Rattle.std.proofs.lemmas.List.{length-append}
use Rattle.mx_members.specs.Chunks.{joined}
use Rattle.mx_members.proofs.ChunkLemmas.{chunk_there, found_some, get_left}
use Rattle.mx_members.proofs.chunks.Chunks.get.Goals as goal

pub unreachable-requires : goal.unreachable-requires
unreachable-requires g c =
    let cs = c.self.inside.full in
    let at = c.args.at in
    let own = ap (λ l. length l) c.as_slice-last.ensures in
    let h : at < length (joined cs) = omega (arith, length-append (joined cs) c.self.inside.last) in
    chunk_there 64 (omega arith) cs at c.self.invariant.1 h (c.in_default.ensures ∙ ap (λ l. slice_get l (at / 64)) c.as_slice.ensures)

pub returns : goal.returns
returns g c =
    let cs = c.self.inside.full in
    let at = c.args.at in
    let own = ap (λ l. length l) c.as_slice-last.ensures in
    let h : at < length (joined cs) = omega (arith, length-append (joined cs) c.self.inside.last) in
    c.item_at-3.ensures ∙ ap (λ l. slice_get l (at % 64)) c.as_slice-2.ensures
    ∙ found_some 64 (omega arith) cs at c.in-Some.chunk.now c.self.invariant.1 (c.in-Some.ensures ∙ ap (λ l. slice_get l (at / 64)) c.as_slice.ensures)
    ∙ sym (get_left (joined cs) c.self.inside.last at h) ∙ ap (λ l. slice_get l at) c.self.view_is
