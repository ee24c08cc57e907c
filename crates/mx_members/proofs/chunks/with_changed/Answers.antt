use Rattle.std.proofs.Common.{◌∙◌, ◌/◌, ◌%◌, set, length, sym, ap, subst, arith}
use Rattle.std.proofs.lemmas.Option.{slice_get_within}
use Rattle.mx_members.specs.Chunks.{joined, IsFull}
use Rattle.mx_members.proofs.ChunkLemmas.{chunk_there, place_in, changed, full_changed}
use Rattle.mx_members.proofs.chunks.with_changed.Goals as goal

pub unreachable-requires : goal.unreachable-requires
unreachable-requires g c = chunk_there 64 (omega arith) c.args.full.now c.args.at c.requires.full c.requires.within c.in_default.ensures

pub index_mut-requires : goal.index_mut-requires
index_mut-requires g c =
    let h = place_in 64 (omega arith) c.args.full.now c.args.at c.in-Some.chunk.now c.requires.full c.in-Some.ensures in
    let own = ap (λ l. length l) (c.in_ok-items.ensures ∙ c.as_slice.ensures) in
    omega arith

pub index_mut-requires-2 : goal.index_mut-requires-2
index_mut-requires-2 g c =
    let h = slice_get_within c.args.full.now (c.args.at / 64) c.in-Some.chunk.now (sym c.in-Some.ensures) in
    let own = ap (λ l. length l) c.in_ok-chunks.ensures in
    omega arith

pub returns-clause-full : goal.returns-clause-full
returns-clause-full g c =
    let at = c.args.at in
    let is = c.in_ok-chunks-2.ensures ∙ ap (λ l. set l (at % 64) c.args.item) (c.in_ok-items.ensures ∙ c.as_slice.ensures) in
    subst (λ cs. IsFull 64 (set cs (at / 64) c.in_ok-chunks-2.field-0)) (sym c.in_ok-chunks.ensures)
    (full_changed 64 (omega arith) c.args.full.now at c.args.item c.in-Some.chunk.now c.in_ok-chunks-2.field-0 c.requires.full c.in-Some.ensures is)

pub returns-clause-items : goal.returns-clause-items
returns-clause-items g c =
    let at = c.args.at in
    let is = c.in_ok-chunks-2.ensures ∙ ap (λ l. set l (at % 64) c.args.item) (c.in_ok-items.ensures ∙ c.as_slice.ensures) in
    ap (λ cs. joined (set cs (at / 64) c.in_ok-chunks-2.field-0)) c.in_ok-chunks.ensures ∙
    changed 64 (omega arith) c.args.full.now at c.args.item c.in-Some.chunk.now c.in_ok-chunks-2.field-0 c.requires.full c.in-Some.ensures is
