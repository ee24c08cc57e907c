use Rattle.std.proofs.Common.{◌≡◌, ◌∙◌, ◌∷◌, [], ◌++◌, length, ap, arith}
use Rattle.std.proofs.lemmas.List.{length-append}
use Rattle.mx_members.specs.Chunks.{joined}
use Rattle.mx_members.proofs.ChunkLemmas.{full_added, joined_next}
use Rattle.mx_members.proofs.chunks.Chunks.push.Goals as goal

pub invariant_of-self-2 : goal.invariant_of-self-2
invariant_of-self-2 g c =
    let cs = c.self.inside.full in
    let last = c.self.inside.last in
    let chunk = c.in_ok-to_list.field-0 in
    let one = c.in_ok-self-inside-2.field-0 in
    let is = c.in_ok-full-2.ensures ∙ c.in_ok-full.ensures ∙ ap (λ l. l ++ chunk ∷ []) c.as_slice.ensures in
    let single : one ≡ c.args.item ∷ [] = c.in_ok-self-inside-2.ensures ∙ c.in_ok-with_one-2.ensures in
    let e = ap (λ l. length l) (joined_next cs c.in_ok-full-2.full last chunk is c.in_ok-to_list.ensures one c.args.item single) in
    let more = length-append (joined cs ++ last) (c.args.item ∷ []) in
    let count = c.self.invariant.0 in
    let at_most = c.self.invariant.2 in
    let next = c.in-Some.ensures in
    let now = ap (λ l. length l) c.as_slice-last.ensures in
    let short = ap (λ l. length l) single in
    (omega arith, full_added cs c.in_ok-full-2.full last chunk is c.in_ok-to_list.ensures 64 c.self.invariant.1 (omega arith), omega arith)

pub returns-clause-ok : goal.returns-clause-ok
returns-clause-ok g c =
    let chunk = c.in_ok-to_list.field-0 in
    let one = c.in_ok-self-inside-2.field-0 in
    let is = c.in_ok-full-2.ensures ∙ c.in_ok-full.ensures ∙ ap (λ l. l ++ chunk ∷ []) c.as_slice.ensures in
    joined_next c.self.inside.full c.in_ok-full-2.full c.self.inside.last chunk is c.in_ok-to_list.ensures one c.args.item (c.in_ok-self-inside-2.ensures ∙ c.in_ok-with_one-2.ensures)
    ∙ ap (λ l. l ++ c.args.item ∷ []) c.self.view_is
