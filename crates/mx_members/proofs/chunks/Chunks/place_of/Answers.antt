use Rattle.std.proofs.Common.{◌≡◌, ◌∙◌, ◌+◌, ◌-◌, ◌*◌, Some, None, length, slice_get, take, sym, refl, ap, arith, rules}
use Rattle.std.proofs.lemmas.List.{length-append}
use Rattle.mx_members.specs.Chunks.{joined}
use Rattle.mx_members.specs.Places.{place}
use Rattle.mx_members.proofs.MemberLemmas.{chunk_past, chunk_found, last_found, place_within}
use Rattle.mx_members.proofs.chunks.Chunks.place_of.Given as given
use Rattle.mx_members.proofs.chunks.Chunks.place_of.Goals as goal

pub loop-at-preserved : goal.loop-at-preserved
loop-at-preserved g c =
    let test = g.Q.Equivalent.equivalent c.args.key in
    chunk_past test c.as_slice-full.result.now c.loop-at.at c.in-Some.chunk.now (sym c.in-Some.ensures) c.loop-at.invariant (c.in-None.ensures ∙ ap (λ l. place test l) c.as_slice.ensures)

-- among the full chunks
found : (g : given.Over) (c : goal.In-Some-place_among g) → Some (64 * c.loop-at.at + c.in-Some-place_among.place) ≡ place (g.Q.Equivalent.equivalent c.args.key) c.args.self.now
found g c =
    let test = g.Q.Equivalent.equivalent c.args.key in
    let i = c.loop-at.at in
    let at = sym (c.in-Some.ensures ∙ ap (λ l. slice_get l i) c.as_slice-full.ensures) in
    let before = c.loop-at.invariant ∙ ap (λ l. place test (joined (take i l))) c.as_slice-full.ensures in
    let here = c.in-Some-place_among.ensures ∙ ap (λ l. place test l) c.as_slice.ensures in
    chunk_found test 64 c.self.inside.full c.self.inside.last i c.in-Some-place_among.place c.in-Some.chunk.now c.self.invariant.1 at before here
    ∙ ap (λ l. place test l) c.self.view_is

pub overflow_mul-result : goal.overflow_mul-result
overflow_mul-result g c =
    let within = place_within (g.Q.Equivalent.equivalent c.args.key) c.args.self.now _ (found g c) in
    let len = c.len.ensures in
    search rules

pub overflow_add-result : goal.overflow_add-result
overflow_add-result g c =
    let within = place_within (g.Q.Equivalent.equivalent c.args.key) c.args.self.now _ (found g c) in
    let len = c.len.ensures in
    search rules

pub returns-in-Some-place_among-clause-place : goal.returns-in-Some-place_among-clause-place
returns-in-Some-place_among-clause-place g c =
    let turned : c.loop-at.at * 64 + c.in-Some-place_among.place ≡ 64 * c.loop-at.at + c.in-Some-place_among.place = omega arith in
    ap (λ n. Some n) turned ∙ found g c

pub returns-in-Some-place_among-clause-within : goal.returns-in-Some-place_among-clause-within
returns-in-Some-place_among-clause-within g c =
    let within = place_within (g.Q.Equivalent.equivalent c.args.key) c.args.self.now _ (found g c) in
    omega arith

-- in the last chunk
found_last : (g : given.Over) (c : goal.In-Some-place_among-2 g) → Some (c.len.result - length c.as_slice-last.result.now + c.in-Some-place_among-2.place) ≡ place (g.Q.Equivalent.equivalent c.args.key) c.args.self.now
found_last g c =
    let test = g.Q.Equivalent.equivalent c.args.key in
    let cs = c.self.inside.full in
    let last = c.self.inside.last in
    let before = c.loop-at.invariant ∙ ap (λ l. place test (joined (take c.loop-at.at l))) c.as_slice-full.ensures in
    let own = ap (λ l. length l) c.as_slice-full.ensures in
    let behind = ap (λ l. length l) c.as_slice-last.ensures in
    let all = ap (λ l. length l) c.self.view_is in
    let len = c.len.ensures in
    let m : c.len.result - length c.as_slice-last.result.now ≡ length (joined cs) = omega (arith, length-append (joined cs) last) in
    let here = c.in-Some-place_among-2.ensures ∙ ap (λ l. place test l) c.as_slice-last.ensures in
    last_found test cs last c.loop-at.at (c.len.result - length c.as_slice-last.result.now) (Some c.in-Some-place_among-2.place) before (omega arith) m here
    ∙ ap (λ l. place test l) c.self.view_is

pub overflow_add-result-in-Some-place_among-2 : goal.overflow_add-result-in-Some-place_among-2
overflow_add-result-in-Some-place_among-2 g c =
    let within = place_within (g.Q.Equivalent.equivalent c.args.key) c.args.self.now _ (found_last g c) in
    let len = c.len.ensures in
    search rules

pub returns-in-Some-place_among-2-clause-place : goal.returns-in-Some-place_among-2-clause-place
returns-in-Some-place_among-2-clause-place g c = found_last g c

pub returns-in-Some-place_among-2-clause-within : goal.returns-in-Some-place_among-2-clause-within
returns-in-Some-place_among-2-clause-within g c = place_within (g.Q.Equivalent.equivalent c.args.key) c.args.self.now _ (found_last g c)

pub returns-in-None-place_among-clause-place : goal.returns-in-None-place_among-clause-place
returns-in-None-place_among-clause-place g c =
    let test = g.Q.Equivalent.equivalent c.args.key in
    let cs = c.self.inside.full in
    let before = c.loop-at.invariant ∙ ap (λ l. place test (joined (take c.loop-at.at l))) c.as_slice-full.ensures in
    let own = ap (λ l. length l) c.as_slice-full.ensures in
    let here = c.in-None-place_among.ensures ∙ ap (λ l. place test l) c.as_slice-last.ensures in
    last_found test cs c.self.inside.last c.loop-at.at (length (joined cs)) None before (omega arith) refl here ∙ ap (λ l. place test l) c.self.view_is
