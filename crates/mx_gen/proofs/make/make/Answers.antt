use Rattle.std.proofs.Common.{◌≡◌, ℕ, suc, ◌+◌, ◌++◌, List, ap, sym, ◌∙◌, arith}
use Rattle.mx_edit.specs.declared.edit.Edit.{Edit}
use Rattle.mx_gen.specs.Generated.{edits_of, state_at, space_edits, after_space}
use Rattle.mx_gen.proofs.make.make.Goals as goal

one_more : (seed i : ℕ) → edits_of seed (i + 1) ≡ edits_of seed i ++ space_edits i (state_at seed i)
one_more seed i = let e : i + 1 ≡ suc i = omega arith in ap (edits_of seed) e

one_further : (seed i : ℕ) → state_at seed (i + 1) ≡ after_space i (state_at seed i)
one_further seed i = let e : i + 1 ≡ suc i = omega arith in ap (state_at seed) e

pub loop-i-preserved : goal.loop-i-preserved
loop-i-preserved c = (
  c.in-Ok.ensures.edits
      ∙ ap (λ (es : List Edit). es ++ space_edits c.loop-i.i c.loop-i.draws.state) c.loop-i.invariant.0
      ∙ ap (λ (x : ℕ). edits_of c.args.seed c.loop-i.i ++ space_edits c.loop-i.i x) c.loop-i.invariant.1
      ∙ sym (one_more c.args.seed c.loop-i.i),
  c.in-Ok.ensures.state ∙ ap (after_space c.loop-i.i) c.loop-i.invariant.1 ∙ sym (one_further c.args.seed c.loop-i.i),
)

pub returns-clause-edits : goal.returns-clause-edits
returns-clause-edits c = let e : c.loop-i.i ≡ c.args.n = omega (arith, c.loop-i.auto.i-end, c.loop-i-test.false) in c.loop-i.invariant.0 ∙ ap (edits_of c.args.seed) e
