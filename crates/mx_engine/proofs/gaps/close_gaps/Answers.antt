use Rattle.std.proofs.Common.{◌≡◌, length, sym, ◌∙◌, ap, arith}
use Rattle.mx_engine.proofs.Firsts.{as_many_numbered}
use Rattle.mx_engine.proofs.gaps.close_gaps.Goals as goal

pub returns : goal.returns
returns c =
    let same = c.laws.ensures.renumbering c.args.memo.now c.renumber.new.self c.requires c.renumber.ensures.held c.renumber.ensures.last in
    let many : length c.renumber.new.self.held ≡ c.renumber.new.self.last = ap length c.renumber.ensures.held ∙ as_many_numbered 0 c.args.memo.now.held ∙ sym c.renumber.ensures.last in
    record { entries = same.entries; ordered = same.ordered; few = omega (arith, many); begun = c.renumber.ensures.begun }
