use Rattle.std.proofs.Common.{◌∙◌}
use Rattle.mx_engine.proofs.Firsts.{first_kept}
use Rattle.mx_engine.proofs.gaps.keep_first.Goals as goal

pub returns : goal.returns
returns c =
    let f = first_kept c.laws.ensures.renumbering c.laws.ensures.rolling_back c.args.count c.args.memo.now c.renumber.new.self c.roll_back_to.new.self
    c.requires.ordered c.requires.few c.renumber.ensures.held c.renumber.ensures.last c.roll_back_to.ensures.drops c.roll_back_to.ensures.last in
    record { entries = f.entries; ordered = f.ordered; begun = c.roll_back_to.ensures.begun ∙ c.renumber.ensures.begun }
