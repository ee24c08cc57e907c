use Rattle.std.proofs.Common.{◌≡◌, ◌∙◌, ap, sym}
use Rattle.mx_c3.specs.Merge.{tail}
use Rattle.mx_c3.proofs.CountLemmas.{tail_is, tail_none}
use Rattle.mx_c3.proofs.remaining.Remaining.step.Goals as goal

pub returns-in-len1-up : goal.returns-in-len1-up
returns-in-len1-up c =
    let v : c.self.inside.spaces.now ≡ c.args.self.now = cc in
    tail_is c.self.inside.spaces.now c.in-len1-up.len_at_least ∙ ap tail v

pub returns-in_default : goal.returns-in_default
returns-in_default c =
    let v : c.self.inside.spaces.now ≡ c.args.self.now = cc in
    sym v ∙ tail_none c.self.inside.spaces.now c.in_default.len_below ∙ ap tail v
