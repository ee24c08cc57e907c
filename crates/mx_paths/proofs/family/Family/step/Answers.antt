use Rattle.std.proofs.Common.{◌≡◌, ◌∙◌, sym, ap}
use Rattle.mx_paths.specs.Siblings.{others}
use Rattle.mx_paths.proofs.SiblingLemmas.{others_is, no_others}
use Rattle.mx_paths.proofs.family.Family.step.Goals as goal

pub returns-in-len1-up : goal.returns-in-len1-up
returns-in-len1-up c =
    let v : c.self.inside.children.now ≡ c.args.self.now = cc in
    others_is c.self.inside.children.now c.in-len1-up.len_at_least ∙ ap others v

pub returns-in_default : goal.returns-in_default
returns-in_default c =
    let v : c.self.inside.children.now ≡ c.args.self.now = cc in
    sym v ∙ no_others c.self.inside.children.now c.in_default.len_below ∙ ap others v
