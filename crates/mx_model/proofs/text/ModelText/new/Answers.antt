use Rattle.std.proofs.Common.{◌∙◌, [], ◌∷◌, ap}
use Rattle.mx_model.specs.Records.{Path, empty_space}
use Rattle.mx_model.proofs.MemberLemmas.{begin_index}
use Rattle.mx_model.proofs.SpaceLemmas.{same_index}
use Rattle.mx_model.proofs.text.ModelText.new.Goals as goal

pub invariant_of-result : goal.invariant_of-result
invariant_of-result c =
    let path = c.in_ok-copy.ensures ∙ c.in_ok-path.ensures in
    let spaces = c.in_ok-spaces.ensures ∙ ap (λ (p : Path). empty_space p ∷ []) c.in_ok-path.ensures in
    same_index _ _ _ _ _ _ _ _ (c.in_ok-index.ensures.paths ∙ ap (λ (p : Path). p ∷ []) path) c.in_ok-index.ensures.lists c.in_ok-kinds.ensures spaces begin_index
