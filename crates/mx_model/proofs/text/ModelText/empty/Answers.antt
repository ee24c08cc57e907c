use Rattle.mx_model.proofs.MemberLemmas.{empty_index}
use Rattle.mx_model.proofs.SpaceLemmas.{same_index}
use Rattle.mx_model.proofs.text.ModelText.empty.Goals as goal

pub invariant_of-result : goal.invariant_of-result
invariant_of-result c =
    same_index _ _ _ _ _ _ _ _ c.in_ok-index.ensures.paths c.in_ok-index.ensures.lists c.new-kinds.ensures c.new-spaces.ensures empty_index
