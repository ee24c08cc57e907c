use Rattle.std.proofs.Common.{subst}
use Rattle.mx_model.specs.Records.{ModelRecord}
use Rattle.mx_model.specs.Indexed.{ArePlaced}
use Rattle.mx_model.proofs.text.ModelText.kinds.Goals as goal

pub returns : goal.returns
returns c =
    let P : ModelRecord → Type 0 = λ t. ArePlaced c.self.inside.kinds t in
    subst P c.self.view_is c.self.invariant.placed
