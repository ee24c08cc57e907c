-- Two texts, of which the second takes the place of the first.
use Rattle.mx_model.specs.Records.{ModelRecord}

pub record Texts : Type 0 where
  pub before : ModelRecord
  pub after : ModelRecord
