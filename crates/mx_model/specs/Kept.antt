-- Spaces in the place of others.
use Rattle.std.specs.Prelude.{◌≡◌}
use Rattle.mx_model.specs.Records.{SpaceRecord}

-- both have the same path and bases
pub record StaysInPlace (old new : SpaceRecord) : Type 0 where
  pub path : new.path ≡ old.path
  pub bases : new.bases ≡ old.bases
