-- Laws of the definitions.
use Rattle.std.specs.Prelude.{◌↔◌, IsTrue}
use Rattle.mx_edit.specs.declared.key.Key.{Key}
use Rattle.mx_model.specs.Records.{ModelRecord}
use Rattle.mx_model.specs.Keys.{IsChanged, is_changed}

abbrev pub ChangesAreTold : Type 0
ChangesAreTold = (before after : ModelRecord) (k : Key) → IsTrue (is_changed before after k) ↔ IsChanged before after k
