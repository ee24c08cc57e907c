-- Laws of the text of a new model.
use Rattle.mx_model.specs.Records.{beginning}
use Rattle.mx_model.specs.Valid.{Valid}
use Rattle.mx_paths.specs.Names.{IsNamed}

abbrev pub BeginningIsValid : Type 0
BeginningIsValid = Valid beginning

abbrev pub BeginningIsNamed : Type 0
BeginningIsNamed = IsNamed beginning
