-- What `==` says of keys, of what they lead to, and of what it is made of.
use Rattle.std.specs.Prelude.{Bool}
use Rattle.mx_edit.specs.declared.key.Key.{Key}
use Rattle.mx_edit.specs.declared.key.KeyResult.{KeyResult}
use Rattle.mx_edit.specs.declared.reference.RefValue.{RefValue}
use Rattle.mx_edit.specs.Rows.{TableRows, rows_eq}
use Rattle.mx_edit.specs.contracts.key.KeyPartialEq.TheImpl as key
use Rattle.mx_edit.specs.contracts.key.KeyResultPartialEq.TheImpl as key_result
use Rattle.mx_edit.specs.contracts.reference.RefValuePartialEq.TheImpl as ref_value

-- `==` of each type, as contracts of std's collections name it

abbrev pub key_eq : Key → Key → Bool
key_eq = (key.ghosts).eq

abbrev pub ref_value_eq : RefValue → RefValue → Bool
ref_value_eq = (ref_value.ghosts).eq

abbrev pub table_eq : TableRows → TableRows → Bool
table_eq = rows_eq

abbrev pub key_result_eq : KeyResult → KeyResult → Bool
key_result_eq = (key_result.ghosts).eq
