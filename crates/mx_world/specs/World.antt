-- Valid texts with the table of their static paths.
use Rattle.std.specs.Prelude.{List}
use Rattle.mx_model.specs.Records.{ModelRecord}
use Rattle.mx_model.specs.Valid.{Valid}
use Rattle.mx_paths.specs.Names.{IsNamed}
use Rattle.mx_paths.specs.Table.{Row, IsTableOf}
use Rattle.mx_model.specs.Literals.{HasLiterals}

-- the text is valid, its spaces have names, the defaults of its cells are literals, and the table is that of its static paths
pub record IsWorld (text : ModelRecord) (rows : List Row) : Type 0 where
  pub valid : Valid text
  pub named : IsNamed text
  pub literals : HasLiterals text
  pub table : IsTableOf text rows
