use Rattle.mx_tables.proofs.Back.{table_back}
use Rattle.mx_tables.proofs.laws.tables_read_back.Goals as goal

pub returns : goal.returns
returns c = table_back
