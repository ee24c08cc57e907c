use Rattle.mx_tables.proofs.Whole.{reads_back}
use Rattle.mx_tables.proofs.laws.records_read_back.Goals as goal

pub returns : goal.returns
returns c = reads_back
