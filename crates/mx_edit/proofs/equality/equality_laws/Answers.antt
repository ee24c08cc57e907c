use Rattle.mx_edit.proofs.Keys.{key_decides}
use Rattle.mx_edit.proofs.Results.{ref_value_decides, key_result_decides}
use Rattle.mx_edit.proofs.TableSames.{table_decides}
use Rattle.mx_edit.proofs.equality.equality_laws.Goals as goal

pub returns : goal.returns
returns c = record {
  key = key_decides;
  ref_value = ref_value_decides;
  table = table_decides;
  key_result = key_result_decides;
}
