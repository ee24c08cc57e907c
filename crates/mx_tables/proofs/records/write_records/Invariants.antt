use Rattle.std.proofs.Common.{◌≡◌, Some, map, take, false}
use Rattle.csv.specs.Records.{fields_of}
use Rattle.csv.specs.Writing.{default_writer, fields_written, has_written, text_written, writer_setup}
use Rattle.mx_tables.specs.Records.{text_of}
use Rattle.mx_tables.proofs.records.write_records.Given as goal

abbrev pub invariant-loop-row : goal.invariant-loop-row
invariant-loop-row l = record {
  setup : writer_setup l.writer ≡ default_writer;
  fields : fields_written l.writer ≡ 0;
  wrote : has_written l.writer ≡ false;
  text : text_written (λ v. Some v.items) l.writer ≡ Some (text_of (map fields_of (take l.row-index l.row-items)));
}
