use Rattle.std.proofs.Common.{refl}
use Rattle.mx_grammar.proofs.Printable.{printable_label}
use Rattle.mx_grammar.proofs.words.label.Goals as goal

pub unreachable-requires : goal.unreachable-requires
unreachable-requires c = printable_label c.args.bytes.now c.new.result c.in-Err-NotPrintable.field-0-0 c.requires c.new.ensures.exact (rw c.in-Err-NotPrintable.is (rw c.in-Err-NotPrintable.field-0-is refl))
