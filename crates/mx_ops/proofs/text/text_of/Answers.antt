use Rattle.mx_ops.proofs.Printables.{printable-Int, printable-Fix}
use Rattle.mx_ops.proofs.text.text_of.Goals as goal

pub write_text-requires-in-Int : goal.write_text-requires-in-Int
write_text-requires-in-Int c = rw c.in-Int.is (printable-Int c.in-Int.field-0)

pub write_text-requires-in-Fix : goal.write_text-requires-in-Fix
write_text-requires-in-Fix c = rw c.in-Fix.is (printable-Fix c.in-Fix.field-0)
