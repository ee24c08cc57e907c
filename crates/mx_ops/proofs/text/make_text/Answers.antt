use Rattle.mx_ops.proofs.Printables.{none-unprintable}
use Rattle.mx_ops.proofs.text.make_text.Goals as goal

pub unreachable-requires : goal.unreachable-requires
unreachable-requires c =
    let h = rw (none-unprintable c.args.bytes.now c.requires) at c.in-Err-NotPrintable.ensures.exact in
    cc h
