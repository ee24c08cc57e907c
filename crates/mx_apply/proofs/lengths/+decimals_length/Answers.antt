use Rattle.std.proofs.Common.{sym, arith}
use Rattle.mx_print.proofs.TextLemmas.{decimals_short, decimals_last, decimals_more}
use Rattle.mx_apply.proofs.LengthLemmas.{padded_length}
use Rattle.mx_apply.proofs.lengths.+decimals_length.Goals as goal

pub returns-then-digits-le1 : goal.returns-then-digits-le1
returns-then-digits-le1 t c =
    rw (decimals_short c.args.digits c.args.number c.if-digits-le1.true) (sym (padded_length c.args.digits c.args.number))

pub returns-then-number-ne0 : goal.returns-then-number-ne0
returns-then-number-ne0 t c =
    rw (decimals_last c.args.digits c.args.number c.if-number-ne0.true) (sym (padded_length c.args.digits c.args.number))

pub returns : goal.returns
returns t c =
    rw (decimals_more c.args.digits c.args.number (omega arith) c.if-number-ne0.false) c.decimals_length.ensures
