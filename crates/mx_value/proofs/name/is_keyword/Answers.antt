use Rattle.std.proofs.Common.{sym, ◌∙◌, arith}
use Rattle.mx_value.proofs.Keywords.{among, no_keyword}
use Rattle.mx_value.proofs.name.is_keyword.Goals as goal

pub returns-in-2 : goal.returns-in-2
returns-in-2 c = c.is_among.ensures ∙ among c.args.bytes.now 2 c.in-2.is

pub returns-in-3 : goal.returns-in-3
returns-in-3 c = c.is_among-in-3.ensures ∙ among c.args.bytes.now 3 c.in-3.is

pub returns-in-4 : goal.returns-in-4
returns-in-4 c = c.is_among-in-4.ensures ∙ among c.args.bytes.now 4 c.in-4.is

pub returns-in-5 : goal.returns-in-5
returns-in-5 c = c.is_among-in-5.ensures ∙ among c.args.bytes.now 5 c.in-5.is

pub returns-in-6 : goal.returns-in-6
returns-in-6 c = c.is_among-in-6.ensures ∙ among c.args.bytes.now 6 c.in-6.is

pub returns-in-7 : goal.returns-in-7
returns-in-7 c = c.is_among-in-7.ensures ∙ among c.args.bytes.now 7 c.in-7.is

pub returns-in-8 : goal.returns-in-8
returns-in-8 c = c.is_among-in-8.ensures ∙ among c.args.bytes.now 8 c.in-8.is

pub returns-in_default : goal.returns-in_default
returns-in_default c = sym (no_keyword c.args.bytes.now (omega arith) (omega arith) (omega arith) (omega arith) (omega arith) (omega arith) (omega arith))
