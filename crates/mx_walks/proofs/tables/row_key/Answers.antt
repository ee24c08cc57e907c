use Rattle.std.proofs.Common.{◌∙◌}
use Rattle.mx_walks.proofs.Indexing.{whole_key, decimal_key}
use Rattle.mx_walks.proofs.tables.row_key.Goals as goal

pub returns-in-Fix : goal.returns-in-Fix
returns-in-Fix c = c.whole_part.ensures ∙ decimal_key c.args.value.now c.in-Fix.x c.in-Fix.is

pub returns-in_default : goal.returns-in_default
returns-in_default c = c.whole_of.ensures ∙ whole_key c.args.value.now c.in_default.not-Fix
