use Rattle.mx_parse.proofs.LongTexts.{opened_short}
use Rattle.mx_parse.proofs.limits.is_long.Goals as goal

pub returns-in-Ok-clause-short : goal.returns-in-Ok-clause-short
returns-in-Ok-clause-short c = λ _. opened_short c.args.text.now c.in-Ok.field-0.tokens c.in-Ok.field-0.words c.if-text-gt-MOST_BYTES.false c.in-Ok.ensures.opened
