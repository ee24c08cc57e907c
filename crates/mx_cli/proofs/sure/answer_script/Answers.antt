use Rattle.std.proofs.Common.{arith}
use Rattle.mx_cli.proofs.SureLemmas.{whole_run}
use Rattle.mx_cli.proofs.sure.answer_script.Goals as goal

pub returns-clause-whole : goal.returns-clause-whole
returns-clause-whole c = whole_run c.args.script.items _ _ _ (c.mx_top.ensures.answered.run c.requires.asked) c.new-source.ensures.left

pub returns-clause-complete : goal.returns-clause-complete
returns-clause-complete c =
    c.mx_top.ensures.answered.complete c.requires.asked (record { script = λ rose. omega (arith, rose); files = λ rose. omega (arith, rose); output = λ rose. omega (arith, rose) }) c.args.script.items c.new-source.ensures.left
