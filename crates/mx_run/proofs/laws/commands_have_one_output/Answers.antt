use Rattle.mx_commands.proofs.Alike.{one_block}
use Rattle.mx_run.proofs.Alike.{one_output, one_transcript}
use Rattle.mx_run.proofs.laws.commands_have_one_output.Goals as goal

pub returns-clause-block : goal.returns-clause-block
returns-clause-block c = one_block

pub returns-clause-output : goal.returns-clause-output
returns-clause-output c = one_output

pub returns-clause-transcript : goal.returns-clause-transcript
returns-clause-transcript c = one_transcript
