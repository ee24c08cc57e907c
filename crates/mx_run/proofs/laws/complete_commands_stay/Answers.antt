use Rattle.mx_run.proofs.ScriptLemmas.{complete_grow, commands_begin}
use Rattle.mx_run.proofs.laws.complete_commands_stay.Goals as goal

pub returns-clause-more : goal.returns-clause-more
returns-clause-more c = complete_grow

pub returns-clause-whole : goal.returns-clause-whole
returns-clause-whole c = commands_begin
