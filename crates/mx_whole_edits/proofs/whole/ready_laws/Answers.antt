use Rattle.mx_whole_edits.proofs.ReadyLemmas.{ready_valid, valid_ready}
use Rattle.mx_whole_edits.proofs.whole.ready_laws.Goals as goal

pub returns-clause-valid : goal.returns-clause-valid
returns-clause-valid c = ready_valid

pub returns-clause-ready : goal.returns-clause-ready
returns-clause-ready c = valid_ready
