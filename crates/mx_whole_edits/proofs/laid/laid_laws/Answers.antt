use Rattle.mx_whole_edits.proofs.LaidLemmas.{empty_laid, lines_told, laid_goes_on, laid_ready}
use Rattle.mx_whole_edits.proofs.laid.laid_laws.Goals as goal

pub returns-clause-empty : goal.returns-clause-empty
returns-clause-empty c = empty_laid

pub returns-clause-told : goal.returns-clause-told
returns-clause-told c = lines_told

pub returns-clause-sound : goal.returns-clause-sound
returns-clause-sound c = laid_goes_on

pub returns-clause-ready : goal.returns-clause-ready
returns-clause-ready c = laid_ready
