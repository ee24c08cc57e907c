use Rattle.std.proofs.Common.{Ok, Err, subst}
use Rattle.mx_script.specs.Script.{commands}
use Rattle.mx_project.specs.Folder.{model_words}
use Rattle.mx_project.specs.Reading.{Laid, OneByOne, LaysLine, UnlessFree, laid_of}
use Rattle.mx_project.proofs.model.laid_said.Goals as goal

pub returns-in-Ok-clause-lays : goal.returns-in-Ok-clause-lays
returns-in-Ok-clause-lays c = subst (λ (l : Laid). OneByOne LaysLine l (commands model_words c.args.bytes.now) (Ok (laid_of c.lay_lines.new.laid.text c.lay_lines.new.laid.tables.items))) c.in_ok-laid.ensures.nothing c.in-Ok.ensures.lays

pub returns-in-Err-clause-refused : goal.returns-in-Err-clause-refused
returns-in-Err-clause-refused c = subst (λ (l : Laid). UnlessFree (OneByOne LaysLine l (commands model_words c.args.bytes.now)) (Err c.in-Err.why)) c.in_ok-laid.ensures.nothing c.in-Err.ensures.lays
