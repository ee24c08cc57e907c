use Rattle.std.proofs.Common.{◌≡◌, Ok, Err}
use Rattle.mx_grammar.specs.declared.refusal.ParseRefusal.TheVariants.{NoMemory}
use Rattle.mx_grammar.specs.Spelling.{Answers}
use Rattle.mx_grammar.specs.Literals.{node_text}
use Rattle.mx_script.specs.Commands.{asked_of}
use Rattle.mx_script.proofs.Sequels.{last}
use Rattle.mx_script.proofs.command.asking.Goals as goal

pub returns-in-Ok : goal.returns-in-Ok
returns-in-Ok c = λ ne.
    last {First = Answers node_text c.args.source.now} {done = asked_of c.args.asked c.args.start c.args.source.now} (Ok c.in-Ok.node) c.asked_command.result (c.in-Ok.ensures.found (λ e. absurd cc)) (c.asked_command.ensures ne)

pub returns-in-Err : goal.returns-in-Err
returns-in-Err c = λ ne.
    let m = c.asked_alone.ensures ne in
    last {First = Answers node_text c.args.source.now} {done = asked_of c.args.asked c.args.start c.args.source.now} (Err c.in-Err.refusal) c.asked_alone.result (c.in-Err.ensures.found (λ e. m.0 (let same : c.in-Err.refusal ≡ NoMemory = cc in same))) m.1
