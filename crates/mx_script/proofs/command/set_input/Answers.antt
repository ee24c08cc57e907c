use Rattle.std.proofs.Common.{◌≡◌, Ok, Err, refl, ap}
use Rattle.mx_grammar.specs.declared.refusal.ParseRefusal.TheVariants.{NoMemory}
use Rattle.mx_grammar.specs.Spelling.{Answers}
use Rattle.mx_grammar.specs.Literals.{literal_text}
use Rattle.mx_script.specs.Commands.{input_of}
use Rattle.mx_words.proofs.PartAnswers.{failed}
use Rattle.mx_script.proofs.Sequels.{last}
use Rattle.mx_script.proofs.command.set_input.Goals as goal

pub returns-in-Ok : goal.returns-in-Ok
returns-in-Ok c = λ ne.
    last {First = Answers literal_text c.args.literal.now} {done = input_of c.args.space c.args.name c.args.args} (Ok c.in-Ok.value) _ (c.in-Ok.ensures.found (λ e. absurd cc)) refl

pub returns-in-Err : goal.returns-in-Err
returns-in-Err c = λ ne.
    let m = c.no_formula.ensures (λ e. ne (ap failed e)) in
    last {First = Answers literal_text c.args.literal.now} {done = input_of c.args.space c.args.name c.args.args} (Err c.in-Err.refusal) (Err c.no_formula.result) (c.in-Err.ensures.found (λ e. m.0 (let same : c.in-Err.refusal ≡ NoMemory = cc in same))) (ap failed m.1)
