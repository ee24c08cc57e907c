use Rattle.std.proofs.Common.{◌≡◌, Ok, Err, ap}
use Rattle.mx_grammar.specs.declared.refusal.ParseRefusal.TheVariants.{NoMemory}
use Rattle.mx_grammar.specs.Limits.{AnswersWithin}
use Rattle.mx_parse.specs.Formulas.{formula_text}
use Rattle.mx_parse.specs.FormulaLimits.{formula_limits}
use Rattle.mx_words.proofs.PartAnswers.{failed}
use Rattle.mx_words.specs.declared.command.FormRefusal.TheVariants as form
use Rattle.mx_script.proofs.Sequels.{stops, decides, behind_head}
use Rattle.mx_script.proofs.command.definition.Goals as goal

pub returns-in-Err : goal.returns-in-Err
returns-in-Err c = λ ne. stops c.in-Err.refusal (c.in-Err.ensures (λ e. ne (let same : c.in-Err.refusal ≡ form.NoMemory = cc in ap failed same)))

pub returns-in-Ok-parse_formula : goal.returns-in-Ok-parse_formula
returns-in-Ok-parse_formula c = λ ne.
    decides c.in-Ok.target (Ok c.in-Ok-parse_formula.formula) c.defined.result (c.in-Ok.ensures (λ e. absurd cc))
    (behind_head (AnswersWithin formula_text formula_limits) c.args.text.now c.head_length-end.result (Ok c.in-Ok-parse_formula.formula) c.head_length-end.ensures.count (c.in-Ok-parse_formula.ensures.found (λ e. absurd cc))) (c.defined.ensures ne)

pub returns-in-Err-parse_formula : goal.returns-in-Err-parse_formula
returns-in-Err-parse_formula c = λ ne.
    let m = c.no_formula.ensures (λ e. ne (ap failed e)) in
    decides c.in-Ok.target (Err c.in-Err-parse_formula.refusal) (Err c.no_formula.result) (c.in-Ok.ensures (λ e. absurd cc))
    (behind_head (AnswersWithin formula_text formula_limits) c.args.text.now c.head_length-end.result (Err c.in-Err-parse_formula.refusal) c.head_length-end.ensures.count (c.in-Err-parse_formula.ensures.found (λ e. m.0 (let same : c.in-Err-parse_formula.refusal ≡ NoMemory = cc in same)))) (ap failed m.1)
