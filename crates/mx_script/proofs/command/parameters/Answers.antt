use Rattle.std.proofs.Common.{◌≡◌, Ok, Err, ap}
use Rattle.mx_grammar.specs.declared.refusal.ParseRefusal.TheVariants.{NoMemory}
use Rattle.mx_grammar.specs.Limits.{AnswersWithin}
use Rattle.mx_parse.specs.Formulas.{params_text}
use Rattle.mx_parse.specs.FormulaLimits.{params_limits}
use Rattle.mx_words.proofs.PartAnswers.{failed}
use Rattle.mx_words.specs.declared.command.FormRefusal.TheVariants as form
use Rattle.mx_script.proofs.Sequels.{stops, decides, behind_head}
use Rattle.mx_script.proofs.command.parameters.Goals as goal

pub returns-in-Err : goal.returns-in-Err
returns-in-Err c = λ ne. stops c.in-Err.refusal (c.in-Err.ensures (λ e. ne (let same : c.in-Err.refusal ≡ form.NoMemory = cc in ap failed same)))

pub returns-in-Ok-parametrized : goal.returns-in-Ok-parametrized
returns-in-Ok-parametrized c = λ ne.
    decides c.in-Ok.target (Ok c.in-Ok-parse_params.params) (Ok c.in-Ok-parametrized.command) (c.in-Ok.ensures (λ e. absurd cc))
    (behind_head (AnswersWithin params_text params_limits) c.args.text.now c.head_length-end.result (Ok c.in-Ok-parse_params.params) c.head_length-end.ensures.count (c.in-Ok-parse_params.ensures.found (λ e. absurd cc))) c.in-Ok-parametrized.ensures

pub returns-in-Err-parse_params : goal.returns-in-Err-parse_params
returns-in-Err-parse_params c = λ ne.
    let m = c.no_formula.ensures (λ e. ne (ap failed e)) in
    decides c.in-Ok.target (Err c.in-Err-parse_params.refusal) (Err c.no_formula.result) (c.in-Ok.ensures (λ e. absurd cc))
    (behind_head (AnswersWithin params_text params_limits) c.args.text.now c.head_length-end.result (Err c.in-Err-parse_params.refusal) c.head_length-end.ensures.count (c.in-Err-parse_params.ensures.found (λ e. m.0 (let same : c.in-Err-parse_params.refusal ≡ NoMemory = cc in same)))) (ap failed m.1)
