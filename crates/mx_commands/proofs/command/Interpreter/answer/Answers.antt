use Rattle.std.proofs.Common.{◌≡◌, refl}
use Rattle.std.proofs.lemmas.Result.{on_ok_weaker}
use Rattle.mx_words.specs.declared.command.FormRefusal.TheVariants.{NoMemory}
use Rattle.mx_words.specs.Words.{every_word}
use Rattle.mx_commands.specs.Step.{refused, carried}
use Rattle.mx_commands.proofs.EditLemmas.{read_command}
use Rattle.mx_commands.proofs.command.Interpreter.answer.Goals as goal

pub carry_out-requires-clause-read : goal.carry_out-requires-clause-read
carry_out-requires-clause-read g c = read_command c.laws.ensures.edits_are_read c.args.text.now c.in-Ok.command (c.in-Ok.ensures.found (λ e. absurd cc))

pub carry_out-requires-clause-proper : goal.carry_out-requires-clause-proper
carry_out-requires-clause-proper g c = c.laws-2.ensures every_word c.args.text.now c.in-Ok.command (c.in-Ok.ensures.found (λ e. absurd cc))

pub returns-in-Ok-clause-step : goal.returns-in-Ok-clause-step
returns-in-Ok-clause-step g c = on_ok_weaker c.carry_out.result (λ does. carried c.in-Ok.command (c.in-Ok.ensures.found (λ e. absurd cc)) does c.carry_out.ensures.held) c.carry_out.ensures.done

pub returns-in-Err-clause-step : goal.returns-in-Err-clause-step
returns-in-Err-clause-step g c =
    let done = c.in_ok-push_form_block-in-Err.ensures in
    refused c.in-Err.refusal done.memory (c.in-Err.ensures.found (λ e. done.memory (let same : c.in-Err.refusal ≡ NoMemory = cc in same))) (rw c.clear.ensures.items at done.text) refl
