use Rattle.std.proofs.Common.{◌+◌, length, sym, ap, ◌∙◌}
use Rattle.std.proofs.lemmas.Result.{err_from_is_err_and}
use Rattle.mx_words.specs.HeadParsers.{worded}
use Rattle.mx_words.specs.PhraseParsers.{phrase_by}
use Rattle.mx_words.proofs.LineEnd.{line_read, line_goes_on, line_refused}
use Rattle.mx_words.proofs.phrase.phrase_in.Goals as goal

pub returns-in_err-command : goal.returns-in_err-command
returns-in_err-command c =
    let p = err_from_is_err_and c.from_residual.result c.from_residual.ensures.1 in
    let said = worded (phrase_by c.args.phrase (length c.args.words.now + 1)) in
    rw (p.1, p.2) (λ n. line_refused said c.args.words.now c.in_err-command.field-0.0 (ap said (sym c.new-left.ensures) ∙ c.in_err-command.ensures n))

pub returns-in_err-line_end : goal.returns-in_err-line_end
returns-in_err-line_end c =
    let p = err_from_is_err_and c.from_residual-in_err-line_end.result c.from_residual-in_err-line_end.ensures.1 in
    let said = worded (phrase_by c.args.phrase (length c.args.words.now + 1)) in
    rw (p.1, p.2) (λ n. line_goes_on said c.args.words.now c.in_ok-command.command c.worded.new.tokens c.in_err-line_end.field-0.0 (ap said (sym c.new-left.ensures) ∙ c.in_ok-command.ensures) (c.in_err-line_end.ensures n))

pub returns : goal.returns
returns c =
    let said = worded (phrase_by c.args.phrase (length c.args.words.now + 1)) in
    line_read said c.args.words.now c.in_ok-command.command c.worded.new.tokens c.in_ok-line_end.field-0 (ap said (sym c.new-left.ensures) ∙ c.in_ok-command.ensures) c.in_ok-line_end.ensures
