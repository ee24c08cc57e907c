use Rattle.std.proofs.lemmas.Result.{err_from_is_err_and}
use Rattle.mx_grammar.proofs.Answering.{only_unread, found_read, only_read, text_of_slice, found_refused, only_refused}
use Rattle.mx_grammar.proofs.Languages.{addresses}
use Rattle.mx_parse.proofs.parse.parse_addr.Goals as goal

pub returns-in_err-source-clause-only : goal.returns-in_err-source-clause-only
returns-in_err-source-clause-only c =
    let p = err_from_is_err_and c.from_residual.result c.from_residual.ensures.1 in
    rw (p.1, p.2) (only_unread _ _ addresses c.args.source.now c.in_err-source.field-0.0 c.in_err-source.ensures.unread)

pub returns-in-Ok-clause-found : goal.returns-in-Ok-clause-found
returns-in-Ok-clause-found c = λ _. found_read _ _ addresses c.args.source.now c.in_ok-source.source.tokens c.in_ok-source.source.words c.as_slice.result.now c.in_ok-source.ensures.opened c.as_slice.ensures c.in-Ok.addr c.in-Ok.ensures

pub returns-in-Ok-clause-only : goal.returns-in-Ok-clause-only
returns-in-Ok-clause-only c = only_read _ _ addresses c.args.source.now c.in_ok-source.source.tokens c.in_ok-source.source.words c.as_slice.result.now c.in_ok-source.ensures.opened c.as_slice.ensures c.in-Ok.addr c.in-Ok.ensures

pub refusal-requires : goal.refusal-requires
refusal-requires c = text_of_slice _ _ addresses c.args.source.now c.in_ok-source.source.tokens c.as_slice-in-Err.result.now c.in_ok-source.source.words c.as_slice.result.now c.in_ok-source.ensures.opened c.as_slice.ensures c.as_slice-in-Err.ensures c.in-Err.trouble c.in-Err.ensures

pub returns-clause-found : goal.returns-clause-found
returns-clause-found c = found_refused _ _ addresses c.args.source.now c.in_ok-source.source.tokens c.as_slice-in-Err.result.now c.in_ok-source.source.words c.as_slice.result.now c.in_ok-source.ensures.opened c.as_slice.ensures c.as_slice-in-Err.ensures c.in-Err.trouble c.in-Err.ensures c.refusal.result c.refusal.ensures

pub returns-clause-only : goal.returns-clause-only
returns-clause-only c = only_refused _ _ addresses c.args.source.now c.in_ok-source.source.tokens c.as_slice-in-Err.result.now c.in_ok-source.source.words c.as_slice.result.now c.in_ok-source.ensures.opened c.as_slice.ensures c.as_slice-in-Err.ensures c.in-Err.trouble c.in-Err.ensures c.refusal.result c.refusal.ensures
