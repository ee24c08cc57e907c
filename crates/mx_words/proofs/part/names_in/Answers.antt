use Rattle.std.proofs.Common.{false, ap}
use Rattle.mx_grammar.specs.Reading.{line}
use Rattle.mx_words.specs.Parts.{PartRefused}
use Rattle.mx_words.specs.HeadParsers.{head_by}
use Rattle.mx_words.specs.Heads.{head_text}
use Rattle.mx_words.proofs.HeadRules.{by_form}
use Rattle.mx_words.proofs.PartAnswers.{failed, said, inside, refused}
use Rattle.mx_words.proofs.part.names_in.Goals as goal

pub returns-in-Err : goal.returns-in-Err
returns-in-Err c = λ ne. PartRefused.unread (c.in-Err.ensures.unread (λ e. ne (ap failed e)))

pub returns-in-Ok-head_in : goal.returns-in-Ok-head_in
returns-in-Ok-head_in c = λ ne.
    said (head_text c.args.form) (λ n. line (head_by c.args.form)) (by_form c.args.form) false c.args.part.now c.in-Ok.source.tokens c.in-Ok.source.words c.as_slice.result.now c.in-Ok.ensures.read c.as_slice.ensures c.in-Ok-head_in.target c.in-Ok-head_in.ensures

pub misplaced-requires : goal.misplaced-requires
misplaced-requires c =
    inside (head_text c.args.form) (λ n. line (head_by c.args.form)) (by_form c.args.form) false c.args.part.now c.in-Ok.source.tokens c.in-Ok.source.words c.as_slice.result.now c.in-Ok.ensures.read c.as_slice.ensures
    c.as_slice-in-Err-head_in.result.now c.as_slice-in-Err-head_in.ensures c.in-Err-head_in.trouble c.in-Err-head_in.ensures

pub returns : goal.returns
returns c = λ ne.
    refused (head_text c.args.form) (λ n. line (head_by c.args.form)) (by_form c.args.form) false c.args.part.now c.in-Ok.source.tokens c.in-Ok.source.words c.as_slice.result.now c.in-Ok.ensures.read c.as_slice.ensures
    c.args.lead c.as_slice-in-Err-head_in.result.now c.as_slice-in-Err-head_in.ensures c.in-Err-head_in.trouble c.in-Err-head_in.ensures c.misplaced.result (c.misplaced.ensures (λ e. ne (ap failed e)))
