use Rattle.std.proofs.Common.{true, ap}
use Rattle.mx_grammar.specs.Reading.{line}
use Rattle.mx_words.specs.Parts.{PartRefused}
use Rattle.mx_words.specs.HeadParsers.{worded}
use Rattle.mx_words.specs.Phrases.{address_text}
use Rattle.mx_words.specs.PhraseParsers.{address_by}
use Rattle.mx_words.proofs.PhraseRules.{addresses}
use Rattle.mx_words.proofs.PartAnswers.{failed, said, inside, refused, is_read}
use Rattle.mx_words.proofs.part.address.Goals as goal

pub returns-in-Err : goal.returns-in-Err
returns-in-Err c = λ ne. PartRefused.unread (c.unread.ensures c.args.text.now c.in-Err.ensures.unread (λ e. ne (ap failed e)))

pub returns-in-Ok-address_in : goal.returns-in-Ok-address_in
returns-in-Ok-address_in c = λ ne.
    said (address_text c.args.name.now) (λ n. line (worded (address_by c.args.name.now n))) (addresses c.args.name.now) true c.args.text.now c.in-Ok.source.tokens c.in-Ok.source.words c.as_slice.result.now (is_read c.args.text.now c.in-Ok.source.tokens c.in-Ok.source.words c.in-Ok.ensures.opened) c.as_slice.ensures c.in-Ok-address_in.address c.in-Ok-address_in.ensures

pub misplaced-requires : goal.misplaced-requires
misplaced-requires c =
    inside (address_text c.args.name.now) (λ n. line (worded (address_by c.args.name.now n))) (addresses c.args.name.now) true c.args.text.now c.in-Ok.source.tokens c.in-Ok.source.words c.as_slice.result.now (is_read c.args.text.now c.in-Ok.source.tokens c.in-Ok.source.words c.in-Ok.ensures.opened) c.as_slice.ensures
    c.as_slice-in-Err-address_in.result.now c.as_slice-in-Err-address_in.ensures c.in-Err-address_in.trouble c.in-Err-address_in.ensures

pub returns : goal.returns
returns c = λ ne.
    refused (address_text c.args.name.now) (λ n. line (worded (address_by c.args.name.now n))) (addresses c.args.name.now) true c.args.text.now c.in-Ok.source.tokens c.in-Ok.source.words c.as_slice.result.now (is_read c.args.text.now c.in-Ok.source.tokens c.in-Ok.source.words c.in-Ok.ensures.opened) c.as_slice.ensures
    c.args.lead c.as_slice-in-Err-address_in.result.now c.as_slice-in-Err-address_in.ensures c.in-Err-address_in.trouble c.in-Err-address_in.ensures c.misplaced.result (c.misplaced.ensures (λ e. ne (ap failed e)))
