use Rattle.std.proofs.Common.{false, ap}
use Rattle.mx_grammar.specs.Reading.{line}
use Rattle.mx_words.specs.Parts.{PartRefused}
use Rattle.mx_words.specs.HeadParsers.{worded}
use Rattle.mx_words.specs.Phrases.{phrase_text}
use Rattle.mx_words.specs.PhraseParsers.{phrase_by}
use Rattle.mx_words.proofs.PhraseRules.{phrases}
use Rattle.mx_words.proofs.PartAnswers.{failed, said, inside, refused}
use Rattle.mx_words.proofs.part.phrase.Goals as goal

pub returns-in-Err : goal.returns-in-Err
returns-in-Err c = λ ne. PartRefused.unread (c.in-Err.ensures.unread (λ e. ne (ap failed e)))

pub returns-in-Ok-phrase_in : goal.returns-in-Ok-phrase_in
returns-in-Ok-phrase_in c = λ ne.
    said (phrase_text c.args.phrase) (λ n. line (worded (phrase_by c.args.phrase n))) (phrases c.args.phrase) false c.args.text.now c.in-Ok.source.tokens c.in-Ok.source.words c.as_slice.result.now c.in-Ok.ensures.read c.as_slice.ensures c.in-Ok-phrase_in.command c.in-Ok-phrase_in.ensures

pub misplaced-requires : goal.misplaced-requires
misplaced-requires c =
    inside (phrase_text c.args.phrase) (λ n. line (worded (phrase_by c.args.phrase n))) (phrases c.args.phrase) false c.args.text.now c.in-Ok.source.tokens c.in-Ok.source.words c.as_slice.result.now c.in-Ok.ensures.read c.as_slice.ensures
    c.as_slice-in-Err-phrase_in.result.now c.as_slice-in-Err-phrase_in.ensures c.in-Err-phrase_in.trouble c.in-Err-phrase_in.ensures

pub returns : goal.returns
returns c = λ ne.
    refused (phrase_text c.args.phrase) (λ n. line (worded (phrase_by c.args.phrase n))) (phrases c.args.phrase) false c.args.text.now c.in-Ok.source.tokens c.in-Ok.source.words c.as_slice.result.now c.in-Ok.ensures.read c.as_slice.ensures
    c.args.lead c.as_slice-in-Err-phrase_in.result.now c.as_slice-in-Err-phrase_in.ensures c.in-Err-phrase_in.trouble c.in-Err-phrase_in.ensures c.misplaced.result (c.misplaced.ensures (λ e. ne (ap failed e)))
