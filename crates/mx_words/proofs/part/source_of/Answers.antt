use Rattle.std.proofs.Common.{false, sym, subst}
use Rattle.mx_words.specs.Parts.{Unreadable}
use Rattle.mx_words.proofs.part.source_of.Goals as goal

pub returns-in-Ok-clause-read : goal.returns-in-Ok-clause-read
returns-in-Ok-clause-read c = record { lexed = c.in-Ok.ensures.tokens.0; are = c.in-Ok.ensures.tokens.1; shallow = tt }

pub returns-in-Err-clause-unread : goal.returns-in-Err-clause-unread
returns-in-Err-clause-unread c = λ ne.
    let m = c.no_tokens.ensures ne in
    subst (Unreadable false c.args.lead c.args.part.now) (sym m.1) (Unreadable.lexing (c.in-Err.ensures.trouble m.0))
