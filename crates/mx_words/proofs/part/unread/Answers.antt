use Rattle.std.proofs.Common.{ℕ, true, refl, sym, subst}
use Rattle.mx_grammar.specs.declared.refusal.ParseRefusal.TheVariants.{TooNested}
use Rattle.mx_words.specs.declared.command.FormRefusal.TheVariants.{Parse}
use Rattle.mx_words.specs.Parts.{Unreadable}
use Rattle.mx_words.proofs.PartAnswers.{unread_lex, unread_nested}
use Rattle.mx_words.proofs.part.unread.Goals as goal

pub returns-in-Lex : goal.returns-in-Lex
returns-in-Lex c = λ part h ne.
    let m = c.no_tokens.ensures ne in
    subst (Unreadable true c.args.lead part) (sym m.1) (Unreadable.lexing (unread_lex part c.args.refusal c.in-Lex.trouble c.in-Lex.is h))

pub returns-in-Ok : goal.returns-in-Ok
returns-in-Ok c = λ part h ne.
    subst (λ (n : ℕ). Unreadable true c.args.lead part (Parse (TooNested n))) (sym c.in-Ok.ensures) (Unreadable.nested refl (unread_nested part c.args.refusal c.in-TooNested.place c.in-TooNested.is h))
