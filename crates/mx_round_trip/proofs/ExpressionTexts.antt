-- A text of one expression, read back.
use Rattle.std.proofs.Common.{◌≡◌, ℕ, zero, suc, List, [], ◌∷◌, ◌++◌, Some, sym, ◌∙◌, subst, append_assoc, arith}
use Rattle.mx_syntax.specs.declared.expr.Expr.{Expr}
use Rattle.mx_print.specs.Expressions.{at, printed}
use Rattle.mx_grammar.specs.declared.word.Word.{Word}
use Rattle.mx_grammar.specs.declared.word.Word.TheVariants.{Symbol}
use Rattle.mx_grammar.specs.declared.word.Symbol.TheVariants.{Newline, End}
use Rattle.mx_grammar.specs.Grammar.{Line}
use Rattle.mx_grammar.specs.Spelling.{SpellsIn, words_of}
use Rattle.mx_grammar.specs.Limits.{IsShort}
use Rattle.mx_expression.specs.Expressions.{Expressions, expression_text}
use Rattle.mx_round_trip.specs.ReadBack.{ReadsBackWithin}
use Rattle.mx_round_trip.proofs.Sources.{AreSaid, said_split, said}
use Rattle.mx_round_trip.proofs.Whole.{Lexed, whole_line}
use Rattle.mx_round_trip.proofs.Short.{short_shallow}
use Rattle.mx_round_trip.proofs.ExpressionRules.{begins_at, starts_first}
use Rattle.mx_round_trip.proofs.Expressions.{no_whole, all_rules}

again : (levels : ℕ) (u : List Word) (x : Expr) → AreSaid u → Expressions levels u x → IsShort (Some (at 0 (printed x))) → SpellsIn expression_text (at 0 (printed x)) x
again zero u x said h short = absurd (no_whole u x h)
again (suc d) u x said h short =
    let rules = all_rules d in
    let g = rules.whole u x said h in
    let fit = g.fit in
    let text : List ℕ = at 0 (printed x) in
    let l : Lexed text fit.words = whole_line text fit.words fit.flat (starts_first text (begins_at 0 (printed x) g.begins)) short.0 in
    record {
      tokens = l.tokens;
      lexed = l.lexed;
      shallow = short_shallow text l.tokens short l.lexed;
      spells = record {
        levels = suc d;
        text = fit.words ++ Symbol Newline ∷ [];
        parts = l.words ∙ sym (append_assoc fit.words (Symbol Newline ∷ []) (Symbol End ∷ []));
        spelled = Line.line (fit.spelled d (omega arith));
      };
    }

by_line : (levels : ℕ) (ws line : List Word) (x : Expr) → ws ≡ line ++ Symbol End ∷ [] → AreSaid ws → Line (Expressions levels) line x → IsShort (Some (at 0 (printed x))) → SpellsIn expression_text (at 0 (printed x)) x
by_line levels ws _ x parts are (Line.line {u} h) short =
    let given : ws ≡ u ++ Symbol Newline ∷ Symbol End ∷ [] = parts ∙ append_assoc u (Symbol Newline ∷ []) (Symbol End ∷ []) in
    again levels u x (said_split u (Symbol Newline ∷ Symbol End ∷ []) (subst AreSaid given are)).0 h short

pub expression_back : (source : List ℕ) (x : Expr) → ReadsBackWithin expression_text source x (at 0 (printed x))
expression_back source x h short = by_line h.spells.levels (words_of source h.tokens) h.spells.text x h.spells.parts (said source h.tokens h.lexed) h.spells.spelled short
