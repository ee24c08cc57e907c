-- The texts of why a source has no tokens, or is none of the language.
use Rattle.std.specs.Prelude.{[], ◌++◌, codes}
use Rattle.std.specs.Fmt.{decimal}
use Rattle.mx_print.specs.Texts.{Text}
use Rattle.mx_lex.specs.declared.LexRefusal.{LexRefusal}
use Rattle.mx_lex.specs.declared.LexRefusal.TheVariants as lexing
use Rattle.mx_grammar.specs.declared.refusal.ParseRefusal.{ParseRefusal}
use Rattle.mx_grammar.specs.declared.refusal.ParseRefusal.TheVariants as parsing

-- why a source has no tokens; want of memory has no text
abbrev pub lex_refusal_text : LexRefusal → Text
lex_refusal_text lexing.TooLong = codes "too long"
lex_refusal_text (lexing.BadByte place) = codes "bad byte at " ++ decimal place
lex_refusal_text (lexing.BadNumber place) = codes "bad number at " ++ decimal place
lex_refusal_text (lexing.BadText place) = codes "bad text at " ++ decimal place
lex_refusal_text (lexing.BadIndent line) = codes "bad indent at line " ++ decimal line
lex_refusal_text lexing.NoMemory = []

-- why a source is no formula or node; want of memory has no text
abbrev pub parse_refusal_text : ParseRefusal → Text
parse_refusal_text (parsing.Lex e) = lex_refusal_text e
parse_refusal_text (parsing.TooNested place) = codes "too nested at " ++ decimal place
parse_refusal_text (parsing.Unexpected place) = codes "unexpected at " ++ decimal place
parse_refusal_text parsing.TooManyLoops = codes "too many loops"
parse_refusal_text parsing.PrintsTooLong = codes "prints too long"
parse_refusal_text parsing.NoMemory = []
