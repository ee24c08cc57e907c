-- Which tokens begin an expression, and which may not follow a part of it.
use Rattle.std.specs.Prelude.{Bool, true, false}
use Rattle.mx_grammar.specs.declared.word.Symbol.TheVariants as symbol
use Rattle.mx_grammar.specs.declared.word.Word.{Word}
use Rattle.mx_grammar.specs.declared.word.Word.TheVariants.{Name, Int, Fix, Text, Symbol}
use Rattle.mx_grammar.specs.Words.{is}
use Rattle.mx_grammar.proofs.Exact.{Kinds, none, or}
use Rattle.mx_expression.specs.OperandParsers.{begins_trailer, is_sign}
use Rattle.mx_expression.specs.ChainParsers.{is_product, is_sum, is_compare}

-- what begins an atom
abbrev pub begins_atom : Word → Bool
begins_atom (Name n) = true
begins_atom (Int n) = true
begins_atom (Fix z) = true
begins_atom (Text t) = true
begins_atom (Symbol symbol.None) = true
begins_atom (Symbol symbol.True) = true
begins_atom (Symbol symbol.False) = true
begins_atom (Symbol symbol.OpenRound) = true
begins_atom _ = false

-- what begins an operand with its signs
abbrev pub begins_signed : Kinds
begins_signed = or begins_atom is_sign

abbrev pub begins : Kinds
begins = or begins_signed (is symbol.Not)

-- what may not follow a part, by what it is a part of
abbrev pub after_post : Kinds
after_post = or begins_trailer none

abbrev pub after_signed : Kinds
after_signed = or (is symbol.Power) after_post

abbrev pub after_product : Kinds
after_product = or is_product after_signed

abbrev pub after_sum : Kinds
after_sum = or is_sum after_product

abbrev pub after_compare : Kinds
after_compare = or is_compare after_sum

abbrev pub after_and : Kinds
after_and = or (is symbol.And) after_compare

abbrev pub after_or : Kinds
after_or = or (is symbol.Or) after_and

-- what may not follow a whole expression
abbrev pub follows : Kinds
follows = or (is symbol.If) after_or
