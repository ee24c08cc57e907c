-- What the code of literals computes.
use Rattle.std.specs.Prelude.{ℕ, Bool, true, false, nat_lt, nat_le, ◌^◌, if◌then◌else◌, [], ◌∷◌, Option, Some, None, pos, neg_ℤ}
use Rattle.mx_value.specs.declared.value.Value.{Value}
use Rattle.mx_value.specs.declared.value.Value.TheVariants as value
use Rattle.mx_grammar.specs.declared.word.Word.{Word}
use Rattle.mx_grammar.specs.declared.word.Word.TheVariants.{Name, Int, Fix, Text, Symbol}
use Rattle.mx_grammar.specs.declared.word.Symbol.{Symbol as Symbols}
use Rattle.mx_grammar.specs.declared.word.Symbol.TheVariants as symbol
use Rattle.mx_grammar.specs.Words.{is}
use Rattle.mx_grammar.specs.Reading.{Parser, ◌>>=◌, ◌>>◌, pure, accept, expect, choose, listed, levels}

abbrev pub fitting : {A : Type 0} → Bool → A → Option A
fitting fits a = if fits then Some a else None

abbrev pub constant : Symbols → Option Value
constant symbol.None = Some value.Nothing
constant symbol.True = Some (value.Flag true)
constant symbol.False = Some (value.Flag false)
constant _ = None

-- a literal of one token
abbrev pub simple_of : Word → Option Value
simple_of (Int n) = fitting (nat_lt n (2 ^ 63)) (value.Int (pos n))
simple_of (Fix z) = Some (value.Fix z)
simple_of (Text t) = Some (value.Text t)
simple_of (Symbol s) = constant s
simple_of (Name n) = None

-- a number behind `-`
abbrev pub negative_of : Word → Option Value
negative_of (Int n) = fitting (nat_le n (2 ^ 63)) (value.Int (neg_ℤ (pos n)))
negative_of (Fix z) = Some (value.Fix (neg_ℤ z))
negative_of _ = None

-- a comma, and what is left of a tuple behind its first item
unfoldable pub tuple_rest : Parser Value → Value → Parser Value
tuple_rest inner x = expect symbol.Comma >> (listed symbol.CloseRound inner (x ∷ []) >>= λ xs. pure (value.Tup xs))

-- a tuple behind its opening bracket
unfoldable pub tupled : Parser Value → Parser Value
tupled inner = choose (is symbol.CloseRound) (expect symbol.CloseRound >> pure (value.Tup [])) (inner >>= tuple_rest inner)

unfoldable pub literal_rule : Parser Value → Parser Value
literal_rule inner =
    choose (is symbol.Minus) (expect symbol.Minus >> accept negative_of)
    (choose (is symbol.OpenRound) (expect symbol.OpenRound >> tupled inner) (accept simple_of))

abbrev pub literal : ℕ → Parser Value
literal = levels literal_rule
