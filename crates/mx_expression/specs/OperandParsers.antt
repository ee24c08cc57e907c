-- What the code of operands computes. `inside` parses an expression inside brackets, and `inner` an `or` there. Where nothing can stand
-- inside brackets any more, none opens that something has to stand in.
use Rattle.std.specs.Prelude.{ℕ, zero, suc, Bool, ◌||◌, List, [], ◌∷◌, Option, None, Some, Result, Ok, Err}
use Rattle.mx_syntax.specs.declared.expr.Expr.{Expr}
use Rattle.mx_syntax.specs.declared.expr.Expr.TheVariants as expr
use Rattle.mx_syntax.specs.declared.expr.Args.{Args}
use Rattle.mx_syntax.specs.declared.expr.Args.TheVariants as args
use Rattle.mx_syntax.specs.declared.expr.Trailer.{Trailer}
use Rattle.mx_syntax.specs.declared.expr.Trailer.TheVariants as made
use Rattle.mx_syntax.specs.declared.expr.PowerPart.{PowerPart, roll-PowerPart}
use Rattle.mx_syntax.specs.declared.expr.Sign.{Sign}
use Rattle.mx_syntax.specs.declared.expr.Sign.TheVariants as sign
use Rattle.mx_expression.specs.declared.tree.Source.{Source}
use Rattle.mx_grammar.specs.declared.word.Word.{Word}
use Rattle.mx_grammar.specs.declared.word.Word.TheVariants.{Name, Symbol}
use Rattle.mx_grammar.specs.declared.word.Symbol.TheVariants as symbol
use Rattle.mx_grammar.specs.Words.{is}
use Rattle.mx_grammar.specs.Reading.{Parser, ◌>>=◌, ◌>>◌, pure, refuse, accept, expect, choose, many, listed, some_listed}
use Rattle.mx_grammar.specs.LiteralParsers.{simple_of}
use Rattle.mx_grammar.specs.AddressParsers.{name_of, is_name}

-- ---- kinds of tokens

-- what begins a call, a subscript or an attribute
abbrev pub begins_trailer : Word → Bool
begins_trailer t = is symbol.OpenRound t || (is symbol.OpenSquare t || is symbol.Dot t)

abbrev pub is_sign : Word → Bool
is_sign t = is symbol.Plus t || is symbol.Minus t

-- ---- trees: a chain of one part is that part

abbrev pub post_of : Expr → List Trailer → Expr
post_of x [] = x
post_of x (y ∷ ys) = expr.Post x (y ∷ ys)

abbrev pub power_of : Expr → List PowerPart → Expr
power_of x [] = x
power_of x (y ∷ ys) = expr.Power x (y ∷ ys)

abbrev pub signed_by : List Sign → Expr → Expr
signed_by [] x = x
signed_by (s ∷ ss) x = expr.Signed (s ∷ ss) x

abbrev pub power_part_of : List Sign → Expr → PowerPart
power_part_of ss x = roll-PowerPart (record { signs = ss; of = x })

-- what was read first, with what was read behind it
abbrev pub followed : {A B E : Type 0} → A → Result B E → Result (A × B) E
followed a (Ok b) = Ok (a, b)
followed a (Err e) = Err e

-- ---- atoms

-- what is left of parentheses behind their first expression: a tuple, where a comma follows
unfoldable pub group_rest : Parser Expr → Expr → Parser Expr
group_rest inside x =
    choose (is symbol.Comma) (expect symbol.Comma >> (listed symbol.CloseRound inside (x ∷ []) >>= λ xs. pure (expr.Tuple xs)))
    (expect symbol.CloseRound >> pure x)

-- parentheses behind the one that opens
unfoldable pub group : Parser Expr → Parser Expr
group inside = choose (is symbol.CloseRound) (expect symbol.CloseRound >> pure (expr.Tuple [])) (inside >>= group_rest inside)

unfoldable pub atom : Parser Expr → Parser Expr
atom inside =
    choose (is symbol.OpenRound) (expect symbol.OpenRound >> group inside)
    (choose is_name (accept name_of >>= λ n. pure (expr.Name n)) (accept simple_of >>= λ v. pure (expr.Lit v)))

-- ---- calls, subscripts and attributes

unfoldable pub test_of : Parser Expr → Parser (Option Expr)
test_of inner = choose (is symbol.If) (expect symbol.If >> (inner >>= λ x. pure (Some x))) (pure None)

abbrev pub source_of : List ℕ → Expr → Option Expr → Source
source_of n over t = record { name = n; over = over; test = t }

-- what a generator goes over, behind its element
unfoldable pub source : Parser Expr → Parser Source
source inner = expect symbol.For >> (accept name_of >>= λ n. expect symbol.In >> (inner >>= λ over. test_of inner >>= λ t. pure (source_of n over t)))

abbrev pub generator_of : Expr → Source → Args
generator_of x s = args.Gen x s.name s.over s.test

unfoldable pub generator : Parser Expr → Expr → Parser Args
generator inner x = source inner >>= λ s. pure (generator_of x s)

-- the arguments of a call behind the first expression
unfoldable pub arguments_rest : Parser Expr → Parser Expr → Expr → Parser Args
arguments_rest inside inner x =
    choose (is symbol.For) (generator inner x >>= λ a. expect symbol.CloseRound >> pure a)
    (choose (is symbol.Comma) (expect symbol.Comma >> (listed symbol.CloseRound inside (x ∷ []) >>= λ xs. pure (args.List xs)))
    (expect symbol.CloseRound >> pure (args.List (x ∷ []))))

-- the arguments of a call behind the bracket that opens
unfoldable pub arguments : Parser Expr → Parser Expr → Parser Args
arguments inside inner = choose (is symbol.CloseRound) (expect symbol.CloseRound >> pure (args.List [])) (inside >>= arguments_rest inside inner)

-- subscripts, where so many levels of brackets are left for them
unfoldable pub subscripts : ℕ → Parser Expr → Parser Trailer
subscripts zero inside = refuse
subscripts (suc n) inside = expect symbol.OpenSquare >> (some_listed symbol.CloseSquare inside >>= λ xs. pure (made.Index xs))

unfoldable pub trailer : ℕ → Parser Expr → Parser Expr → Parser Trailer
trailer n inside inner =
    choose (is symbol.OpenRound) (expect symbol.OpenRound >> (arguments inside inner >>= λ a. pure (made.Call a)))
    (choose (is symbol.OpenSquare) (subscripts n inside) (expect symbol.Dot >> (accept name_of >>= λ n. pure (made.Attr n))))

abbrev pub trailers : ℕ → Parser Expr → Parser Expr → Parser (List Trailer)
trailers n inside inner = many begins_trailer (trailer n inside inner)

unfoldable pub post : ℕ → Parser Expr → Parser Expr → Parser Expr
post n inside inner = atom inside >>= λ x. trailers n inside inner >>= λ ys. pure (post_of x ys)

-- ---- powers and signs

unfoldable pub one_sign : Parser Sign
one_sign = choose (is symbol.Plus) (expect symbol.Plus >> pure sign.Plus) (expect symbol.Minus >> pure sign.Minus)

abbrev pub signs : Parser (List Sign)
signs = many is_sign one_sign

unfoldable pub power_part : ℕ → Parser Expr → Parser Expr → Parser PowerPart
power_part n inside inner = expect symbol.Power >> (signs >>= λ ss. post n inside inner >>= λ x. pure (power_part_of ss x))

abbrev pub power_parts : ℕ → Parser Expr → Parser Expr → Parser (List PowerPart)
power_parts n inside inner = many (is symbol.Power) (power_part n inside inner)

unfoldable pub power : ℕ → Parser Expr → Parser Expr → Parser Expr
power n inside inner = post n inside inner >>= λ x. power_parts n inside inner >>= λ ys. pure (power_of x ys)

unfoldable pub signed_of : ℕ → Parser Expr → Parser Expr → Parser Expr
signed_of n inside inner = signs >>= λ ss. power n inside inner >>= λ x. pure (signed_by ss x)
