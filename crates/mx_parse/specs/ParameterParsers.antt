-- What the code of parameter lists computes.
use Rattle.std.specs.Prelude.{ℕ, Bool, ◌==◌, List, [], ◌∷◌, ◌++◌, Option, Some, None, if◌then◌else◌}
use Rattle.std.specs.List.{list_any}
use Rattle.std.specs.Option.{is_some}
use Rattle.std.specs.Cmp.Lexicographic.{pointwise}
use Rattle.mx_value.specs.declared.value.Value.{Value}
use Rattle.mx_syntax.specs.declared.stmt.Param.{Param}
use Rattle.mx_grammar.specs.declared.word.Word.{Word}
use Rattle.mx_grammar.specs.declared.word.Word.TheVariants.{Name}
use Rattle.mx_grammar.specs.declared.word.Symbol.TheVariants as symbol
use Rattle.mx_grammar.specs.Words.{is}
use Rattle.mx_grammar.specs.Reading.{Parser, ◌>>=◌, ◌>>◌, pure, accept, expect, choose, Turn}
use Rattle.mx_grammar.specs.LiteralParsers.{literal}
use Rattle.mx_parse.specs.Following.{following_turn, following, some_following, unless}

abbrev pub is_named : List Param → List ℕ → Bool
is_named params name = list_any (λ (param : Param). pointwise ◌==◌ param.name name) params

abbrev pub has_default : List Param → Bool
has_default params = list_any (λ (param : Param). is_some param.default) params

-- a name that no parameter before has
abbrev pub new_name : List Param → Word → Option (List ℕ)
new_name before (Name n) = unless (is_named before n) n
new_name before _ = None

abbrev pub param_of : List ℕ → Option Value → Param
param_of name default = record { name = name; default = default }

unfoldable pub optional : Parser Value → List ℕ → Parser Param
optional literal name = expect symbol.Assign >> (literal >>= λ value. pure (param_of name (Some value)))

abbrev pub param_rest : Parser Value → Bool → List ℕ → Parser Param
param_rest literal must name = if must then optional literal name else choose (is symbol.Assign) (optional literal name) (pure (param_of name None))

unfoldable pub param : Parser Value → List Param → Parser Param
param literal before = accept (new_name before) >>= param_rest literal (has_default before)

abbrev pub param_turn : Parser Value → List Param → Parser (Turn (List Param) (List Param))
param_turn literal = following_turn symbol.CloseRound (param literal)

-- what is left of a list behind the parameters found before
abbrev pub params : Parser Value → List Param → Parser (List Param)
params literal = following symbol.CloseRound (param literal)

abbrev pub some_params : Parser Value → Parser (List Param)
some_params literal = some_following symbol.CloseRound (param literal)

unfoldable pub parameters_by : Parser Value → Parser (List Param)
parameters_by literal = expect symbol.OpenRound >> params literal []

unfoldable pub some_parameters_by : Parser Value → Parser (List Param)
some_parameters_by literal = expect symbol.OpenRound >> some_params literal

abbrev pub parameters : ℕ → Parser (List Param)
parameters levels = parameters_by (literal levels)

abbrev pub some_parameters : ℕ → Parser (List Param)
some_parameters levels = some_parameters_by (literal levels)
