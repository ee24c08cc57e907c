-- Parameter lists.
use Rattle.std.specs.Prelude.{◌≡◌, ℕ, List, [], ◌∷◌, ◌++◌, Option, Some, None, map}
use Rattle.mx_value.specs.declared.value.Value.{Value}
use Rattle.mx_syntax.specs.declared.stmt.Param.{Param}
use Rattle.mx_grammar.specs.declared.word.Word.{Word}
use Rattle.mx_grammar.specs.declared.word.Word.TheVariants.{Name, Symbol}
use Rattle.mx_grammar.specs.declared.word.Symbol.TheVariants as symbol
use Rattle.mx_grammar.specs.Grammar.{Spelling}
use Rattle.mx_parse.specs.Following.{Following, IsNew}

abbrev pub names_of : List Param → List (List ℕ)
names_of params = map (λ (param : Param). param.name) params

-- none of the parameters has a default
abbrev pub NoDefault : List Param → Type 0
NoDefault [] = Unit {0}
NoDefault (param ∷ params) = (param.default ≡ None) × NoDefault params

-- A parameter behind others: its name is that of none of them, and it has a default where one of them has. L says what spells a
-- literal.
pub data ParamText (L : Spelling Value) (before : List Param) : List Word → Param → Type 0 where
  required : {n : List ℕ} → IsNew n (names_of before) → NoDefault before → ParamText L before (Name n ∷ []) (record { name = n; default = None })
  optional : {n : List ℕ} {u : List Word} {value : Value} → IsNew n (names_of before) → L u value
      → ParamText L before (Name n ∷ Symbol symbol.Assign ∷ u) (record { name = n; default = Some value })

pub data Parameters (L : Spelling Value) : List Word → List Param → Type 0 where
  parameters : {u : List Word} {params : List Param} → Following (ParamText L) [] u params
      → Parameters L (Symbol symbol.OpenRound ∷ u ++ Symbol symbol.CloseRound ∷ []) params

-- at least one parameter
pub data SomeParameters (L : Spelling Value) : List Word → List Param → Type 0 where
  parameters : {u : List Word} {param : Param} {others : List Param} → Following (ParamText L) [] u (param ∷ others)
      → SomeParameters L (Symbol symbol.OpenRound ∷ u ++ Symbol symbol.CloseRound ∷ []) (param ∷ others)
