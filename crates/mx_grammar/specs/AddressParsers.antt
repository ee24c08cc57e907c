-- What the code of addresses and nodes computes.
use Rattle.std.specs.Prelude.{◌≡◌, ◌≢◌, ℕ, Bool, true, false, List, [], ◌∷◌, ◌++◌, Option, Some, None, Result, Ok, Err}
use Rattle.mx_value.specs.declared.value.Value.{Value}
use Rattle.mx_value.specs.declared.value.Segment.{Segment}
use Rattle.mx_value.specs.declared.value.Segment.TheVariants as segment
use Rattle.mx_value.specs.declared.node.Node.{Node}
use Rattle.mx_value.specs.declared.node.Node.TheVariants as node
use Rattle.mx_grammar.specs.declared.word.Word.{Word}
use Rattle.mx_grammar.specs.declared.word.Word.TheVariants.{Name}
use Rattle.mx_grammar.specs.declared.word.Symbol.TheVariants as symbol
use Rattle.mx_grammar.specs.declared.trouble.Trouble.{Trouble}
use Rattle.mx_grammar.specs.declared.trouble.Trouble.TheVariants.{NoMemory}
use Rattle.mx_grammar.specs.declared.address.Turn.{Turn as CodeTurn}
use Rattle.mx_grammar.specs.declared.address.Turn.TheVariants as turn
use Rattle.mx_grammar.specs.Words.{is}
use Rattle.mx_grammar.specs.Reading.{Words, Outcome, Parser, ◌>>=◌, ◌>>◌, pure, accept, expect, choose, Turn, On, Done, turning, listed, some_listed}
use Rattle.mx_grammar.specs.Literals.{space_of}

abbrev pub name_of : Word → Option (List ℕ)
name_of (Name n) = Some n
name_of _ = None

abbrev pub is_name : Word → Bool
is_name (Name n) = true
is_name _ = false

unfoldable pub index : Parser Value → Parser (List Value)
index inner = expect symbol.OpenSquare >> some_listed symbol.CloseSquare inner

-- the arguments of a call, behind its opening bracket
unfoldable pub arguments : Parser Value → Parser (List Value)
arguments inner = expect symbol.OpenRound >> listed symbol.CloseRound inner []

-- a point where another step follows
unfoldable pub dotted : {B : Type 0} → List Segment → B → Parser (Turn (List Segment) B)
dotted found done = choose (is symbol.Dot) (expect symbol.Dot >> pure (On found)) (pure (Done done))

unfoldable pub addr_turn : Parser Value → List Segment → Parser (Turn (List Segment) (List Segment))
addr_turn inner found =
    accept name_of >>= λ n. choose (is symbol.OpenSquare)
    (index inner >>= λ xs. dotted (found ++ segment.Name n ∷ segment.Item xs ∷ []) (found ++ segment.Name n ∷ segment.Item xs ∷ []))
    (dotted (found ++ segment.Name n ∷ []) (found ++ segment.Name n ∷ []))

abbrev pub addr : Parser Value → Parser (List Segment)
addr inner = turning (addr_turn inner) []

unfoldable pub node_turn : Parser Value → List Segment → Parser (Turn (List Segment) Node)
node_turn inner found =
    accept name_of >>= λ n. choose (is symbol.OpenRound) (arguments inner >>= λ xs. pure (Done (node.Cell (space_of found) n xs)))
    (choose (is symbol.OpenSquare) (index inner >>= λ xs. dotted (found ++ segment.Name n ∷ segment.Item xs ∷ []) (node.Item (found ++ segment.Name n ∷ []) xs))
    (expect symbol.Dot >> pure (On (found ++ segment.Name n ∷ []))))

abbrev pub node_by : Parser Value → Parser Node
node_by inner = turning (node_turn inner) []

-- what a call that takes a turn of an address ensures, where it answers whether another one follows
abbrev pub Goes : Outcome (Turn (List Segment) (List Segment)) → Result Bool Trouble → List Segment → Words → Type 0
Goes outcome (Ok true) found new = outcome ≡ Ok (On found, new)
Goes outcome (Ok false) found new = outcome ≡ Ok (Done found, new)
Goes outcome (Err e) found new = e ≢ NoMemory → outcome ≡ Err e

-- the same of a turn of a node
abbrev pub Ends : Outcome (Turn (List Segment) Node) → Result CodeTurn Trouble → Words → Type 0
Ends outcome (Ok (turn.On found)) new = outcome ≡ Ok (On found, new)
Ends outcome (Ok (turn.Done n)) new = outcome ≡ Ok (Done n, new)
Ends outcome (Err e) new = e ≢ NoMemory → outcome ≡ Err e
