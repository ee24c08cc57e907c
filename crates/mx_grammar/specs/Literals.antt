-- Literals, and the arguments that are made of them.
use Rattle.std.specs.Prelude.{ℕ, ◌+◌, ◌<◌, ◌≤◌, ◌^◌, List, [], ◌∷◌, ◌++◌, ℤ, pos, neg_ℤ, true, false, codes}
use Rattle.mx_value.specs.declared.value.Value.{Value}
use Rattle.mx_value.specs.declared.value.Value.TheVariants as value
use Rattle.mx_value.specs.declared.value.Segment.{Segment}
use Rattle.mx_value.specs.declared.value.Segment.TheVariants as segment
use Rattle.mx_value.specs.declared.node.Node.{Node}
use Rattle.mx_value.specs.declared.node.Node.TheVariants as node
use Rattle.mx_grammar.specs.declared.word.Word.{Word}
use Rattle.mx_grammar.specs.declared.word.Word.TheVariants.{Name, Int, Fix, Text, Symbol}
use Rattle.mx_grammar.specs.declared.word.Symbol.TheVariants.{Minus, None, True, False, Comma, Dot, OpenRound, CloseRound, OpenSquare, CloseSquare}
use Rattle.mx_grammar.specs.Grammar.{Spelling, Listed, Within, Line}
use Rattle.mx_grammar.specs.Spelling.{Language}

-- In says what spells a literal inside brackets. An integer has 64 bits, so 9223372036854775808 stands behind `-` alone.
pub data Literal (In : Spelling Value) : List Word → Value → Type 0 where
  int : {n : ℕ} → n < 2 ^ 63 → Literal In (Int n ∷ []) (value.Int (pos n))
  negative_int : {n : ℕ} → n ≤ 2 ^ 63 → Literal In (Symbol Minus ∷ Int n ∷ []) (value.Int (neg_ℤ (pos n)))
  fix : {z : ℤ} → Literal In (Fix z ∷ []) (value.Fix z)
  negative_fix : {z : ℤ} → Literal In (Symbol Minus ∷ Fix z ∷ []) (value.Fix (neg_ℤ z))
  text : {t : List ℕ} → Literal In (Text t ∷ []) (value.Text t)
  none : Literal In (Symbol None ∷ []) value.Nothing
  holds : Literal In (Symbol True ∷ []) (value.Flag true)
  fails : Literal In (Symbol False ∷ []) (value.Flag false)
  empty : Literal In (Symbol OpenRound ∷ Symbol CloseRound ∷ []) (value.Tup [])
  tuple : {u v : List Word} {x : Value} {xs : List Value} → In u x → Listed In v xs
      → Literal In (Symbol OpenRound ∷ u ++ Symbol Comma ∷ v ++ Symbol CloseRound ∷ []) (value.Tup (x ∷ xs))

-- arguments in square brackets, at least one
pub data Index (In : Spelling Value) : List Word → List Value → Type 0 where
  index : {u : List Word} {x : Value} {xs : List Value} → Listed In u (x ∷ xs) → Index In (Symbol OpenSquare ∷ u ++ Symbol CloseSquare ∷ []) (x ∷ xs)

-- a step of an address: a name, and maybe the arguments of an item behind it
pub data Step (In : Spelling Value) : List Word → List Segment → Type 0 where
  child : {n : List ℕ} → Step In (Name n ∷ []) (segment.Name n ∷ [])
  item : {n : List ℕ} {u : List Word} {xs : List Value} → Index In u xs → Step In (Name n ∷ u) (segment.Name n ∷ segment.Item xs ∷ [])

-- any number of steps, each with a point behind it
pub data Leading (In : Spelling Value) : List Word → List Segment → Type 0 where
  none : Leading In [] []
  more : {u v : List Word} {s a : List Segment} → Step In u s → Leading In v a → Leading In (u ++ Symbol Dot ∷ v) (s ++ a)

pub data Addr (In : Spelling Value) : List Word → List Segment → Type 0 where
  addr : {u v : List Word} {a s : List Segment} → Leading In u a → Step In v s → Addr In (u ++ v) (a ++ s)

-- without an address the cells are in the space `Main`
abbrev pub space_of : List Segment → List Segment
space_of [] = segment.Name (codes "Main") ∷ []
space_of (s ∷ a) = s ∷ a

-- the cells of a name, called with arguments; or the item that an address ends with
pub data NodeText (In : Spelling Value) : List Word → Node → Type 0 where
  cell : {n : List ℕ} {u v : List Word} {a : List Segment} {xs : List Value} → Leading In u a → Listed In v xs
      → NodeText In (u ++ (Name n ∷ Symbol OpenRound ∷ v ++ Symbol CloseRound ∷ [])) (node.Cell (space_of a) n xs)
  item : (n : List ℕ) {u v : List Word} {a : List Segment} {xs : List Value} → Leading In u a → Index In v xs
      → NodeText In (u ++ Name n ∷ v) (node.Item (a ++ segment.Name n ∷ []) xs)

-- ---- whole texts

abbrev pub literal_text : Language Value
literal_text levels = Line (Within Literal levels)

abbrev pub addr_text : Language (List Segment)
addr_text levels = Line (Addr (Within Literal (levels + 1)))

abbrev pub node_text : Language Node
node_text levels = Line (NodeText (Within Literal (levels + 1)))
