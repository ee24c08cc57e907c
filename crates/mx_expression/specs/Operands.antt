-- Operands: what stands between the operators of an expression.
use Rattle.std.specs.Prelude.{ℕ, ◌<◌, ◌^◌, List, [], ◌∷◌, ◌++◌, ℤ, pos, true, false, Option, None, Some}
use Rattle.mx_value.specs.declared.value.Value.TheVariants as value
use Rattle.mx_syntax.specs.declared.expr.Expr.{Expr}
use Rattle.mx_syntax.specs.declared.expr.Expr.TheVariants as expr
use Rattle.mx_syntax.specs.declared.expr.Args.{Args}
use Rattle.mx_syntax.specs.declared.expr.Args.TheVariants as args
use Rattle.mx_syntax.specs.declared.expr.Trailer.{Trailer}
use Rattle.mx_syntax.specs.declared.expr.Trailer.TheVariants as trailer
use Rattle.mx_syntax.specs.declared.expr.PowerPart.{PowerPart, roll-PowerPart}
use Rattle.mx_syntax.specs.declared.expr.Sign.{Sign}
use Rattle.mx_syntax.specs.declared.expr.Sign.TheVariants as sign
use Rattle.mx_grammar.specs.declared.word.Word.{Word}
use Rattle.mx_grammar.specs.declared.word.Word.TheVariants.{Name, Int, Fix, Text, Symbol}
use Rattle.mx_grammar.specs.declared.word.Symbol.TheVariants as symbol
use Rattle.mx_grammar.specs.Grammar.{Spelling, Parts, Listed}

-- Inside says what spells an expression inside brackets, and In what spells an `or` there. A literal is one token, never a tuple,
-- and parentheses round an expression leave no trace.
pub data Atom (Inside : Spelling Expr) : List Word → Expr → Type 0 where
  name : {n : List ℕ} → Atom Inside (Name n ∷ []) (expr.Name n)
  int : {n : ℕ} → n < 2 ^ 63 → Atom Inside (Int n ∷ []) (expr.Lit (value.Int (pos n)))
  fix : {z : ℤ} → Atom Inside (Fix z ∷ []) (expr.Lit (value.Fix z))
  text : {t : List ℕ} → Atom Inside (Text t ∷ []) (expr.Lit (value.Text t))
  none : Atom Inside (Symbol symbol.None ∷ []) (expr.Lit value.Nothing)
  holds : Atom Inside (Symbol symbol.True ∷ []) (expr.Lit (value.Flag true))
  fails : Atom Inside (Symbol symbol.False ∷ []) (expr.Lit (value.Flag false))
  group : {u : List Word} {x : Expr} → Inside u x → Atom Inside (Symbol symbol.OpenRound ∷ u ++ Symbol symbol.CloseRound ∷ []) x
  empty : Atom Inside (Symbol symbol.OpenRound ∷ Symbol symbol.CloseRound ∷ []) (expr.Tuple [])
  tuple : {u v : List Word} {x : Expr} {xs : List Expr} → Inside u x → Listed Inside v xs
      → Atom Inside (Symbol symbol.OpenRound ∷ u ++ Symbol symbol.Comma ∷ v ++ Symbol symbol.CloseRound ∷ []) (expr.Tuple (x ∷ xs))

-- the test of a generator, where it has one
pub data Test (In : Spelling Expr) : List Word → Option Expr → Type 0 where
  none : Test In [] None
  test : {u : List Word} {x : Expr} → In u x → Test In (Symbol symbol.If ∷ u) (Some x)

-- the arguments of a call: a list, or one generator with nothing behind it
pub data Arguments (Inside In : Spelling Expr) : List Word → Args → Type 0 where
  list : {u : List Word} {xs : List Expr} → Listed Inside u xs → Arguments Inside In u (args.List xs)
  generator : {u v w : List Word} {n : List ℕ} {element over : Expr} {test : Option Expr} → Inside u element → In v over → Test In w test
      → Arguments Inside In (u ++ (Symbol symbol.For ∷ Name n ∷ Symbol symbol.In ∷ v ++ w)) (args.Gen element n over test)

-- a call, at least one subscript, or an attribute
pub data Trailing (Inside In : Spelling Expr) : List Word → Trailer → Type 0 where
  call : {u : List Word} {a : Args} → Arguments Inside In u a → Trailing Inside In (Symbol symbol.OpenRound ∷ u ++ Symbol symbol.CloseRound ∷ []) (trailer.Call a)
  index : {u : List Word} {x : Expr} {xs : List Expr} → Listed Inside u (x ∷ xs)
      → Trailing Inside In (Symbol symbol.OpenSquare ∷ u ++ Symbol symbol.CloseSquare ∷ []) (trailer.Index (x ∷ xs))
  attribute : {n : List ℕ} → Trailing Inside In (Symbol symbol.Dot ∷ Name n ∷ []) (trailer.Attr n)

pub data Post (Inside In : Spelling Expr) : List Word → Expr → Type 0 where
  alone : {u : List Word} {x : Expr} → Atom Inside u x → Post Inside In u x
  chain : {u v : List Word} {x : Expr} {y : Trailer} {ys : List Trailer} → Atom Inside u x → Parts (Trailing Inside In) v (y ∷ ys)
      → Post Inside In (u ++ v) (expr.Post x (y ∷ ys))

pub data OneSign : List Word → Sign → Type 0 where
  plus : OneSign (Symbol symbol.Plus ∷ []) sign.Plus
  minus : OneSign (Symbol symbol.Minus ∷ []) sign.Minus

-- a further part of a power, with the signs before it
pub data PowerTail (Inside In : Spelling Expr) : List Word → PowerPart → Type 0 where
  power : {u v : List Word} {signs : List Sign} {x : Expr} → Parts OneSign u signs → Post Inside In v x
      → PowerTail Inside In (Symbol symbol.Power ∷ u ++ v) (roll-PowerPart (record { signs = signs; of = x }))

pub data Power (Inside In : Spelling Expr) : List Word → Expr → Type 0 where
  alone : {u : List Word} {x : Expr} → Post Inside In u x → Power Inside In u x
  chain : {u v : List Word} {x : Expr} {y : PowerPart} {ys : List PowerPart} → Post Inside In u x → Parts (PowerTail Inside In) v (y ∷ ys)
      → Power Inside In (u ++ v) (expr.Power x (y ∷ ys))

-- A sign applies to the whole power behind it.
pub data SignedOf (Inside In : Spelling Expr) : List Word → Expr → Type 0 where
  alone : {u : List Word} {x : Expr} → Power Inside In u x → SignedOf Inside In u x
  signs : {u v : List Word} {s : Sign} {ss : List Sign} {x : Expr} → Parts OneSign u (s ∷ ss) → Power Inside In v x
      → SignedOf Inside In (u ++ v) (expr.Signed (s ∷ ss) x)
