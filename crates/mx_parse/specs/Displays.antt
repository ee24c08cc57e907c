-- Displays: what the item of a space is made of.
use Rattle.std.specs.Prelude.{◌≡◌, ℕ, true, List, [], ◌∷◌, ◌++◌, map, codes}
use Rattle.mx_value.specs.Name.{is_name}
use Rattle.mx_syntax.specs.declared.expr.Expr.{Expr}
use Rattle.mx_syntax.specs.declared.stmt.ItemEntry.{ItemEntry}
use Rattle.mx_syntax.specs.declared.stmt.ItemEntry.TheVariants as entry
use Rattle.mx_grammar.specs.declared.word.Word.{Word}
use Rattle.mx_grammar.specs.declared.word.Word.TheVariants.{Text, Symbol}
use Rattle.mx_grammar.specs.declared.word.Symbol.TheVariants as symbol
use Rattle.mx_grammar.specs.Grammar.{Spelling}
use Rattle.mx_parse.specs.Following.{Following, IsNew}

abbrev pub keys_of : List (List ℕ × Expr) → List (List ℕ)
keys_of refs = map (λ (r : List ℕ × Expr). r.0) refs

-- none of the entries has references
abbrev pub NoRefs : List ItemEntry → Type 0
NoRefs [] = Unit {0}
NoRefs (entry.Refs refs ∷ entries) = ⊥
NoRefs (entry.Base base ∷ entries) = NoRefs entries

-- none of the entries is a base
abbrev pub NoBase : List ItemEntry → Type 0
NoBase [] = Unit {0}
NoBase (entry.Refs refs ∷ entries) = NoBase entries
NoBase (entry.Base base ∷ entries) = ⊥

-- A reference behind others: its key is a name, and that of none of them. E says what spells an expression.
pub data RefText (E : Spelling Expr) (before : List (List ℕ × Expr)) : List Word → List ℕ × Expr → Type 0 where
  ref : {n : List ℕ} {u : List Word} {x : Expr} → is_name n ≡ true → IsNew n (keys_of before) → E u x
      → RefText E before (Text n ∷ Symbol symbol.Colon ∷ u) (n, x)

-- An entry behind others: the references, where none of them has any, or the base, where none of them is one. `bases` is read as `base`.
pub data EntryText (E : Spelling Expr) (before : List ItemEntry) : List Word → ItemEntry → Type 0 where
  refs : {u : List Word} {refs : List (List ℕ × Expr)} → NoRefs before → Following (RefText E) [] u refs
      → EntryText E before (Text (codes "refs") ∷ Symbol symbol.Colon ∷ Symbol symbol.OpenCurly ∷ u ++ Symbol symbol.CloseCurly ∷ []) (entry.Refs refs)
  base : {u : List Word} {x : Expr} → NoBase before → E u x → EntryText E before (Text (codes "base") ∷ Symbol symbol.Colon ∷ u) (entry.Base x)
  bases : {u : List Word} {x : Expr} → NoBase before → E u x → EntryText E before (Text (codes "bases") ∷ Symbol symbol.Colon ∷ u) (entry.Base x)

pub data Display (E : Spelling Expr) : List Word → List ItemEntry → Type 0 where
  display : {u : List Word} {entries : List ItemEntry} → Following (EntryText E) [] u entries
      → Display E (Symbol symbol.OpenCurly ∷ u ++ Symbol symbol.CloseCurly ∷ []) entries
