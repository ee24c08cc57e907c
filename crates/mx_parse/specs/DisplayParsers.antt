-- What the code of displays computes.
use Rattle.std.specs.Prelude.{ℕ, Bool, true, false, ◌==◌, ◌||◌, not, List, [], ◌∷◌, Option, Some, None, if◌then◌else◌, codes}
use Rattle.std.specs.List.{list_any}
use Rattle.std.specs.Cmp.Lexicographic.{pointwise}
use Rattle.mx_value.specs.Name.{is_name}
use Rattle.mx_syntax.specs.declared.expr.Expr.{Expr}
use Rattle.mx_syntax.specs.declared.stmt.ItemEntry.{ItemEntry}
use Rattle.mx_syntax.specs.declared.stmt.ItemEntry.TheVariants as entry
use Rattle.mx_grammar.specs.declared.word.Word.{Word}
use Rattle.mx_grammar.specs.declared.word.Word.TheVariants.{Text}
use Rattle.mx_grammar.specs.declared.word.Symbol.TheVariants as symbol
use Rattle.mx_grammar.specs.Reading.{Parser, ◌>>=◌, ◌>>◌, pure, accept, expect, Turn}
use Rattle.mx_parse.specs.Following.{following_turn, following, unless}

abbrev pub is_refs : ItemEntry → Bool
is_refs (entry.Refs refs) = true
is_refs (entry.Base base) = false

abbrev pub has_refs : List ItemEntry → Bool
has_refs entries = list_any is_refs entries

abbrev pub has_base : List ItemEntry → Bool
has_base entries = list_any (λ (entry : ItemEntry). not (is_refs entry)) entries

abbrev pub has_key : List (List ℕ × Expr) → List ℕ → Bool
has_key refs name = list_any (λ (r : List ℕ × Expr). pointwise ◌==◌ r.0 name) refs

abbrev pub is_wrong_key : List (List ℕ × Expr) → List ℕ → Bool
is_wrong_key refs text = not (is_name text) || has_key refs text

-- a name that no reference before has
abbrev pub new_key : List (List ℕ × Expr) → Word → Option (List ℕ)
new_key before (Text t) = unless (is_wrong_key before t) t
new_key before _ = None

abbrev pub pair : List ℕ → Expr → List ℕ × Expr
pair name x = (name, x)

unfoldable pub reference : Parser Expr → List (List ℕ × Expr) → Parser (List ℕ × Expr)
reference expr before = accept (new_key before) >>= λ name. expect symbol.Colon >> (expr >>= λ x. pure (pair name x))

abbrev pub ref_turn : Parser Expr → List (List ℕ × Expr) → Parser (Turn (List (List ℕ × Expr)) (List (List ℕ × Expr)))
ref_turn expr = following_turn symbol.CloseCurly (reference expr)

abbrev pub refs : Parser Expr → List (List ℕ × Expr) → Parser (List (List ℕ × Expr))
refs expr = following symbol.CloseCurly (reference expr)

-- whether a text says that an entry has references, where it says what an entry is and no entry before is such a one
abbrev pub says_refs : List ItemEntry → List ℕ → Option Bool
says_refs before t =
    if pointwise ◌==◌ t (codes "refs") then unless (has_refs before) true else (
    if pointwise ◌==◌ t (codes "base") || pointwise ◌==◌ t (codes "bases") then unless (has_base before) false else
    None)

abbrev pub new_entry : List ItemEntry → Word → Option Bool
new_entry before (Text t) = says_refs before t
new_entry before _ = None

unfoldable pub refs_entry : Parser Expr → Parser ItemEntry
refs_entry expr = expect symbol.OpenCurly >> (refs expr [] >>= λ rs. pure (entry.Refs rs))

unfoldable pub base_entry : Parser Expr → Parser ItemEntry
base_entry expr = expr >>= λ x. pure (entry.Base x)

abbrev pub entry_rest : Parser Expr → Bool → Parser ItemEntry
entry_rest expr true = refs_entry expr
entry_rest expr false = base_entry expr

unfoldable pub item_entry : Parser Expr → List ItemEntry → Parser ItemEntry
item_entry expr before = accept (new_entry before) >>= λ has. expect symbol.Colon >> entry_rest expr has

abbrev pub entry_turn : Parser Expr → List ItemEntry → Parser (Turn (List ItemEntry) (List ItemEntry))
entry_turn expr = following_turn symbol.CloseCurly (item_entry expr)

abbrev pub entries : Parser Expr → List ItemEntry → Parser (List ItemEntry)
entries expr = following symbol.CloseCurly (item_entry expr)

unfoldable pub display : Parser Expr → Parser (List ItemEntry)
display expr = expect symbol.OpenCurly >> entries expr []
