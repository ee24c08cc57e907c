-- Displays, read as they are printed.
use Rattle.std.proofs.Common.{ℕ, List, [], ◌∷◌, ◌++◌, map, refl}
use Rattle.std.specs.Prelude.{codes}
use Rattle.mx_syntax.specs.declared.expr.Expr.{Expr}
use Rattle.mx_syntax.specs.declared.stmt.ItemEntry.{ItemEntry}
use Rattle.mx_syntax.specs.declared.stmt.ItemEntry.TheVariants as entry
use Rattle.mx_print.specs.Texts.{Text, commas}
use Rattle.mx_print.specs.Statements.{whole, ref_text, entry_text, display_text}
use Rattle.mx_grammar.specs.declared.word.Word.{Word}
use Rattle.mx_grammar.specs.declared.word.Word.TheVariants as word
use Rattle.mx_grammar.specs.declared.word.Symbol.TheVariants as symbol
use Rattle.mx_grammar.specs.Grammar.{Spelling}
use Rattle.mx_expression.specs.Expressions.{Expressions}
use Rattle.mx_parse.specs.Displays.{NoBase, RefText, EntryText, Display}
use Rattle.mx_round_trip.proofs.Goes.{none, none_first}
use Rattle.mx_round_trip.proofs.Numbers.{glues}
use Rattle.mx_round_trip.proofs.Flat.{flat_both, flat_more}
use Rattle.mx_round_trip.proofs.Sources.{AreSaid, said_split}
use Rattle.mx_round_trip.proofs.Says.{Says}
use Rattle.mx_round_trip.proofs.Literals.{flat_quoted}
use Rattle.mx_round_trip.proofs.Expressions.{whole_says}
use Rattle.mx_round_trip.proofs.LineWords.{flat_colon_space, flat_curly}
use Rattle.mx_round_trip.proofs.Follows.{list_follows}

abbrev Refs : ℕ → List (List ℕ × Expr) → Spelling (List ℕ × Expr)
Refs e before = RefText (Expressions e) before

abbrev Entries : ℕ → List ItemEntry → Spelling ItemEntry
Entries e before = EntryText (Expressions e) before

ref_says : (d : ℕ) (before : List (List ℕ × Expr)) (u : List Word) (r : List ℕ × Expr) → AreSaid u → Refs d before u r → Says (λ e. Refs e before) d glues r (ref_text r)
ref_says d before _ _ said (RefText.ref {n} {u} {x} named fresh h) =
    let g = whole_says d u x said.1.1 h in
    record {
      words = word.Text n ∷ word.Symbol symbol.Colon ∷ g.words;
      spelled = λ e le. RefText.ref named fresh (g.spelled e le);
      flat = flat_both (flat_quoted n said.0) (flat_both flat_colon_space g.flat (λ rest _. none_first (whole x ++ rest))) (λ rest _. none_first ((codes ": " ++ whole x) ++ rest));
    }

base_says : (d : ℕ) (before : List ItemEntry) (x : Expr) → NoBase before → Says Expressions d glues x (whole x) → Says (λ e. Entries e before) d glues (entry.Base x) (entry_text (entry.Base x))
base_says d before x first g = record {
  words = word.Text (codes "base") ∷ word.Symbol symbol.Colon ∷ g.words;
  spelled = λ e le. EntryText.base first (g.spelled e le);
  flat = flat_both (flat_quoted (codes "base") refl) (flat_both flat_colon_space g.flat (λ rest _. none_first (whole x ++ rest))) (λ rest _. none_first ((codes ": " ++ whole x) ++ rest));
}

entry_says : (d : ℕ) (before : List ItemEntry) (u : List Word) (x : ItemEntry) → AreSaid u → Entries d before u x → Says (λ e. Entries e before) d glues x (entry_text x)
entry_says d before _ _ said (EntryText.refs {u} {refs} first h) =
    let s = list_follows Refs d glues ref_text refl (ref_says d) u refs (said_split u (word.Symbol symbol.CloseCurly ∷ []) said.1.1.1).0 h in
    let inner : Text = 123 ∷ commas (map ref_text refs) ++ 125 ∷ [] in
    record {
      words = word.Text (codes "refs") ∷ word.Symbol symbol.Colon ∷ word.Symbol symbol.OpenCurly ∷ s.words ++ word.Symbol symbol.CloseCurly ∷ [];
      spelled = λ e le. EntryText.refs first (s.spelled e le);
      flat = flat_more (flat_both (flat_quoted (codes "refs") refl) (flat_both flat_colon_space (flat_curly s.flat refl) (λ rest _. none_first (inner ++ rest))) (λ rest _. none_first ((codes ": " ++ inner) ++ rest))) (λ b _. refl);
    }
entry_says d before _ _ said (EntryText.base {u} {x} first h) = base_says d before x first (whole_says d u x said.1.1 h)
entry_says d before _ _ said (EntryText.bases {u} {x} first h) = base_says d before x first (whole_says d u x said.1.1 h)

pub display_says : (d : ℕ) (u : List Word) (entries : List ItemEntry) → AreSaid u → Display (Expressions d) u entries → Says (λ e. Display (Expressions e)) d none entries (display_text entries)
display_says d _ _ said (Display.display {u} {entries} h) =
    let s = list_follows Entries d glues entry_text refl (entry_says d) u entries (said_split u (word.Symbol symbol.CloseCurly ∷ []) said.1).0 h in
    record { words = word.Symbol symbol.OpenCurly ∷ s.words ++ word.Symbol symbol.CloseCurly ∷ []; spelled = λ e le. Display.display (s.spelled e le); flat = flat_curly s.flat refl }
