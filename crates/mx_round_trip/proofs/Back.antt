-- A line whose printed text is read back.
use Rattle.std.proofs.Common.{◌≡◌, ℕ, ◌≤◌, List, [], ◌∷◌, ◌++◌, Bool, length, sym, ◌∙◌, subst, append_assoc, arith}
use Rattle.mx_value.specs.declared.value.Value.{Value}
use Rattle.mx_print.specs.Values.{value_text}
use Rattle.mx_grammar.specs.declared.word.Word.{Word}
use Rattle.mx_grammar.specs.declared.word.Word.TheVariants.{Symbol}
use Rattle.mx_grammar.specs.declared.word.Symbol.TheVariants.{Newline, End}
use Rattle.mx_grammar.specs.Grammar.{Spelling, Line, Within}
use Rattle.mx_grammar.specs.Spelling.{SpellsIn, Shallow, words_of, unopened}
use Rattle.mx_grammar.specs.Literals.{Literal, literal_text}
use Rattle.mx_round_trip.specs.ReadBack.{ReadsBack}
use Rattle.mx_round_trip.proofs.Counts.{shallow_split, after_closed}
use Rattle.mx_round_trip.proofs.Printed.{Again}
use Rattle.mx_round_trip.proofs.Sources.{AreSaid, said_split, said}
use Rattle.mx_round_trip.proofs.Whole.{Lexed, whole_line}
use Rattle.mx_round_trip.proofs.Numbers.{glues}
use Rattle.mx_round_trip.proofs.Literals.{within_again}

module _ {A : Type 0} (R : ℕ → Spelling A) (F : ℕ → Bool) (text : A → List ℕ) (again : (levels : ℕ) (u : List Word) (x : A) → AreSaid u → R levels u x → Again F (R levels) u x (text x)) where
  -- from what the line spells to what its printed text does
  pub line_back : (levels : ℕ) (ws line : List Word) (x : A) → ws ≡ line ++ Symbol End ∷ [] → AreSaid ws → Shallow 64 unopened ws → Line (R levels) line x → length (text x) ≤ 65536 → SpellsIn (λ l. Line (R l)) (text x) x
  line_back levels ws _ x parts are shallow (Line.line {u} h) short =
      let given : ws ≡ u ++ Symbol Newline ∷ Symbol End ∷ [] = parts ∙ append_assoc u (Symbol Newline ∷ []) (Symbol End ∷ []) in
      let said_u : AreSaid u = (said_split u (Symbol Newline ∷ Symbol End ∷ []) (subst AreSaid given are)).0 in
      let shallow_u : Shallow 64 unopened u = (shallow_split 64 unopened u (Symbol Newline ∷ Symbol End ∷ []) (subst (Shallow 64 unopened) given shallow)).0 in
      let a : Again F (R levels) u x (text x) = again levels u x said_u h in
      let l : Lexed (text x) a.words = whole_line (text x) a.words a.flat a.starts short in
      let low : Shallow 64 unopened (a.words ++ Symbol Newline ∷ Symbol End ∷ []) = after_closed 64 unopened a.words (Symbol Newline ∷ Symbol End ∷ []) a.closed (a.few.shallow 64 unopened shallow_u) (omega arith, (omega arith, tt)) in
      record {
        tokens = l.tokens;
        lexed = l.lexed;
        shallow = subst (Shallow 64 unopened) (sym l.words) low;
        spells = record {
          levels = levels;
          text = a.words ++ Symbol Newline ∷ [];
          parts = l.words ∙ sym (append_assoc a.words (Symbol Newline ∷ []) (Symbol End ∷ []));
          spelled = Line.line a.spelled;
        };
      }

  pub reads_back : (source : List ℕ) (x : A) → ReadsBack (λ l. Line (R l)) source x (text x)
  reads_back source x h short =
      line_back h.spells.levels (words_of source h.tokens) h.spells.text x h.spells.parts (said source h.tokens h.lexed) h.shallow h.spells.spelled short

pub literal_back : (source : List ℕ) (v : Value) → ReadsBack literal_text source v (value_text v)
literal_back = reads_back (Within Literal) glues value_text within_again
