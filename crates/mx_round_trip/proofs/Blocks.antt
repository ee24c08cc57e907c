-- Lines and blocks, one behind the other. A block's DEDENT is read where the next line begins, or at the end.
use Rattle.std.proofs.Common.{◌≡◌, ℕ, ◌+◌, ◌-◌, ◌≤◌, zero, suc, List, [], ◌∷◌, ◌++◌, Bool, true, false, ◌==◌, length, refl, sym, ap, ◌∙◌, subst, append_assoc, append-nil, Ok, arith}
use Rattle.std.proofs.lemmas.List.{map-append}
use Rattle.std.proofs.lemmas.Bool.Decides.{nat_tests}
use Rattle.mx_lex.specs.Bytes.{first_passes}
use Rattle.mx_lex.specs.Heads.{empty_token}
use Rattle.mx_lex.specs.Lexing.{Reading, closing_at, dedents_at, tokens_before, tokens_from, tokens_of}
use Rattle.mx_lex.specs.declared.Token.{Token}
use Rattle.mx_lex.specs.declared.TokenKind.TheVariants as kind
use Rattle.mx_lex.proofs.Loop.{at_end, tokens_of_short}
use Rattle.mx_print.specs.Statements.{line_text}
use Rattle.mx_grammar.specs.declared.word.Word.{Word}
use Rattle.mx_grammar.specs.declared.word.Word.TheVariants.{Symbol}
use Rattle.mx_grammar.specs.declared.word.Symbol.TheVariants as symbol
use Rattle.mx_grammar.specs.Spelling.{words_of}
use Rattle.mx_grammar.specs.Words.{word_of}
use Rattle.mx_round_trip.proofs.Goes.{Goes, Reads, then_reads, none, none_first}
use Rattle.mx_round_trip.proofs.Pieces.{inside}
use Rattle.mx_round_trip.proofs.Flat.{Flat}
use Rattle.mx_round_trip.proofs.Printed.{starts}
use Rattle.mx_round_trip.proofs.Whole.{from_inside_all}
use Rattle.mx_round_trip.proofs.Lines.{wide, stack_of, dedents, dedent_words, say_dedents, dedent_last, Opens, opens_deeper, opens_inner, at_start, reads_line_end, margin_reads}

-- A text that begins so many levels in. It gives the words of the opening, and then all of ws but for DEDENTs that what stands behind it
-- gives.
pub record Ran (r : Reading) (m : ℕ) (opening : List Word) (text : List ℕ) (ws : List Word) : Type 0 where
  pub behind : ℕ
  pub deep : m ≤ behind
  pub line : ℕ
  pub given : List Word
  pub reads : Reads none r text (opening ++ given) (at_start line (stack_of behind))
  pub is : given ++ dedent_words (behind - m) ≡ ws

pub record Runs (m : ℕ) (text : List ℕ) (ws : List Word) : Type 0 where
  pub from : (number a : ℕ) (opening : List Word) → Opens a m opening → Ran (at_start number (stack_of a)) m opening text ws

pub passes_front : (p : ℕ → Bool) (t rest : List ℕ) → first_passes p t ≡ true → first_passes p (t ++ rest) ≡ true
passes_front p [] rest h = absurd cc
passes_front p (b ∷ bs) rest h = h

-- a line from inside of it
line_inside : {F : ℕ → Bool} (m number : ℕ) (t : List ℕ) (ws : List Word) → Flat F t ws → F 10 ≡ false → Reads none (inside number 0 (stack_of m)) (t ++ 10 ∷ []) (ws ++ Symbol symbol.Newline ∷ []) (at_start (number + 1) (stack_of m))
line_inside m number t ws flat ends = then_reads (flat.reads number 0 (stack_of m)) (reads_line_end number (stack_of m)) (λ rest _. ends)

-- a line at its margin
line_reads : {F : ℕ → Bool} (m number a : ℕ) (opening : List Word) → Opens a m opening → (t : List ℕ) (ws : List Word) → Flat F t ws → F 10 ≡ false → first_passes starts t ≡ true
    → Reads none (at_start number (stack_of a)) (line_text m t) (opening ++ (ws ++ Symbol symbol.Newline ∷ [])) (at_start (number + 1) (stack_of m))
line_reads m number a opening opens t ws flat ends first = margin_reads a m number opens (passes_front starts t (10 ∷ []) first) (line_inside m number t ws flat ends)

pub line_runs : {F : ℕ → Bool} (m : ℕ) (t : List ℕ) (ws : List Word) → Flat F t ws → F 10 ≡ false → first_passes starts t ≡ true → Runs m (line_text m t) (ws ++ Symbol symbol.Newline ∷ [])
line_runs m t ws flat ends first = record {
  from = λ number a opening opens. record {
    behind = m;
    deep = omega arith;
    line = number + 1;
    given = ws ++ Symbol symbol.Newline ∷ [];
    reads = line_reads m number a opening opens t ws flat ends first;
    is = let k : m - m ≡ 0 = omega arith in ap (λ n. (ws ++ Symbol symbol.Newline ∷ []) ++ dedent_words n) k ∙ append-nil (ws ++ Symbol symbol.Newline ∷ []);
  };
}

-- one text behind another
ran_then : {r : Reading} (m : ℕ) (opening : List Word) (t u : List ℕ) (ws vs : List Word) → Ran r m opening t ws → Runs m u vs → Ran r m opening (t ++ u) (ws ++ vs)
ran_then {r} m opening t u ws vs g runs =
    let d : List Word = dedent_words (g.behind - m) in
    let h = runs.from g.line g.behind d (opens_deeper g.behind m g.deep) in
    let e : List Word = dedent_words (h.behind - m) in
    record {
      behind = h.behind;
      deep = h.deep;
      line = h.line;
      given = g.given ++ (d ++ h.given);
      reads = subst (λ l. Reads none r (t ++ u) l (at_start h.line (stack_of h.behind))) (append_assoc opening g.given (d ++ h.given)) (then_reads g.reads h.reads (λ rest _. none_first (u ++ rest)));
      is =
          append_assoc g.given (d ++ h.given) e ∙ ap (λ l. g.given ++ l) (append_assoc d h.given e ∙ ap (λ l. d ++ l) h.is)
          ∙ sym (append_assoc g.given d vs) ∙ ap (λ l. l ++ vs) g.is;
    }

pub then_runs : (m : ℕ) (t u : List ℕ) (ws vs : List Word) → Runs m t ws → Runs m u vs → Runs m (t ++ u) (ws ++ vs)
then_runs m t u ws vs g h = record { from = λ number a opening opens. ran_then m opening t u ws vs (g.from number a opening opens) h }

-- what may stand behind, or nothing
pub data MayRun (m : ℕ) : List ℕ → List Word → Type 0 where
  nothing : MayRun m [] []
  some : {t : List ℕ} {ws : List Word} → Runs m t ws → MayRun m t ws

pub then_may : (m : ℕ) (t u : List ℕ) (ws vs : List Word) → Runs m t ws → MayRun m u vs → Runs m (t ++ u) (ws ++ vs)
then_may m t _ ws _ g MayRun.nothing = subst (λ l. Runs m l (ws ++ [])) (sym (append-nil t)) (subst (Runs m t) (sym (append-nil ws)) g)
then_may m t _ ws _ g (MayRun.some {t = u} {ws = vs} h) = then_runs m t u ws vs g h

-- the words of a block of these
abbrev pub blocked : List Word → List Word
blocked ws = Symbol symbol.Newline ∷ Symbol symbol.Indent ∷ ws ++ Symbol symbol.Dedent ∷ []

regroup : (ws given d vs : List Word) → given ++ d ≡ vs → ((ws ++ Symbol symbol.Newline ∷ []) ++ Symbol symbol.Indent ∷ given) ++ (d ++ Symbol symbol.Dedent ∷ []) ≡ ws ++ blocked vs
regroup ws given d vs e =
    append_assoc (ws ++ Symbol symbol.Newline ∷ []) (Symbol symbol.Indent ∷ given) (d ++ Symbol symbol.Dedent ∷ [])
    ∙ append_assoc ws (Symbol symbol.Newline ∷ []) (Symbol symbol.Indent ∷ (given ++ (d ++ Symbol symbol.Dedent ∷ [])))
    ∙ ap (λ l. ws ++ (Symbol symbol.Newline ∷ Symbol symbol.Indent ∷ l)) (sym (append_assoc given d (Symbol symbol.Dedent ∷ [])) ∙ ap (λ l. l ++ Symbol symbol.Dedent ∷ []) e)

-- a line before a block
block_ran : {r : Reading} (m number : ℕ) (opening : List Word) (t u : List ℕ) (ws vs : List Word) → Reads none r t (opening ++ (ws ++ Symbol symbol.Newline ∷ [])) (at_start number (stack_of m)) → Runs (suc m) u vs → Ran r m opening (t ++ u) (ws ++ blocked vs)
block_ran {r} m number opening t u ws vs head runs =
    let h = runs.from number m (Symbol symbol.Indent ∷ []) (opens_inner m) in
    let given : List Word = (ws ++ Symbol symbol.Newline ∷ []) ++ Symbol symbol.Indent ∷ h.given in
    let inner : suc m ≤ h.behind = h.deep in
    let count : h.behind - m ≡ suc (h.behind - suc m) = omega arith in
    record {
      behind = h.behind;
      deep = omega arith;
      line = h.line;
      given = given;
      reads = subst (λ l. Reads none r (t ++ u) l (at_start h.line (stack_of h.behind))) (append_assoc opening (ws ++ Symbol symbol.Newline ∷ []) (Symbol symbol.Indent ∷ h.given)) (then_reads head h.reads (λ rest _. none_first (u ++ rest)));
      is = ap (λ n. given ++ dedent_words n) count ∙ ap (λ l. given ++ l) (dedent_last (h.behind - suc m)) ∙ regroup ws h.given (dedent_words (h.behind - suc m)) vs h.is;
    }

pub block_runs : {F : ℕ → Bool} (m : ℕ) (t u : List ℕ) (ws vs : List Word) → Flat F t ws → F 10 ≡ false → first_passes starts t ≡ true → Runs (suc m) u vs → Runs m (line_text m t ++ u) (ws ++ blocked vs)
block_runs m t u ws vs flat ends first runs = record { from = λ number a opening opens. block_ran m (number + 1) opening (line_text m t) u ws vs (line_reads m number a opening opens t ws flat ends first) runs }

-- ---- whole texts

closed_dedents : (at c : ℕ) → dedents_at at (stack_of c) ≡ dedents c at
closed_dedents at zero = refl
closed_dedents at (suc c) =
    let more : (4 + wide c == 0) ≡ false = grind (arith, nat_tests) in
    rw more (ap (λ l. empty_token kind.Dedent at ∷ l) (closed_dedents at c))

closing_lines : (at line c : ℕ) → closing_at at (at_start line (stack_of c)) ≡ dedents c at ++ empty_token kind.End at ∷ []
unfolding closing_at
closing_lines at line c = ap (λ l. l ++ empty_token kind.End at ∷ []) (closed_dedents at c)

-- the tokens of a whole text, and what they say
pub record LinesLexed (text : List ℕ) (ws : List Word) : Type 0 where
  pub tokens : List Token
  pub lexed : tokens_of text ≡ Ok tokens
  pub words : words_of text tokens ≡ ws ++ Symbol symbol.End ∷ []

lexed_lines : (text : List ℕ) (ws : List Word) → first_passes starts text ≡ true → length text ≤ 65536 → Ran (inside 1 0 (0 ∷ [])) 0 [] text ws → LinesLexed text ws
lexed_lines text ws first short ran =
    let r : Reading = inside 1 0 (0 ∷ []) in
    let s : Reading = at_start ran.line (stack_of ran.behind) in
    let reads = ran.reads in
    let g : Goes r [] text [] ran.given s = reads.goes [] [] refl in
    let at : ℕ = 0 + length text in
    let ending : List Token = dedents ran.behind at ++ empty_token kind.End at ∷ [] in
    let all : text ++ [] ≡ text = append-nil text in
    let given : words_of text g.tokens ≡ ran.given = ap (λ l. words_of l g.tokens) (sym all) ∙ g.words in
    let left : ran.behind - 0 ≡ ran.behind = omega arith in
    let dedent : words_of text (dedents ran.behind at) ≡ dedent_words ran.behind = say_dedents text ran.behind at in
    record {
      tokens = g.tokens ++ ending;
      lexed =
          tokens_of_short text short ∙ from_inside_all text first ∙ ap (λ l. tokens_from l 0 0 r) (sym all) ∙ g.lexed
          ∙ ap (tokens_before g.tokens) (at_end at s ∙ ap (λ l. Ok l) (closing_lines at ran.line ran.behind));
      words =
          map-append (word_of text) g.tokens ending
          ∙ ap (λ l. l ++ words_of text ending) given
          ∙ ap (λ l. ran.given ++ l) (map-append (word_of text) (dedents ran.behind at) (empty_token kind.End at ∷ []) ∙ ap (λ l. l ++ Symbol symbol.End ∷ []) (dedent ∙ ap dedent_words (sym left)))
          ∙ sym (append_assoc ran.given (dedent_words (ran.behind - 0)) (Symbol symbol.End ∷ []))
          ∙ ap (λ l. l ++ Symbol symbol.End ∷ []) ran.is;
    }

-- a text of a line and a block behind it
pub head_lexed : {F : ℕ → Bool} (t u : List ℕ) (ws vs : List Word) → Flat F t ws → F 10 ≡ false → first_passes starts t ≡ true → Runs 1 u vs → length ((t ++ 10 ∷ []) ++ u) ≤ 65536 → LinesLexed ((t ++ 10 ∷ []) ++ u) (ws ++ blocked vs)
head_lexed t u ws vs flat ends first runs short =
    lexed_lines ((t ++ 10 ∷ []) ++ u) (ws ++ blocked vs) (passes_front starts (t ++ 10 ∷ []) u (passes_front starts t (10 ∷ []) first)) short
    (block_ran 0 2 [] (t ++ 10 ∷ []) u ws vs (line_inside 0 1 t ws flat ends) runs)

-- a text of one line, with its end
pub line_lexed : {F : ℕ → Bool} (t : List ℕ) (ws : List Word) → Flat F t ws → F 10 ≡ false → first_passes starts t ≡ true → length (t ++ 10 ∷ []) ≤ 65536 → LinesLexed (t ++ 10 ∷ []) (ws ++ Symbol symbol.Newline ∷ [])
line_lexed t ws flat ends first short =
    lexed_lines (t ++ 10 ∷ []) (ws ++ Symbol symbol.Newline ∷ []) (passes_front starts t (10 ∷ []) first) short
    (record { behind = 0; deep = omega arith; line = 2; given = ws ++ Symbol symbol.Newline ∷ []; reads = line_inside 0 1 t ws flat ends; is = append-nil (ws ++ Symbol symbol.Newline ∷ []) })
