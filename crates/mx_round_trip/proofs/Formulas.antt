-- The printed texts of formulas and of the parameters of spaces spell them again.
use Rattle.std.proofs.Common.{◌≡◌, ℕ, ◌+◌, ◌≤◌, List, [], ◌∷◌, ◌++◌, Bool, false, length, map, Option, None, Some, refl, sym, ap, subst, append_assoc, append-nil, arith}
use Rattle.std.specs.Prelude.{codes}
use Rattle.mx_syntax.specs.declared.expr.Expr.{Expr}
use Rattle.mx_syntax.specs.declared.stmt.Stmt.{Stmt}
use Rattle.mx_syntax.specs.declared.stmt.Stmt.TheVariants as stmt
use Rattle.mx_syntax.specs.declared.stmt.ItemEntry.{ItemEntry}
use Rattle.mx_syntax.specs.declared.stmt.Param.{Param}
use Rattle.mx_syntax.specs.declared.stmt.Formula.{Formula}
use Rattle.mx_print.specs.Texts.{Text}
use Rattle.mx_print.specs.Statements.{whole, display_text, block, stmt_lines, body_lines, params_text, returned, one_line, lines_by, formula_lines, lines_text, print}
use Rattle.mx_grammar.specs.declared.word.Word.{Word}
use Rattle.mx_grammar.specs.declared.word.Word.TheVariants.{Symbol}
use Rattle.mx_grammar.specs.declared.word.Symbol.TheVariants as symbol
use Rattle.mx_grammar.specs.Grammar.{Never, Within}
use Rattle.mx_grammar.specs.Spelling.{Language, SpellsIn, words_of}
use Rattle.mx_grammar.specs.Limits.{IsShort}
use Rattle.mx_grammar.specs.Literals.{Literal}
use Rattle.mx_expression.specs.Expressions.{Expressions}
use Rattle.mx_parse.specs.Parameters.{Parameters}
use Rattle.mx_parse.specs.Statements.{FormulaText}
use Rattle.mx_parse.specs.Formulas as languages
use Rattle.mx_round_trip.specs.ReadBack.{ReadsBackWithin}
use Rattle.mx_round_trip.proofs.Goes.{none, none_first}
use Rattle.mx_round_trip.proofs.Numbers.{glues}
use Rattle.mx_round_trip.proofs.Flat.{Flat, flat_both}
use Rattle.mx_round_trip.proofs.Sources.{AreSaid, said_split, said}
use Rattle.mx_round_trip.proofs.Says.{Says}
use Rattle.mx_round_trip.proofs.Short.{short_shallow}
use Rattle.mx_round_trip.proofs.Expressions.{whole_says}
use Rattle.mx_round_trip.proofs.LineWords as line
use Rattle.mx_round_trip.proofs.Blocks.{blocked, LinesLexed, head_lexed, line_lexed}
use Rattle.mx_round_trip.proofs.LineTexts.{block_in}
use Rattle.mx_round_trip.proofs.Parameters.{params_say}
use Rattle.mx_round_trip.proofs.SimpleStatements.{Returns, value_returns}
use Rattle.mx_round_trip.proofs.Statements.{Items, BlockSays, in_block, body_says}

-- a text that spells x, where it is short
pub record Again {A : Type 0} (L : Language A) (x : A) (text : List ℕ) : Type 0 where
  pub levels : ℕ
  pub words : List Word
  pub spelled : L levels words x
  pub lexed : length text ≤ 65536 → LinesLexed text words

pub spells_in : {A : Type 0} (L : Language A) (x : A) (text : List ℕ) → Again L x text → IsShort (Some text) → SpellsIn L text x
spells_in L x text h short =
    let l : LinesLexed text h.words = h.lexed short.0 in
    record {
      tokens = l.tokens;
      lexed = l.lexed;
      shallow = short_shallow text l.tokens short l.lexed;
      spells = record { levels = h.levels; text = h.words; parts = l.words; spelled = h.spelled };
    }

-- ---- the lines of a whole text

-- one line
pub one_line_lexed : (t : Text) (ws : List Word) {F : ℕ → Bool} → Flat F (40 ∷ t) ws → F 10 ≡ false → length (lines_text 0 ((40 ∷ t) ∷ [])) ≤ 65536 → LinesLexed (lines_text 0 ((40 ∷ t) ∷ [])) (ws ++ Symbol symbol.Newline ∷ [])
one_line_lexed t ws flat ends short =
    let same : lines_text 0 ((40 ∷ t) ∷ []) ≡ (40 ∷ t) ++ 10 ∷ [] = append-nil ((40 ∷ t) ++ 10 ∷ []) in
    subst (λ l. LinesLexed l (ws ++ Symbol symbol.Newline ∷ [])) (sym same) (line_lexed (40 ∷ t) ws flat ends refl (subst (λ l. length l ≤ 65536) same short))

-- what stands behind the parameters on one line
pub assigned : (params : List Param) (ps ws : List Word) (t : Text) {F : ℕ → Bool} → Flat none (params_text params) ps → Flat F t ws → F 10 ≡ false → length (lines_text 0 ((params_text params ++ (codes " = " ++ t)) ∷ [])) ≤ 65536
    → LinesLexed (lines_text 0 ((params_text params ++ (codes " = " ++ t)) ∷ [])) (ps ++ Symbol symbol.Assign ∷ ws ++ Symbol symbol.Newline ∷ [])
assigned params ps ws t flat value ends short =
    let behind : Flat _ (codes " = " ++ t) (Symbol symbol.Assign ∷ ws) = flat_both line.flat_assign value (λ rest _. none_first (t ++ rest)) in
    one_line_lexed _ (ps ++ Symbol symbol.Assign ∷ ws) (flat_both flat behind (λ rest _. none_first ((codes " = " ++ t) ++ rest))) ends short

-- a head and a block
pub headed : (Item : Items) (d c : ℕ) (params : List Param) (ps : List Word) (s : Stmt) (others : List Stmt) → Flat none (params_text params) ps → (h : BlockSays Item d c s others)
    → length (lines_text 0 ((params_text params ++ codes ":") ∷ block (map stmt_lines (s ∷ others)))) ≤ 65536
    → LinesLexed (lines_text 0 ((params_text params ++ codes ":") ∷ block (map stmt_lines (s ∷ others)))) (ps ++ Symbol symbol.Colon ∷ blocked h.words)
headed Item d c params ps s others flat h short =
    let t : Text = params_text params ++ codes ":" in
    let body : Text = lines_text 1 (body_lines (s ∷ others)) in
    let same : lines_text 0 (t ∷ block (map stmt_lines (s ∷ others))) ≡ (t ++ 10 ∷ []) ++ body = ap (λ (l : Text). (t ++ 10 ∷ []) ++ l) (block_in 0 (s ∷ others)) in
    let head : Flat none t (ps ++ Symbol symbol.Colon ∷ []) = flat_both flat line.flat_colon (λ rest _. none_first (codes ":" ++ rest)) in
    let words : (ps ++ Symbol symbol.Colon ∷ []) ++ blocked h.words ≡ ps ++ Symbol symbol.Colon ∷ blocked h.words = append_assoc ps (Symbol symbol.Colon ∷ []) (blocked h.words) in
    subst (LinesLexed (lines_text 0 (t ∷ block (map stmt_lines (s ∷ others))))) words
    (subst (λ l. LinesLexed l ((ps ++ Symbol symbol.Colon ∷ []) ++ blocked h.words)) (sym same)
    (head_lexed t body (ps ++ Symbol symbol.Colon ∷ []) h.words head refl refl (h.runs 1) (subst (λ l. length l ≤ 65536) same short)))

-- ---- formulas of cells

pub no_items : (d : ℕ) (u : List Word) (entries : List ItemEntry) → AreSaid u → Never u entries → Says (λ k. Never) d none entries (display_text entries)
no_items d u entries are h = absurd h

abbrev pub Cells : Items
Cells k = Never

formula_value : (levels : ℕ) (params : List Param) (x : Expr) → Says (λ e. Parameters (Within Literal e)) (levels + 1) none params (params_text params) → Says Expressions (levels + 1) glues x (whole x)
    → Again languages.formula_text (record { params = params; body = stmt.Return (Some x) ∷ [] }) (print (record { params = params; body = stmt.Return (Some x) ∷ [] }))
formula_value levels params x p g =
    let body : List Stmt = stmt.Return (Some x) ∷ [] in
    let same : formula_lines params body ≡ (params_text params ++ (codes " = " ++ whole x)) ∷ [] = ap (λ (o : Option Text). lines_by params body o) (value_returns x) in
    subst (λ ls. Again languages.formula_text (record { params = params; body = body }) (lines_text 0 ls)) (sym same)
    (record {
      levels = levels;
      words = p.words ++ Symbol symbol.Assign ∷ g.words ++ Symbol symbol.Newline ∷ [];
      spelled = FormulaText.value (p.spelled (levels + 1) (omega arith)) (g.spelled (levels + 1) (omega arith));
      lexed = λ short. assigned params p.words g.words (whole x) p.flat g.flat refl short;
    })

formula_block : (levels : ℕ) (params : List Param) (s : Stmt) (others : List Stmt) → one_line (map returned (s ∷ others)) ≡ None → Says (λ e. Parameters (Within Literal e)) (levels + 1) none params (params_text params) → BlockSays Cells (levels + 1) (levels + 1) s others
    → Again languages.formula_text (record { params = params; body = s ∷ others }) (print (record { params = params; body = s ∷ others }))
formula_block levels params s others long p h =
    let same : formula_lines params (s ∷ others) ≡ (params_text params ++ codes ":") ∷ block (map stmt_lines (s ∷ others)) = ap (λ (o : Option Text). lines_by params (s ∷ others) o) long in
    subst (λ ls. Again languages.formula_text (record { params = params; body = s ∷ others }) (lines_text 0 ls)) (sym same)
    (record {
      levels = levels + 1;
      words = p.words ++ Symbol symbol.Colon ∷ blocked h.words;
      spelled = FormulaText.body (p.spelled (levels + 1 + 1) (omega arith)) (in_block Cells (levels + 1) (levels + 1) s others h (levels + 1 + 1) (levels + 1 + 1) (omega arith) (omega arith));
      lexed = λ short. headed Cells (levels + 1) (levels + 1) params p.words s others p.flat h short;
    })

-- a body that is printed on one line, or in a block
formula_body : (levels : ℕ) (params : List Param) (s : Stmt) (others : List Stmt) → Says (λ e. Parameters (Within Literal e)) (levels + 1) none params (params_text params) → BlockSays Cells (levels + 1) (levels + 1) s others → Returns Cells (levels + 1) s
    → Again languages.formula_text (record { params = params; body = s ∷ others }) (print (record { params = params; body = s ∷ others }))
formula_body levels params s (o ∷ os) p h r = formula_block levels params s (o ∷ os) refl p h
formula_body levels params _ [] p h (Returns.gives x g) = formula_value levels params x p g
formula_body levels params _ [] p h (Returns.shows entries g) = absurd (g.spelled (levels + 1) (omega arith))
formula_body levels params _ [] p h (Returns.otherwise s long) = formula_block levels params s [] long p h

formula_again : (levels : ℕ) (ws : List Word) (f : Formula) → AreSaid ws → languages.formula_text levels ws f → Again languages.formula_text f (print f)
formula_again levels _ _ are (FormulaText.value {u} {v} {params} {x} h k) =
    let front = said_split (u ++ Symbol symbol.Assign ∷ v) (Symbol symbol.Newline ∷ []) are in
    let parts = said_split u (Symbol symbol.Assign ∷ v) front.0 in
    formula_value levels params x (params_say (levels + 1) u params parts.0 h) (whole_says (levels + 1) v x parts.1.1 k)
formula_again levels _ _ are (FormulaText.body {u} {v} {params} {body} h k) =
    let parts = said_split u (Symbol symbol.Colon ∷ v) are in
    let b = body_says Cells (levels + 1) (no_items (levels + 1)) (levels + 1) v body parts.1.1 k in
    let inner = b.block in
    subst (λ l. Again languages.formula_text (record { params = params; body = l }) (print (record { params = params; body = l }))) b.is
    (formula_body levels params b.first b.others (params_say (levels + 1) u params parts.0 h) inner inner.returns)

pub formula_back : (source : List ℕ) (f : Formula) → ReadsBackWithin languages.formula_text source f (print f)
formula_back source f h short =
    let all : AreSaid (words_of source h.tokens) = said source h.tokens h.lexed in
    let parts : words_of source h.tokens ≡ h.spells.text ++ Symbol symbol.End ∷ [] = h.spells.parts in
    let text : AreSaid h.spells.text = (said_split h.spells.text (Symbol symbol.End ∷ []) (subst AreSaid parts all)).0 in
    spells_in languages.formula_text f (print f) (formula_again h.spells.levels h.spells.text f text h.spells.spelled) short
