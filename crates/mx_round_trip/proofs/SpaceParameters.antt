-- The printed text of the parameters of a space spells them again.
use Rattle.std.proofs.Common.{◌≡◌, ℕ, ◌+◌, List, [], ◌∷◌, ◌++◌, map, Option, None, Some, refl, sym, ap, subst, arith}
use Rattle.std.specs.Prelude.{codes}
use Rattle.mx_syntax.specs.declared.expr.Expr.{Expr}
use Rattle.mx_syntax.specs.declared.stmt.Stmt.{Stmt}
use Rattle.mx_syntax.specs.declared.stmt.Stmt.TheVariants as stmt
use Rattle.mx_syntax.specs.declared.stmt.ItemEntry.{ItemEntry}
use Rattle.mx_syntax.specs.declared.stmt.Param.{Param}
use Rattle.mx_syntax.specs.declared.stmt.Params.{Params}
use Rattle.mx_print.specs.Texts.{Text}
use Rattle.mx_print.specs.Statements.{whole, display_text, block, stmt_lines, params_text, returned, one_line, lines_by, formula_lines, lines_text, print_params}
use Rattle.mx_grammar.specs.declared.word.Word.{Word}
use Rattle.mx_grammar.specs.declared.word.Word.TheVariants.{Symbol}
use Rattle.mx_grammar.specs.declared.word.Symbol.TheVariants as symbol
use Rattle.mx_grammar.specs.Grammar.{Within}
use Rattle.mx_grammar.specs.Spelling.{words_of}
use Rattle.mx_grammar.specs.Literals.{Literal}
use Rattle.mx_expression.specs.Expressions.{Expressions}
use Rattle.mx_parse.specs.Parameters.{SomeParameters}
use Rattle.mx_parse.specs.Displays.{Display}
use Rattle.mx_parse.specs.Statements.{ParamsText}
use Rattle.mx_parse.specs.Formulas as languages
use Rattle.mx_round_trip.specs.ReadBack.{ReadsBackWithin}
use Rattle.mx_round_trip.proofs.Goes.{none}
use Rattle.mx_round_trip.proofs.Numbers.{glues}
use Rattle.mx_round_trip.proofs.Sources.{AreSaid, said_split, said}
use Rattle.mx_round_trip.proofs.Says.{Says}
use Rattle.mx_round_trip.proofs.Expressions.{whole_says}
use Rattle.mx_round_trip.proofs.Parameters.{some_params_say}
use Rattle.mx_round_trip.proofs.Displays.{display_says}
use Rattle.mx_round_trip.proofs.SimpleStatements.{Returns, value_returns, item_returns}
use Rattle.mx_round_trip.proofs.Statements.{Items, BlockSays, in_block, body_says}
use Rattle.mx_round_trip.proofs.Blocks.{blocked}
use Rattle.mx_round_trip.proofs.Formulas.{Again, spells_in, one_line_lexed, assigned, headed}

abbrev pub Spaces : Items
Spaces k = Display (Expressions k)

abbrev ParamsSay : ℕ → List Param → Type 0
ParamsSay levels params = Says (λ e. SomeParameters (Within Literal e)) (levels + 1) none params (params_text params)

abbrev Read : List Param → Option (List Stmt) → Type 0
Read params body = Again languages.params_text (record { params = params; body = body }) (print_params (record { params = params; body = body }))

space_alone : (levels : ℕ) (params : List Param) → ParamsSay levels params → Read params None
space_alone levels params p = record {
  levels = levels;
  words = p.words ++ Symbol symbol.Newline ∷ [];
  spelled = ParamsText.alone (p.spelled (levels + 1) (omega arith));
  lexed = λ short. one_line_lexed _ p.words p.flat refl short;
}

space_value : (levels : ℕ) (params : List Param) (x : Expr) → ParamsSay levels params → Says Expressions (levels + 1) glues x (whole x) → Read params (Some (stmt.Return (Some x) ∷ []))
space_value levels params x p g =
    let body : List Stmt = stmt.Return (Some x) ∷ [] in
    let same : formula_lines params body ≡ (params_text params ++ (codes " = " ++ whole x)) ∷ [] = ap (λ (o : Option Text). lines_by params body o) (value_returns x) in
    subst (λ ls. Again languages.params_text (record { params = params; body = Some body }) (lines_text 0 ls)) (sym same)
    (record {
      levels = levels;
      words = p.words ++ Symbol symbol.Assign ∷ g.words ++ Symbol symbol.Newline ∷ [];
      spelled = ParamsText.value (p.spelled (levels + 1) (omega arith)) (g.spelled (levels + 1) (omega arith));
      lexed = λ short. assigned params p.words g.words (whole x) p.flat g.flat refl short;
    })

space_item : (levels : ℕ) (params : List Param) (entries : List ItemEntry) → ParamsSay levels params → Says Spaces (levels + 1) none entries (display_text entries) → Read params (Some (stmt.ReturnItem entries ∷ []))
space_item levels params entries p g =
    let body : List Stmt = stmt.ReturnItem entries ∷ [] in
    let same : formula_lines params body ≡ (params_text params ++ (codes " = " ++ display_text entries)) ∷ [] = ap (λ (o : Option Text). lines_by params body o) (item_returns entries) in
    subst (λ ls. Again languages.params_text (record { params = params; body = Some body }) (lines_text 0 ls)) (sym same)
    (record {
      levels = levels;
      words = p.words ++ Symbol symbol.Assign ∷ g.words ++ Symbol symbol.Newline ∷ [];
      spelled = ParamsText.item (p.spelled (levels + 1) (omega arith)) (g.spelled (levels + 1) (omega arith));
      lexed = λ short. assigned params p.words g.words (display_text entries) p.flat g.flat refl short;
    })

space_block : (levels : ℕ) (params : List Param) (s : Stmt) (others : List Stmt) → one_line (map returned (s ∷ others)) ≡ None → ParamsSay levels params → BlockSays Spaces (levels + 1) (levels + 1) s others → Read params (Some (s ∷ others))
space_block levels params s others long p h =
    let same : formula_lines params (s ∷ others) ≡ (params_text params ++ codes ":") ∷ block (map stmt_lines (s ∷ others)) = ap (λ (o : Option Text). lines_by params (s ∷ others) o) long in
    subst (λ ls. Again languages.params_text (record { params = params; body = Some (s ∷ others) }) (lines_text 0 ls)) (sym same)
    (record {
      levels = levels + 1;
      words = p.words ++ Symbol symbol.Colon ∷ blocked h.words;
      spelled = ParamsText.body (p.spelled (levels + 1 + 1) (omega arith)) (in_block Spaces (levels + 1) (levels + 1) s others h (levels + 1 + 1) (levels + 1 + 1) (omega arith) (omega arith));
      lexed = λ short. headed Spaces (levels + 1) (levels + 1) params p.words s others p.flat h short;
    })

space_body : (levels : ℕ) (params : List Param) (s : Stmt) (others : List Stmt) → ParamsSay levels params → BlockSays Spaces (levels + 1) (levels + 1) s others → Returns Spaces (levels + 1) s → Read params (Some (s ∷ others))
space_body levels params s (o ∷ os) p h r = space_block levels params s (o ∷ os) refl p h
space_body levels params _ [] p h (Returns.gives x g) = space_value levels params x p g
space_body levels params _ [] p h (Returns.shows entries g) = space_item levels params entries p g
space_body levels params _ [] p h (Returns.otherwise s long) = space_block levels params s [] long p h

params_again : (levels : ℕ) (ws : List Word) (x : Params) → AreSaid ws → languages.params_text levels ws x → Again languages.params_text x (print_params x)
params_again levels _ _ are (ParamsText.alone {u} {params} h) =
    space_alone levels params (some_params_say (levels + 1) u params (said_split u (Symbol symbol.Newline ∷ []) are).0 h)
params_again levels _ _ are (ParamsText.value {u} {v} {params} {x} h k) =
    let front = said_split (u ++ Symbol symbol.Assign ∷ v) (Symbol symbol.Newline ∷ []) are in
    let parts = said_split u (Symbol symbol.Assign ∷ v) front.0 in
    space_value levels params x (some_params_say (levels + 1) u params parts.0 h) (whole_says (levels + 1) v x parts.1.1 k)
params_again levels _ _ are (ParamsText.item {u} {v} {params} {entries} h k) =
    let front = said_split (u ++ Symbol symbol.Assign ∷ v) (Symbol symbol.Newline ∷ []) are in
    let parts = said_split u (Symbol symbol.Assign ∷ v) front.0 in
    space_item levels params entries (some_params_say (levels + 1) u params parts.0 h) (display_says (levels + 1) v entries parts.1.1 k)
params_again levels _ _ are (ParamsText.body {u} {v} {params} {body} h k) =
    let parts = said_split u (Symbol symbol.Colon ∷ v) are in
    let b = body_says Spaces (levels + 1) (display_says (levels + 1)) (levels + 1) v body parts.1.1 k in
    let inner = b.block in
    subst (λ l. Read params (Some l)) b.is (space_body levels params b.first b.others (some_params_say (levels + 1) u params parts.0 h) inner inner.returns)

pub params_back : (source : List ℕ) (x : Params) → ReadsBackWithin languages.params_text source x (print_params x)
params_back source x h short =
    let all : AreSaid (words_of source h.tokens) = said source h.tokens h.lexed in
    let parts : words_of source h.tokens ≡ h.spells.text ++ Symbol symbol.End ∷ [] = h.spells.parts in
    let text : AreSaid h.spells.text = (said_split h.spells.text (Symbol symbol.End ∷ []) (subst AreSaid parts all)).0 in
    spells_in languages.params_text x (print_params x) (params_again h.spells.levels h.spells.text x text h.spells.spelled) short
