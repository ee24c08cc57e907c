-- The printed text of what a source spells is cut at its line feeds into its lines.
use Rattle.std.proofs.Common.{◌≡◌, ℕ, ◌+◌, Bool, List, [], ◌∷◌, ◌++◌, true, map, Option, None, Some, refl, sym, ap, ◌∙◌, subst}
use Rattle.std.specs.Prelude.{codes, is_some, if◌then◌else◌}
use Rattle.mx_syntax.specs.declared.stmt.Stmt.{Stmt}
use Rattle.mx_syntax.specs.declared.stmt.Stmt.TheVariants as stmt
use Rattle.mx_syntax.specs.declared.stmt.IfArm.{IfArm}
use Rattle.mx_syntax.specs.declared.stmt.Param.{Param}
use Rattle.mx_syntax.specs.declared.stmt.Formula.{Formula}
use Rattle.mx_syntax.specs.declared.stmt.Params.{Params}
use Rattle.mx_print.specs.Texts.{Text}
use Rattle.mx_print.specs.Statements.{whole, display_text, block, stmt_lines, body_lines, params_text, returned, one_line, lines_by, formula_lines, params_lines, lines_text, print_params}
use Rattle.mx_syntax.specs.Heights.{arms_height, first_line}
use Rattle.mx_print.specs.Lines.{AtLine, HeightsCountLines, Stands, arm_head, is_first, split, StatementsStand, ArmsStand, TextHasItsLines}
use Rattle.mx_grammar.specs.declared.word.Word.{Word}
use Rattle.mx_grammar.specs.declared.word.Word.TheVariants.{Symbol}
use Rattle.mx_grammar.specs.declared.word.Symbol.TheVariants as symbol
use Rattle.mx_grammar.specs.Spelling.{SpellsIn, words_of}
use Rattle.mx_parse.specs.Statements.{FormulaText, ParamsText}
use Rattle.mx_parse.specs.Formulas as languages
use Rattle.mx_round_trip.specs.ParsedLines.{HasItsLines}
use Rattle.mx_round_trip.proofs.Plain.{is_plain, are_plain, plain_both, line_plain_before, plain_no_feeds}
use Rattle.mx_round_trip.proofs.Sources.{AreSaid, said_split, said}
use Rattle.mx_round_trip.proofs.Expressions.{whole_says}
use Rattle.mx_round_trip.proofs.Parameters.{params_say, some_params_say}
use Rattle.mx_round_trip.proofs.Displays.{display_says}
use Rattle.mx_round_trip.proofs.SimpleStatements.{Returns, value_returns, item_returns}
use Rattle.mx_round_trip.proofs.Statements.{Items, body_says, block_plain, for_returns, if_returns}
use Rattle.mx_round_trip.proofs.Formulas.{Cells, no_items}
use Rattle.mx_round_trip.proofs.SpaceParameters.{Spaces}
use Rattle.mx_round_trip.proofs.Within.{stands_within}

-- ---- the lines are printable

-- on one line
shown_plain : (params : List Param) (body : List Stmt) (t : Text) → one_line (map returned body) ≡ Some t → is_plain (params_text params) ≡ true → is_plain t ≡ true → are_plain (formula_lines params body) ≡ true
shown_plain params body t one p g =
    let line : Text = params_text params ++ (codes " = " ++ t) in
    subst (λ (o : Option Text). are_plain (lines_by params body o) ≡ true) (sym one) (line_plain_before line [] (plain_both (params_text params) (codes " = " ++ t) p g) refl)

-- a head and a block
long_plain : (params : List Param) (body : List Stmt) → one_line (map returned body) ≡ None → is_plain (params_text params) ≡ true → are_plain (body_lines body) ≡ true → are_plain (formula_lines params body) ≡ true
long_plain params body long p h =
    let head : Text = params_text params ++ codes ":" in
    subst (λ (o : Option Text). are_plain (lines_by params body o) ≡ true) (sym long) (line_plain_before head (block (map stmt_lines body)) (plain_both (params_text params) (codes ":") p refl) (block_plain body h))

body_plain : (Item : Items) (d : ℕ) (params : List Param) (s : Stmt) (others : List Stmt) → is_plain (params_text params) ≡ true → are_plain (body_lines (s ∷ others)) ≡ true → Returns Item d s → are_plain (formula_lines params (s ∷ others)) ≡ true
body_plain Item d params s (o ∷ os) p h r = long_plain params (s ∷ o ∷ os) refl p h
body_plain Item d params _ [] p h (Returns.gives x g) = shown_plain params (stmt.Return (Some x) ∷ []) (whole x) (value_returns x) p g.flat.plain
body_plain Item d params _ [] p h (Returns.shows entries g) = shown_plain params (stmt.ReturnItem entries ∷ []) (display_text entries) (item_returns entries) p g.flat.plain
body_plain Item d params _ [] p h (Returns.otherwise s long) = long_plain params (s ∷ []) long p h

formula_plain : (levels : ℕ) (ws : List Word) (f : Formula) → AreSaid ws → languages.formula_text levels ws f → are_plain (formula_lines f.params f.body) ≡ true
formula_plain levels _ _ are (FormulaText.value {u} {v} {params} {x} h k) =
    let front = said_split (u ++ Symbol symbol.Assign ∷ v) (Symbol symbol.Newline ∷ []) are in
    let parts = said_split u (Symbol symbol.Assign ∷ v) front.0 in
    let p = params_say (levels + 1) u params parts.0 h in
    let g = whole_says (levels + 1) v x parts.1.1 k in
    shown_plain params (stmt.Return (Some x) ∷ []) (whole x) (value_returns x) p.flat.plain g.flat.plain
formula_plain levels _ _ are (FormulaText.body {u} {v} {params} {body} h k) =
    let parts = said_split u (Symbol symbol.Colon ∷ v) are in
    let p = params_say (levels + 1) u params parts.0 h in
    let b = body_says Cells (levels + 1) (no_items (levels + 1)) (levels + 1) v body parts.1.1 k in
    let inner = b.block in
    subst (λ l. are_plain (formula_lines params l) ≡ true) b.is (body_plain Cells (levels + 1) params b.first b.others p.flat.plain inner.plain inner.returns)

params_plain : (levels : ℕ) (ws : List Word) (x : Params) → AreSaid ws → languages.params_text levels ws x → are_plain (params_lines x.params x.body) ≡ true
params_plain levels _ _ are (ParamsText.alone {u} {params} h) =
    let p = some_params_say (levels + 1) u params (said_split u (Symbol symbol.Newline ∷ []) are).0 h in
    line_plain_before (params_text params) [] p.flat.plain refl
params_plain levels _ _ are (ParamsText.value {u} {v} {params} {x} h k) =
    let front = said_split (u ++ Symbol symbol.Assign ∷ v) (Symbol symbol.Newline ∷ []) are in
    let parts = said_split u (Symbol symbol.Assign ∷ v) front.0 in
    let p = some_params_say (levels + 1) u params parts.0 h in
    let g = whole_says (levels + 1) v x parts.1.1 k in
    shown_plain params (stmt.Return (Some x) ∷ []) (whole x) (value_returns x) p.flat.plain g.flat.plain
params_plain levels _ _ are (ParamsText.item {u} {v} {params} {entries} h k) =
    let front = said_split (u ++ Symbol symbol.Assign ∷ v) (Symbol symbol.Newline ∷ []) are in
    let parts = said_split u (Symbol symbol.Assign ∷ v) front.0 in
    let p = some_params_say (levels + 1) u params parts.0 h in
    let g = display_says (levels + 1) v entries parts.1.1 k in
    shown_plain params (stmt.ReturnItem entries ∷ []) (display_text entries) (item_returns entries) p.flat.plain g.flat.plain
params_plain levels _ _ are (ParamsText.body {u} {v} {params} {body} h k) =
    let parts = said_split u (Symbol symbol.Colon ∷ v) are in
    let p = some_params_say (levels + 1) u params parts.0 h in
    let b = body_says Spaces (levels + 1) (display_says (levels + 1)) (levels + 1) v body parts.1.1 k in
    let inner = b.block in
    subst (λ l. are_plain (formula_lines params l) ≡ true) b.is (body_plain Spaces (levels + 1) params b.first b.others p.flat.plain inner.plain inner.returns)

formula_lines_plain : (source : List ℕ) (f : Formula) → SpellsIn languages.formula_text source f → are_plain (formula_lines f.params f.body) ≡ true
formula_lines_plain source f h =
    let all : AreSaid (words_of source h.tokens) = said source h.tokens h.lexed in
    let parts : words_of source h.tokens ≡ h.spells.text ++ Symbol symbol.End ∷ [] = h.spells.parts in
    let text : AreSaid h.spells.text = (said_split h.spells.text (Symbol symbol.End ∷ []) (subst AreSaid parts all)).0 in
    formula_plain h.spells.levels h.spells.text f text h.spells.spelled

params_lines_plain : (source : List ℕ) (x : Params) → SpellsIn languages.params_text source x → are_plain (params_lines x.params x.body) ≡ true
params_lines_plain source x h =
    let all : AreSaid (words_of source h.tokens) = said source h.tokens h.lexed in
    let parts : words_of source h.tokens ≡ h.spells.text ++ Symbol symbol.End ∷ [] = h.spells.parts in
    let text : AreSaid h.spells.text = (said_split h.spells.text (Symbol symbol.End ∷ []) (subst AreSaid parts all)).0 in
    params_plain h.spells.levels h.spells.text x text h.spells.spelled

-- ---- a formula of one line has one statement

single : (s : Stmt) (ss : List Stmt) (shown : Text) → one_line (map returned (s ∷ ss)) ≡ Some shown → (ss ≡ []) × (returned s ≡ Some shown)
single s [] shown h = (refl, h)
single s (o ∷ os) shown h = absurd cc

nothing_in : {first line : ℕ} {stmt : Stmt} (body : List Stmt) → body ≡ [] → AtLine first body line stmt → ⊥
nothing_in _ e AtLine.here = absurd cc
nothing_in _ e (AtLine.later h) = absurd cc
nothing_in _ e (AtLine.loop name over inner h) = absurd cc
nothing_in _ e (AtLine.arm arms a more other h) = absurd cc
nothing_in _ e (AtLine.otherwise arms inner h) = absurd cc

alone_at : (first : ℕ) (body : List Stmt) (line : ℕ) (s : Stmt) (shown : Text) → one_line (map returned body) ≡ Some shown → AtLine first body line s → (line ≡ first) × (returned s ≡ Some shown)
alone_at first _ _ s shown one (AtLine.here {body = body}) = (refl, (single s body shown one).1)
alone_at first _ line s shown one (AtLine.later {before = before} {body = body} h) = absurd (nothing_in body (single before body shown one).0 h)
alone_at first _ line s shown one (AtLine.loop {body = body} name over inner h) =
    let gives : returned (stmt.For name over inner) ≡ Some shown = (single (stmt.For name over inner) body shown one).1 in
    let none : returned (stmt.For name over inner) ≡ None = for_returns name over inner in
    absurd cc
alone_at first _ line s shown one (AtLine.arm {body = body} arms a more other h) =
    let gives : returned (stmt.If (arms ++ a ∷ more) other) ≡ Some shown = (single (stmt.If (arms ++ a ∷ more) other) body shown one).1 in
    let none : returned (stmt.If (arms ++ a ∷ more) other) ≡ None = if_returns (arms ++ a ∷ more) other in
    absurd cc
alone_at first _ line s shown one (AtLine.otherwise {body = body} arms inner h) =
    let gives : returned (stmt.If arms (Some inner)) ≡ Some shown = (single (stmt.If arms (Some inner)) body shown one).1 in
    let none : returned (stmt.If arms (Some inner)) ≡ None = if_returns arms (Some inner) in
    absurd cc

-- ---- the text is cut into its lines

module _ (count : HeightsCountLines) (stand : StatementsStand) (below : ArmsStand) (cut : TextHasItsLines) where
  -- a body with an `if` takes more than one line
  arm_stands : (params : List Param) (body : List Stmt) (line : ℕ) (arms more : List IfArm) (a : IfArm) (other : Option (List Stmt)) → AtLine (first_line body) body line (stmt.If (arms ++ a ∷ more) other)
      → Stands 1 (formula_lines params body) (line + arms_height arms) (arm_head (is_first arms) a ∷ [])
  arm_stands params body line arms more a other at = by (one_line (map returned body)) refl
    where
      s : Stmt
      s = stmt.If (arms ++ a ∷ more) other

      by : (o : Option Text) → one_line (map returned body) ≡ o → Stands 1 (formula_lines params body) (line + arms_height arms) (arm_head (is_first arms) a ∷ [])
      by None many = stands_within 1 line (line + arms_height arms) (formula_lines params body) (stmt_lines s) (arm_head (is_first arms) a ∷ []) (stand params body line s many at) (below line arms more a other)
      by (Some shown) one =
          let from : AtLine 1 body line s = subst (λ (b : Bool). AtLine (if b then 1 else 2) body line s) (sym (count.one body) ∙ ap is_some one) at in
          let gives : returned s ≡ Some shown = (alone_at 1 body line s shown one from).1 in
          let none : returned s ≡ None = if_returns (arms ++ a ∷ more) other in
          absurd cc

  has_its_lines : (params : List Param) (body : List Stmt) → are_plain (formula_lines params body) ≡ true → HasItsLines (lines_text 0 (formula_lines params body)) params body
  has_its_lines params body plain =
      let lines : List Text = formula_lines params body in
      let same : split (lines_text 0 lines) ≡ lines = cut lines (plain_no_feeds lines plain) in
      record {
        lines = same;
        statements = λ line s many at. subst (λ ls. Stands 1 ls line (stmt_lines s)) (sym same) (stand params body line s many at);
        tests = λ line arms more a other at. subst (λ ls. Stands 1 ls (line + arms_height arms) (arm_head (is_first arms) a ∷ [])) (sym same) (arm_stands params body line arms more a other at);
        alone = λ line s shown one at.
            let from : AtLine 1 body line s = subst (λ (b : Bool). AtLine (if b then 1 else 2) body line s) (sym (count.one body) ∙ ap is_some one) at in
            let only = alone_at 1 body line s shown one from in
            record { place = only.0; shows = only.1; whole = same ∙ ap (λ (o : Option Text). lines_by params body o) one };
      }

  pub formula_has_lines : (source : List ℕ) (f : Formula) → SpellsIn languages.formula_text source f → HasItsLines (lines_text 0 (formula_lines f.params f.body)) f.params f.body
  formula_has_lines source f h = has_its_lines f.params f.body (formula_lines_plain source f h)

  pub params_have_lines : (source : List ℕ) (x : Params) (body : List Stmt) → SpellsIn languages.params_text source x → x.body ≡ Some body → HasItsLines (print_params x) x.params body
  params_have_lines source x body h some =
      let plain : are_plain (formula_lines x.params body) ≡ true = subst (λ (o : Option (List Stmt)). are_plain (params_lines x.params o) ≡ true) some (params_lines_plain source x h) in
      subst (λ (o : Option (List Stmt)). HasItsLines (lines_text 0 (params_lines x.params o)) x.params body) (sym some) (has_its_lines x.params body plain)
