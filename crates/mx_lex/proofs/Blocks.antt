-- INDENTs and DEDENTs balance: as many blocks are open as the stack has levels above 0.
use Rattle.std.proofs.Common.{◌≡◌, ℕ, ◌+◌, ◌-◌, ◌<◌, List, [], ◌∷◌, ◌++◌, cond, eqb, ltb, length, drop, refl, sym, ap, subst, append_assoc, Option, Ok, Err, arith}
use Rattle.std.specs.Prelude.{IfOk, option_to_list}
use Rattle.std.proofs.lemmas.Bool.{eqb-true, eqb-false, ltb-true}
use Rattle.mx_lex.specs.Heads.{empty_token, is_inside}
use Rattle.mx_lex.specs.Lines.{Levels, Indented, given_before, dedented, indented, line_indented, is_blank, lead, opened_at}
use Rattle.mx_lex.specs.Lexing.{Reading, Step, step_at, dedents_at, closing_at, tokens_of, beginning}
use Rattle.mx_lex.specs.Laws.{Balanced}
use Rattle.mx_lex.specs.declared.Token.{Token}
use Rattle.mx_lex.specs.declared.TokenKind.{TokenKind}
use Rattle.mx_lex.specs.declared.TokenKind.TheVariants.{Name, Keyword, Int, Fix, Text, Mark, Newline, Indent, Dedent, End}
use Rattle.mx_lex.specs.declared.LexRefusal.TheVariants.{BadIndent}
use Rattle.mx_lex.specs.declared.line.Phase.{Phase}
use Rattle.mx_lex.specs.declared.line.Phase.TheVariants.{BeforeFirst, AtStart, Inside}
use Rattle.mx_lex.specs.declared.line.Line.{Line}
use Rattle.mx_lex.proofs.Cases.{both}
use Rattle.mx_lex.proofs.Steps.{IsHeadToken, step_opens, by_steps}
use Rattle.mx_lex.proofs.Spelled.{IsPlain, span_is_spelled}
use Rattle.mx_lex.proofs.Order.{not_too_long}

-- a stack of indents that falls to 0, with this many levels above 0
abbrev IsStack : List ℕ → ℕ → Type 0
IsStack [] depth = ⊥
IsStack (top ∷ []) depth = (top ≡ 0) × (depth ≡ 0)
IsStack (top ∷ next ∷ below) depth = (next < top) × (0 < depth) × IsStack (next ∷ below) (depth - 1)

-- what was given leaves a stack, and tokens that balance on it balance with what was given before them
record Leaves (depth : ℕ) (levels : Levels) : Type 0 where
  behind : ℕ
  stack : IsStack levels.stack behind
  balanced : (ts : List Token) → Balanced behind ts → Balanced depth (levels.given ++ ts)

abbrev Opened : ℕ → Indented → Type 0
Opened depth outcome = IfOk outcome (λ levels. Leaves depth levels)

unchanged : (depth : ℕ) (stack : List ℕ) → IsStack stack depth → Leaves depth (record { given = []; stack = stack })
unchanged depth stack h = record { behind = depth; stack = h; balanced = λ ts b. b }

dedent_before : (at depth : ℕ) (outcome : Indented) → 0 < depth → Opened (depth - 1) outcome → Opened depth (given_before (empty_token Dedent at ∷ []) outcome)
dedent_before at depth (Ok levels) some h = record { behind = h.behind; stack = h.stack; balanced = λ ts b. (some, h.balanced ts b) }
dedent_before at depth (Err e) some h = tt

dedented_leaves : (at line indent depth : ℕ) (stack : List ℕ) → IsStack stack depth → Opened depth (dedented at line indent stack)
dedented_leaves at line indent depth [] h = tt
dedented_leaves at line indent depth (top ∷ []) h =
    both (Opened depth) (ltb indent top) (given_before (empty_token Dedent at ∷ []) (dedented at line indent [])) _
    (λ less. tt)
    (λ _. both (Opened depth) (eqb indent top) (Ok (record { given = []; stack = top ∷ [] })) (Err (BadIndent line)) (λ _. unchanged depth (top ∷ []) h) (λ _. tt))
dedented_leaves at line indent depth (top ∷ next ∷ below) h =
    both (Opened depth) (ltb indent top) (given_before (empty_token Dedent at ∷ []) (dedented at line indent (next ∷ below))) _
    (λ _. dedent_before at depth (dedented at line indent (next ∷ below)) h.1 (dedented_leaves at line indent (depth - 1) (next ∷ below) h.2))
    (λ _. both (Opened depth) (eqb indent top) (Ok (record { given = []; stack = top ∷ next ∷ below })) (Err (BadIndent line)) (λ _. unchanged depth (top ∷ next ∷ below) h) (λ _. tt))

pushed : (depth indent top : ℕ) (below : List ℕ) → top < indent → IsStack (top ∷ below) depth → IsStack (indent ∷ top ∷ below) (depth + 1)
pushed depth indent top below less h = let same : depth ≡ depth + 1 - 1 = omega arith in (less, omega arith, subst (IsStack (top ∷ below)) same h)

indented_leaves : (at line indent depth : ℕ) (stack : List ℕ) → IsStack stack depth → Opened depth (indented at line indent stack)
indented_leaves at line indent depth [] h = tt
indented_leaves at line indent depth (top ∷ below) h =
    both (Opened depth) (ltb top indent) (Ok (record { given = empty_token Indent at ∷ []; stack = indent ∷ top ∷ below })) (dedented at line indent (top ∷ below))
    (λ less. record { behind = depth + 1; stack = pushed depth indent top below (ltb-true top indent less) h; balanced = λ ts b. (tt, b) })
    (λ _. dedented_leaves at line indent depth (top ∷ below) h)

line_leaves : (phase : Phase) (at line indent depth : ℕ) (stack : List ℕ) → IsStack stack depth → Opened depth (line_indented phase at line indent stack)
line_leaves BeforeFirst at line indent depth stack h = both (Opened depth) (eqb indent 0) (Ok (record { given = []; stack = stack })) (Err (BadIndent line)) (λ _. unchanged depth stack h) (λ _. tt)
line_leaves AtStart at line indent depth stack h = indented_leaves at line indent depth stack h
line_leaves Inside at line indent depth stack h = unchanged depth stack h

opened_leaves : (at : ℕ) (line : Line) (indent depth : ℕ) (stack first : List ℕ) → IsStack stack depth → Opened depth (opened_at at line indent stack first)
opened_leaves at line indent depth stack first h =
    both (Opened depth) (is_blank first) (Ok (record { given = []; stack = stack })) (line_indented line.phase at line.number indent stack) (λ _. unchanged depth stack h) (λ _. line_leaves line.phase at line.number indent depth stack h)

-- a token with bytes opens and closes no block
plain_balanced : (kind : TokenKind) (at len depth : ℕ) (ts : List Token) → IsPlain kind → Balanced depth ts → Balanced depth (record { kind = kind; at = at; len = len } ∷ ts)
plain_balanced Name at len depth ts plain b = (tt, b)
plain_balanced Keyword at len depth ts plain b = (tt, b)
plain_balanced Int at len depth ts plain b = (tt, b)
plain_balanced Fix at len depth ts plain b = (tt, b)
plain_balanced Text at len depth ts plain b = (tt, b)
plain_balanced Mark at len depth ts plain b = (tt, b)
plain_balanced Newline at len depth ts plain b = absurd plain
plain_balanced Indent at len depth ts plain b = absurd plain
plain_balanced Dedent at len depth ts plain b = absurd plain
plain_balanced End at len depth ts plain b = absurd plain

head_balanced : (at : ℕ) (rest : List ℕ) (taken depth : ℕ) (ts : List Token) → Balanced depth ts → (token : Option Token) → IsHeadToken at rest taken token → Balanced depth (option_to_list token ++ ts)
head_balanced at rest taken depth ts b _ IsHeadToken.none = b
head_balanced at rest taken depth ts b _ IsHeadToken.newline = (tt, b)
head_balanced at rest taken depth ts b _ (IsHeadToken.token found e _) = plain_balanced found.kind at found.len depth ts (span_is_spelled at rest found e).plain b

abbrev BalancedAt : ℕ → List ℕ → Reading → List Token → Type 0
BalancedAt at rest reading tokens = (depth : ℕ) → IsStack reading.stack depth → Balanced depth tokens

dedents_balanced : (at depth : ℕ) (stack : List ℕ) → IsStack stack depth → Balanced depth (dedents_at at stack ++ empty_token End at ∷ [])
dedents_balanced at depth [] h = absurd h
dedents_balanced at depth (top ∷ []) h =
    both (λ l. Balanced depth (l ++ empty_token End at ∷ [])) (eqb top 0) [] (empty_token Dedent at ∷ []) (λ _. (tt, h.1)) (λ above. absurd (eqb-false top 0 above h.0))
dedents_balanced at depth (top ∷ next ∷ below) h =
    both (λ l. Balanced depth (l ++ empty_token End at ∷ [])) (eqb top 0) [] (empty_token Dedent at ∷ dedents_at at (next ∷ below))
    (λ zero_top. absurd (let none : top ≡ 0 = eqb-true top 0 zero_top in omega (arith, h.0)))
    (λ _. (h.1, dedents_balanced at (depth - 1) (next ∷ below) h.2))

closed_balanced : (at : ℕ) (reading : Reading) → BalancedAt at [] reading (closing_at at reading)
unfolding closing_at
closed_balanced at reading depth h =
    let closing = dedents_at at reading.stack ++ empty_token End at ∷ [] in
    let newline = cond (is_inside reading.line.phase) (empty_token Newline at ∷ []) [] in
    let b = dedents_balanced at depth reading.stack h in
    let regroup = append_assoc newline (dedents_at at reading.stack) (empty_token End at ∷ []) in
    subst (Balanced depth) (sym regroup)
    (both (λ l. Balanced depth (l ++ closing)) (is_inside reading.line.phase) (empty_token Newline at ∷ []) [] (λ _. (tt, b)) (λ _. b))

kept_balanced : (at : ℕ) (rest : List ℕ) (reading : Reading) (step : Step) (tokens : List Token) → 0 < length rest → step_at at reading rest ≡ Ok step → BalancedAt (at + step.taken) (drop step.taken rest) step.next tokens → BalancedAt at rest reading (step.given ++ tokens)
kept_balanced at rest reading step tokens some e balanced depth h =
    let opens = step_opens at reading rest step e in
    let spaces = lead reading.line rest in
    let place = at + spaces in
    let first = drop spaces rest in
    let leaves : Leaves depth opens.levels = subst (Opened depth) opens.is_opened (opened_leaves place reading.line spaces depth reading.stack first h) in
    let same_stack : opens.levels.stack ≡ step.next.stack = ap (λ (s : Step). s.next.stack) opens.is_step in
    let behind = balanced leaves.behind (subst (λ l. IsStack l leaves.behind) same_stack leaves.stack) in
    let here = head_balanced place first opens.head.taken leaves.behind tokens behind opens.head.token opens.token in
    let given : opens.levels.given ++ option_to_list opens.head.token ≡ step.given = ap (λ (s : Step). s.given) opens.is_step in
    subst (λ l. Balanced depth (l ++ tokens)) given
    (subst (Balanced depth) (sym (append_assoc opens.levels.given (option_to_list opens.head.token) tokens)) (leaves.balanced (option_to_list opens.head.token ++ tokens) here))

pub tokens_balanced : (source : List ℕ) (tokens : List Token) → tokens_of source ≡ Ok tokens → Balanced 0 tokens
unfolding beginning
tokens_balanced source tokens e = by_steps BalancedAt closed_balanced kept_balanced source 0 beginning tokens (not_too_long source tokens e) 0 (refl, refl)
