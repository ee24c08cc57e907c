-- Tokens stand in order, END is the last, and each is spelled as its kind says.
use Rattle.std.proofs.Common.{◌≡◌, ◌≢◌, ℕ, ◌+◌, ◌<◌, ◌≤◌, List, [], ◌∷◌, ◌++◌, cond, eqb, ltb, length, take, drop, refl, sym, ap, ◌∙◌, subst, ⊎_elim, append_assoc, Option, Ok, Err, arith, length-drop}
use Rattle.std.specs.Prelude.{All, option_to_list}
use Rattle.std.proofs.lemmas.List.{drop-drop}
use Rattle.std.proofs.lemmas.List.Elements.{All-nil, All-cons, All-append, All-head, All-tail}
use Rattle.mx_lex.specs.Spans.{span_at}
use Rattle.mx_lex.specs.Heads.{empty_token, is_inside}
use Rattle.mx_lex.specs.Lines.{lead}
use Rattle.mx_lex.specs.Lexing.{Reading, Step, step_at, dedents_at, closing_at, tokens_from, tokens_of, beginning}
use Rattle.mx_lex.specs.Laws.{InOrder, EndsWithEnd, IsSpelled, text_of}
use Rattle.mx_lex.specs.declared.Token.{Token}
use Rattle.mx_lex.specs.declared.TokenKind.TheVariants.{Newline, Indent, Dedent, End}
use Rattle.mx_lex.specs.declared.LexRefusal.TheVariants.{TooLong}
use Rattle.mx_lex.specs.declared.spans.Span.{Span}
use Rattle.mx_lex.proofs.Cases.{both, chosen}
use Rattle.mx_lex.proofs.Steps.{AreBlocks, IsHeadToken, step_opens, step_is_bounded, by_steps}
use Rattle.mx_lex.proofs.Spelled.{IsPlain, span_is_spelled}

-- what holds of an empty INDENT and DEDENT holds of each of them
blocks_hold : (P : Token → Type 0) (at : ℕ) → P (empty_token Indent at) → P (empty_token Dedent at) → (ts : List Token) → AreBlocks at ts → All P ts
blocks_hold P at indent dedent [] h = All-nil P
blocks_hold P at indent dedent (t ∷ ts) h =
    All-cons P t ts (⊎_elim (λ e. subst P (sym e) indent) (λ e. subst P (sym e) dedent) h.0) (blocks_hold P at indent dedent ts h.1)

-- the same of what stands at a place
head_holds : (P : Token → Type 0) (at : ℕ) (rest : List ℕ) (taken : ℕ) → P (empty_token Newline at) → ((found : Span) → span_at at rest ≡ Ok found → P (record { kind = found.kind; at = at; len = found.len })) → (token : Option Token) → IsHeadToken at rest taken token → All P (option_to_list token)
head_holds P at rest taken newline span _ IsHeadToken.none = All-nil P
head_holds P at rest taken newline span _ IsHeadToken.newline = All-cons P (empty_token Newline at) [] newline (All-nil P)
head_holds P at rest taken newline span _ (IsHeadToken.token found e _) = All-cons P (record { kind = found.kind; at = at; len = found.len }) [] (span found e) (All-nil P)

-- and so of all tokens that a step gives
step_holds : (P : Token → Type 0) (at : ℕ) (reading : Reading) (rest : List ℕ) (step : Step) → step_at at reading rest ≡ Ok step → ((place : ℕ) → P (empty_token Indent place)) → ((place : ℕ) → P (empty_token Dedent place)) → ((place : ℕ) → P (empty_token Newline place)) → ((found : Span) → span_at (at + lead reading.line rest) (drop (lead reading.line rest) rest) ≡ Ok found → P (record { kind = found.kind; at = at + lead reading.line rest; len = found.len })) → All P step.given
step_holds P at reading rest step e indent dedent newline span =
    let opens = step_opens at reading rest step e in
    let place = at + lead reading.line rest in
    subst (λ (s : Step). All P s.given) opens.is_step
    (All-append P opens.levels.given (option_to_list opens.head.token)
    (blocks_hold P place (indent place) (dedent place) opens.levels.given opens.blocks)
    (head_holds P place (drop (lead reading.line rest) rest) opens.head.taken (newline place) span opens.head.token opens.token))

dedents_hold : (P : Token → Type 0) (at : ℕ) → P (empty_token Dedent at) → (stack : List ℕ) → All P (dedents_at at stack)
dedents_hold P at dedent [] = All-nil P
dedents_hold P at dedent (top ∷ below) =
    both (All P) (eqb top 0) [] (empty_token Dedent at ∷ dedents_at at below) (λ _. All-nil P) (λ _. All-cons P (empty_token Dedent at) (dedents_at at below) dedent (dedents_hold P at dedent below))

newline_holds : (P : Token → Type 0) (at : ℕ) → P (empty_token Newline at) → (reading : Reading) → All P (cond (is_inside reading.line.phase) (empty_token Newline at ∷ []) [])
newline_holds P at newline reading = both (All P) (is_inside reading.line.phase) (empty_token Newline at ∷ []) [] (λ _. All-cons P (empty_token Newline at) [] newline (All-nil P)) (λ _. All-nil P)

-- END is the last token, and the only one

not_end : (place : ℕ) (span : Span) (rest : List ℕ) → span_at place rest ≡ Ok span → span.kind ≢ End
not_end place span rest e is_end = let plain : IsPlain End = subst IsPlain is_end (span_is_spelled place rest span e).plain in plain

abbrev EndsAt : ℕ → List ℕ → Reading → List Token → Type 0
EndsAt at rest reading tokens = EndsWithEnd (at + length rest) tokens

closed_ends : (at : ℕ) (reading : Reading) → EndsAt at [] reading (closing_at at reading)
unfolding closing_at
closed_ends at reading =
    let P : Token → Type 0 = λ t. t.kind ≢ End in
    let newline = cond (is_inside reading.line.phase) (empty_token Newline at ∷ []) [] in
    let place : at ≡ at + 0 = omega arith in
    record {
      front = newline ++ dedents_at at reading.stack;
      parts = ap (λ n. (newline ++ dedents_at at reading.stack) ++ empty_token End n ∷ []) place;
      none = All-append P newline (dedents_at at reading.stack) (newline_holds P at (λ e. cc) reading) (dedents_hold P at (λ e. cc) reading.stack);
    }

kept_ends : (at : ℕ) (rest : List ℕ) (reading : Reading) (step : Step) (tokens : List Token) → 0 < length rest → step_at at reading rest ≡ Ok step → EndsAt (at + step.taken) (drop step.taken rest) step.next tokens → EndsAt at rest reading (step.given ++ tokens)
kept_ends at rest reading step tokens some e ends =
    let P : Token → Type 0 = λ t. t.kind ≢ End in
    let bounded = step_is_bounded at reading rest step e in
    let given = step_holds P at reading rest step e (λ _ is. cc) (λ _ is. cc) (λ _ is. cc) (λ found is_span. not_end (at + lead reading.line rest) found (drop (lead reading.line rest) rest) is_span) in
    let place : at + step.taken + length (drop step.taken rest) ≡ at + length rest = omega (arith, bounded.within, length-drop step.taken rest) in
    record {
      front = step.given ++ ends.front;
      parts = ap (λ l. step.given ++ l) ends.parts ∙ sym (append_assoc step.given ends.front (empty_token End (at + step.taken + length (drop step.taken rest)) ∷ [])) ∙ ap (λ n. (step.given ++ ends.front) ++ empty_token End n ∷ []) place;
      none = All-append P step.given ends.front given ends.none;
    }

-- the kind of each token tells its bytes

abbrev SpelledIn : ℕ → List ℕ → Reading → List Token → Type 0
SpelledIn at rest reading tokens = (source : List ℕ) → rest ≡ drop at source → All (λ t. IsSpelled t.kind (text_of source t)) tokens

closed_spelled : (at : ℕ) (reading : Reading) → SpelledIn at [] reading (closing_at at reading)
unfolding closing_at
closed_spelled at reading source e =
    let P : Token → Type 0 = λ t. IsSpelled t.kind (text_of source t) in
    let newline = cond (is_inside reading.line.phase) (empty_token Newline at ∷ []) [] in
    All-append P (newline ++ dedents_at at reading.stack) (empty_token End at ∷ [])
    (All-append P newline (dedents_at at reading.stack) (newline_holds P at refl reading) (dedents_hold P at refl reading.stack))
    (All-cons P (empty_token End at) [] refl (All-nil P))

kept_spelled : (at : ℕ) (rest : List ℕ) (reading : Reading) (step : Step) (tokens : List Token) → 0 < length rest → step_at at reading rest ≡ Ok step → SpelledIn (at + step.taken) (drop step.taken rest) step.next tokens → SpelledIn at rest reading (step.given ++ tokens)
kept_spelled at rest reading step tokens some e spelled source is_rest =
    let P : Token → Type 0 = λ t. IsSpelled t.kind (text_of source t) in
    let spaces = lead reading.line rest in
    let behind : drop step.taken rest ≡ drop (at + step.taken) source = ap (drop step.taken) is_rest ∙ drop-drop step.taken at source in
    let first : drop spaces rest ≡ drop (at + spaces) source = ap (drop spaces) is_rest ∙ drop-drop spaces at source in
    All-append P step.given tokens
    (step_holds P at reading rest step e (λ _. refl) (λ _. refl) (λ _. refl) (λ found is_span. subst (λ l. IsSpelled found.kind (take found.len l)) first (span_is_spelled (at + spaces) (drop spaces rest) found is_span).spelled))
    (spelled source behind)

-- tokens stand in order

lower_down : (low mid high : ℕ) (ts : List Token) → low ≤ mid → InOrder mid high ts → InOrder low high ts
lower_down low mid high [] h in_order = omega arith
lower_down low mid high (t ∷ ts) h in_order = (omega (arith, in_order.0), in_order.1)

in_order_append : (low mid high : ℕ) (ts us : List Token) → InOrder low mid ts → InOrder mid high us → InOrder low high (ts ++ us)
in_order_append low mid high [] us front behind = lower_down low mid high us front behind
in_order_append low mid high (t ∷ ts) us front behind = (front.0, in_order_append (t.at + t.len) mid high ts us front.1 behind)

-- tokens of length 0 at one place
empty_in_order : (at : ℕ) (ts : List Token) → All (λ t. (t.at ≡ at) × (t.len ≡ 0)) ts → InOrder at at ts
empty_in_order at [] h = omega arith
empty_in_order at (t ∷ ts) h =
    let P : Token → Type 0 = λ t. (t.at ≡ at) × (t.len ≡ 0) in
    let here = All-head P t ts h in
    (omega (arith, here.0), lower_down (t.at + t.len) at at ts (omega (arith, here.0, here.1)) (empty_in_order at ts (All-tail P t ts h)))

head_in_order : (at : ℕ) (rest : List ℕ) (taken : ℕ) (token : Option Token) → IsHeadToken at rest taken token → InOrder at (at + taken) (option_to_list token)
head_in_order at rest taken _ IsHeadToken.none = omega arith
head_in_order at rest taken _ IsHeadToken.newline = (omega arith, omega arith)
head_in_order at rest taken _ (IsHeadToken.token found e is_taken) = (omega arith, omega arith)

abbrev OrderedAt : ℕ → List ℕ → Reading → List Token → Type 0
OrderedAt at rest reading tokens = InOrder at (at + length rest) tokens

closed_ordered : (at : ℕ) (reading : Reading) → OrderedAt at [] reading (closing_at at reading)
unfolding closing_at
closed_ordered at reading =
    let P : Token → Type 0 = λ t. (t.at ≡ at) × (t.len ≡ 0) in
    let newline = cond (is_inside reading.line.phase) (empty_token Newline at ∷ []) [] in
    let all : All P ((newline ++ dedents_at at reading.stack) ++ empty_token End at ∷ []) =
    All-append P (newline ++ dedents_at at reading.stack) (empty_token End at ∷ [])
    (All-append P newline (dedents_at at reading.stack) (newline_holds P at (refl, refl) reading) (dedents_hold P at (refl, refl) reading.stack))
    (All-cons P (empty_token End at) [] (refl, refl) (All-nil P))
    in
    let place : at ≡ at + 0 = omega arith in
    subst (λ n. InOrder at n ((newline ++ dedents_at at reading.stack) ++ empty_token End at ∷ [])) place (empty_in_order at ((newline ++ dedents_at at reading.stack) ++ empty_token End at ∷ []) all)

kept_ordered : (at : ℕ) (rest : List ℕ) (reading : Reading) (step : Step) (tokens : List Token) → 0 < length rest → step_at at reading rest ≡ Ok step → OrderedAt (at + step.taken) (drop step.taken rest) step.next tokens → OrderedAt at rest reading (step.given ++ tokens)
kept_ordered at rest reading step tokens some e ordered =
    let opens = step_opens at reading rest step e in
    let bounded = step_is_bounded at reading rest step e in
    let spaces = lead reading.line rest in
    let place = at + spaces in
    let P : Token → Type 0 = λ t. (t.at ≡ place) × (t.len ≡ 0) in
    let blocks = empty_in_order place opens.levels.given (blocks_hold P place (refl, refl) (refl, refl) opens.levels.given opens.blocks) in
    let here = head_in_order place (drop spaces rest) opens.head.taken opens.head.token opens.token in
    let given : InOrder at (at + (spaces + opens.head.taken)) (opens.levels.given ++ option_to_list opens.head.token) =
    lower_down at place (at + (spaces + opens.head.taken)) (opens.levels.given ++ option_to_list opens.head.token) (omega arith)
    (in_order_append place place (at + (spaces + opens.head.taken)) opens.levels.given (option_to_list opens.head.token) blocks
    (subst (λ n. InOrder place n (option_to_list opens.head.token)) (omega arith) here))
    in
    let given_by_step : InOrder at (at + step.taken) step.given = subst (λ (s : Step). InOrder at (at + s.taken) s.given) opens.is_step given in
    let there : at + step.taken + length (drop step.taken rest) ≡ at + length rest = omega (arith, bounded.within, length-drop step.taken rest) in
    in_order_append at (at + step.taken) (at + length rest) step.given tokens given_by_step (subst (λ n. InOrder (at + step.taken) n tokens) there ordered)

-- tokens are given of a source that is not too long
pub not_too_long : (source : List ℕ) (tokens : List Token) → tokens_of source ≡ Ok tokens → tokens_from source 0 0 beginning ≡ Ok tokens
unfolding tokens_of
not_too_long source tokens e =
    ⊎_elim (λ too_long. absurd (let f : Err TooLong ≡ Ok tokens = too_long.1 in cc)) (λ short. short.1)
    (chosen (ltb 65536 (length source)) (Err TooLong) (tokens_from source 0 0 beginning) (Ok tokens) e)

pub tokens_in_order : (source : List ℕ) (tokens : List Token) → tokens_of source ≡ Ok tokens → InOrder 0 (length source) tokens
tokens_in_order source tokens e =
    subst (λ n. InOrder 0 n tokens) (omega arith) (by_steps OrderedAt closed_ordered kept_ordered source 0 beginning tokens (not_too_long source tokens e))

pub tokens_end : (source : List ℕ) (tokens : List Token) → tokens_of source ≡ Ok tokens → EndsWithEnd (length source) tokens
tokens_end source tokens e =
    subst (λ n. EndsWithEnd n tokens) (omega arith) (by_steps EndsAt closed_ends kept_ends source 0 beginning tokens (not_too_long source tokens e))

pub tokens_spelled : (source : List ℕ) (tokens : List Token) → tokens_of source ≡ Ok tokens → All (λ t. IsSpelled t.kind (text_of source t)) tokens
tokens_spelled source tokens e = by_steps SpelledIn closed_spelled kept_spelled source 0 beginning tokens (not_too_long source tokens e) source refl
