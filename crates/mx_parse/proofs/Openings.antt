-- No more brackets and indents are open at a token than the text has bytes at which one may open.
use Rattle.std.proofs.Common.{◌≡◌, ℕ, zero, suc, ◌+◌, ◌<◌, ◌≤◌, ◌==◌, ◌||◌, Bool, true, false, cond, if◌then◌else◌, ltb, List, [], ◌∷◌, ◌++◌, length, take, drop, None, Some, Result, Ok, Err, refl, sym, ap, ◌∙◌, subst, arith}
use Rattle.std.specs.Prelude.{IfOk, option_to_list, codes, nat_le}
use Rattle.std.specs.List.{prefix_len, list_all}
use Rattle.std.specs.Str.{bytes_eq}
use Rattle.std.proofs.lemmas.List.{map-append, drop-drop}
use Rattle.std.proofs.lemmas.List.Sums.{sum_by-cons, sum_by-take-drop}
use Rattle.std.proofs.lemmas.Bool.{false≢true, eqb-true, leb-true, and_parts}
use Rattle.std.proofs.lemmas.Slice.Eq.{bytes_eq-Decides}
use Rattle.mx_lex.specs.Bytes.{is_opening, is_printable, first_passes}
use Rattle.mx_lex.specs.Heads.{empty_token, is_inside, ends_line, ended, next_line, newline_at, nothing, ends_here, comment_at, token_from, head_at}
use Rattle.mx_lex.specs.Spans.{Found, span_at}
use Rattle.mx_lex.specs.Lines.{Indented, given_before, dedented, indented, line_indented, is_blank, lead, opened_at}
use Rattle.mx_lex.specs.Lexing.{Reading, Step, step_at, dedents_at, closing_at, beginning}
use Rattle.mx_lex.specs.declared.Token.{Token}
use Rattle.mx_lex.specs.declared.TokenKind.{TokenKind}
use Rattle.mx_lex.specs.declared.TokenKind.TheVariants as kind
use Rattle.mx_lex.specs.declared.LexRefusal.{LexRefusal}
use Rattle.mx_lex.specs.declared.LexRefusal.TheVariants.{BadIndent, BadByte}
use Rattle.mx_lex.specs.declared.line.Phase.{Phase}
use Rattle.mx_lex.specs.declared.line.Phase.TheVariants.{BeforeFirst, AtStart, Inside}
use Rattle.mx_lex.specs.declared.line.Line.{Line}
use Rattle.mx_lex.specs.declared.line.Head.{Head}
use Rattle.mx_lex.proofs.Cases.{both}
use Rattle.mx_lex.proofs.SpanBounds.{FoundWithin, span_within, front_within}
use Rattle.mx_lex.proofs.Steps.{step_opens, by_steps}
use Rattle.mx_lex.proofs.Spelled.{IsPlain, span_is_spelled}
use Rattle.mx_lex.proofs.Order.{not_too_long}
use Rattle.mx_grammar.specs.declared.nesting.Open.{Open}
use Rattle.mx_grammar.specs.declared.word.Symbol.{Symbol}
use Rattle.mx_grammar.specs.declared.word.Symbol.TheVariants as symbol
use Rattle.mx_grammar.specs.declared.word.Word.{Word}
use Rattle.mx_grammar.specs.declared.word.Word.TheVariants as word
use Rattle.mx_grammar.specs.Words.{word_of, word_by, keyword_of, mark_of}
use Rattle.mx_grammar.specs.Spelling.{Shallow, NestedAt, behind_word, open_count, unopened, words_of}
use Rattle.mx_grammar.specs.Limits.{IsShort}
use Rattle.mx_grammar.proofs.OpenCount.{not_both}
use Rattle.mx_parse.specs.Openings.{may_open, openings}

-- ---- words that open

abbrev rises : Word → ℕ
rises (word.Symbol symbol.OpenRound) = 1
rises (word.Symbol symbol.OpenSquare) = 1
rises (word.Symbol symbol.OpenCurly) = 1
rises (word.Symbol symbol.Indent) = 1
rises _ = 0

abbrev all_rise : List Word → ℕ
all_rise [] = 0
all_rise (w ∷ ws) = rises w + all_rise ws

rise_append : (us ws : List Word) → all_rise (us ++ ws) ≡ all_rise us + all_rise ws
rise_append [] ws = omega arith
rise_append (u ∷ us) ws = omega (arith, rise_append us ws)

rises_once : (w : Word) (n : Open) → open_count (behind_word w n) ≤ open_count n + rises w
rises_once (word.Symbol symbol.OpenRound) n = omega arith
rises_once (word.Symbol symbol.OpenSquare) n = omega arith
rises_once (word.Symbol symbol.OpenCurly) n = omega arith
rises_once (word.Symbol symbol.CloseRound) n = omega arith
rises_once (word.Symbol symbol.CloseSquare) n = omega arith
rises_once (word.Symbol symbol.CloseCurly) n = omega arith
rises_once (word.Symbol symbol.Indent) n = omega arith
rises_once (word.Symbol symbol.Dedent) n = omega arith
rises_once _ n = omega arith

few_shallow : (d : ℕ) (n : Open) (ws : List Word) → open_count n + all_rise ws ≤ d → Shallow d n ws
few_shallow d n [] h = tt
few_shallow d n (w ∷ ws) h =
    let r : open_count (behind_word w n) ≤ open_count n + rises w = rises_once w n in
    (omega arith, few_shallow d (behind_word w n) ws (omega arith))

-- ---- symbols that open are spelled by a byte that may

abbrev first_opens : List ℕ → ℕ
first_opens text = cond (first_passes is_opening text) 1 0

-- words of one spelling each, and what they say
abbrev Spellings : Type 0
Spellings = List (List ℕ × Symbol)

abbrev said_by : List ℕ → Spellings → Symbol
said_by text [] = symbol.Unused
said_by text (row ∷ rows) = if bytes_eq text row.0 then row.1 else said_by text rows

abbrev opens_as_said : List ℕ × Symbol → Bool
opens_as_said row = nat_le (rises (word.Symbol row.1)) (first_opens row.0)

said_rises : (text : List ℕ) (rows : Spellings) → list_all opens_as_said rows ≡ true → rises (word.Symbol (said_by text rows)) ≤ first_opens text
said_rises text [] h = omega arith
said_rises text (row ∷ rows) h =
    let parts = and_parts (opens_as_said row) (list_all opens_as_said rows) h in
    both (λ s. rises (word.Symbol s) ≤ first_opens text) (bytes_eq text row.0) row.1 (said_by text rows)
    (λ e. let same : text ≡ row.0 = (bytes_eq-Decides text row.0).0 e in
    let first : first_opens text ≡ first_opens row.0 = ap first_opens same in
    let le : rises (word.Symbol row.1) ≤ first_opens row.0 = leb-true (rises (word.Symbol row.1)) (first_opens row.0) parts.0 in
    omega arith)
    (λ _. said_rises text rows parts.1)

keywords : Spellings
keywords = (codes "and", symbol.And) ∷ (codes "or", symbol.Or) ∷ (codes "not", symbol.Not) ∷ (codes "if", symbol.If) ∷ (codes "else", symbol.Else) ∷ (codes "elif", symbol.Elif) ∷ (codes "for", symbol.For) ∷ (codes "in", symbol.In) ∷ (codes "is", symbol.Is) ∷ (codes "None", symbol.None) ∷ (codes "True", symbol.True) ∷ (codes "False", symbol.False) ∷ (codes "pass", symbol.Pass) ∷ (codes "return", symbol.Return) ∷ []

marks : Spellings
marks = (codes "+", symbol.Plus) ∷ (codes "-", symbol.Minus) ∷ (codes "*", symbol.Times) ∷ (codes "/", symbol.Over) ∷ (codes "//", symbol.Floor) ∷ (codes "%", symbol.Rem) ∷ (codes "**", symbol.Power) ∷ (codes "(", symbol.OpenRound) ∷ (codes ")", symbol.CloseRound) ∷ (codes "[", symbol.OpenSquare) ∷ (codes "]", symbol.CloseSquare) ∷ (codes "{", symbol.OpenCurly) ∷ (codes "}", symbol.CloseCurly) ∷ (codes ",", symbol.Comma) ∷ (codes ":", symbol.Colon) ∷ (codes ".", symbol.Dot) ∷ (codes "=", symbol.Assign) ∷ (codes "+=", symbol.PlusAssign) ∷ (codes "-=", symbol.MinusAssign) ∷ (codes "*=", symbol.TimesAssign) ∷ (codes "==", symbol.Eq) ∷ (codes "!=", symbol.Ne) ∷ (codes "<", symbol.Lt) ∷ (codes "<=", symbol.Le) ∷ (codes ">", symbol.Gt) ∷ (codes ">=", symbol.Ge) ∷ []

keyword_rises : (text : List ℕ) → rises (word.Symbol (keyword_of text)) ≤ first_opens text
unfolding keywords
keyword_rises text = said_rises text keywords refl

mark_rises : (text : List ℕ) → rises (word.Symbol (mark_of text)) ≤ first_opens text
unfolding marks
mark_rises text = said_rises text marks refl

plain_rises : (kind : TokenKind) (text : List ℕ) → IsPlain kind → rises (word_by kind text) ≤ first_opens text
plain_rises kind.Name text plain = omega arith
plain_rises kind.Keyword text plain = keyword_rises text
plain_rises kind.Int text plain = omega arith
plain_rises kind.Fix text plain = omega arith
plain_rises kind.Text text plain = omega arith
plain_rises kind.Mark text plain = mark_rises text
plain_rises kind.Newline text plain = absurd plain
plain_rises kind.Indent text plain = absurd plain
plain_rises kind.Dedent text plain = absurd plain
plain_rises kind.End text plain = absurd plain

-- ---- bytes that may open

abbrev counted : ℕ → ℕ
counted b = cond (may_open b) 1 0

openings_more : (b : ℕ) (bs : List ℕ) → openings (b ∷ bs) ≡ counted b + openings bs
openings_more b bs = sum_by-cons counted b bs

fewer : (k : ℕ) (bytes : List ℕ) → openings (drop k bytes) ≤ openings bytes
fewer k bytes = omega (arith, sum_by-take-drop counted bytes k)

behind_first : (k b : ℕ) (bs : List ℕ) → 0 < k → openings (drop k (b ∷ bs)) + counted b ≤ openings (b ∷ bs)
behind_first zero b bs h = absurd (omega arith)
behind_first (suc k) b bs h = let same : openings (drop (suc k) (b ∷ bs)) ≡ openings (drop k bs) = refl in omega (arith, fewer k bs, openings_more b bs)

counted_as : (b c : ℕ) → counted c ≡ 1 → (b == c) ≡ true → counted b ≡ 1
counted_as b c opens h = ap counted (eqb-true b c h) ∙ opens

first_may_open : (len b : ℕ) (bs : List ℕ) → first_opens (take len (b ∷ bs)) ≤ counted b
first_may_open zero b bs = omega arith
first_may_open (suc len) b bs = by (is_opening b)
  where
    by : (t : Bool) → cond t 1 0 ≤ cond (t || (b == 10 || b == 35)) 1 0
    by true = omega arith
    by false = omega arith

stops_by : (p : ℕ → Bool) (b : ℕ) (bs : List ℕ) (t : Bool) → p b ≡ t → first_passes p (drop (prefix_len p bs) bs) ≡ false → first_passes p (drop (cond t (1 + prefix_len p bs) 0) (b ∷ bs)) ≡ false
stops_by p b bs true e h = let n : 1 + prefix_len p bs ≡ suc (prefix_len p bs) = omega arith in ap (λ k. first_passes p (drop k (b ∷ bs))) n ∙ h
stops_by p b bs false e h = e

stops : (p : ℕ → Bool) (rest : List ℕ) → first_passes p (drop (prefix_len p rest) rest) ≡ false
stops p [] = refl
stops p (b ∷ bs) = stops_by p b bs (p b) refl (stops p bs)

-- ---- what a step gives

-- an INDENT may begin here
abbrev starts : Phase → ℕ
starts BeforeFirst = 0
starts AtStart = 1
starts Inside = 0

starts_once : (phase : Phase) → starts phase ≤ 1
starts_once BeforeFirst = omega arith
starts_once AtStart = omega arith
starts_once Inside = omega arith

no_space : (phase : Phase) (rest : List ℕ) → first_passes (λ b. b == 32) (drop (cond (is_inside phase) 0 (prefix_len (λ b. b == 32) rest)) rest) ≡ true → starts phase ≡ 0
no_space BeforeFirst rest h = refl
no_space AtStart rest h = absurd (false≢true (sym (stops (λ b. b == 32) rest) ∙ h))
no_space Inside rest h = refl

module _ (source : List ℕ) where
  abbrev risen : List Token → ℕ
  risen tokens = all_rise (words_of source tokens)

  risen_append : (ts us : List Token) → risen (ts ++ us) ≡ risen ts + risen us
  risen_append ts us = ap all_rise (map-append (word_of source) ts us) ∙ rise_append (words_of source ts) (words_of source us)

  abbrev GivesFew : ℕ → Indented → Type 0
  GivesFew most outcome = IfOk outcome (λ levels. risen levels.given ≤ most)

  dedent_before : (at most : ℕ) (outcome : Indented) → GivesFew most outcome → GivesFew most (given_before (empty_token kind.Dedent at ∷ []) outcome)
  dedent_before at most (Ok levels) h = omega arith
  dedent_before at most (Err e) h = tt

  dedented_few : (at line indent most : ℕ) (stack : List ℕ) → GivesFew most (dedented at line indent stack)
  dedented_few at line indent most [] = tt
  dedented_few at line indent most (top ∷ below) =
      both (GivesFew most) (ltb indent top) (given_before (empty_token kind.Dedent at ∷ []) (dedented at line indent below)) _ (λ _. dedent_before at most (dedented at line indent below) (dedented_few at line indent most below))
      (λ _. both (GivesFew most) (indent == top) (Ok (record { given = []; stack = top ∷ below })) (Err (BadIndent line)) (λ _. omega arith) (λ _. tt))

  indented_few : (at line indent : ℕ) (stack : List ℕ) → GivesFew 1 (indented at line indent stack)
  indented_few at line indent [] = tt
  indented_few at line indent (top ∷ below) =
      both (GivesFew 1) (ltb top indent) (Ok (record { given = empty_token kind.Indent at ∷ []; stack = indent ∷ top ∷ below })) (dedented at line indent (top ∷ below))
      (λ _. omega arith) (λ _. dedented_few at line indent 1 (top ∷ below))

  line_few : (phase : Phase) (at line indent : ℕ) (stack : List ℕ) → GivesFew (starts phase) (line_indented phase at line indent stack)
  line_few BeforeFirst at line indent stack = both (GivesFew 0) (indent == 0) (Ok (record { given = []; stack = stack })) (Err (BadIndent line)) (λ _. omega arith) (λ _. tt)
  line_few AtStart at line indent stack = indented_few at line indent stack
  line_few Inside at line indent stack = omega arith

  blank_few : (blank : Bool) (most : ℕ) (stack : List ℕ) (outcome : Indented) → GivesFew most outcome → GivesFew (cond blank 0 most) (cond blank (Ok (record { given = []; stack = stack })) outcome)
  blank_few true most stack outcome h = omega arith
  blank_few false most stack outcome h = h

  opened_few : (at : ℕ) (line : Line) (indent : ℕ) (stack first : List ℕ) → GivesFew (cond (is_blank first) 0 (starts line.phase)) (opened_at at line indent stack first)
  opened_few at line indent stack first =
      blank_few (is_blank first) (starts line.phase) stack (line_indented line.phase at line.number indent stack) (line_few line.phase at line.number indent stack)

  newline_flat : (at : ℕ) (line : Line) → risen (option_to_list (newline_at at line)) ≡ 0
  newline_flat at line = both (λ t. risen (option_to_list t) ≡ 0) (ends_line line) (Some (empty_token kind.Newline at)) None (λ _. omega arith) (λ _. refl)

  -- what is left to pay for an INDENT, where none was given
  abbrev HeadFew : List ℕ → ℕ → Result Head LexRefusal → Type 0
  HeadFew first budget outcome = IfOk outcome (λ head. risen (option_to_list head.token) + openings (drop head.taken first) + starts head.next.phase ≤ openings first + budget)

  comment_few : (at : ℕ) (line : Line) (b : ℕ) (bs : List ℕ) (budget : ℕ) → (b == 35) ≡ true → HeadFew (b ∷ bs) budget (comment_at at line (b ∷ bs))
  unfolding comment_at
  comment_few at line b bs budget h =
      let rest = b ∷ bs in
      let len = prefix_len is_printable rest in
      let printable : is_printable b ≡ true = ap is_printable (eqb-true b 35 h) in
      let front = front_within is_printable rest printable in
      let opens : counted b ≡ 1 = counted_as b 35 refl h in
      both (HeadFew rest budget) (ends_here (drop len rest)) (Ok (record { token = newline_at at line; taken = len; next = ended line })) (Err (BadByte (at + len)))
      (λ _. omega (arith, newline_flat at line, behind_first len b bs front.some, starts_once (ended line).phase)) (λ _. tt)

  token_few : (at : ℕ) (line : Line) (b : ℕ) (bs : List ℕ) (budget : ℕ) (outcome : Found) → b ∷ bs ≡ drop at source → FoundWithin (b ∷ bs) outcome → span_at at (b ∷ bs) ≡ outcome → HeadFew (b ∷ bs) budget (token_from at line b outcome)
  token_few at line b bs budget (Ok span) is within found =
      let plain : IsPlain span.kind = (span_is_spelled at (b ∷ bs) span found).plain in
      let text : rises (word_by span.kind (take span.len (drop at source))) ≤ first_opens (take span.len (drop at source)) = plain_rises span.kind (take span.len (drop at source)) plain in
      let first : first_opens (take span.len (drop at source)) ≤ counted b = subst (λ l. first_opens (take span.len l) ≤ counted b) is (first_may_open span.len b bs) in
      omega (arith, text, first, behind_first span.len b bs within.some)
  token_few at line b bs budget (Err e) is within found = tt

  head_few : (at : ℕ) (line : Line) (first : List ℕ) → first ≡ drop at source → (first_passes (λ b. b == 32) first ≡ true → starts line.phase ≡ 0) → HeadFew first (cond (is_blank first) (starts line.phase) 0) (head_at at line first)
  unfolding head_at
  head_few at line [] is spaced = omega arith
  head_few at line (b ∷ bs) is spaced =
      let budget = cond (is_blank (b ∷ bs)) (starts line.phase) 0 in
      let P : Result Head LexRefusal → Type 0 = HeadFew (b ∷ bs) budget in
      let one : openings (drop 1 (b ∷ bs)) ≡ openings bs = refl in
      both P (b == 32) (nothing 1 line) _ (λ space. omega (arith, spaced space, openings_more b bs))
      (λ _. both P (b == 10) (Ok (record { token = newline_at at line; taken = 1; next = next_line line })) _
      (λ feed. omega (arith, openings_more b bs, newline_flat at line, counted_as b 10 refl feed, starts_once (ended line).phase))
      (λ _. both P (b == 35) (comment_at at line (b ∷ bs)) _ (λ hash. comment_few at line b bs budget hash)
      (λ _. token_few at line b bs budget (span_at at (b ∷ bs)) is (span_within at (b ∷ bs)) refl)))

paid : (blank : Bool) (n : ℕ) → cond blank 0 n + cond blank n 0 ≡ n
paid true n = omega arith
paid false n = omega arith

-- ---- all tokens of a text

abbrev OpensFew : ℕ → List ℕ → Reading → List Token → Type 0
OpensFew at rest reading tokens = (source : List ℕ) → rest ≡ drop at source → risen source tokens ≤ openings rest + starts reading.line.phase

dedents_flat : (source : List ℕ) (at : ℕ) (stack : List ℕ) → risen source (dedents_at at stack) ≡ 0
dedents_flat source at [] = refl
dedents_flat source at (top ∷ below) = both (λ ts. risen source ts ≡ 0) (top == 0) [] (empty_token kind.Dedent at ∷ dedents_at at below) (λ _. refl) (λ _. omega (arith, dedents_flat source at below))

closed_few : (at : ℕ) (reading : Reading) → OpensFew at [] reading (closing_at at reading)
unfolding closing_at
closed_few at reading source is =
    let newline = cond (is_inside reading.line.phase) (empty_token kind.Newline at ∷ []) [] in
    let first : risen source newline ≡ 0 = both (λ ts. risen source ts ≡ 0) (is_inside reading.line.phase) (empty_token kind.Newline at ∷ []) [] (λ _. omega arith) (λ _. refl) in
    let dedents = dedents_at at reading.stack in
    omega (arith, first, dedents_flat source at reading.stack, risen_append source newline dedents, risen_append source (newline ++ dedents) (empty_token kind.End at ∷ []))

kept_few : (at : ℕ) (rest : List ℕ) (reading : Reading) (step : Step) (tokens : List Token) → 0 < length rest → step_at at reading rest ≡ Ok step → OpensFew (at + step.taken) (drop step.taken rest) step.next tokens → OpensFew at rest reading (step.given ++ tokens)
kept_few at rest reading step tokens some e behind source is =
    let opens = step_opens at reading rest step e in
    let line = reading.line in
    let spaces = lead line rest in
    let place = at + spaces in
    let first = drop spaces rest in
    let first_is : first ≡ drop place source = ap (drop spaces) is ∙ drop-drop spaces at source in
    let levels : risen source opens.levels.given ≤ cond (is_blank first) 0 (starts line.phase) = subst (GivesFew source (cond (is_blank first) 0 (starts line.phase))) opens.is_opened (opened_few source place line spaces reading.stack first) in
    let head : risen source (option_to_list opens.head.token) + openings (drop opens.head.taken first) + starts opens.head.next.phase ≤ openings first + cond (is_blank first) (starts line.phase) 0
    = subst (HeadFew source first (cond (is_blank first) (starts line.phase) 0)) opens.is_head (head_few source place line first first_is (no_space line.phase rest)) in
    let there : drop step.taken rest ≡ drop (at + step.taken) source = ap (drop step.taken) is ∙ drop-drop step.taken at source in
    let left : risen source tokens ≤ openings (drop step.taken rest) + starts step.next.line.phase = behind source there in
    let given : risen source opens.levels.given + risen source (option_to_list opens.head.token) ≡ risen source step.given = sym (risen_append source opens.levels.given (option_to_list opens.head.token)) ∙ ap (λ (s : Step). risen source s.given) opens.is_step in
    let phase : starts opens.head.next.phase ≡ starts step.next.line.phase = ap (λ (s : Step). starts s.next.line.phase) opens.is_step in
    let rest_is : openings (drop opens.head.taken first) ≡ openings (drop step.taken rest) = ap openings (drop-drop opens.head.taken spaces rest) ∙ ap (λ (s : Step). openings (drop s.taken rest)) opens.is_step in
    omega (arith, levels, head, left, given, phase, rest_is, paid (is_blank first) (starts line.phase), fewer spaces rest, risen_append source step.given tokens)

-- a text with at most 64 bytes at which a bracket or an indent may open is not too nested
pub few_openings : (text : List ℕ) → openings text ≤ 64 → (place : ℕ) → NestedAt text place → ⊥
unfolding beginning
few_openings text few place nested =
    let ws = words_of text nested.tokens in
    let count : risen text nested.tokens ≤ openings text + 0 = by_steps OpensFew closed_few kept_few text 0 beginning nested.tokens (not_too_long text nested.tokens nested.lexed) text refl in
    let shallow : Shallow 64 unopened ws = few_shallow 64 unopened ws (omega arith) in
    not_both 64 unopened ws nested.left shallow nested.deep

pub few_short : (text : List ℕ) → length text ≤ 65536 → openings text ≤ 64 → IsShort (Some text)
few_short text le few = (le, few_openings text few)
