-- Where tokens stand in a source as they must, they are the lexer's.
use Rattle.std.proofs.Common.{◌≡◌, ℕ, ◌+◌, ◌<◌, ◌≤◌, zero, suc, List, [], ◌∷◌, ◌++◌, Bool, true, false, ltb, ◌==◌, ◌||◌, length, drop, refl, sym, ap, ◌∙◌, subst, ◌⊎◌, inl, inr, append_assoc, append-nil, None, Some, Ok, Err, arith, length-append}
use Rattle.std.specs.List.{prefix_len}
use Rattle.std.proofs.lemmas.Bool.{false≢true, cond-true, cond-false, eqb-true, eq-eqb, lt-ltb, le-ltb}
use Rattle.std.proofs.lemmas.List.Elements.{All-nil}
use Rattle.mx_lex.specs.Bytes.{is_printable}
use Rattle.mx_lex.specs.Heads.{empty_token, is_inside, ends_here, brackets_behind, head_at, comment_at}
use Rattle.mx_lex.specs.Lines.{Levels, dedented, indented, line_indented, is_blank}
use Rattle.mx_lex.specs.Lexing.{dedents_at, closing_at, step_at, tokens_before, tokens_from, tokens_of, beginning}
use Rattle.mx_lex.specs.declared.Token.{Token}
use Rattle.mx_lex.specs.declared.TokenKind.{TokenKind}
use Rattle.mx_lex.specs.declared.TokenKind.TheVariants.{Newline, Indent, Dedent, End}
use Rattle.mx_lex.specs.declared.LexRefusal.TheVariants.{BadByte}
use Rattle.mx_lex.specs.declared.line.Phase.{Phase}
use Rattle.mx_lex.specs.declared.line.Phase.TheVariants.{BeforeFirst, AtStart, Inside}
use Rattle.mx_lex.proofs.Loop.{after_step, tokens_turn, at_end, tokens_of_short}
use Rattle.mx_token_laws.specs.Standing as standing
use Rattle.mx_token_laws.specs.Standing.{AreSpaces, IsGap, is_solid, IsToken, Behind, in_line, IsIndent, HasIndent, Follows, IsRead}
use Rattle.mx_token_laws.proofs.Dedents.{AreFalling, unchanged_levels, opened_levels, given_is}
use Rattle.mx_token_laws.proofs.Spans.{heads_same, token_is}
use Rattle.mx_token_laws.proofs.Turns.{at_line, gap_inside, turn_is, silent_turn, end_outside, first_step, further_step}
use Rattle.mx_token_laws.proofs.Fronts.{indent_is, behind_spaces, gap_outside, end_closes}
use Rattle.mx_token_laws.proofs.Complete.{BeginsLine, token_solid, level_is, plain_line, dedents_from, dedent_first, lower}

-- where a line stands
abbrev StandsAt : Phase → Behind → Type 0
StandsAt Inside behind = (behind.inside ≡ true) × (behind.begun ≡ true)
StandsAt AtStart behind = (behind.inside ≡ false) × (behind.begun ≡ true)
StandsAt BeforeFirst behind = (behind.inside ≡ false) × (behind.begun ≡ false) × (behind.levels ≡ 0 ∷ [])

record Sane (phase : Phase) (behind : Behind) : Type 0 where
  stands : StandsAt phase behind
  falling : AreFalling behind.levels
  found : behind.found ≡ None

-- the lexer gives these tokens
abbrev Gives : Phase → ℕ → Behind → ℕ → List ℕ → List Token → Type 0
Gives phase number behind place bytes tokens = tokens_from bytes 0 place (at_line phase number behind.brackets behind.levels) ≡ Ok tokens

-- ---- a token

further_token : (behind : Behind) (at past number len : ℕ) (kind : TokenKind) (b : ℕ) (bs : List ℕ) (tokens : List Token) → IsToken kind len (b ∷ bs) → past ≡ at + len → Gives Inside number (in_line behind (b ∷ bs)) past (drop len (b ∷ bs)) tokens → Gives Inside number behind at (b ∷ bs) (record { kind = kind; at = at; len = len } ∷ tokens)
further_token behind at past number len kind b bs tokens token past_is further =
    let reading = at_line Inside number behind.brackets behind.levels in
    let next = at_line Inside number (brackets_behind b behind.brackets) behind.levels in
    let rest = drop len (b ∷ bs) in
    let given : List Token = record { kind = kind; at = at + 0; len = len } ∷ [] in
    let bare : 0 + len ≡ len = omega arith in
    let there : at + (0 + len) ≡ past = omega (arith, past_is) in
    let here : at + 0 ≡ at = omega arith in
    let step = further_step at number behind.brackets len kind behind.levels b bs (token_solid kind len (b ∷ bs) token) (token_is (at + 0) kind len (b ∷ bs) token) in
    turn_is (b ∷ bs) rest at (0 + len) reading next given (omega arith) step (ap (λ n. drop n (b ∷ bs)) bare)
    ∙ ap (λ n. tokens_before given (tokens_from rest 0 n next)) there
    ∙ ap (tokens_before given) further
    ∙ ap (λ n. Ok (record { kind = kind; at = n; len = len } ∷ tokens)) here

some_of : (spaces : List ℕ) (b : ℕ) (bs : List ℕ) → 0 < length (spaces ++ b ∷ bs)
some_of spaces b bs = let total = length-append spaces (b ∷ bs) in omega (arith, total)

first_token : (phase : Phase) (behind : Behind) (there line at indent : ℕ) (spaces : List ℕ) (b : ℕ) (bs : List ℕ) (tokens : List Token) → is_inside phase ≡ false → AreSpaces spaces → there + length spaces ≡ at → length spaces ≡ indent → (h : BeginsLine behind at indent line (b ∷ bs) (line_indented phase at line indent behind.levels) tokens) → Gives Inside line (in_line (record behind { levels = h.levels.stack }) (b ∷ bs)) (at + h.len) (drop h.len (b ∷ bs)) h.rest → Gives phase line behind there (spaces ++ b ∷ bs) tokens
first_token phase behind there line at indent spaces b bs tokens out are position count h further =
    let reading = at_line phase line behind.brackets behind.levels in
    let next = at_line Inside line (brackets_behind b behind.brackets) h.levels.stack in
    let rest = drop h.len (b ∷ bs) in
    let from = there + length spaces in
    let t : ℕ → Token = λ (n : ℕ). record { kind = h.kind; at = n; len = h.len } in
    let opened = subst (λ n. line_indented phase from line n behind.levels ≡ Ok h.levels) (sym count) (subst (λ n. line_indented phase n line indent behind.levels ≡ Ok h.levels) (sym position) h.given) in
    let step = first_step there line behind.brackets h.len phase h.kind behind.levels spaces b bs h.levels out are (token_solid h.kind h.len (b ∷ bs) h.token) (token_is from h.kind h.len (b ∷ bs) h.token) opened in
    let place : there + (length spaces + h.len) ≡ at + h.len = omega (arith, position) in
    let given = h.levels.given ++ t from ∷ [] in
    turn_is (spaces ++ b ∷ bs) rest there (length spaces + h.len) reading next given (some_of spaces b bs) step (behind_spaces spaces (b ∷ bs) (length spaces + h.len) h.len refl)
    ∙ ap (λ n. tokens_before given (tokens_from rest 0 n next)) place
    ∙ ap (tokens_before given) further
    ∙ ap (λ l. Ok l) (append_assoc h.levels.given (t from ∷ []) h.rest ∙ ap (λ n. h.levels.given ++ t n ∷ h.rest) position ∙ sym h.are)

-- ---- NEWLINE

newline_ends : (at number : ℕ) (brackets : ℕ) (stack bs : List ℕ) → (brackets == 0) ≡ true → step_at at (at_line Inside number brackets stack) (10 ∷ bs) ≡ Ok (record { given = empty_token Newline (at + 0) ∷ []; taken = 1; next = at_line AtStart (number + 1) brackets stack })
unfolding step_at head_at
newline_ends at number brackets stack bs none = rw none refl

newline_comments : (at number : ℕ) (brackets : ℕ) (stack bs : List ℕ) → (brackets == 0) ≡ true → ends_here (drop (prefix_len is_printable (35 ∷ bs)) (35 ∷ bs)) ≡ true → step_at at (at_line Inside number brackets stack) (35 ∷ bs) ≡ Ok (record { given = empty_token Newline (at + 0) ∷ []; taken = 0 + prefix_len is_printable (35 ∷ bs); next = at_line AtStart number brackets stack })
unfolding step_at head_at comment_at
newline_comments at number brackets stack bs none ends = rw (ends, none) refl

start_comments : (at number : ℕ) (brackets : ℕ) (stack bs : List ℕ) → ends_here (drop (prefix_len is_printable (35 ∷ bs)) (35 ∷ bs)) ≡ true → step_at at (at_line AtStart number brackets stack) (35 ∷ bs) ≡ Ok (record { given = []; taken = 0 + prefix_len is_printable (35 ∷ bs); next = at_line AtStart number brackets stack })
unfolding step_at head_at comment_at
start_comments at number brackets stack bs ends = rw ends refl

start_refuses : (at number : ℕ) (brackets : ℕ) (stack bs : List ℕ) → ends_here (drop (prefix_len is_printable (35 ∷ bs)) (35 ∷ bs)) ≡ false → step_at at (at_line AtStart number brackets stack) (35 ∷ bs) ≡ Err (BadByte (at + 0 + prefix_len is_printable (35 ∷ bs)))
unfolding step_at head_at comment_at
start_refuses at number brackets stack bs ends = rw ends refl

-- two turns over the same bytes, of which one gives NEWLINE
both_turns : (bytes : List ℕ) (at number taken line brackets : ℕ) (stack : List ℕ) (tokens : List Token) → 0 < length bytes → step_at at (at_line Inside number brackets stack) bytes ≡ Ok (record { given = empty_token Newline (at + 0) ∷ []; taken = taken; next = at_line AtStart line brackets stack }) → step_at at (at_line AtStart number brackets stack) bytes ≡ Ok (record { given = []; taken = taken; next = at_line AtStart line brackets stack }) → tokens_from bytes 0 at (at_line AtStart number brackets stack) ≡ Ok tokens → tokens_from bytes 0 at (at_line Inside number brackets stack) ≡ Ok (empty_token Newline at ∷ tokens)
both_turns bytes at number taken line brackets stack tokens some inside start is =
    let given : List Token = empty_token Newline (at + 0) ∷ [] in
    let here : at + 0 ≡ at = omega arith in
    let silent = silent_turn bytes (drop taken bytes) at taken (at_line AtStart number brackets stack) (at_line AtStart line brackets stack) some start refl in
    turn_is bytes (drop taken bytes) at taken (at_line Inside number brackets stack) (at_line AtStart line brackets stack) given some inside refl
    ∙ ap (tokens_before given) (sym silent ∙ is)
    ∙ ap (λ n. Ok (empty_token Newline n ∷ tokens)) here

newline_turn : (bytes : List ℕ) (at number brackets : ℕ) (stack : List ℕ) (tokens : List Token) → is_blank bytes ≡ true → (bytes ≡ []) ⊎ (brackets ≡ 0) → tokens_from bytes 0 at (at_line AtStart number brackets stack) ≡ Ok tokens → tokens_from bytes 0 at (at_line Inside number brackets stack) ≡ Ok (empty_token Newline at ∷ tokens)
unfolding closing_at
newline_turn [] at number brackets stack tokens blank ends is =
    at_end at (at_line Inside number brackets stack) ∙ ap (tokens_before (empty_token Newline at ∷ [])) (sym (at_end at (at_line AtStart number brackets stack)) ∙ is)
newline_turn (b ∷ bs) at number brackets stack tokens blank (inl none) is = absurd (let lengths = ap length none in omega (arith, lengths))
newline_turn (b ∷ bs) at number brackets stack tokens blank (inr closed) is = split (b == 10) refl
  where
    none : (brackets == 0) ≡ true
    none = eq-eqb brackets 0 closed

    comment : (t : Bool) → ends_here (drop (prefix_len is_printable (35 ∷ bs)) (35 ∷ bs)) ≡ t → tokens_from (35 ∷ bs) 0 at (at_line AtStart number brackets stack) ≡ Ok tokens → tokens_from (35 ∷ bs) 0 at (at_line Inside number brackets stack) ≡ Ok (empty_token Newline at ∷ tokens)
    comment true ends given = both_turns (35 ∷ bs) at number (0 + prefix_len is_printable (35 ∷ bs)) number brackets stack tokens (omega arith) (newline_comments at number brackets stack bs none ends) (start_comments at number brackets stack bs ends) given
    comment false ends given = absurd (let f : Err (BadByte (at + 0 + prefix_len is_printable (35 ∷ bs))) ≡ Ok tokens = sym (tokens_turn (35 ∷ bs) at (at_line AtStart number brackets stack) (omega arith) ∙ ap (after_step (35 ∷ bs) at) (start_refuses at number brackets stack bs ends)) ∙ given in cc)

    split : (t : Bool) → (b == 10) ≡ t → tokens_from (b ∷ bs) 0 at (at_line Inside number brackets stack) ≡ Ok (empty_token Newline at ∷ tokens)
    split true end =
        let same = eqb-true b 10 end in
        let given = subst (λ c. tokens_from (c ∷ bs) 0 at (at_line AtStart number brackets stack) ≡ Ok tokens) same is in
        subst (λ c. tokens_from (c ∷ bs) 0 at (at_line Inside number brackets stack) ≡ Ok (empty_token Newline at ∷ tokens)) (sym same)
        (both_turns (10 ∷ bs) at number 1 (number + 1) brackets stack tokens (omega arith) (newline_ends at number brackets stack bs none) (end_outside at number brackets AtStart stack [] bs refl (All-nil (λ c. (c == 32) ≡ true))) given)
    split false other =
        let same = eqb-true b 35 (subst (λ t. (t || (b == 35)) ≡ true) other blank) in
        subst (λ c. tokens_from (c ∷ bs) 0 at (at_line Inside number brackets stack) ≡ Ok (empty_token Newline at ∷ tokens)) (sym same)
        (comment (ends_here (drop (prefix_len is_printable (35 ∷ bs)) (35 ∷ bs))) refl (subst (λ c. tokens_from (c ∷ bs) 0 at (at_line AtStart number brackets stack) ≡ Ok tokens) same is))

-- ---- what the indent of a line gives

out_of : (phase : Phase) (behind : Behind) → behind.inside ≡ false → StandsAt phase behind → is_inside phase ≡ false
out_of Inside behind out stands = absurd (false≢true (sym out ∙ stands.0))
out_of AtStart behind out stands = refl
out_of BeforeFirst behind out stands = refl

no_block : (phase : Phase) (behind : Behind) (at number indent : ℕ) (below : List ℕ) → behind.inside ≡ false → StandsAt phase behind → behind.levels ≡ indent ∷ below → line_indented phase at number indent behind.levels ≡ Ok (unchanged_levels behind.levels)
no_block Inside behind at number indent below out stands levels = absurd (false≢true (sym out ∙ stands.0))
no_block BeforeFirst behind at number indent below out stands levels =
    let none : indent ≡ 0 = heads_same indent 0 below [] (sym levels ∙ stands.2) in
    let is : (indent == 0) ≡ true = eq-eqb indent 0 none in
    rw is refl
no_block AtStart behind at number indent below out stands levels =
    let not_less : ltb indent indent ≡ false = le-ltb indent indent (omega arith) in
    subst (λ l. indented at number indent l ≡ Ok (unchanged_levels l)) (sym levels) (cond-false (ltb indent indent) _ (dedented at number indent (indent ∷ below)) not_less ∙ level_is at number indent below)

begun_out : (phase : Phase) (behind : Behind) → behind.inside ≡ false → behind.begun ≡ true → StandsAt phase behind → phase ≡ AtStart
begun_out Inside behind out begun stands = absurd (false≢true (sym out ∙ stands.0))
begun_out AtStart behind out begun stands = refl
begun_out BeforeFirst behind out begun stands = absurd (false≢true (sym stands.1 ∙ begun))

falls_out : (phase : Phase) (behind : Behind) (indent top : ℕ) (below : List ℕ) → behind.inside ≡ false → behind.levels ≡ top ∷ below → indent < top → StandsAt phase behind → phase ≡ AtStart
falls_out Inside behind indent top below out levels falls stands = absurd (false≢true (sym out ∙ stands.0))
falls_out AtStart behind indent top below out levels falls stands = refl
falls_out BeforeFirst behind indent top below out levels falls stands = absurd (let none : top ≡ 0 = heads_same top 0 below [] (sym levels ∙ stands.2) in omega (arith, none, falls))

-- an indent that falls
falls_from : (behind : Behind) (at number indent top : ℕ) (below all : List ℕ) (tokens : List Token) → behind.levels ≡ top ∷ below → indent < top → BeginsLine behind at indent number all (dedented at number indent behind.levels) tokens → BeginsLine behind at indent number all (line_indented AtStart at number indent behind.levels) tokens
falls_from behind at number indent top below all tokens levels falls h =
    let not_less : ltb top indent ≡ false = le-ltb top indent (omega (arith, falls)) in
    let same : indented at number indent behind.levels ≡ dedented at number indent behind.levels = ap (indented at number indent) levels ∙ cond-false (ltb top indent) _ (dedented at number indent (top ∷ below)) not_less ∙ ap (dedented at number indent) (sym levels) in
    subst (λ o. BeginsLine behind at indent number all o tokens) (sym same) h

-- an indent that grows, and the line behind its INDENT
grows_from : (behind : Behind) (at here number indent top : ℕ) (below all : List ℕ) (tokens : List Token) → behind.levels ≡ top ∷ below → AreFalling behind.levels → top < indent → here ≡ at → BeginsLine (record behind { levels = indent ∷ behind.levels; found = Some indent }) at indent number all (dedented at number indent (indent ∷ behind.levels)) tokens → BeginsLine behind at indent number all (line_indented AtStart at number indent behind.levels) (record { kind = Indent; at = here; len = 0 } ∷ tokens)
grows_from behind at here number indent top below all tokens levels falling grows here_is h =
    let less : ltb top indent ≡ true = lt-ltb top indent grows in
    let same : unchanged_levels (indent ∷ behind.levels) ≡ h.levels = given_is (unchanged_levels (indent ∷ behind.levels)) h.levels (sym (level_is at number indent behind.levels) ∙ h.given) in
    let opened : indented at number indent behind.levels ≡ Ok (opened_levels at indent behind.levels) = ap (indented at number indent) levels ∙ cond-true (ltb top indent) (Ok (opened_levels at indent (top ∷ below))) _ less ∙ ap (λ l. Ok (opened_levels at indent l)) (sym levels) in
    let grown : AreFalling (indent ∷ behind.levels) = subst (λ l. AreFalling (indent ∷ l)) (sym levels) (grows, subst AreFalling levels falling) in
    let line : List Token = record { kind = h.kind; at = at; len = h.len } ∷ h.rest in
    record {
      levels = opened_levels at indent behind.levels;
      kind = h.kind;
      len = h.len;
      rest = h.rest;
      given = opened;
      falling = grown;
      are = ap (λ n. empty_token Indent n ∷ tokens) here_is ∙ ap (λ l. empty_token Indent at ∷ l) (h.are ∙ ap (λ (l : Levels). l.given ++ line) (sym same));
      token = h.token;
      read = subst (λ (l : Levels). IsRead (in_line (record behind { levels = l.stack }) all) (at + h.len) (drop h.len all) h.rest) (sym same) h.read;
    }

-- ---- the end of a source

no_bytes : (gap bytes : List ℕ) → gap ++ bytes ≡ [] → is_solid bytes ≡ true → ⊥
no_bytes gap [] is solid = false≢true solid
no_bytes gap (b ∷ bs) is solid = let total = ap length is in let both_long = length-append gap (b ∷ bs) in omega (arith, total, both_long)

above_zero : (n : ℕ) → 0 < n → (n == 0) ≡ false
above_zero n h = go (n == 0) refl
  where
    go : (t : Bool) → (n == 0) ≡ t → t ≡ false
    go true z = absurd (let none = eqb-true n 0 z in omega (arith, none, h))
    go false z = refl

closes_one : (behind : Behind) (past top : ℕ) (below : List ℕ) (tokens : List Token) → behind.levels ≡ top ∷ below → 0 < top → tokens ≡ dedents_at past below ++ empty_token End past ∷ [] → empty_token Dedent past ∷ tokens ≡ dedents_at past behind.levels ++ empty_token End past ∷ []
closes_one behind past top below tokens levels above later =
    ap (λ l. empty_token Dedent past ∷ l) later
    ∙ sym (ap (λ l. l ++ empty_token End past ∷ []) (ap (dedents_at past) levels ∙ cond-false (top == 0) [] (empty_token Dedent past ∷ dedents_at past below) (above_zero top above)))

closings : (behind : Behind) (place past : ℕ) (all : List ℕ) (tokens : List Token) → IsRead behind place all tokens → behind.inside ≡ false → all ≡ [] → place ≡ past → tokens ≡ dedents_at past behind.levels ++ empty_token End past ∷ []
closings behind place past all _ (IsRead.ended _ _ _ out levels gap) out2 is place_is =
    let none = ap length is in
    let here : place + length all ≡ past = omega (arith, none, place_is) in
    ap (λ n. empty_token End n ∷ []) here ∙ ap (λ l. dedents_at past l ++ empty_token End past ∷ []) (sym levels)
closings behind place past all _ (IsRead.token _ _ _ after here _ _ _ gap bytes tokens parts here_is after_is is_gap (Follows.closes top below out2 levels above ends) read) out is place_is =
    let total = ap length (sym parts ∙ is) in
    let both_long = length-append gap bytes in
    let at_past : here ≡ past = omega (arith, total, both_long, here_is, place_is) in
    let later = closings (record behind { levels = below }) after past bytes tokens read out ends (omega (arith, after_is, at_past)) in
    ap (λ n. empty_token Dedent n ∷ tokens) at_past ∙ closes_one behind past top below tokens levels above later
closings behind place past all _ (IsRead.token _ _ _ after here _ _ _ gap bytes tokens parts here_is after_is is_gap (Follows.goes_on kind len inside spaces token) read) out is place_is = absurd (false≢true (sym out ∙ inside))
closings behind place past all _ (IsRead.token _ _ _ after here _ _ _ gap bytes tokens parts here_is after_is is_gap (Follows.newline inside spaces blank ends) read) out is place_is = absurd (false≢true (sym out ∙ inside))
closings behind place past all _ (IsRead.token _ _ _ after here _ _ _ gap bytes tokens parts here_is after_is is_gap (Follows.begins kind len indent below out2 has levels token) read) out is place_is = absurd (no_bytes gap bytes (sym parts ∙ is) (token_solid kind len bytes token))
closings behind place past all _ (IsRead.token _ _ _ after here _ _ _ gap bytes tokens parts here_is after_is is_gap (Follows.indent indent top below out2 begun fresh has levels less solid) read) out is place_is = absurd (no_bytes gap bytes (sym parts ∙ is) solid)
closings behind place past all _ (IsRead.token _ _ _ after here _ _ _ gap bytes tokens parts here_is after_is is_gap (Follows.dedent indent top below out2 has levels less solid) read) out is place_is = absurd (no_bytes gap bytes (sym parts ∙ is) solid)

-- behind the last gap
end_gives : (phase : Phase) (behind : Behind) (place past number : ℕ) (all gap : List ℕ) (tokens : List Token) → behind.inside ≡ false → StandsAt phase behind → IsGap [] gap → all ≡ gap → past ≡ place + length gap → tokens ≡ dedents_at past behind.levels ++ empty_token End past ∷ [] → Gives phase number behind place all tokens
end_gives phase behind place past number all gap tokens out stands is_gap parts past_is are =
    let is_out = out_of phase behind out stands in
    let arrives = gap_outside [] gap [] behind.levels place past number behind.brackets phase is_out is_gap (All-nil (λ c. (c == 32) ≡ true)) (omega (arith, past_is)) in
    let ends = end_closes arrives.there past arrives.line behind.brackets phase behind.levels arrives.spaces is_out arrives.are_spaces arrives.position in
    subst (λ l. Gives phase number behind place l tokens) (append-nil gap ∙ sym parts) (arrives.same ∙ ends ∙ ap (λ l. Ok l) (sym are))

-- ---- a line in front of what is known

abbrev Further : ℕ → Type 0
Further fuel = (phase : Phase) (behind : Behind) (place number : ℕ) (all : List ℕ) (tokens : List Token) → length tokens ≤ fuel → IsRead behind place all tokens → Sane phase behind → Gives phase number behind place all tokens

fewer : (given rest tokens : List Token) (t : Token) (fuel : ℕ) → length tokens ≤ suc fuel → tokens ≡ given ++ t ∷ rest → length rest ≤ fuel
fewer given rest tokens t fuel few are = let total = ap length are in let both_long = length-append given (t ∷ rest) in omega (arith, few, total, both_long)

line_gives : (fuel : ℕ) → Further fuel → (phase : Phase) (behind : Behind) (place at indent number : ℕ) (all gap bytes : List ℕ) (tokens : List Token) → length tokens ≤ suc fuel → behind.inside ≡ false → Sane phase behind → IsGap bytes gap → all ≡ gap ++ bytes → at ≡ place + length gap → is_solid bytes ≡ true → IsIndent place gap indent → ((line : ℕ) → BeginsLine behind at indent line bytes (line_indented phase at line indent behind.levels) tokens) → Gives phase number behind place all tokens
line_gives fuel further phase behind place at indent number all gap [] tokens few out sane is_gap parts at_is solid is_indent line = absurd (false≢true solid)
line_gives fuel further phase behind place at indent number all gap (b ∷ bs) tokens few out sane is_gap parts at_is solid is_indent line =
    let is_out = out_of phase behind out sane.stands in
    let arrives = gap_outside (b ∷ bs) gap [] behind.levels place at number behind.brackets phase is_out is_gap (All-nil (λ c. (c == 32) ≡ true)) (omega (arith, at_is)) in
    let count = arrives.count solid ∙ indent_is place gap indent is_indent in
    let h = line arrives.line in
    let next : Behind = in_line (record behind { levels = h.levels.stack }) (b ∷ bs) in
    let t : Token = record { kind = h.kind; at = at; len = h.len } in
    let rest = further Inside next (at + h.len) arrives.line (drop h.len (b ∷ bs)) h.rest (fewer h.levels.given h.rest tokens t fuel few h.are) h.read (record { stands = (refl, refl); falling = h.falling; found = refl }) in
    subst (λ l. Gives phase number behind place l tokens) (sym parts)
    (arrives.same ∙ first_token phase behind arrives.there arrives.line at indent arrives.spaces b bs tokens is_out arrives.are_spaces arrives.position count h rest)

indent_here : (behind : Behind) (place indent : ℕ) (gap : List ℕ) → behind.found ≡ None → HasIndent behind place gap indent → IsIndent place gap indent
indent_here behind place indent gap fresh (inl has) = absurd (let f : None ≡ Some indent = sym fresh ∙ has.0 in cc)
indent_here behind place indent gap fresh (inr has) = has.1

inside_phase : (phase : Phase) (behind : Behind) → behind.inside ≡ true → StandsAt phase behind → (Inside ≡ phase) × (behind.begun ≡ true)
inside_phase Inside behind inside stands = (refl, stands.1)
inside_phase AtStart behind inside stands = absurd (false≢true (sym stands.0 ∙ inside))
inside_phase BeforeFirst behind inside stands = absurd (false≢true (sym stands.0 ∙ inside))

-- a further token of a line
token_gives : (fuel : ℕ) → Further fuel → (behind : Behind) (place at past number len : ℕ) (kind : TokenKind) (all gap bytes : List ℕ) (tokens : List Token) → length tokens ≤ fuel → AreFalling behind.levels → IsGap bytes gap → (behind.brackets ≡ 0 → AreSpaces gap) → all ≡ gap ++ bytes → at ≡ place + length gap → past ≡ at + len → IsToken kind len bytes → IsRead (in_line behind bytes) past (drop len bytes) tokens → Gives Inside number behind place all (record { kind = kind; at = at; len = len } ∷ tokens)
token_gives fuel further behind place at past number len kind all gap [] tokens few falling is_gap spaces parts at_is past_is token read = absurd (false≢true (token_solid kind len [] token))
token_gives fuel further behind place at past number len kind all gap (b ∷ bs) tokens few falling is_gap spaces parts at_is past_is token read =
    let passes = gap_inside (b ∷ bs) gap place at number behind.brackets behind.levels is_gap spaces at_is in
    let rest = further Inside (in_line behind (b ∷ bs)) past passes.line (drop len (b ∷ bs)) tokens few read (record { stands = (refl, refl); falling = falling; found = refl }) in
    subst (λ l. Gives Inside number behind place l (record { kind = kind; at = at; len = len } ∷ tokens)) (sym parts)
    (passes.same ∙ further_token behind at past passes.line len kind b bs tokens token past_is rest)

newline_gives : (fuel : ℕ) → Further fuel → (behind : Behind) (place at past number : ℕ) (all gap bytes : List ℕ) (tokens : List Token) → length tokens ≤ fuel → Sane Inside behind → IsGap bytes gap → (behind.brackets ≡ 0 → AreSpaces gap) → all ≡ gap ++ bytes → at ≡ place + length gap → past ≡ at + 0 → is_blank bytes ≡ true → (bytes ≡ []) ⊎ (behind.brackets ≡ 0) → IsRead (record behind { inside = false }) past bytes tokens → Gives Inside number behind place all (empty_token Newline at ∷ tokens)
newline_gives fuel further behind place at past number all gap bytes tokens few sane is_gap spaces parts at_is past_is blank ends read =
    let passes = gap_inside bytes gap place at number behind.brackets behind.levels is_gap spaces at_is in
    let next : Behind = record behind { inside = false } in
    let there : past ≡ at = omega (arith, past_is) in
    let rest = further AtStart next past passes.line bytes tokens few read (record { stands = (refl, sane.stands.1); falling = sane.falling; found = sane.found }) in
    let here : Gives AtStart passes.line next at bytes tokens = subst (λ n. Gives AtStart passes.line next n bytes tokens) there rest in
    subst (λ l. Gives Inside number behind place l (empty_token Newline at ∷ tokens)) (sym parts)
    (passes.same ∙ newline_turn bytes at passes.line behind.brackets behind.levels tokens blank ends here)

complete : (fuel : ℕ) → Further fuel
complete zero phase behind place number all _ few (IsRead.ended _ _ _ out levels gap) sane = absurd (omega (arith, few))
complete zero phase behind place number all _ few (IsRead.token _ _ _ past here len kind _ gap bytes tokens parts here_is past_is is_gap follows read) sane = absurd (omega (arith, few))
complete (suc fuel) phase behind place number all _ few (IsRead.ended _ _ _ out levels gap) sane =
    end_gives phase behind place (place + length all) number all all (empty_token End (place + length all) ∷ []) out sane.stands gap refl refl (ap (λ l. dedents_at (place + length all) l ++ empty_token End (place + length all) ∷ []) (sym levels))
complete (suc fuel) phase behind place number all _ few (IsRead.token _ _ _ past here _ _ _ gap bytes tokens parts here_is past_is is_gap (Follows.goes_on kind len inside spaces token) read) sane =
    let is = inside_phase phase behind inside sane.stands in
    subst (λ p. Gives p number behind place all (record { kind = kind; at = here; len = len } ∷ tokens)) is.0
    (token_gives fuel (complete fuel) behind place here past number len kind all gap bytes tokens (omega (arith, few)) sane.falling is_gap spaces parts here_is past_is token read)
complete (suc fuel) phase behind place number all _ few (IsRead.token _ _ _ past here _ _ _ gap bytes tokens parts here_is past_is is_gap (Follows.newline inside spaces blank ends) read) sane =
    let is = inside_phase phase behind inside sane.stands in
    subst (λ p. Gives p number behind place all (empty_token Newline here ∷ tokens)) is.0
    (newline_gives fuel (complete fuel) behind place here past number all gap bytes tokens (omega (arith, few)) (record { stands = (inside, is.1); falling = sane.falling; found = sane.found }) is_gap spaces parts here_is past_is blank ends read)
complete (suc fuel) phase behind place number all _ few (IsRead.token _ _ _ past here _ _ _ gap bytes tokens parts here_is past_is is_gap (Follows.begins kind len indent below out has levels token) read) sane =
    line_gives fuel (complete fuel) phase behind place here indent number all gap bytes (record { kind = kind; at = here; len = len } ∷ tokens) few out sane is_gap parts here_is (token_solid kind len bytes token) (indent_here behind place indent gap sane.found has)
    (λ line. plain_line behind here here past indent line len kind bytes bytes tokens (line_indented phase here line indent behind.levels) (no_block phase behind here line indent below out sane.stands levels) sane.falling refl past_is refl token read)
complete (suc fuel) phase behind place number all _ few (IsRead.token _ _ _ past here _ _ _ gap bytes tokens parts here_is past_is is_gap (Follows.indent indent top below out begun fresh is_indent levels grows solid) read) sane =
    let next : Behind = record behind { levels = indent ∷ behind.levels; found = Some indent } in
    let grown : AreFalling (indent ∷ behind.levels) = subst (λ l. AreFalling (indent ∷ l)) (sym levels) (grows, subst AreFalling levels sane.falling) in
    let is = begun_out phase behind out begun sane.stands in
    let there : past ≡ here = omega (arith, past_is) in
    line_gives fuel (complete fuel) phase behind place here indent number all gap bytes (empty_token Indent here ∷ tokens) few out sane is_gap parts here_is solid is_indent
    (λ line. subst (λ p. BeginsLine behind here indent line bytes (line_indented p here line indent behind.levels) (empty_token Indent here ∷ tokens)) (sym is)
    (grows_from behind here here line indent top below bytes tokens levels sane.falling grows refl (dedents_from next past here indent line bytes tokens read out refl grown solid there)))
complete (suc fuel) phase behind place number all _ few (IsRead.token _ _ _ past here _ _ _ gap bytes tokens parts here_is past_is is_gap (Follows.dedent indent top below out has levels falls solid) read) sane =
    let next : Behind = record behind { levels = below; found = Some indent } in
    let is = falls_out phase behind indent top below out levels falls sane.stands in
    let there : past ≡ here = omega (arith, past_is) in
    line_gives fuel (complete fuel) phase behind place here indent number all gap bytes (empty_token Dedent here ∷ tokens) few out sane is_gap parts here_is solid (indent_here behind place indent gap sane.found has)
    (λ line. subst (λ p. BeginsLine behind here indent line bytes (line_indented p here line indent behind.levels) (empty_token Dedent here ∷ tokens)) (sym is)
    (falls_from behind here line indent top below bytes (empty_token Dedent here ∷ tokens) levels falls
    (dedent_first behind here here indent line top below bytes bytes tokens levels falls refl refl out indent (dedents_from next past here indent line bytes tokens read out refl (lower indent top below (subst AreFalling levels sane.falling) falls) solid there))))
complete (suc fuel) phase behind place number all _ few (IsRead.token _ _ _ past here _ _ _ gap bytes tokens parts here_is past_is is_gap (Follows.closes top below out levels above ends) read) sane =
    let all_gap : all ≡ gap = parts ∙ ap (λ l. gap ++ l) ends ∙ append-nil gap in
    let later = closings (record behind { levels = below }) past here bytes tokens read out ends (omega (arith, past_is)) in
    end_gives phase behind place here number all gap (empty_token Dedent here ∷ tokens) out sane.stands (subst (λ l. IsGap l gap) ends is_gap) all_gap here_is (closes_one behind here top below tokens levels above later)

pub tokens_are : (source : List ℕ) (tokens : List Token) → length source ≤ 65536 → IsRead standing.beginning 0 source tokens → tokens_of source ≡ Ok tokens
unfolding beginning
tokens_are source tokens short read =
    tokens_of_short source short ∙ complete (length tokens) BeforeFirst standing.beginning 0 1 source tokens (omega arith) read (record { stands = (refl, refl, refl); falling = refl; found = refl })
