-- The tokens of a source can be read: what each says of its bytes.
use Rattle.std.proofs.Common.{◌≡◌, ℕ, zero, suc, ◌+◌, ◌*◌, ◌-◌, ◌^◌, ◌<◌, ◌≤◌, Bool, true, false, cond, eqb, List, [], ◌∷◌, ◌++◌, length, take, drop, Option, Result, Ok, Err, refl, sym, ap, ◌∙◌, subst, arith, ⊎_elim}
use Rattle.std.specs.Prelude.{All, IfOk, option_to_list, ◌&&◌, ◌==◌, not, nat_le}
use Rattle.std.specs.List.{prefix_len, AllPass, list_all}
use Rattle.std.specs.Char.{is_ascii_digit}
use Rattle.std.proofs.Math.Seq.{take-add}
use Rattle.std.proofs.lemmas.List.{drop-drop}
use Rattle.std.proofs.lemmas.List.Elements.{All-nil, All-cons, All-append, All-head, All-tail}
use Rattle.std.proofs.lemmas.Bool.{and_parts, leb-true, eqb-true}
use Rattle.std.proofs.lemmas.Bool.Decides.{nat_tests}
use Rattle.std.proofs.Math.Nat.{mul-le-mul_left, pow-succ' as pow-suc', mul_comm, mul_assoc, suc-mul}
use Rattle.mx_lex.specs.Bytes.{begins_name, continues_name, is_quote, first_passes}
use Rattle.mx_lex.specs.Spans.{Found, found, is_keyword, name_at, digits_from, is_whole, is_glued, is_int, is_fix, whole_limit, number_at, text_end, text_until, text_at, long_marks, short_marks, begins_with_one, mark_at, span_at}
use Rattle.mx_lex.specs.Heads.{empty_token, is_inside}
use Rattle.mx_lex.specs.Lines.{lead}
use Rattle.mx_lex.specs.Lexing.{Reading, Step, step_at, dedents_at, closing_at, tokens_of, beginning}
use Rattle.mx_lex.specs.Laws.{InOrder, IsSpelled, text_of}
use Rattle.mx_lex.specs.declared.Token.{Token}
use Rattle.mx_lex.specs.declared.TokenKind.{TokenKind}
use Rattle.mx_lex.specs.declared.TokenKind.TheVariants.{Name, Keyword, Int, Fix, Mark, Newline, Indent, Dedent, End}
use Rattle.mx_lex.specs.declared.LexRefusal.{LexRefusal}
use Rattle.mx_lex.specs.declared.LexRefusal.TheVariants.{BadByte, BadNumber}
use Rattle.mx_lex.specs.declared.spans.Span.{Span}
use Rattle.mx_lex.proofs.Cases.{both}
use Rattle.mx_lex.proofs.Digits.{front_passes}
use Rattle.mx_lex.proofs.Order.{not_too_long, tokens_in_order, tokens_spelled}
use Rattle.mx_lex.proofs.Steps.{AreBlocks, IsHeadToken, step_opens, by_steps}
use Rattle.mx_grammar.specs.Words.{whole_of, decimals_of, fix_of, IsDecimal, IsReadable}

-- ---- numbers with a point

pos_pow : (n : ℕ) → 1 ≤ 10 ^ n
pos_pow zero = omega arith
pos_pow (suc n) = omega (arith, pos_pow n, pow-suc' 10 n)

digit_most : (d : ℕ) → is_ascii_digit d ≡ true → d - 48 ≤ 9
digit_most d h = grind (arith, nat_tests, h)

-- one digit more is at most ten times as much
one_more : (v e p : ℕ) → e ≤ 9 → (v * 10 + e + 1) * p ≤ (v + 1) * (10 * p)
one_more v e p h =
    let q : p * (v * 10 + e + 1) ≤ p * ((v + 1) * 10) = mul-le-mul_left p (omega arith) in
    let left : (v * 10 + e + 1) * p ≡ p * (v * 10 + e + 1) = mul_comm (v * 10 + e + 1) p in
    let right : p * ((v + 1) * 10) ≡ (v + 1) * (10 * p) = mul_comm p ((v + 1) * 10) ∙ mul_assoc (v + 1) 10 p in
    omega (arith, q, left, right)

none_moved : (m n v : ℕ) → m ≡ n → v * 10 ^ m + 1 ≤ (v + 1) * 10 ^ n
none_moved m n v same =
    let one : v * 10 ^ m ≡ v * 10 ^ n = ap (λ (k : ℕ). v * 10 ^ k) same in
    let next : v + 1 ≡ suc v = omega arith in
    let two : (v + 1) * 10 ^ n ≡ v * 10 ^ n + 10 ^ n = ap (λ (k : ℕ). k * 10 ^ n) next ∙ suc-mul v (10 ^ n) in
    omega (arith, pos_pow n, one, two)

-- digits, moved to so many places
moved_below : (ds : List ℕ) (n v : ℕ) → length ds ≤ n → AllPass is_ascii_digit ds → digits_from v ds * 10 ^ (n - length ds) + 1 ≤ (v + 1) * 10 ^ n
moved_below [] n v h all = none_moved (n - 0) n v (omega arith)
moved_below (d ∷ ds) zero v h all = absurd (omega arith)
moved_below (d ∷ ds) (suc m) v h all =
    let first = All-head (λ b. is_ascii_digit b ≡ true) d ds all in
    let below = moved_below ds m (v * 10 + (d - 48)) (omega arith) (All-tail (λ b. is_ascii_digit b ≡ true) d ds all) in
    let step = one_more v (d - 48) (10 ^ m) (digit_most d first) in
    let power = pow-suc' 10 m in
    let places : suc m - length (d ∷ ds) ≡ m - length ds = omega arith in
    rw (places, power) (omega (arith, below, step))

zeros_from : (ds : List ℕ) → list_all (λ d. d == 48) ds ≡ true → digits_from 0 ds ≡ 0
zeros_from [] h = refl
zeros_from (d ∷ ds) h =
    let both = and_parts (d == 48) (list_all (λ b. b == 48) ds) h in
    let same : d ≡ 48 = eqb-true d 48 both.0 in
    rw same (zeros_from ds both.1)

-- ---- digits, a point and digits

prefix_all : (ds : List ℕ) (rest : List ℕ) → AllPass is_ascii_digit ds → prefix_len is_ascii_digit (ds ++ 46 ∷ rest) ≡ length ds
prefix_all [] rest h = refl
prefix_all (d ∷ ds) rest h =
    ap (λ (b : Bool). cond b (1 + prefix_len is_ascii_digit (ds ++ 46 ∷ rest)) 0) (All-head (λ b. is_ascii_digit b ≡ true) d ds h)
    ∙ (let more = prefix_all ds rest (All-tail (λ b. is_ascii_digit b ≡ true) d ds h) in let e : 1 + prefix_len is_ascii_digit (ds ++ 46 ∷ rest) ≡ suc (length ds) = omega (arith, more) in e)

take_front : (u v : List ℕ) → take (length u) (u ++ v) ≡ u
take_front [] v = refl
take_front (x ∷ u) v = ap (λ (l : List ℕ). x ∷ l) (take_front u v)

drop_front : (u v : List ℕ) → drop (length u) (u ++ v) ≡ v
drop_front [] v = refl
drop_front (x ∷ u) v = drop_front u v

most_by : (ds : List ℕ) (w : ℕ) (zeros : Bool) → list_all (λ d. d == 48) ds ≡ zeros → w ≤ cond zeros 10000000000 9999999999 → length ds ≤ 9 → AllPass is_ascii_digit ds → w * 10 ^ 9 + digits_from 0 ds * 10 ^ (9 - length ds) ≤ 10 ^ 19
most_by ds w true z h few all = let none = zeros_from ds z in rw none (omega (arith, h))
most_by ds w false z h few all = let below = moved_below ds 9 0 few all in omega (arith, h, below)

below_one : (ds : List ℕ) → length ds ≤ 9 → AllPass is_ascii_digit ds → digits_from 0 ds ≤ 10 ^ 9
below_one ds few all =
    let below = moved_below ds 9 0 few all in
    let more : digits_from 0 ds * 1 ≤ digits_from 0 ds * 10 ^ (9 - length ds) = mul-le-mul_left (digits_from 0 ds) (pos_pow (9 - length ds)) in
    omega (arith, below, more)

limit_by : (zeros : Bool) → cond zeros 10000000000 9999999999 ≤ 10000000000
limit_by true = omega arith
limit_by false = omega arith

decimal : (whole decimals text : List ℕ) → text ≡ whole ++ 46 ∷ decimals → AllPass is_ascii_digit whole → AllPass is_ascii_digit decimals → length decimals ≤ 9 → digits_from 0 whole ≤ whole_limit decimals → IsDecimal text
decimal whole decimals text parts digits more few bound =
    let len : prefix_len is_ascii_digit text ≡ length whole = ap (prefix_len is_ascii_digit) parts ∙ prefix_all whole decimals digits in
    let front : whole_of text ≡ whole = ap (λ (n : ℕ). take n text) len ∙ ap (take (length whole)) parts ∙ take_front whole (46 ∷ decimals) in
    let back : drop (prefix_len is_ascii_digit text) text ≡ 46 ∷ decimals = ap (λ (n : ℕ). drop n text) len ∙ ap (drop (length whole)) parts ∙ drop_front whole (46 ∷ decimals) in
    let rest : decimals_of text ≡ decimals = ap (drop 1) back in
    let value : fix_of text ≡ digits_from 0 whole * 10 ^ 9 + digits_from 0 decimals * 10 ^ (9 - length decimals) = ap (λ (w : List ℕ). digits_from 0 w * 10 ^ 9 + digits_from 0 (decimals_of text) * 10 ^ (9 - length (decimals_of text))) front ∙ ap (λ (d : List ℕ). digits_from 0 whole * 10 ^ 9 + digits_from 0 d * 10 ^ (9 - length d)) rest in
    record {
      whole = subst (AllPass is_ascii_digit) (sym front) digits;
      point = subst (λ (l : List ℕ). 1 ≤ length l) (sym back) (omega arith);
      decimals = subst (AllPass is_ascii_digit) (sym rest) more;
      few = subst (λ (l : List ℕ). length l ≤ 9) (sym rest) few;
      most = subst (λ (l : List ℕ). digits_from 0 l ≤ 10 ^ 10) (sym front) (let most = limit_by (list_all (λ d. d == 48) decimals) in omega (arith, bound, most));
      small = subst (λ (l : List ℕ). digits_from 0 l ≤ 10 ^ 9) (sym rest) (below_one decimals few more);
      fits = subst (λ (n : ℕ). n ≤ 10 ^ 19) (sym value) (most_by decimals (digits_from 0 whole) (list_all (λ d. d == 48) decimals) refl bound few more);
    }

-- ---- what a span that begins at the rest says

abbrev Decimal : TokenKind → List ℕ → Type 0
Decimal kind text = kind ≡ Fix → IsDecimal text

abbrev FoundDecimal : List ℕ → Found → Type 0
FoundDecimal rest outcome = IfOk outcome (λ span. Decimal span.kind (take span.len rest))

name_decimal : (rest : List ℕ) → FoundDecimal rest (name_at rest)
unfolding name_at
name_decimal rest = both (λ kind. Decimal kind (take (prefix_len continues_name rest) rest)) (is_keyword (take (prefix_len continues_name rest) rest)) Keyword Name (λ _ e. absurd cc) (λ _ e. absurd cc)

point_parts : (whole decimals : ℕ) (rest : List ℕ) → first_passes (λ b. b == 46) (drop whole rest) ≡ true → take (whole + 1 + decimals) rest ≡ take whole rest ++ 46 ∷ take decimals (drop 1 (drop whole rest))
point_parts whole decimals rest point =
    let regroup : whole + 1 + decimals ≡ whole + suc decimals = omega arith in
    ap (λ n. take n rest) regroup ∙ take-add whole (suc decimals) rest ∙ ap (λ l. take whole rest ++ l) (from_point (drop whole rest) point)
  where
    from_point : (behind : List ℕ) → first_passes (λ b. b == 46) behind ≡ true → take (suc decimals) behind ≡ 46 ∷ take decimals (drop 1 behind)
    from_point [] h = absurd cc
    from_point (b ∷ bs) h = ap (λ c. c ∷ take decimals bs) (eqb-true b 46 h)

fix_decimal : (whole decimals behind : List ℕ) (text : List ℕ) → text ≡ whole ++ 46 ∷ decimals → AllPass is_ascii_digit whole → AllPass is_ascii_digit decimals → is_fix whole decimals behind ≡ true → IsDecimal text
fix_decimal whole decimals behind text parts digits more is =
    let a = and_parts (is_whole whole && nat_le 1 (length decimals) && nat_le (length decimals) 9 && nat_le (digits_from 0 whole) (whole_limit decimals)) (not (is_glued behind)) is in
    let b = and_parts (is_whole whole && nat_le 1 (length decimals) && nat_le (length decimals) 9) (nat_le (digits_from 0 whole) (whole_limit decimals)) a.0 in
    let c = and_parts (is_whole whole && nat_le 1 (length decimals)) (nat_le (length decimals) 9) b.0 in
    decimal whole decimals text parts digits more (leb-true (length decimals) 9 c.1) (leb-true (digits_from 0 whole) (whole_limit decimals) b.1)

number_decimal : (at : ℕ) (rest : List ℕ) → FoundDecimal rest (number_at at rest)
unfolding number_at
number_decimal at rest =
    let whole = prefix_len is_ascii_digit rest in
    let behind = drop whole rest in
    let after = drop 1 behind in
    let decimals = prefix_len is_ascii_digit after in
    both (FoundDecimal rest) (first_passes (λ b. b == 46) behind) _ _
    (λ point. both (FoundDecimal rest) (is_fix (take whole rest) (take decimals after) (drop decimals after)) (found Fix (whole + 1 + decimals)) (Err (BadNumber at))
    (λ is e. fix_decimal (take whole rest) (take decimals after) (drop decimals after) (take (whole + 1 + decimals) rest) (point_parts whole decimals rest point) (front_passes is_ascii_digit rest) (front_passes is_ascii_digit after) is) (λ _. tt))
    (λ _. both (FoundDecimal rest) (is_int (take whole rest) behind) (found Int whole) (Err (BadNumber at)) (λ is e. absurd cc) (λ _. tt))

mark_decimal : (at : ℕ) (rest : List ℕ) → FoundDecimal rest (mark_at at rest)
unfolding mark_at
mark_decimal at rest =
    both (FoundDecimal rest) (begins_with_one long_marks rest) (found Mark 2) _ (λ h e. absurd cc)
    (λ _. both (FoundDecimal rest) (begins_with_one short_marks rest) (found Mark 1) (Err (BadByte at)) (λ h e. absurd cc) (λ _. tt))

until_decimal : (at : ℕ) (rest : List ℕ) (outcome : Result ℕ LexRefusal) → FoundDecimal rest (text_until at outcome)
until_decimal at rest (Ok past) = λ e. absurd cc
until_decimal at rest (Err f) = tt

text_decimal : (at : ℕ) (rest : List ℕ) → FoundDecimal rest (text_at at rest)
text_decimal at [] = tt
text_decimal at (quote ∷ bs) = until_decimal at (quote ∷ bs) (text_end at quote false (at + 1) bs)

span_decimal : (at : ℕ) (rest : List ℕ) → FoundDecimal rest (span_at at rest)
unfolding span_at
span_decimal at rest =
    both (FoundDecimal rest) (first_passes begins_name rest) (name_at rest) _ (λ h. name_decimal rest)
    (λ _. both (FoundDecimal rest) (first_passes is_ascii_digit rest) (number_at at rest) _ (λ h. number_decimal at rest)
    (λ _. both (FoundDecimal rest) (first_passes (λ b. b == 46) rest && first_passes is_ascii_digit (drop 1 rest)) (Err (BadNumber at)) _ (λ _. tt)
    (λ _. both (FoundDecimal rest) (first_passes is_quote rest) (text_at at rest) (mark_at at rest) (λ h. text_decimal at rest) (λ _. mark_decimal at rest))))

found_decimal : (at : ℕ) (rest : List ℕ) (span : Span) → span_at at rest ≡ Ok span → Decimal span.kind (take span.len rest)
found_decimal at rest span e = subst (FoundDecimal rest) e (span_decimal at rest)

-- ---- all tokens of a source

blocks_hold : (P : Token → Type 0) (at : ℕ) → P (empty_token Indent at) → P (empty_token Dedent at) → (ts : List Token) → AreBlocks at ts → All P ts
blocks_hold P at indent dedent [] h = All-nil P
blocks_hold P at indent dedent (t ∷ ts) h =
    All-cons P t ts (⊎_elim (λ e. subst P (sym e) indent) (λ e. subst P (sym e) dedent) h.0) (blocks_hold P at indent dedent ts h.1)

head_holds : (P : Token → Type 0) (at : ℕ) (rest : List ℕ) (taken : ℕ) → P (empty_token Newline at) → ((found : Span) → span_at at rest ≡ Ok found → P (record { kind = found.kind; at = at; len = found.len })) → (token : Option Token) → IsHeadToken at rest taken token → All P (option_to_list token)
head_holds P at rest taken newline span _ IsHeadToken.none = All-nil P
head_holds P at rest taken newline span _ IsHeadToken.newline = All-cons P (empty_token Newline at) [] newline (All-nil P)
head_holds P at rest taken newline span _ (IsHeadToken.token found e _) = All-cons P (record { kind = found.kind; at = at; len = found.len }) [] (span found e) (All-nil P)

dedents_hold : (P : Token → Type 0) (at : ℕ) → P (empty_token Dedent at) → (stack : List ℕ) → All P (dedents_at at stack)
dedents_hold P at dedent [] = All-nil P
dedents_hold P at dedent (top ∷ below) =
    both (All P) (eqb top 0) [] (empty_token Dedent at ∷ dedents_at at below) (λ _. All-nil P) (λ _. All-cons P (empty_token Dedent at) (dedents_at at below) dedent (dedents_hold P at dedent below))

abbrev IsDecimalIn : List ℕ → Token → Type 0
IsDecimalIn source t = Decimal t.kind (text_of source t)

abbrev DecimalIn : ℕ → List ℕ → Reading → List Token → Type 0
DecimalIn at rest reading tokens = (source : List ℕ) → rest ≡ drop at source → All (IsDecimalIn source) tokens

closed_decimal : (at : ℕ) (reading : Reading) → DecimalIn at [] reading (closing_at at reading)
unfolding closing_at
closed_decimal at reading source e =
    let P : Token → Type 0 = IsDecimalIn source in
    let newline = cond (is_inside reading.line.phase) (empty_token Newline at ∷ []) [] in
    All-append P (newline ++ dedents_at at reading.stack) (empty_token End at ∷ [])
    (All-append P newline (dedents_at at reading.stack) (both (All P) (is_inside reading.line.phase) (empty_token Newline at ∷ []) [] (λ _. All-cons P (empty_token Newline at) [] (λ f. absurd cc) (All-nil P)) (λ _. All-nil P)) (dedents_hold P at (λ f. absurd cc) reading.stack))
    (All-cons P (empty_token End at) [] (λ f. absurd cc) (All-nil P))

kept_decimal : (at : ℕ) (rest : List ℕ) (reading : Reading) (step : Step) (tokens : List Token) → 0 < length rest → step_at at reading rest ≡ Ok step → DecimalIn (at + step.taken) (drop step.taken rest) step.next tokens → DecimalIn at rest reading (step.given ++ tokens)
kept_decimal at rest reading step tokens some e decimal_behind source is_rest =
    let P : Token → Type 0 = IsDecimalIn source in
    let spaces = lead reading.line rest in
    let behind : drop step.taken rest ≡ drop (at + step.taken) source = ap (drop step.taken) is_rest ∙ drop-drop step.taken at source in
    let first : drop spaces rest ≡ drop (at + spaces) source = ap (drop spaces) is_rest ∙ drop-drop spaces at source in
    let opens = step_opens at reading rest step e in
    let given : All P step.given =
    subst (λ (s : Step). All P s.given) opens.is_step
    (All-append P opens.levels.given (option_to_list opens.head.token)
    (blocks_hold P (at + spaces) (λ f. absurd cc) (λ f. absurd cc) opens.levels.given opens.blocks)
    (head_holds P (at + spaces) (drop spaces rest) opens.head.taken (λ f. absurd cc) (λ found is_span. subst (λ l. Decimal found.kind (take found.len l)) first (found_decimal (at + spaces) (drop spaces rest) found is_span)) opens.head.token opens.token))
    in
    All-append P step.given tokens given (decimal_behind source behind)

tokens_decimal : (source : List ℕ) (tokens : List Token) → tokens_of source ≡ Ok tokens → All (IsDecimalIn source) tokens
tokens_decimal source tokens e = by_steps DecimalIn closed_decimal kept_decimal source 0 beginning tokens (not_too_long source tokens e) source refl

all_readable : (source : List ℕ) (low : ℕ) (tokens : List Token) → InOrder low (length source) tokens → All (λ t. IsSpelled t.kind (text_of source t)) tokens → All (IsDecimalIn source) tokens → All (IsReadable source) tokens
all_readable source low [] order spelled dec = All-nil (IsReadable source)
all_readable source low (t ∷ ts) order spelled dec =
    All-cons (IsReadable source) t ts
    (record { within = least (t.at + t.len) (length source) ts order.1; spelled = All-head (λ s. IsSpelled s.kind (text_of source s)) t ts spelled; decimal = All-head (IsDecimalIn source) t ts dec })
    (all_readable source (t.at + t.len) ts order.1 (All-tail (λ s. IsSpelled s.kind (text_of source s)) t ts spelled) (All-tail (IsDecimalIn source) t ts dec))
  where
    least : (l h : ℕ) (us : List Token) → InOrder l h us → l ≤ h
    least l h [] o = o
    least l h (u ∷ us) o = let m = least (u.at + u.len) h us o.1 in omega (arith, o.0, m)

-- each token of a source can be read
pub readable : (source : List ℕ) (tokens : List Token) → tokens_of source ≡ Ok tokens → All (IsReadable source) tokens
readable source tokens e = all_readable source 0 tokens (tokens_in_order source tokens e) (tokens_spelled source tokens e) (tokens_decimal source tokens e)
