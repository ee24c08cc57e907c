-- One token alone stands at a place: the one that the lexer gives.
use Rattle.std.proofs.Common.{◌≡◌, ◌≢◌, ℕ, ◌+◌, ◌-◌, ◌<◌, ◌≤◌, zero, suc, List, [], ◌∷◌, ◌++◌, Bool, true, false, cond, ◌==◌, not, ◌||◌, length, take, drop, refl, sym, ap, ◌∙◌, subst, ◌⊎◌, ⊎_elim, inl, inr, append_assoc, Ok, Err, arith, length-append, length-take-le, take-append-drop}
use Rattle.std.specs.List.{prefix_len, AllPass}
use Rattle.std.specs.Char.{is_ascii_digit}
use Rattle.std.proofs.Math.Seq.{take-append_seam, drop-append_seam}
use Rattle.std.proofs.lemmas.Bool.{false≢true, cond-true, cond-false, le-leb, or_left, or_right, and_parts, not-true, eqb-true}
use Rattle.std.proofs.lemmas.Bool.Decides.{nat_tests}
use Rattle.std.proofs.lemmas.List.Elements.{All-head, All-tail}
use Rattle.mx_lex.specs.Bytes.{begins_name, continues_name, is_printable, is_quote, first_passes}
use Rattle.mx_lex.specs.Spans.{found, is_keyword, name_at, is_whole, digits_from, is_glued, is_int, is_fix, number_at, text_end, text_until, text_at, long_marks, short_marks, begins_with_one, mark_at, span_at}
use Rattle.mx_lex.specs.declared.TokenKind.{TokenKind}
use Rattle.mx_lex.specs.declared.TokenKind.TheVariants.{Name, Keyword, Int, Fix, Text, Mark, Newline, Indent, Dedent, End}
use Rattle.mx_lex.specs.declared.LexRefusal.TheVariants.{BadByte}
use Rattle.mx_token_laws.specs.Standing.{BeginsMark, IsWord, IsWhole, IsDecimal, IsQuoted, IsToken}

pub heads_same : (a b : ℕ) (xs ys : List ℕ) → a ∷ xs ≡ b ∷ ys → a ≡ b
heads_same a b xs ys e = cc

pub tails_same : (a b : ℕ) (xs ys : List ℕ) → a ∷ xs ≡ b ∷ ys → xs ≡ ys
tails_same a b xs ys e = cc

-- a front that passes, behind which stands what does not
pub front_is : (p : ℕ → Bool) (front behind : List ℕ) → AllPass p front → first_passes p behind ≡ false → prefix_len p (front ++ behind) ≡ length front
front_is p [] [] all stops = refl
front_is p [] (b ∷ bs) all stops = rw stops refl
front_is p (b ∷ bs) behind all stops =
    let further = front_is p bs behind (All-tail (λ c. p c ≡ true) b bs all) stops in
    rw (All-head (λ c. p c ≡ true) b bs all) (omega (arith, further))

weaker_false : (p q : ℕ → Bool) (bytes : List ℕ) → ((b : ℕ) → p b ≡ true → q b ≡ true) → first_passes q bytes ≡ false → first_passes p bytes ≡ false
weaker_false p q [] h differs = refl
weaker_false p q (b ∷ bs) h differs = go (p b) refl
  where
    go : (passes : Bool) → p b ≡ passes → passes ≡ false
    go true is = absurd (false≢true (sym differs ∙ h b is))
    go false is = refl

-- these bytes are those of the token and those behind it
split_at : (len : ℕ) (bytes front : List ℕ) → take len bytes ≡ front → front ++ drop len bytes ≡ bytes
split_at len bytes front parts = ap (λ l. l ++ drop len bytes) (sym parts) ∙ take-append-drop len bytes

word_is : (len : ℕ) (bytes : List ℕ) → len ≤ length bytes → IsWord len bytes → prefix_len continues_name bytes ≡ len
word_is len bytes within word =
    ap (prefix_len continues_name) (sym (take-append-drop len bytes)) ∙ front_is continues_name (take len bytes) (drop len bytes) word.continues word.stops ∙ length-take-le len bytes within

name_is : (len : ℕ) (bytes : List ℕ) (keyword : Bool) → len ≤ length bytes → IsWord len bytes → is_keyword (take len bytes) ≡ keyword → name_at bytes ≡ found (cond keyword Keyword Name) len
unfolding name_at
name_is len bytes keyword within word is =
    ap (λ n. found (cond (is_keyword (take n bytes)) Keyword Name) n) (word_is len bytes within word) ∙ ap (λ b. found (cond b Keyword Name) len) is

-- a digit begins no name
digit_is_no_name : (bytes : List ℕ) → first_passes is_ascii_digit bytes ≡ true → first_passes begins_name bytes ≡ false
digit_is_no_name [] h = refl
digit_is_no_name (b ∷ bs) h = grind (arith, nat_tests, h)

-- nothing that would go on with a number stands behind one
glued_digit : (behind : List ℕ) → is_glued behind ≡ false → first_passes is_ascii_digit behind ≡ false
glued_digit behind stops = weaker_false is_ascii_digit (λ b. continues_name b || b == 46) behind (λ b is. or_left (continues_name b) (b == 46) (or_right (begins_name b) (is_ascii_digit b) is)) stops

glued_point : (behind : List ℕ) → is_glued behind ≡ false → first_passes (λ b. b == 46) behind ≡ false
glued_point behind stops = weaker_false (λ b. b == 46) (λ b. continues_name b || b == 46) behind (λ b is. or_right (continues_name b) (b == 46) is) stops

whole_is : (at len : ℕ) (bytes : List ℕ) → len ≤ length bytes → IsWhole len bytes → is_int (take len bytes) (drop len bytes) ≡ true → number_at at bytes ≡ found Int len
unfolding number_at
whole_is at len bytes within whole is =
    let long : prefix_len is_ascii_digit bytes ≡ len = ap (prefix_len is_ascii_digit) (sym (take-append-drop len bytes)) ∙ front_is is_ascii_digit (take len bytes) (drop len bytes) whole.are_digits (glued_digit (drop len bytes) whole.stops) ∙ length-take-le len bytes within in
    let point = glued_point (drop len bytes) whole.stops in
    rw (long, point, is) refl

int_passes : (digits behind : List ℕ) → is_whole digits ≡ true → digits_from 0 digits ≤ 9223372036854775808 → is_glued behind ≡ false → is_int digits behind ≡ true
int_passes digits behind whole bound stops =
    let small = le-leb (digits_from 0 digits) 9223372036854775808 bound in
    rw (whole, small, stops) refl

-- digits, a point and decimals
decimal_is : (at : ℕ) (digits decimals rest : List ℕ) → AllPass is_ascii_digit digits → AllPass is_ascii_digit decimals → first_passes is_ascii_digit rest ≡ false → is_fix digits decimals rest ≡ true → number_at at (digits ++ (46 ∷ (decimals ++ rest))) ≡ found Fix (length digits + 1 + length decimals)
unfolding number_at
decimal_is at digits decimals rest are_digits are_decimals stops is =
    let long = front_is is_ascii_digit digits (46 ∷ (decimals ++ rest)) are_digits refl in
    let behind = drop-append_seam digits (46 ∷ (decimals ++ rest)) in
    let front = take-append_seam digits (46 ∷ (decimals ++ rest)) in
    let few = front_is is_ascii_digit decimals rest are_decimals stops in
    let decimals_are = take-append_seam decimals rest in
    let rest_is = drop-append_seam decimals rest in
    rw (long, behind, front, few, decimals_are, rest_is, is) refl

fix_digit : (digits decimals rest : List ℕ) → is_fix digits decimals rest ≡ true → first_passes is_ascii_digit rest ≡ false
fix_digit digits decimals rest is = glued_digit rest (not-true (is_glued rest) (and_parts _ (not (is_glued rest)) is).1)

fix_is : (at len : ℕ) (bytes : List ℕ) → len ≤ length bytes → IsDecimal len bytes → number_at at bytes ≡ found Fix len
fix_is at len bytes within h =
    let rest = drop len bytes in
    let whole : h.digits ++ (46 ∷ (h.decimals ++ rest)) ≡ bytes = sym (append_assoc h.digits (46 ∷ h.decimals) rest) ∙ split_at len bytes (h.digits ++ 46 ∷ h.decimals) h.parts in
    let long = length-take-le len bytes within in
    let parts = ap length h.parts in
    let total = length-append h.digits (46 ∷ h.decimals) in
    let same : length h.digits + 1 + length h.decimals ≡ len = omega (arith, long, parts, total) in
    ap (number_at at) (sym whole) ∙ decimal_is at h.digits h.decimals rest h.are_digits h.are_decimals (fix_digit h.digits h.decimals rest h.stops) h.stops ∙ ap (found Fix) same

-- ---- texts

printable_no_end : (b : ℕ) → is_printable b ≡ true → (b == 10) ≡ false
printable_no_end b h = grind (arith, nat_tests, h)

one_quote : (b : ℕ) → is_quote b ≡ true → (b ≡ 39) ⊎ (b ≡ 34)
one_quote b h = go (b == 39) refl
  where
    go : (t : Bool) → (b == 39) ≡ t → (b ≡ 39) ⊎ (b ≡ 34)
    go true is = inl (eqb-true b 39 is)
    go false is = inr (eqb-true b 34 (subst (λ t. (t || (b == 34)) ≡ true) is h))

closing_is : (start quote place : ℕ) (rest : List ℕ) → is_quote quote ≡ true → text_end start quote false place (quote ∷ rest) ≡ Ok (place + 1)
closing_is start quote place rest h =
    ⊎_elim (λ is. subst (λ q. text_end start q false place (q ∷ rest) ≡ Ok (place + 1)) (sym is) refl)
    (λ is. subst (λ q. text_end start q false place (q ∷ rest) ≡ Ok (place + 1)) (sym is) refl) (one_quote quote h)

differs_is_false : (a b : ℕ) → (a ≡ b → ⊥) → (a == b) ≡ false
differs_is_false a b h = go (a == b) refl
  where
    go : (t : Bool) → (a == b) ≡ t → t ≡ false
    go true is = absurd (h (eqb-true a b is))
    go false is = refl

text_end_is : (start quote : ℕ) (escaped : Bool) (place : ℕ) (inner rest : List ℕ) → is_quote quote ≡ true → AllPass is_printable inner → IsQuoted quote escaped inner → text_end start quote escaped place (inner ++ quote ∷ rest) ≡ Ok (place + length inner + 1)
text_end_is start quote escaped place [] rest h all quoted =
    let here : place + 1 ≡ place + 0 + 1 = omega arith in
    subst (λ e. text_end start quote e place (quote ∷ rest) ≡ Ok (place + 0 + 1)) (sym quoted) (closing_is start quote place rest h ∙ ap (λ n. Ok n) here)
text_end_is start quote true place (b ∷ bs) rest h all quoted =
    let printable = All-head (λ c. is_printable c ≡ true) b bs all in
    let no_end = printable_no_end b printable in
    let there : place + 1 + length bs + 1 ≡ place + suc (length bs) + 1 = omega arith in
    let further = text_end_is start quote false (place + 1) bs rest h (All-tail (λ c. is_printable c ≡ true) b bs all) quoted.1 in
    rw (no_end, printable, quoted.0) (further ∙ ap (λ n. Ok n) there)
text_end_is start quote false place (b ∷ bs) rest h all quoted =
    let printable = All-head (λ c. is_printable c ≡ true) b bs all in
    let no_end = printable_no_end b printable in
    let there : place + 1 + length bs + 1 ≡ place + suc (length bs) + 1 = omega arith in
    let later = All-tail (λ c. is_printable c ≡ true) b bs all in
    ⊎_elim
    (λ (escape : (b ≡ 92) × IsQuoted quote true bs). let is : (b == 92) ≡ true = subst (λ c. (c == 92) ≡ true) (sym escape.0) refl in
    rw (no_end, printable, is) (text_end_is start quote true (place + 1) bs rest h later escape.1 ∙ ap (λ n. Ok n) there))
    (λ (plain : (b ≢ 92) × (b ≢ quote) × IsQuoted quote false bs). let other = differs_is_false b 92 plain.0 in
    let differs = differs_is_false b quote plain.1 in
    rw (no_end, printable, other, differs) (text_end_is start quote false (place + 1) bs rest h later plain.2 ∙ ap (λ n. Ok n) there))
    quoted

text_is : (at len quote : ℕ) (bs inner : List ℕ) → len ≤ length (quote ∷ bs) → is_quote quote ≡ true → take len (quote ∷ bs) ≡ quote ∷ inner ++ quote ∷ [] → AllPass is_printable inner → IsQuoted quote false inner → text_at at (quote ∷ bs) ≡ found Text len
text_is at len quote bs inner within h parts all quoted =
    let rest = drop len (quote ∷ bs) in
    let whole = split_at len (quote ∷ bs) (quote ∷ inner ++ quote ∷ []) parts in
    let regroup : (inner ++ quote ∷ []) ++ rest ≡ inner ++ quote ∷ rest = append_assoc inner (quote ∷ []) rest in
    let tail : inner ++ quote ∷ rest ≡ bs = sym regroup ∙ tails_same quote quote ((inner ++ quote ∷ []) ++ rest) bs whole in
    let ends = ap (text_end at quote false (at + 1)) (sym tail) ∙ text_end_is at quote false (at + 1) inner rest h all quoted in
    let long = length-take-le len (quote ∷ bs) within in
    let shape = ap length parts in
    let total = length-append inner (quote ∷ []) in
    let same : at + 1 + length inner + 1 - at ≡ len = omega (arith, long, shape, total) in
    ap (text_until at) ends ∙ ap (found Text) same

text_first : (quote b : ℕ) (bs : List ℕ) (len : ℕ) (inner : List ℕ) → 0 < len → take len (b ∷ bs) ≡ quote ∷ inner → b ≡ quote
text_first quote b bs zero inner some e = absurd (omega (arith, some))
text_first quote b bs (suc n) inner some e = heads_same b quote (take n bs) inner e

quote_span : (at quote : ℕ) (bs : List ℕ) → is_quote quote ≡ true → span_at at (quote ∷ bs) ≡ text_at at (quote ∷ bs)
unfolding span_at
quote_span at quote bs h =
    ⊎_elim (λ is. subst (λ q. span_at at (q ∷ bs) ≡ text_at at (q ∷ bs)) (sym is) refl)
    (λ is. subst (λ q. span_at at (q ∷ bs) ≡ text_at at (q ∷ bs)) (sym is) refl) (one_quote quote h)

name_span : (at : ℕ) (bytes : List ℕ) → first_passes begins_name bytes ≡ true → span_at at bytes ≡ name_at bytes
unfolding span_at
name_span at bytes h = rw h refl

digit_span : (at : ℕ) (bytes : List ℕ) → first_passes is_ascii_digit bytes ≡ true → span_at at bytes ≡ number_at at bytes
unfolding span_at
digit_span at bytes h = let no_name = digit_is_no_name bytes h in rw (no_name, h) refl

mark_span : (at : ℕ) (bytes : List ℕ) → BeginsMark bytes → span_at at bytes ≡ mark_at at bytes
unfolding span_at
mark_span at bytes h = rw (h.no_name, h.no_digit, h.no_fraction, h.no_quote) refl

mark_is : (at len : ℕ) (bytes : List ℕ) → ((len ≡ 2) × (begins_with_one long_marks bytes ≡ true)) ⊎ ((len ≡ 1) × (begins_with_one long_marks bytes ≡ false) × (begins_with_one short_marks bytes ≡ true)) → mark_at at bytes ≡ found Mark len
unfolding mark_at
mark_is at len bytes (inl two) = cond-true (begins_with_one long_marks bytes) (found Mark 2) _ two.1 ∙ ap (found Mark) (sym two.0)
mark_is at len bytes (inr one) = cond-false (begins_with_one long_marks bytes) (found Mark 2) _ one.1 ∙ cond-true (begins_with_one short_marks bytes) (found Mark 1) (Err (BadByte at)) one.2 ∙ ap (found Mark) (sym one.0)

-- a token is what the lexer gives where it stands
pub token_is : (at : ℕ) (kind : TokenKind) (len : ℕ) (bytes : List ℕ) → IsToken kind len bytes → span_at at bytes ≡ found kind len
token_is at Name len bytes h = name_span at bytes h.begins ∙ name_is len bytes false h.within h.reaches h.spelled.free
token_is at Keyword len bytes h = name_span at bytes h.begins ∙ name_is len bytes true h.within h.reaches h.spelled
token_is at Int len bytes h = digit_span at bytes h.begins ∙ whole_is at len bytes h.within h.reaches (int_passes (take len bytes) (drop len bytes) h.spelled.whole h.spelled.bound h.reaches.stops)
token_is at Fix len bytes h = digit_span at bytes h.begins ∙ fix_is at len bytes h.within h.reaches
token_is at Text len [] h = absurd (false≢true h.begins)
token_is at Text len (b ∷ bs) h =
    let same = text_first h.reaches.quote b bs len (h.reaches.inner ++ h.reaches.quote ∷ []) h.some h.reaches.parts in
    quote_span at b bs h.begins ∙ text_is at len b bs h.reaches.inner h.within h.begins (subst (λ q. take len (b ∷ bs) ≡ q ∷ h.reaches.inner ++ q ∷ []) (sym same) h.reaches.parts) h.reaches.printable (subst (λ q. IsQuoted q false h.reaches.inner) (sym same) h.reaches.quoted)
token_is at Mark len bytes h = mark_span at bytes h.begins ∙ mark_is at len bytes h.reaches
token_is at Newline len bytes h = absurd h.begins
token_is at Indent len bytes h = absurd h.begins
token_is at Dedent len bytes h = absurd h.begins
token_is at End len bytes h = absurd h.begins
