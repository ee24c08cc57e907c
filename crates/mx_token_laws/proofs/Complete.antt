-- Where tokens stand in a source as they must, they are the lexer's.
use Rattle.std.proofs.Common.{◌≡◌, ℕ, ◌+◌, ◌<◌, List, [], ◌∷◌, ◌++◌, Bool, true, false, ltb, not, ◌==◌, ◌||◌, length, drop, refl, sym, ap, ◌∙◌, subst, ◌⊎◌, inl, inr, append-nil, None, Some, Ok, arith}
use Rattle.std.proofs.lemmas.Bool.{false≢true, or_left, or_right, eqb-true, eq-eqb, lt-ltb, le-ltb}
use Rattle.std.specs.Char.{is_ascii_digit}
use Rattle.mx_lex.specs.Bytes.{begins_name, is_quote}
use Rattle.mx_lex.specs.Spans.{found, long_marks, short_marks, begins_with_one}
use Rattle.mx_lex.specs.Heads.{empty_token}
use Rattle.mx_lex.specs.Lines.{Levels, Indented, dedented}
use Rattle.mx_lex.specs.declared.Token.{Token}
use Rattle.mx_lex.specs.declared.TokenKind.{TokenKind}
use Rattle.mx_lex.specs.declared.TokenKind.TheVariants.{Name, Keyword, Int, Fix, Text, Mark, Newline, Indent, Dedent, End}
use Rattle.mx_token_laws.specs.Standing.{IsGap, is_solid, IsToken, Behind, in_line, HasIndent, Follows, IsRead}
use Rattle.mx_token_laws.proofs.Dedents.{AreFalling, unchanged_levels}

-- ---- what begins a token is no gap

-- a byte with a property that a space, a line end and a `#` lack
solid_by : (P : ℕ → Type 0) (b : ℕ) → P b → (P 32 → ⊥) → (P 10 → ⊥) → (P 35 → ⊥) → not (b == 32 || b == 10 || b == 35) ≡ true
solid_by P b h space end comment = go (b == 32) refl (b == 10) refl (b == 35) refl
  where
    go : (x : Bool) → (b == 32) ≡ x → (y : Bool) → (b == 10) ≡ y → (z : Bool) → (b == 35) ≡ z → not (x || y || z) ≡ true
    go true is y is_y z is_z = absurd (space (subst P (eqb-true b 32 is) h))
    go false is true is_y z is_z = absurd (end (subst P (eqb-true b 10 is_y) h))
    go false is false is_y true is_z = absurd (comment (subst P (eqb-true b 35 is_z) h))
    go false is false is_y false is_z = refl

pub token_solid : (kind : TokenKind) (len : ℕ) (bytes : List ℕ) → IsToken kind len bytes → is_solid bytes ≡ true
token_solid kind len [] h = let some = h.some in let within = h.within in absurd (omega (arith, some, within))
token_solid Name len (b ∷ bs) h = solid_by (λ c. begins_name c ≡ true) b h.begins false≢true false≢true false≢true
token_solid Keyword len (b ∷ bs) h = solid_by (λ c. begins_name c ≡ true) b h.begins false≢true false≢true false≢true
token_solid Int len (b ∷ bs) h = solid_by (λ c. is_ascii_digit c ≡ true) b h.begins false≢true false≢true false≢true
token_solid Fix len (b ∷ bs) h = solid_by (λ c. is_ascii_digit c ≡ true) b h.begins false≢true false≢true false≢true
token_solid Text len (b ∷ bs) h = solid_by (λ c. is_quote c ≡ true) b h.begins false≢true false≢true false≢true
token_solid Mark len (b ∷ bs) h = solid_by (λ c. (begins_with_one long_marks (c ∷ bs) || begins_with_one short_marks (c ∷ bs)) ≡ true) b (a_mark h.reaches) false≢true false≢true false≢true
  where
    a_mark : ((len ≡ 2) × (begins_with_one long_marks (b ∷ bs) ≡ true)) ⊎ ((len ≡ 1) × (begins_with_one long_marks (b ∷ bs) ≡ false) × (begins_with_one short_marks (b ∷ bs) ≡ true)) → (begins_with_one long_marks (b ∷ bs) || begins_with_one short_marks (b ∷ bs)) ≡ true
    a_mark (inl long) = or_left (begins_with_one long_marks (b ∷ bs)) (begins_with_one short_marks (b ∷ bs)) long.1
    a_mark (inr short) = or_right (begins_with_one long_marks (b ∷ bs)) (begins_with_one short_marks (b ∷ bs)) short.2
token_solid Newline len (b ∷ bs) h = absurd h.begins
token_solid Indent len (b ∷ bs) h = absurd h.begins
token_solid Dedent len (b ∷ bs) h = absurd h.begins
token_solid End len (b ∷ bs) h = absurd h.begins

pub gap_soft : (behind gap : List ℕ) → IsGap behind gap → is_solid gap ≡ false
gap_soft behind _ IsGap.none = refl
gap_soft behind _ (IsGap.space bs gap) = refl
gap_soft behind _ (IsGap.line_end bs gap) = refl
gap_soft behind _ (IsGap.comment text bs printable ends gap) = refl

-- ---- the blocks that an indent closes, and the first token of the line

-- what stands where a line begins: what its indent gives, and its first token
pub record BeginsLine (behind : Behind) (at indent number : ℕ) (bytes : List ℕ) (outcome : Indented) (tokens : List Token) : Type 0 where
  pub levels : Levels
  pub kind : TokenKind
  pub len : ℕ
  pub rest : List Token
  pub given : outcome ≡ Ok levels
  pub falling : AreFalling levels.stack
  pub are : tokens ≡ levels.given ++ record { kind = kind; at = at; len = len } ∷ rest
  pub token : IsToken kind len bytes
  pub read : IsRead (in_line (record behind { levels = levels.stack }) bytes) (at + len) (drop len bytes) rest

pub level_is : (at number indent : ℕ) (below : List ℕ) → dedented at number indent (indent ∷ below) ≡ Ok (unchanged_levels (indent ∷ below))
level_is at number indent below =
    let not_less : ltb indent indent ≡ false = le-ltb indent indent (omega arith) in
    let same : (indent == indent) ≡ true = eq-eqb indent indent refl in
    rw (not_less, same) refl

falls_is : (at number indent top : ℕ) (below : List ℕ) (levels : Levels) → indent < top → dedented at number indent below ≡ Ok levels → dedented at number indent (top ∷ below) ≡ Ok (record { given = empty_token Dedent at ∷ levels.given; stack = levels.stack })
falls_is at number indent top below levels less is = let falls : ltb indent top ≡ true = lt-ltb indent top less in rw (falls, is) refl

-- an INDENT or a DEDENT directly before has told the indent
told : (behind : Behind) (place indent other : ℕ) (gap : List ℕ) → behind.found ≡ Some indent → HasIndent behind place gap other → (other ≡ indent) × (gap ≡ [])
told behind place indent other gap found (inl has) = (let f : Some other ≡ Some indent = sym has.0 ∙ found in cc, has.1)
told behind place indent other gap found (inr has) = absurd (let f : None ≡ Some indent = sym has.0 ∙ found in cc)

pub lower : (indent top : ℕ) (below : List ℕ) → AreFalling (top ∷ below) → indent < top → AreFalling below
lower indent top [] falling less = absurd (omega (arith, falling, less))
lower indent top (next ∷ below) falling less = falling.1

-- the first token of a line, with no block before it
pub plain_line : (behind : Behind) (at here past indent number len : ℕ) (kind : TokenKind) (all bytes : List ℕ) (tokens : List Token) (outcome : Indented) → outcome ≡ Ok (unchanged_levels behind.levels) → AreFalling behind.levels → here ≡ at → past ≡ here + len → bytes ≡ all → IsToken kind len bytes → IsRead (in_line behind bytes) past (drop len bytes) tokens → BeginsLine behind at indent number all outcome (record { kind = kind; at = here; len = len } ∷ tokens)
plain_line behind at here past indent number len kind all bytes tokens outcome given falling here_is past_is bytes_are token read =
    let there : past ≡ at + len = past_is ∙ ap (λ n. n + len) here_is in
    record {
      levels = unchanged_levels behind.levels;
      kind = kind;
      len = len;
      rest = tokens;
      given = given;
      falling = falling;
      are = ap (λ n. record { kind = kind; at = n; len = len } ∷ tokens) here_is;
      token = subst (IsToken kind len) bytes_are token;
      read = subst (λ l. IsRead (in_line behind l) (at + len) (drop len l) tokens) bytes_are (subst (λ n. IsRead (in_line behind bytes) n (drop len bytes) tokens) there read);
    }

-- a DEDENT in front of such a line
pub dedent_first : (behind : Behind) (at here indent number top : ℕ) (below all bytes : List ℕ) (tokens : List Token) → behind.levels ≡ top ∷ below → indent < top → here ≡ at → bytes ≡ all → behind.inside ≡ false → (other : ℕ) → BeginsLine (record behind { levels = below; found = Some other }) at indent number bytes (dedented at number indent below) tokens → BeginsLine behind at indent number all (dedented at number indent behind.levels) (record { kind = Dedent; at = here; len = 0 } ∷ tokens)
dedent_first behind at here indent number top below all bytes tokens levels falls here_is bytes_are out other further =
    record {
      levels = record { given = empty_token Dedent at ∷ further.levels.given; stack = further.levels.stack };
      kind = further.kind;
      len = further.len;
      rest = further.rest;
      given = ap (dedented at number indent) levels ∙ falls_is at number indent top below further.levels falls further.given;
      falling = further.falling;
      are = ap (λ n. empty_token Dedent n ∷ tokens) here_is ∙ ap (λ l. empty_token Dedent at ∷ l) further.are;
      token = subst (IsToken further.kind further.len) bytes_are further.token;
      read = subst (λ l. IsRead (in_line (record behind { levels = further.levels.stack }) l) (at + further.len) (drop further.len l) further.rest) bytes_are further.read;
    }

-- behind a DEDENT or an INDENT
pub dedents_from : (behind : Behind) (place at indent number : ℕ) (all : List ℕ) (tokens : List Token) → IsRead behind place all tokens → behind.inside ≡ false → behind.found ≡ Some indent → AreFalling behind.levels → is_solid all ≡ true → place ≡ at → BeginsLine behind at indent number all (dedented at number indent behind.levels) tokens
dedents_from behind place at indent number all _ (IsRead.ended _ _ _ out levels gap) out2 found falling solid is = absurd (false≢true (sym (gap_soft [] all gap) ∙ solid))
dedents_from behind place at indent number all _ (IsRead.token _ _ _ past here _ _ _ gap bytes tokens parts place_is past_is is_gap (Follows.goes_on kind len inside spaces token) read) out found falling solid is = absurd (false≢true (sym out ∙ inside))
dedents_from behind place at indent number all _ (IsRead.token _ _ _ past here _ _ _ gap bytes tokens parts place_is past_is is_gap (Follows.newline inside spaces blank ends) read) out found falling solid is = absurd (false≢true (sym out ∙ inside))
dedents_from behind place at indent number all _ (IsRead.token _ _ _ past here _ _ _ gap bytes tokens parts place_is past_is is_gap (Follows.indent other top below out2 begun fresh has levels less solid2) read) out found falling solid is =
    absurd (let f : None ≡ Some indent = sym fresh ∙ found in cc)
dedents_from behind place at indent number all _ (IsRead.token _ _ _ past here _ _ _ gap bytes tokens parts place_is past_is is_gap (Follows.closes top below out2 levels above ends) read) out found falling solid is =
    let all_gap : all ≡ gap = parts ∙ ap (λ l. gap ++ l) ends ∙ append-nil gap in
    absurd (false≢true (sym (gap_soft bytes gap is_gap) ∙ ap is_solid (sym all_gap) ∙ solid))
dedents_from behind place at indent number all _ (IsRead.token _ _ _ past here _ _ _ gap bytes tokens parts place_is past_is is_gap (Follows.begins kind len other below out2 has levels token) read) out found falling solid is =
    let same = told behind place indent other gap found has in
    let none = ap length same.1 in
    let open_below : behind.levels ≡ indent ∷ below = levels ∙ ap (λ n. n ∷ below) same.0 in
    let bytes_are : bytes ≡ all = sym (parts ∙ ap (λ g. g ++ bytes) same.1) in
    plain_line behind at here past indent number len kind all bytes tokens (dedented at number indent behind.levels) (subst (λ l. dedented at number indent l ≡ Ok (unchanged_levels l)) (sym open_below) (level_is at number indent below)) falling (omega (arith, place_is, none, is)) past_is bytes_are token read
dedents_from behind place at indent number all _ (IsRead.token _ _ _ past here _ _ _ gap bytes tokens parts place_is past_is is_gap (Follows.dedent other top below out2 has levels less solid2) read) out found falling solid is =
    let same = told behind place indent other gap found has in
    let none = ap length same.1 in
    let here_is : here ≡ at = omega (arith, place_is, none, is) in
    let next : Behind = record behind { levels = below; found = Some other } in
    let falls : indent < top = subst (λ n. n < top) same.0 less in
    let bytes_are : bytes ≡ all = sym (parts ∙ ap (λ g. g ++ bytes) same.1) in
    let further = dedents_from next past at indent number bytes tokens read out (ap (λ n. Some n) same.0) (lower indent top below (subst AreFalling levels falling) falls) solid2 (omega (arith, past_is, here_is)) in
    dedent_first behind at here indent number top below all bytes tokens levels falls here_is bytes_are out other further
