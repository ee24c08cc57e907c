-- The INDENT or DEDENTs that a line's indent gives, and the first token of the line behind them.
use Rattle.std.proofs.Common.{None, ◌≡◌, ℕ, ◌+◌, ◌<◌, List, [], ◌∷◌, ◌++◌, true, false, ltb, ◌==◌, length, drop, refl, sym, ap, ◌∙◌, subst, ⊎_elim, inl, inr, Some, Ok, Err, arith}
use Rattle.std.proofs.lemmas.Bool.{false≢true, eqb-true, ltb-true}
use Rattle.mx_lex.specs.Heads.{empty_token, is_inside}
use Rattle.mx_lex.specs.Lines.{Levels, Indented, given_before, dedented, indented, line_indented}
use Rattle.mx_lex.specs.declared.Token.{Token}
use Rattle.mx_lex.specs.declared.TokenKind.TheVariants.{Indent, Dedent}
use Rattle.mx_lex.specs.declared.LexRefusal.TheVariants.{BadIndent}
use Rattle.mx_lex.specs.declared.line.Phase.{Phase}
use Rattle.mx_lex.specs.declared.line.Phase.TheVariants.{BeforeFirst, AtStart, Inside}
use Rattle.mx_lex.proofs.Cases.{chosen}
use Rattle.mx_token_laws.specs.Standing.{IsGap, IsToken, is_solid, Behind, in_line, IsIndent, HasIndent, Follows, IsRead}

-- the indents of open blocks fall to that of the source
abbrev pub AreFalling : List ℕ → Type 0
AreFalling [] = ⊥
AreFalling (top ∷ []) = top ≡ 0
AreFalling (top ∷ next ∷ below) = (next < top) × AreFalling (next ∷ below)

-- what a state must have said of blocks where a line may begin
abbrev pub HasBegun : Phase → Behind → Type 0
HasBegun BeforeFirst behind = behind.levels ≡ 0 ∷ []
HasBegun AtStart behind = behind.begun ≡ true
HasBegun Inside behind = behind.begun ≡ true

-- what was given is this
pub given_is : (now levels : Levels) → (let o : Indented = Ok now in o) ≡ Ok levels → now ≡ levels
given_is now levels e = cc

abbrev pub unchanged_levels : List ℕ → Levels
unchanged_levels stack = record { given = []; stack = stack }

abbrev pub opened_levels : ℕ → ℕ → List ℕ → Levels
opened_levels at indent stack = record { given = empty_token Indent at ∷ []; stack = indent ∷ stack }

-- a line's first token behind a gap with its indent
pub record First (behind : Behind) (place at indent : ℕ) (gap bytes : List ℕ) (t : Token) : Type 0 where
  pub out : behind.inside ≡ false
  pub has : HasIndent behind place gap indent
  pub is_gap : IsGap bytes gap
  pub solid : is_solid bytes ≡ true
  pub token : IsToken t.kind t.len bytes
  pub stands : t.at ≡ at
  pub position : at ≡ place + length gap

-- what is read behind the first token, with these blocks open
abbrev pub ReadsBehind : Behind → List ℕ → List ℕ → Token → List Token → Type 0
ReadsBehind behind stack bytes t tokens = IsRead (in_line (record behind { levels = stack }) bytes) (t.at + t.len) (drop t.len bytes) tokens

-- the token that begins the line stands in the innermost block
first_reads : (behind : Behind) (place at indent : ℕ) (below gap bytes : List ℕ) (t : Token) (tokens : List Token) → First behind place at indent gap bytes t → behind.levels ≡ indent ∷ below → ReadsBehind behind behind.levels bytes t tokens → IsRead behind place (gap ++ bytes) (t ∷ tokens)
first_reads behind place at indent below gap bytes t tokens h levels rest =
    IsRead.token behind (in_line behind bytes) place (t.at + t.len) t.at t.len t.kind (gap ++ bytes) gap bytes tokens refl (h.stands ∙ h.position) refl h.is_gap (Follows.begins t.kind t.len indent below h.out h.has levels h.token) rest

-- behind an INDENT or a DEDENT the token follows at once
behind_block : (behind next : Behind) (place at indent : ℕ) (gap bytes : List ℕ) (t : Token) → First behind place at indent gap bytes t → next.inside ≡ false → next.found ≡ Some indent → First next (at + 0) at indent [] bytes t
behind_block behind next place at indent gap bytes t h out found =
    record { out = out; has = inl (found, refl); is_gap = IsGap.none; solid = h.solid; token = h.token; stands = h.stands; position = omega arith }

pub dedents_read : (stack : List ℕ) (behind : Behind) (place at line indent : ℕ) (gap bytes : List ℕ) (t : Token) (tokens : List Token) (levels : Levels) → First behind place at indent gap bytes t → behind.levels ≡ stack → dedented at line indent stack ≡ Ok levels → ReadsBehind behind levels.stack bytes t tokens → IsRead behind place (gap ++ bytes) (levels.given ++ t ∷ tokens)
dedents_read [] behind place at line indent gap bytes t tokens levels h is e rest = absurd (let f : Err (BadIndent line) ≡ Ok levels = e in cc)
dedents_read (top ∷ below) behind place at line indent gap bytes t tokens levels h is e rest =
    ⊎_elim (λ falls. fall (dedented at line indent below) refl (ltb-true indent top falls.0) falls.1
    (λ later is_later read. dedents_read below next (at + 0) at line indent [] bytes t tokens later (behind_block behind next place at indent gap bytes t h h.out refl) refl is_later read))
    (λ other. ⊎_elim (λ same. level (eqb-true indent top same.0) (given_is (unchanged_levels (top ∷ below)) levels same.1))
    (λ none. absurd (let f : Err (BadIndent line) ≡ Ok levels = none.1 in cc))
    (chosen (indent == top) _ _ (Ok levels) other.1))
    (chosen (ltb indent top) _ _ (Ok levels) e)
  where
    next : Behind
    next = record behind { levels = below; found = Some indent }

    level : indent ≡ top → unchanged_levels (top ∷ below) ≡ levels → IsRead behind place (gap ++ bytes) (levels.given ++ t ∷ tokens)
    level same unchanged =
        let open_below : behind.levels ≡ indent ∷ below = is ∙ ap (λ n. n ∷ below) (sym same) in
        let stack : levels.stack ≡ behind.levels = ap (λ (l : Levels). l.stack) (sym unchanged) ∙ sym is in
        subst (λ (l : Levels). IsRead behind place (gap ++ bytes) (l.given ++ t ∷ tokens)) unchanged
        (first_reads behind place at indent below gap bytes t tokens h open_below (subst (λ s. ReadsBehind behind s bytes t tokens) stack rest))

    fall : (outcome : Indented) → dedented at line indent below ≡ outcome → indent < top → given_before (empty_token Dedent at ∷ []) outcome ≡ Ok levels → ((later : Levels) → dedented at line indent below ≡ Ok later → ReadsBehind behind later.stack bytes t tokens → IsRead next (at + 0) bytes (later.given ++ t ∷ tokens)) → IsRead behind place (gap ++ bytes) (levels.given ++ t ∷ tokens)
    fall (Err f) is_outcome less e2 further = absurd (let g : Err f ≡ Ok levels = e2 in cc)
    fall (Ok later) is_outcome less e2 further =
        let now : Levels = record { given = empty_token Dedent at ∷ later.given; stack = later.stack } in
        let whole : now ≡ levels = cc in
        let read = subst (λ s. ReadsBehind behind s bytes t tokens) (ap (λ (l : Levels). l.stack) (sym whole)) rest in
        subst (λ (l : Levels). IsRead behind place (gap ++ bytes) (l.given ++ t ∷ tokens)) whole
        (IsRead.token behind next place (at + 0) at 0 Dedent (gap ++ bytes) gap bytes (later.given ++ t ∷ tokens) refl h.position refl h.is_gap (Follows.dedent indent top below h.out h.has is less h.solid) (further later is_outcome read))

-- what a line's indent leaves and gives
pub record Opens (behind : Behind) (place : ℕ) (gap bytes : List ℕ) (levels : Levels) (t : Token) : Type 0 where
  pub falling : AreFalling levels.stack
  pub reads : (tokens : List Token) → ReadsBehind behind levels.stack bytes t tokens → IsRead behind place (gap ++ bytes) (levels.given ++ t ∷ tokens)

pub falls_on : (line indent : ℕ) (at : ℕ) (stack : List ℕ) (levels : Levels) → AreFalling stack → dedented at line indent stack ≡ Ok levels → AreFalling levels.stack
falls_on line indent at [] levels falling e = absurd falling
falls_on line indent at (top ∷ below) levels falling e =
    ⊎_elim (λ falls. further (dedented at line indent below) refl falls.1 (λ later is_later. falls_on line indent at below later (lower below later falling is_later) is_later))
    (λ other. ⊎_elim (λ same. kept_falls (top ∷ below) falling (given_is (unchanged_levels (top ∷ below)) levels same.1))
    (λ none. absurd (let f : Err (BadIndent line) ≡ Ok levels = none.1 in cc))
    (chosen (indent == top) _ _ (Ok levels) other.1))
    (chosen (ltb indent top) _ _ (Ok levels) e)
  where
    lower : (rest : List ℕ) (later : Levels) → AreFalling (top ∷ rest) → dedented at line indent rest ≡ Ok later → AreFalling rest
    lower [] later h is = absurd (let f : Err (BadIndent line) ≡ Ok later = is in cc)
    lower (next ∷ rest) later h is = h.1

    kept_falls : (stack : List ℕ) → AreFalling stack → unchanged_levels stack ≡ levels → AreFalling levels.stack
    kept_falls stack h same = subst (λ (l : Levels). AreFalling l.stack) same h

    further : (outcome : Indented) → dedented at line indent below ≡ outcome → given_before (empty_token Dedent at ∷ []) outcome ≡ Ok levels → ((later : Levels) → dedented at line indent below ≡ Ok later → AreFalling later.stack) → AreFalling levels.stack
    further (Err f) is e2 h = absurd (let g : Err f ≡ Ok levels = e2 in cc)
    further (Ok later) is e2 h =
        let now : Levels = record { given = empty_token Dedent at ∷ later.given; stack = later.stack } in
        let whole : now ≡ levels = cc in
        subst (λ (l : Levels). AreFalling l.stack) whole (h later is)

-- what the indent of a line gives stands in front of its first token
pub opened_reads : (phase : Phase) (behind : Behind) (place at line indent : ℕ) (gap bytes : List ℕ) (t : Token) (levels : Levels) → First behind place at indent gap bytes t → behind.found ≡ None → HasBegun phase behind → AreFalling behind.levels → is_inside phase ≡ false → line_indented phase at line indent behind.levels ≡ Ok levels → Opens behind place gap bytes levels t
opened_reads Inside behind place at line indent gap bytes t levels h fresh begun falling out e = absurd (false≢true (sym out))
opened_reads BeforeFirst behind place at line indent gap bytes t levels h fresh begun falling out e =
    ⊎_elim
    (λ same.
    let unchanged = given_is (unchanged_levels behind.levels) levels same.1 in
    let open_below : behind.levels ≡ indent ∷ [] = begun ∙ ap (λ n. n ∷ []) (sym (eqb-true indent 0 same.0)) in
    subst (λ (l : Levels). Opens behind place gap bytes l t) unchanged
    (record { falling = falling; reads = λ tokens rest. first_reads behind place at indent [] gap bytes t tokens h open_below rest }))
    (λ none. absurd (let f : Err (BadIndent line) ≡ Ok levels = none.1 in cc))
    (chosen (indent == 0) _ _ (Ok levels) e)
opened_reads AtStart behind place at line indent gap bytes t levels h fresh begun falling out e = at_start behind.levels refl falling e
  where
    indent_here : HasIndent behind place gap indent → IsIndent place gap indent
    indent_here (inl found) = absurd (let f : None ≡ Some indent = sym fresh ∙ found.0 in cc)
    indent_here (inr here) = here.1

    at_start : (stack : List ℕ) → behind.levels ≡ stack → AreFalling stack → indented at line indent stack ≡ Ok levels → Opens behind place gap bytes levels t
    at_start [] is h2 e2 = absurd h2
    at_start (top ∷ below) is h2 e2 =
        ⊎_elim (λ grows. grow top below is h2 (ltb-true top indent grows.0) (given_is (opened_levels at indent (top ∷ below)) levels grows.1))
        (λ other. record {
          falling = falls_on line indent at (top ∷ below) levels h2 other.1;
          reads = λ tokens rest. dedents_read (top ∷ below) behind place at line indent gap bytes t tokens levels h is other.1 rest;
        })
        (chosen (ltb top indent) _ _ (Ok levels) e2)
      where
        grow : (top : ℕ) (below : List ℕ) → behind.levels ≡ top ∷ below → AreFalling (top ∷ below) → top < indent → opened_levels at indent (top ∷ below) ≡ levels → Opens behind place gap bytes levels t
        grow top below is h2 less whole =
            let next : Behind = record behind { levels = indent ∷ behind.levels; found = Some indent } in
            let stack : indent ∷ top ∷ below ≡ indent ∷ behind.levels = ap (λ l. indent ∷ l) (sym is) in
            subst (λ (l : Levels). Opens behind place gap bytes l t) whole
            (record {
              falling = (less, h2);
              reads = λ tokens rest.
                  let after = first_reads next (at + 0) at indent behind.levels [] bytes t tokens (behind_block behind next place at indent gap bytes t h h.out refl) refl (subst (λ s. ReadsBehind behind s bytes t tokens) stack rest) in
                  IsRead.token behind next place (at + 0) at 0 Indent (gap ++ bytes) gap bytes (t ∷ tokens) refl h.position refl h.is_gap (Follows.indent indent top below h.out begun fresh (indent_here h.has) is less h.solid) after;
            })
