-- All tokens of a source, from its beginning to its end.
use Rattle.std.proofs.Common.{◌≡◌, ℕ, ◌+◌, ◌<◌, List, [], ◌∷◌, ◌++◌, Bool, true, false, cond, eqb, ◌==◌, length, take, drop, refl, sym, ap, ◌∙◌, subst, ⊎_elim, inl, append_assoc, append-nil, Ok, arith, length-append, take-append-drop}
use Rattle.std.specs.Prelude.{option_to_list}
use Rattle.std.specs.List.{prefix_len}
use Rattle.std.proofs.lemmas.Bool.{false≢true, eqb-true, eqb-false}
use Rattle.std.proofs.lemmas.List.{drop-drop}
use Rattle.std.proofs.lemmas.List.Folds.{length-prefix_len}
use Rattle.mx_lex.specs.Heads.{empty_token, is_inside, ends_here}
use Rattle.mx_lex.specs.Lines.{is_blank, lead}
use Rattle.mx_lex.specs.Lexing.{Reading, Step, step_at, dedents_at, closing_at, tokens_of, beginning}
use Rattle.mx_lex.specs.declared.Token.{Token}
use Rattle.mx_lex.specs.declared.TokenKind.TheVariants.{Newline, Dedent, End}
use Rattle.mx_lex.proofs.Cases.{both}
use Rattle.mx_lex.proofs.Digits.{front_passes}
use Rattle.mx_lex.proofs.Steps.{step_opens, by_steps}
use Rattle.mx_lex.proofs.Order.{not_too_long}
use Rattle.mx_token_laws.specs.Standing as standing
use Rattle.mx_token_laws.specs.Standing.{AreSpaces, IsGap, Behind, BeginsLine, IsIndent, Follows, IsRead}
use Rattle.mx_token_laws.proofs.Dedents.{AreFalling}
use Rattle.mx_token_laws.proofs.Gaps.{gap_append, spaces_gap, front_stops}
use Rattle.mx_token_laws.proofs.Places.{Agree, AgreeHere, head_is_passed}

-- ---- the end of a source

dedents_close : (stack : List ℕ) (behind : Behind) (place at : ℕ) (gap : List ℕ) → behind.inside ≡ false → behind.levels ≡ stack → AreFalling stack → IsGap [] gap → at ≡ place + length gap → IsRead behind place gap (dedents_at at stack ++ empty_token End at ∷ [])
dedents_close [] behind place at gap out is falling is_gap position = absurd falling
dedents_close (top ∷ []) behind place at gap out is falling is_gap position =
    both (λ l. IsRead behind place gap (l ++ empty_token End at ∷ [])) (eqb top 0) [] (empty_token Dedent at ∷ [])
    (λ _. subst (λ n. IsRead behind place gap (empty_token End n ∷ [])) (sym position) (IsRead.ended behind place gap out (is ∙ ap (λ n. n ∷ []) falling) is_gap))
    (λ above. absurd (eqb-false top 0 above falling))
dedents_close (top ∷ next ∷ below) behind place at gap out is falling is_gap position =
    let state : Behind = record behind { levels = next ∷ below } in
    both (λ l. IsRead behind place gap (l ++ empty_token End at ∷ [])) (eqb top 0) [] (empty_token Dedent at ∷ dedents_at at (next ∷ below))
    (λ none. absurd (let zero_top : top ≡ 0 = eqb-true top 0 none in omega (arith, falling.0)))
    (λ _. IsRead.token behind state place (at + 0) at 0 Dedent gap gap [] (dedents_at at (next ∷ below) ++ empty_token End at ∷ []) (sym (append-nil gap)) position refl is_gap
    (Follows.closes top (next ∷ below) out is (omega (arith, falling.0)) refl)
    (dedents_close (next ∷ below) state (at + 0) at [] out refl falling.1 IsGap.none (omega arith)))

abbrev Holds : ℕ → List ℕ → Reading → List Token → Type 0
Holds at rest reading tokens = (behind : Behind) (place : ℕ) (passed : List ℕ) → Agree behind place passed rest at reading → IsRead behind place (passed ++ rest) tokens

closed : (at : ℕ) (reading : Reading) → Holds at [] reading (closing_at at reading)
unfolding closing_at
closed at reading behind place passed agree =
    let newline = cond (is_inside reading.line.phase) (empty_token Newline at ∷ []) [] in
    let regroup = append_assoc newline (dedents_at at reading.stack) (empty_token End at ∷ []) in
    let falling = subst AreFalling agree.levels agree.falling in
    subst (IsRead behind place (passed ++ [])) (sym regroup)
    (both (λ l. IsRead behind place (passed ++ []) (l ++ (dedents_at at reading.stack ++ empty_token End at ∷ []))) (is_inside reading.line.phase) (empty_token Newline at ∷ []) []
    (λ is.
    let inside = agree.inside ∙ is in
    IsRead.token behind (record behind { inside = false }) place (at + 0) at 0 Newline (passed ++ []) passed [] (dedents_at at reading.stack ++ empty_token End at ∷ []) refl agree.position refl agree.is_gap (Follows.newline inside (agree.spaces inside) refl (inl refl))
    (dedents_close reading.stack (record behind { inside = false }) (at + 0) at [] refl agree.levels falling IsGap.none (omega arith)))
    (λ is.
    dedents_close reading.stack behind place at (passed ++ []) (agree.inside ∙ is) agree.levels falling (subst (IsGap []) (sym (append-nil passed)) agree.is_gap) (agree.position ∙ ap (λ l. place + length l) (sym (append-nil passed)))))

-- ---- the spaces that lead a line

ends_blank : (rest : List ℕ) → ends_here rest ≡ true → is_blank (drop (prefix_len (λ b. b == 32) rest) rest) ≡ true
ends_blank [] h = refl
ends_blank (b ∷ bs) h = subst (λ c. is_blank (drop (prefix_len (λ b. b == 32) (c ∷ bs)) (c ∷ bs)) ≡ true) (sym (eqb-true b 10 h)) refl

here : (inside : Bool) (behind : Behind) (place : ℕ) (passed rest : List ℕ) (at : ℕ) (reading : Reading) → is_inside reading.line.phase ≡ inside → Agree behind place passed rest at reading → let spaces = cond inside 0 (prefix_len (λ b. b == 32) rest) in AgreeHere behind place (passed ++ take spaces rest) (drop spaces rest) (at + spaces) spaces reading
here true behind place passed rest at reading is agree =
    let inside = agree.inside ∙ is in
    let same = sym (append-nil passed) in
    record {
      inside = agree.inside;
      brackets = agree.brackets;
      levels = agree.levels;
      found = agree.found;
      begun = agree.begun;
      falling = agree.falling;
      position = let n = ap length same in let position = agree.position in omega (arith, n, position);
      is_gap = subst (IsGap rest) same agree.is_gap;
      spaces = λ h none. subst AreSpaces same (agree.spaces h none);
      indented = λ out _. absurd (false≢true (sym out ∙ inside));
      solid = λ out. absurd (false≢true (sym out ∙ inside));
    }
here false behind place passed rest at reading is agree =
    let n = prefix_len (λ b. b == 32) rest in
    let out = agree.inside ∙ is in
    let are_spaces = front_passes (λ b. b == 32) rest in
    let long = length-prefix_len (λ b. b == 32) rest in
    let total = length-append passed (take n rest) in
    let position = agree.position in
    let before = subst (λ l. IsGap l passed) (sym (take-append-drop n rest)) agree.is_gap in
    record {
      inside = agree.inside;
      brackets = agree.brackets;
      levels = agree.levels;
      found = agree.found;
      begun = agree.begun;
      falling = agree.falling;
      position = omega (arith, long, total, position);
      is_gap = gap_append (drop n rest) (take n rest) passed before (spaces_gap (take n rest) (drop n rest) are_spaces);
      spaces = λ h _. absurd (false≢true (sym out ∙ h));
      indented = λ _ solid. ⊎_elim
          (λ begins. record { lines = passed; spaces = take n rest; parts = refl; begins = begins; are_spaces = are_spaces; count = long })
          (λ ends. absurd (false≢true (sym solid ∙ ends_blank rest ends)))
          (agree.starts out);
      solid = λ _. front_stops (λ b. b == 32) rest;
    }

-- ---- one step

kept : (at : ℕ) (rest : List ℕ) (reading : Reading) (step : Step) (tokens : List Token) → 0 < length rest → step_at at reading rest ≡ Ok step → Holds (at + step.taken) (drop step.taken rest) step.next tokens → Holds at rest reading (step.given ++ tokens)
kept at rest reading step tokens some e holds behind place passed agree =
    let opens = step_opens at reading rest step e in
    let n = lead reading.line rest in
    let levels = opens.levels in
    let head = opens.head in
    let next : Reading = record { line = head.next; stack = levels.stack } in
    let first = drop n rest in
    let passes = head_is_passed behind place (passed ++ take n rest) first (at + n) n reading levels head (here (is_inside reading.line.phase) behind place passed rest at reading refl agree) opens.is_opened opens.is_head in
    let further : Holds (at + (n + head.taken)) (drop (n + head.taken) rest) next tokens = subst (λ (s : Step). Holds (at + s.taken) (drop s.taken rest) s.next tokens) (sym opens.is_step) holds in
    let there : at + (n + head.taken) ≡ at + n + head.taken = omega arith in
    let later : Holds (at + n + head.taken) (drop head.taken first) next tokens = subst (λ m. Holds m (drop head.taken first) next tokens) there (subst (λ l. Holds (at + (n + head.taken)) l next tokens) (sym (drop-drop head.taken n rest)) further) in
    let read = passes.reads tokens (later passes.state passes.from passes.passed passes.agree) in
    let whole = subst (λ l. IsRead behind place l ((levels.given ++ option_to_list head.token) ++ tokens)) (append_assoc passed (take n rest) first ∙ ap (λ l. passed ++ l) (take-append-drop n rest)) read in
    subst (λ (s : Step). IsRead behind place (passed ++ rest) (s.given ++ tokens)) opens.is_step whole

pub tokens_stand : (source : List ℕ) (tokens : List Token) → tokens_of source ≡ Ok tokens → IsRead standing.beginning 0 source tokens
unfolding beginning
tokens_stand source tokens e =
    by_steps Holds closed kept source 0 beginning tokens (not_too_long source tokens e) standing.beginning 0 []
    (record {
      inside = refl;
      brackets = refl;
      levels = refl;
      found = refl;
      begun = refl;
      falling = refl;
      position = refl;
      is_gap = IsGap.none;
      spaces = λ h _. absurd (false≢true h);
      starts = λ _. inl (inl (refl, refl));
    })
