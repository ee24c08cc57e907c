-- One turn of the loop that looks for a mark, over the definition.
use Rattle.std.proofs.Common.{◌≡◌, ℕ, ◌+◌, ◌-◌, ◌<◌, ◌≤◌, zero, suc, List, [], ◌∷◌, length, drop, reverse, None, refl, sym, ap, ◌∙◌, subst, add-zero, ltb, Result, Ok, Err, arith, length-drop}
use Rattle.std.proofs.Math.ListN.{drop_of_length-le}
use Rattle.std.proofs.lemmas.List.{drop-drop}
use Rattle.std.proofs.lemmas.Bool.{cond-false, le-ltb}
use Rattle.mx_lex.specs.declared.LexRefusal.{LexRefusal}
use Rattle.mx_lex.specs.declared.LexRefusal.TheVariants.{TooLong}
use Rattle.mx_lex.specs.declared.Token.{Token}
use Rattle.mx_lex.specs.declared.line.Line.{Line}
use Rattle.mx_lex.specs.Lexing.{Reading, Step, step_at, beginning}
use Rattle.mx_lex.specs.Fronts.{Front, place_among, or_further, front_from, front_of}
use Rattle.mx_lex.specs.Stacks.{step_before}
use Rattle.mx_lex.proofs.StepBounds.{StepBounded, step_bounded}
use Rattle.mx_lex.proofs.Loop.{went_bounded, drop_first}

pub emptied : (front : List Token) (outcome : Result Step LexRefusal) (went : Step) → front ≡ [] → step_before front outcome ≡ Ok went → step_before [] outcome ≡ Ok went
emptied front outcome went empty e = subst (λ (f : List Token). step_before f outcome ≡ Ok went) empty e

module _ (source : List ℕ) (mark : ℕ) where
  front_passed : (bytes : List ℕ) (passed at : ℕ) (reading : Reading) → passed ≤ length bytes → front_from source mark bytes passed at reading ≡ front_from source mark (drop passed bytes) 0 (at + passed) reading
  unfolding front_from
  front_passed [] zero at reading h = ap (λ n. front_from source mark [] 0 n reading) (sym (add-zero at))
  front_passed [] (suc passed) at reading h = absurd (omega arith)
  front_passed (b ∷ bs) zero at reading h = ap (λ n. front_from source mark (b ∷ bs) 0 n reading) (sym (add-zero at))
  front_passed (b ∷ bs) (suc passed) at reading h =
      front_passed bs passed (at + 1) reading (omega arith) ∙ ap (λ n. front_from source mark (drop passed bs) 0 n reading) (omega arith)

  -- what a step says of the rest
  abbrev after_step : List ℕ → ℕ → Result Step LexRefusal → Front
  after_step rest at (Ok step) = or_further (place_among source mark step.given) (front_from source mark (drop step.taken rest) 0 (at + step.taken) step.next)
  after_step rest at (Err e) = Err e

  abbrev after_first : List ℕ → ℕ → Result Step LexRefusal → Front
  after_first bs at (Ok step) = or_further (place_among source mark step.given) (front_from source mark bs (step.taken - 1) (at + 1) step.next)
  after_first bs at (Err e) = Err e

  first_passed : (b : ℕ) (bs : List ℕ) (at : ℕ) (line : Line) (outcome : Result Step LexRefusal) → StepBounded line (b ∷ bs) outcome → after_first bs at outcome ≡ after_step (b ∷ bs) at outcome
  first_passed b bs at line (Ok step) h =
      let some : 0 < step.taken = h.some (omega arith) in
      let within : step.taken - 1 ≤ length bs = omega (arith, h.within) in
      let place : at + 1 + (step.taken - 1) ≡ at + step.taken = omega arith in
      ap (or_further (place_among source mark step.given)) (front_passed bs (step.taken - 1) (at + 1) step.next within ∙ ap (λ n. front_from source mark (drop (step.taken - 1) bs) 0 n step.next) place ∙ ap (λ r. front_from source mark r 0 (at + step.taken) step.next) (drop_first step.taken b bs some))
  first_passed b bs at line (Err e) h = refl

  first_is : (b : ℕ) (bs : List ℕ) (at : ℕ) (reading : Reading) → front_from source mark (b ∷ bs) 0 at reading ≡ after_first bs at (step_at at reading (b ∷ bs))
  unfolding front_from
  first_is b bs at reading = split (step_at at reading (b ∷ bs))
    where
      split : (outcome : Result Step LexRefusal) → elim outcome as (λ _. Front) [ Ok step ↦ or_further (place_among source mark step.given) (front_from source mark bs (step.taken - 1) (at + 1) step.next) | Err e ↦ Err e ] ≡ after_first bs at outcome
      split (Ok step) = refl
      split (Err e) = refl

  front_turn : (rest : List ℕ) (at : ℕ) (reading : Reading) → 0 < length rest → front_from source mark rest 0 at reading ≡ after_step rest at (step_at at reading rest)
  front_turn [] at reading h = absurd (omega arith)
  front_turn (b ∷ bs) at reading h =
      first_is b bs at reading ∙ first_passed b bs at reading.line (step_at at reading (b ∷ bs)) (step_bounded at reading (b ∷ bs))

  -- what a step gave that is no mark, or is one
  step_was : (rest : List ℕ) (at : ℕ) (outcome : Result Step LexRefusal) (went : Step) → step_before [] outcome ≡ Ok went → after_step rest at outcome ≡ after_step rest at (Ok went)
  step_was rest at (Ok step) went e = let same : step ≡ went = cc in ap (λ (s : Step). after_step rest at (Ok s)) same
  step_was rest at (Err f) went e = absurd cc

  -- what the loop keeps: what is found in the rest is what is found in the source
  pub record Seeks (at : ℕ) (line : Line) (stack : List ℕ) : Type 0 where
    pub read : front_from source mark (drop at source) 0 at (record { line = line; stack = reverse stack }) ≡ front_from source mark source 0 0 beginning
    pub within : at ≤ length source
    pub brackets : line.brackets ≤ at
    pub number : line.number ≤ at + 1

  -- what a call of `step` answered for the rest says of the source
  pub seeks_step : (rest : List ℕ) (at : ℕ) (line : Line) (stack left : List ℕ) (given : List Token) (taken : ℕ) (next : Line) → Seeks at line stack → rest ≡ drop at source → 0 < length rest → step_before [] (step_at at (record { line = line; stack = reverse stack }) rest) ≡ Ok (record { given = given; taken = taken; next = record { line = next; stack = reverse left } })
      → front_from source mark source 0 0 beginning ≡ or_further (place_among source mark given) (front_from source mark (drop taken rest) 0 (at + taken) (record { line = next; stack = reverse left }))
  seeks_step rest at line stack left given taken next seeks is_rest some e =
      let reading : Reading = record { line = line; stack = reverse stack } in
      let went : Step = record { given = given; taken = taken; next = record { line = next; stack = reverse left } } in
      sym seeks.read ∙ ap (λ r. front_from source mark r 0 at reading) (sym is_rest) ∙ front_turn rest at reading some ∙ step_was rest at (step_at at reading rest) went e

  pub seeks_more : (rest : List ℕ) (at : ℕ) (line : Line) (stack left : List ℕ) (given : List Token) (taken : ℕ) (next : Line) → Seeks at line stack → rest ≡ drop at source → 0 < length rest → step_before [] (step_at at (record { line = line; stack = reverse stack }) rest) ≡ Ok (record { given = given; taken = taken; next = record { line = next; stack = reverse left } })
      → place_among source mark given ≡ None → Seeks (at + taken) next left
  seeks_more rest at line stack left given taken next seeks is_rest some e none =
      let after : Reading = record { line = next; stack = reverse left } in
      let bounded = went_bounded rest [] at line stack left given taken next e in
      let long = ap length is_rest ∙ length-drop at source in
      let remains : drop taken rest ≡ drop (at + taken) source = ap (drop taken) is_rest ∙ drop-drop taken at source in
      let further : Front = front_from source mark (drop taken rest) 0 (at + taken) after in
      record {
        read = sym (seeks_step rest at line stack left given taken next seeks is_rest some e ∙ ap (λ o. or_further o further) none ∙ ap (λ r. front_from source mark r 0 (at + taken) after) remains);
        within = omega (arith, bounded.within, seeks.within);
        brackets = omega (arith, bounded.counts.brackets, seeks.brackets);
        number = omega (arith, bounded.counts.number, seeks.number);
      }

  pub seeks_failed : (rest : List ℕ) (at : ℕ) (line : Line) (stack : List ℕ) (error : LexRefusal) → Seeks at line stack → rest ≡ drop at source → 0 < length rest → step_at at (record { line = line; stack = reverse stack }) rest ≡ Err error → front_from source mark source 0 0 beginning ≡ Err error
  seeks_failed rest at line stack error seeks is_rest some e =
      let reading : Reading = record { line = line; stack = reverse stack } in
      sym seeks.read ∙ ap (λ r. front_from source mark r 0 at reading) (sym is_rest) ∙ front_turn rest at reading some ∙ ap (after_step rest at) e

  at_end : (at : ℕ) (reading : Reading) → front_from source mark [] 0 at reading ≡ Ok at
  unfolding front_from
  at_end at reading = refl

  pub seeks_all : (at : ℕ) (line : Line) (stack : List ℕ) → Seeks at line stack → length source ≤ at → front_from source mark source 0 0 beginning ≡ Ok at
  seeks_all at line stack seeks all =
      let reading : Reading = record { line = line; stack = reverse stack } in
      sym seeks.read ∙ ap (λ r. front_from source mark r 0 at reading) (drop_of_length-le source all) ∙ at_end at reading

  pub front_of_short : length source ≤ 65536 → front_of source mark ≡ front_from source mark source 0 0 beginning
  unfolding front_of
  front_of_short short = cond-false (ltb 65536 (length source)) (Err TooLong) (front_from source mark source 0 0 beginning) (le-ltb 65536 (length source) short)
