-- The steps of the code's loops, beside the parsers that they compute.
use Rattle.std.proofs.Common.{◌≡◌, ℕ, suc, ◌-◌, ◌<◌, ◌≤◌, Bool, true, false, cond, List, [], ◌∷◌, ◌++◌, length, Ok, Err, sym, ap, ◌∙◌, arith}
use Rattle.mx_grammar.specs.declared.word.Symbol.{Symbol}
use Rattle.mx_grammar.specs.declared.word.Symbol.TheVariants.{Comma}
use Rattle.mx_grammar.specs.declared.trouble.Trouble.{Trouble}
use Rattle.mx_grammar.specs.Words.{is}
use Rattle.mx_grammar.specs.Reading.{Words, Outcome, Parser, and_then, ◌>>=◌, ◌>>◌, pure, sees, behind, taken, seen, says, expect, choose, Turn, On, Done, item_turn, listed}
use Rattle.mx_grammar.proofs.Exact.{Kinds, bind_ok, ok_pair, read}
use Rattle.mx_grammar.proofs.Meets.{accept_shorter}
use Rattle.mx_grammar.proofs.Loops.{Shrinks, loop_on, loop_done, loop_err}
use Rattle.mx_grammar.proofs.Lists.{chosen_left, chosen_right, on_done}

abbrev pub Within : {A : Type 0} → Parser A → Type 0
Within {A} P = (ts rest : Words) (a : A) → P ts ≡ Ok (a, rest) → length rest ≤ length ts

pub expect_ok : (s : Symbol) (ts : Words) → sees (is s) ts ≡ true → expect s ts ≡ Ok (tt, behind ts)
expect_ok s [] h = absurd cc
expect_ok s (t ∷ ts) h = ap (λ (b : Bool). taken ts (suc (length ts)) (seen b)) h

pub behind_shorter : (F : Kinds) (ts : Words) → sees F ts ≡ true → length (behind ts) < length ts
behind_shorter F [] h = absurd cc
behind_shorter F (t ∷ ts) h = omega arith

module _ {A : Type 0} (close : Symbol) (item : Parser A) where
  abbrev after_item : List A → A → Parser (Turn (List A) (List A))
  after_item found a = choose (is Comma) (expect Comma >> pure (On (found ++ a ∷ []))) (expect close >> pure (Done (found ++ a ∷ [])))

  pub item_shrinks : Within item → Shrinks (item_turn close item)
  item_shrinks within found ts rest t e =
      let l = chosen_right (sees (is close) ts) ((expect close >> pure (Done found)) ts) ((item >>= after_item found) ts) (read (On t, rest)) e
      (λ w. let o = bind_ok (expect close ts) (λ _. pure (Done found)) (On t) rest w in on_done t found (sym (ok_pair o.3).0)) in
      let o = bind_ok (item ts) (after_item found) (On t) rest l in
      let short = within ts o.1 o.0 o.2 in
      let m = chosen_left (sees (is Comma) o.1) ((expect Comma >> pure (On (found ++ o.0 ∷ []))) o.1) ((expect close >> pure (Done (found ++ o.0 ∷ []))) o.1) (read (On t, rest)) o.3
      (λ w. let q = bind_ok (expect close o.1) (λ _. pure (Done (found ++ o.0 ∷ []))) (On t) rest w in on_done t (found ++ o.0 ∷ []) (sym (ok_pair q.3).0)) in
      let c = bind_ok (expect Comma o.1) (λ _. pure (On (found ++ o.0 ∷ []))) (On t) rest m in
      let shorter = accept_shorter (says (is Comma)) o.1 c.1 c.0 c.2 in
      let same = (ok_pair c.3).1 in
      omega (arith, ap length same)

  abbrev by_close : List A → Bool → Words → Outcome (Turn (List A) (List A))
  by_close found b ts = cond b ((expect close >> pure (Done found)) ts) (and_then (item ts) (after_item found))

  abbrev by_comma : List A → A → Bool → Words → Outcome (Turn (List A) (List A))
  by_comma found a b r = cond b ((expect Comma >> pure (On (found ++ a ∷ []))) r) ((expect close >> pure (Done (found ++ a ∷ []))) r)

  one_item : (found : List A) (ts r : Words) (a : A) (b : Bool) → sees (is close) ts ≡ false → item ts ≡ Ok (a, r) → sees (is Comma) r ≡ b → item_turn close item found ts ≡ by_comma found a b r
  one_item found ts r a b h k s = ap (λ (c : Bool). by_close found c ts) h ∙ ap (λ (o : Outcome A). and_then o (after_item found)) k ∙ ap (λ (c : Bool). by_comma found a c r) s

  pub listed_closed : Within item → (found : List A) (ts : Words) → sees (is close) ts ≡ true → listed close item found ts ≡ Ok (found, behind ts)
  listed_closed w found ts h = loop_done (item_turn close item) (item_shrinks w) found found ts (behind ts)
      (ap (λ (c : Bool). by_close found c ts) h ∙ ap (λ (o : Outcome (Unit {0})). and_then o (λ _. pure (Done found))) (expect_ok close ts h))

  pub listed_item_err : Within item → (found : List A) (ts : Words) (e : Trouble) → sees (is close) ts ≡ false → item ts ≡ Err e → listed close item found ts ≡ Err e
  listed_item_err w found ts e h k = loop_err (item_turn close item) (item_shrinks w) found ts e (ap (λ (c : Bool). by_close found c ts) h ∙ ap (λ (o : Outcome A). and_then o (after_item found)) k)

  pub listed_more : Within item → (found : List A) (a : A) (ts r : Words) → sees (is close) ts ≡ false → item ts ≡ Ok (a, r) → sees (is Comma) r ≡ true → listed close item found ts ≡ listed close item (found ++ a ∷ []) (behind r)
  listed_more w found a ts r h k s = loop_on (item_turn close item) (item_shrinks w) found (found ++ a ∷ []) ts (behind r)
      (one_item found ts r a true h k s ∙ ap (λ (o : Outcome (Unit {0})). and_then o (λ _. pure (On (found ++ a ∷ [])))) (expect_ok Comma r s))

  pub listed_last : Within item → (found : List A) (a : A) (ts r rest : Words) (u : Unit {0}) → sees (is close) ts ≡ false → item ts ≡ Ok (a, r) → sees (is Comma) r ≡ false → expect close r ≡ Ok (u, rest) → listed close item found ts ≡ Ok (found ++ a ∷ [], rest)
  listed_last w found a ts r rest u h k s c = loop_done (item_turn close item) (item_shrinks w) found (found ++ a ∷ []) ts rest
      (one_item found ts r a false h k s ∙ ap (λ (o : Outcome (Unit {0})). and_then o (λ _. pure (Done (found ++ a ∷ [])))) c)

  pub listed_end_err : Within item → (found : List A) (a : A) (ts r : Words) (e : Trouble) → sees (is close) ts ≡ false → item ts ≡ Ok (a, r) → sees (is Comma) r ≡ false → expect close r ≡ Err e → listed close item found ts ≡ Err e
  listed_end_err w found a ts r e h k s c = loop_err (item_turn close item) (item_shrinks w) found ts e
      (one_item found ts r a false h k s ∙ ap (λ (o : Outcome (Unit {0})). and_then o (λ _. pure (Done (found ++ a ∷ [])))) c)

  -- after an item and a comma fewer tokens are left
  pub listed_shorter : Within item → (a : A) (ts r : Words) → item ts ≡ Ok (a, r) → sees (is Comma) r ≡ true → length (behind r) < length ts
  listed_shorter w a ts r k s = let one = w ts r a k in let two = behind_shorter (is Comma) r s in omega arith

pub deeper : {X : Type 0} (f : ℕ → X) (n : ℕ) → 0 < n → f n ≡ f (suc (n - 1))
deeper f n some = let e : n ≡ suc (n - 1) = omega arith in ap f e
