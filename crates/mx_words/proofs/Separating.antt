-- The code's loop over items that each stand behind a symbol, beside the parser that it computes.
use Rattle.std.proofs.Common.{◌≡◌, ◌<◌, Bool, true, false, cond, List, [], ◌∷◌, ◌++◌, length, Ok, Err, ap, ◌∙◌}
use Rattle.mx_grammar.specs.declared.word.Symbol.{Symbol}
use Rattle.mx_grammar.specs.declared.trouble.Trouble.{Trouble}
use Rattle.mx_grammar.specs.Words.{is}
use Rattle.mx_grammar.specs.Reading.{Words, Outcome, Parser, and_then, ◌>>=◌, ◌>>◌, pure, sees, behind, expect, Turn, On, Done, turning, many_turn}
use Rattle.mx_grammar.proofs.Meets.{Shorter}
use Rattle.mx_grammar.proofs.Loops.{Shrinks, loop_on, loop_done, loop_err}
use Rattle.mx_grammar.proofs.Lists.{many_shrinks}
use Rattle.mx_grammar.proofs.LoopCode.{expect_ok}

module _ {A : Type 0} (s : Symbol) (Q : Parser A) (short : Shorter (expect s >> Q)) where
  abbrev item : Parser A
  item = expect s >> Q

  abbrev turn : List A → Parser (Turn (List A) (List A))
  turn = many_turn (is s) item

  shrinks : Shrinks turn
  shrinks = many_shrinks (is s) item short

  abbrev by : List A → Bool → Words → Outcome (Turn (List A) (List A))
  by found b ts = cond b ((item >>= λ a. pure (On (found ++ a ∷ []))) ts) (pure (Done found) ts)

  item_is : (ts : Words) → sees (is s) ts ≡ true → item ts ≡ Q (behind ts)
  item_is ts h = ap (λ (o : Outcome (Unit {0})). and_then o (λ _. Q)) (expect_ok s ts h)

  pub one_more : (found : List A) (a : A) (ts rest : Words) → sees (is s) ts ≡ true → Q (behind ts) ≡ Ok (a, rest) → turning turn found ts ≡ turning turn (found ++ a ∷ []) rest
  one_more found a ts rest h k = loop_on turn shrinks found (found ++ a ∷ []) ts rest (ap (λ (b : Bool). by found b ts) h ∙ ap (λ (o : Outcome A). and_then o (λ a. pure (On (found ++ a ∷ [])))) (item_is ts h ∙ k))

  pub no_more : (found : List A) (ts : Words) (e : Trouble) → sees (is s) ts ≡ true → Q (behind ts) ≡ Err e → turning turn found ts ≡ Err e
  no_more found ts e h k = loop_err turn shrinks found ts e (ap (λ (b : Bool). by found b ts) h ∙ ap (λ (o : Outcome A). and_then o (λ a. pure (On (found ++ a ∷ [])))) (item_is ts h ∙ k))

  pub all_found : (found : List A) (ts : Words) → sees (is s) ts ≡ false → turning turn found ts ≡ Ok (found, ts)
  all_found found ts h = loop_done turn shrinks found found ts ts (ap (λ (b : Bool). by found b ts) h)

  pub one_shorter : (ts rest : Words) (a : A) → sees (is s) ts ≡ true → Q (behind ts) ≡ Ok (a, rest) → length rest < length ts
  one_shorter ts rest a h k = short ts rest a (item_is ts h ∙ k)
