-- The steps of the code's loops over lists where each item depends on those before, and of its tokens that depend on them.
use Rattle.std.proofs.Common.{◌≡◌, ◌≢◌, ℕ, suc, ◌<◌, Bool, true, false, List, [], ◌∷◌, ◌++◌, length, Option, Some, None, Result, Ok, Err, IsErrAnd, sym, ap, ◌∙◌}
use Rattle.mx_grammar.specs.declared.word.Symbol.{Symbol}
use Rattle.mx_grammar.specs.declared.word.Symbol.TheVariants.{Comma}
use Rattle.mx_grammar.specs.declared.word.Word.{Word}
use Rattle.mx_grammar.specs.declared.trouble.Trouble.{Trouble}
use Rattle.mx_grammar.specs.declared.trouble.Trouble.TheVariants.{NoMemory}
use Rattle.mx_grammar.specs.Reading.{Words, Outcome, Parser, Reads, accept, taken, Turn, On, Done, turning}
use Rattle.mx_grammar.proofs.Exact.{ok_pair}
use Rattle.mx_grammar.proofs.Loops.{Shrinks, loop_on, loop_done, loop_err}
use Rattle.mx_grammar.proofs.LoopCode.{Within, item_shrinks}
use Rattle.mx_expression.proofs.ManyCode.{reads_err}
use Rattle.mx_parse.specs.Following.{following_turn, following, Goes}
use Rattle.mx_parse.proofs.StatementLengths.{marked_within, then_within, choose_within, loop_within}

-- what a turn that the code took leaves of the loop
module _ {A : Type 0} (turn : List A → Parser (Turn (List A) (List A))) (shrinks : Shrinks turn) (s : List A) (ts : Words) where
  pub turn_shorter : (t : List A) (rest : Words) (b : Bool) → b ≡ true → Goes (turn s ts) (Ok b) t rest → length rest < length ts
  turn_shorter t rest true h g = shrinks s ts rest t g
  turn_shorter t rest false h g = absurd cc

  module _ (o : Outcome (List A)) (so_far : turning turn s ts ≡ o) where
    pub turn_fails : (e : Trouble) (r : Result (List A) Trouble) (rest : Words) → IsErrAnd r (λ f. f ≡ e) → (e ≢ NoMemory → turn s ts ≡ Err e) → Reads o r rest
    turn_fails e r rest errs k = reads_err o e r rest errs (λ n. sym so_far ∙ loop_err turn shrinks s ts e (k n))

    pub turn_on : (t : List A) (rest : Words) (b : Bool) → b ≡ true → Goes (turn s ts) (Ok b) t rest → turning turn t rest ≡ o
    turn_on t rest true h g = sym (loop_on turn shrinks s t ts rest g) ∙ so_far
    turn_on t rest false h g = absurd cc

    pub turn_out : (t : List A) (rest : Words) (b : Bool) → b ≡ false → Goes (turn s ts) (Ok b) t rest → o ≡ Ok (t, rest)
    turn_out t rest true h g = absurd cc
    turn_out t rest false h g = sym so_far ∙ loop_done turn shrinks s t ts rest g

-- ---- lengths

module _ {A : Type 0} (close : Symbol) (item : List A → Parser A) (w : (found : List A) → Within (item found)) where
  pub turn_shrinks : Shrinks (following_turn close item)
  turn_shrinks found ts rest t e = item_shrinks close (item found) (w found) found ts rest t e

  turn_within : (found : List A) → Within (following_turn close item found)
  turn_within found =
      choose_within _ _ _ (marked_within close (Done found))
      (then_within _ _ (w found) (λ a. choose_within _ _ _ (marked_within Comma (On (found ++ a ∷ []))) (marked_within close (Done (found ++ a ∷ [])))))

  pub following_within : (found : List A) → Within (following close item found)
  following_within = loop_within (following_turn close item) turn_within

-- ---- a token that says more where what is before allows it

abbrev pub refined : {A B : Type 0} → Option A → (A → Option B) → Option B
refined None g = None
refined (Some a) g = g a

module _ {A B : Type 0} (says : Word → Option A) (more : Word → Option B) (g : A → Option B) (same : (t : Word) → more t ≡ refined (says t) g) where
  taken_ok : (ts : Words) (n : ℕ) (o : Option A) (a : A) (rest : Words) → taken ts n o ≡ Ok (a, rest) → taken ts n (refined o g) ≡ taken rest n (g a)
  taken_ok ts n (Some b) a rest e = let q = ok_pair e in ap (λ (x : A). taken ts n (g x)) q.0 ∙ ap (λ (x : Words). taken x n (g a)) q.1
  taken_ok ts n None a rest e = absurd cc

  pub accept_ok : (ts rest : Words) (a : A) → accept says ts ≡ Ok (a, rest) → accept more ts ≡ taken rest (length ts) (g a)
  accept_ok [] rest a e = absurd cc
  accept_ok (t ∷ ts) rest a e = ap (taken ts (suc (length ts))) (same t) ∙ taken_ok ts (suc (length ts)) (says t) a rest e
