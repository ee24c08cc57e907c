-- The steps of a loop over parts, beside the parser that it computes.
use Rattle.std.proofs.Common.{◌≡◌, ◌≢◌, true, false, Result, Ok, Err, IsErrAnd, sym, ◌∙◌}
use Rattle.std.proofs.lemmas.Result.{err_from_is_err_and}
use Rattle.mx_grammar.specs.declared.trouble.Trouble.{Trouble}
use Rattle.mx_grammar.specs.declared.trouble.Trouble.TheVariants.{NoMemory}
use Rattle.mx_grammar.specs.Reading.{Words, Outcome, Parser, Reads, sees, turning}
use Rattle.mx_grammar.proofs.Exact.{Kinds}
use Rattle.mx_grammar.proofs.Meets.{Shorter}
use Rattle.mx_grammar.proofs.Gather.{gather_turn, gather_more, gather_err, gather_done}

pub reads_err : {A : Type 0} (o : Outcome A) (e : Trouble) (r : Result A Trouble) (rest : Words) → IsErrAnd r (λ f. f ≡ e) → (e ≢ NoMemory → o ≡ Err e) → Reads o r rest
reads_err o e r rest errs k = let p = err_from_is_err_and r errs in rw (p.1, p.2) k

module _ {A S : Type 0} (is : Kinds) (P : Parser A) (add : S → A → S) (short : Shorter P) (s : S) (ts : Words) (o : Outcome S) (so_far : turning (gather_turn is P add) s ts ≡ o) where
  pub part_fails : (e : Trouble) (r : Result S Trouble) (rest : Words) → IsErrAnd r (λ f. f ≡ e) → sees is ts ≡ true → (e ≢ NoMemory → P ts ≡ Err e) → Reads o r rest
  part_fails e r rest errs here k = reads_err o e r rest errs (λ n. sym so_far ∙ gather_err is P add short s ts e here (k n))

  pub part_more : (a : A) (t : S) (rest : Words) → t ≡ add s a → sees is ts ≡ true → P ts ≡ Ok (a, rest) → turning (gather_turn is P add) t rest ≡ o
  part_more a t rest put here k = rw put (sym (gather_more is P add short s a ts rest here k) ∙ so_far)

  pub parts_end : sees is ts ≡ false → o ≡ Ok (s, ts)
  parts_end gone = sym so_far ∙ gather_done is P add short s ts gone
