-- The steps of the loops over arms and statements, beside the parsers that they compute.
use Rattle.std.proofs.Common.{◌≡◌, ◌≢◌, Bool, true, false, cond, List, [], ◌∷◌, ◌++◌, Result, Ok, Err, IsErrAnd, sym, ap, ◌∙◌}
use Rattle.mx_syntax.specs.declared.expr.Expr.{Expr}
use Rattle.mx_syntax.specs.declared.stmt.Stmt.{Stmt}
use Rattle.mx_syntax.specs.declared.stmt.ItemEntry.{ItemEntry}
use Rattle.mx_grammar.specs.declared.word.Symbol.TheVariants as symbol
use Rattle.mx_grammar.specs.declared.trouble.Trouble.{Trouble}
use Rattle.mx_grammar.specs.declared.trouble.Trouble.TheVariants.{NoMemory}
use Rattle.mx_grammar.specs.Words.{is}
use Rattle.mx_grammar.specs.Reading.{Words, Outcome, Parser, Reads, and_then, ◌>>◌, pure, sees, expect, choose, Turn, On, Done}
use Rattle.mx_grammar.proofs.Meets.{Shorter}
use Rattle.mx_grammar.proofs.Loops.{Shrinks, loop_on, loop_done, loop_err}
use Rattle.mx_expression.proofs.ManyCode.{reads_err}
use Rattle.mx_parse.specs.StatementParsers.{statement, statement_turn, statements}

module _ (expression : Parser Expr) (display : Parser (List ItemEntry)) (body : Parser (List Stmt)) (short : (found : List Stmt) → Shorter (statement_turn expression display body found))
    (found : List Stmt) (ts : Words) (o : Outcome (List Stmt)) (so_far : statements expression display body found ts ≡ o) where
  turns_shrink : Shrinks (statement_turn expression display body)
  turns_shrink before us rest t e = short before us rest (On t) e

  abbrev after_statement : Stmt → Parser (Turn (List Stmt) (List Stmt))
  after_statement s = choose (is symbol.Dedent) (expect symbol.Dedent >> pure (Done (found ++ s ∷ []))) (pure (On (found ++ s ∷ [])))

  abbrev by_dedent : List Stmt → Bool → Words → Outcome (Turn (List Stmt) (List Stmt))
  by_dedent all b r = cond b ((expect symbol.Dedent >> pure (Done all)) r) (pure (On all) r)

  pub statement_fails : (e : Trouble) (r : Result (List Stmt) Trouble) (rest : Words) → IsErrAnd r (λ f. f ≡ e) → (e ≢ NoMemory → statement expression display body ts ≡ Err e) → Reads o r rest
  unfolding statement_turn
  statement_fails e r rest errs k =
      reads_err o e r rest errs (λ n. sym so_far ∙ loop_err (statement_turn expression display body) turns_shrink found ts e (ap (λ (p : Outcome Stmt). and_then p after_statement) (k n)))

  pub statement_more : (s : Stmt) (all : List Stmt) (r : Words) → all ≡ found ++ s ∷ [] → statement expression display body ts ≡ Ok (s, r) → sees (is symbol.Dedent) r ≡ false → statements expression display body all r ≡ o
  unfolding statement_turn
  statement_more s all r put h k =
      rw put (sym (loop_on (statement_turn expression display body) turns_shrink found (found ++ s ∷ []) ts r (ap (λ (p : Outcome Stmt). and_then p after_statement) h ∙ ap (λ (b : Bool). by_dedent (found ++ s ∷ []) b r) k)) ∙ so_far)

  pub statements_end : (s : Stmt) (all : List Stmt) (r rest : Words) (u : Unit {0}) → all ≡ found ++ s ∷ [] → statement expression display body ts ≡ Ok (s, r) → sees (is symbol.Dedent) r ≡ true → expect symbol.Dedent r ≡ Ok (u, rest) → o ≡ Ok (all, rest)
  unfolding statement_turn
  statements_end s all r rest u put h k c =
      rw put (sym so_far ∙ loop_done (statement_turn expression display body) turns_shrink found (found ++ s ∷ []) ts rest
      (ap (λ (p : Outcome Stmt). and_then p after_statement) h ∙ ap (λ (b : Bool). by_dedent (found ++ s ∷ []) b r) k ∙ ap (λ (p : Outcome (Unit {0})). and_then p (λ _. pure (Done (found ++ s ∷ [])))) c))
