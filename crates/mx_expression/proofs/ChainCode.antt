-- What the loops over chains rely on: each of their parts takes a token.
use Rattle.std.proofs.Common.{◌≡◌, ◌≢◌, ℕ, true, false, List, length, Result, Ok, Err, IsErrAnd, sym, ap, ◌∙◌, arith}
use Rattle.mx_syntax.specs.declared.expr.Expr.{Expr}
use Rattle.mx_syntax.specs.declared.expr.Arm.{Arm}
use Rattle.mx_grammar.specs.declared.word.Symbol.TheVariants as symbol
use Rattle.mx_grammar.specs.declared.trouble.Trouble.{Trouble}
use Rattle.mx_grammar.specs.declared.trouble.Trouble.TheVariants.{NoMemory}
use Rattle.mx_grammar.specs.Words.{is}
use Rattle.mx_grammar.specs.Reading.{Words, Outcome, Parser, Reads, and_then, ◌>>=◌, ◌>>◌, pure, sees, expect, says}
use Rattle.mx_grammar.proofs.Exact.{Exists, bind_ok, ok_pair}
use Rattle.mx_grammar.proofs.Meets.{Shorter, accept_shorter}
use Rattle.mx_grammar.proofs.Lists.{exact_shorter}
use Rattle.mx_grammar.proofs.LoopCode.{Within}
use Rattle.mx_expression.specs.Operands.{SignedOf}
use Rattle.mx_expression.specs.Chains.{Product, Sum, Compare, Not, And}
use Rattle.mx_expression.specs.Expressions.{Ors, Expressions}
use Rattle.mx_expression.specs.ChainParsers as spec
use Rattle.mx_expression.specs.ChainParsers.{product_part, sum_part, comparison, and_part, or_part, Armed, choice, choice_of, armed, conditional_of}
use Rattle.mx_expression.specs.ExpressionParsers.{ors, signed, products, sums, negations, conjunctions}
use Rattle.mx_expression.proofs.OperandRules.{signed_begins, some_signed}
use Rattle.mx_expression.proofs.ChainRules.{Starts, product_part_rule, product_tail_begins, sum_part_rule, sum_tail_begins, comparison_rule, compare_tail_begins, and_part_rule, and_tail_begins, or_part_rule, or_tail_begins}
use Rattle.mx_expression.proofs.ExpressionRules as rules
use Rattle.mx_expression.proofs.ExpressionRules.{or_level, signed_level, some_product, some_sum, some_negation, some_conjunction}
use Rattle.mx_expression.proofs.ManyCode.{reads_err}
use Rattle.mx_grammar.proofs.Gather.{gather_more, gather_err, gather_done}

module _ (d : ℕ) where
  abbrev Operand : Words → Expr → Type 0
  Operand = SignedOf (Expressions d) (Ors d)

  some : Exists Operand
  some = some_signed (Expressions d) (Ors d)

  start : Starts Operand
  start = signed_begins (Expressions d) (Ors d)

  pub product_shorter : Shorter (product_part (signed d))
  product_shorter = exact_shorter spec.is_product (product_part_rule some (signed_level d)).exact (product_tail_begins Operand)

  pub sum_shorter : Shorter (sum_part (products d))
  sum_shorter = exact_shorter spec.is_sum (sum_part_rule (some_product some) (rules.products some start (signed_level d))).exact (sum_tail_begins (Product Operand))

  pub comparison_shorter : Shorter (comparison (sums d))
  comparison_shorter = exact_shorter spec.is_compare (comparison_rule (some_sum some) (rules.sums some start (signed_level d))).exact (compare_tail_begins (Sum (Product Operand)))

  pub and_shorter : Shorter (and_part (negations d))
  and_shorter = exact_shorter (is symbol.And) (and_part_rule (some_negation some) (rules.negations some start (signed_level d))).exact (and_tail_begins (Not (Compare (Sum (Product Operand)))))

  pub or_shorter : Shorter (or_part (conjunctions d))
  or_shorter = exact_shorter (is symbol.Or) (or_part_rule (some_conjunction some) (rules.boths some start (signed_level d))).exact (or_tail_begins (And (Not (Compare (Sum (Product Operand))))))

pub not_shorter : Shorter (expect symbol.Not)
not_shorter = accept_shorter (says (is symbol.Not))

module _ (part : Parser Expr) where
  abbrev behind_test : Expr → Parser (Expr × Expr)
  behind_test test = expect symbol.Else >> (part >>= λ value. pure (choice_of test value))

  pub choice_takes : Within part → Shorter (choice part)
  unfolding choice
  choice_takes within ts rest c e =
      let o = bind_ok (expect symbol.If ts) (λ _. part >>= behind_test) c rest e in
      let first = accept_shorter (says (is symbol.If)) ts o.1 o.0 o.2 in
      let t = bind_ok (part o.1) behind_test c rest o.3 in
      let second = within o.1 t.1 t.0 t.2 in
      let l = bind_ok (expect symbol.Else t.1) (λ _. part >>= λ value. pure (choice_of t.0 value)) c rest t.3 in
      let third = accept_shorter (says (is symbol.Else)) t.1 l.1 l.0 l.2 in
      let v = bind_ok (part l.1) (λ value. pure (choice_of t.0 value)) c rest l.3 in
      let fourth = within l.1 v.1 v.0 v.2 in
      omega (arith, ap length (ok_pair v.3).1)

pub choice_shorter : (d : ℕ) → Shorter (choice (ors d))
choice_shorter d = choice_takes (ors d) (or_level d d (omega arith)).meets.within

-- ---- the arms of a conditional

abbrev pub finish : Armed → Parser Expr
finish s = pure (conditional_of s.arms s.last)

abbrev pub finished : ℕ → List Arm → Expr → Parser Expr
finished d arms last = λ ts. and_then (armed (ors d) (record { arms = arms; last = last }) ts) finish

module _ (d : ℕ) (arms : List Arm) (last : Expr) (ts : Words) (o : Outcome Expr) (so_far : finished d arms last ts ≡ o) where
  abbrev before : Armed
  before = record { arms = arms; last = last }

  pub arms_fail : (e : Trouble) (r : Result Expr Trouble) (rest : Words) → IsErrAnd r (λ f. f ≡ e) → sees (is symbol.If) ts ≡ true → (e ≢ NoMemory → choice (ors d) ts ≡ Err e) → Reads o r rest
  arms_fail e r rest errs h k =
      reads_err o e r rest errs (λ n. sym so_far ∙ ap (λ (p : Outcome Armed). and_then p finish) (gather_err (is symbol.If) (choice (ors d)) spec.with_choice (choice_shorter d) before ts e h (k n)))

  pub arms_more : (c : Expr × Expr) (rest : Words) → sees (is symbol.If) ts ≡ true → choice (ors d) ts ≡ Ok (c, rest) → and_then (armed (ors d) (spec.with_choice before c) rest) finish ≡ o
  arms_more c rest h k = sym (ap (λ (p : Outcome Armed). and_then p finish) (gather_more (is symbol.If) (choice (ors d)) spec.with_choice (choice_shorter d) before c ts rest h k)) ∙ so_far

  pub arms_end : (x : Expr) → x ≡ conditional_of arms last → sees (is symbol.If) ts ≡ false → o ≡ Ok (x, ts)
  arms_end x same h = rw same (sym so_far ∙ ap (λ (p : Outcome Armed). and_then p finish) (gather_done (is symbol.If) (choice (ors d)) spec.with_choice (choice_shorter d) before ts h))
