-- The parser of expressions is exact, with brackets in any number of levels.
use Rattle.std.proofs.Common.{◌≡◌, ℕ, zero, suc, ◌<◌, ◌≤◌, refl, arith}
use Rattle.mx_syntax.specs.declared.expr.Expr.{Expr}
use Rattle.mx_grammar.specs.Reading.{Words, Parser, line}
use Rattle.mx_grammar.proofs.Exact.{Rel, Kinds, Exists, refuse_exact}
use Rattle.mx_grammar.proofs.Meets.{none_meets}
use Rattle.mx_grammar.proofs.Rules.{Knot, Rule, plain}
use Rattle.mx_grammar.proofs.Lists.{chain_begins, some_chain}
use Rattle.mx_grammar.proofs.LoopCode.{Within as WithinText}
use Rattle.mx_grammar.proofs.Lines.{line_rule, some_line}
use Rattle.mx_grammar.proofs.Texts.{Exactly}
use Rattle.mx_expression.specs.Operands.{SignedOf}
use Rattle.mx_expression.specs.Chains.{Product, Sum, Compare, Not, And}
use Rattle.mx_expression.specs.Expressions.{OrOf, Ors, Expressions, expression_text}
use Rattle.mx_expression.specs.ChainParsers.{product, sum, compare, negated, both, or_from}
use Rattle.mx_expression.specs.ExpressionParsers.{ors, expression, signed}
use Rattle.mx_expression.proofs.TokenKinds as kinds
use Rattle.mx_expression.proofs.TokenKinds.{begins_signed, after_signed, after_product, after_sum, after_compare, after_and, after_or}
use Rattle.mx_expression.proofs.OperandAtoms.{between, Brackets}
use Rattle.mx_expression.proofs.OperandRules.{signed_rule, signed_begins, some_signed}
use Rattle.mx_expression.proofs.ChainRules.{Starts, Begins, product_chain, product_rule, sum_chain, sum_rule, compare_chain, compare_rule, some_not, not_rule, not_begins, and_chain, and_rule, or_chain, or_rule}
use Rattle.mx_expression.proofs.ConditionalRules.{conditional_rule, conditional_begins, has_part, some_conditional}

-- what may not follow an expression, and what begins one
abbrev pub follows : Kinds
follows = kinds.follows

abbrev pub begins : Kinds
begins = kinds.begins

-- ---- an `or` from its operands

module _ {S : Rel Expr} (some : Exists S) where
  pub some_product : Exists (Product S)
  some_product = some_chain (product_chain S) some

  pub some_sum : Exists (Sum (Product S))
  some_sum = some_chain (sum_chain (Product S)) some_product

  some_compare : Exists (Compare (Sum (Product S)))
  some_compare = some_chain (compare_chain (Sum (Product S))) some_sum

  pub some_negation : Exists (Not (Compare (Sum (Product S))))
  some_negation = some_not (Compare (Sum (Product S))) some_compare

  pub some_conjunction : Exists (And (Not (Compare (Sum (Product S)))))
  some_conjunction = some_chain (and_chain (Not (Compare (Sum (Product S))))) some_negation

  some_or_of : Exists (OrOf S)
  some_or_of = some_chain (or_chain (And (Not (Compare (Sum (Product S)))))) some_conjunction

module _ {S : Rel Expr} (start : Starts S) where
  compares_start : Starts (Compare (Sum (Product S)))
  compares_start = chain_begins (compare_chain (Sum (Product S))) begins_signed (chain_begins (sum_chain (Product S)) begins_signed (chain_begins (product_chain S) begins_signed start))

  or_begins : Begins (OrOf S)
  or_begins = chain_begins (or_chain (And (Not (Compare (Sum (Product S)))))) begins (chain_begins (and_chain (Not (Compare (Sum (Product S))))) begins (not_begins (Compare (Sum (Product S))) compares_start))

module _ {E : Type 0} {K : Knot E} {k : ℕ} {S : Rel Expr} {p : E → Parser Expr} (some : Exists S) (start : Starts S) (operand : Rule K k (plain after_signed) S p) where
  pub products : Rule K k (plain after_product) (Product S) (λ i. product (p i))
  products = product_rule some operand

  pub sums : Rule K k (plain after_sum) (Sum (Product S)) (λ i. sum (product (p i)))
  sums = sum_rule (some_product some) products

  compares : Rule K k (plain after_compare) (Compare (Sum (Product S))) (λ i. compare (sum (product (p i))))
  compares = compare_rule (some_sum some) sums

  pub negations : Rule K k (plain after_compare) (Not (Compare (Sum (Product S)))) (λ i. negated (compare (sum (product (p i)))))
  negations = not_rule (some_compare some) (compares_start start) compares

  pub boths : Rule K k (plain after_and) (And (Not (Compare (Sum (Product S))))) (λ i. both (negated (compare (sum (product (p i))))))
  boths = and_rule (some_negation some) negations

  or_of_rule : Rule K k (plain after_or) (OrOf S) (λ i. or_from (p i))
  or_of_rule = or_rule (some_conjunction some) boths

-- ---- all levels

abbrev pub between_expressions : ℕ → ℕ → Knot ℕ
between_expressions = between

ors_begin : (d : ℕ) → Begins (Ors d)
ors_begin zero u rest x h = absurd h
ors_begin (suc d) u rest x h = or_begins (signed_begins (Expressions d) (Ors d)) u rest x h

pub expressions_begin : (d : ℕ) → Begins (Expressions d)
expressions_begin d = conditional_begins after_or (Ors d) (ors_begin d)

some_ors : (d : ℕ) → Exists (Ors (suc d))
some_ors d = some_or_of (some_signed (Expressions d) (Ors d))

pub some_expression : (d : ℕ) → Exists (Expressions (suc d))
some_expression d = some_conditional after_or (Ors (suc d)) (some_ors d)

some_at : (d : ℕ) → 0 < d → Exists (Expressions d)
some_at zero h = absurd (omega arith)
some_at (suc d) h = some_expression d

has_or : (d : ℕ) (u : Words) (x : Expr) → Expressions d u x → Exists (Ors d)
has_or d u x h = has_part after_or (Ors d) u x h

none_at : (d : ℕ) → d ≡ 0 → Exists (Ors d) → ⊥
none_at zero e h = h.spells
none_at (suc d) e h = absurd (omega (arith, e))

expression_rule : (d m : ℕ) → Rule (between d m) d (plain after_or) (Ors d) ors → Rule (between d m) d (plain follows) (Expressions d) expression
unfolding expression
expression_rule d m r = conditional_rule r refl refl

brackets_by : (d m : ℕ) → d ≤ m → Rule (between d m) d (plain after_or) (Ors d) ors → Brackets d m (Expressions d) (Ors d) expression ors
brackets_by d m le r = record {
  order = le;
  expr = expression_rule d m r;
  or = r;
  begun = expressions_begin d;
  has = has_or d;
  some = some_at d;
  never = λ e u x h. none_at d e (has_or d u x h);
}

pub or_level : (d m : ℕ) → d ≤ m → Rule (between d m) d (plain after_or) (Ors d) ors
unfolding ors expression
or_level zero m le = record { exact = refuse_exact (plain after_or); meets = none_meets (ors m) }
or_level (suc d) zero le = absurd (omega arith)
or_level (suc d) (suc m) le =
    let r = or_of_rule (some_signed (Expressions d) (Ors d)) (signed_begins (Expressions d) (Ors d)) (signed_rule (brackets_by d m (omega arith) (or_level d m (omega arith)))) in
    record { exact = r.exact; meets = r.meets }

pub level : (d m : ℕ) → d ≤ m → Rule (between_expressions d m) d (plain follows) (Expressions d) expression
level d m le = expression_rule d m (or_level d m le)

pub expression_within : (d : ℕ) → WithinText (expression d)
expression_within d = (level d d (omega arith)).meets.within

-- ---- for the code's loops

pub brackets : (d : ℕ) → Brackets d d (Expressions d) (Ors d) expression ors
brackets d = brackets_by d d (omega arith) (or_level d d (omega arith))

pub signed_level : (d : ℕ) → Rule (between d d) (suc d) (plain after_signed) (SignedOf (Expressions d) (Ors d)) signed
signed_level d = signed_rule (brackets d)

-- ---- whole texts

pub expressions : Exactly expression_text (λ n. line (expression n))
expressions = record {
  exact = λ n. (line_rule refl (level n n (omega arith))).exact;
  meets = λ n m le. (line_rule refl (level n m le)).meets;
  some = λ n. some_line (some_expression n);
}
