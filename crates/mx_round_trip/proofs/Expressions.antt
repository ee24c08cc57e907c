-- The printed text of an expression spells it again.
use Rattle.std.proofs.Common.{ℕ, ◌≤◌, zero, suc, List, arith}
use Rattle.mx_syntax.specs.declared.expr.Expr.{Expr}
use Rattle.mx_print.specs.Expressions.{at, printed}
use Rattle.mx_grammar.specs.declared.word.Word.{Word}
use Rattle.mx_grammar.specs.Grammar.{Never}
use Rattle.mx_expression.specs.Chains.{Conditional}
use Rattle.mx_expression.specs.Expressions.{Ors, Expressions}
use Rattle.mx_round_trip.proofs.Numbers.{glues}
use Rattle.mx_round_trip.proofs.Sources.{AreSaid}
use Rattle.mx_round_trip.proofs.Says.{Says}
use Rattle.mx_round_trip.proofs.ExpressionRules.{Rule, grouped}
use Rattle.mx_round_trip.proofs.Chains.{PartsGood, product_good, sum_good, compare_good}
use Rattle.mx_round_trip.proofs.Connectives.{not_good, and_good, or_good, conditional_good}
use Rattle.mx_round_trip.proofs.Powers.{signed_good, power_good}
use Rattle.mx_round_trip.proofs.Atoms.{Inner}
use Rattle.mx_round_trip.proofs.Trailers.{post_good}

-- what is known of whole expressions, and of an `or`
pub record Rules (d : ℕ) : Type 0 where
  pub whole : PartsGood 0 d
  pub part : PartsGood 1 d

rules_from : (d : ℕ) → Inner d → Rules d
rules_from d inner =
    let sums : PartsGood 5 d = sum_good d (product_good d (signed_good d (power_good d (post_good d inner)))) in
    let ors : PartsGood 1 d = or_good d (and_good d (not_good d (compare_good d sums))) in
    record { whole = conditional_good d ors; part = ors }

-- nothing is spelled in no level
pub no_whole : (u : List Word) (x : Expr) → Conditional Never u x → ⊥
no_whole _ _ (Conditional.alone h) = h
no_whole _ _ (Conditional.chain h k) = k

no_inner : Inner zero
no_inner = record { whole = λ u x said h. absurd (no_whole u x h); part = λ u x said h. absurd h; group = λ u x said h. absurd (no_whole u x h) }

-- in one level more, what a rule spells stands inside brackets
wholes : (d : ℕ) (ws : List Word) (x : Expr) → ((e : ℕ) → d ≤ e → Rule 0 e ws x) → (e : ℕ) → suc d ≤ e → Expressions e ws x
wholes d ws x h zero le = absurd (omega arith)
wholes d ws x h (suc e) le = h e (omega arith)

ors : (d : ℕ) (ws : List Word) (x : Expr) → ((e : ℕ) → d ≤ e → Rule 1 e ws x) → (e : ℕ) → suc d ≤ e → Ors e ws x
ors d ws x h zero le = absurd (omega arith)
ors d ws x h (suc e) le = h e (omega arith)

inner_more : (d : ℕ) → Rules d → Inner (suc d)
inner_more d rules = record {
  whole = λ u x said h. let g = rules.whole u x said h in let fit = g.fit in record { words = fit.words; spelled = wholes d fit.words x fit.spelled; flat = fit.flat };
  part = λ u x said h. let g = rules.part u x said h in let fit = g.fit in record { words = fit.words; spelled = ors d fit.words x fit.spelled; flat = fit.flat };
  group = λ u x said h. grouped d x (printed x) (rules.whole u x said h);
}

pub all_rules : (d : ℕ) → Rules d
all_rules zero = rules_from zero no_inner
all_rules (suc d) = rules_from (suc d) (inner_more d (all_rules d))

pub inner : (d : ℕ) → Inner d
inner zero = no_inner
inner (suc d) = inner_more d (all_rules d)

-- a whole expression, in so many levels
pub whole_says : (d : ℕ) (u : List Word) (x : Expr) → AreSaid u → Expressions d u x → Says Expressions d glues x (at 0 (printed x))
whole_says d u x said h = let i = inner d in i.whole u x said h
