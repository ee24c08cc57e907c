-- A text of one line.
use Rattle.std.proofs.Common.{◌≡◌, ℕ, false, [], ◌∷◌, ◌++◌, refl, sym, ap, subst, ◌∙◌}
use Rattle.mx_grammar.specs.declared.word.Word.TheVariants.{Symbol}
use Rattle.mx_grammar.specs.declared.word.Symbol.TheVariants.{Newline}
use Rattle.mx_grammar.specs.Grammar.{Line}
use Rattle.mx_grammar.specs.Reading.{Words, Parser, line}
use Rattle.mx_grammar.proofs.Exact.{Rel, Kinds, none, Exists, Nothing, Then}
use Rattle.mx_grammar.proofs.Rules.{Knot, Rule, plain, pure_rule, then_rule, iff_rule, behind_rule, Behind, marked, mark, sees_mark, some_behind}

module _ {A : Type 0} (R : Rel A) where
  to_line : (u : Words) (x : A) → Then R (λ y. Behind Newline (Nothing y)) u x → Line R u x
  to_line u x h =
      let m = marked Newline (Nothing h.tree) h.right x h.second in
      let e : u ≡ h.left ++ Symbol Newline ∷ [] = h.parts ∙ ap (λ (v : Words). h.left ++ v) (m.1 ∙ ap (λ (v : Words). Symbol Newline ∷ v) m.2.0) in
      subst (λ (v : Words). Line R v x) (sym e) (subst (Line R (h.left ++ Symbol Newline ∷ [])) (sym m.2.1) (Line.line h.first))

  from_line : (u : Words) (x : A) → Line R u x → Then R (λ y. Behind Newline (Nothing y)) u x
  from_line _ _ (Line.line {u} {x} h) = record { left = u; right = Symbol Newline ∷ []; tree = x; parts = refl; first = h; second = mark Newline (Nothing x) [] x (refl, refl) }

pub line_rule : {E A : Type 0} {K : Knot E} {k : ℕ} {F : Kinds} {R : Rel A} {P : E → Parser A} → F (Symbol Newline) ≡ false → Rule K k (plain F) R P → Rule K k (plain none) (Line R) (λ i. line (P i))
unfolding line
line_rule {F} {R} stops p =
    iff_rule (to_line R) (from_line R)
    (then_rule p (λ x. behind_rule Newline refl (record { tokens = []; tree = x; spells = (refl, refl) }) (pure_rule (plain none) x))
    (λ x v rest y h s. sees_mark Newline (Nothing x) F false stops v rest y h)
    (λ x. some_behind Newline (record { tokens = []; tree = x; spells = (refl, refl) })))

pub some_line : {A : Type 0} {R : Rel A} → Exists R → Exists (Line R)
some_line e = record { tokens = e.tokens ++ Symbol Newline ∷ []; tree = e.tree; spells = Line.line e.spells }
