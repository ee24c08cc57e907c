-- Steps of printing an expression.
use Rattle.std.proofs.Common.{◌≡◌, ℕ, zero, suc, ◌+◌, ◌<◌, List, [], ◌∷◌, ◌++◌, Option, None, Some, length, get_or, map, take, replicate, refl, sym, ap, ◌∙◌, append_assoc, append-nil, arith}
use Rattle.std.specs.Prelude.{codes}
use Rattle.mx_syntax.specs.declared.expr.Expr.{Expr}
use Rattle.mx_syntax.specs.declared.expr.Args.{Args, fold-roll-Args}
use Rattle.mx_syntax.specs.declared.expr.Args.TheVariants as made
use Rattle.mx_syntax.specs.declared.expr.Args.TheOpen.{Args-F}
use Rattle.mx_syntax.specs.Lists.{flat}
use Rattle.mx_print.specs.Texts.{Text, separated}
use Rattle.mx_print.specs.Expressions.{Piece, at, all_at, printed, args_text, generator_test_text, args_step, comparison_step, piece, trailer_step, arm_step, power_step, product_step, sum_step}
use Rattle.mx_print.proofs.TextLemmas.{separated_first, separated_more}

all_at_is : (l : ℕ) (xs : List Expr) → all_at l (map printed xs) ≡ map (λ (x : Expr). at l (printed x)) xs
all_at_is l [] = refl
all_at_is l (x ∷ xs) = ap (λ (ts : List Text). at l (printed x) ∷ ts) (all_at_is l xs)

pub all_first : (s out : Text) (l : ℕ) (xs : List Expr) (i : ℕ) (x : Expr) → i ≡ 0 → i < length xs → x ≡ get_or xs i x
    → (out ++ separated s (all_at l (map printed (take i xs)))) ++ at l (printed x) ≡ out ++ separated s (all_at l (map printed (take (i + 1) xs)))
all_first s out l xs i x none lt is =
    ap (λ (ts : List Text). (out ++ separated s ts) ++ at l (printed x)) (all_at_is l (take i xs))
    ∙ separated_first (λ (y : Expr). at l (printed y)) s out xs i x none lt is ∙ ap (λ (ts : List Text). out ++ separated s ts) (sym (all_at_is l (take (i + 1) xs)))

pub all_more : (s out : Text) (l : ℕ) (xs : List Expr) (i : ℕ) (x : Expr) → 0 < i → i < length xs → x ≡ get_or xs i x
    → ((out ++ separated s (all_at l (map printed (take i xs)))) ++ s) ++ at l (printed x) ≡ out ++ separated s (all_at l (map printed (take (i + 1) xs)))
all_more s out l xs i x some lt is =
    ap (λ (ts : List Text). ((out ++ separated s ts) ++ s) ++ at l (printed x)) (all_at_is l (take i xs))
    ∙ separated_more (λ (y : Expr). at l (printed y)) s out xs i x some lt is ∙ ap (λ (ts : List Text). out ++ separated s ts) (sym (all_at_is l (take (i + 1) xs)))

pub flat_again : (n : ℕ) (t : Text) → flat (replicate n t) ++ t ≡ t ++ flat (replicate n t)
flat_again zero t = sym (append-nil t)
flat_again (suc n) t = append_assoc t (flat (replicate n t)) t ∙ ap (λ (u : Text). t ++ u) (flat_again n t)

pub again_more : (out : Text) (n : ℕ) (t : Text) → (out ++ flat (replicate n t)) ++ t ≡ out ++ flat (replicate (n + 1) t)
again_more out n t = append_assoc out (flat (replicate n t)) t ∙ ap (λ (u : Text). out ++ u) (flat_again n t) ∙ (let e : n + 1 ≡ suc n = omega arith in rw e refl)

generator_is : (element : Expr) (name : List ℕ) (over : Expr) (test : Option Expr)
    → args_text (made.Gen element name over test) ≡ at 0 (printed element) ++ (codes " for " ++ (name ++ (codes " in " ++ (at 1 (printed over) ++ generator_test_text test))))
generator_is element name over None =
    ap args_text (sym (made.rolls-Gen element name over None)) ∙ fold-roll-Args Text Text Piece Text Text Text Text Text args_step comparison_step piece trailer_step arm_step power_step product_step sum_step (Args-F.Gen element name over None)
generator_is element name over (Some test) =
    ap args_text (sym (made.rolls-Gen element name over (Some test))) ∙ fold-roll-Args Text Text Piece Text Text Text Text Text args_step comparison_step piece trailer_step arm_step power_step product_step sum_step (Args-F.Gen element name over (Some test))

-- a generator's text, from the texts of its parts
pub generator_whole : (args : Args) (element : Expr) (name : List ℕ) (over : Expr) (test : Option Expr) (out a b c d e : Text) → args ≡ made.Gen element name over test
    → a ≡ out ++ at 0 (printed element) → b ≡ a ++ codes " for " → c ≡ b ++ name → d ≡ c ++ codes " in " → e ≡ d ++ at 1 (printed over) → e ++ generator_test_text test ≡ out ++ args_text args
generator_whole args element name over test out a b c d e is p q r s t =
    let whole = generator_is element name over test in
    rw (t, s, r, q, p, is, whole) (simp append_assoc)
