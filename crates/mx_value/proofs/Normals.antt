-- What `normal_of` gives, variant by variant.
use Rattle.std.proofs.Common.{◌≡◌, ℤ, List, [], ◌∷◌, map, refl, sym, ◌∙◌, ap, subst}
use Rattle.mx_value.specs.Normal.{normal_of, number_of}
use Rattle.mx_value.specs.declared.value.Value.{Value}
use Rattle.mx_value.specs.declared.value.Value.TheVariants as made
use Rattle.mx_value.specs.declared.value.Segment.{Segment}
use Rattle.mx_value.specs.declared.value.CellsAt.{CellsAt}
use Rattle.mx_value.specs.declared.value.Segment.TheOpen.{Value-F}
use Rattle.mx_value.specs.declared.value.Segment.TheFolds.{para-roll-Value}
use Rattle.mx_value.specs.declared.value.Segment.TheViews.{roll-Value, out-Value, roll-out-Value}

firsts : {X Y : Type 0} (f : X → Y) (xs : List X) → map (λ (p : X × Y). p.0) (map (λ x. (x, f x)) xs) ≡ xs
firsts f [] = refl
firsts f (x ∷ xs) = ap (λ rest. x ∷ rest) (firsts f xs)

seconds : {X Y : Type 0} (f : X → Y) (xs : List X) → map (λ (p : X × Y). p.1) (map (λ x. (x, f x)) xs) ≡ map f xs
seconds f [] = refl
seconds f (x ∷ xs) = ap (λ rest. f x ∷ rest) (seconds f xs)

pub normal-Fix : (x : ℤ) → normal_of (made.Fix x) ≡ number_of x
normal-Fix x = ap normal_of (sym (made.rolls-Fix x)) ∙ para-roll-Value _ _ _ _ _ _ (Value-F.Fix x)

pub normal-Tup : (items : List Value) → normal_of (made.Tup items) ≡ made.Tup (map normal_of items)
normal-Tup items = ap normal_of (sym (made.rolls-Tup items)) ∙ para-roll-Value _ _ _ _ _ _ (Value-F.Tup items) ∙ ap made.Tup (seconds normal_of items)

others_at : (l : Value-F Segment Value CellsAt) → ((x : ℤ) → roll-Value l ≡ made.Fix x → ⊥) → ((items : List Value) → roll-Value l ≡ made.Tup items → ⊥) → normal_of (roll-Value l) ≡ roll-Value l
others_at Value-F.Nothing f t = para-roll-Value _ _ _ _ _ _ Value-F.Nothing ∙ sym made.rolls-Nothing
others_at (Value-F.Flag b) f t = para-roll-Value _ _ _ _ _ _ (Value-F.Flag b) ∙ sym (made.rolls-Flag b)
others_at (Value-F.Int n) f t = para-roll-Value _ _ _ _ _ _ (Value-F.Int n) ∙ sym (made.rolls-Int n)
others_at (Value-F.Fix x) f t = absurd (f x (made.rolls-Fix x))
others_at (Value-F.Text b) f t = para-roll-Value _ _ _ _ _ _ (Value-F.Text b) ∙ sym (made.rolls-Text b)
others_at (Value-F.Tup items) f t = absurd (t items (made.rolls-Tup items))
others_at (Value-F.Space segments) f t = para-roll-Value _ _ _ _ _ _ (Value-F.Space segments) ∙ ap made.Space (firsts _ segments) ∙ sym (made.rolls-Space segments)
others_at (Value-F.Cells at) f t = para-roll-Value _ _ _ _ _ _ (Value-F.Cells at) ∙ sym (made.rolls-Cells at)
others_at (Value-F.Table b) f t = para-roll-Value _ _ _ _ _ _ (Value-F.Table b) ∙ sym (made.rolls-Table b)

pub normal-others : (v : Value) → ((x : ℤ) → v ≡ made.Fix x → ⊥) → ((items : List Value) → v ≡ made.Tup items → ⊥) → normal_of v ≡ v
normal-others v f t =
    let is : roll-Value (out-Value v) ≡ v = roll-out-Value v in
    let here = others_at (out-Value v) (λ x e. f x (sym is ∙ e)) (λ items e. t items (sym is ∙ e)) in
    subst (λ (u : Value). normal_of u ≡ u) is here
