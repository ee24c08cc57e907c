-- How values stand to each other, variant by variant.
use Rattle.std.proofs.Common.{◌≡◌, ℕ, zero, suc, ◌+◌, ◌<◌, ◌≤◌, length, arith, List, [], ◌∷◌, map, drop, Some, refl, sym, ◌∙◌, ap, subst}
use Rattle.std.proofs.lemmas.List.{drop_all}
use Rattle.std.specs.declared.cmp.Ordering.TheVariants.{Less, Equal, Greater}
use Rattle.mx_value.specs.declared.value.Value.{Value}
use Rattle.mx_value.specs.declared.value.Value.TheVariants as made
use Rattle.mx_value.specs.declared.value.Segment.{Segment}
use Rattle.mx_value.specs.declared.value.CellsAt.{CellsAt}
use Rattle.mx_value.specs.declared.value.Segment.TheOpen.{Value-F}
use Rattle.mx_value.specs.declared.value.Segment.TheFolds.{para-roll-Value}
use Rattle.mx_value.specs.declared.value.Segment.TheViews.{roll-Value, out-Value, roll-out-Value}
use Rattle.mx_ops.specs.Kinds.{items_of}
use Rattle.mx_ops.specs.Order.{Standing, order, plain_order, tuple_order, in_turn, unless_equal}

firsts : {X Y : Type 0} (f : X → Y) (xs : List X) → map (λ (p : X × Y). p.0) (map (λ x. (x, f x)) xs) ≡ xs
firsts f [] = refl
firsts f (x ∷ xs) = ap (λ rest. x ∷ rest) (firsts f xs)

seconds : {X Y : Type 0} (f : X → Y) (xs : List X) → map (λ (p : X × Y). p.1) (map (λ x. (x, f x)) xs) ≡ map f xs
seconds f [] = refl
seconds f (x ∷ xs) = ap (λ rest. f x ∷ rest) (seconds f xs)

pub order-Tup : (items : List Value) (b : Value) → order (made.Tup items) b ≡ tuple_order (map order items) (items_of b)
order-Tup items b =
    ap (λ v. order v b) (sym (made.rolls-Tup items)) ∙ ap (λ (f : Value → Standing). f b) (para-roll-Value _ _ _ _ _ _ (Value-F.Tup items))
    ∙ ap (λ fs. tuple_order fs (items_of b)) (seconds order items)

others_at : (l : Value-F Segment Value CellsAt) → ((items : List Value) → roll-Value l ≡ made.Tup items → ⊥) → order (roll-Value l) ≡ plain_order (roll-Value l)
others_at Value-F.Nothing t = para-roll-Value _ _ _ _ _ _ Value-F.Nothing ∙ ap plain_order (sym made.rolls-Nothing)
others_at (Value-F.Flag b) t = para-roll-Value _ _ _ _ _ _ (Value-F.Flag b) ∙ ap plain_order (sym (made.rolls-Flag b))
others_at (Value-F.Int n) t = para-roll-Value _ _ _ _ _ _ (Value-F.Int n) ∙ ap plain_order (sym (made.rolls-Int n))
others_at (Value-F.Fix x) t = para-roll-Value _ _ _ _ _ _ (Value-F.Fix x) ∙ ap plain_order (sym (made.rolls-Fix x))
others_at (Value-F.Text b) t = para-roll-Value _ _ _ _ _ _ (Value-F.Text b) ∙ ap plain_order (sym (made.rolls-Text b))
others_at (Value-F.Tup items) t = absurd (t items (made.rolls-Tup items))
others_at (Value-F.Space segments) t =
    para-roll-Value _ _ _ _ _ _ (Value-F.Space segments) ∙ ap (λ s. plain_order (made.Space s)) (firsts _ segments) ∙ ap plain_order (sym (made.rolls-Space segments))
others_at (Value-F.Cells at) t = para-roll-Value _ _ _ _ _ _ (Value-F.Cells at) ∙ ap plain_order (sym (made.rolls-Cells at))
others_at (Value-F.Table b) t = para-roll-Value _ _ _ _ _ _ (Value-F.Table b) ∙ ap plain_order (sym (made.rolls-Table b))

pub order-others : (v : Value) → ((items : List Value) → v ≡ made.Tup items → ⊥) → order v ≡ plain_order v
order-others v t =
    let is : roll-Value (out-Value v) ≡ v = roll-out-Value v in
    let here = others_at (out-Value v) (λ items e. t items (sym is ∙ e)) in
    subst (λ (u : Value). order u ≡ plain_order u) is here

pub one_turn : (xs ys : List Value) (i : ℕ) (x y : Value) → drop i xs ≡ x ∷ drop (i + 1) xs → drop i ys ≡ y ∷ drop (i + 1) ys → in_turn (map order (drop i xs)) (drop i ys) ≡ unless_equal (order x y) (in_turn (map order (drop (i + 1) xs)) (drop (i + 1) ys))
one_turn xs ys i x y e f = rw (e, f) refl

greater : (xs : List Value) (i : ℕ) → i < length xs → in_turn (map order (drop i xs)) [] ≡ Some Greater
greater [] i h = absurd (omega arith)
greater (x ∷ xs) zero h = refl
greater (x ∷ xs) (suc i) h = greater xs i (omega arith)

less : (ys : List Value) (i : ℕ) → i < length ys → in_turn [] (drop i ys) ≡ Some Less
less [] i h = absurd (omega arith)
less (y ∷ ys) zero h = refl
less (y ∷ ys) (suc i) h = less ys i (omega arith)

pub none_left : (xs ys : List Value) (i : ℕ) → i < length xs → length ys ≤ i → in_turn (map order (drop i xs)) (drop i ys) ≡ Some Greater
none_left xs ys i h k = rw (drop_all i ys k) (greater xs i h)

pub some_left : (xs ys : List Value) (i : ℕ) → length xs ≤ i → i < length ys → in_turn (map order (drop i xs)) (drop i ys) ≡ Some Less
some_left xs ys i h k = rw (drop_all i xs h) (less ys i k)

pub both_end : (xs ys : List Value) (i : ℕ) → length xs ≤ i → length ys ≤ i → in_turn (map order (drop i xs)) (drop i ys) ≡ Some Equal
both_end xs ys i h k = rw (drop_all i xs h, drop_all i ys k) refl
