-- Nodes that are sorted by their texts.
use Rattle.std.proofs.Common.{◌≡◌, ℕ, zero, suc, ◌<◌, ◌≤◌, Bool, true, false, List, [], ◌∷◌, length, map, get_or, slice_index_or, All, Contains, Ordering, Less, nat_cmp, is_lt, inl, inr, refl, sym, ◌∙◌, ap, subst, arith}
use Rattle.std.specs.Bool.{one_answer}
use Rattle.std.specs.Cmp.Lexicographic.{slice_cmp, nat_list_cmp_total}
use Rattle.std.specs.List.{IsDistinct, AllByRecursion}
use Rattle.std.specs.List.Sorted.{IsPermutation, IsSortedBy}
use Rattle.std.proofs.lemmas.List.Elements.{recursion_from_All, All-from_recursion}
use Rattle.std.proofs.lemmas.List.Sorted.{ranks_by, sorted_far, IsPermutation-map, All-permutation, Contains-permutation}
use Rattle.std.proofs.lemmas.Map.Keys.{IsDistinct-IsPermutation}
use Rattle.mx_value.specs.Equality.{node_eq}
use Rattle.mx_value.specs.declared.node.Node.{Node}
use Rattle.mx_value.proofs.NodeSames.{node_decides}
use Rattle.mx_print.specs.Texts.{Text}
use Rattle.mx_print.specs.Values.{node_text}
use Rattle.mx_runs.specs.Lists.{Has, Distinct}
use Rattle.mx_runs.proofs.Lists.{From, has_map_from}
use Rattle.mx_engine.specs.declared.gathering.Row.{Row}
use Rattle.mx_engine.specs.Gathering.{row_of}
use Rattle.mx_engine.specs.ByText.{AreByText}

-- ---- membership and distinctness of lists in another order

to_contains : (xs : List Node) (x : Node) → Has xs x → Contains xs x
to_contains [] x h = absurd h
to_contains (y ∷ ys) x h =
    elim h [
      | inl e ↦ (0, omega arith, e)
      | inr r ↦ let c = to_contains ys x r in let l : c.0 < length ys = c.1 in (suc c.0, omega (arith, l), c.2)
    ]

has_at : (xs : List Node) (k : ℕ) (x : Node) → k < length xs → slice_index_or xs k x ≡ x → Has xs x
has_at [] k x l e = absurd (omega (arith, l))
has_at (y ∷ ys) zero x l e = inl e
has_at (y ∷ ys) (suc k) x l e = inr (has_at ys k x (omega (arith, l)) e)

pub has_permuted : (xs ys : List Node) → IsPermutation xs ys → (x : Node) → Has xs x → Has ys x
has_permuted xs ys p x h = let c = Contains-permutation xs ys x p (to_contains xs x h) in has_at ys c.0 x c.1 c.2

other_by : (x y : Node) (b : Bool) → node_eq x y ≡ b → (x ≡ y → ⊥) → b ≡ false
other_by x y true e n = absurd (n ((node_decides x y).0 e))
other_by x y false e n = refl

apart : (x : Node) (xs : List Node) → (Has xs x → ⊥) → AllByRecursion (λ y. node_eq x y ≡ false) xs
apart x [] n = tt
apart x (y ∷ ys) n = (other_by x y (node_eq x y) refl (λ e. n (inl (sym e))), apart x ys (λ h. n (inr h)))

to_distinct : (xs : List Node) → Distinct xs → IsDistinct node_eq xs
unfolding IsDistinct
to_distinct [] d = tt
to_distinct (x ∷ xs) d = (apart x xs d.0, to_distinct xs d.1)

not_among : (x : Node) (xs : List Node) → AllByRecursion (λ y. node_eq x y ≡ false) xs → Has xs x → ⊥
not_among x [] a h = absurd h
not_among x (y ∷ ys) a h =
    elim h [ inl e ↦ absurd (let f : true ≡ false = sym ((node_decides x y).1 (sym e)) ∙ a.0 in cc) | inr r ↦ not_among x ys a.1 r ]

from_distinct : (xs : List Node) → IsDistinct node_eq xs → Distinct xs
unfolding IsDistinct
from_distinct [] d = tt
from_distinct (x ∷ xs) d = (not_among x xs d.0, from_distinct xs d.1)

flips : (x y : Node) → node_eq x y ≡ node_eq y x
flips x y = one_answer (node_eq x y) (node_eq y x) (node_decides x y) (λ t. sym ((node_decides y x).0 t), λ e. (node_decides y x).1 (sym e))

pub distinct_permuted : (xs ys : List Node) → IsPermutation xs ys → Distinct xs → Distinct ys
distinct_permuted xs ys p d = from_distinct ys (IsDistinct-IsPermutation node_eq flips xs ys p (to_distinct xs d))

-- ---- rows

abbrev pub row_lt : Row → Row → Bool
row_lt x y = is_lt (slice_cmp nat_cmp x.text y.text)

abbrev pub node_in : Row → Node
node_in row = row.node

abbrev IsNamed : Row → Type 0
IsNamed row = row.text ≡ node_text row.node

are_named : (nodes : List Node) → AllByRecursion IsNamed (map row_of nodes)
are_named [] = tt
are_named (n ∷ nodes) = (refl, are_named nodes)

unnamed : (nodes : List Node) → map node_in (map row_of nodes) ≡ nodes
unnamed [] = refl
unnamed (n ∷ nodes) = ap (λ (ns : List Node). n ∷ ns) (unnamed nodes)

named_row : (rows : List Row) → AllByRecursion IsNamed rows → (row : Row) → Has rows row → IsNamed row
named_row [] a row h = absurd h
named_row (r ∷ rows) a row h = elim h [ inl e ↦ subst IsNamed e a.0 | inr t ↦ named_row rows a.1 row t ]

record At (rows : List Row) (row : Row) : Type 0 where
  place : ℕ
  below : place < length rows
  is : (d : Row) → get_or rows place d ≡ row

row_at : (rows : List Row) (row : Row) → Has rows row → At rows row
row_at [] row h = absurd h
row_at (r ∷ rows) row h =
    elim h [
      | inl e ↦ record { place = 0; below = omega arith; is = λ d. e }
      | inr t ↦ let a = row_at rows row t in record { place = suc a.place; below = let l : a.place < length rows = a.below in omega (arith, l); is = a.is }
    ]

-- no row is less than one that stands before it
abbrev IsFar : List Row → Type 0
IsFar rows = (i j : ℕ) (d : Row) → i ≤ j → j < length rows → row_lt (get_or rows j d) (get_or rows i d) ≡ false

not_less : (o : Ordering) → is_lt o ≡ false → o ≡ Less → ⊥
not_less o n e = let f : true ≡ false = sym (ap is_lt e) ∙ n in cc

order_by : (rows : List Row) → IsFar rows → AllByRecursion IsNamed rows → AreByText (map node_in rows)
order_by [] far all = tt
order_by (x ∷ rows) far all =
    (λ y h less. first y (has_map_from node_in rows y h) less, order_by rows (λ i j d l m. far (suc i) (suc j) d (omega (arith, l)) (omega (arith, m))) all.1)
  where
    first : (y : Node) → From node_in rows y → slice_cmp nat_cmp (node_text y) (node_text x.node) ≡ Less → ⊥
    first y f less =
        let a = row_at rows f.item f.among in
        let l : a.place < length rows = a.below in
        let n : row_lt (get_or rows a.place x) x ≡ false = far zero (suc a.place) x (omega arith) (omega (arith, l)) in
        let m : row_lt f.item x ≡ false = subst (λ (r : Row). row_lt r x ≡ false) (a.is x) n in
        let t : f.item.text ≡ node_text y = named_row rows all.1 f.item f.among ∙ ap node_text f.is in
        let u : is_lt (slice_cmp nat_cmp (node_text y) (node_text x.node)) ≡ false =
        ap (λ (z : Text). is_lt (slice_cmp nat_cmp z (node_text x.node))) (sym t) ∙ ap (λ (z : Text). is_lt (slice_cmp nat_cmp f.item.text z)) (sym all.0) ∙ m in
        not_less (slice_cmp nat_cmp (node_text y) (node_text x.node)) u less

pub sorted_nodes : (nodes : List Node) (rows sorted : List Row) → rows ≡ map row_of nodes → IsPermutation rows sorted → IsSortedBy row_lt sorted → IsPermutation nodes (map node_in sorted) × AreByText (map node_in sorted)
sorted_nodes nodes rows sorted is p up =
    let q : IsPermutation (map row_of nodes) sorted = subst (λ (rs : List Row). IsPermutation rs sorted) is p in
    let all : All IsNamed sorted = All-permutation IsNamed (map row_of nodes) sorted q (All-from_recursion IsNamed (map row_of nodes) (are_named nodes)) in (
      subst (λ (ns : List Node). IsPermutation ns (map node_in sorted)) (unnamed nodes) (IsPermutation-map node_in (map row_of nodes) sorted q),
      order_by sorted (sorted_far row_lt (ranks_by nat_list_cmp_total (λ (r : Row). r.text)) sorted up) (recursion_from_All IsNamed sorted all),
    )
