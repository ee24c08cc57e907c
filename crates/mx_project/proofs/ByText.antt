-- Inputs that are sorted by the texts of their nodes.
use Rattle.std.proofs.Common.{◌≡◌, ℕ, zero, suc, ◌<◌, ◌≤◌, Bool, true, false, List, [], ◌∷◌, length, map, get_or, All, Ordering, Less, nat_cmp, is_lt, inl, inr, refl, sym, ◌∙◌, ap, subst, arith}
use Rattle.std.specs.Cmp.Lexicographic.{slice_cmp, nat_list_cmp_total}
use Rattle.std.specs.List.{AllByRecursion}
use Rattle.std.specs.List.Sorted.{IsPermutation, IsSortedBy}
use Rattle.std.proofs.lemmas.List.Elements.{recursion_from_All, All-from_recursion}
use Rattle.std.proofs.lemmas.List.Sorted.{ranks_by, sorted_far, IsPermutation-map, All-permutation}
use Rattle.mx_value.specs.declared.value.Value.{Value}
use Rattle.mx_value.specs.declared.node.Node.{Node}
use Rattle.mx_print.specs.Texts.{Text}
use Rattle.mx_print.specs.Values.{node_text}
use Rattle.mx_c3.specs.Lists.{Has}
use Rattle.mx_project.specs.Inputs.{row_of, input_in}
use Rattle.mx_project.specs.Writing.{AreByText, AreOrdered}
use Rattle.mx_project.specs.declared.inputs.InputRow.{InputRow}

abbrev Input : Type 0
Input = Node × Value

abbrev pub row_lt : InputRow → InputRow → Bool
row_lt x y = is_lt (slice_cmp nat_cmp x.text y.text)

abbrev IsNamed : InputRow → Type 0
IsNamed row = row.text ≡ node_text row.node

are_named : (inputs : List Input) → AllByRecursion IsNamed (map row_of inputs)
are_named [] = tt
are_named (i ∷ inputs) = (refl, are_named inputs)

unnamed : (inputs : List Input) → map input_in (map row_of inputs) ≡ inputs
unnamed [] = refl
unnamed (i ∷ inputs) = ap (λ (is : List Input). i ∷ is) (unnamed inputs)

not_less : (o : Ordering) → is_lt o ≡ false → o ≡ Less → ⊥
not_less o n e = let f : true ≡ false = sym (ap is_lt e) ∙ n in cc

-- none of these rows is less than this one
abbrev AreNotBelow : InputRow → List InputRow → Type 0
AreNotBelow x rows = (j : ℕ) (d : InputRow) → j < length rows → row_lt (get_or rows j d) x ≡ false

no_less : (x : InputRow) (rows : List InputRow) → AreNotBelow x rows → IsNamed x → AllByRecursion IsNamed rows → (y : Input) → Has (map input_in rows) y → slice_cmp nat_cmp (node_text y.0) (node_text x.node) ≡ Less → ⊥
no_less x [] far n all y has less = absurd has
no_less x (r ∷ rows) far n all y has less =
    elim has [
      | inl e ↦
          let m : row_lt r x ≡ false = far zero r (omega arith) in
          let t : r.text ≡ node_text y.0 = all.0 ∙ ap (λ (i : Input). node_text i.0) e in
          let u : is_lt (slice_cmp nat_cmp (node_text y.0) (node_text x.node)) ≡ false =
          ap (λ (z : Text). is_lt (slice_cmp nat_cmp z (node_text x.node))) (sym t) ∙ ap (λ (z : Text). is_lt (slice_cmp nat_cmp r.text z)) (sym n) ∙ m in
          not_less (slice_cmp nat_cmp (node_text y.0) (node_text x.node)) u less
      | inr h ↦ no_less x rows (λ j d l. far (suc j) d (omega (arith, l))) n all.1 y h less
    ]

-- no row is less than one that stands before it
abbrev IsFar : List InputRow → Type 0
IsFar rows = (i j : ℕ) (d : InputRow) → i ≤ j → j < length rows → row_lt (get_or rows j d) (get_or rows i d) ≡ false

order_by : (rows : List InputRow) → IsFar rows → AllByRecursion IsNamed rows → AreByText (map input_in rows)
order_by [] far all = tt
order_by (x ∷ rows) far all =
    (no_less x rows (λ j d l. far zero (suc j) d (omega arith) (omega (arith, l))) all.0 all.1, order_by rows (λ i j d l m. far (suc i) (suc j) d (omega (arith, l)) (omega (arith, m))) all.1)

pub sorted_inputs : (inputs : List Input) (rows sorted : List InputRow) → rows ≡ map row_of inputs → IsPermutation rows sorted → IsSortedBy row_lt sorted → AreOrdered inputs (map input_in sorted)
sorted_inputs inputs rows sorted is p up =
    let q : IsPermutation (map row_of inputs) sorted = subst (λ (rs : List InputRow). IsPermutation rs sorted) is p in
    let all : All IsNamed sorted = All-permutation IsNamed (map row_of inputs) sorted q (All-from_recursion IsNamed (map row_of inputs) (are_named inputs)) in
    record {
      same = subst (λ (is : List Input). IsPermutation is (map input_in sorted)) (unnamed inputs) (IsPermutation-map input_in (map row_of inputs) sorted q);
      by_text = order_by sorted (sorted_far row_lt (ranks_by nat_list_cmp_total (λ (r : InputRow). r.text)) sorted up) (recursion_from_All IsNamed sorted all);
    }
