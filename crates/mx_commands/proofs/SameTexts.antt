-- Two lists of the same nodes, each once, in order of their texts, have the same texts.
use Rattle.std.proofs.Common.{◌≡◌, ◌≢◌, List, [], ◌∷◌, ◌++◌, map, inl, inr, refl, sym, ap, ◌∙◌, subst}
use Rattle.std.proofs.lemmas.List.{map-append}
use Rattle.std.specs.Ordering.{ordering_reverse}
use Rattle.std.specs.declared.cmp.Ordering.{Ordering}
use Rattle.std.specs.declared.cmp.Ordering.TheVariants.{Less, Equal, Greater}
use Rattle.std.specs.Cmp.Lexicographic.{nat_list_cmp_total}
use Rattle.mx_value.specs.declared.node.Node.{Node}
use Rattle.mx_print.specs.Texts.{Text}
use Rattle.mx_print.specs.Values.{node_text}
use Rattle.mx_paths.proofs.PathOrder.{bytes_cmp, name_same}
use Rattle.mx_runs.specs.Lists.{Has, Distinct}
use Rattle.mx_runs.proofs.Lists.{has_left, has_right, has_cases}
use Rattle.mx_engine.specs.ByText.{AreByText}

same_by : (a b : Text) (o : Ordering) → bytes_cmp a b ≡ o → bytes_cmp a b ≢ Less → bytes_cmp b a ≢ Less → a ≡ b
same_by a b Less i n m = absurd (n i)
same_by a b Equal i n m = name_same a b i
same_by a b Greater i n m = absurd (m (nat_list_cmp_total.antisymm b a ∙ ap ordering_reverse i))

record Split (ns : List Node) (n : Node) : Type 0 where
  pub front : List Node
  pub back : List Node
  pub is : ns ≡ front ++ n ∷ back

split : (ns : List Node) (n : Node) → Has ns n → Split ns n
split [] n h = absurd h
split (m ∷ ns) n h =
    elim h [
      | inl i ↦ record { front = []; back = ns; is = ap (λ z. z ∷ ns) i }
      | inr k ↦ let s = split ns n k in record { front = m ∷ s.front; back = s.back; is = ap (λ zs. m ∷ zs) s.is }
    ]

-- with a node more in the middle
among_more : (front back : List Node) (n z : Node) → Has (front ++ back) z → Has (front ++ n ∷ back) z
among_more front back n z h =
    elim (has_cases front back z h) [ inl i ↦ has_left front (n ∷ back) z i | inr k ↦ has_right front (n ∷ back) z (inr k) ]

among_less : (front back : List Node) (n z : Node) → Has (front ++ n ∷ back) z → (n ≡ z → ⊥) → Has (front ++ back) z
among_less front back n z h other =
    elim (has_cases front (n ∷ back) z h) [
      | inl i ↦ has_left front back z i
      | inr k ↦ elim k [ inl i ↦ absurd (other i) | inr l ↦ has_right front back z l ]
    ]

not_again : (front back : List Node) (n : Node) → Distinct (front ++ n ∷ back) → Has (front ++ back) n → ⊥
not_again [] back n d h = d.0 h
not_again (m ∷ front) back n d h =
    elim h [
      | inl i ↦ d.0 (subst (λ z. Has (front ++ n ∷ back) z) (sym i) (has_right front (n ∷ back) n (inl refl)))
      | inr k ↦ not_again front back n d.1 k
    ]

distinct_less : (front back : List Node) (n : Node) → Distinct (front ++ n ∷ back) → Distinct (front ++ back)
distinct_less [] back n d = d.1
distinct_less (m ∷ front) back n d = (λ h. d.0 (among_more front back n m h), distinct_less front back n d.1)

ordered_less : (front back : List Node) (n : Node) → AreByText (front ++ n ∷ back) → AreByText (front ++ back)
ordered_less [] back n a = a.1
ordered_less (m ∷ front) back n a = (λ z h less. a.0 z (among_more front back n z h) less, ordered_less front back n a.1)

front_least : (front back : List Node) (n : Node) → AreByText (front ++ n ∷ back) → (m : Node) → Has front m → bytes_cmp (node_text n) (node_text m) ≢ Less
front_least [] back n a m h = absurd h
front_least (z ∷ front) back n a m h =
    elim h [
      | inl i ↦ subst (λ w. bytes_cmp (node_text n) (node_text w) ≢ Less) i (a.0 n (has_right front (n ∷ back) n (inl refl)))
      | inr k ↦ front_least front back n a.1 m k
    ]

-- texts that are the same change places
moved : (front : List Node) (text : Text) (ts : List Text) → ((m : Node) → Has front m → node_text m ≡ text) → map node_text front ++ text ∷ ts ≡ text ∷ (map node_text front ++ ts)
moved [] text ts h = refl
moved (m ∷ front) text ts h =
    let i : node_text m ≡ text = h m (inl refl) in
    let us : List Text = map node_text front ++ ts in
    ap (λ (vs : List Text). node_text m ∷ vs) (moved front text ts (λ z k. h z (inr k))) ∙ ap (λ (u : Text). u ∷ text ∷ us) i ∙ ap (λ (u : Text). text ∷ u ∷ us) (sym i)

in_front : (n : Node) (ns front back : List Node) → AreByText (n ∷ ns) → AreByText (front ++ n ∷ back) → ((m : Node) → Has (front ++ n ∷ back) m → Has (n ∷ ns) m) → (m : Node) → Has front m → node_text m ≡ node_text n
in_front n ns front back a b from m h =
    elim (from m (has_left front (n ∷ back) m h)) [
      | inl i ↦ ap node_text (sym i)
      | inr k ↦ same_by (node_text m) (node_text n) (bytes_cmp (node_text m) (node_text n)) refl (a.0 m k) (front_least front back n b m h)
    ]

pub same_texts : (ns ms : List Node) → Distinct ns → Distinct ms → AreByText ns → AreByText ms → ((x : Node) → Has ns x → Has ms x) → ((x : Node) → Has ms x → Has ns x) → map node_text ns ≡ map node_text ms
same_texts [] [] d e a b to from = refl
same_texts [] (m ∷ ms) d e a b to from = absurd (from m (inl refl))
same_texts (n ∷ ns) ms d e a b to from =
    let s = split ms n (to n (inl refl)) in
    let front : List Node = s.front in
    let back : List Node = s.back in
    let e' : Distinct (front ++ n ∷ back) = subst (λ (zs : List Node). Distinct zs) s.is e in
    let b' : AreByText (front ++ n ∷ back) = subst (λ (zs : List Node). AreByText zs) s.is b in
    let there : (z : Node) → Has (front ++ n ∷ back) z → Has (n ∷ ns) z = λ z h. from z (subst (λ (zs : List Node). Has zs z) (sym s.is) h) in
    let to' : (z : Node) → Has ns z → Has (front ++ back) z = λ z h. among_less front back n z (subst (λ (zs : List Node). Has zs z) s.is (to z (inr h))) (λ i. d.0 (subst (λ (w : Node). Has ns w) (sym i) h)) in
    let from' : (z : Node) → Has (front ++ back) z → Has ns z = λ z h. elim (there z (among_more front back n z h)) [
      | inl i ↦ absurd (not_again front back n e' (subst (λ (w : Node). Has (front ++ back) w) (sym i) h))
      | inr k ↦ k
    ] in
    let rest : map node_text ns ≡ map node_text (front ++ back) = same_texts ns (front ++ back) d.1 (distinct_less front back n e') a.1 (ordered_less front back n b') to' from' in
    let all : map node_text (front ++ n ∷ back) ≡ node_text n ∷ (map node_text front ++ map node_text back) = map-append node_text front (n ∷ back) ∙ moved front (node_text n) (map node_text back) (in_front n ns front back a b' there) in
    ap (λ (ts : List Text). node_text n ∷ ts) (rest ∙ map-append node_text front back) ∙ sym all ∙ ap (λ (zs : List Node). map node_text zs) (sym s.is)
