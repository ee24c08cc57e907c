-- Laws of what is among a list.
use Rattle.std.proofs.Common.{suc, ◌≤◌, length, arith, Bool, true, false, ◌≡◌, List, [], ◌∷◌, ◌++◌, map, reverse, ◌⊎◌, inl, inr, refl, sym, ◌∙◌, ap, subst}
use Rattle.std.proofs.lemmas.List.{reverse-append, reverse-reverse, append-nil, append_assoc, map-append}
use Rattle.std.specs.Bool.{Decides}
use Rattle.mx_value.specs.declared.node.Node.{Node}
use Rattle.mx_value.specs.Equality.{node_eq}
use Rattle.mx_value.proofs.NodeSames.{node_decides}
use Rattle.mx_runs.specs.Lists.{Has, Distinct, Disjoint, FirstEach, Done, Again, First}

pub has_left : {X : Type 0} (xs ys : List X) (x : X) → Has xs x → Has (xs ++ ys) x
has_left [] ys x h = absurd h
has_left (z ∷ xs) ys x h = elim h [ inl e ↦ inl e | inr r ↦ inr (has_left xs ys x r) ]

pub has_right : {X : Type 0} (xs ys : List X) (x : X) → Has ys x → Has (xs ++ ys) x
has_right [] ys x h = h
has_right (z ∷ xs) ys x h = inr (has_right xs ys x h)

pub has_cases : {X : Type 0} (xs ys : List X) (x : X) → Has (xs ++ ys) x → Has xs x ⊎ Has ys x
has_cases [] ys x h = inr h
has_cases (z ∷ xs) ys x h =
    elim h [ inl e ↦ inl (inl e) | inr r ↦ elim (has_cases xs ys x r) [ inl a ↦ inl (inr a) | inr b ↦ inr b ] ]

pub has_push : {X : Type 0} (xs : List X) (x : X) → Has (xs ++ x ∷ []) x
has_push xs x = has_right xs (x ∷ []) x (inl refl)

pub has_push_cases : {X : Type 0} (xs : List X) (y x : X) → Has (xs ++ y ∷ []) x → Has xs x ⊎ (y ≡ x)
has_push_cases xs y x h =
    elim (has_cases xs (y ∷ []) x h) [ inl a ↦ inl a | inr b ↦ elim b [ inl e ↦ inr e | inr n ↦ absurd n ] ]

pub distinct_push : {X : Type 0} (xs : List X) (x : X) → Distinct xs → (Has xs x → ⊥) → Distinct (xs ++ x ∷ [])
distinct_push [] x d n = (λ h. h, tt)
distinct_push (y ∷ xs) x d n =
    (λ h. elim (has_push_cases xs x y h) [ inl a ↦ d.0 a | inr e ↦ n (inl (sym e)) ], distinct_push xs x d.1 (λ h. n (inr h)))

pub has_map : {X Y : Type 0} (f : X → Y) (xs : List X) (x : X) → Has xs x → Has (map f xs) (f x)
has_map f [] x h = absurd h
has_map f (z ∷ xs) x h = elim h [ inl e ↦ inl (ap f e) | inr r ↦ inr (has_map f xs x r) ]

pub record From {X Y : Type 0} (f : X → Y) (xs : List X) (y : Y) : Type 0 where
  pub item : X
  pub among : Has xs item
  pub is : f item ≡ y

pub has_map_from : {X Y : Type 0} (f : X → Y) (xs : List X) (y : Y) → Has (map f xs) y → From f xs y
has_map_from f [] y h = absurd h
has_map_from f (x ∷ xs) y h =
    elim h [
      | inl e ↦ record { item = x; among = inl refl; is = e }
      | inr r ↦ let g = has_map_from f xs y r in record { item = g.item; among = inr g.among; is = g.is }
    ]

-- the first, last one first, onto the second
abbrev pub onto : {X : Type 0} → List X → List X → List X
onto [] rest = rest
onto (x ∷ xs) rest = onto xs (x ∷ rest)

pub reverse_cons : {X : Type 0} (x : X) (xs : List X) → reverse (x ∷ xs) ≡ reverse xs ++ x ∷ []
reverse_cons x xs = reverse-append (x ∷ []) xs

pub onto_is : {X : Type 0} (xs rest : List X) → onto xs rest ≡ reverse xs ++ rest
onto_is [] rest = refl
onto_is (x ∷ xs) rest = onto_is xs (x ∷ rest) ∙ sym (ap (λ zs. zs ++ rest) (reverse_cons x xs) ∙ append_assoc (reverse xs) (x ∷ []) rest)

pub map_reverse : {X Y : Type 0} (f : X → Y) (xs : List X) → map f (reverse xs) ≡ reverse (map f xs)
map_reverse f [] = refl
map_reverse f (x ∷ xs) =
    ap (λ zs. map f zs) (reverse_cons x xs) ∙ map-append f (reverse xs) (x ∷ []) ∙ ap (λ zs. zs ++ f x ∷ []) (map_reverse f xs) ∙ sym (reverse_cons (f x) (map f xs))

pub onto_reversed : {X Y : Type 0} (f : X → Y) (xs : List X) → onto (map f (reverse xs)) [] ≡ map f xs
onto_reversed f xs = onto_is (map f (reverse xs)) [] ∙ append-nil (reverse (map f (reverse xs))) ∙ ap reverse (map_reverse f xs) ∙ reverse-reverse (map f xs)

pub distinct_onto : {X : Type 0} (xs rest : List X) → Distinct xs → Distinct rest → Disjoint xs rest → Distinct (onto xs rest)
distinct_onto [] rest d e f = e
distinct_onto (x ∷ xs) rest d e f =
    distinct_onto xs (x ∷ rest) d.1 (λ h. f x (inl refl) h, e)
    (λ z h k. elim k [ inl i ↦ d.0 (subst (λ y. Has xs y) (sym i) h) | inr r ↦ f z (inr h) r ])

pub disjoint_onto : {X : Type 0} (xs rest zs : List X) → Disjoint xs zs → Disjoint rest zs → Disjoint (onto xs rest) zs
disjoint_onto [] rest zs d e = e
disjoint_onto (x ∷ xs) rest zs d e =
    disjoint_onto xs (x ∷ rest) zs (λ z h. d z (inr h)) (λ z h k. elim h [ inl i ↦ d z (inl i) k | inr r ↦ e z r k ])

-- what is distinct as a whole is so from a place on, and nothing before it stands behind it
pub distinct_later : {X : Type 0} (xs ys : List X) → Distinct (xs ++ ys) → Distinct ys
distinct_later [] ys d = d
distinct_later (x ∷ xs) ys d = distinct_later xs ys d.1

pub distinct_apart : {X : Type 0} (xs ys : List X) → Distinct (xs ++ ys) → Disjoint xs ys
distinct_apart [] ys d = λ x h k. h
distinct_apart (y ∷ xs) ys d = λ x h k.
    elim h [
      | inl e ↦ d.0 (has_right xs ys y (subst (λ z. Has ys z) (sym e) k))
      | inr r ↦ distinct_apart xs ys d.1 x r k
    ]

-- what a test of equality tells: something is among a list, or it is not
module _ {X : Type 0} (eq : X → X → Bool) (told : (x y : X) → Decides (eq x y) (x ≡ y)) where
  among_by : (b : Bool) (x y : X) (ys : List X) → eq y x ≡ b → Has ys x ⊎ (Has ys x → ⊥) → Has (y ∷ ys) x ⊎ (Has (y ∷ ys) x → ⊥)
  among_by true x y ys q h = inl (inl ((told y x).0 q))
  among_by false x y ys q h =
      elim h [
        | inl i ↦ inl (inr i)
        | inr k ↦ inr (λ i. elim i [
          | inl e ↦ let t : eq y x ≡ true = (told y x).1 e in let c : true ≡ false = sym t ∙ q in absurd (cc)
          | inr r ↦ k r
        ])
      ]

  pub is_among : (x : X) (ys : List X) → Has ys x ⊎ (Has ys x → ⊥)
  is_among x [] = inr (λ z. z)
  is_among x (y ∷ ys) = among_by (eq y x) x y ys refl (is_among x ys)

  -- a list has its items each once
  pub each_of : (seen xs : List X) → (ys : List X) × FirstEach seen xs ys
  each_of seen [] = ([], Done)
  each_of seen (x ∷ xs) =
      elim (is_among x seen) [
        | inl h ↦ let q = each_of seen xs in (q.0, Again x h q.1)
        | inr n ↦ let q = each_of (x ∷ seen) xs in (x ∷ q.0, First x n q.1)
      ]

pub among_or_not : (n : Node) (ns : List Node) → Has ns n ⊎ (Has ns n → ⊥)
among_or_not n ns = is_among node_eq node_decides n ns

-- distinct nodes that are all in a list are no more than it has
remove_one : {X : Type 0} (ys : List X) (x : X) → Has ys x → (zs : List X) × (length ys ≡ suc (length zs)) × ((z : X) → Has ys z → (x ≡ z → ⊥) → Has zs z)
remove_one [] x h = absurd h
remove_one (y ∷ ys) x h =
    elim h [
      | inl e ↦ (ys, refl, λ z i n. elim i [ inl j ↦ absurd (n (sym e ∙ j)) | inr j ↦ j ])
      | inr r ↦
          let q = remove_one ys x r in
          (y ∷ q.0, ap suc q.1, λ z i n. elim i [ inl j ↦ inl j | inr j ↦ inr (q.2 z j n) ])
    ]

pub no_more : {X : Type 0} (xs ys : List X) → Distinct xs → ((x : X) → Has xs x → Has ys x) → length xs ≤ length ys
no_more [] ys d h = omega arith
no_more (x ∷ xs) ys d h =
    let q = remove_one ys x (h x (inl refl)) in
    let e : length ys ≡ suc (length q.0) = q.1 in
    let r : length xs ≤ length q.0 = no_more xs q.0 d.1 (λ z i. q.2 z (h z (inr i)) (λ j. d.0 (subst (λ y. Has xs y) (sym j) i))) in
    omega arith

pub distinct_front : {X : Type 0} (xs ys : List X) → Distinct (xs ++ ys) → Distinct xs
distinct_front [] ys d = tt
distinct_front (x ∷ xs) ys d = (λ h. d.0 (has_left xs ys x h), distinct_front xs ys d.1)

pub distinct_join : {X : Type 0} (xs ys : List X) → Distinct xs → Distinct ys → Disjoint xs ys → Distinct (xs ++ ys)
distinct_join [] ys d e f = e
distinct_join (x ∷ xs) ys d e f =
    (λ h. elim (has_cases xs ys x h) [ inl a ↦ d.0 a | inr b ↦ f x (inl refl) b ], distinct_join xs ys d.1 e (λ z h k. f z (inr h) k))

-- Laws of each once, in order of first occurrence.
pub each_is_among : {X : Type 0} (seen xs ys : List X) → FirstEach seen xs ys → (x : X) → Has ys x → Has xs x
each_is_among seen xs ys Done x h = h
each_is_among seen xs ys (Again y i f) x h = inr (each_is_among _ _ _ f x h)
each_is_among seen xs ys (First y i f) x h = elim h [ inl e ↦ inl e | inr r ↦ inr (each_is_among _ _ _ f x r) ]

pub each_has_all : {X : Type 0} (seen xs ys : List X) → FirstEach seen xs ys → (x : X) → Has xs x → Has seen x ⊎ Has ys x
each_has_all seen xs ys Done x h = inr h
each_has_all seen xs ys (Again y i f) x h = elim h [ inl e ↦ inl (subst (λ z. Has seen z) e i) | inr r ↦ each_has_all _ _ _ f x r ]
each_has_all seen xs ys (First y i f) x h =
    elim h [
      | inl e ↦ inr (inl e)
      | inr r ↦ elim (each_has_all _ _ _ f x r) [ inl a ↦ elim a [ inl e ↦ inr (inl e) | inr b ↦ inl b ] | inr c ↦ inr (inr c) ]
    ]

each_is_new : {X : Type 0} (seen xs ys : List X) → FirstEach seen xs ys → (x : X) → Has seen x → Has ys x → ⊥
each_is_new seen xs ys Done x i h = h
each_is_new seen xs ys (Again y j f) x i h = each_is_new _ _ _ f x i h
each_is_new seen xs ys (First y j f) x i h = elim h [ inl e ↦ j (subst (λ z. Has seen z) (sym e) i) | inr r ↦ each_is_new _ _ _ f x (inr i) r ]

pub each_is_once : {X : Type 0} (seen xs ys : List X) → FirstEach seen xs ys → Distinct ys
each_is_once seen xs ys Done = tt
each_is_once seen xs ys (Again y i f) = each_is_once _ _ _ f
each_is_once seen xs ys (First y i f) = (λ h. each_is_new _ _ _ f y (inl refl) h, each_is_once _ _ _ f)

pub each_is_one : {X : Type 0} (seen xs ys zs : List X) → FirstEach seen xs ys → FirstEach seen xs zs → ys ≡ zs
each_is_one seen xs ys zs Done Done = refl
each_is_one seen xs ys zs (Again y i f) (Again z j g) = each_is_one _ _ _ _ f g
each_is_one seen xs ys zs (Again y i f) (First z j g) = absurd (j i)
each_is_one seen xs ys zs (First y i f) (Again z j g) = absurd (i j)
each_is_one seen xs ys zs (First y i f) (First z j g) = ap (λ rest. y ∷ rest) (each_is_one _ _ _ _ f g)

-- one more: it was there, or it is new
pub each_again : {X : Type 0} (seen xs ys : List X) (x : X) → FirstEach seen xs ys → Has seen x ⊎ Has ys x → FirstEach seen (xs ++ x ∷ []) ys
each_again seen xs ys x Done h = elim h [ inl a ↦ Again x a Done | inr b ↦ absurd b ]
each_again seen xs ys x (Again y i f) h = Again y i (each_again _ _ _ x f h)
each_again seen xs ys x (First y i f) h =
    First y i (each_again _ _ _ x f (elim h [ inl a ↦ inl (inr a) | inr b ↦ elim b [ inl e ↦ inl (inl e) | inr c ↦ inr c ] ]))

pub each_new : {X : Type 0} (seen xs ys : List X) (x : X) → FirstEach seen xs ys → (Has seen x → ⊥) → (Has ys x → ⊥) → FirstEach seen (xs ++ x ∷ []) (ys ++ x ∷ [])
each_new seen xs ys x Done h k = First x h Done
each_new seen xs ys x (Again y i f) h k = Again y i (each_new _ _ _ x f h k)
each_new seen xs ys x (First y i f) h k = First y i (each_new _ _ _ x f (λ a. elim a [ inl e ↦ k (inl e) | inr b ↦ h b ]) (λ b. k (inr b)))
