-- One last ask, one ring.
use Rattle.std.proofs.Common.{◌≡◌, List, [], ◌∷◌, ◌++◌, inl, inr, refl, sym, ◌∙◌, ap, subst}
use Rattle.std.proofs.lemmas.List.{append-nil, append_assoc}
use Rattle.mx_value.specs.declared.node.Node.{Node}
use Rattle.mx_runs.specs.Lists.{Has, Distinct}
use Rattle.mx_runs.specs.Runs.{Model, Gives, Asks}
use Rattle.mx_runs.specs.Chains.{MeansNothing, DoesAsk, LastAsk, StuckChain, first_or}
use Rattle.mx_runs.specs.Laws.{OneLastAsk, OneRing, RingIsLost}
use Rattle.mx_runs.proofs.Lists.{has_right}
use Rattle.mx_runs.proofs.Runs.{Before, Now, After, ask_case}
use Rattle.mx_runs.proofs.Events.{asked_has_value}
use Rattle.mx_runs.proofs.Meanings.{waiting_lost}

pub distinct_mid : (ns ms : List Node) (n : Node) → Distinct (ns ++ n ∷ ms) → Has ns n → ⊥
distinct_mid [] ms n d h = h
distinct_mid (x ∷ ns) ms n d h =
    elim h [ inl e ↦ d.0 (subst (λ y. Has (ns ++ n ∷ ms) y) (sym e) (has_right ns (n ∷ ms) n (inl refl))) | inr r ↦ distinct_mid ns ms n d.1 r ]

pub one_last_ask : OneLastAsk
one_last_ask model n m k a b =
    let x : DoesAsk model n m = a.asks in
    let y : DoesAsk model n k = b.asks in
    elim (ask_case model (model.body n) m k x.go y.go x.events y.events x.leads y.leads) [
      | Before h ↦ absurd (let v = asked_has_value model n (Asks k y.go) y.events y.leads m h in a.lost (Gives v.reply) v.means)
      | Now e i ↦ i
      | After h v ↦ absurd (b.lost (Gives v.reply) v.means)
    ]

stuck_same : (model : Model) (seen xs ys : List Node) (a b : Node) → StuckChain model xs a → StuckChain model ys b → first_or a xs ≡ first_or b ys → Has (seen ++ xs) a → Has (seen ++ ys) b → Distinct (seen ++ xs) → Distinct (seen ++ ys) → (xs ≡ ys) × (a ≡ b)
stuck_same model seen [] [] a b s t e h i d f = (refl, e)
stuck_same model seen [] (y ∷ ys) a b s t e h i d f = absurd (distinct_mid seen ys y f (subst (λ z. Has seen z) e (subst (λ zs. Has zs a) (append-nil seen) h)))
stuck_same model seen (x ∷ xs) [] a b s t e h i d f = absurd (distinct_mid seen xs x d (subst (λ z. Has seen z) (sym e) (subst (λ zs. Has zs b) (append-nil seen) i)))
stuck_same model seen (x ∷ xs) (y ∷ ys) a b s t e h i d f =
    let p : (seen ++ x ∷ []) ++ xs ≡ seen ++ x ∷ xs = append_assoc seen (x ∷ []) xs in
    let q : (seen ++ x ∷ []) ++ ys ≡ seen ++ y ∷ ys = append_assoc seen (x ∷ []) ys ∙ ap (λ z. seen ++ z ∷ ys) e in
    let n : first_or a xs ≡ first_or b ys = one_last_ask model y (first_or a xs) (first_or b ys) (subst (λ z. LastAsk model z (first_or a xs)) e s.0) t.0 in
    let r = stuck_same model (seen ++ x ∷ []) xs ys a b s.1 t.1 n (subst (λ zs. Has zs a) (sym p) h) (subst (λ zs. Has zs b) (sym q) i) (subst (λ zs. Distinct zs) (sym p) d) (subst (λ zs. Distinct zs) (sym q) f) in
    (ap (λ z. z ∷ xs) e ∙ ap (λ zs. y ∷ zs) r.0, r.1)

same_rest : (a : Node) (xs ys p q : List Node) → xs ++ a ∷ p ≡ ys ++ a ∷ q → Distinct (xs ++ a ∷ p) → p ≡ q
same_rest a [] [] p q e d = cc
same_rest a [] (y ∷ ys) p q e d =
    let h : a ≡ y = cc in
    let i : p ≡ ys ++ a ∷ q = cc in
    absurd (d.0 (subst (λ zs. Has zs a) (sym i) (has_right ys (a ∷ q) a (inl refl))))
same_rest a (x ∷ xs) [] p q e d =
    let h : x ≡ a = cc in
    absurd (d.0 (subst (λ z. Has (xs ++ a ∷ p) z) (sym h) (has_right xs (a ∷ p) a (inl refl))))
same_rest a (x ∷ xs) (y ∷ ys) p q e d = same_rest a xs ys p q (let i : xs ++ a ∷ p ≡ ys ++ a ∷ q = cc in i) d.1

first_of : (m : Node) (ns rest : List Node) (z : Node) → first_or z (ns ++ m ∷ rest) ≡ first_or m ns
first_of m [] rest z = refl
first_of m (n ∷ ns) rest z = refl

pub one_ring : OneRing
one_ring model n xs ys x y =
    let e : first_or x.again (x.lead ++ x.again ∷ x.rest) ≡ first_or y.again (y.lead ++ y.again ∷ y.rest) = first_of x.again x.lead x.rest x.again ∙ x.begins ∙ sym (first_of y.again y.lead y.rest y.again ∙ y.begins) in
    let s = stuck_same model [] (x.lead ++ x.again ∷ x.rest) (y.lead ++ y.again ∷ y.rest) x.again y.again x.stuck y.stuck e
    (has_right x.lead (x.again ∷ x.rest) x.again (inl refl)) (has_right y.lead (y.again ∷ y.rest) y.again (inl refl)) x.distinct y.distinct in
    let r : x.rest ≡ y.rest = same_rest x.again x.lead y.lead x.rest y.rest (s.0 ∙ ap (λ z. y.lead ++ z ∷ y.rest) (sym s.1)) x.distinct in
    x.is ∙ ap (λ z. z ∷ x.rest) s.1 ∙ ap (λ zs. y.again ∷ zs) r ∙ sym y.is

chain_lost : (model : Model) (n : Node) (ns : List Node) (a : Node) → first_or a ns ≡ n → Has ns a → StuckChain model ns a → MeansNothing model n
chain_lost model n [] a e h s = absurd h
chain_lost model n (x ∷ ns) a e h s = subst (λ z. MeansNothing model z) e (waiting_lost model x (first_or a ns) s.0.asks s.0.lost)

pub ring_is_lost : RingIsLost
ring_is_lost model n ring r = chain_lost model n (r.lead ++ r.again ∷ r.rest) r.again (first_of r.again r.lead r.rest r.again ∙ r.begins) (has_right r.lead (r.again ∷ r.rest) r.again (inl refl)) r.stuck
