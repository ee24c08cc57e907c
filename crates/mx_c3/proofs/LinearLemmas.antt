-- Laws of the linearisation.
use Rattle.std.proofs.Common.{◌≡◌, ℕ, zero, suc, ◌+◌, ◌<◌, ◌≤◌, Option, Some, None, Result, List, [], ◌∷◌, ◌++◌, length, get_or, slice_get, slice_set, inl, inr, refl, sym, ◌∙◌, ap, subst, arith}
use Rattle.mx_c3.specs.declared.space.SpaceId.{SpaceId}
use Rattle.mx_c3.specs.Lists.{Has, Among, Distinct}
use Rattle.mx_c3.specs.Linearisation.{bases_of, before_all, each, from_orders, step, linear, c3, Leads, Reaches, AreSound}

-- at most so many distinct spaces have no order as the table has blanks
abbrev pub blanks : List (Option (List SpaceId)) → ℕ
blanks [] = 0
blanks (None ∷ table) = suc (blanks table)
blanks (Some order ∷ table) = blanks table

pub blanks_set : (table : List (Option (List SpaceId))) (i : ℕ) (order : List SpaceId) → slice_get table i ≡ Some None → suc (blanks (slice_set table i (Some order))) ≡ blanks table
blanks_set [] i order e = absurd (let f : None ≡ Some None = e in cc)
blanks_set (None ∷ table) zero order e = refl
blanks_set (Some o ∷ table) zero order e = absurd (let f : Some (Some o) ≡ Some None = e in cc)
blanks_set (None ∷ table) (suc i) order e = ap suc (blanks_set table i order e)
blanks_set (Some o ∷ table) (suc i) order e = blanks_set table i order e

pub get_set_other : (table : List (Option (List SpaceId))) (i j : ℕ) (v : Option (List SpaceId)) → (i ≡ j → ⊥) → slice_get (slice_set table i v) j ≡ slice_get table j
get_set_other [] i j v n = refl
get_set_other (x ∷ table) zero zero v n = absurd (n refl)
get_set_other (x ∷ table) zero (suc j) v n = refl
get_set_other (x ∷ table) (suc i) zero v n = refl
get_set_other (x ∷ table) (suc i) (suc j) v n = get_set_other table i j v (λ e. n (ap suc e))

pub get_set_same : (table : List (Option (List SpaceId))) (i : ℕ) (v : Option (List SpaceId)) → i < length table → slice_get (slice_set table i v) i ≡ Some v
get_set_same [] i v h = absurd (omega arith)
get_set_same (x ∷ table) zero v h = refl
get_set_same (x ∷ table) (suc i) v h = get_set_same table i v (omega arith)

pub same_place : (x y : SpaceId) → x.0 ≡ y.0 → x ≡ y
same_place x y e = let place : ℕ → SpaceId = λ n. record { 0 = n } in ap place e

pub few : (table : List (Option (List SpaceId))) (xs : List SpaceId) → Distinct xs → ((x : SpaceId) → Has xs x → slice_get table x.0 ≡ Some None) → length xs ≤ blanks table
few table [] d f = omega arith
few table (x ∷ xs) d f =
    let b : suc (blanks (slice_set table x.0 (Some []))) ≡ blanks table = blanks_set table x.0 [] (f x (inl refl)) in
    let r : length xs ≤ blanks (slice_set table x.0 (Some [])) = few (slice_set table x.0 (Some [])) xs d.1 (λ y h.
    get_set_other table x.0 y.0 (Some []) (λ e. d.0 (subst (λ z. Has xs z) (sym (same_place x y e)) h)) ∙ f y (inr h)) in
    omega arith

abbrev fresh : List (List SpaceId) → List (Option (List SpaceId))
fresh [] = []
fresh (xs ∷ lists) = None ∷ fresh lists

blanks-fresh : (lists : List (List SpaceId)) → blanks (fresh lists) ≡ length lists
blanks-fresh [] = refl
blanks-fresh (xs ∷ lists) = omega (arith, blanks-fresh lists)

fresh_at : (lists : List (List SpaceId)) (i : ℕ) → i < length lists → slice_get (fresh lists) i ≡ Some None
fresh_at [] i h = absurd (omega arith)
fresh_at (xs ∷ lists) zero h = refl
fresh_at (xs ∷ lists) (suc i) h = fresh_at lists i (omega arith)

fit : (lists : List (List SpaceId)) (xs : List SpaceId) → Distinct xs → ((x : SpaceId) → Has xs x → x.0 < length lists) → length xs ≤ length lists
fit lists xs d f = let l : length xs ≤ blanks (fresh lists) = few (fresh lists) xs d (λ x h. fresh_at lists x.0 (f x h)) in omega (arith, blanks-fresh lists)

leads_on : (lists : List (List SpaceId)) (a b c : SpaceId) (via : List SpaceId) → Leads lists a via b → Has (bases_of lists b) c → Leads lists a (via ++ b ∷ []) c
leads_on lists a b c [] l h = (l, h)
leads_on lists a b c (x ∷ xs) l h = (l.0, leads_on lists x b c xs l.1 h)

pub base_reached : (lists : List (List SpaceId)) (a b : SpaceId) → Has (bases_of lists a) b → Reaches lists a b
base_reached lists a b h = record { via = []; leads = h }

pub reach_on : (lists : List (List SpaceId)) (a b c : SpaceId) → Reaches lists a b → Has (bases_of lists b) c → Reaches lists a c
reach_on lists a b c r h = record { via = r.via ++ b ∷ []; leads = leads_on lists a b c r.via r.leads h }

pub reach_from : (lists : List (List SpaceId)) (a b c : SpaceId) → Has (bases_of lists a) b → Reaches lists b c → Reaches lists a c
reach_from lists a b c h r = record { via = b ∷ r.via; leads = (h, r.leads) }

past_end : (lists : List (List SpaceId)) (i : ℕ) → length lists ≤ i → get_or lists i [] ≡ []
past_end [] i h = refl
past_end (xs ∷ lists) zero h = absurd (omega arith)
past_end (xs ∷ lists) (suc i) h = past_end lists i (omega arith)

base_among_at : (lists : List (List SpaceId)) (i : ℕ) (x : SpaceId) → Has (get_or lists i []) x → Among lists x
base_among_at [] i x h = absurd h
base_among_at (xs ∷ lists) zero x h = inl h
base_among_at (xs ∷ lists) (suc i) x h = inr (base_among_at lists i x h)

pub base_in_range : (lists : List (List SpaceId)) (s b : SpaceId) → AreSound lists → Has (bases_of lists s) b → b.0 < length lists
base_in_range lists s b a h = a.in_range b (base_among_at lists s.0 b h)

each_same : (f g : SpaceId → Result (List SpaceId) (List SpaceId)) (bs : List SpaceId) → ((b : SpaceId) → Has bs b → f b ≡ g b) → each f bs ≡ each g bs
each_same f g [] e = refl
each_same f g (b ∷ bs) e =
    let p : f b ≡ g b = e b (inl refl) in
    let q : each f bs ≡ each g bs = each_same f g bs (λ c h. e c (inr h)) in
    ap (λ o. before_all o (each f bs)) p ∙ ap (before_all (g b)) q

-- more steps than there are spaces change nothing
stable : (lists : List (List SpaceId)) → AreSound lists → (k : ℕ) (path : List SpaceId) (s : SpaceId) → s.0 < length lists → k + length path ≡ length lists → Distinct path → ((x : SpaceId) → Has path x → x.0 < length lists) → ((x : SpaceId) → Has path x → Reaches lists x s) → linear lists k s ≡ linear lists (suc k) s
stable lists a zero path s h e d f r =
    absurd (let l : length (s ∷ path) ≤ length lists = fit lists (s ∷ path) (λ q. a.no_ring s (r s q), d) (λ x q. elim q [ inl i ↦ subst (λ z. z.0 < length lists) i h | inr m ↦ f x m ]) in omega arith)
stable lists a (suc k) path s h e d f r =
    ap (from_orders s (bases_of lists s)) (each_same (linear lists k) (linear lists (suc k)) (bases_of lists s) (λ b m.
    stable lists a k (s ∷ path) b (base_in_range lists s b a m) (omega arith) (λ q. a.no_ring s (r s q), d)
    (λ x q. elim q [ inl i ↦ subst (λ z. z.0 < length lists) i h | inr n ↦ f x n ])
    (λ x q. elim q [ inl i ↦ subst (λ z. Reaches lists z b) i (base_reached lists s b m) | inr n ↦ reach_on lists x s b (r x n) m ])))

-- the published equation
pub c3_step : (lists : List (List SpaceId)) (s : SpaceId) → AreSound lists → s.0 < length lists → c3 lists s ≡ step lists (c3 lists) s
unfolding c3
c3_step lists s a h = stable lists a (length lists) [] s h (omega arith) tt (λ x q. absurd q) (λ x q. absurd q)
