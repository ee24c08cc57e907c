-- What a linearisation keeps as it goes along the bases.
use Rattle.std.proofs.Common.{◌≡◌, ℕ, zero, suc, ◌+◌, ◌-◌, ◌*◌, ◌<◌, ◌≤◌, Option, Some, None, Result, Ok, Err, List, [], ◌∷◌, ◌++◌, length, slice_get, slice_set, get_or, take, ◌⊎◌, inl, inr, refl, sym, ◌∙◌, ap, subst, arith, length-append, length-set}
use Rattle.std.proofs.lemmas.Option.{slice_get_within}
use Rattle.std.proofs.lemmas.List.{take_more, append-nil}
use Rattle.mx_c3.specs.declared.space.SpaceId.{SpaceId}
use Rattle.mx_c3.specs.Lists.{Has, Distinct, AllDistinct}
use Rattle.mx_c3.specs.declared.refusal.C3Refusal.{C3Refusal}
use Rattle.mx_c3.specs.declared.refusal.C3Refusal.TheVariants.{NoOrder, NoMemory}
use Rattle.mx_c3.specs.Merge.{put, merge, Answers}
use Rattle.mx_c3.specs.Known.{known, known_in, first_unknown, orders_of}
use Rattle.mx_c3.specs.Linearisation.{bases_of, before_all, each, from_orders, c3, Reaches, AreSound}
use Rattle.mx_c3.proofs.ListLemmas.{Same, Other, compared, has_left, has_right, has_push_cases}
use Rattle.mx_c3.proofs.LinearLemmas.{blanks, blanks_set, get_set_other, get_set_same, few, c3_step, base_in_range, base_reached, reach_on, same_place}
use Rattle.mx_c3.proofs.LinearLaws.{c3_once}

-- each reaches all behind it
abbrev pub InTurn : List (List SpaceId) → List SpaceId → Type 0
InTurn lists [] = Unit {0}
InTurn lists (x ∷ xs) = ((y : SpaceId) → Has xs y → Reaches lists x y) × InTurn lists xs

pub record IsKnown (orders : List (Option (List SpaceId))) (s : SpaceId) : Type 0 where
  pub order : List SpaceId
  pub is : known orders s ≡ Some order

pub record Working (lists : List (List SpaceId)) (s : SpaceId) (orders : List (Option (List SpaceId))) (pending : List SpaceId) : Type 0 where
  pub long : length orders ≡ length lists
  pub right : (x : SpaceId) (order : List SpaceId) → known orders x ≡ Some order → c3 lists x ≡ Ok order
  pub blank : (x : SpaceId) → Has pending x → slice_get orders x.0 ≡ Some None
  pub distinct : Distinct pending
  pub chain : InTurn lists pending
  pub blocks : (x : SpaceId) (blocked : List SpaceId) → Has pending x → c3 lists x ≡ Err blocked → c3 lists s ≡ Err blocked
  pub aim : Has pending s ⊎ IsKnown orders s

pub distinct_push : (xs : List SpaceId) (x : SpaceId) → Distinct xs → (Has xs x → ⊥) → Distinct (xs ++ x ∷ [])
distinct_push [] x d n = (λ h. h, tt)
distinct_push (y ∷ xs) x d n =
    (λ h. elim (has_push_cases xs x y h) [ inl a ↦ d.0 a | inr e ↦ n (inl (sym e)) ], distinct_push xs x d.1 (λ h. n (inr h)))

distinct_front : (xs : List SpaceId) (x : SpaceId) → Distinct (xs ++ x ∷ []) → Distinct xs
distinct_front [] x d = tt
distinct_front (y ∷ xs) x d = (λ h. d.0 (has_left xs (x ∷ []) y h), distinct_front xs x d.1)

distinct_last : (xs : List SpaceId) (x : SpaceId) → Distinct (xs ++ x ∷ []) → Has xs x → ⊥
distinct_last [] x d h = h
distinct_last (y ∷ xs) x d h =
    elim h [ inl e ↦ d.0 (subst (λ z. Has (xs ++ x ∷ []) z) (sym e) (has_right xs (x ∷ []) x (inl refl))) | inr r ↦ distinct_last xs x d.1 r ]

chain_push : (lists : List (List SpaceId)) (xs : List SpaceId) (b : SpaceId) → InTurn lists xs → ((x : SpaceId) → Has xs x → Reaches lists x b) → InTurn lists (xs ++ b ∷ [])
chain_push lists [] b c r = (λ y h. absurd h, tt)
chain_push lists (x ∷ xs) b c r =
    (λ y h. elim (has_push_cases xs b y h) [ inl a ↦ c.0 y a | inr e ↦ subst (λ z. Reaches lists x z) e (r x (inl refl)) ], chain_push lists xs b c.1 (λ y h. r y (inr h)))

chain_front : (lists : List (List SpaceId)) (xs : List SpaceId) (b : SpaceId) → InTurn lists (xs ++ b ∷ []) → InTurn lists xs
chain_front lists [] b c = tt
chain_front lists (x ∷ xs) b c = (λ y h. c.0 y (has_left xs (b ∷ []) y h), chain_front lists xs b c.1)

chain_last : (lists : List (List SpaceId)) (xs : List SpaceId) (b x : SpaceId) → InTurn lists (xs ++ b ∷ []) → Has xs x → Reaches lists x b
chain_last lists [] b x c h = absurd h
chain_last lists (y ∷ xs) b x c h =
    elim h [
      | inl e ↦ subst (λ z. Reaches lists z b) e (c.0 b (has_right xs (b ∷ []) b (inl refl)))
      | inr r ↦ chain_last lists xs b x c.1 r
    ]

unknown_blank : (orders : List (Option (List SpaceId))) (i : ℕ) → i < length orders → known_in (slice_get orders i) ≡ None → slice_get orders i ≡ Some None
unknown_blank [] i h e = absurd (omega arith)
unknown_blank (None ∷ orders) zero h e = refl
unknown_blank (Some o ∷ orders) zero h e = absurd (let f : Some o ≡ None = e in cc)
unknown_blank (x ∷ orders) (suc i) h e = unknown_blank orders i (omega arith) e

data FirstUnknown (orders : List (Option (List SpaceId))) (bs : List SpaceId) (b : SpaceId) : Type 0 where
  Unknown : Has bs b → known orders b ≡ None → FirstUnknown orders bs b

first_by : (orders : List (Option (List SpaceId))) (c b : SpaceId) (bs : List SpaceId) (o : Option (List SpaceId)) → known orders c ≡ o → (first_unknown orders bs ≡ Some b → FirstUnknown orders bs b) → first_unknown orders (c ∷ bs) ≡ Some b → FirstUnknown orders (c ∷ bs) b
first_by orders c b bs None k f e =
    let i : Some c ≡ Some b = sym (ap (λ (p : Option (List SpaceId)). elim p [ None ↦ Some c | Some order ↦ first_unknown orders bs ]) k) ∙ e in
    let j : c ≡ b = cc in
    Unknown (inl j) (ap (known orders) (sym j) ∙ k)
first_by orders c b bs (Some o) k f e =
    let i : first_unknown orders bs ≡ Some b = sym (ap (λ (p : Option (List SpaceId)). elim p [ None ↦ Some c | Some order ↦ first_unknown orders bs ]) k) ∙ e in
    elim (f i) [ Unknown h u ↦ Unknown (inr h) u ]

first_is : (orders : List (Option (List SpaceId))) (b : SpaceId) (bs : List SpaceId) → first_unknown orders bs ≡ Some b → FirstUnknown orders bs b
first_is orders b [] e = absurd (let i : None ≡ Some b = e in cc)
first_is orders b (c ∷ bs) e = first_by orders c b bs (known orders c) refl (first_is orders b bs) e

abbrev pub AreRight : List (List SpaceId) → List (Option (List SpaceId)) → Type 0
AreRight lists orders = (x : SpaceId) (order : List SpaceId) → known orders x ≡ Some order → c3 lists x ≡ Ok order

blocked_by : (lists : List (List SpaceId)) (orders : List (Option (List SpaceId))) (c b : SpaceId) (bs blocked : List SpaceId) (o : Option (List SpaceId)) → AreRight lists orders → known orders c ≡ o → (first_unknown orders bs ≡ Some b → each (c3 lists) bs ≡ Err blocked) → c3 lists b ≡ Err blocked → first_unknown orders (c ∷ bs) ≡ Some b → each (c3 lists) (c ∷ bs) ≡ Err blocked
blocked_by lists orders c b bs blocked None r k f g e =
    let i : Some c ≡ Some b = sym (ap (λ (p : Option (List SpaceId)). elim p [ None ↦ Some c | Some order ↦ first_unknown orders bs ]) k) ∙ e in
    let j : c ≡ b = cc in
    ap (λ m. before_all m (each (c3 lists) bs)) (ap (c3 lists) j ∙ g)
blocked_by lists orders c b bs blocked (Some o) r k f g e =
    let i : first_unknown orders bs ≡ Some b = sym (ap (λ (p : Option (List SpaceId)). elim p [ None ↦ Some c | Some order ↦ first_unknown orders bs ]) k) ∙ e in
    ap (λ m. before_all m (each (c3 lists) bs)) (r c o k) ∙ ap (before_all (Ok o)) (f i)

each_blocked : (lists : List (List SpaceId)) (orders : List (Option (List SpaceId))) (b : SpaceId) (bs blocked : List SpaceId) → AreRight lists orders → first_unknown orders bs ≡ Some b → c3 lists b ≡ Err blocked → each (c3 lists) bs ≡ Err blocked
each_blocked lists orders b [] blocked r e g = absurd (let i : None ≡ Some b = e in cc)
each_blocked lists orders b (c ∷ bs) blocked r e g = blocked_by lists orders c b bs blocked (known orders c) r refl (λ i. each_blocked lists orders b bs blocked r i g) g e

each_by : (lists : List (List SpaceId)) (orders : List (Option (List SpaceId))) (c : SpaceId) (bs : List SpaceId) (o : Option (List SpaceId)) → AreRight lists orders → known orders c ≡ o → (first_unknown orders bs ≡ None → each (c3 lists) bs ≡ Ok (orders_of orders bs)) → first_unknown orders (c ∷ bs) ≡ None → each (c3 lists) (c ∷ bs) ≡ Ok (orders_of orders (c ∷ bs))
each_by lists orders c bs None r k f e =
    absurd (let i : Some c ≡ None = sym (ap (λ (p : Option (List SpaceId)). elim p [ None ↦ Some c | Some order ↦ first_unknown orders bs ]) k) ∙ e in cc)
each_by lists orders c bs (Some o) r k f e =
    let i : first_unknown orders bs ≡ None = sym (ap (λ (p : Option (List SpaceId)). elim p [ None ↦ Some c | Some order ↦ first_unknown orders bs ]) k) ∙ e in
    let j : orders_of orders (c ∷ bs) ≡ o ∷ orders_of orders bs = ap (λ (p : Option (List SpaceId)). elim p [ None ↦ orders_of orders bs | Some order ↦ order ∷ orders_of orders bs ]) k in
    ap (λ m. before_all m (each (c3 lists) bs)) (r c o k) ∙ ap (before_all (Ok o)) (f i) ∙ ap Ok (sym j)

each_known : (lists : List (List SpaceId)) (orders : List (Option (List SpaceId))) (bs : List SpaceId) → AreRight lists orders → first_unknown orders bs ≡ None → each (c3 lists) bs ≡ Ok (orders_of orders bs)
each_known lists orders [] r e = refl
each_known lists orders (c ∷ bs) r e = each_by lists orders c bs (known orders c) r refl (each_known lists orders bs r) e

orders_one : (orders : List (Option (List SpaceId))) (b : SpaceId) (o : Option (List SpaceId)) → known orders b ≡ o → orders_of orders (b ∷ []) ≡ elim o [ None ↦ [] | Some order ↦ order ∷ [] ]
orders_one orders b o e = ap (λ (p : Option (List SpaceId)). elim p [ None ↦ orders_of orders [] | Some order ↦ order ∷ orders_of orders [] ]) e

with_append : (o : Option (List SpaceId)) (xs ys : List (List SpaceId)) → elim o [ None ↦ xs ++ ys | Some order ↦ order ∷ (xs ++ ys) ] ≡ (elim o [ None ↦ xs | Some order ↦ order ∷ xs ]) ++ ys
with_append None xs ys = refl
with_append (Some o) xs ys = refl

orders_of-append : (orders : List (Option (List SpaceId))) (xs ys : List SpaceId) → orders_of orders (xs ++ ys) ≡ orders_of orders xs ++ orders_of orders ys
orders_of-append orders [] ys = refl
orders_of-append orders (x ∷ xs) ys =
    ap (λ zs. elim (known orders x) [ None ↦ zs | Some order ↦ order ∷ zs ]) (orders_of-append orders xs ys) ∙ with_append (known orders x) (orders_of orders xs) (orders_of orders ys)

pub orders_more_some : (orders : List (Option (List SpaceId))) (bs : List SpaceId) (i : ℕ) (d : SpaceId) (o : List SpaceId) → i < length bs → known orders (get_or bs i d) ≡ Some o → orders_of orders (take (i + 1) bs) ≡ orders_of orders (take i bs) ++ o ∷ []
orders_more_some orders bs i d o h e =
    ap (orders_of orders) (take_more bs i d h) ∙ orders_of-append orders (take i bs) (get_or bs i d ∷ []) ∙ ap (λ zs. orders_of orders (take i bs) ++ zs) (orders_one orders (get_or bs i d) (Some o) e)

pub orders_more_none : (orders : List (Option (List SpaceId))) (bs : List SpaceId) (i : ℕ) (d : SpaceId) → i < length bs → known orders (get_or bs i d) ≡ None → orders_of orders (take (i + 1) bs) ≡ orders_of orders (take i bs)
orders_more_none orders bs i d h e =
    ap (orders_of orders) (take_more bs i d h) ∙ orders_of-append orders (take i bs) (get_or bs i d ∷ []) ∙ ap (λ zs. orders_of orders (take i bs) ++ zs) (orders_one orders (get_or bs i d) None e) ∙ append-nil (orders_of orders (take i bs))

module _ (lists : List (List SpaceId)) (sound : AreSound lists) (s : SpaceId) where
  pending_in_range : (orders : List (Option (List SpaceId))) (pending : List SpaceId) → Working lists s orders pending → (x : SpaceId) → Has pending x → x.0 < length lists
  pending_in_range orders pending w x h = let l : x.0 < length orders = slice_get_within orders x.0 None (w.blank x h) in omega (arith, w.long)

  pub top_in_range : (orders : List (Option (List SpaceId))) (pending front : List SpaceId) (top : SpaceId) → Working lists s orders pending → pending ≡ front ++ top ∷ [] → top.0 < length lists
  top_in_range orders pending front top w e = pending_in_range orders pending w top (subst (λ xs. Has xs top) (sym e) (has_right front (top ∷ []) top (inl refl)))

  pub few_pending : (orders : List (Option (List SpaceId))) (pending : List SpaceId) → Working lists s orders pending → length pending ≤ blanks orders
  few_pending orders pending w = few orders pending w.distinct w.blank

  to_base : (front : List SpaceId) (top base x : SpaceId) → InTurn lists (front ++ top ∷ []) → Has (bases_of lists top) base → Has (front ++ top ∷ []) x → Reaches lists x base
  to_base front top base x c b h =
      elim (has_push_cases front top x h) [
        | inl a ↦ reach_on lists x top base (chain_last lists front top x c a) b
        | inr e ↦ subst (λ z. Reaches lists z base) e (base_reached lists top base b)
      ]

  push_at : (orders : List (Option (List SpaceId))) (front : List SpaceId) (top base : SpaceId) → Working lists s orders (front ++ top ∷ []) → first_unknown orders (bases_of lists top) ≡ Some base → FirstUnknown orders (bases_of lists top) base → Working lists s orders ((front ++ top ∷ []) ++ base ∷ [])
  push_at orders front top base w e (Unknown b u) =
      let t : top.0 < length lists = top_in_range orders (front ++ top ∷ []) front top w refl in
      let r : base.0 < length lists = base_in_range lists top base sound b in
      record {
        long = w.long;
        right = w.right;
        blank = λ x h.
            elim (has_push_cases (front ++ top ∷ []) base x h) [
              | inl a ↦ w.blank x a
              | inr i ↦ subst (λ (z : SpaceId). slice_get orders z.0 ≡ Some None) i (unknown_blank orders base.0 (omega (arith, w.long)) u)
            ];
        distinct = distinct_push (front ++ top ∷ []) base w.distinct (λ h. sound.no_ring base (to_base front top base base w.chain b h));
        chain = chain_push lists (front ++ top ∷ []) base w.chain (λ x h. to_base front top base x w.chain b h);
        blocks = λ x blocked h g.
            elim (has_push_cases (front ++ top ∷ []) base x h) [
              | inl a ↦ w.blocks x blocked a g
              | inr i ↦
                  let k : each (c3 lists) (bases_of lists top) ≡ Err blocked = each_blocked lists orders base (bases_of lists top) blocked w.right e (ap (c3 lists) i ∙ g) in
                  w.blocks top blocked (has_right front (top ∷ []) top (inl refl)) (c3_step lists top sound t ∙ ap (from_orders top (bases_of lists top)) k)
            ];
        aim = elim w.aim [ inl h ↦ inl (has_left (front ++ top ∷ []) (base ∷ []) s h) | inr k ↦ inr k ];
      }

  pub push_step : (orders : List (Option (List SpaceId))) (pending front after : List SpaceId) (top base : SpaceId) → Working lists s orders pending → pending ≡ front ++ top ∷ [] → after ≡ (front ++ top ∷ []) ++ base ∷ [] → first_unknown orders (bases_of lists top) ≡ Some base → Working lists s orders after
  push_step orders pending front after top base w e f n =
      subst (λ xs. Working lists s orders xs) (sym f) (push_at orders front top base (subst (λ xs. Working lists s orders xs) e w) n (first_is orders base (bases_of lists top) n))

  pub push_less : (orders : List (Option (List SpaceId))) (pending front after : List SpaceId) (top base : SpaceId) → pending ≡ front ++ top ∷ [] → after ≡ (front ++ top ∷ []) ++ base ∷ [] → Working lists s orders after → 2 * blanks orders - length after < 2 * blanks orders - length pending
  push_less orders pending front after top base e f w =
      let l : length after ≤ blanks orders = few_pending orders after w in
      let a : length after ≡ length pending + 1 = ap length f ∙ length-append (front ++ top ∷ []) (base ∷ []) ∙ ap (λ n. n + 1) (ap length (sym e)) in
      omega arith

  pub top_made : (orders : List (Option (List SpaceId))) (pending front : List SpaceId) (top : SpaceId) → Working lists s orders pending → pending ≡ front ++ top ∷ [] → first_unknown orders (bases_of lists top) ≡ None → c3 lists top ≡ put top (merge (orders_of orders (bases_of lists top) ++ bases_of lists top ∷ []))
  top_made orders pending front top w e n =
      c3_step lists top sound (top_in_range orders pending front top w e) ∙ ap (from_orders top (bases_of lists top)) (each_known lists orders (bases_of lists top) w.right n)

  set_known : (orders : List (Option (List SpaceId))) (top : SpaceId) (order : List SpaceId) → top.0 < length orders → known (slice_set orders top.0 (Some order)) top ≡ Some order
  set_known orders top order h = ap known_in (get_set_same orders top.0 (Some order) h)

  set_other : (orders : List (Option (List SpaceId))) (top x : SpaceId) (order : List SpaceId) → (top ≡ x → ⊥) → known (slice_set orders top.0 (Some order)) x ≡ known orders x
  set_other orders top x order n = ap known_in (get_set_other orders top.0 x.0 (Some order) (λ e. n (same_place top x e)))

  known_at : (orders : List (Option (List SpaceId))) (top x : SpaceId) (order : List SpaceId) → top.0 < length orders → IsKnown orders x → IsKnown (slice_set orders top.0 (Some order)) x
  known_at orders top x order h k =
      elim (compared top x) [
        | Same c e ↦ record { order = order; is = subst (λ z. known (slice_set orders top.0 (Some order)) z ≡ Some order) e (set_known orders top order h) }
        | Other c n ↦ record { order = k.order; is = set_other orders top x order n ∙ k.is }
      ]

  done_at : (orders : List (Option (List SpaceId))) (front : List SpaceId) (top : SpaceId) (order : List SpaceId) → Working lists s orders (front ++ top ∷ []) → c3 lists top ≡ Ok order → Working lists s (slice_set orders top.0 (Some order)) front
  done_at orders front top order w g =
      let t : top.0 < length orders = slice_get_within orders top.0 None (w.blank top (has_right front (top ∷ []) top (inl refl))) in
      record {
        long = length-set orders top.0 (Some order) ∙ w.long;
        right = λ x o k.
            elim (compared top x) [
              | Same c e ↦
                  let i : Some order ≡ Some o = sym (subst (λ z. known (slice_set orders top.0 (Some order)) z ≡ Some order) e (set_known orders top order t)) ∙ k in
                  let j : order ≡ o = cc in
                  ap (c3 lists) (sym e) ∙ g ∙ ap Ok j
              | Other c n ↦ w.right x o (sym (set_other orders top x order n) ∙ k)
            ];
        blank = λ x h.
            get_set_other orders top.0 x.0 (Some order) (λ e. distinct_last front top w.distinct (subst (λ z. Has front z) (sym (same_place top x e)) h)) ∙ w.blank x (has_left front (top ∷ []) x h);
        distinct = distinct_front front top w.distinct;
        chain = chain_front lists front top w.chain;
        blocks = λ x blocked h b. w.blocks x blocked (has_left front (top ∷ []) x h) b;
        aim =
            elim w.aim [
              | inl h ↦
                  elim (has_push_cases front top s h) [
                    | inl a ↦ inl a
                    | inr e ↦ inr (record { order = order; is = subst (λ z. known (slice_set orders top.0 (Some order)) z ≡ Some order) e (set_known orders top order t) })
                  ]
              | inr k ↦ inr (known_at orders top s order t k)
            ];
      }

  pub done_step : (orders : List (Option (List SpaceId))) (pending front : List SpaceId) (top : SpaceId) (order : List SpaceId) → Working lists s orders pending → pending ≡ front ++ top ∷ [] → c3 lists top ≡ Ok order → Working lists s (slice_set orders top.0 (Some order)) front
  done_step orders pending front top order w e g = done_at orders front top order (subst (λ xs. Working lists s orders xs) e w) g

  pub done_less : (orders : List (Option (List SpaceId))) (pending front : List SpaceId) (top : SpaceId) (order : List SpaceId) → Working lists s orders pending → pending ≡ front ++ top ∷ [] → 2 * blanks (slice_set orders top.0 (Some order)) - length front < 2 * blanks orders - length pending
  done_less orders pending front top order w e =
      let l : length pending ≤ blanks orders = few_pending orders pending w in
      let b : suc (blanks (slice_set orders top.0 (Some order))) ≡ blanks orders = blanks_set orders top.0 order (w.blank top (subst (λ xs. Has xs top) (sym e) (has_right front (top ∷ []) top (inl refl)))) in
      let a : length pending ≡ length front + 1 = ap length e ∙ length-append front (top ∷ []) in
      omega arith

  pub blocked_step : (orders : List (Option (List SpaceId))) (pending front : List SpaceId) (top : SpaceId) (blocked : List SpaceId) → Working lists s orders pending → pending ≡ front ++ top ∷ [] → c3 lists top ≡ Err blocked → c3 lists s ≡ Err blocked
  blocked_step orders pending front top blocked w e g = w.blocks top blocked (subst (λ xs. Has xs top) (sym e) (has_right front (top ∷ []) top (inl refl))) g

  pub finished : (orders : List (Option (List SpaceId))) (pending : List SpaceId) → Working lists s orders pending → pending ≡ [] → IsKnown orders s
  finished orders pending w e = elim w.aim [ inl h ↦ absurd (subst (λ xs. Has xs s) e h) | inr k ↦ k ]

  orders_distinct : (orders : List (Option (List SpaceId))) → AreRight lists orders → (bs : List SpaceId) → ((b : SpaceId) → Has bs b → b.0 < length lists) → (tail_ : List (List SpaceId)) → AllDistinct tail_ → AllDistinct (orders_of orders bs ++ tail_)
  orders_distinct orders r [] f t d = d
  orders_distinct orders r (b ∷ bs) f t d = distinct_with (known orders b) (λ o e. c3_once lists sound b o (f b (inl refl)) (r b o e)) (orders_of orders bs) t (orders_distinct orders r bs (λ c h. f c (inr h)) t d)
    where
      distinct_with : (o : Option (List SpaceId)) → ((order : List SpaceId) → o ≡ Some order → Distinct order) → (os t : List (List SpaceId)) → AllDistinct (os ++ t) → AllDistinct ((elim o [ None ↦ os | Some order ↦ order ∷ os ]) ++ t)
      distinct_with None g os t d = d
      distinct_with (Some o) g os t d = (g o refl, d)

  distinct_at : (xss : List (List SpaceId)) (i : ℕ) → AllDistinct xss → Distinct (get_or xss i [])
  distinct_at [] i a = tt
  distinct_at (xs ∷ xss) zero a = a.0
  distinct_at (xs ∷ xss) (suc i) a = distinct_at xss i a.1

  pub all_distinct : (orders : List (Option (List SpaceId))) (top : SpaceId) → AreRight lists orders → AllDistinct (orders_of orders (bases_of lists top) ++ bases_of lists top ∷ [])
  all_distinct orders top r = orders_distinct orders r (bases_of lists top) (λ b h. base_in_range lists top b sound h) (bases_of lists top ∷ []) (distinct_at lists top.0 sound.distinct, tt)

pub pass_on : (refusal : C3Refusal) (part whole : Result (List SpaceId) (List SpaceId)) → ((blocked : List SpaceId) → part ≡ Err blocked → whole ≡ Err blocked) → Answers (Err refusal) part → Answers (Err refusal) whole
pass_on (NoOrder blocked) part whole f a = f blocked a
pass_on NoMemory part whole f a = tt
