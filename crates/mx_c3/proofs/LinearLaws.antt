-- What a linearisation keeps.
use Rattle.std.proofs.Common.{◌≡◌, ℕ, zero, suc, ◌<◌, Result, Ok, Err, List, [], ◌∷◌, ◌++◌, length, ◌⊎◌, inl, inr, refl, sym, ◌∙◌, ap, subst}
use Rattle.mx_c3.specs.declared.space.SpaceId.{SpaceId}
use Rattle.mx_c3.specs.Lists.{Has, Among, Distinct, Within}
use Rattle.mx_c3.specs.Merge.{merge, IsMerge}
use Rattle.mx_c3.specs.Linearisation.{bases_of, before_all, each, from_orders, step, linear, c3, Leads, Reaches, AreSound, IsOrder}
use Rattle.mx_c3.proofs.ListLemmas.{has_left, has_right, among_cases}
use Rattle.mx_c3.proofs.Within.{within_cons, within_same, within_has, within_trans}
use Rattle.mx_c3.proofs.MergeLaws.{put_ok, merge_is, keeps, from_lists, once}
use Rattle.mx_c3.proofs.LinearLemmas.{c3_step, base_in_range, base_reached, reach_from}

record Split (r : Result (List SpaceId) (List SpaceId)) (rest : Result (List (List SpaceId)) (List SpaceId)) (orders : List (List SpaceId)) : Type 0 where
  pub first : List SpaceId
  pub others : List (List SpaceId)
  pub was : r ≡ Ok first
  pub were : rest ≡ Ok others
  pub is : orders ≡ first ∷ others

split : (r : Result (List SpaceId) (List SpaceId)) (rest : Result (List (List SpaceId)) (List SpaceId)) (orders : List (List SpaceId)) → before_all r rest ≡ Ok orders → Split r rest orders
split (Err b) rest orders e = absurd (let i : Err b ≡ Ok orders = e in cc)
split (Ok o) (Err b) orders e = absurd (let i : Err b ≡ Ok orders = e in cc)
split (Ok o) (Ok os) orders e = record { first = o; others = os; was = refl; were = refl; is = let i : orders ≡ o ∷ os = cc in i }

record Given (f : SpaceId → Result (List SpaceId) (List SpaceId)) (orders : List (List SpaceId)) (b : SpaceId) : Type 0 where
  pub order : List SpaceId
  pub is : f b ≡ Ok order
  pub among : Has orders order

given : (f : SpaceId → Result (List SpaceId) (List SpaceId)) (bs : List SpaceId) (orders : List (List SpaceId)) → each f bs ≡ Ok orders → (b : SpaceId) → Has bs b → Given f orders b
given f [] orders e b h = absurd h
given f (c ∷ bs) orders e b h =
    let s = split (f c) (each f bs) orders e in
    elim h [
      | inl i ↦ record { order = s.first; is = ap f (sym i) ∙ s.was; among = subst (λ os. Has os s.first) (sym s.is) (inl refl) }
      | inr r ↦
          let g = given f bs s.others s.were b r in
          record { order = g.order; is = g.is; among = subst (λ os. Has os g.order) (sym s.is) (inr g.among) }
    ]

record Source (f : SpaceId → Result (List SpaceId) (List SpaceId)) (bs : List SpaceId) (x : SpaceId) : Type 0 where
  pub base : SpaceId
  pub order : List SpaceId
  pub among : Has bs base
  pub is : f base ≡ Ok order
  pub has : Has order x

source : (f : SpaceId → Result (List SpaceId) (List SpaceId)) (bs : List SpaceId) (orders : List (List SpaceId)) → each f bs ≡ Ok orders → (x : SpaceId) → Among orders x → Source f bs x
source f [] orders e x h = absurd (let i : orders ≡ [] = cc in subst (λ os. Among os x) i h)
source f (c ∷ bs) orders e x h =
    let s = split (f c) (each f bs) orders e in
    elim (let i : Among (s.first ∷ s.others) x = subst (λ os. Among os x) s.is h in i) [
      | inl a ↦ record { base = c; order = s.first; among = inl refl; is = s.was; has = a }
      | inr b ↦
          let g = source f bs s.others s.were x b in
          record { base = g.base; order = g.order; among = inr g.among; is = g.is; has = g.has }
    ]

record Made (f : SpaceId → Result (List SpaceId) (List SpaceId)) (s : SpaceId) (bases order : List SpaceId) : Type 0 where
  pub orders : List (List SpaceId)
  pub rest : List SpaceId
  pub all : each f bases ≡ Ok orders
  pub merged : IsMerge (orders ++ bases ∷ []) rest
  pub is : order ≡ s ∷ rest

made_by : (f : SpaceId → Result (List SpaceId) (List SpaceId)) (s : SpaceId) (bases order : List SpaceId) (r : Result (List (List SpaceId)) (List SpaceId)) → each f bases ≡ r → from_orders s bases r ≡ Ok order → Made f s bases order
made_by f s bases order (Err b) i e = absurd (let j : Err b ≡ Ok order = e in cc)
made_by f s bases order (Ok orders) i e =
    let p = put_ok s (merge (orders ++ bases ∷ [])) order e in
    record { orders = orders; rest = p.rest; all = i; merged = merge_is (orders ++ bases ∷ []) p.rest p.was; is = p.is }

made : (lists : List (List SpaceId)) (f : SpaceId → Result (List SpaceId) (List SpaceId)) (s : SpaceId) (order : List SpaceId) → step lists f s ≡ Ok order → Made f s (bases_of lists s) order
made lists f s order e = made_by f s (bases_of lists s) order (each f (bases_of lists s)) refl e

reached_by : (lists : List (List SpaceId)) (k : ℕ) (s : SpaceId) (order : List SpaceId) → linear lists k s ≡ Ok order → (x : SpaceId) → Has order x → (s ≡ x) ⊎ Reaches lists s x
reached_by lists zero s order e x h = absurd (let i : Err [] ≡ Ok order = e in cc)
reached_by lists (suc k) s order e x h =
    let m = made lists (linear lists k) s order e in
    elim (let i : Has (s ∷ m.rest) x = subst (λ o. Has o x) m.is h in i) [
      | inl i ↦ inl i
      | inr r ↦
          elim (among_cases m.orders (bases_of lists s ∷ []) x (from_lists (m.orders ++ bases_of lists s ∷ []) m.rest m.merged x r)) [
            | inl a ↦
                let g = source (linear lists k) (bases_of lists s) m.orders m.all x a in
                inr (elim (reached_by lists k g.base g.order g.is x g.has) [
                  | inl j ↦ subst (λ z. Reaches lists s z) j (base_reached lists s g.base g.among)
                  | inr q ↦ reach_from lists s g.base x g.among q
                ])
            | inr b ↦ elim b [ inl h ↦ inr (base_reached lists s x h) | inr n ↦ absurd n ]
          ]
    ]

pub c3_reached : (lists : List (List SpaceId)) (s : SpaceId) (order : List SpaceId) → c3 lists s ≡ Ok order → (x : SpaceId) → Has order x → (s ≡ x) ⊎ Reaches lists s x
unfolding c3
c3_reached lists s order e x h = reached_by lists (length lists) s order e x h

module _ (lists : List (List SpaceId)) (sound : AreSound lists) where
  c3_made : (s : SpaceId) (order : List SpaceId) → s.0 < length lists → c3 lists s ≡ Ok order → Made (c3 lists) s (bases_of lists s) order
  c3_made s order h e = made lists (c3 lists) s order (sym (c3_step lists s sound h) ∙ e)

  rest_reached : (s : SpaceId) (order : List SpaceId) → s.0 < length lists → (m : Made (c3 lists) s (bases_of lists s) order) → (x : SpaceId) → Has m.rest x → Reaches lists s x
  rest_reached s order h m x r =
      elim (among_cases m.orders (bases_of lists s ∷ []) x (from_lists (m.orders ++ bases_of lists s ∷ []) m.rest m.merged x r)) [
        | inl a ↦
            let g = source (c3 lists) (bases_of lists s) m.orders m.all x a in
            elim (c3_reached lists g.base g.order g.is x g.has) [
              | inl j ↦ subst (λ z. Reaches lists s z) j (base_reached lists s g.base g.among)
              | inr q ↦ reach_from lists s g.base x g.among q
            ]
        | inr b ↦ elim b [ inl h ↦ base_reached lists s x h | inr n ↦ absurd n ]
      ]

  pub c3_once : (s : SpaceId) (order : List SpaceId) → s.0 < length lists → c3 lists s ≡ Ok order → Distinct order
  c3_once s order h e =
      let m = c3_made s order h e in
      subst (λ o. Distinct o) (sym m.is) (λ r. sound.no_ring s (rest_reached s order h m s r), once (m.orders ++ bases_of lists s ∷ []) m.rest m.merged)

  c3_local : (s : SpaceId) (order : List SpaceId) → s.0 < length lists → c3 lists s ≡ Ok order → Within (s ∷ bases_of lists s) order
  c3_local s order h e =
      let m = c3_made s order h e in
      subst (λ o. Within (s ∷ bases_of lists s) o) (sym m.is) (inl (refl, keeps (m.orders ++ bases_of lists s ∷ []) m.rest m.merged (bases_of lists s) (has_right m.orders (bases_of lists s ∷ []) (bases_of lists s) (inl refl))))

  record Own (x : SpaceId) (order : List SpaceId) : Type 0 where
    pub own : List SpaceId
    pub is : c3 lists x ≡ Ok own
    pub within : Within own order

  c3_base : (s : SpaceId) (order : List SpaceId) → s.0 < length lists → c3 lists s ≡ Ok order → (b : SpaceId) → Has (bases_of lists s) b → Own b order
  c3_base s order h e b i =
      let m = c3_made s order h e in
      let g = given (c3 lists) (bases_of lists s) m.orders m.all b i in
      let w : Within g.order m.rest = keeps (m.orders ++ bases_of lists s ∷ []) m.rest m.merged g.order (has_left m.orders (bases_of lists s ∷ []) g.order g.among) in
      record { own = g.order; is = g.is; within = subst (λ o. Within g.order o) (sym m.is) (within_cons g.order m.rest s w) }

  c3_far : (via : List SpaceId) (s : SpaceId) (order : List SpaceId) → s.0 < length lists → c3 lists s ≡ Ok order → (x : SpaceId) → Leads lists s via x → Own x order
  c3_far [] s order h e x l = c3_base s order h e x l
  c3_far (b ∷ via) s order h e x l =
      let p = c3_base s order h e b l.0 in
      let q = c3_far via b p.own (base_in_range lists s b sound l.0) p.is x l.1 in
      record { own = q.own; is = q.is; within = within_trans q.own p.own order q.within p.within }

  in_range_far : (via : List SpaceId) (s x : SpaceId) → Leads lists s via x → x.0 < length lists
  in_range_far [] s x l = base_in_range lists s x sound l
  in_range_far (b ∷ via) s x l = in_range_far via b x l.1

  c3_own : (s : SpaceId) (order : List SpaceId) → s.0 < length lists → c3 lists s ≡ Ok order → (x : SpaceId) → (s ≡ x) ⊎ Reaches lists s x → Own x order
  c3_own s order h e x r =
      elim r [
        | inl i ↦ record { own = order; is = ap (c3 lists) (sym i) ∙ e; within = within_same order }
        | inr q ↦ c3_far q.via s order h e x q.leads
      ]

  in_range : (s x : SpaceId) → s.0 < length lists → (s ≡ x) ⊎ Reaches lists s x → x.0 < length lists
  in_range s x h r = elim r [ inl i ↦ subst (λ z. z.0 < length lists) i h | inr q ↦ in_range_far q.via s x q.leads ]

  pub c3_order : (s : SpaceId) (order : List SpaceId) → s.0 < length lists → c3 lists s ≡ Ok order → IsOrder lists s order
  c3_order s order h e = record {
    begins = let m = c3_made s order h e in (m.rest, m.is);
    once = c3_once s order h e;
    reached = λ x. (
      λ i. c3_reached lists s order e x i,
      λ r.
          let o = c3_own s order h e x r in
          let l : Within (x ∷ bases_of lists x) o.own = c3_local x o.own (in_range s x h r) o.is in
          within_has o.own order x o.within (within_has (x ∷ bases_of lists x) o.own x l (inl refl)),
    );
    precedence = λ x i.
        let r = c3_reached lists s order e x i in
        let o = c3_own s order h e x r in
        within_trans (x ∷ bases_of lists x) o.own order (c3_local x o.own (in_range s x h r) o.is) o.within;
    monotone = λ x i. let o = c3_own s order h e x (c3_reached lists s order e x i) in (o.own, o.is, o.within);
  }
