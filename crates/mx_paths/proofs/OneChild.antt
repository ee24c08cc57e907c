-- The layers of a path with one defined child are the order of that child.
use Rattle.std.proofs.Common.{◌≡◌, ◌<◌, Bool, true, false, List, [], ◌∷◌, length, Some, None, Result, Ok, Err, refl, sym, ◌∙◌, ap, subst, arith}
use Rattle.std.specs.Prelude.{◌||◌, if◌then◌else◌}
use Rattle.mx_c3.specs.declared.space.SpaceId.{SpaceId}
use Rattle.mx_c3.specs.Lists.{Has, Distinct}
use Rattle.mx_c3.specs.Merge.{stands, first_free, without, merge, IsMerge}
use Rattle.mx_c3.specs.Linearisation.{c3, before_all}
use Rattle.mx_c3.proofs.ListLemmas.{is_same}
use Rattle.mx_c3.proofs.NextLaws.{stands_has}
use Rattle.mx_c3.proofs.MergeLemmas.{without_none}
use Rattle.mx_c3.proofs.MergeLaws.{is_merge}
use Rattle.mx_c3.proofs.LinearLaws.{c3_order}
use Rattle.mx_model.specs.Records.{ModelRecord}
use Rattle.mx_model.specs.Layers.{base_lists, layered, merge_orders, of_children}
use Rattle.mx_model.specs.Sound.{IsSound}
use Rattle.mx_model.proofs.SoundLemmas.{many}

not_by : (xs : List SpaceId) (x : SpaceId) (b : Bool) → stands xs x ≡ b → (Has xs x → ⊥) → stands xs x ≡ false
not_by xs x true e n = absurd (n (stands_has xs x e))
not_by xs x false e n = e

not_among : (xs : List SpaceId) (x : SpaceId) → (Has xs x → ⊥) → stands xs x ≡ false
not_among xs x n = not_by xs x (stands xs x) refl n

without_own : (x : SpaceId) (xs : List SpaceId) → (Has xs x → ⊥) → without x (x ∷ xs) ≡ xs
without_own x xs n = ap (λ b. if b then without x xs else x ∷ without x xs) (is_same x x refl) ∙ without_none x xs (not_among xs x n)

own_merge : (xs : List SpaceId) → Distinct xs → IsMerge (xs ∷ [] ∷ []) xs
own_merge [] d = refl
own_merge (x ∷ xs) d = (
  ap (λ b. if b || (false || false) then None else Some x) (not_among xs x d.0),
  subst (λ (ys : List SpaceId). IsMerge (ys ∷ [] ∷ []) xs) (sym (without_own x xs d.0)) (own_merge xs d.1),
)

one_merge : (d : SpaceId) (rest : List SpaceId) → Distinct (d ∷ rest) → IsMerge ((d ∷ rest) ∷ (d ∷ []) ∷ []) (d ∷ rest)
one_merge d rest u = (
  ap (λ b. if b || (false || false) then first_free ((d ∷ rest) ∷ (d ∷ []) ∷ []) (d ∷ []) else Some d) (not_among rest d u.0),
  subst (λ (ys : List SpaceId). IsMerge (ys ∷ without d (d ∷ []) ∷ []) rest) (sym (without_own d rest u.0)) (
      subst (λ (ys : List SpaceId). IsMerge (rest ∷ ys ∷ []) rest) (sym (without_own d [] (λ h. absurd h))) (own_merge rest u.1)),
)

alone : (text : ModelRecord) (s : SpaceId) (r : Result (List SpaceId) (List SpaceId)) → IsSound text → s.0 < length text.spaces → c3 (base_lists text) s ≡ r → layered (merge_orders (s ∷ []) (before_all r (Ok []))) ≡ layered r
alone text s (Err blocked) sound h e = refl
alone text s (Ok order) sound h e =
    let long = many text in
    let is = c3_order (base_lists text) sound.bases s order (omega arith) e in
    let b = is.begins in
    let once : Distinct (s ∷ b.0) = subst Distinct b.1 is.once in
    let m = is_merge ((s ∷ b.0) ∷ (s ∷ []) ∷ []) (s ∷ b.0) (one_merge s b.0 once) in
    ap layered (ap (λ (o : List SpaceId). merge (o ∷ (s ∷ []) ∷ [])) b.1 ∙ m ∙ ap Ok (sym b.1))

pub one_child : (text : ModelRecord) (s : SpaceId) → IsSound text → s.0 < length text.spaces → of_children text (s ∷ []) ≡ layered (c3 (base_lists text) s)
one_child text s sound h = alone text s (c3 (base_lists text) s) sound h refl
