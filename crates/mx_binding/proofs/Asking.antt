-- The places by which ids are found are those of the ids.
use Rattle.std.proofs.Common.{◌≡◌, ◌==◌, ◌∙◌, ℕ, Bool, true, false, ◌||◌, not, if◌then◌else◌, nat_eq, List, [], ◌∷◌, ◌++◌, map, refl, sym, ap, subst}
use Rattle.std.proofs.lemmas.List.{map-append}
use Rattle.std.specs.Cmp.{nat_eq_equiv}
use Rattle.std.specs.List.{list_any}
use Rattle.indexmap.specs.IndexSet.{insert_all}
use Rattle.mx_graph.specs.declared.ids.NodeId.{NodeId}
use Rattle.mx_vertices.specs.Reading.{id_at}
use Rattle.mx_read_set.proofs.Entering.{either_way, once_more}
use Rattle.mx_binding.specs.Asking.{with_ask, AreOnce}

not_not : (b : Bool) → not (not b) ≡ b
not_not true = refl
not_not false = refl

any_at : (ids : List NodeId) (x : ℕ) → list_any (λ (a : NodeId). a.at == x) ids ≡ list_any (λ y. nat_eq y x) (map id_at ids)
any_at [] x = refl
any_at (a ∷ ids) x = ap (λ b. (a.at == x) || b) (any_at ids x)

module _ (ids : List NodeId) (id : NodeId) where
  -- with one more, each is still there once
  pub still_once : (more : List NodeId) → AreOnce ids → list_any (λ (a : NodeId). a.at == id.at) ids ≡ false → more ≡ ids ++ id ∷ [] → AreOnce more
  still_once more once new is =
      let places : map id_at more ≡ map id_at ids ++ id.at ∷ [] = ap (map id_at) is ∙ map-append id_at ids (id ∷ []) in
      subst (λ (xs : List ℕ). insert_all nat_eq [] xs ≡ xs) (sym places)
      (once_more nat_eq nat_eq_equiv (map id_at ids) id.at once (sym (any_at ids id.at) ∙ new))

  -- what the places tell of an id
  module _ (keys : List ℕ) (same : keys ≡ map id_at ids) (k : ℕ) (at : k ≡ id.at) (is_new : Bool) (told : is_new ≡ not (list_any (nat_eq k) keys)) where
    among : list_any (nat_eq k) keys ≡ list_any (λ (a : NodeId). a.at == id.at) ids
    among =
        (λ j. list_any (nat_eq (at j)) (same j)) ∙ either_way nat_eq nat_eq_equiv (map id_at ids) id.at ∙ sym (any_at ids id.at)

    there : list_any (λ (a : NodeId). a.at == id.at) ids ≡ not is_new
    there = sym among ∙ sym (not_not (list_any (nat_eq k) keys)) ∙ ap not (sym told)

    pub stays : is_new ≡ false → with_ask id ids ≡ ids
    stays old = ap (λ b. if b then ids else ids ++ id ∷ []) (there ∙ ap not old)

    pub grows : is_new ≡ true → with_ask id ids ≡ ids ++ id ∷ []
    grows new = ap (λ b. if b then ids else ids ++ id ∷ []) (there ∙ ap not new)
