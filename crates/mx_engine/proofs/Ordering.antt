-- The layers of a path of a valid text, and their paths.
use Rattle.std.proofs.Common.{◌≡◌, ℕ, zero, suc, ◌+◌, ◌<◌, List, [], ◌∷◌, ◌++◌, length, map, take, get_or, Option, Some, inl, inr, refl, sym, ◌∙◌, ap, subst, arith}
use Rattle.std.proofs.lemmas.List.{map-append}
use Rattle.std.proofs.lemmas.Option.{same_Some}
use Rattle.mx_c3.specs.declared.space.SpaceId.{SpaceId}
use Rattle.mx_c3.specs.InOrder.{AllBelow}
use Rattle.mx_c3.specs.Lists.{Has}
use Rattle.mx_model.specs.Records.{Path, ModelRecord}
use Rattle.mx_model.specs.declared.layers.Layered.{Layered}
use Rattle.mx_model.specs.declared.layers.Layered.TheVariants.{Layers}
use Rattle.mx_model.specs.Layers.{layers}
use Rattle.mx_model.specs.Readers.{path_in}
use Rattle.mx_model.specs.Sound.{HasSpaces, ValidIsSound, LayersAreSpaces}
use Rattle.mx_model.specs.Valid.{Valid}
use Rattle.mx_paths.specs.declared.id.PathId.{PathId}
use Rattle.mx_paths.specs.Table.{Row, layers_at, IsFoundIn}
use Rattle.mx_engine.specs.Order.{AreLayers}

module _ (text : ModelRecord) (rows : List Row) (path : Path) (id : PathId) (spaces : List SpaceId) (found : IsFoundIn text rows path (Some id)) (at : layers_at rows id ≡ Some spaces) where
  pub layered : layers text path ≡ Layers spaces
  layered = found.1 ∙ ap Layers (same_Some found.0 spaces (sym found.2 ∙ at))

  pub spaces_below : ValidIsSound → LayersAreSpaces → Valid text → AllBelow (length text.spaces) spaces
  spaces_below sound spaces_of valid =
      let P : Layered → Type 0 = λ l. HasSpaces text l in
      let are : P (Layers spaces) = subst P layered (spaces_of text path (sound text valid)) in
      are.1

  pub layers_told : (shown : ModelRecord) (paths : List Path) → text ≡ shown → map (path_in text) spaces ≡ map (λ (p : Path). Some p) paths → AreLayers shown path paths
  layers_told shown paths is are = subst (λ (t : ModelRecord). AreLayers t path paths) is (record { spaces = spaces; layered = layered; are = are })

-- ---- one after the other

at_has : (spaces : List SpaceId) (i : ℕ) (d : SpaceId) → i < length spaces → Has spaces (get_or spaces i d)
at_has [] i d l = absurd (omega (arith, l))
at_has (s ∷ spaces) zero d l = inl refl
at_has (s ∷ spaces) (suc i) d l = inr (at_has spaces i d (omega (arith, l)))

pub below_at : (n : ℕ) (spaces items : List SpaceId) (i : ℕ) (d : SpaceId) → AllBelow n spaces → items ≡ spaces → i < length items → (get_or items i d).0 < n
below_at n spaces items i d all is l = all (get_or items i d) (subst (λ (xs : List SpaceId). Has xs (get_or items i d)) is (at_has items i d l))

module _ (f : SpaceId → Option Path) where
  one_more : (items : List SpaceId) (i : ℕ) (d : SpaceId) (p : Path) → i < length items → f (get_or items i d) ≡ Some p → map f (take (suc i) items) ≡ map f (take i items) ++ Some p ∷ []
  one_more [] i d p l e = absurd (omega (arith, l))
  one_more (s ∷ items) zero d p l e = ap (λ (o : Option Path). o ∷ []) e
  one_more (s ∷ items) (suc i) d p l e = ap (λ (os : List (Option Path)). f s ∷ os) (one_more items i d p (omega (arith, l)) e)

  pub paths_next : (items : List SpaceId) (i : ℕ) (d : SpaceId) (old new : List Path) (p : Path) → map f (take i items) ≡ map (λ (p : Path). Some p) old → i < length items → f (get_or items i d) ≡ Some p
      → new ≡ old ++ p ∷ [] → map f (take (i + 1) items) ≡ map (λ (p : Path). Some p) new
  paths_next items i d old new p same l e is =
      let next : i + 1 ≡ suc i = omega arith in
      ap (λ (j : ℕ). map f (take j items)) next
      ∙ one_more items i d p l e
      ∙ ap (λ (os : List (Option Path)). os ++ Some p ∷ []) same
      ∙ sym (map-append (λ (q : Path). Some q) old (p ∷ []))
      ∙ ap (λ (ps : List Path). map (λ (q : Path). Some q) ps) (sym is)
