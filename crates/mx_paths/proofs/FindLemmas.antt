-- Where a path stands in a table.
use Rattle.std.proofs.Common.{◌≡◌, ℕ, List, get_or, Option, Some, None, slice_get, refl, sym, ◌∙◌, ap, subst}
use Rattle.std.specs.Prelude.{IsTrue, position, option_map}
use Rattle.std.specs.List.{position_or_len}
use Rattle.std.proofs.lemmas.List.Quantifiers.{position-Some}
use Rattle.std.proofs.lemmas.Option.{same_Some, slice_get-map, slice_get_within, slice_get-get_or}
use Rattle.mx_value.specs.Name.{same_path}
use Rattle.mx_value.proofs.NodeSames.{path_decides}
use Rattle.mx_c3.specs.declared.space.SpaceId.{SpaceId}
use Rattle.mx_c3.specs.Lists.{Has}
use Rattle.mx_model.specs.Records.{Name, Path, ModelRecord}
use Rattle.mx_model.specs.Binding.{binding, own_member, first_with, in_layers}
use Rattle.mx_model.specs.Sound.{IsSound, AreSpaces, HasSpaces}
use Rattle.mx_model.proofs.SoundLemmas.{layers_spaces}
use Rattle.mx_model.specs.declared.layers.Layered.{Layered}
use Rattle.mx_model.specs.declared.layers.Layered.TheVariants.{Layers, NoOrder, NotStatic}
use Rattle.mx_model.specs.Layers.{layers, is_there, is_static}
use Rattle.mx_model.proofs.Filtered.{place_has, passes_place}
use Rattle.mx_paths.specs.declared.id.PathId.{PathId}
use Rattle.mx_paths.specs.Table.{Row, paths_in, id_in, path_at, layers_at, IsTableOf, IsFoundIn, IsLayered}

abbrev made : ℕ → PathId
made n = record { 0 = n }

-- a path that is among the rows has a place
known_by : (rows : List Row) (path : Path) (place : Option ℕ) → position (same_path path) (paths_in rows) ≡ place → Has (paths_in rows) path → option_map made place ≡ None → ⊥
known_by rows path None e h n =
    let p = passes_place (same_path path) (paths_in rows) path h ((path_decides path path).1 refl) in
    let f : None ≡ Some (position_or_len (same_path path) (paths_in rows)) = sym e ∙ p in
    cc
known_by rows path (Some k) e h n = let f : Some (made k) ≡ None = n in cc

row_at : (rows : List Row) (i : ℕ) (path : Path) (row : Option Row) → slice_get rows i ≡ row → option_map (λ (r : Row). r.0) row ≡ Some path → (r : Row) × (slice_get rows i ≡ Some r) × (r.0 ≡ path)
row_at rows i path None e p = absurd (let f : None ≡ Some path = p in cc)
row_at rows i path (Some row) e p = (row, e, same_Some row.0 path p)

module _ (text : ModelRecord) (rows : List Row) (is : IsTableOf text rows) where
  found_at : (path : Path) (k : ℕ) → position (same_path path) (paths_in rows) ≡ Some k → IsFoundIn text rows path (Some (made k))
  found_at path k e =
      let f = position-Some (same_path path) (paths_in rows) k path e in
      let same : path ≡ get_or (paths_in rows) k path = (path_decides path (get_or (paths_in rows) k path)).0 f.1 in
      let at : slice_get (paths_in rows) k ≡ Some path = slice_get-get_or (paths_in rows) k path f.0 ∙ ap Some (sym same) in
      let m = row_at rows k path (slice_get rows k) refl (sym (slice_get-map (λ (r : Row). r.0) rows k) ∙ at) in (
        (m.0).1,
        ap (layers text) (sym m.2) ∙ is.layered m.0 (place_has rows k m.0 m.1),
        ap (option_map (λ (r : Row). r.1)) m.1,
        slice_get_within rows k m.0 m.1,
      )

  not_static_by : (path : Path) (reached : Layered) → layers text path ≡ reached → (IsTrue (is_static text path) → ⊥) → layers text path ≡ NotStatic
  not_static_by path (Layers spaces) e n = absurd (n (ap is_there e))
  not_static_by path NoOrder e n = absurd (n (ap is_there e))
  not_static_by path NotStatic e n = e

  find_by : (path : Path) (place : Option ℕ) → position (same_path path) (paths_in rows) ≡ place → IsFoundIn text rows path (option_map made place)
  find_by path None e = not_static_by path (layers text path) refl (λ t. known_by rows path None e (is.all path t) refl)
  find_by path (Some k) e = found_at path k e

  -- what is found of a path
  pub found_in : (path : Path) → IsFoundIn text rows path (id_in rows path)
  found_in path = find_by path (position (same_path path) (paths_in rows)) refl

  layered_by : (id : PathId) (spaces : List SpaceId) (row : Option Row) → slice_get rows id.0 ≡ row → option_map (λ (r : Row). r.1) row ≡ Some spaces → IsLayered text rows id spaces
  layered_by id spaces None e s = absurd (let f : None ≡ Some spaces = s in cc)
  layered_by id spaces (Some row) e s = record {
    path = row.0;
    at = ap (option_map (λ (r : Row). r.0)) e;
    is = is.layered row (place_has rows id.0 row e) ∙ ap Layers (same_Some row.1 spaces s);
  }

  -- the layers of a row
  pub layered_in : (id : PathId) (spaces : List SpaceId) → layers_at rows id ≡ Some spaces → IsLayered text rows id spaces
  layered_in id spaces s = layered_by id spaces (slice_get rows id.0) refl s

-- ---- look-ups

one_path : (rows : List Row) (id : PathId) (p q : Path) → path_at rows id ≡ Some p → path_at rows id ≡ Some q → p ≡ q
one_path rows id p q e f = same_Some p q (sym e ∙ f)

pub table_spaces : (text : ModelRecord) (rows : List Row) (id : PathId) (spaces : List SpaceId) → IsSound text → IsLayered text rows id spaces → AreSpaces text spaces
table_spaces text rows id spaces sound l = let P : Layered → Type 0 = λ r. HasSpaces text r in subst P l.is (layers_spaces text l.path sound)

pub bound_in : (text : ModelRecord) (rows : List Row) (id : PathId) (spaces : List SpaceId) (path : Path) (name : Name) → IsLayered text rows id spaces → path_at rows id ≡ Some path → first_with text (own_member text name) spaces ≡ binding text path name
bound_in text rows id spaces path name l e =
    let same = one_path rows id l.path path l.at e in
    sym (ap (in_layers text (own_member text name)) (ap (layers text) (sym same) ∙ l.is))
