-- Rows of a table of paths.
use Rattle.std.proofs.Common.{◌≡◌, Bool, true, false, List, [], ◌∷◌, ◌++◌, inl, inr, refl, sym, ◌∙◌, ap}
use Rattle.std.specs.Prelude.{if◌then◌else◌}
use Rattle.mx_c3.specs.declared.space.SpaceId.{SpaceId}
use Rattle.mx_c3.specs.Lists.{Has}
use Rattle.indexmap.specs.IndexMap.{insert_entry}
use Rattle.mx_value.specs.Name.{same_path}
use Rattle.mx_value.proofs.NodeSames.{path_decides}
use Rattle.mx_model.specs.Records.{Path}
use Rattle.mx_paths.specs.Table.{Row, paths_in}

push_by : (rows : List Row) (row : Row) (path : Path) (layers : List SpaceId) (b : Bool) → same_path path row.0 ≡ b → (path ≡ row.0 → ⊥) → insert_entry same_path rows path layers ≡ rows ++ (path, layers) ∷ [] → insert_entry same_path (row ∷ rows) path layers ≡ row ∷ (rows ++ (path, layers) ∷ [])
push_by rows row path layers true e n rest = absurd (n ((path_decides path row.0).0 e))
push_by rows row path layers false e n rest = ap (λ b. if b then (row.0, layers) ∷ rows else row ∷ insert_entry same_path rows path layers) e ∙ ap (λ (rs : List Row). row ∷ rs) rest

-- a path that is not there goes behind the others
pub pushed : (rows : List Row) (path : Path) (layers : List SpaceId) → (Has (paths_in rows) path → ⊥) → insert_entry same_path rows path layers ≡ rows ++ (path, layers) ∷ []
pushed [] path layers n = refl
pushed (row ∷ rows) path layers n = push_by rows row path layers (same_path path row.0) refl (λ e. n (inl (sym e))) (pushed rows path layers (λ h. n (inr h)))
