-- The ids of spaces are the places of their paths.
use Rattle.std.proofs.Common.{◌≡◌, ◌∙◌, ℕ, List, [], ◌∷◌, Option, map, inl, inr, refl, subst, ap, lit<}
use Rattle.std.specs.Prelude.{position, option_map}
use Rattle.mx_value.specs.Name.{same_path}
use Rattle.mx_c3.specs.declared.space.SpaceId.{SpaceId}
use Rattle.mx_model.specs.Records.{Path, SpaceRecord, beginning, empty_text}
use Rattle.mx_model.specs.Parents.{HasParent}
use Rattle.mx_c3.specs.Lists.{Has}
use Rattle.mx_model.specs.Layers.{paths_of}
use Rattle.mx_model.specs.Paths.{split_last}
use Rattle.mx_model.specs.Indexed.{IsIndexed}

abbrev made : ℕ → SpaceId
made n = record { 0 = n }

pub id_found : (spaces : List SpaceRecord) (keys : List Path) (path : Path) (place : Option ℕ) → place ≡ position (same_path path) keys → keys ≡ map (λ (s : SpaceRecord). s.path) spaces → option_map made place ≡ option_map made (position (same_path path) (map (λ (s : SpaceRecord). s.path) spaces))
id_found spaces keys path place is same = ap (option_map made) (is ∙ ap (position (same_path path)) same)

main_parent : (path : Path) → Has (paths_of beginning) path → HasParent beginning (split_last path)
main_parent path h =
    let P : Path → Type 0 = λ p. HasParent beginning (split_last p) in
    elim h [ inl e ↦ subst P e (inl refl) | inr f ↦ absurd f ]

-- what stands beside a new text
pub begin_index : IsIndexed (paths_of beginning) ([] ∷ []) ([] ∷ []) beginning
begin_index = record {
  paths = refl;
  bases = refl;
  placed = record { once = (λ h. h, tt); kinds = (λ name. refl, tt); parents = main_parent; few = lit< tt };
}

-- what stands beside a text without spaces
pub empty_index : IsIndexed [] [] [] empty_text
empty_index = record {
  paths = refl;
  bases = refl;
  placed = record { once = tt; kinds = tt; parents = λ path h. absurd h; few = lit< tt };
}
