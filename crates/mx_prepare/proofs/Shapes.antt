-- Texts of one shape have the same static paths with the same layers.
use Rattle.std.proofs.Common.{◌≡◌, List, map, sym, ap, ◌∙◌}
use Rattle.std.proofs.lemmas.Simd.{map-map}
use Rattle.std.specs.List.{filter_map}
use Rattle.mx_model.specs.Records.{Path, SpaceRecord, ModelRecord}
use Rattle.mx_model.specs.Layers.{paths_of, id_in, lists_in, base_lists}
use Rattle.mx_paths.specs.Kept.{IsBuiltAlike}
use Rattle.mx_prepare.specs.Shape.{Shape, shape_of}

module _ (text other : ModelRecord) (same : shape_of text ≡ shape_of other) where
  pub same_paths : paths_of text ≡ paths_of other
  same_paths = sym (map-map (λ (p : Path × List Path). p.0) (λ (s : SpaceRecord). (s.path, s.bases)) text.spaces)
      ∙ ap (λ (shape : Shape). map (λ (p : Path × List Path). p.0) shape) same
      ∙ map-map (λ (p : Path × List Path). p.0) (λ (s : SpaceRecord). (s.path, s.bases)) other.spaces

  bases_by : (paths : List Path) → lists_in paths text.spaces ≡ lists_in paths other.spaces
  bases_by paths = sym (map-map (λ (p : Path × List Path). filter_map (id_in paths) p.1) (λ (s : SpaceRecord). (s.path, s.bases)) text.spaces)
      ∙ ap (λ (shape : Shape). map (λ (p : Path × List Path). filter_map (id_in paths) p.1) shape) same
      ∙ map-map (λ (p : Path × List Path). filter_map (id_in paths) p.1) (λ (s : SpaceRecord). (s.path, s.bases)) other.spaces

  same_bases : base_lists text ≡ base_lists other
  same_bases = bases_by (paths_of text) ∙ ap (λ (paths : List Path). lists_in paths other.spaces) same_paths

  pub built_alike : IsBuiltAlike other text
  built_alike = record { paths = same_paths; bases = same_bases }
