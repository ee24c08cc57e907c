-- The namespace of an address without an item.
use Rattle.std.specs.Prelude.{◌≡◌, ◌≤◌, List, [], length, Some}
use Rattle.mx_value.specs.declared.value.Segment.{Segment}
use Rattle.mx_value.specs.declared.namespace.Namespace.{Namespace}
use Rattle.mx_model.specs.Inputs.{path_of}

-- this is the namespace of an address without an item
pub record IsAt (ns : Namespace) (at : List Segment) : Type 0 where
  pub same : ns.at ≡ at
  pub names : path_of at ≡ Some ns.source
  pub alone : ns.overlay ≡ []
  pub few : length at ≤ 64
  pub some : at ≡ [] → ⊥
