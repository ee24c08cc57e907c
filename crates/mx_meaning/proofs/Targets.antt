-- Where targets lead.
use Rattle.std.proofs.Common.{◌≡◌, Bool, List, [], ◌∷◌, ◌++◌, Some, None, if◌then◌else◌, refl, ap, ◌∙◌}
use Rattle.mx_value.proofs.Enums.{text_decides}
use Rattle.mx_value.specs.declared.label.Label.{Label}
use Rattle.mx_meaning.specs.References.{behind, target_of}
use Rattle.mx_meaning.specs.Laws.{RelativeTargets, FixedTargets, ModelTargets}

-- what lies behind a path
rest_behind : (owner rest : List Label) → behind owner (owner ++ rest) ≡ Some rest
rest_behind [] rest = refl
rest_behind (n ∷ owner) rest = ap (λ (b : Bool). if b then behind owner (owner ++ rest) else None) ((text_decides n n).1 refl) ∙ rest_behind owner rest

pub relative_targets : RelativeTargets
relative_targets ns first owner rest = ap (target_of ns (first ∷ owner ++ rest)) (rest_behind (first ∷ owner) rest)

pub fixed_targets : FixedTargets
fixed_targets ns owner path = refl

pub model_targets : ModelTargets
model_targets ns path = refl
