-- What holds of a world.
use Rattle.std.proofs.Common.{◌≡◌, List, length, Some, sym, ◌∙◌, ap, subst}
use Rattle.std.proofs.lemmas.Option.{same_Some}
use Rattle.mx_c3.specs.declared.space.SpaceId.{SpaceId}
use Rattle.mx_c3.specs.InOrder.{AllBelow}
use Rattle.mx_edit.specs.declared.refusal.EditRefusal.{EditRefusal}
use Rattle.mx_model.specs.Records.{Path, ModelRecord, beginning}
use Rattle.mx_model.specs.declared.layers.Layered.TheVariants.{Layers}
use Rattle.mx_model.specs.Layers.{layers}
use Rattle.mx_model.specs.Walk.{Meets}
use Rattle.mx_model.specs.Valid.{Valid}
use Rattle.mx_model.proofs.LookupLemmas.{layers_below}
use Rattle.mx_paths.specs.declared.id.PathId.{PathId}
use Rattle.mx_paths.specs.Table.{Row, path_at, layers_at, IsFoundIn, IsLayered}
use Rattle.mx_world.specs.World.{IsWorld}
use Rattle.mx_world.proofs.Beginning.{begins_valid}

pub found_layers : (text shown : ModelRecord) (rows : List Row) (path : Path) (id : PathId) (spaces : List SpaceId) → text ≡ shown → IsFoundIn text rows path (Some id) → layers_at rows id ≡ Some spaces → layers shown path ≡ Layers spaces
found_layers text shown rows path id spaces v found at =
    let same = same_Some found.0 spaces (sym found.2 ∙ at) in
    subst (λ (t : ModelRecord). layers t path ≡ Layers spaces) v (found.1 ∙ ap Layers same)

pub numbered_layers : (text shown : ModelRecord) (rows : List Row) (path : Path) (id : PathId) (spaces : List SpaceId) → text ≡ shown → path_at rows id ≡ Some path → IsLayered text rows id spaces → layers shown path ≡ Layers spaces
numbered_layers text shown rows path id spaces v at l =
    let same = same_Some l.path path (sym l.at ∙ at) in
    subst (λ (t : ModelRecord). layers t path ≡ Layers spaces) v (subst (λ (p : Path). layers text p ≡ Layers spaces) same l.is)

pub below : (text shown : ModelRecord) (rows : List Row) (path : Path) (spaces : List SpaceId) → text ≡ shown → IsWorld text rows → layers shown path ≡ Layers spaces → AllBelow (length text.spaces) spaces
below text shown rows path spaces v is e =
    layers_below text path spaces is.valid (subst (λ (t : ModelRecord). layers t path ≡ Layers spaces) (sym v) e)

pub first_valid : (text : ModelRecord) → text ≡ beginning → Valid text
first_valid text e = subst Valid (sym e) begins_valid

pub meets_not : (text : ModelRecord) (why : EditRefusal) → text ≡ beginning → Meets text why → ⊥
meets_not text why e m = (first_valid text e).walked m.path why m.static m.meets
