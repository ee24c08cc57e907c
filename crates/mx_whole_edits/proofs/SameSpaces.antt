-- Texts with the same spaces have the same rings.
use Rattle.std.proofs.Common.{◌≡◌, List, [], ◌∷◌, map, inl, inr, sym, subst}
use Rattle.std.specs.Prelude.{IsTrue, is_some}
use Rattle.mx_c3.specs.Lists.{Has}
use Rattle.mx_model.specs.Records.{Path, SpaceRecord, ModelRecord}
use Rattle.mx_model.specs.Layers.{id_in}
use Rattle.mx_model.specs.Rings.{IsDefined, HasBase, HasChild, Leads, LeadsThrough, IsRing, HasNoRing}

module _ (text text' : ModelRecord) (same : text'.spaces ≡ text.spaces) where
  pub defined_as : (path : Path) → IsDefined text path → IsDefined text' path
  defined_as path d = let P : List SpaceRecord → Type 0 = λ zs. IsTrue (is_some (id_in (map (λ (s : SpaceRecord). s.path) zs) path)) in subst P (sym same) d

  base_as : (path base : Path) → HasBase text path base → HasBase text' path base
  base_as path base h = record { space = h.space; has = let P : List SpaceRecord → Type 0 = λ zs. Has zs h.space in subst P (sym same) h.has; at = h.at; among = h.among }

  child_as : (path child : Path) → HasChild text path child → HasChild text' path child
  child_as path child h = record { name = h.name; at = h.at; defined = defined_as child h.defined }

  step_as : (from to : Path) → Leads text from to → Leads text' from to
  step_as from to l = (defined_as from l.0, elim l.1 [ inl c ↦ inl (child_as from to c) | inr b ↦ inr (base_as from to b) ])

  way_as : (from : Path) (paths : List Path) (to : Path) → LeadsThrough text from paths to → LeadsThrough text' from paths to
  way_as from [] to l = step_as from to l
  way_as from (next ∷ paths) to l = (step_as from next l.0, way_as next paths to l.1)

  pub ring_as : (ring : List Path) → IsRing text ring → IsRing text' ring
  ring_as [] r = r
  ring_as (path ∷ paths) r = (r.0, way_as path paths path r.1)

  pub ringless_as : HasNoRing text' → HasNoRing text
  ringless_as none path paths l = none path paths (way_as path paths path l)
