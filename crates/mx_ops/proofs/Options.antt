-- Options that hold a value exactly where something is so.
use Rattle.std.proofs.Common.{◌≡◌, Option, Some, None, sym, ◌∙◌, rules}
use Rattle.std.specs.Option.{IsSome, SomeIff}

pub is_there : {T : Type 0} (x : Option T) (P : Type 0) (v : T) → SomeIff x P v → P → IsSome x
is_there (Some y) P v h p = search rules
is_there None P v h p = absurd (h p)

pub is_value : {T : Type 0} (x : Option T) (P : Type 0) (v y : T) → SomeIff x P v → x ≡ Some y → y ≡ v
is_value (Some z) P v y h e = let same : z ≡ y = cc in sym same ∙ h.1
is_value None P v y h e = absurd (cc)
