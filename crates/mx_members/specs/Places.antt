-- The place of a key among others.
use Rattle.std.specs.Prelude.{ℕ, suc, Bool, cond, List, [], ◌∷◌, Option, Some, None, option_map}

-- the place of the first key that passes, from 0
abbrev pub place : {K : Type 0} → (K → Bool) → List K → Option ℕ
place test [] = None
place test (k ∷ ks) = cond (test k) (Some 0) (option_map suc (place test ks))
