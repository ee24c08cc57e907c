-- When `==` says that two values are the same.
use Rattle.std.specs.Prelude.{◌≡◌, ◌↔◌, Bool, IsTrue}

-- the test holds exactly of what is the same
abbrev pub TellsApart : {X : Type 0} → (X → X → Bool) → Type 0
TellsApart {X} eq = (a b : X) → IsTrue (eq a b) ↔ (a ≡ b)
