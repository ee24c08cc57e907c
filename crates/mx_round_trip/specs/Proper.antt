-- Which nodes may be handed to the engine: what their arguments and their addresses are.
use Rattle.std.specs.Prelude.{◌≡◌, ◌≢◌, ℕ, ◌≤◌, true, List, [], ◌∷◌, ◌++◌, All}
use Rattle.mx_value.specs.declared.value.Value.{Value}
use Rattle.mx_value.specs.declared.value.Value.TheVariants as value
use Rattle.mx_value.specs.declared.value.Segment.{Segment}
use Rattle.mx_value.specs.declared.value.Segment.TheVariants as segment
use Rattle.mx_value.specs.declared.node.Node.{Node}
use Rattle.mx_value.specs.declared.node.Node.TheVariants as node
use Rattle.mx_value.specs.Plain.{is_plain}
use Rattle.mx_value.specs.Size.{size_of}
use Rattle.mx_value.specs.Nesting.{nesting_of}

-- a value that may be an argument
pub record IsArgument (x : Value) : Type 0 where
  pub plain : is_plain x ≡ true
  pub size : size_of x ≤ 1000000
  pub nesting : nesting_of x ≤ 64

-- Names from the top, each maybe with the arguments of one item behind it: no item stands first, and none directly behind another.
pub data AreSteps : List Segment → Type 0 where
  none : AreSteps []
  name : {a : List Segment} (n : List ℕ) → AreSteps a → AreSteps (segment.Name n ∷ a)
  item : {a : List Segment} (n : List ℕ) (xs : List Value) → All IsArgument xs → AreSteps a → AreSteps (segment.Name n ∷ segment.Item xs ∷ a)

pub record IsAddress (a : List Segment) : Type 0 where
  pub some : a ≢ []
  pub steps : AreSteps a
  pub size : size_of (value.Space a) ≤ 1000000

-- The item of an item node stands behind a name too.
abbrev pub IsProper : Node → Type 0
IsProper (node.Cell at own arguments) = IsAddress at × All IsArgument arguments
IsProper (node.Item at arguments) = IsAddress at × AreSteps (at ++ segment.Item arguments ∷ []) × All IsArgument arguments
