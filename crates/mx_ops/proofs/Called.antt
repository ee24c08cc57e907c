-- Functions by their names.
use Rattle.std.proofs.Common.{◌≡◌, ℕ, Bool, true, false, ◌==◌, if◌then◌else◌, List, Option, Some, None, refl, ◌∙◌, ap}
use Rattle.std.specs.Cmp.{unsigned_Decides}
use Rattle.std.specs.Cmp.Lexicographic.{pointwise, pointwise_decides}
use Rattle.mx_ops.specs.declared.builtin.Builtin.{Builtin}
use Rattle.mx_ops.specs.declared.builtin.Builtin.TheVariants as made
use Rattle.mx_ops.specs.Names.{name_of, or_else, NamesAreFound, FoundByName}

pub found : NamesAreFound
found made.Abs = refl
found made.All = refl
found made.Any = refl
found made.Fixed = refl
found made.Int = refl
found made.Len = refl
found made.Max = refl
found made.Min = refl
found made.Nroot = refl
found made.Range = refl
found made.Round = refl
found made.Str = refl
found made.Sum = refl
found made.Tuple = refl

-- what is found is the first function or is found behind it
either : (name : List ℕ) (a b : Builtin) (rest : Option Builtin) (t : Bool) → (t ≡ true → name ≡ name_of a) → (rest ≡ Some b → name ≡ name_of b) → (if t then Some a else rest) ≡ Some b → name ≡ name_of b
either name a b rest true f g e = let same : a ≡ b = cc in f refl ∙ ap name_of same
either name a b rest false f g e = g e

step : (name : List ℕ) (a b : Builtin) (rest : Option Builtin) → (rest ≡ Some b → name ≡ name_of b) → or_else name a rest ≡ Some b → name ≡ name_of b
step name a b rest g e = either name a b rest (pointwise ◌==◌ name (name_of a)) (pointwise_decides unsigned_Decides name (name_of a)).0 g e

none : (name : List ℕ) (b : Builtin) → None ≡ Some b → name ≡ name_of b
none name b e = absurd (cc)

pub named : FoundByName
named name b =
    step name made.Abs b _ (step name made.All b _ (step name made.Any b _ (step name made.Fixed b _ (step name made.Int b _ (step name made.Len b _ (step name made.Max b _
    (step name made.Min b _ (step name made.Nroot b _ (step name made.Range b _ (step name made.Round b _ (step name made.Str b _ (step name made.Sum b _ (step name made.Tuple b _ (none name b))))))))))))))
