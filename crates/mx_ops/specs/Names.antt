-- The names of the functions that a formula can always call.
use Rattle.std.specs.Prelude.{◌≡◌, ℕ, ◌==◌, if◌then◌else◌, List, Option, Some, None, codes}
use Rattle.std.specs.Cmp.Lexicographic.{pointwise}
use Rattle.mx_ops.specs.declared.builtin.Builtin.{Builtin}
use Rattle.mx_ops.specs.declared.builtin.Builtin.TheVariants as made
use Rattle.mx_syntax.specs.declared.op.Op.{Op}
use Rattle.mx_syntax.specs.declared.op.Op.TheVariants as op

abbrev pub name_of : Builtin → List ℕ
name_of made.Abs = codes "abs"
name_of made.All = codes "all"
name_of made.Any = codes "any"
name_of made.Fixed = codes "fixed"
name_of made.Int = codes "int"
name_of made.Len = codes "len"
name_of made.Max = codes "max"
name_of made.Min = codes "min"
name_of made.Nroot = codes "nroot"
name_of made.Range = codes "range"
name_of made.Round = codes "round"
name_of made.Str = codes "str"
name_of made.Sum = codes "sum"
name_of made.Tuple = codes "tuple"

-- the function where the name is its own, else what follows
abbrev pub or_else : List ℕ → Builtin → Option Builtin → Option Builtin
or_else name b rest = if pointwise ◌==◌ name (name_of b) then Some b else rest

abbrev pub later_builtin_of : List ℕ → Option Builtin
later_builtin_of name =
    or_else name made.Min (or_else name made.Nroot (or_else name made.Range (or_else name made.Round (or_else name made.Str (or_else name made.Sum (or_else name made.Tuple None))))))

abbrev pub builtin_of : List ℕ → Option Builtin
builtin_of name =
    or_else name made.Abs (or_else name made.All (or_else name made.Any (or_else name made.Fixed (or_else name made.Int (or_else name made.Len (or_else name made.Max (later_builtin_of name)))))))

abbrev pub NamesAreFound : Type 0
NamesAreFound = (b : Builtin) → builtin_of (name_of b) ≡ Some b

abbrev pub FoundByName : Type 0
FoundByName = (name : List ℕ) (b : Builtin) → builtin_of name ≡ Some b → name ≡ name_of b

-- the operator of a function
abbrev pub op_of : Builtin → Op
op_of made.Abs = op.Abs
op_of made.All = op.All
op_of made.Any = op.Any
op_of made.Fixed = op.Fixed
op_of made.Int = op.Int
op_of made.Len = op.Len
op_of made.Max = op.Max
op_of made.Min = op.Min
op_of made.Nroot = op.Nroot
op_of made.Range = op.Range
op_of made.Round = op.Round
op_of made.Str = op.Str
op_of made.Sum = op.Sum
op_of made.Tuple = op.Tuple
