use Rattle.std.proofs.Common.{ℕ, zero, suc, List, [], ◌∷◌, All, arith}
use Rattle.std.specs.Str.{IsAscii}
use Rattle.std.proofs.lemmas.Str.{IsUtf8-from_ascii}
use Rattle.std.proofs.lemmas.List.Elements.{All-head, All-tail}
use Rattle.mx_value.specs.Label.{IsPrintable}
use Rattle.mx_project.proofs.found.text_of.Goals as goal

are_ascii : (bs : List ℕ) → All IsPrintable bs → IsAscii bs
are_ascii [] h i = omega arith
are_ascii (b ∷ bs) h zero = omega (arith, (All-head IsPrintable b bs h).1)
are_ascii (b ∷ bs) h (suc i) = are_ascii bs (All-tail IsPrintable b bs h) i

pub unreachable-requires : goal.unreachable-requires
unreachable-requires c = c.in-Err.ensures.cases.0 (rw c.as_slice.ensures.value (IsUtf8-from_ascii c.args.name.now (are_ascii c.args.name.now c.as_slice.ensures.printable)))
