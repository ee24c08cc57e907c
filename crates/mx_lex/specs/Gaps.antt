-- The spaces inside a line, which give nothing.
use Rattle.std.specs.Prelude.{ℕ, Bool, false, ◌&&◌, ◌==◌, List, [], ◌∷◌}
use Rattle.mx_lex.specs.Heads.{is_inside}
use Rattle.mx_lex.specs.declared.line.Line.{Line}

-- a space comes next inside a line
abbrev pub is_gap : Line → List ℕ → Bool
is_gap line [] = false
is_gap line (b ∷ bs) = is_inside line.phase && b == 32
