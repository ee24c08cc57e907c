-- At which bytes of a text a bracket or an indent may open.
use Rattle.std.specs.Prelude.{ℕ, Bool, ◌||◌, ◌==◌, List}
use Rattle.std.specs.List.{count_by}

-- `(`, `[` or `{`
abbrev pub is_bracket : ℕ → Bool
is_bracket b = b == 40 || b == 91 || b == 123

-- an opening bracket, or the end of a line or the beginning of a comment, behind which an indented line may begin
abbrev pub may_open : ℕ → Bool
may_open b = is_bracket b || (b == 10 || b == 35)

abbrev pub openings : List ℕ → ℕ
openings text = count_by may_open text
