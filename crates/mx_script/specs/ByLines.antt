-- The commands of a script, said by its lines.
use Rattle.std.specs.Prelude.{◌≡◌, ℕ, ◌+◌, true, false, List, [], ◌∷◌, ◌++◌, length, map, Option, option_to_list}
use Rattle.std.specs.List.{concat, AllByRecursion}
use Rattle.mx_words.specs.declared.table.CommandWord.{CommandWord}
use Rattle.mx_words.specs.Texts.{behind_spaces}
use Rattle.mx_words.specs.Words.{takes_lines}
use Rattle.mx_script.specs.Script.{Command, split_lines, lines_of, without_cr, is_blank, goes_on}

-- a line and those behind it, each without the CR at its end, joined by LF
abbrev pub with_lines : List ℕ → List (List ℕ) → List ℕ
with_lines line more = line ++ concat (map (λ (l : List ℕ). 10 ∷ without_cr l) more)

abbrev pub GoesOn : List ℕ → Type 0
GoesOn line = goes_on (without_cr line) ≡ true

-- the first of the lines does not go on with a command before it
abbrev pub BeginsAnew : List (List ℕ) → Type 0
BeginsAnew [] = Unit {0}
BeginsAnew (line ∷ lines) = goes_on (without_cr line) ≡ false

-- What the lines say, of which the first has this number: a blank line gives nothing, a line whose word takes further lines is a command
-- with all that go on behind it, and any other line is a command.
pub data AreCommands (words : List CommandWord) : ℕ → List (List ℕ) → List Command → Type 0 where
  none : {n : ℕ} → AreCommands words n [] []
  blank : {n : ℕ} {lines : List (List ℕ)} {cs : List Command} (line : List ℕ) → is_blank (behind_spaces (without_cr line)) ≡ true → AreCommands words (n + 1) lines cs → AreCommands words n (line ∷ lines) cs
  block : {n : ℕ} {lines : List (List ℕ)} {cs : List Command} (line : List ℕ) (more : List (List ℕ)) → is_blank (behind_spaces (without_cr line)) ≡ false → takes_lines words (behind_spaces (without_cr line)) ≡ true
      → AllByRecursion GoesOn more → BeginsAnew lines → AreCommands words (n + 1 + length more) lines cs
      → AreCommands words n (line ∷ (more ++ lines)) (record { number = n; text = with_lines (without_cr line) more } ∷ cs)
  single : {n : ℕ} {lines : List (List ℕ)} {cs : List Command} (line : List ℕ) → is_blank (behind_spaces (without_cr line)) ≡ false → takes_lines words (behind_spaces (without_cr line)) ≡ false
      → AreCommands words (n + 1) lines cs → AreCommands words n (line ∷ lines) (record { number = n; text = without_cr line } ∷ cs)

abbrev pub Words : Type 0
Words = List CommandWord

-- the lines of a script say these commands
abbrev pub Says : Words → List ℕ → List Command → Type 0
Says words script cs = AreCommands words 1 (lines_of script) cs

-- and no others
abbrev pub SaysNoOther : Words → List ℕ → List Command → Type 0
SaysNoOther words script cs = (ds : List Command) → Says words script ds → ds ≡ cs

-- The lines that are whole in bytes that may go on say these commands, and maybe a last one that may go on.
abbrev pub SaysSoFar : Words → List ℕ → List Command → Type 0
SaysSoFar words read cs = (last : Option Command) × AreCommands words 1 (split_lines read).whole (cs ++ option_to_list last)
