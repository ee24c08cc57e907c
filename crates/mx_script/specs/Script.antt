-- The lines of a script, and its commands, whose words are given.
use Rattle.std.specs.Prelude.{◌≡◌, ◌≢◌, ℕ, ◌+◌, ◌-◌, ◌==◌, ◌||◌, length, take, slice_index, map, Bool, true, List, [], ◌∷◌, ◌++◌, Option, None, Some, if◌then◌else◌, option_to_list}
use Rattle.std.specs.List.{concat, AllByRecursion}
use Rattle.mx_words.specs.declared.table.CommandWord.{CommandWord}
use Rattle.mx_words.specs.Texts.{behind_spaces}
use Rattle.mx_words.specs.Words.{takes_lines}

-- the lines that LF ends, and what stands after the last of them
pub record Lines : Type 0 where
  pub whole : List (List ℕ)
  pub rest : List ℕ

-- a byte in front goes onto the first line
abbrev pub onto : ℕ → List (List ℕ) → List ℕ → Lines
onto b [] rest = record { whole = []; rest = b ∷ rest }
onto b (l ∷ ls) rest = record { whole = (b ∷ l) ∷ ls; rest = rest }

abbrev pub split_lines : List ℕ → Lines
split_lines [] = record { whole = []; rest = [] }
split_lines (b ∷ bs) = if b == 10 then record { whole = [] ∷ (split_lines bs).whole; rest = (split_lines bs).rest } else onto b (split_lines bs).whole (split_lines bs).rest

abbrev pub HasNoLf : List ℕ → Type 0
HasNoLf bytes = AllByRecursion (λ b. b ≢ 10) bytes

-- What the lines of a script are: with an LF behind each they give the script back, and no LF stands in one.
pub record AreLines (script : List ℕ) (lines : Lines) : Type 0 where
  pub joined : concat (map (λ (l : List ℕ). l ++ 10 ∷ []) lines.whole) ++ lines.rest ≡ script
  pub whole : AllByRecursion HasNoLf lines.whole
  pub rest : HasNoLf lines.rest

-- what a script has after its last LF is a line too, if it is not empty
abbrev pub last_line : List ℕ → List (List ℕ)
last_line [] = []
last_line (b ∷ bs) = (b ∷ bs) ∷ []

-- without a CR at its end
abbrev pub without_cr : List ℕ → List ℕ
without_cr line = if slice_index line (length line - 1) == 13 then take (length line - 1) line else line

-- nothing, or a comment
abbrev pub is_blank : List ℕ → Bool
is_blank [] = true
is_blank (b ∷ bs) = b == 35

-- A line that goes on with a command before it: empty, or it begins with a space or a `#`.
abbrev pub goes_on : List ℕ → Bool
goes_on [] = true
goes_on (b ∷ bs) = (b == 32) || (b == 35)

-- a command: the number of its first line, from 1, and its lines without their CR, joined by LF
pub record Command : Type 0 where
  pub number : ℕ
  pub text : List ℕ

-- the commands that are complete after a line, and the one that may go on
pub record Taken : Type 0 where
  pub done : List Command
  pub pending : Option Command

-- a line that goes on with nothing before it
abbrev pub started : List CommandWord → ℕ → List ℕ → Taken
started words number line =
    if is_blank (behind_spaces line) then record { done = []; pending = None }
    else if takes_lines words (behind_spaces line) then record { done = []; pending = Some (record { number = number; text = line }) }
    else record { done = record { number = number; text = line } ∷ []; pending = None }

-- the next line, with the command before it that it may go on with
abbrev pub taken : List CommandWord → ℕ → Option Command → List ℕ → Taken
taken words number None line = started words number (without_cr line)
taken words number (Some c) line =
    if goes_on (without_cr line) then record { done = []; pending = Some (record { number = c.number; text = c.text ++ 10 ∷ without_cr line }) }
    else record { done = c ∷ (started words number (without_cr line)).done; pending = (started words number (without_cr line)).pending }

-- the commands that are complete after these lines, the first of which has this number
abbrev pub complete : List CommandWord → ℕ → Option Command → List (List ℕ) → List Command
complete words number pending [] = []
complete words number pending (l ∷ ls) = (taken words number pending l).done ++ complete words (number + 1) (taken words number pending l).pending ls

abbrev pub pending_after : List CommandWord → ℕ → Option Command → List (List ℕ) → Option Command
pending_after words number pending [] = pending
pending_after words number pending (l ∷ ls) = pending_after words (number + 1) (taken words number pending l).pending ls

-- the commands that are complete in bytes that may go on
abbrev pub complete_commands : List CommandWord → List ℕ → List Command
complete_commands words read = complete words 1 None (split_lines read).whole

-- all lines of a script
abbrev pub lines_of : List ℕ → List (List ℕ)
lines_of script = (split_lines script).whole ++ last_line (split_lines script).rest

-- all commands of lines, the first of which has this number, behind one that may go on
abbrev pub commands_from : List CommandWord → ℕ → Option Command → List (List ℕ) → List Command
commands_from words number pending lines = complete words number pending lines ++ option_to_list (pending_after words number pending lines)

-- all commands of a script
abbrev pub commands : List CommandWord → List ℕ → List Command
commands words script = commands_from words 1 None (lines_of script)

-- the second list begins with the first
pub record GrowsTo (cs ds : List Command) : Type 0 where
  pub more : List Command
  pub is : ds ≡ cs ++ more
