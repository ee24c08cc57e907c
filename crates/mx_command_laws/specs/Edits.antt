-- The edits that the texts of commands say.
use Rattle.std.specs.Prelude.{ℕ, List, Ok}
use Rattle.mx_edit.specs.declared.edit.Edit.{Edit}
use Rattle.mx_words.specs.declared.command.Command.TheVariants as command
use Rattle.mx_words.specs.declared.table.CommandWord.{CommandWord}
use Rattle.mx_script.specs.Commands.{ReadsAs}
use Rattle.mx_model.specs.Literals.{IsRead}

-- whichever words there are, an edit that a text says is one that was read
abbrev pub EditsAreRead : Type 0
EditsAreRead =
    (words : List CommandWord) (text : List ℕ) (e : Edit)
    → ReadsAs words text (Ok (command.Edit e)) → IsRead e
