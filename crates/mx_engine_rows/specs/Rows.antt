-- What rows ask for is such as the engine's calls take.
use Rattle.mx_edit.specs.declared.edit.Edit.{Edit}
use Rattle.mx_words.specs.declared.command.Command.{Command}
use Rattle.mx_words.specs.declared.command.Command.TheVariants as command
use Rattle.mx_model.specs.Literals.{IsRead}
use Rattle.mx_limit_laws.specs.Texts.{HasSmallFormula}

-- an edit has a formula that was read, whose literals are small
pub record IsFitEdit (e : Edit) : Type 0 where
  pub read : IsRead e
  pub small : HasSmallFormula e

abbrev pub IsFitCommand : Command → Type 0
IsFitCommand (command.Edit e) = IsFitEdit e
IsFitCommand k = Unit {0}
