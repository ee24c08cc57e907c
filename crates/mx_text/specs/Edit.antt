-- The texts of why an edit was refused.
use Rattle.std.specs.Prelude.{List, [], ◌++◌, codes}
use Rattle.mx_value.specs.declared.label.Label.{Label}
use Rattle.mx_print.specs.Texts.{Text, separated}
use Rattle.mx_edit.specs.declared.refusal.EditRefusal.{EditRefusal}
use Rattle.mx_edit.specs.declared.refusal.EditRefusal.TheVariants as refusal
use Rattle.mx_edit.specs.declared.refusal.Limit.{Limit}
use Rattle.mx_edit.specs.declared.refusal.Limit.TheVariants as limit

abbrev pub limit_text : Limit → Text
limit_text limit.Spaces = codes "Spaces"
limit_text limit.Cells = codes "Cells"
limit_text limit.Refs = codes "Refs"
limit_text limit.Tables = codes "Tables"
limit_text limit.Inputs = codes "Inputs"
limit_text limit.Depth = codes "Depth"
limit_text limit.Layers = codes "Layers"
limit_text limit.Paths = codes "Paths"

-- names with dots between them
abbrev pub path_text : List Label → Text
path_text names = separated (codes ".") names

-- why an edit was refused: its name, and the path or the limit that it names; want of memory has no text
abbrev pub edit_refusal_text : EditRefusal → Text
edit_refusal_text refusal.BadName = codes "BadName"
edit_refusal_text refusal.NoSuchSpace = codes "NoSuchSpace"
edit_refusal_text refusal.NoSuchMember = codes "NoSuchMember"
edit_refusal_text refusal.NameTaken = codes "NameTaken"
edit_refusal_text refusal.WrongCount = codes "WrongCount"
edit_refusal_text refusal.ItemAddress = codes "ItemAddress"
edit_refusal_text refusal.BadValue = codes "BadValue"
edit_refusal_text (refusal.InUse path) = codes "InUse " ++ path_text path
edit_refusal_text (refusal.Cycle paths) = codes "Cycle"
edit_refusal_text (refusal.TooMany l) = codes "TooMany " ++ limit_text l
edit_refusal_text (refusal.NoOrder path) = codes "NoOrder " ++ path_text path
edit_refusal_text refusal.NoMemory = []
