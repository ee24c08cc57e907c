-- Laws of what is read and written.
use Rattle.std.specs.Prelude.{◌≡◌, ◌≢◌, ◌⊎◌, List, Option, Some, Ok}
use Rattle.std.specs.FinMap as finite
use Rattle.mx_outside.specs.Files.{FileMap}
use Rattle.mx_print.specs.Texts.{Text}
use Rattle.mx_c3.specs.Lists.{Has}
use Rattle.mx_model.specs.Records.{ModelRecord}
use Rattle.mx_paths.specs.Names.{IsNamed}
use Rattle.mx_limit_laws.specs.Texts.{HasSmallFormulas}
use Rattle.mx_project.specs.Folder.{in_folder}
use Rattle.mx_project.specs.Writing.{File, IsProjectText, IsBroken}
use Rattle.mx_project.specs.Reading.{IsReadAs}

-- ---- reads

-- the spaces of a model that a folder says have names
abbrev pub ReadsAreNamed : Type 0
ReadsAreNamed = (files : Option FileMap) (folder : Text) (made : ModelRecord) → IsReadAs files folder (Ok made) → IsNamed made

-- and its formulas and parameter lists small literals, as an engine wants them
abbrev pub ReadsAreSmall : Type 0
ReadsAreSmall = (files : Option FileMap) (folder : Text) (made : ModelRecord) → IsReadAs files folder (Ok made) → HasSmallFormulas made

-- ---- writes

-- a file is as before, or is whole
abbrev pub IsOldOrWhole : FileMap → FileMap → Text → List File → Text → Type 0
IsOldOrWhole old new folder files name =
    (finite.get new name ≡ finite.get old name) ⊎ ((f : File) × Has files f × (name ≡ in_folder folder f.name) × (finite.get new name ≡ Some f.bytes))

-- each file is as before, is whole, or is the one whose write failed
pub record LeavesKnown (text : ModelRecord) (folder : Text) (old new : FileMap) : Type 0 where
  pub files : List File
  pub are : IsProjectText text files
  pub broken : File
  pub among : Has files broken
  pub others : (name : Text) → name ≢ in_folder folder broken.name → IsOldOrWhole old new folder files name

abbrev pub FaultsLeaveKnown : Type 0
FaultsLeaveKnown = (text : ModelRecord) (folder : Text) (old new : FileMap) → IsBroken text folder (Some old) (Some new) → LeavesKnown text folder old new
