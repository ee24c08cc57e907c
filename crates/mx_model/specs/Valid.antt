-- Valid model texts.
use Rattle.std.specs.Prelude.{◌≡◌, ◌≤◌, ◌++◌, List, [], IsTrue, map, false, None}
use Rattle.mx_value.specs.Normal.{normal_of}
use Rattle.mx_value.specs.Size.{size_of}
use Rattle.mx_value.specs.declared.value.Value.{Value}
use Rattle.mx_value.specs.declared.node.Node.{Node}
use Rattle.mx_value.specs.declared.node.Node.TheVariants as node
use Rattle.mx_edit.specs.declared.reference.RefValue.{RefValue}
use Rattle.mx_edit.specs.declared.reference.RefValue.TheVariants as ref
use Rattle.mx_c3.specs.Lists.{Has, Distinct}
use Rattle.mx_model.specs.Records.{Name, Path, SpaceRecord, ModelRecord}
use Rattle.mx_model.specs.Paths.{split_last, child_names}
use Rattle.mx_model.specs.Parents.{HasParent}
use Rattle.mx_model.specs.Rings.{IsDefined, HasNoRing}
use Rattle.mx_model.specs.Walk.{MeetsNothing}
use Rattle.mx_model.specs.Counts.{over}
use Rattle.mx_model.specs.Inputs.{fits}
use Rattle.mx_model.specs.Refused.{is_unfit, is_nothing, is_target}

abbrev pub names_of : {X : Type 0} → List (Name × X) → List Name
names_of members = map (λ m. m.0) members

-- the names of the members of one space are distinct, and so are those of the spaces at the top and of the model's references
pub record NamesAreDistinct (text : ModelRecord) : Type 0 where
  pub parents : (s : SpaceRecord) → Has text.spaces s → HasParent text (split_last s.path)
  pub members : (s : SpaceRecord) → Has text.spaces s → Distinct (child_names text s.path ++ names_of s.cells ++ names_of s.references)
  pub top : Distinct (child_names text [] ++ names_of text.globals)
  pub tables : Distinct (names_of text.tables)

-- each base is a defined space, and none is named twice
abbrev pub BasesAreDefined : ModelRecord → Type 0
BasesAreDefined text = (s : SpaceRecord) → Has text.spaces s → Distinct s.bases × ((base : Path) → Has s.bases base → IsDefined text base)

-- a value that may stand in a text
abbrev pub IsKept : Value → Type 0
IsKept value = (is_unfit value ≡ false) × (size_of value ≤ 1000000)

-- the arguments of an input's node are plain and in normal form
abbrev pub IsBound : Node → Type 0
IsBound (node.Cell at name arguments) = (map normal_of arguments ≡ arguments) × ((a : Value) → Has arguments a → is_unfit a ≡ false)
IsBound (node.Item at arguments) = ⊥

-- an input belongs to cells that a static path binds and has as many arguments as these have parameters; its value is kept
-- and not None
pub record IsInput (text : ModelRecord) (input : Node × Value) : Type 0 where
  pub fits : IsTrue (fits text input.0)
  pub bound : IsBound input.0
  pub kept : IsKept input.1
  pub some : is_nothing input.1 ≡ false

pub record InputsFit (text : ModelRecord) : Type 0 where
  pub each : (input : Node × Value) → Has text.inputs input → IsInput text input
  pub once : Distinct (map (λ (input : Node × Value). input.0) text.inputs)

-- a plain value is kept, and a table that is named is there; a target may have gone since
abbrev pub IsReference : ModelRecord → RefValue → Type 0
IsReference text (ref.Plain value) = IsKept value
IsReference text (ref.Table name) = IsTrue (is_target text (ref.Table name))
IsReference text (ref.Target path fixed) = Unit {0}

pub record ReferencesFit (text : ModelRecord) : Type 0 where
  pub globals : (r : Name × RefValue) → Has text.globals r → IsReference text r.1
  pub owned : (s : SpaceRecord) (r : Name × RefValue) → Has text.spaces s → Has s.references r → IsReference text r.1

pub record Valid (text : ModelRecord) : Type 0 where
  pub names : NamesAreDistinct text
  pub bases : BasesAreDefined text
  pub no_ring : HasNoRing text
  pub walked : MeetsNothing text
  pub few : over text ≡ None
  pub inputs : InputsFit text
  pub references : ReferencesFit text
