-- What layers bind a name to, as a look-up tells it.
use Rattle.std.specs.Prelude.{◌≡◌, ◌<◌, length, Option, Some, None, option_map, option_and_then}
use Rattle.mx_c3.specs.declared.space.SpaceId.{SpaceId}
use Rattle.mx_model.specs.declared.lookup.Binding.{Binding}
use Rattle.mx_model.specs.declared.lookup.Binding.TheVariants as bound
use Rattle.mx_model.specs.declared.kind.Kind.{Kind}
use Rattle.mx_model.specs.declared.kind.Kind.TheVariants as kind
use Rattle.mx_model.specs.Records.{Name, ModelRecord}
use Rattle.mx_model.specs.Layers.{space_of}
use Rattle.mx_model.specs.Binding.{Member, Cells, Reference, Child, own_member}

abbrev pub kind_of : Member → Kind
kind_of (Cells cells) = kind.Cells
kind_of (Reference value owner) = kind.Reference
kind_of Child = kind.Child

-- what a space has itself of a name
abbrev pub member_in : ModelRecord → SpaceId → Name → Option Member
member_in text s name = option_and_then (own_member text name) (space_of text s)

abbrev pub kind_in : ModelRecord → SpaceId → Name → Option Kind
kind_in text s name = option_map kind_of (member_in text s name)

-- a name is bound to what this space has of it, which is of this kind
pub record IsBoundAt (text : ModelRecord) (name : Name) (s : SpaceId) (k : Kind) (member : Option Member) : Type 0 where
  pub within : s.0 < length text.spaces
  pub is : member ≡ member_in text s name
  pub of_kind : kind_in text s name ≡ Some k

-- what a name is bound to: cells and a reference with the layer that has them, a child, or nothing
abbrev pub IsBinding : ModelRecord → Name → Binding → Option Member → Type 0
IsBinding text name (bound.CellsHere owner) member = IsBoundAt text name owner kind.Cells member
IsBinding text name (bound.Ref owner) member = IsBoundAt text name owner kind.Reference member
IsBinding text name bound.Child member = member ≡ Some Child
IsBinding text name bound.Missing member = member ≡ None

-- the binding to what a space has of this kind
abbrev pub bound_as : Kind → SpaceId → Binding
bound_as kind.Cells s = bound.CellsHere s
bound_as kind.Reference s = bound.Ref s
bound_as kind.Child s = bound.Child
