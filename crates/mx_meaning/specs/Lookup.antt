-- The look-up of names: in a namespace, in a formula, and through an attribute.
use Rattle.std.specs.Prelude.{[], Option, Some, None}
use Rattle.mx_value.specs.declared.label.Label.{Label}
use Rattle.mx_value.specs.declared.value.Value.{Value, out-Value}
use Rattle.mx_value.specs.declared.value.Segment.TheOpen.{Value-F}
use Rattle.mx_value.specs.declared.namespace.Namespace.{Namespace}
use Rattle.mx_value.specs.declared.read.Read.TheVariants as read
use Rattle.mx_value.specs.declared.fault.FaultKind.TheVariants.{NoName, UnsetLocal, TypeMismatch}
use Rattle.mx_edit.specs.declared.key.Key.TheVariants as key
use Rattle.mx_edit.specs.declared.key.KeyResult.{KeyResult}
use Rattle.mx_edit.specs.declared.key.KeyResult.TheVariants as found
use Rattle.mx_ops.specs.declared.builtin.Builtin.{Builtin}
use Rattle.mx_ops.specs.Kinds.{Content}
use Rattle.mx_ops.specs.Names.{builtin_of}
use Rattle.mx_runs.specs.Runs.{Run, Looks, Notes}
use Rattle.mx_meaning.specs.Namespaces.{child, value_in}
use Rattle.mx_meaning.specs.Walks.{walked}
use Rattle.mx_meaning.specs.Environments.{Env, Reading, fault, local_of}
use Rattle.mx_meaning.specs.References.{space_read, cells_value, reference_read}

-- ---- in a namespace

-- What the source of a namespace binds a name to: cells and children are those at the namespace's address, and a reference
-- counts as read there. Where it binds the name to none of these, what is otherwise.
abbrev pub bound_name : Namespace → Label → Env → (Value → Run) → Run → KeyResult → Run
bound_name ns name env go other found.CellsHere = go (cells_value ns.at name)
bound_name ns name env go other found.Child = space_read (child name ns).at env go
bound_name ns name env go other (found.Ref value owner) = Notes (read.Ref ns.at name) (reference_read value owner ns env go)
bound_name ns name env go other result = other

-- a value of the overlay, which is no key of the run, or else what the source binds the name to
abbrev pub overlaid_or : Option Value → Namespace → Label → Env → (Value → Run) → Run → Run
overlaid_or (Some v) ns name env go other = go v
overlaid_or None ns name env go other = Looks (key.Name ns.source name) (bound_name ns name env go other)

-- a name in a namespace: the overlay first, then the bindings of its source, and otherwise this
abbrev pub sought_in : Namespace → Label → Env → (Value → Run) → Run → Run
sought_in ns name = overlaid_or (value_in ns.overlay name) ns name

-- ---- in a formula

-- what a name or another part stands for: a value, or a function that a formula can always call
pub data Callee : Type 0 where
  Called : Value → Callee
  Function : Builtin → Callee

-- how a part is read that may be called
abbrev pub Part : Type 0
Part = Env → (Callee → Run) → Run

-- a name that is found nowhere can be called where it is a builtin's
abbrev pub builtin_or_none : Option Builtin → Part
builtin_or_none (Some b) env go = go (Function b)
builtin_or_none None env go = fault NoName env

-- a reference of the model, whose targets are as written
abbrev pub global_found : Label → Env → (Callee → Run) → KeyResult → Run
global_found name env go (found.Ref value owner) =
    Notes (read.Global name) (reference_read value [] env.namespace env (λ v. go (Called v)))
global_found name env go other = builtin_or_none (builtin_of name) env go

-- a name that is no local: in the namespace of the formula, then among the references of the model
abbrev pub sought : Label → Part
sought name env go =
    sought_in env.namespace name env (λ v. go (Called v)) (Looks (key.Global name) (global_found name env go))

-- a local has to be set before it is read
abbrev pub local_or : Option (Option Value) → Label → Part
local_or (Some (Some v)) name env go = go (Called v)
local_or (Some None) name env go = fault UnsetLocal env
local_or None name env go = sought name env go

-- a name in a formula: a local, or what is sought
abbrev pub named : Label → Part
named name env go = local_or (local_of env.locals name) name env go

-- a part as a value: a builtin is none
abbrev pub as_value : Callee → Reading
as_value (Called v) env go = go v
as_value (Function b) env go = fault NoName env

abbrev pub valued : Part → Reading
valued part env go = part env (λ c. as_value c env go)

-- ---- through an attribute

-- a name through a space: the walk of its address, then its overlay and the bindings of its source alone
abbrev pub attribute_in : Content → Label → Reading
attribute_in (Value-F.Space at) name env go = walked at (λ ns. sought_in ns name env go (fault NoName env))
attribute_in content name env go = fault TypeMismatch env

abbrev pub attribute : Value → Label → Reading
attribute v name env go = attribute_in (out-Value v) name env go
