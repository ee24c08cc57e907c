-- The run of each node, in bound form: the walk of its address, then its formula.
use Rattle.std.specs.Prelude.{Bool, if◌then◌else◌, List, [], ◌∷◌, ◌++◌, map, Option, Some, None}
use Rattle.mx_value.specs.declared.label.Label.{Label}
use Rattle.mx_value.specs.declared.value.Value.{Value, out-Value}
use Rattle.mx_value.specs.declared.value.Value.TheVariants.{Nothing, Space}
use Rattle.mx_value.specs.declared.value.Segment.{Segment}
use Rattle.mx_value.specs.declared.value.Segment.TheOpen.{Value-F}
use Rattle.mx_value.specs.declared.namespace.Namespace.{Namespace}
use Rattle.mx_value.specs.declared.node.Node.{Node}
use Rattle.mx_value.specs.declared.node.Node.TheVariants.{Cell, Item}
use Rattle.mx_value.specs.declared.fault.FaultKind.TheVariants.{NoneReturned, BadItem}
use Rattle.mx_syntax.specs.Lists.{flat}
use Rattle.mx_syntax.specs.Locals.{bound_by, add_all}
use Rattle.mx_syntax.specs.declared.stmt.Stmt.{Stmt}
use Rattle.mx_syntax.specs.declared.stmt.Param.{Param}
use Rattle.mx_edit.specs.declared.key.Key.TheVariants as key
use Rattle.mx_edit.specs.declared.key.KeyResult.{KeyResult}
use Rattle.mx_edit.specs.declared.key.KeyResult.TheVariants as found
use Rattle.mx_ops.specs.Kinds.{Content}
use Rattle.mx_runs.specs.Runs.{Run, Ends, Looks, Gives, Faults, NoSuch}
use Rattle.mx_runs.specs.Inputs.{is_static}
use Rattle.mx_meaning.specs.Namespaces.{Overlay, overlaid_by, ends_with_name, is_allowed, names_of, item_at}
use Rattle.mx_meaning.specs.Walks.{walked, bound_or_refused}
use Rattle.mx_meaning.specs.Environments.{Env, Locals}
use Rattle.mx_meaning.specs.Statements.{Returned, Plain, Display, body_done}

-- ---- where a formula begins

-- the parameters with their arguments
abbrev pub arguments_of : List Param → List Value → Overlay
arguments_of [] args = []
arguments_of (p ∷ ps) [] = []
arguments_of (p ∷ ps) (v ∷ vs) = (p.name, v) ∷ arguments_of ps vs

-- each as a local that is set
abbrev pub set_locals : Overlay → Locals
set_locals given = map (λ (o : Label × Value). (o.0, Some o.1)) given

-- the names that the statements bind, which are not set yet
abbrev pub unset_locals : List Stmt → Locals
unset_locals body = map (λ (name : Label). (name, None)) (add_all [] (flat (map bound_by body)))

-- A formula begins in the namespace of its space, at line 1, with its parameters set. A name that the body binds and that
-- is no parameter is a local that is not set.
abbrev pub first_env : Node → Namespace → Overlay → List Stmt → Env
first_env n ns given body = record { node = n; namespace = ns; line = 1; locals = set_locals given ++ unset_locals body }

-- ---- cells

-- the end of a run with this value
abbrev pub value_given : Value → Run
value_given v = Ends (Gives (record { value = v; namespace = None }))

-- What cells return is their value. None is a fault of the first line unless they allow it. No cells return a display.
abbrev pub cells_returned : Bool → Node → Returned → Run
cells_returned allow n (Plain Nothing) = if allow then value_given Nothing else Ends (Faults NoneReturned n 1)
cells_returned allow n (Plain v) = value_given v
cells_returned allow n (Display refs base) = Ends (Faults BadItem n 1)

-- by what the cells are: their formula, with the arguments as its parameters bind them, or no such node
abbrev pub cells_found : Node → Namespace → List Value → KeyResult → Run
cells_found n ns args (found.Formula f allow) =
    bound_or_refused f.params args (λ vs.
    body_done f.body (first_env n ns (arguments_of f.params vs) f.body) (cells_returned allow n))
cells_found n ns args other = Ends NoSuch

-- the run of cells without an input: the walk of their address, then their formula
abbrev pub cells_run : Node → List Segment → Label → List Value → Run
cells_run n at name args = walked at (λ ns. Looks (key.Cells ns.source name) (cells_found n ns args))

-- the value that was put in, or else the run of the formula
abbrev pub input_or : Run → KeyResult → Run
input_or run (found.Value v) = value_given v
input_or run other = run

-- an address without items can have an input, which is looked up before all else
abbrev pub unless_input : Node → List Segment → Run → Run
unless_input n at run = if is_static at then Looks (key.Input n) (input_or run) else run

-- ---- items

-- The item of a space with these arguments: the space at the address with one more segment. Its source is given, and its
-- overlay is that of the space called, then the parameters, then references.
abbrev pub item_given : Namespace → List Value → Overlay → List Label → Run
item_given ns args over source =
    let space : Namespace = record { at = item_at ns args; source = source; overlay = over } in
    Ends (Gives (record { value = Space space.at; namespace = Some space }))

-- the source that a base gives: the path of a space without items in its address
abbrev pub path_in : Content → Option (List Label)
path_in (Value-F.Space at) = names_of at
path_in other = None

-- on with a source; without one there is no item
abbrev pub source_or_fault : Option (List Label) → Node → (List Label → Run) → Run
source_or_fault (Some source) n go = go source
source_or_fault None n go = Ends (Faults BadItem n 1)

-- the source that a base gives, or the one of the space called where there is none
abbrev pub based : Option Value → Namespace → Node → (List Label → Run) → Run
based None ns n go = go ns.source
based (Some v) ns n go = source_or_fault (path_in (out-Value v)) n go

-- What a parameter formula returns makes the item: None adds nothing to its parameters, a display adds its references and
-- may give a base, and any other value makes none.
abbrev pub item_returned : Node → Namespace → List Value → Overlay → Returned → Run
item_returned n ns args given (Plain Nothing) = item_given ns args (overlaid_by ns.overlay given) ns.source
item_returned n ns args given (Plain v) = Ends (Faults BadItem n 1)
item_returned n ns args given (Display refs base) =
    based base ns n (item_given ns args (overlaid_by (overlaid_by ns.overlay given) refs))

-- a space without a parameter formula makes its items as one that returns None
abbrev pub item_done : Option (List Stmt) → Node → Namespace → List Value → Overlay → Run
item_done None n ns args given = item_returned n ns args given (Plain Nothing)
item_done (Some body) n ns args given = body_done body (first_env n ns given body) (item_returned n ns args given)

-- an item whose space would be too large is no node
abbrev pub item_made : Option (List Stmt) → List Param → Node → Namespace → List Value → Run
item_made body params n ns args =
    if is_allowed (item_at ns args) then item_done body n ns args (arguments_of params args) else Ends NoSuch

-- by what the space is: one with parameters, which bind the arguments, or no such node
abbrev pub item_found : Node → Namespace → List Value → KeyResult → Run
item_found n ns args (found.Params ps) = bound_or_refused ps.params args (item_made ps.body ps.params n ns)
item_found n ns args other = Ends NoSuch

-- the run of an item in the namespace of the space called, which has to be one whose address ends with a name
abbrev pub item_run : Node → List Value → Namespace → Run
item_run n args ns = if ends_with_name ns.at then Looks (key.Params ns.source) (item_found n ns args) else Ends NoSuch

-- ---- nodes

-- the run of a node in bound form
abbrev pub body : Node → Run
body (Cell at name args) = unless_input (Cell at name args) at (cells_run (Cell at name args) at name args)
body (Item at args) = walked at (item_run (Item at args) args)
