-- The walk of an address: from segment to segment, to the namespace of its space. Names ask nothing; each item is asked.
-- That a static path is not there shows at the key that is read behind the walk.
use Rattle.std.specs.Prelude.{nat_le, if◌then◌else◌, List, [], ◌∷◌, length, Option, Some, None}
use Rattle.mx_value.specs.declared.value.Value.{Value}
use Rattle.mx_value.specs.declared.value.Segment.{Segment, out-Segment}
use Rattle.mx_value.specs.declared.value.Segment.TheOpen.{Segment-F}
use Rattle.mx_value.specs.declared.namespace.Namespace.{Namespace}
use Rattle.mx_value.specs.declared.node.Node.TheVariants.{Item}
use Rattle.mx_syntax.specs.declared.stmt.Param.{Param}
use Rattle.mx_syntax.specs.Binding.{bound, is_wrong_count}
use Rattle.mx_edit.specs.declared.key.Key.TheVariants as key
use Rattle.mx_edit.specs.declared.key.KeyResult.{KeyResult}
use Rattle.mx_edit.specs.declared.key.KeyResult.TheVariants as found
use Rattle.mx_runs.specs.Runs.{Run, Ends, Tests, Asks, NoSuch, WrongCount}
use Rattle.mx_meaning.specs.Namespaces.{Step, root, child, ends_with_name}

-- what comes behind a walk, in the namespace that it comes to
abbrev pub Onward : Type 0
Onward = Namespace → Run

-- on in the namespace of an item node; each item node with a value has one
abbrev pub entered : Option Namespace → Onward → Run
entered (Some ns) go = go ns
entered None go = Ends NoSuch

-- on with the arguments as the parameters bind them; arguments that they don't bind are a wrong count
abbrev pub bound_or_refused : List Param → List Value → (List Value → Run) → Run
bound_or_refused params args go = if is_wrong_count params (length args) then Ends WrongCount else go (bound params args)

-- An item of a space: without parameters there is none, and else the bound item node is asked, and the walk goes on in its
-- namespace.
abbrev pub item_entered : Namespace → List Value → Onward → KeyResult → Run
item_entered ns args go (found.Params ps) =
    bound_or_refused ps.params args (λ vs. Asks (Item ns.at vs) (λ r. entered r.namespace go))
item_entered ns args go other = Ends NoSuch

-- A step from a namespace. A name goes to its child. An item follows a name alone, and is tested before it is asked.
abbrev pub stepped : Step → Namespace → Onward → Run
stepped (Segment-F.Name name) ns go = go (child name ns)
stepped (Segment-F.Item args) ns go =
    if ends_with_name ns.at then Tests (key.Params ns.source) (item_entered ns args go) else Ends NoSuch

-- on through these segments, of which none may be past the 64th of the address
abbrev pub walked_from : List Segment → Namespace → Onward → Run
walked_from [] ns go = go ns
walked_from (s ∷ more) ns go =
    if nat_le 64 (length ns.at) then Ends NoSuch else stepped (out-Segment s) ns (λ next. walked_from more next go)

-- the walk of an address from the top; the empty one leads nowhere
abbrev pub walked : List Segment → Onward → Run
walked [] go = Ends NoSuch
walked (s ∷ more) go = walked_from (s ∷ more) root go
