-- Walks, references and names: what comes of them does what they mean.
use Rattle.std.proofs.Common.{ℕ, List, [], ◌∷◌, Option, Some, None, length}
use Rattle.std.specs.Prelude.{nat_le}
use Rattle.mx_value.specs.declared.label.Label.{Label}
use Rattle.mx_value.specs.declared.value.Value.{Value}
use Rattle.mx_value.specs.declared.value.Segment.{Segment, out-Segment}
use Rattle.mx_value.specs.declared.value.Segment.TheOpen.{Segment-F, Value-F}
use Rattle.mx_value.specs.declared.namespace.Namespace.{Namespace}
use Rattle.mx_syntax.specs.Binding.{is_wrong_count}
use Rattle.mx_edit.specs.declared.reference.RefValue.{RefValue}
use Rattle.mx_edit.specs.declared.reference.RefValue.TheVariants as reference
use Rattle.mx_edit.specs.declared.key.KeyResult.{KeyResult}
use Rattle.mx_edit.specs.declared.key.KeyResult.TheVariants as found
use Rattle.mx_ops.specs.declared.builtin.Builtin.{Builtin}
use Rattle.mx_ops.specs.Kinds.{Content}
use Rattle.mx_ops.specs.Names.{builtin_of}
use Rattle.mx_runs.specs.Runs.{Run}
use Rattle.mx_meaning.specs.Namespaces.{Step, root, child, ends_with_name, is_short, value_in}
use Rattle.mx_meaning.specs.Walks.{entered, item_entered, stepped, walked_from, walked}
use Rattle.mx_meaning.specs.Environments.{Locals}
use Rattle.mx_meaning.specs.References.{Target, target_of, relative, parent_of, member_of, space_read, cells_read, member_found, member_read, target_found, target_read, reference_read}
use Rattle.mx_meaning.specs.Lookup.{Callee, Called, Function, bound_name, overlaid_or, sought_in, builtin_or_none, global_found, sought, as_value, attribute_in}
use Rattle.mx_code.specs.declared.action.Instr.{Instr}
use Rattle.mx_code_law.specs.States.{State, Next, Home}
use Rattle.mx_code_law.specs.Finding.{Again, item_next, step_next, walk_next, resumed_next, walked_next, space_next, cells_next, member_found_next, member_next, target_found_next, target_next, reference_next, bound_name_next, overlaid_next, sought_in_next, builtin_next, global_next, name_next, valued_next, attribute_next}
use Rattle.mx_code_law.specs.Machine.{Leads, Does, Ended, Looked, Tested, Asked, Noted}
use Rattle.mx_code_law.specs.Fits.{here}
use Rattle.mx_code_law.proofs.Steps.{chosen}

module _ (code : List Instr) (h : Home) where
  -- ---- walks

  -- the instruction comes to itself again in this state
  abbrev pub ComesAgain : Again → (List Segment → Option Namespace → Next) → Type 0
  ComesAgain again on = (more : List Segment) (came : Option Namespace) (run : Run) → Leads code h (on more came) run → Does code h (again more came) run

  module _ (again : Again) (to : Namespace → Next) (go : Namespace → Run) (comes : ComesAgain again (λ more came. resumed_next more came again to)) where
    came_does : (more : List Segment) → ((next : Namespace) → Leads code h (walk_next more next again to) (walked_from more next go)) → (came : Option Namespace) → Leads code h (resumed_next more came again to) (entered came (λ next. walked_from more next go))
    came_does more on (Some ns) = on ns
    came_does more on None = Ended _

    item_does : (more : List Segment) → ((next : Namespace) → Leads code h (walk_next more next again to) (walked_from more next go)) → (ns : Namespace) (args : List Value) (q : KeyResult) → Leads code h (item_next ns args (again more) q) (item_entered ns args (λ next. walked_from more next go) q)
    item_does more on ns args (found.Params ps) =
        chosen code h (is_wrong_count ps.params (length args)) _ _ _ _ (Ended _) (Asked _ _ _ (λ r. comes more r.namespace _ (came_does more on r.namespace)))
    item_does more on ns args other = Ended _

    step_does : (more : List Segment) → ((next : Namespace) → Leads code h (walk_next more next again to) (walked_from more next go)) → (ns : Namespace) (s : Step) → Leads code h (step_next s ns (again more) (λ next. walk_next more next again to)) (stepped s ns (λ next. walked_from more next go))
    step_does more on ns (Segment-F.Name name) = on (child name ns)
    step_does more on ns (Segment-F.Item args) = chosen code h (ends_with_name ns.at) _ _ _ _ (Tested _ _ _ (item_does more on ns args)) (Ended _)

    walks : ((ns : Namespace) → Leads code h (to ns) (go ns)) → (rest : List Segment) (ns : Namespace) → Leads code h (walk_next rest ns again to) (walked_from rest ns go)
    walks d [] ns = d ns
    walks d (s ∷ more) ns = chosen code h (nat_le 64 (length ns.at)) _ _ _ _ (Ended _) (step_does more (walks d more) ns (out-Segment s))

    pub walked_does : ((ns : Namespace) → Leads code h (to ns) (go ns)) → (at : List Segment) → Leads code h (walked_next None at again to) (walked at go)
    walked_does d [] = Ended _
    walked_does d (s ∷ more) = walks d (s ∷ more) root

  -- what comes after each
  abbrev pub Follows : {X : Type 0} → (X → Next) → (X → Run) → Type 0
  Follows {X} to go = (x : X) → Leads code h (to x) (go x)

  module _ (line : ℕ) (locals : Locals) where
    -- ---- references

    space_does : (at : List Segment) (to : Value → Next) (go : Value → Run) → Follows to go → Leads code h (space_next h at line to) (space_read at (here h line locals) go)
    space_does at to go d = chosen code h (is_short at) _ _ _ _ (d _) (Ended _)

    cells_does : (at : List Segment) (name : Label) (to : Value → Next) (go : Value → Run) → Follows to go → Leads code h (cells_next h at name line to) (cells_read at name (here h line locals) go)
    cells_does at name to go d = chosen code h (is_short at) _ _ _ _ (d _) (Ended _)

    member_found_does : (target : Target) (name : Label) (to : Value → Next) (go : Value → Run) → Follows to go → (q : KeyResult) → Leads code h (member_found_next h target name line to q) (member_found target name (here h line locals) go q)
    member_found_does target name to go d found.CellsHere = cells_does (parent_of target.at) name to go d
    member_found_does target name to go d other = Ended _

    member_does : (target : Target) (name : Option Label) (to : Value → Next) (go : Value → Run) → Follows to go → Leads code h (member_next h target name line to) (member_read target name (here h line locals) go)
    member_does target (Some name) to go d = Looked _ _ _ (member_found_does target name to go d)
    member_does target None to go d = Ended _

    target_found_does : (target : Target) (to : Value → Next) (go : Value → Run) → Follows to go → (q : KeyResult) → Leads code h (target_found_next h target line to q) (target_found target (here h line locals) go q)
    target_found_does target to go d found.There = space_does target.at to go d
    target_found_does target to go d other = member_does target (member_of target.path) to go d

    target_does : (target : Target) (to : Value → Next) (go : Value → Run) → Follows to go → Leads code h (target_next h target line to) (target_read target (here h line locals) go)
    target_does target to go d = Looked _ _ _ (target_found_does target to go d)

    reference_does : (v : RefValue) (owner : List Label) (ns : Namespace) (to : Value → Next) (go : Value → Run) → Follows to go → Leads code h (reference_next h v owner ns line to) (reference_read v owner ns (here h line locals) go)
    reference_does (reference.Plain v) owner ns to go d = d v
    reference_does (reference.Table name) owner ns to go d = d _
    reference_does (reference.Target path fixed) owner ns to go d = target_does (target_of ns path (relative owner fixed path)) to go d

    -- ---- names

    bound_name_does : (ns : Namespace) (name : Label) (to : Value → Next) (go : Value → Run) (other : Next) (otherwise : Run) → Follows to go → Leads code h other otherwise → (q : KeyResult) → Leads code h (bound_name_next h ns name line to other q) (bound_name ns name (here h line locals) go otherwise q)
    bound_name_does ns name to go other otherwise d e found.CellsHere = d _
    bound_name_does ns name to go other otherwise d e found.Child = space_does (child name ns).at to go d
    bound_name_does ns name to go other otherwise d e (found.Ref v owner) = Noted _ _ _ (reference_does v owner ns to go d)
    bound_name_does ns name to go other otherwise d e result = e

    overlaid_does : (o : Option Value) (ns : Namespace) (name : Label) (to : Value → Next) (go : Value → Run) (other : Next) (otherwise : Run) → Follows to go → Leads code h other otherwise → Leads code h (overlaid_next h o ns name line to other) (overlaid_or o ns name (here h line locals) go otherwise)
    overlaid_does (Some v) ns name to go other otherwise d e = d v
    overlaid_does None ns name to go other otherwise d e = Looked _ _ _ (bound_name_does ns name to go other otherwise d e)

    sought_in_does : (ns : Namespace) (name : Label) (to : Value → Next) (go : Value → Run) (other : Next) (otherwise : Run) → Follows to go → Leads code h other otherwise → Leads code h (sought_in_next h ns name line to other) (sought_in ns name (here h line locals) go otherwise)
    sought_in_does ns name = overlaid_does (value_in ns.overlay name) ns name

    builtin_does : (o : Option Builtin) (to : Callee → Next) (go : Callee → Run) → Follows to go → Leads code h (builtin_next h o line to) (builtin_or_none o (here h line locals) go)
    builtin_does (Some b) to go d = d (Function b)
    builtin_does None to go d = Ended _

    global_does : (name : Label) (to : Callee → Next) (go : Callee → Run) → Follows to go → (q : KeyResult) → Leads code h (global_next h name line to q) (global_found name (here h line locals) go q)
    global_does name to go d (found.Ref v owner) = Noted _ _ _ (reference_does v [] h.space (λ v. to (Called v)) (λ v. go (Called v)) (λ v. d (Called v)))
    global_does name to go d other = builtin_does (builtin_of name) to go d

    pub name_does : (name : Label) (to : Callee → Next) (go : Callee → Run) → Follows to go → Leads code h (name_next h name line to) (sought name (here h line locals) go)
    name_does name to go d = sought_in_does h.space name (λ v. to (Called v)) (λ v. go (Called v)) _ _ (λ v. d (Called v)) (Looked _ _ _ (global_does name to go d))

    pub valued_does : (to : Value → State) (go : Value → Run) → ((v : Value) → Does code h (to v) (go v)) → (c : Callee) → Leads code h (valued_next h line to c) (as_value c (here h line locals) go)
    valued_does to go d (Called v) = d v
    valued_does to go d (Function b) = Ended _

    -- a name through a value
    pub attribute_does : (c : Content) (name : Label) (again : Again) (to : Value → State) (go : Value → Run) → ((v : Value) → Does code h (to v) (go v)) → ComesAgain again (λ more came. attribute_next h (Some (more, came)) c name line again to)
        → Leads code h (attribute_next h None c name line again to) (attribute_in c name (here h line locals) go)
    attribute_does (Value-F.Space at) name again to go d comes = walked_does again _ _ comes (λ ns. sought_in_does ns name _ go _ _ d (Ended _)) at
    attribute_does other name again to go d comes = Ended _
