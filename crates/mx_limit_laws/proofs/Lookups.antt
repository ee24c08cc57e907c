-- Look-up and calls stay within the limits.
use Rattle.std.proofs.Common.{◌≡◌, ℤ, ℕ, nat_le, Bool, true, false, if◌then◌else◌, List, [], ◌∷◌, length, Option, None, Some, refl, subst}
use Rattle.std.specs.List.{list_all, slice_get}
use Rattle.std.specs.Prelude.{option_and_then}
use Rattle.mx_value.specs.Plain.{is_plain}
use Rattle.mx_value.specs.declared.label.Label.{Label}
use Rattle.mx_value.specs.declared.value.Value.{Value, out-Value}
use Rattle.mx_value.specs.declared.value.Value.TheVariants as made
use Rattle.mx_value.specs.declared.value.Segment.{Segment, out-Segment}
use Rattle.mx_value.specs.declared.value.Segment.TheOpen.{Segment-F, Value-F}
use Rattle.mx_value.specs.declared.value.Segment.TheViews.{roll-Value}
use Rattle.mx_value.specs.declared.value.CellsAt.{CellsAt, out-CellsAt}
use Rattle.mx_value.specs.declared.namespace.Namespace.{Namespace}
use Rattle.mx_value.specs.declared.node.Node.TheVariants.{Cell, Item}
use Rattle.mx_value.specs.declared.fault.FaultKind.TheVariants.{WrongCountInside, TooLarge, NotCallable, TypeMismatch}
use Rattle.mx_syntax.specs.declared.stmt.Param.{Param}
use Rattle.mx_syntax.specs.Binding.{defaults, bound, is_wrong_count}
use Rattle.mx_edit.specs.Rows.{TableRows}
use Rattle.mx_edit.specs.Table.{place_of_key, place_of, item_at, entry_at}
use Rattle.mx_edit.specs.declared.reference.RefValue.{RefValue}
use Rattle.mx_edit.specs.declared.reference.RefValue.TheVariants as reference
use Rattle.mx_edit.specs.declared.key.Key.{Key}
use Rattle.mx_edit.specs.declared.key.Key.TheVariants as key
use Rattle.mx_edit.specs.declared.key.KeyResult.{KeyResult}
use Rattle.mx_edit.specs.declared.key.KeyResult.TheVariants as found
use Rattle.mx_ops.specs.declared.builtin.Builtin.{Builtin}
use Rattle.mx_syntax.specs.declared.op.Op.TheVariants as op
use Rattle.mx_ops.specs.Kinds.{Content, bytes_of}
use Rattle.mx_ops.specs.Builtins.{or_no_index}
use Rattle.mx_ops.specs.Names.{builtin_of, op_of}
use Rattle.mx_ops.specs.Table.{gives}
use Rattle.mx_runs.specs.Runs.{Run, Ends, Looks, Tests, Asks, NoSuch, WrongCount}
use Rattle.mx_meaning.specs.Namespaces.{Step, root, child, value_in, is_short, is_allowed, ends_with_name, item_at as item_address_of}
use Rattle.mx_meaning.specs.Walks.{Onward, entered, bound_or_refused, item_entered, stepped, walked_from, walked}
use Rattle.mx_meaning.specs.Environments.{Env, Reading, fault, local_of}
use Rattle.mx_meaning.specs.References.{Target, space_read, cells_read, cells_value, parent_of, member_of, member_found, member_read, target_found, target_read, target_of, relative, reference_read}
use Rattle.mx_meaning.specs.Lookup.{Callee, Called, Function, Part, bound_name, overlaid_or, sought_in, builtin_or_none, global_found, local_or, named, as_value, valued, attribute_in, attribute}
use Rattle.mx_meaning.specs.Calls.{arguments_bound, cells_asked, cells_called, item_asked, space_asked, space_sought, space_called, row_key, entry, entry_of, table_found, table_indexed, value_called, called, content_indexed, indexed}
use Rattle.mx_state.specs.Proper.{IsArgument, IsStep}
use Rattle.mx_limit_laws.specs.Values.{Each, IsWithin, IsAnswerWithin, IsAddress}
use Rattle.mx_limit_laws.specs.Replies.{IsSmallReference, IsSmallTable, IsSmallResult, HasSmallResults, IsSmallNamespace, IsNoneOrSmall}
use Rattle.mx_limit_laws.proofs.Lists.{IfAny, each_at, each_left, has_each}
use Rattle.mx_limit_laws.proofs.Values.{AreSteps, both, argument_within, plain_argument, content_within, space_within, space_address, cells_within, cells_address, table_within}
use Rattle.mx_limit_laws.proofs.Normals.{bound_arguments}
use Rattle.mx_limit_laws.proofs.Addresses.{root_address, names_address, parent_address}
use Rattle.mx_limit_laws.proofs.Operators.{gives_within}
use Rattle.mx_limit_laws.proofs.Staying.{Stays, if_stays, computed_stays, cell_proper, item_proper, child_small, value_in_small, IsSmallEnv, local_small}

-- plain values within the limits are arguments
pub plain_arguments : (args : List Value) → list_all is_plain args ≡ true → Each IsWithin args → Each IsArgument args
plain_arguments [] p w = tt
plain_arguments (v ∷ args) p w =
    let q = both (is_plain v) (list_all is_plain args) p in
    (plain_argument v q.0 w.0, plain_arguments args q.1 w.1)

-- ---- tables

row_item : (row : Option (List Value)) (place : ℕ) → IfAny (λ r. Each IsArgument r) row → IfAny IsWithin (option_and_then (λ items. slice_get items place) row)
row_item None place h = tt
row_item (Some items) place h = as_within (slice_get items place) (each_at IsArgument items h place)
  where
    as_within : (v : Option Value) → IfAny IsArgument v → IfAny IsWithin v
    as_within None a = tt
    as_within (Some v) a = argument_within v a

table_item : (rows : List (List Value)) → Each (λ r. Each IsArgument r) rows → (row place : Option ℕ) → IfAny IsWithin (item_at rows row place)
table_item rows h (Some row) (Some place) = row_item (slice_get rows row) place (each_at (λ r. Each IsArgument r) rows h row)
table_item rows h (Some row) None = tt
table_item rows h None place = tt

no_index_within : (v : Option Value) → IfAny IsWithin v → IsAnswerWithin (or_no_index v)
no_index_within (Some v) h = h
no_index_within None h = tt

entry_within : (t : TableRows) → IsSmallTable t → (row : Option ℤ) (column : Option (List ℕ)) → IsAnswerWithin (entry t row column)
entry_within t h (Some row) (Some column) = no_index_within (entry_at t row column) (table_item t.rows h (place_of_key t.keys row) (place_of t.columns column))
entry_within t h (Some row) None = tt
entry_within t h None column = tt

entry_of_within : (t : TableRows) → IsSmallTable t → (args : List Value) → IsAnswerWithin (entry_of t args)
entry_of_within t h [] = tt
entry_of_within t h (a ∷ []) = tt
entry_of_within t h (a ∷ b ∷ []) = entry_within t h (row_key a) (bytes_of b)
entry_of_within t h (a ∷ b ∷ c ∷ more) = tt

module _ (look : Key → KeyResult) (small : HasSmallResults look) where
  abbrev pub Onwards : (Value → Run) → Type 0
  Onwards go = (v : Value) → IsWithin v → Stays look (go v)

  abbrev pub OfReading : Reading → Type 0
  OfReading read = (env : Env) → IsSmallEnv env → (go : Value → Run) → Onwards go → Stays look (read env go)

  abbrev pub IsSmallCallee : Callee → Type 0
  IsSmallCallee (Called v) = IsWithin v
  IsSmallCallee (Function b) = Unit {0}

  abbrev pub OfPart : Part → Type 0
  OfPart part = (env : Env) → IsSmallEnv env → (go : Callee → Run) → ((c : Callee) → IsSmallCallee c → Stays look (go c)) → Stays look (part env go)

  -- what a key leads to, by another name
  led : (k : Key) (r : KeyResult) → look k ≡ r → IsSmallResult r
  led k r e = subst IsSmallResult e (small k)

  -- ---- walks

  entered_stays : (ns : Option Namespace) → IsNoneOrSmall ns → (go : Onward) → ((m : Namespace) → IsSmallNamespace m → Stays look (go m)) → Stays look (entered ns go)
  entered_stays (Some ns) n go k = k ns n
  entered_stays None n go k = tt

  pub refused_stays : (params : List Param) → Each IsArgument (defaults params) → (args : List Value) → Each IsArgument args → (go : List Value → Run) → ((vs : List Value) → Each IsArgument vs → Stays look (go vs)) → Stays look (bound_or_refused params args go)
  refused_stays params d args a go k = if_stays look (is_wrong_count params (length args)) (Ends WrongCount) (go (bound params args)) tt (k (bound params args) (bound_arguments params args d a))

  module _ (ns : Namespace) (n : IsSmallNamespace ns) (args : List Value) (a : Each IsArgument args) (go : Onward) (k : (m : Namespace) → IsSmallNamespace m → Stays look (go m)) where
    item_entered_stays : (r : KeyResult) → IsSmallResult r → Stays look (item_entered ns args go r)
    item_entered_stays (found.Params ps) s =
        refused_stays ps.params (each_left IsArgument (defaults ps.params) _ s) args a (λ vs. Asks (Item ns.at vs) (λ r. entered r.namespace go)) (λ vs b. (item_proper ns.at vs n.address b, λ r q. entered_stays r.namespace q.namespace go k))
    item_entered_stays found.Missing s = tt
    item_entered_stays found.CellsHere s = tt
    item_entered_stays found.Child s = tt
    item_entered_stays (found.Ref v o) s = tt
    item_entered_stays (found.Formula f allow) s = tt
    item_entered_stays found.There s = tt
    item_entered_stays (found.Value v) s = tt
    item_entered_stays (found.Table t) s = tt

  stepped_stays : (s : Step) → IsStep s → (ns : Namespace) → IsSmallNamespace ns → (go : Onward) → ((m : Namespace) → IsSmallNamespace m → Stays look (go m)) → Stays look (stepped s ns go)
  stepped_stays (Segment-F.Name name) h ns n go k = k (child name ns) (child_small name ns n)
  stepped_stays (Segment-F.Item args) h ns n go k =
      if_stays look (ends_with_name ns.at) (Tests (key.Params ns.source) (item_entered ns args go)) (Ends NoSuch) (item_entered_stays ns n args (has_each IsArgument args h) go k _ (small (key.Params ns.source))) tt

  walked_from_stays : (at : List Segment) → AreSteps at → (ns : Namespace) → IsSmallNamespace ns → (go : Onward) → ((m : Namespace) → IsSmallNamespace m → Stays look (go m)) → Stays look (walked_from at ns go)
  walked_from_stays [] h ns n go k = k ns n
  walked_from_stays (s ∷ more) h ns n go k =
      if_stays look (nat_le 64 (length ns.at)) (Ends NoSuch) (stepped (out-Segment s) ns (λ next. walked_from more next go)) tt (stepped_stays (out-Segment s) h.0 ns n _ (λ next m. walked_from_stays more h.1 next m go k))

  pub walked_stays : (at : List Segment) → AreSteps at → (go : Onward) → ((m : Namespace) → IsSmallNamespace m → Stays look (go m)) → Stays look (walked at go)
  walked_stays [] h go k = tt
  walked_stays (s ∷ more) h go k = walked_from_stays (s ∷ more) h root (record { address = root_address; overlay = tt }) go k

  -- ---- references

  space_stays : (at : List Segment) → IsAddress at → OfReading (space_read at)
  space_stays at a env e go k = if_stays look (is_short at) (go (made.Space at)) (fault TooLarge env) (k (made.Space at) (space_within at a)) tt

  cells_stays : (at : List Segment) (name : Label) → IsAddress at → OfReading (cells_read at name)
  cells_stays at name a env e go k = if_stays look (is_short at) (go (cells_value at name)) (fault TooLarge env) (k (cells_value at name) (cells_within at name a)) tt

  module _ (target : Target) (a : IsAddress target.at) where
    member_found_stays : (name : Label) (env : Env) → IsSmallEnv env → (go : Value → Run) → Onwards go → (r : KeyResult) → Stays look (member_found target name env go r)
    member_found_stays name env e go k found.CellsHere = cells_stays (parent_of target.at) name (parent_address target.at a) env e go k
    member_found_stays name env e go k found.Missing = tt
    member_found_stays name env e go k found.Child = tt
    member_found_stays name env e go k (found.Ref v o) = tt
    member_found_stays name env e go k (found.Formula f allow) = tt
    member_found_stays name env e go k (found.Params ps) = tt
    member_found_stays name env e go k found.There = tt
    member_found_stays name env e go k (found.Value v) = tt
    member_found_stays name env e go k (found.Table t) = tt

    member_stays : (name : Option Label) → OfReading (member_read target name)
    member_stays (Some name) env e go k = member_found_stays name env e go k _
    member_stays None env e go k = tt

    target_found_stays : (env : Env) → IsSmallEnv env → (go : Value → Run) → Onwards go → (r : KeyResult) → Stays look (target_found target env go r)
    target_found_stays env e go k found.There = space_stays target.at a env e go k
    target_found_stays env e go k found.Missing = member_stays (member_of target.path) env e go k
    target_found_stays env e go k found.CellsHere = member_stays (member_of target.path) env e go k
    target_found_stays env e go k found.Child = member_stays (member_of target.path) env e go k
    target_found_stays env e go k (found.Ref v o) = member_stays (member_of target.path) env e go k
    target_found_stays env e go k (found.Formula f allow) = member_stays (member_of target.path) env e go k
    target_found_stays env e go k (found.Params ps) = member_stays (member_of target.path) env e go k
    target_found_stays env e go k (found.Value v) = member_stays (member_of target.path) env e go k
    target_found_stays env e go k (found.Table t) = member_stays (member_of target.path) env e go k

    target_stays : OfReading (target_read target)
    target_stays env e go k = target_found_stays env e go k _

  target_address : (ns : Namespace) → IsSmallNamespace ns → (path : List Label) (rest : Option (List Label)) → IsAddress (target_of ns path rest).at
  target_address ns n path (Some rest) = names_address ns.at rest n.address
  target_address ns n path None = names_address [] path root_address

  reference_stays : (v : RefValue) → IsSmallReference v → (owner : List Label) (ns : Namespace) → IsSmallNamespace ns → OfReading (reference_read v owner ns)
  reference_stays (reference.Plain v) s owner ns n env e go k = k v (argument_within v s)
  reference_stays (reference.Table name) s owner ns n env e go k = k (made.Table name) (table_within name)
  reference_stays (reference.Target path fixed) s owner ns n env e go k =
      target_stays (target_of ns path (relative owner fixed path)) (target_address ns n path (relative owner fixed path)) env e go k

  -- ---- look-up

  module _ (ns : Namespace) (n : IsSmallNamespace ns) (name : Label) (env : Env) (e : IsSmallEnv env) (go : Value → Run) (other : Run) (k : Onwards go) (o : Stays look other) where
    bound_name_stays : (r : KeyResult) → IsSmallResult r → Stays look (bound_name ns name env go other r)
    bound_name_stays found.CellsHere s = k (cells_value ns.at name) (cells_within ns.at name n.address)
    bound_name_stays found.Child s = space_stays (child name ns).at (child_small name ns n).address env e go k
    bound_name_stays (found.Ref value owner) s = reference_stays value s owner ns n env e go k
    bound_name_stays found.Missing s = o
    bound_name_stays (found.Formula f allow) s = o
    bound_name_stays (found.Params ps) s = o
    bound_name_stays found.There s = o
    bound_name_stays (found.Value v) s = o
    bound_name_stays (found.Table t) s = o

    overlaid_stays : (v : Option Value) → IfAny IsWithin v → Stays look (overlaid_or v ns name env go other)
    overlaid_stays (Some v) w = k v w
    overlaid_stays None w = bound_name_stays _ (small (key.Name ns.source name))

    pub sought_in_stays : Stays look (sought_in ns name env go other)
    sought_in_stays = overlaid_stays (value_in ns.overlay name) (value_in_small ns.overlay n.overlay name)

  builtin_stays : (b : Option Builtin) → OfPart (builtin_or_none b)
  builtin_stays (Some b) env e go k = k (Function b) tt
  builtin_stays None env e go k = tt

  global_stays : (name : Label) (env : Env) → IsSmallEnv env → (go : Callee → Run) → ((c : Callee) → IsSmallCallee c → Stays look (go c)) → (r : KeyResult) → IsSmallResult r → Stays look (global_found name env go r)
  global_stays name env e go k (found.Ref v owner) s = reference_stays v s [] env.namespace e.namespace env e _ (λ w h. k (Called w) h)
  global_stays name env e go k found.Missing s = builtin_stays (builtin_of name) env e go k
  global_stays name env e go k found.CellsHere s = builtin_stays (builtin_of name) env e go k
  global_stays name env e go k found.Child s = builtin_stays (builtin_of name) env e go k
  global_stays name env e go k (found.Formula f allow) s = builtin_stays (builtin_of name) env e go k
  global_stays name env e go k (found.Params ps) s = builtin_stays (builtin_of name) env e go k
  global_stays name env e go k found.There s = builtin_stays (builtin_of name) env e go k
  global_stays name env e go k (found.Value v) s = builtin_stays (builtin_of name) env e go k
  global_stays name env e go k (found.Table t) s = builtin_stays (builtin_of name) env e go k

  local_stays : (l : Option (Option Value)) → IfAny (λ l. IfAny IsWithin l) l → (name : Label) → OfPart (local_or l name)
  local_stays (Some (Some v)) h name env e go k = k (Called v) h
  local_stays (Some None) h name env e go k = tt
  local_stays None h name env e go k =
      sought_in_stays env.namespace e.namespace name env e _ _ (λ v w. k (Called v) w) (global_stays name env e go k _ (small (key.Global name)))

  pub named_stays : (name : Label) → OfPart (named name)
  named_stays name env e go k = local_stays (local_of env.locals name) (local_small env.locals e.locals name) name env e go k

  pub as_value_stays : (c : Callee) → IsSmallCallee c → OfReading (as_value c)
  as_value_stays (Called v) w env e go k = k v w
  as_value_stays (Function b) w env e go k = tt

  pub valued_stays : (part : Part) → OfPart part → OfReading (valued part)
  valued_stays part h env e go k = h env e _ (λ c w. as_value_stays c w env e go k)

  attribute_in_stays : (c : Content) → IsWithin (roll-Value c) → (name : Label) → OfReading (attribute_in c name)
  attribute_in_stays (Value-F.Space at) w name env e go k =
      walked_stays at (space_address at (subst IsWithin (made.rolls-Space at) w)).steps _ (λ ns n. sought_in_stays ns n name env e go _ k tt)
  attribute_in_stays Value-F.Nothing w name env e go k = tt
  attribute_in_stays (Value-F.Flag b) w name env e go k = tt
  attribute_in_stays (Value-F.Int n) w name env e go k = tt
  attribute_in_stays (Value-F.Fix x) w name env e go k = tt
  attribute_in_stays (Value-F.Text t) w name env e go k = tt
  attribute_in_stays (Value-F.Tup items) w name env e go k = tt
  attribute_in_stays (Value-F.Cells cells) w name env e go k = tt
  attribute_in_stays (Value-F.Table t) w name env e go k = tt

  pub attribute_stays : (v : Value) → IsWithin v → (name : Label) → OfReading (attribute v name)
  attribute_stays v w name env e go k = attribute_in_stays (out-Value v) (content_within v w) name env e go k

  -- ---- calls

  module _ (params : List Param) (d : Each IsArgument (defaults params)) (args : List Value) (w : Each IsWithin args) (env : Env) (go : List Value → Run) (k : (vs : List Value) → Each IsArgument vs → Stays look (go vs)) where
    plain_stays : (b : Bool) → list_all is_plain args ≡ b
        → Stays look (if b then (if is_wrong_count params (length args) then fault WrongCountInside env else go (bound params args)) else fault TypeMismatch env)
    plain_stays true p = if_stays look (is_wrong_count params (length args)) (fault WrongCountInside env) (go (bound params args)) tt (k (bound params args) (bound_arguments params args d (plain_arguments args p w)))
    plain_stays false p = tt

    arguments_stays : Stays look (arguments_bound params args env go)
    arguments_stays = plain_stays (list_all is_plain args) refl

  module _ (ns : Namespace) (n : IsSmallNamespace ns) (args : List Value) (w : Each IsWithin args) (env : Env) (go : Value → Run) (k : Onwards go) where
    cells_asked_stays : (name : Label) (r : KeyResult) → IsSmallResult r → Stays look (cells_asked ns name args env go r)
    cells_asked_stays name (found.Formula f allow) s =
        arguments_stays f.params (each_left IsArgument (defaults f.params) _ s) args w env (λ vs. Asks (Cell ns.at name vs) (λ r. go r.value)) (λ vs b. (cell_proper ns.at name vs n.address b, λ r q. k r.value q.value))
    cells_asked_stays name found.Missing s = tt
    cells_asked_stays name found.CellsHere s = tt
    cells_asked_stays name found.Child s = tt
    cells_asked_stays name (found.Ref v o) s = tt
    cells_asked_stays name (found.Params ps) s = tt
    cells_asked_stays name found.There s = tt
    cells_asked_stays name (found.Value v) s = tt
    cells_asked_stays name (found.Table t) s = tt

    item_asked_stays : (vs : List Value) → Each IsArgument vs → Stays look (item_asked ns env go vs)
    item_asked_stays vs b = if_stays look (is_allowed (item_address_of ns vs)) (Asks (Item ns.at vs) (λ r. go r.value)) (fault TooLarge env) (item_proper ns.at vs n.address b, λ r q. k r.value q.value) tt

    space_asked_stays : (r : KeyResult) → IsSmallResult r → Stays look (space_asked ns args env go r)
    space_asked_stays (found.Params ps) s = arguments_stays ps.params (each_left IsArgument (defaults ps.params) _ s) args w env (item_asked ns env go) item_asked_stays
    space_asked_stays found.Missing s = tt
    space_asked_stays found.CellsHere s = tt
    space_asked_stays found.Child s = tt
    space_asked_stays (found.Ref v o) s = tt
    space_asked_stays (found.Formula f allow) s = tt
    space_asked_stays found.There s = tt
    space_asked_stays (found.Value v) s = tt
    space_asked_stays (found.Table t) s = tt

    space_sought_stays : Stays look (space_sought args env go ns)
    space_sought_stays = if_stays look (ends_with_name ns.at) (Looks (key.Params ns.source) (space_asked ns args env go)) (fault NotCallable env) (space_asked_stays _ (small (key.Params ns.source))) tt

  cells_called_stays : (cells : CellsAt) → IsWithin (made.Cells cells) → (args : List Value) → Each IsWithin args → OfReading (cells_called cells args)
  cells_called_stays cells c args w env e go k =
      walked_stays (out-CellsAt cells).space (cells_address cells c).steps _ (λ ns n. cells_asked_stays ns n args w env go k (out-CellsAt cells).name _ (small (key.Cells ns.source (out-CellsAt cells).name)))

  space_called_stays : (at : List Segment) → IsWithin (made.Space at) → (args : List Value) → Each IsWithin args → OfReading (space_called at args)
  space_called_stays at c args w env e go k = walked_stays at (space_address at c).steps _ (λ ns n. space_sought_stays ns n args w env go k)

  table_found_stays : (args : List Value) (env : Env) (go : Value → Run) → Onwards go → (r : KeyResult) → IsSmallResult r → Stays look (table_found args env go r)
  table_found_stays args env go k (found.Table t) s = computed_stays look (entry_of t args) (entry_of_within t s args) env go k
  table_found_stays args env go k found.Missing s = tt
  table_found_stays args env go k found.CellsHere s = tt
  table_found_stays args env go k found.Child s = tt
  table_found_stays args env go k (found.Ref v o) s = tt
  table_found_stays args env go k (found.Formula f allow) s = tt
  table_found_stays args env go k (found.Params ps) s = tt
  table_found_stays args env go k found.There s = tt
  table_found_stays args env go k (found.Value v) s = tt

  table_stays : (name : Label) (args : List Value) → OfReading (table_indexed name args)
  table_stays name args env e go k = table_found_stays args env go k _ (small (key.Table name))

  value_called_stays : (c : Content) → IsWithin (roll-Value c) → (args : List Value) → Each IsWithin args → OfReading (value_called c args)
  value_called_stays (Value-F.Cells cells) c args w env e go k = cells_called_stays cells (subst IsWithin (made.rolls-Cells cells) c) args w env e go k
  value_called_stays (Value-F.Space at) c args w env e go k = space_called_stays at (subst IsWithin (made.rolls-Space at) c) args w env e go k
  value_called_stays Value-F.Nothing c args w env e go k = tt
  value_called_stays (Value-F.Flag b) c args w env e go k = tt
  value_called_stays (Value-F.Int n) c args w env e go k = tt
  value_called_stays (Value-F.Fix x) c args w env e go k = tt
  value_called_stays (Value-F.Text t) c args w env e go k = tt
  value_called_stays (Value-F.Tup items) c args w env e go k = tt
  value_called_stays (Value-F.Table t) c args w env e go k = tt

  pub called_stays : (c : Callee) → IsSmallCallee c → (args : List Value) → Each IsWithin args → OfReading (called c args)
  called_stays (Called v) c args w env e go k = value_called_stays (out-Value v) (content_within v c) args w env e go k
  called_stays (Function b) c args w env e go k = computed_stays look (gives (op_of b) args) (gives_within (op_of b) args w) env go k

  indexed_in_stays : (c : Content) → IsWithin (roll-Value c) → (v : Value) → IsWithin v → (args : List Value) → Each IsWithin args → OfReading (content_indexed c v args)
  indexed_in_stays (Value-F.Cells cells) c v x args w env e go k = cells_called_stays cells (subst IsWithin (made.rolls-Cells cells) c) args w env e go k
  indexed_in_stays (Value-F.Space at) c v x args w env e go k = space_called_stays at (subst IsWithin (made.rolls-Space at) c) args w env e go k
  indexed_in_stays (Value-F.Table name) c v x args w env e go k = table_stays name args env e go k
  indexed_in_stays (Value-F.Tup items) c v x args w env e go k = computed_stays look (gives op.Index (v ∷ args)) (gives_within op.Index (v ∷ args) (x, w)) env go k
  indexed_in_stays (Value-F.Text t) c v x args w env e go k = computed_stays look (gives op.Index (v ∷ args)) (gives_within op.Index (v ∷ args) (x, w)) env go k
  indexed_in_stays Value-F.Nothing c v x args w env e go k = tt
  indexed_in_stays (Value-F.Flag b) c v x args w env e go k = tt
  indexed_in_stays (Value-F.Int n) c v x args w env e go k = tt
  indexed_in_stays (Value-F.Fix z) c v x args w env e go k = tt

  pub indexed_stays : (v : Value) → IsWithin v → (args : List Value) → Each IsWithin args → OfReading (indexed v args)
  indexed_stays v x args w env e go k = indexed_in_stays (out-Value v) (content_within v x) v x args w env e go k
