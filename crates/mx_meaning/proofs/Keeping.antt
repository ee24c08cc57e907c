-- What holds of runs and is kept by each way in which a run goes on, is kept by look-up and by calls.
use Rattle.std.proofs.Common.{Bool, true, false, ◌≡◌, List, [], ◌∷◌, Option, None, Some, Result, Ok, Err, if◌then◌else◌, length, refl}
use Rattle.std.specs.List.{list_all}
use Rattle.mx_value.specs.Plain.{is_plain}
use Rattle.mx_value.specs.declared.label.Label.{Label}
use Rattle.mx_value.specs.declared.value.Value.{Value, out-Value}
use Rattle.mx_value.specs.declared.value.Segment.{Segment}
use Rattle.mx_value.specs.declared.value.Segment.TheOpen.{Value-F}
use Rattle.mx_value.specs.declared.value.CellsAt.{CellsAt, out-CellsAt}
use Rattle.mx_value.specs.declared.namespace.Namespace.{Namespace}
use Rattle.mx_value.specs.declared.node.Node.TheVariants.{Cell, Item}
use Rattle.mx_value.specs.declared.read.Read.{Read}
use Rattle.mx_value.specs.declared.fault.FaultKind.{FaultKind}
use Rattle.mx_value.specs.declared.fault.FaultKind.TheVariants.{WrongCountInside, NotCallable}
use Rattle.mx_syntax.specs.declared.stmt.Param.{Param}
use Rattle.mx_syntax.specs.declared.stmt.Params.{Params}
use Rattle.mx_syntax.specs.declared.stmt.Formula.{Formula}
use Rattle.mx_syntax.specs.Binding.{bound, is_wrong_count}
use Rattle.mx_edit.specs.declared.reference.RefValue.{RefValue}
use Rattle.mx_edit.specs.declared.reference.RefValue.TheVariants as reference
use Rattle.mx_edit.specs.declared.key.Key.{Key}
use Rattle.mx_edit.specs.declared.key.Key.TheVariants as key
use Rattle.mx_edit.specs.declared.key.KeyResult.{KeyResult}
use Rattle.mx_edit.specs.declared.key.KeyResult.TheVariants as found
use Rattle.mx_edit.specs.declared.reply.Reply.{Reply}
use Rattle.mx_ops.specs.declared.builtin.Builtin.{Builtin}
use Rattle.mx_syntax.specs.declared.op.Op.TheVariants as op
use Rattle.mx_ops.specs.Kinds.{Content}
use Rattle.mx_ops.specs.Names.{builtin_of, op_of}
use Rattle.mx_ops.specs.Table.{gives}
use Rattle.mx_runs.specs.Runs.{Run, Ends, Looks, Asks, Notes, Outcome, Gives, Faults, NoSuch, WrongCount, NoLevel}
use Rattle.mx_meaning.specs.Namespaces.{value_in, child, is_short, is_allowed, ends_with_name, item_at}
use Rattle.mx_meaning.specs.Walks.{walked}
use Rattle.mx_meaning.specs.Environments.{Env, Reading, fault, computed, tested, local_of}
use Rattle.mx_meaning.specs.References.{Target, space_read, cells_read, parent_of, member_found, member_read, target_found, target_read, target_of, relative, reference_read}
use Rattle.mx_meaning.specs.Lookup.{Callee, Called, Function, Part, bound_name, overlaid_or, sought_in, builtin_or_none, global_found, local_or, named, as_value, valued, attribute_in, attribute}
use Rattle.mx_meaning.specs.Calls.{arguments_bound, cells_asked, cells_called, item_asked, space_asked, space_called, entry_of, table_found, table_indexed, value_called, called, content_indexed, indexed}

-- it ends a run without a value
abbrev pub IsNoValue : Outcome → Type 0
IsNoValue (Gives r) = ⊥
IsNoValue (Faults kind n line) = Unit {0}
IsNoValue NoSuch = Unit {0}
IsNoValue WrongCount = Unit {0}
IsNoValue NoLevel = Unit {0}

-- P is kept by each way in which a run goes on, where a walk comes to namespaces of which Came holds
pub record Keeps (look : Key → KeyResult) (P : Run → Type 0) (Came : Namespace → Type 0) : Type 0 where
  pub ended : (o : Outcome) → IsNoValue o → P (Ends o)
  pub looked : (k : Key) (go : KeyResult → Run) → P (go (look k)) → P (Looks k go)
  pub noted : (read : Read) (run : Run) → P run → P (Notes read run)
  pub walks : (at : List Segment) (go : Namespace → Run) → ((ns : Namespace) → Came ns → P (go ns)) → P (walked at go)
  pub asks_cell : (ns : Namespace) (name : Label) (f : Formula) (allow : Bool) (args : List Value) (go : Reply → Run) → Came ns
      → look (key.Cells ns.source name) ≡ found.Formula f allow → is_wrong_count f.params (length args) ≡ false
      → ((r : Reply) → P (go r)) → P (Asks (Cell ns.at name (bound f.params args)) go)
  pub asks_item : (ns : Namespace) (ps : Params) (args : List Value) (go : Reply → Run) → Came ns → ends_with_name ns.at ≡ true
      → look (key.Params ns.source) ≡ found.Params ps → is_wrong_count ps.params (length args) ≡ false
      → ((r : Reply) → P (go r)) → P (Asks (Item ns.at (bound ps.params args)) go)

module _ (look : Key → KeyResult) (P : Run → Type 0) (Came : Namespace → Type 0) (keeps : Keeps look P Came) where
  abbrev pub Onwards : {X : Type 0} → (X → Run) → Type 0
  Onwards {X} go = (x : X) → P (go x)

  abbrev pub OfReading : Reading → Type 0
  OfReading read = (env : Env) (go : Value → Run) → Onwards go → P (read env go)

  abbrev pub OfPart : Part → Type 0
  OfPart part = (env : Env) (go : Callee → Run) → Onwards go → P (part env go)

  pub fault_kept : (kind : FaultKind) (env : Env) → P (fault kind env)
  fault_kept kind env = keeps.ended (Faults kind env.node env.line) tt

  pub if_kept : (b : Bool) (given other : Run) → P given → P other → P (if b then given else other)
  if_kept true given other x y = x
  if_kept false given other x y = y

  pub computed_kept : {X : Type 0} (r : Result X FaultKind) (env : Env) (go : X → Run) → Onwards go → P (computed r env go)
  computed_kept (Ok x) env go k = k x
  computed_kept (Err kind) env go k = fault_kept kind env

  pub tested_kept : (r : Result Bool FaultKind) (given other : Run) (env : Env) → P given → P other → P (tested r given other env)
  tested_kept r given other env x y = computed_kept r env _ (λ b. if_kept b given other x y)

  -- ---- references

  space_kept : (at : List Segment) → OfReading (space_read at)
  space_kept at env go k = if_kept (is_short at) _ _ (k _) (fault_kept _ env)

  cells_kept : (at : List Segment) (name : Label) → OfReading (cells_read at name)
  cells_kept at name env go k = if_kept (is_short at) _ _ (k _) (fault_kept _ env)

  member_found_kept : (target : Target) (name : Label) (env : Env) (go : Value → Run) → Onwards go → (r : KeyResult) → P (member_found target name env go r)
  member_found_kept target name env go k found.CellsHere = cells_kept (parent_of target.at) name env go k
  member_found_kept target name env go k found.Missing = fault_kept _ env
  member_found_kept target name env go k found.Child = fault_kept _ env
  member_found_kept target name env go k (found.Ref v o) = fault_kept _ env
  member_found_kept target name env go k (found.Formula f a) = fault_kept _ env
  member_found_kept target name env go k (found.Params ps) = fault_kept _ env
  member_found_kept target name env go k found.There = fault_kept _ env
  member_found_kept target name env go k (found.Value v) = fault_kept _ env
  member_found_kept target name env go k (found.Table t) = fault_kept _ env

  member_kept : (target : Target) (name : Option Label) → OfReading (member_read target name)
  member_kept target (Some name) env go k = keeps.looked _ _ (member_found_kept target name env go k _)
  member_kept target None env go k = fault_kept _ env

  target_found_kept : (target : Target) (env : Env) (go : Value → Run) → Onwards go → (r : KeyResult) → P (target_found target env go r)
  target_found_kept target env go k found.There = space_kept target.at env go k
  target_found_kept target env go k found.Missing = member_kept target _ env go k
  target_found_kept target env go k found.CellsHere = member_kept target _ env go k
  target_found_kept target env go k found.Child = member_kept target _ env go k
  target_found_kept target env go k (found.Ref v o) = member_kept target _ env go k
  target_found_kept target env go k (found.Formula f a) = member_kept target _ env go k
  target_found_kept target env go k (found.Params ps) = member_kept target _ env go k
  target_found_kept target env go k (found.Value v) = member_kept target _ env go k
  target_found_kept target env go k (found.Table t) = member_kept target _ env go k

  target_kept : (target : Target) → OfReading (target_read target)
  target_kept target env go k = keeps.looked _ _ (target_found_kept target env go k _)

  reference_kept : (v : RefValue) (owner : List Label) (ns : Namespace) → OfReading (reference_read v owner ns)
  reference_kept (reference.Plain v) owner ns env go k = k v
  reference_kept (reference.Table name) owner ns env go k = k _
  reference_kept (reference.Target path fixed) owner ns env go k = target_kept (target_of ns path (relative owner fixed path)) env go k

  -- ---- look-up

  module _ (ns : Namespace) (name : Label) (env : Env) (go : Value → Run) (other : Run) (k : Onwards go) (o : P other) where
    bound_name_kept : (r : KeyResult) → P (bound_name ns name env go other r)
    bound_name_kept found.CellsHere = k _
    bound_name_kept found.Child = space_kept (child name ns).at env go k
    bound_name_kept (found.Ref v owner) = keeps.noted _ _ (reference_kept v owner ns env go k)
    bound_name_kept found.Missing = o
    bound_name_kept (found.Formula f a) = o
    bound_name_kept (found.Params ps) = o
    bound_name_kept found.There = o
    bound_name_kept (found.Value v) = o
    bound_name_kept (found.Table t) = o

    overlaid_kept : (v : Option Value) → P (overlaid_or v ns name env go other)
    overlaid_kept (Some v) = k v
    overlaid_kept None = keeps.looked _ _ (bound_name_kept _)

    pub sought_in_kept : P (sought_in ns name env go other)
    sought_in_kept = overlaid_kept (value_in ns.overlay name)

  builtin_kept : (b : Option Builtin) → OfPart (builtin_or_none b)
  builtin_kept (Some b) env go k = k _
  builtin_kept None env go k = fault_kept _ env

  global_kept : (name : Label) (env : Env) (go : Callee → Run) → Onwards go → (r : KeyResult) → P (global_found name env go r)
  global_kept name env go k (found.Ref v owner) = keeps.noted _ _ (reference_kept v [] env.namespace env _ (λ w. k _))
  global_kept name env go k found.Missing = builtin_kept (builtin_of name) env go k
  global_kept name env go k found.CellsHere = builtin_kept (builtin_of name) env go k
  global_kept name env go k found.Child = builtin_kept (builtin_of name) env go k
  global_kept name env go k (found.Formula f a) = builtin_kept (builtin_of name) env go k
  global_kept name env go k (found.Params ps) = builtin_kept (builtin_of name) env go k
  global_kept name env go k found.There = builtin_kept (builtin_of name) env go k
  global_kept name env go k (found.Value v) = builtin_kept (builtin_of name) env go k
  global_kept name env go k (found.Table t) = builtin_kept (builtin_of name) env go k

  local_kept : (l : Option (Option Value)) (name : Label) → OfPart (local_or l name)
  local_kept (Some (Some v)) name env go k = k _
  local_kept (Some None) name env go k = fault_kept _ env
  local_kept None name env go k = sought_in_kept env.namespace name env _ _ (λ v. k _) (keeps.looked _ _ (global_kept name env go k _))

  pub named_kept : (name : Label) → OfPart (named name)
  named_kept name env go k = local_kept (local_of env.locals name) name env go k

  pub as_value_kept : (c : Callee) → OfReading (as_value c)
  as_value_kept (Called v) env go k = k v
  as_value_kept (Function b) env go k = fault_kept _ env

  pub valued_kept : (part : Part) → OfPart part → OfReading (valued part)
  valued_kept part h env go k = h env _ (λ c. as_value_kept c env go k)

  attribute_in_kept : (content : Content) (name : Label) → OfReading (attribute_in content name)
  attribute_in_kept (Value-F.Space at) name env go k = keeps.walks at _ (λ ns c. sought_in_kept ns name env go _ k (fault_kept _ env))
  attribute_in_kept Value-F.Nothing name env go k = fault_kept _ env
  attribute_in_kept (Value-F.Flag b) name env go k = fault_kept _ env
  attribute_in_kept (Value-F.Int n) name env go k = fault_kept _ env
  attribute_in_kept (Value-F.Fix x) name env go k = fault_kept _ env
  attribute_in_kept (Value-F.Text t) name env go k = fault_kept _ env
  attribute_in_kept (Value-F.Tup items) name env go k = fault_kept _ env
  attribute_in_kept (Value-F.Cells cells) name env go k = fault_kept _ env
  attribute_in_kept (Value-F.Table t) name env go k = fault_kept _ env

  pub attribute_kept : (v : Value) (name : Label) → OfReading (attribute v name)
  attribute_kept v name env go k = attribute_in_kept (out-Value v) name env go k

  -- ---- calls

  counted_kept : (params : List Param) (args : List Value) (env : Env) (go : List Value → Run) → (wrong : Bool) → is_wrong_count params (length args) ≡ wrong
      → (is_wrong_count params (length args) ≡ false → P (go (bound params args))) → P (if wrong then fault WrongCountInside env else go (bound params args))
  counted_kept params args env go true q k = fault_kept _ env
  counted_kept params args env go false q k = k q

  arguments_kept : (params : List Param) (args : List Value) (env : Env) (go : List Value → Run) → (is_wrong_count params (length args) ≡ false → P (go (bound params args))) → P (arguments_bound params args env go)
  arguments_kept params args env go k =
      if_kept (list_all is_plain args) _ _ (counted_kept params args env go (is_wrong_count params (length args)) refl k) (fault_kept _ env)

  module _ (ns : Namespace) (came : Came ns) (args : List Value) (env : Env) (go : Value → Run) (k : Onwards go) where
    cells_asked_kept : (name : Label) (r : KeyResult) → look (key.Cells ns.source name) ≡ r → P (cells_asked ns name args env go r)
    cells_asked_kept name (found.Formula f allow) e =
        arguments_kept f.params args env (λ vs. Asks (Cell ns.at name vs) (λ r. go r.value)) (λ q. keeps.asks_cell ns name f allow args _ came e q (λ r. k r.value))
    cells_asked_kept name found.Missing e = fault_kept _ env
    cells_asked_kept name found.CellsHere e = fault_kept _ env
    cells_asked_kept name found.Child e = fault_kept _ env
    cells_asked_kept name (found.Ref v o) e = fault_kept _ env
    cells_asked_kept name (found.Params ps) e = fault_kept _ env
    cells_asked_kept name found.There e = fault_kept _ env
    cells_asked_kept name (found.Value v) e = fault_kept _ env
    cells_asked_kept name (found.Table t) e = fault_kept _ env

    space_asked_kept : ends_with_name ns.at ≡ true → (r : KeyResult) → look (key.Params ns.source) ≡ r → P (space_asked ns args env go r)
    space_asked_kept n (found.Params ps) e =
        arguments_kept ps.params args env (item_asked ns env go) (λ q. if_kept (is_allowed (item_at ns (bound ps.params args))) _ _ (keeps.asks_item ns ps args _ came n e q (λ r. k r.value)) (fault_kept _ env))
    space_asked_kept n found.Missing e = fault_kept _ env
    space_asked_kept n found.CellsHere e = fault_kept _ env
    space_asked_kept n found.Child e = fault_kept _ env
    space_asked_kept n (found.Ref v o) e = fault_kept _ env
    space_asked_kept n (found.Formula f a) e = fault_kept _ env
    space_asked_kept n found.There e = fault_kept _ env
    space_asked_kept n (found.Value v) e = fault_kept _ env
    space_asked_kept n (found.Table t) e = fault_kept _ env

    space_if_kept : (b : Bool) → ends_with_name ns.at ≡ b → P (if b then Looks (key.Params ns.source) (space_asked ns args env go) else fault NotCallable env)
    space_if_kept true n = keeps.looked _ _ (space_asked_kept n _ refl)
    space_if_kept false n = fault_kept _ env

  cells_called_kept : (cells : CellsAt) (args : List Value) → OfReading (cells_called cells args)
  cells_called_kept cells args env go k =
      keeps.walks (out-CellsAt cells).space _ (λ ns came. keeps.looked _ _ (cells_asked_kept ns came args env go k (out-CellsAt cells).name _ refl))

  space_called_kept : (at : List Segment) (args : List Value) → OfReading (space_called at args)
  space_called_kept at args env go k = keeps.walks at _ (λ ns came. space_if_kept ns came args env go k (ends_with_name ns.at) refl)

  table_found_kept : (args : List Value) (env : Env) (go : Value → Run) → Onwards go → (r : KeyResult) → P (table_found args env go r)
  table_found_kept args env go k (found.Table t) = computed_kept (entry_of t args) env go k
  table_found_kept args env go k found.Missing = fault_kept _ env
  table_found_kept args env go k found.CellsHere = fault_kept _ env
  table_found_kept args env go k found.Child = fault_kept _ env
  table_found_kept args env go k (found.Ref v o) = fault_kept _ env
  table_found_kept args env go k (found.Formula f a) = fault_kept _ env
  table_found_kept args env go k (found.Params ps) = fault_kept _ env
  table_found_kept args env go k found.There = fault_kept _ env
  table_found_kept args env go k (found.Value v) = fault_kept _ env

  table_kept : (name : Label) (args : List Value) → OfReading (table_indexed name args)
  table_kept name args env go k = keeps.noted _ _ (keeps.looked _ _ (table_found_kept args env go k _))

  value_called_kept : (content : Content) (args : List Value) → OfReading (value_called content args)
  value_called_kept (Value-F.Cells cells) args env go k = cells_called_kept cells args env go k
  value_called_kept (Value-F.Space at) args env go k = space_called_kept at args env go k
  value_called_kept Value-F.Nothing args env go k = fault_kept _ env
  value_called_kept (Value-F.Flag b) args env go k = fault_kept _ env
  value_called_kept (Value-F.Int n) args env go k = fault_kept _ env
  value_called_kept (Value-F.Fix x) args env go k = fault_kept _ env
  value_called_kept (Value-F.Text t) args env go k = fault_kept _ env
  value_called_kept (Value-F.Tup items) args env go k = fault_kept _ env
  value_called_kept (Value-F.Table t) args env go k = fault_kept _ env

  pub called_kept : (c : Callee) (args : List Value) → OfReading (called c args)
  called_kept (Called v) args env go k = value_called_kept (out-Value v) args env go k
  called_kept (Function b) args env go k = computed_kept (gives (op_of b) args) env go k

  indexed_in_kept : (content : Content) (v : Value) (args : List Value) → OfReading (content_indexed content v args)
  indexed_in_kept (Value-F.Cells cells) v args env go k = cells_called_kept cells args env go k
  indexed_in_kept (Value-F.Space at) v args env go k = space_called_kept at args env go k
  indexed_in_kept (Value-F.Table name) v args env go k = table_kept name args env go k
  indexed_in_kept (Value-F.Tup items) v args env go k = computed_kept (gives op.Index (v ∷ args)) env go k
  indexed_in_kept (Value-F.Text t) v args env go k = computed_kept (gives op.Index (v ∷ args)) env go k
  indexed_in_kept Value-F.Nothing v args env go k = fault_kept _ env
  indexed_in_kept (Value-F.Flag b) v args env go k = fault_kept _ env
  indexed_in_kept (Value-F.Int n) v args env go k = fault_kept _ env
  indexed_in_kept (Value-F.Fix x) v args env go k = fault_kept _ env

  pub indexed_kept : (v : Value) (args : List Value) → OfReading (indexed v args)
  indexed_kept v args env go k = indexed_in_kept (out-Value v) v args env go k
