-- An item node gives the space at its address with the item, and cells give a value alone.
use Rattle.std.proofs.Common.{Bool, true, false, ◌≡◌, List, [], ◌∷◌, inl, inr, Option, None, Some, if◌then◌else◌, length, nat_le, refl, sym, subst}
use Rattle.mx_value.specs.declared.label.Label.{Label}
use Rattle.mx_value.specs.declared.value.Value.{Value, out-Value}
use Rattle.mx_value.specs.declared.value.Value.TheVariants as value
use Rattle.mx_value.specs.declared.value.Segment.{Segment, out-Segment}
use Rattle.mx_value.specs.declared.value.Segment.TheOpen.{Segment-F}
use Rattle.mx_value.specs.declared.namespace.Namespace.{Namespace}
use Rattle.mx_value.specs.declared.node.Node.{Node}
use Rattle.mx_value.specs.declared.node.Node.TheVariants.{Cell, Item}
use Rattle.mx_syntax.specs.declared.stmt.Stmt.{Stmt}
use Rattle.mx_syntax.specs.declared.stmt.Params.{Params}
use Rattle.mx_syntax.specs.Binding.{bound, is_wrong_count}
use Rattle.mx_edit.specs.declared.key.Key.{Key}
use Rattle.mx_edit.specs.declared.key.Key.TheVariants as key
use Rattle.mx_edit.specs.declared.key.KeyResult.{KeyResult}
use Rattle.mx_edit.specs.declared.key.KeyResult.TheVariants as found
use Rattle.mx_edit.specs.declared.reply.Reply.{Reply}
use Rattle.mx_runs.specs.Runs.{Run, Ends, Looks, Tests, Asks, Notes, Outcome, Gives, Faults, NoSuch, WrongCount, NoLevel, Event, Looked, Tested, Asked, Noted}
use Rattle.mx_runs.specs.Inputs.{is_static}
use Rattle.mx_runs.specs.Meaning.{Means, Leads}
use Rattle.mx_runs.proofs.Levels.{ends_only}
use Rattle.mx_runs.proofs.Runs.{comparable}
use Rattle.mx_runs.proofs.Meanings.{whole_at}
use Rattle.mx_meaning.specs.Namespaces.{Step, Overlay, root, child, ends_with_name, is_allowed, item_at}
use Rattle.mx_meaning.specs.Walks.{entered, item_entered, stepped, walked_from, walked}
use Rattle.mx_meaning.specs.Statements.{Returned, Plain, Display}
use Rattle.mx_meaning.specs.Nodes.{path_in, source_or_fault, based, item_given, item_returned, item_done, item_made, item_found, item_run, arguments_of, first_env, body, cells_returned, cells_found, cells_run, input_or}
use Rattle.mx_meaning.specs.Laws.{model_of, IsSpaceAt, CellsGiveValues}
use Rattle.mx_meaning.proofs.Keeping.{Keeps, IsNoValue}
use Rattle.mx_meaning.proofs.Bodies.{body_kept}
use Rattle.mx_meaning.proofs.Walking.{Came, bound_on}

module _ (look : Key → KeyResult) (Q : Reply → Type 0) where
  abbrev OfOutcome : Outcome → Type 0
  OfOutcome (Gives r) = Q r
  OfOutcome (Faults kind n line) = Unit {0}
  OfOutcome NoSuch = Unit {0}
  OfOutcome WrongCount = Unit {0}
  OfOutcome NoLevel = Unit {0}

  -- of each reply that the run ends with it holds
  abbrev pub GivesOnly : Run → Type 0
  GivesOnly (Ends o) = OfOutcome o
  GivesOnly (Looks k go) = GivesOnly (go (look k))
  GivesOnly (Tests k go) = GivesOnly (go (look k))
  GivesOnly (Asks m go) = (r : Reply) → GivesOnly (go r)
  GivesOnly (Notes read run) = GivesOnly run

  ended_gives : (o : Outcome) → IsNoValue o → GivesOnly (Ends o)
  ended_gives (Gives r) h = absurd h
  ended_gives (Faults kind n line) h = tt
  ended_gives NoSuch h = tt
  ended_gives WrongCount h = tt
  ended_gives NoLevel h = tt

  module _ (go : Namespace → Run) (k : (ns : Namespace) → GivesOnly (go ns)) where
    entered_gives : (o : Option Namespace) → GivesOnly (entered o go)
    entered_gives (Some ns) = k ns
    entered_gives None = tt

    counted_gives : (ns : Namespace) (args vs : List Value) (wrong : Bool) → GivesOnly (if wrong then Ends WrongCount else Asks (Item ns.at vs) (λ r. entered r.namespace go))
    counted_gives ns args vs true = tt
    counted_gives ns args vs false = λ r. entered_gives r.namespace

    item_entered_gives : (ns : Namespace) (args : List Value) (r : KeyResult) → GivesOnly (item_entered ns args go r)
    item_entered_gives ns args (found.Params ps) = counted_gives ns args (bound ps.params args) (is_wrong_count ps.params (length args))
    item_entered_gives ns args found.Missing = tt
    item_entered_gives ns args found.CellsHere = tt
    item_entered_gives ns args found.Child = tt
    item_entered_gives ns args (found.Ref v o) = tt
    item_entered_gives ns args (found.Formula f a) = tt
    item_entered_gives ns args found.There = tt
    item_entered_gives ns args (found.Value v) = tt
    item_entered_gives ns args (found.Table t) = tt

    item_if_gives : (ns : Namespace) (args : List Value) (b : Bool) → GivesOnly (if b then Tests (key.Params ns.source) (item_entered ns args go) else Ends NoSuch)
    item_if_gives ns args true = item_entered_gives ns args _
    item_if_gives ns args false = tt

    stepped_gives : (s : Step) (ns : Namespace) → GivesOnly (stepped s ns go)
    stepped_gives (Segment-F.Name name) ns = k (child name ns)
    stepped_gives (Segment-F.Item args) ns = item_if_gives ns args (ends_with_name ns.at)

  refused_gives : (b : Bool) (run : Run) → GivesOnly run → GivesOnly (if b then Ends NoSuch else run)
  refused_gives true run g = tt
  refused_gives false run g = g

  walked_from_gives : (segments : List Segment) (ns : Namespace) (go : Namespace → Run) → ((m : Namespace) → GivesOnly (go m)) → GivesOnly (walked_from segments ns go)
  walked_from_gives [] ns go k = k ns
  walked_from_gives (s ∷ more) ns go k =
      refused_gives (nat_le 64 (length ns.at)) _ (stepped_gives (λ next. walked_from more next go) (λ next. walked_from_gives more next go k) (out-Segment s) ns)

  walked_gives : (segments : List Segment) (go : Namespace → Run) → ((m : Namespace) → Unit {0} → GivesOnly (go m)) → GivesOnly (walked segments go)
  walked_gives [] go k = tt
  walked_gives (s ∷ more) go k = walked_from_gives (s ∷ more) root go (λ m. k m tt)

  kept : Keeps look GivesOnly (λ ns. Unit {0})
  kept = record {
    ended = ended_gives;
    looked = λ k go h. h;
    noted = λ read run h. h;
    walks = walked_gives;
    asks_cell = λ ns name f allow args go c e q k. k;
    asks_item = λ ns ps args go c n e q k. k;
  }

  -- a run by these events to a value
  pub gives_at_end : (run : Run) (es : List Event) (r : Reply) → GivesOnly run → Leads (model_of look) run es (Ends (Gives r)) → Q r
  gives_at_end run [] r g l = subst GivesOnly l g
  gives_at_end (Looks k go) (Looked x ∷ es) r g l = gives_at_end (go (look k)) es r g l.1
  gives_at_end (Tests k go) (Tested x ∷ es) r g l = gives_at_end (go (look k)) es r g l.1
  gives_at_end (Asks m go) (Asked x v ∷ es) r g l = gives_at_end (go v) es r (g v) l.2
  gives_at_end (Notes read run) (Noted x ∷ es) r g l = gives_at_end run es r g l.1
  gives_at_end run (e ∷ es) r g l = absurd l

-- ---- items

-- each reply is the space at the address
abbrev GivesSpace : (Key → KeyResult) → List Segment → Run → Type 0
GivesSpace look at = GivesOnly look (IsSpaceAt at)

module _ (look : Key → KeyResult) (n : Node) (ns : Namespace) (args : List Value) where
  source_gives : (over : Overlay) (o : Option (List Label)) → GivesSpace look (item_at ns args) (source_or_fault o n (item_given ns args over))
  source_gives over (Some source) = record { space = record { at = item_at ns args; source = source; overlay = over }; is = refl; address = refl }
  source_gives over None = tt

  based_gives : (over : Overlay) (base : Option Value) → GivesSpace look (item_at ns args) (based base ns n (item_given ns args over))
  based_gives over None = record { space = record { at = item_at ns args; source = ns.source; overlay = over }; is = refl; address = refl }
  based_gives over (Some v) = source_gives over (path_in (out-Value v))

  returned_gives : (given : Overlay) (x : Returned) → GivesSpace look (item_at ns args) (item_returned n ns args given x)
  returned_gives given (Plain value.Nothing) = record { space = _; is = refl; address = refl }
  returned_gives given (Plain v) = tt
  returned_gives given (Display refs base) = based_gives _ base

  done_gives : (given : Overlay) (b : Option (List Stmt)) → GivesSpace look (item_at ns args) (item_done b n ns args given)
  done_gives given None = returned_gives given (Plain value.Nothing)
  done_gives given (Some stmts) = body_kept look (GivesSpace look (item_at ns args)) (λ m. Unit {0}) (kept look (IsSpaceAt (item_at ns args))) stmts (first_env n ns given stmts) (item_returned n ns args given) (returned_gives given)

  made_if_gives : (ps : Params) (b : Bool) → GivesSpace look (item_at ns args) (if b then item_done ps.body n ns args (arguments_of ps.params args) else Ends NoSuch)
  made_if_gives ps true = done_gives (arguments_of ps.params args) ps.body
  made_if_gives ps false = tt

  made_gives : (ps : Params) → GivesSpace look (item_at ns args) (item_made ps.body ps.params n ns args)
  made_gives ps = made_if_gives ps (is_allowed (item_at ns args))

-- what the item node of a namespace gives, where its arguments are bound
module _ (look : Key → KeyResult) (ns : Namespace) (came : Came look ns) (ps : Params) (args : List Value) (n : ends_with_name ns.at ≡ true)
    (e : look (key.Params ns.source) ≡ found.Params ps) (q : is_wrong_count ps.params (length args) ≡ false) where
  abbrev node : Node
  node = Item ns.at (bound ps.params args)

  abbrev address : List Segment
  address = item_at ns (bound ps.params args)

  run_gives : GivesSpace look address (item_run node (bound ps.params args) ns)
  run_gives =
      subst (λ (b : Bool). GivesSpace look address (if b then Looks (key.Params ns.source) (item_found node ns (bound ps.params args)) else Ends NoSuch)) (sym n)
      (subst (λ r. GivesSpace look address (item_found node ns (bound ps.params args) r)) (sym e)
      (subst (GivesSpace look address) (sym (bound_on ps.params args (item_made ps.body ps.params node ns) q)) (made_gives look node ns (bound ps.params args) ps)))

  pub item_reply : (r : Reply) → Means (model_of look) node (Gives r) → IsSpaceAt address r
  item_reply r m =
      let w = whole_at (model_of look) node r m.at m.gives in
      elim (comparable (model_of look) (body node) (item_run node (bound ps.params args) ns) (Ends (Gives r)) came.events w.events (came.leads (item_run node (bound ps.params args))) w.leads) [
        | inl a ↦ gives_at_end look (IsSpaceAt address) _ a.more r run_gives a.leads
        | inr a ↦ subst (GivesSpace look address) (ends_only (model_of look) (Gives r) _ a.more a.leads).1 run_gives
      ]

-- ---- cells

-- the reply has no namespace
abbrev HasNoSpace : Reply → Type 0
HasNoSpace r = r.namespace ≡ None

module _ (look : Key → KeyResult) where
  cells_if_gives : (b : Bool) (run other : Run) → GivesOnly look HasNoSpace run → GivesOnly look HasNoSpace other → GivesOnly look HasNoSpace (if b then run else other)
  cells_if_gives true run other x y = x
  cells_if_gives false run other x y = y

  cells_returned_gives : (allow : Bool) (n : Node) (x : Returned) → GivesOnly look HasNoSpace (cells_returned allow n x)
  cells_returned_gives allow n (Plain value.Nothing) = cells_if_gives allow _ _ refl tt
  cells_returned_gives allow n (Plain v) = refl
  cells_returned_gives allow n (Display refs base) = tt

  cells_found_gives : (n : Node) (ns : Namespace) (args : List Value) (r : KeyResult) → GivesOnly look HasNoSpace (cells_found n ns args r)
  cells_found_gives n ns args (found.Formula f allow) =
      cells_if_gives (is_wrong_count f.params (length args)) _ _ tt (body_kept look (GivesOnly look HasNoSpace) (λ m. Unit {0}) (kept look HasNoSpace) f.body _ (cells_returned allow n) (cells_returned_gives allow n))
  cells_found_gives n ns args found.Missing = tt
  cells_found_gives n ns args found.CellsHere = tt
  cells_found_gives n ns args found.Child = tt
  cells_found_gives n ns args (found.Ref v o) = tt
  cells_found_gives n ns args (found.Params ps) = tt
  cells_found_gives n ns args found.There = tt
  cells_found_gives n ns args (found.Value v) = tt
  cells_found_gives n ns args (found.Table t) = tt

  cells_give : (n : Node) (at : List Segment) (name : Label) (args : List Value) → GivesOnly look HasNoSpace (cells_run n at name args)
  cells_give n at name args = walked_gives look HasNoSpace at _ (λ ns c. cells_found_gives n ns args _)

  input_gives : (run : Run) → GivesOnly look HasNoSpace run → (r : KeyResult) → GivesOnly look HasNoSpace (input_or run r)
  input_gives run g (found.Value v) = refl
  input_gives run g found.Missing = g
  input_gives run g found.CellsHere = g
  input_gives run g found.Child = g
  input_gives run g (found.Ref v o) = g
  input_gives run g (found.Formula f a) = g
  input_gives run g (found.Params ps) = g
  input_gives run g found.There = g
  input_gives run g (found.Table t) = g

  node_gives : (at : List Segment) (name : Label) (args : List Value) → GivesOnly look HasNoSpace (body (Cell at name args))
  node_gives at name args =
      let run : Run = cells_run (Cell at name args) at name args in
      let g : GivesOnly look HasNoSpace run = cells_give (Cell at name args) at name args in
      cells_if_gives (is_static at) (Looks (key.Input (Cell at name args)) (input_or run)) run (input_gives run g (look (key.Input (Cell at name args)))) g

pub cells_give_values : CellsGiveValues
cells_give_values look at name args r m =
    let w = whole_at (model_of look) (Cell at name args) r m.at m.gives in
    gives_at_end look HasNoSpace (body (Cell at name args)) w.events r (node_gives look at name args) w.leads
