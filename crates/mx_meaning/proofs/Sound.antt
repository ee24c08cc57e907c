-- Each node that a run asks is its own bound form, and a key that it tests before an ask is one of the node that it asks.
use Rattle.std.proofs.Common.{Bool, true, false, ◌≡◌, List, [], ◌∷◌, ◌++◌, inl, inr, Option, None, Some, if◌then◌else◌, length, refl, sym, ◌∙◌, ap, subst}
use Rattle.mx_value.specs.declared.label.Label.{Label}
use Rattle.mx_value.specs.declared.value.Value.{Value}
use Rattle.mx_value.specs.declared.value.Value.TheVariants as value
use Rattle.mx_value.specs.declared.value.Segment.{Segment}
use Rattle.mx_value.specs.declared.namespace.Namespace.{Namespace}
use Rattle.mx_value.specs.declared.node.Node.{Node}
use Rattle.mx_value.specs.declared.node.Node.TheVariants.{Cell, Item}
use Rattle.mx_syntax.specs.declared.stmt.Stmt.{Stmt}
use Rattle.mx_syntax.specs.declared.stmt.Params.{Params}
use Rattle.mx_syntax.specs.declared.stmt.Formula.{Formula}
use Rattle.mx_syntax.specs.Binding.{bound, is_wrong_count}
use Rattle.mx_edit.specs.declared.key.Key.{Key}
use Rattle.mx_edit.specs.declared.key.Key.TheVariants as key
use Rattle.mx_edit.specs.declared.key.KeyResult.{KeyResult}
use Rattle.mx_edit.specs.declared.key.KeyResult.TheVariants as found
use Rattle.mx_edit.specs.declared.reply.Reply.{Reply}
use Rattle.mx_runs.specs.Runs.{Run, Ends, Looks, Tests, Asks, Notes, Outcome, Gives, NoSuch, WrongCount, Event, Looked, Tested, Asked, Noted}
use Rattle.mx_runs.specs.Meaning.{Means, Leads}
use Rattle.mx_runs.specs.Inputs.{is_static}
use Rattle.mx_runs.specs.Support.{LooksUp, IsCovered}
use Rattle.mx_runs.proofs.Levels.{ends_only, leads_append}
use Rattle.mx_runs.proofs.Runs.{comparable}
use Rattle.mx_runs.proofs.Meanings.{whole_at}
use Rattle.mx_meaning.specs.Namespaces.{Overlay, ends_with_name, is_allowed, item_at}
use Rattle.mx_meaning.specs.Walks.{entered, item_entered, walked}
use Rattle.mx_meaning.specs.Binding.{binding, cell_bound, item_bound, item_sought}
use Rattle.mx_meaning.specs.Statements.{Returned, Plain, Display}
use Rattle.mx_meaning.specs.Nodes.{cells_returned, cells_found, cells_run, input_or, source_or_fault, based, item_given, item_returned, item_done, item_found, item_run, body}
use Rattle.mx_meaning.specs.Laws.{model_of, BindsTo, AskedIsBound, TestsAreOfAsked}
use Rattle.mx_meaning.proofs.Keeping.{Keeps, IsNoValue}
use Rattle.mx_meaning.proofs.Bodies.{body_kept}
use Rattle.mx_meaning.proofs.Walking.{Came, bound_on}
use Rattle.mx_meaning.proofs.Walked.{walked_kept}

-- ---- the nodes that a namespace's space leads to

module _ (look : Key → KeyResult) (ns : Namespace) (came : Came look ns) where
  -- cells of the space, with their arguments bound
  module _ (name : Label) (f : Formula) (allow : Bool) (args : List Value) (e : look (key.Cells ns.source name) ≡ found.Formula f allow)
      (q : is_wrong_count f.params (length args) ≡ false) where
    cell_leads : (go : Node → Run) → Leads (model_of look) (binding (Cell ns.at name (bound f.params args)) go) (came.events ++ Tested (key.Cells ns.source name) ∷ []) (go (Cell ns.at name (bound f.params args)))
    cell_leads go =
        leads_append (model_of look) _ _ _ came.events _ (came.leads (λ m. Tests (key.Cells m.source name) (cell_bound m name (bound f.params args) go)))
        (refl, ap (cell_bound ns name (bound f.params args) go) e ∙ bound_on f.params args (λ vs. go (Cell ns.at name vs)) q)

    pub cell_binds : BindsTo (model_of look) (Cell ns.at name (bound f.params args)) (Cell ns.at name (bound f.params args))
    cell_binds = record { events = came.events ++ Tested (key.Cells ns.source name) ∷ []; leads = cell_leads }

  -- an item of the space, with its arguments bound
  module _ (ps : Params) (args : List Value) (n : ends_with_name ns.at ≡ true) (e : look (key.Params ns.source) ≡ found.Params ps)
      (q : is_wrong_count ps.params (length args) ≡ false) where
    sought_here : (go : Node → Run) → item_sought ns (bound ps.params args) go ≡ Tests (key.Params ns.source) (item_bound ns (bound ps.params args) go)
    sought_here go = ap (λ (b : Bool). if b then Tests (key.Params ns.source) (item_bound ns (bound ps.params args) go) else Ends NoSuch) n

    item_leads : (go : Node → Run) → Leads (model_of look) (binding (Item ns.at (bound ps.params args)) go) (came.events ++ Tested (key.Params ns.source) ∷ []) (go (Item ns.at (bound ps.params args)))
    item_leads go =
        leads_append (model_of look) _ _ _ came.events _ (came.leads (λ m. item_sought m (bound ps.params args) go))
        (subst (λ run. Leads (model_of look) run (Tested (key.Params ns.source) ∷ []) (go (Item ns.at (bound ps.params args)))) (sym (sought_here go))
        (refl, ap (item_bound ns (bound ps.params args) go) e ∙ bound_on ps.params args (λ vs. go (Item ns.at vs)) q))

    pub item_binds : BindsTo (model_of look) (Item ns.at (bound ps.params args)) (Item ns.at (bound ps.params args))
    item_binds = record { events = came.events ++ Tested (key.Params ns.source) ∷ []; leads = item_leads }

    -- and its own run looks up the parameters
    item_looks : LooksUp (model_of look) (Item ns.at (bound ps.params args)) (key.Params ns.source)
    item_looks = record {
      events = came.events;
      go = item_found (Item ns.at (bound ps.params args)) ns (bound ps.params args);
      leads = subst (λ run. Leads (model_of look) (body (Item ns.at (bound ps.params args))) came.events run)
          (ap (λ (b : Bool). if b then Looks (key.Params ns.source) (item_found (Item ns.at (bound ps.params args)) ns (bound ps.params args)) else Ends NoSuch) n)
          (came.leads (item_run (Item ns.at (bound ps.params args)) (bound ps.params args)));
    }

-- ---- runs

module _ (look : Key → KeyResult) where
  -- what comes behind a test: an end without a value, or an ask of a node that looks the key up
  abbrev IsTested : Key → Run → Type 0
  IsTested k (Ends o) = IsNoValue o
  IsTested k (Looks l go) = ⊥
  IsTested k (Tests l go) = ⊥
  IsTested k (Asks m go) = LooksUp (model_of look) m k
  IsTested k (Notes read run) = ⊥

  abbrev pub Sound : Run → Type 0
  Sound (Ends o) = Unit {0}
  Sound (Looks k go) = Sound (go (look k))
  Sound (Tests k go) = IsTested k (go (look k)) × Sound (go (look k))
  Sound (Asks m go) = BindsTo (model_of look) m m × ((r : Reply) → Means (model_of look) m (Gives r) → Sound (go r))
  Sound (Notes read run) = Sound run

  module _ (ns : Namespace) (came : Came look ns) (n : ends_with_name ns.at ≡ true) (args : List Value) (go : Namespace → Run)
      (k : (ps : Params) → look (key.Params ns.source) ≡ found.Params ps → is_wrong_count ps.params (length args) ≡ false → (r : Reply) → Means (model_of look) (Item ns.at (bound ps.params args)) (Gives r) → Sound (entered r.namespace go)) where
    counted_sound : (ps : Params) → look (key.Params ns.source) ≡ found.Params ps → (wrong : Bool) → is_wrong_count ps.params (length args) ≡ wrong
        → IsTested (key.Params ns.source) (if wrong then Ends WrongCount else Asks (Item ns.at (bound ps.params args)) (λ r. entered r.namespace go)) × Sound (if wrong then Ends WrongCount else Asks (Item ns.at (bound ps.params args)) (λ r. entered r.namespace go))
    counted_sound ps e true q = (tt, tt)
    counted_sound ps e false q = (item_looks look ns came ps args n e q, (item_binds look ns came ps args n e q, λ r m. k ps e q r m))

    tested_sound : (r : KeyResult) → look (key.Params ns.source) ≡ r → IsTested (key.Params ns.source) (item_entered ns args go r) × Sound (item_entered ns args go r)
    tested_sound (found.Params ps) e = counted_sound ps e (is_wrong_count ps.params (length args)) refl
    tested_sound found.Missing e = (tt, tt)
    tested_sound found.CellsHere e = (tt, tt)
    tested_sound found.Child e = (tt, tt)
    tested_sound (found.Ref v o) e = (tt, tt)
    tested_sound (found.Formula f a) e = (tt, tt)
    tested_sound found.There e = (tt, tt)
    tested_sound (found.Value v) e = (tt, tt)
    tested_sound (found.Table t) e = (tt, tt)

  walked_sound : (segments : List Segment) (go : Namespace → Run) → ((m : Namespace) → Came look m → Sound (go m)) → Sound (walked segments go)
  walked_sound segments go k =
      walked_kept look Sound (record { refused = tt; entering = λ ns came n args go k. tested_sound ns came n args go k (look (key.Params ns.source)) refl }) segments go k

  sound_keeps : Keeps look Sound (Came look)
  sound_keeps = record {
    ended = λ o h. tt;
    looked = λ k go h. h;
    noted = λ read run h. h;
    walks = walked_sound;
    asks_cell = λ ns name f allow args go c e q k. (cell_binds look ns c name f allow args e q, λ r m. k r);
    asks_item = λ ns ps args go c n e q k. (item_binds look ns c ps args n e q, λ r m. k r);
  }

  -- ---- the runs of nodes

  counted_runs : (b : Bool) (run : Run) → Sound run → Sound (if b then Ends WrongCount else run)
  counted_runs true run g = tt
  counted_runs false run g = g

  allowed_sound : (b : Bool) (run : Run) → Sound run → Sound (if b then run else Ends NoSuch)
  allowed_sound true run g = g
  allowed_sound false run g = tt

  nothing_sound : (allow : Bool) (n : Node) → Sound (cells_returned allow n (Plain value.Nothing))
  nothing_sound true n = tt
  nothing_sound false n = tt

  cells_returned_sound : (allow : Bool) (n : Node) (x : Returned) → Sound (cells_returned allow n x)
  cells_returned_sound allow n (Plain value.Nothing) = nothing_sound allow n
  cells_returned_sound allow n (Plain v) = tt
  cells_returned_sound allow n (Display refs base) = tt

  cells_found_sound : (n : Node) (ns : Namespace) (args : List Value) (r : KeyResult) → Sound (cells_found n ns args r)
  cells_found_sound n ns args (found.Formula f allow) = counted_runs (is_wrong_count f.params (length args)) _ (body_kept look Sound (Came look) sound_keeps f.body _ (cells_returned allow n) (cells_returned_sound allow n))
  cells_found_sound n ns args found.Missing = tt
  cells_found_sound n ns args found.CellsHere = tt
  cells_found_sound n ns args found.Child = tt
  cells_found_sound n ns args (found.Ref v o) = tt
  cells_found_sound n ns args (found.Params ps) = tt
  cells_found_sound n ns args found.There = tt
  cells_found_sound n ns args (found.Value v) = tt
  cells_found_sound n ns args (found.Table t) = tt

  cells_sound : (n : Node) (at : List Segment) (name : Label) (args : List Value) → Sound (cells_run n at name args)
  cells_sound n at name args = walked_sound at _ (λ ns c. cells_found_sound n ns args _)

  input_sound : (run : Run) → Sound run → (r : KeyResult) → Sound (input_or run r)
  input_sound run g (found.Value v) = tt
  input_sound run g found.Missing = g
  input_sound run g found.CellsHere = g
  input_sound run g found.Child = g
  input_sound run g (found.Ref v o) = g
  input_sound run g (found.Formula f a) = g
  input_sound run g (found.Params ps) = g
  input_sound run g found.There = g
  input_sound run g (found.Table t) = g

  unless_sound : (b : Bool) (n : Node) (run : Run) → Sound run → Sound (if b then Looks (key.Input n) (input_or run) else run)
  unless_sound true n run g = input_sound run g _
  unless_sound false n run g = g

  source_sound : (o : Option (List Label)) (n : Node) (ns : Namespace) (args : List Value) (over : Overlay) → Sound (source_or_fault o n (item_given ns args over))
  source_sound (Some source) n ns args over = tt
  source_sound None n ns args over = tt

  based_sound : (base : Option Value) (n : Node) (ns : Namespace) (args : List Value) (over : Overlay) → Sound (based base ns n (item_given ns args over))
  based_sound None n ns args over = tt
  based_sound (Some v) n ns args over = source_sound _ n ns args over

  item_returned_sound : (n : Node) (ns : Namespace) (args : List Value) (given : Overlay) (x : Returned) → Sound (item_returned n ns args given x)
  item_returned_sound n ns args given (Plain value.Nothing) = tt
  item_returned_sound n ns args given (Plain v) = tt
  item_returned_sound n ns args given (Display refs base) = based_sound base n ns args _

  item_done_sound : (b : Option (List Stmt)) (n : Node) (ns : Namespace) (args : List Value) (given : Overlay) → Sound (item_done b n ns args given)
  item_done_sound None n ns args given = tt
  item_done_sound (Some stmts) n ns args given = body_kept look Sound (Came look) sound_keeps stmts _ (item_returned n ns args given) (item_returned_sound n ns args given)

  item_found_sound : (n : Node) (ns : Namespace) (args : List Value) (r : KeyResult) → Sound (item_found n ns args r)
  item_found_sound n ns args (found.Params ps) =
      counted_runs (is_wrong_count ps.params (length args)) _ (allowed_sound (is_allowed (item_at ns (bound ps.params args))) _ (item_done_sound ps.body n ns (bound ps.params args) _))
  item_found_sound n ns args found.Missing = tt
  item_found_sound n ns args found.CellsHere = tt
  item_found_sound n ns args found.Child = tt
  item_found_sound n ns args (found.Ref v o) = tt
  item_found_sound n ns args (found.Formula f a) = tt
  item_found_sound n ns args found.There = tt
  item_found_sound n ns args (found.Value v) = tt
  item_found_sound n ns args (found.Table t) = tt

  node_sound : (n : Node) → Sound (body n)
  node_sound (Cell at name args) = unless_sound (is_static at) (Cell at name args) _ (cells_sound (Cell at name args) at name args)
  node_sound (Item at args) = walked_sound at _ (λ ns c. allowed_sound (ends_with_name ns.at) _ (item_found_sound (Item at args) ns args _))

  rest_sound : (run rest : Run) (es : List Event) → Sound run → Leads (model_of look) run es rest → Sound rest
  rest_sound run rest [] g l = subst Sound l g
  rest_sound (Looks k go) rest (Looked x ∷ es) g l = rest_sound (go (look k)) rest es g l.1
  rest_sound (Tests k go) rest (Tested x ∷ es) g l = rest_sound (go (look k)) rest es g.1 l.1
  rest_sound (Asks m go) rest (Asked x r ∷ es) g l = rest_sound (go r) rest es (g.1 r l.1) l.2
  rest_sound (Notes read run) rest (Noted x ∷ es) g l = rest_sound run rest es g l.1
  rest_sound run rest (e ∷ es) g l = absurd l

  -- a run with a value does not end without one
  no_other_end : (n : Node) (r : Reply) (es : List Event) (o : Outcome) → IsNoValue o → Means (model_of look) n (Gives r) → Leads (model_of look) (body n) es (Ends o) → ⊥
  no_other_end n r es o h m l =
      let w = whole_at (model_of look) n r m.at m.gives in
      let same : Ends o ≡ Ends (Gives r) = elim (comparable (model_of look) (body n) (Ends o) (Ends (Gives r)) es w.events l w.leads) [
        | inl a ↦ sym (ends_only (model_of look) o _ a.more a.leads).1
        | inr a ↦ (ends_only (model_of look) (Gives r) _ a.more a.leads).1
      ] in
      let is : o ≡ Gives r = cc in
      subst IsNoValue is h

  covered_by : (n : Node) (r : Reply) (k : Key) (es : List Event) (run : Run) → Means (model_of look) n (Gives r) → IsTested k run → Leads (model_of look) (body n) es run → IsCovered (model_of look) n k
  covered_by n r k es (Ends o) m h l = absurd (no_other_end n r es o h m l)
  covered_by n r k es (Looks x go) m h l = absurd h
  covered_by n r k es (Tests x go) m h l = absurd h
  covered_by n r k es (Asks a go) m h l = record { asked = a; asks = record { events = es; go = go; leads = l }; looks = h }
  covered_by n r k es (Notes read run) m h l = absurd h

pub asked_is_bound : AskedIsBound
asked_is_bound look n m a = (rest_sound look (body n) (Asks m a.go) a.events (node_sound look n) a.leads).0

pub tests_are_covered : TestsAreOfAsked
tests_are_covered look n r k m t =
    let g : Sound look (Tests k t.go) = rest_sound look (body n) (Tests k t.go) t.events (node_sound look n) t.leads in
    covered_by look n r k (t.events ++ Tested k ∷ []) (t.go (look k)) m g.0 (leads_append (model_of look) (body n) (Tests k t.go) (t.go (look k)) t.events (Tested k ∷ []) t.leads (refl, refl))
