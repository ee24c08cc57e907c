-- The run of a node with arguments stays within the limits. So what it means is within them, and each node that it reaches is
-- proper, as its bound form is.
use Rattle.std.proofs.Common.{◌≡◌, ℕ, zero, suc, Bool, true, false, if◌then◌else◌, ◌≤◌, nat_le, List, [], ◌∷◌, map, Option, None, Some, refl, subst}
use Rattle.mx_value.specs.Size.{size_of}
use Rattle.mx_value.specs.declared.label.Label.{Label}
use Rattle.mx_value.specs.declared.value.Value.{Value, out-Value}
use Rattle.mx_value.specs.declared.value.Value.TheVariants as made
use Rattle.mx_value.specs.declared.value.Segment.{Segment, out-Segment}
use Rattle.mx_value.specs.declared.namespace.Namespace.{Namespace}
use Rattle.mx_value.specs.declared.node.Node.{Node}
use Rattle.mx_value.specs.declared.node.Node.TheVariants.{Cell, Item}
use Rattle.mx_value.specs.declared.fault.FaultKind.TheVariants.{NoneReturned}
use Rattle.mx_syntax.specs.Binding.{defaults}
use Rattle.mx_syntax.specs.Lists.{flat}
use Rattle.mx_syntax.specs.Locals.{bound_by, add_all}
use Rattle.mx_syntax.specs.declared.stmt.Stmt.{Stmt}
use Rattle.mx_syntax.specs.declared.stmt.Param.{Param}
use Rattle.mx_edit.specs.declared.key.Key.{Key}
use Rattle.mx_edit.specs.declared.key.Key.TheVariants as key
use Rattle.mx_edit.specs.declared.key.KeyResult.{KeyResult}
use Rattle.mx_edit.specs.declared.key.KeyResult.TheVariants as found
use Rattle.mx_edit.specs.declared.reply.Reply.{Reply}
use Rattle.mx_runs.specs.Runs.{Run, Ends, Looks, Tests, Asks, Notes, Outcome, Gives, Faults, NoSuch, WrongCount, NoLevel, Event, Looked, Tested, Asked, Noted}
use Rattle.mx_runs.specs.Lists.{Has}
use Rattle.mx_runs.specs.Meaning.{ending, answered, level, Means, Leads}
use Rattle.mx_runs.specs.Chains.{Reaches, Itself, Through}
use Rattle.mx_runs.specs.Inputs.{is_static}
use Rattle.mx_meaning.specs.Namespaces.{Overlay, overlaid_by, ends_with_name, is_short, is_allowed, item_at}
use Rattle.mx_meaning.specs.Binding.{cell_bound, item_bound, binding}
use Rattle.mx_meaning.specs.Statements.{Returned, Plain, Display, body_done}
use Rattle.mx_meaning.specs.Nodes.{arguments_of, set_locals, unset_locals, first_env, value_given, cells_returned, cells_found, cells_run, input_or, item_given, path_in, source_or_fault, based, item_returned, item_done, item_made, item_found, body}
use Rattle.mx_meaning.specs.Laws.{model_of, BindsTo}
use Rattle.mx_state.specs.Proper.{IsArgument, IsStep, HasArguments, IsProper}
use Rattle.mx_limit_laws.specs.Values.{Each, IsWithin, IsAddress}
use Rattle.mx_limit_laws.specs.Literals.{body_literals, or_no_body}
use Rattle.mx_limit_laws.specs.Replies.{IsSmallResult, HasSmallResults, IsSmallNamespace, IsSmallReply}
use Rattle.mx_limit_laws.specs.Laws as law
use Rattle.mx_limit_laws.proofs.Lists.{IfAny, each_append, each_left, each_right, has_each, each_has}
use Rattle.mx_limit_laws.proofs.Values.{AreSteps, both, at_most, argument_within, nothing_within, space_within}
use Rattle.mx_limit_laws.proofs.Addresses.{item_address}
use Rattle.mx_limit_laws.proofs.Staying.{IsSmallOutcome, Stays, if_stays, cell_proper, item_proper, AreSmall, AreSmallLocals, IsSmallEnv, overlaid_by_small}
use Rattle.mx_limit_laws.proofs.Lookups.{walked_stays, refused_stays}
use Rattle.mx_limit_laws.proofs.Statements.{IsSmallReturned, body_stays}

-- ---- where a formula begins

arguments_small : (params : List Param) (args : List Value) → Each IsArgument args → AreSmall (arguments_of params args)
arguments_small [] args a = tt
arguments_small (p ∷ params) [] a = tt
arguments_small (p ∷ params) (v ∷ args) a = (argument_within v a.0, arguments_small params args a.1)

given_locals : (given : Overlay) → AreSmall given → AreSmallLocals (set_locals given)
given_locals [] h = tt
given_locals (o ∷ given) h = (h.0, given_locals given h.1)

none_set : (names : List Label) → AreSmallLocals (map (λ (name : Label). (name, None)) names)
none_set [] = tt
none_set (n ∷ names) = (tt, none_set names)

first_small : (n : Node) (ns : Namespace) → IsSmallNamespace ns → (given : Overlay) → AreSmall given → (stmts : List Stmt) → IsSmallEnv (first_env n ns given stmts)
first_small n ns s given g stmts = record {
  namespace = s;
  locals = each_append (λ (l : Label × Option Value). IfAny IsWithin l.1) (set_locals given) (unset_locals stmts) (given_locals given g) (none_set (add_all [] (flat (map bound_by stmts))));
}

value_reply : (v : Value) → IsWithin v → IsSmallReply (record { value = v; namespace = None })
value_reply v w = record { value = w; namespace = tt }

module _ (look : Key → KeyResult) (small : HasSmallResults look) where
  -- ---- cells

  cells_returned_stays : (allow : Bool) (n : Node) (x : Returned) → IsSmallReturned x → Stays look (cells_returned allow n x)
  cells_returned_stays allow n (Plain made.Nothing) w = if_stays look allow (value_given made.Nothing) (Ends (Faults NoneReturned n 1)) (value_reply made.Nothing nothing_within) tt
  cells_returned_stays allow n (Plain v) w = value_reply v w
  cells_returned_stays allow n (Display refs base) w = tt

  cells_found_stays : (n : Node) (ns : Namespace) → IsSmallNamespace ns → (args : List Value) → Each IsArgument args → (r : KeyResult) → IsSmallResult r → Stays look (cells_found n ns args r)
  cells_found_stays n ns s args a (found.Formula f allow) l =
      refused_stays look small f.params (each_left IsArgument (defaults f.params) (body_literals f.body) l) args a (λ vs. body_done f.body (first_env n ns (arguments_of f.params vs) f.body) (cells_returned allow n)) (λ vs b.
      body_stays look small f.body (each_right IsArgument (defaults f.params) (body_literals f.body) l) _ (first_small n ns s (arguments_of f.params vs) (arguments_small f.params vs b) f.body) (cells_returned allow n) (cells_returned_stays allow n))
  cells_found_stays n ns s args a found.Missing l = tt
  cells_found_stays n ns s args a found.CellsHere l = tt
  cells_found_stays n ns s args a found.Child l = tt
  cells_found_stays n ns s args a (found.Ref v o) l = tt
  cells_found_stays n ns s args a (found.Params ps) l = tt
  cells_found_stays n ns s args a found.There l = tt
  cells_found_stays n ns s args a (found.Value v) l = tt
  cells_found_stays n ns s args a (found.Table t) l = tt

  cells_stay : (n : Node) (at : List Segment) → AreSteps at → (name : Label) (args : List Value) → Each IsArgument args → Stays look (cells_run n at name args)
  cells_stay n at h name args a = walked_stays look small at h _ (λ ns s. cells_found_stays n ns s args a (look (key.Cells ns.source name)) (small (key.Cells ns.source name)))

  input_stays : (run : Run) → Stays look run → (r : KeyResult) → IsSmallResult r → Stays look (input_or run r)
  input_stays run g (found.Value v) l = value_reply v (argument_within v l)
  input_stays run g found.Missing l = g
  input_stays run g found.CellsHere l = g
  input_stays run g found.Child l = g
  input_stays run g (found.Ref v o) l = g
  input_stays run g (found.Formula f allow) l = g
  input_stays run g (found.Params ps) l = g
  input_stays run g found.There l = g
  input_stays run g (found.Table t) l = g

  -- ---- items

  module _ (n : Node) (ns : Namespace) (s : IsSmallNamespace ns) (args : List Value) (a : Each IsArgument args) (few : size_of (made.Space (item_at ns args)) ≤ 1_000_000) where
    address : IsAddress (item_at ns args)
    address = item_address ns.at args s.address.steps (each_has IsArgument args a) few

    given_stays : (over : Overlay) → AreSmall over → (source : List Label) → Stays look (item_given ns args over source)
    given_stays over o source = record { value = space_within (item_at ns args) address; namespace = record { address = address; overlay = o } }

    source_stays : (o : Option (List Label)) (over : Overlay) → AreSmall over → Stays look (source_or_fault o n (item_given ns args over))
    source_stays (Some source) over h = given_stays over h source
    source_stays None over h = tt

    based_stays : (base : Option Value) (over : Overlay) → AreSmall over → Stays look (based base ns n (item_given ns args over))
    based_stays None over h = given_stays over h ns.source
    based_stays (Some v) over h = source_stays (path_in (out-Value v)) over h

    returned_stays : (given : Overlay) → AreSmall given → (x : Returned) → IsSmallReturned x → Stays look (item_returned n ns args given x)
    returned_stays given g (Plain made.Nothing) w = given_stays (overlaid_by ns.overlay given) (overlaid_by_small ns.overlay given s.overlay g) ns.source
    returned_stays given g (Plain v) w = tt
    returned_stays given g (Display refs base) w = based_stays base (overlaid_by (overlaid_by ns.overlay given) refs) (overlaid_by_small (overlaid_by ns.overlay given) refs (overlaid_by_small ns.overlay given s.overlay g) w.0)

    done_stays : (stmts : Option (List Stmt)) → Each IsArgument (or_no_body stmts) → (given : Overlay) → AreSmall given → Stays look (item_done stmts n ns args given)
    done_stays None l given g = returned_stays given g (Plain made.Nothing) nothing_within
    done_stays (Some stmts) l given g = body_stays look small stmts l _ (first_small n ns s given g stmts) (item_returned n ns args given) (returned_stays given g)

  made_stays : (stmts : Option (List Stmt)) → Each IsArgument (or_no_body stmts) → (params : List Param) (n : Node) (ns : Namespace) → IsSmallNamespace ns → (args : List Value) → Each IsArgument args → (b : Bool) → is_allowed (item_at ns args) ≡ b
      → Stays look (if b then item_done stmts n ns args (arguments_of params args) else Ends NoSuch)
  made_stays stmts l params n ns s args a true e =
      done_stays n ns s args a (at_most (size_of (made.Space (item_at ns args))) 1_000_000 (both (is_short (item_at ns args)) (nat_le (size_of (made.Space (item_at ns args))) 1_000_000) e).1) stmts l (arguments_of params args) (arguments_small params args a)
  made_stays stmts l params n ns s args a false e = tt

  item_found_stays : (n : Node) (ns : Namespace) → IsSmallNamespace ns → (args : List Value) → Each IsArgument args → (r : KeyResult) → IsSmallResult r → Stays look (item_found n ns args r)
  item_found_stays n ns s args a (found.Params ps) l =
      refused_stays look small ps.params (each_left IsArgument (defaults ps.params) (or_no_body ps.body) l) args a (item_made ps.body ps.params n ns) (λ vs b.
      made_stays ps.body (each_right IsArgument (defaults ps.params) (or_no_body ps.body) l) ps.params n ns s vs b (is_allowed (item_at ns vs)) refl)
  item_found_stays n ns s args a found.Missing l = tt
  item_found_stays n ns s args a found.CellsHere l = tt
  item_found_stays n ns s args a found.Child l = tt
  item_found_stays n ns s args a (found.Ref v o) l = tt
  item_found_stays n ns s args a (found.Formula f allow) l = tt
  item_found_stays n ns s args a found.There l = tt
  item_found_stays n ns s args a (found.Value v) l = tt
  item_found_stays n ns s args a (found.Table t) l = tt

  -- ---- nodes

  steps_of : (at : List Segment) → ((s : Segment) → Has at s → IsStep (out-Segment s)) → AreSteps at
  steps_of at h = has_each (λ (s : Segment). IsStep (out-Segment s)) at h

  node_stays : (n : Node) → HasArguments n → Stays look (body n)
  node_stays (Cell at name args) h =
      let a = has_each IsArgument args h.own in
      let run : Stays look (cells_run (Cell at name args) at name args) = cells_stay (Cell at name args) at (steps_of at h.items) name args a in
      if_stays look (is_static at) (Looks (key.Input (Cell at name args)) (input_or (cells_run (Cell at name args) at name args))) (cells_run (Cell at name args) at name args)
      (input_stays (cells_run (Cell at name args) at name args) run (look (key.Input (Cell at name args))) (small (key.Input (Cell at name args)))) run
  node_stays (Item at args) h =
      walked_stays look small at (steps_of at h.items) _ (λ ns s.
      if_stays look (ends_with_name ns.at) (Looks (key.Params ns.source) (item_found (Item at args) ns args)) (Ends NoSuch) (item_found_stays (Item at args) ns s args (has_each IsArgument args h.own) (look (key.Params ns.source)) (small (key.Params ns.source))) tt)

  -- ---- what nodes mean

  answered_small : (o : Outcome) (go : Reply → Outcome) → IsSmallOutcome o → ((r : Reply) → IsSmallReply r → IsSmallOutcome (go r)) → IsSmallOutcome (answered o go)
  answered_small (Gives r) go h k = k r h
  answered_small (Faults kind n line) go h k = tt
  answered_small NoSuch go h k = tt
  answered_small WrongCount go h k = tt
  answered_small NoLevel go h k = tt

  ending_small : (ask : Node → Outcome) → ((m : Node) → IsProper m → IsSmallOutcome (ask m)) → (run : Run) → Stays look run → IsSmallOutcome (ending look ask run)
  ending_small ask h (Ends o) g = g
  ending_small ask h (Looks k go) g = ending_small ask h (go (look k)) g
  ending_small ask h (Tests k go) g = ending_small ask h (go (look k)) g
  ending_small ask h (Notes read run) g = ending_small ask h run g
  ending_small ask h (Asks m go) g = answered_small (ask m) _ (h m g.0) (λ r s. ending_small ask h (go r) (g.1 r s))

  level_small : (k : ℕ) (n : Node) → HasArguments n → IsSmallOutcome (level (model_of look) k n)
  level_small zero n h = tt
  level_small (suc k) n h = ending_small (level (model_of look) k) (λ m p. level_small k m p.has) (body n) (node_stays n h)

  pub reply_small : (n : Node) → HasArguments n → (r : Reply) → Means (model_of look) n (Gives r) → IsSmallReply r
  reply_small n h r m = subst IsSmallOutcome m.gives (level_small m.at n h)

  -- ---- what they ask

  rest_stays : (run rest : Run) (es : List Event) → Stays look run → Leads (model_of look) run es rest → Stays look rest
  rest_stays run rest [] g l = subst (Stays look) l g
  rest_stays (Looks k go) rest (Looked x ∷ es) g l = rest_stays (go (look k)) rest es g l.1
  rest_stays (Tests k go) rest (Tested x ∷ es) g l = rest_stays (go (look k)) rest es g l.1
  rest_stays (Asks m go) rest (Asked x r ∷ es) g l = rest_stays (go r) rest es (g.1 r (reply_small m g.0.has r l.1)) l.2
  rest_stays (Notes read run) rest (Noted x ∷ es) g l = rest_stays run rest es g l.1
  rest_stays run rest (e ∷ es) g l = absurd l

  pub reached_proper : (n m : Node) → IsProper n → Reaches (model_of look) n m → IsProper m
  reached_proper n m p Itself = p
  reached_proper n m p (Through k asks more) = reached_proper k m (rest_stays (body n) (Asks k asks.go) asks.events (node_stays n p.has) asks.leads).0 more

  -- ---- bound forms

  -- on with a node that has to be proper
  abbrev onward : Node → Run
  onward n = Asks n (λ r. Ends NoSuch)

  onward_stays : (n : Node) → IsProper n → Stays look (onward n)
  onward_stays n h = (h, λ r s. tt)

  cell_bound_stays : (ns : Namespace) → IsSmallNamespace ns → (name : Label) (args : List Value) → Each IsArgument args → (r : KeyResult) → IsSmallResult r → Stays look (cell_bound ns name args onward r)
  cell_bound_stays ns s name args a (found.Formula f allow) l =
      refused_stays look small f.params (each_left IsArgument (defaults f.params) (body_literals f.body) l) args a (λ vs. onward (Cell ns.at name vs)) (λ vs b. onward_stays (Cell ns.at name vs) (cell_proper ns.at name vs s.address b))
  cell_bound_stays ns s name args a found.Missing l = tt
  cell_bound_stays ns s name args a found.CellsHere l = tt
  cell_bound_stays ns s name args a found.Child l = tt
  cell_bound_stays ns s name args a (found.Ref v o) l = tt
  cell_bound_stays ns s name args a (found.Params ps) l = tt
  cell_bound_stays ns s name args a found.There l = tt
  cell_bound_stays ns s name args a (found.Value v) l = tt
  cell_bound_stays ns s name args a (found.Table t) l = tt

  item_bound_stays : (ns : Namespace) → IsSmallNamespace ns → (args : List Value) → Each IsArgument args → (r : KeyResult) → IsSmallResult r → Stays look (item_bound ns args onward r)
  item_bound_stays ns s args a (found.Params ps) l =
      refused_stays look small ps.params (each_left IsArgument (defaults ps.params) (or_no_body ps.body) l) args a (λ vs. onward (Item ns.at vs)) (λ vs b. onward_stays (Item ns.at vs) (item_proper ns.at vs s.address b))
  item_bound_stays ns s args a found.Missing l = tt
  item_bound_stays ns s args a found.CellsHere l = tt
  item_bound_stays ns s args a found.Child l = tt
  item_bound_stays ns s args a (found.Ref v o) l = tt
  item_bound_stays ns s args a (found.Formula f allow) l = tt
  item_bound_stays ns s args a found.There l = tt
  item_bound_stays ns s args a (found.Value v) l = tt
  item_bound_stays ns s args a (found.Table t) l = tt

  binding_stays : (n : Node) → HasArguments n → Stays look (binding n onward)
  binding_stays (Cell at name args) h = walked_stays look small at (steps_of at h.items) _ (λ ns s. cell_bound_stays ns s name args (has_each IsArgument args h.own) (look (key.Cells ns.source name)) (small (key.Cells ns.source name)))
  binding_stays (Item at args) h =
      walked_stays look small at (steps_of at h.items) _ (λ ns s.
      if_stays look (ends_with_name ns.at) (Tests (key.Params ns.source) (item_bound ns args onward)) (Ends NoSuch) (item_bound_stays ns s args (has_each IsArgument args h.own) (look (key.Params ns.source)) (small (key.Params ns.source))) tt)

  pub bound_proper : (n b : Node) → HasArguments n → BindsTo (model_of look) n b → IsProper b
  bound_proper n b h t = (rest_stays (binding n onward) (onward b) t.events (binding_stays n h) (t.leads onward)).0

pub replies_are_small : law.RepliesAreSmall
replies_are_small look n r small h m = reply_small look small n h r m

pub reached_are_proper : law.ReachedAreProper
reached_are_proper look n m small p r = reached_proper look small n m p r

pub bound_is_proper : law.BoundIsProper
bound_is_proper look n b small h t = bound_proper look small n b h t
