-- The namespaces that a walk comes to: the walk of their own addresses comes to them again.
use Rattle.std.proofs.Common.{Bool, true, false, ◌≡◌, nat_le, List, [], ◌∷◌, ◌++◌, Some, if◌then◌else◌, length, refl, sym, ◌∙◌, ap, subst}
use Rattle.std.proofs.Math.Path.{fun_ext}
use Rattle.mx_value.specs.declared.label.Label.{Label}
use Rattle.mx_value.specs.declared.value.Value.{Value}
use Rattle.mx_value.specs.declared.value.Segment.{Segment}
use Rattle.mx_value.specs.declared.value.Segment.TheOpen.{Segment-F}
use Rattle.mx_value.specs.declared.value.Segment.TheViews.{out-Segment, out-roll-Segment}
use Rattle.mx_value.specs.declared.value.Segment.TheVariants as segment
use Rattle.mx_value.specs.declared.namespace.Namespace.{Namespace}
use Rattle.mx_value.specs.declared.node.Node.TheVariants.{Item}
use Rattle.mx_syntax.specs.declared.stmt.Param.{Param}
use Rattle.mx_syntax.specs.declared.stmt.Params.{Params}
use Rattle.mx_syntax.specs.Binding.{bound, is_wrong_count}
use Rattle.mx_edit.specs.declared.key.Key.{Key}
use Rattle.mx_edit.specs.declared.key.Key.TheVariants as key
use Rattle.mx_edit.specs.declared.key.KeyResult.{KeyResult}
use Rattle.mx_edit.specs.declared.key.KeyResult.TheVariants as found
use Rattle.mx_edit.specs.declared.reply.Reply.{Reply}
use Rattle.mx_runs.specs.Runs.{Run, Ends, Tests, Asks, NoSuch, WrongCount, Gives, Event, Tested, Asked}
use Rattle.mx_runs.specs.Meaning.{Means, Leads}
use Rattle.mx_runs.proofs.Levels.{leads_append}
use Rattle.mx_meaning.specs.Namespaces.{Step, root, child, ends_with_name}
use Rattle.mx_meaning.specs.Walks.{entered, item_entered, bound_or_refused, stepped, walked_from, walked}
use Rattle.mx_meaning.specs.Laws.{model_of}
use Rattle.mx_meaning.proofs.Bound.{bound_twice, bound_counts}

pub out_name : (name : Label) → out-Segment (segment.Name name) ≡ Segment-F.Name name
out_name name = ap out-Segment (sym (segment.rolls-Name name)) ∙ out-roll-Segment (Segment-F.Name name)

pub out_item : (args : List Value) → out-Segment (segment.Item args) ≡ Segment-F.Item args
out_item args = ap out-Segment (sym (segment.rolls-Item args)) ∙ out-roll-Segment (Segment-F.Item args)

pub walk_append : (xs ys : List Segment) (ns : Namespace) (go : Namespace → Run) → walked_from (xs ++ ys) ns go ≡ walked_from xs ns (λ m. walked_from ys m go)
walk_append [] ys ns go = refl
walk_append (x ∷ xs) ys ns go =
    ap (λ (k : Namespace → Run). if nat_le 64 (length ns.at) then Ends NoSuch else stepped (out-Segment x) ns k) (fun_ext (λ next. walk_append xs ys next go))

pub walked_push : (xs : List Segment) (s : Segment) (go : Namespace → Run) → walked (xs ++ s ∷ []) go ≡ walked_from (xs ++ s ∷ []) root go
walked_push [] s go = refl
walked_push (x ∷ xs) s go = refl

one_step : (s : Segment) (ns : Namespace) (go : Namespace → Run) → nat_le 64 (length ns.at) ≡ false → walked_from (s ∷ []) ns go ≡ stepped (out-Segment s) ns go
one_step s ns go f = ap (λ (b : Bool). if b then Ends NoSuch else stepped (out-Segment s) ns go) f

-- arguments that are bound bind to themselves
pub bound_on : (params : List Param) (args : List Value) (go : List Value → Run) → is_wrong_count params (length args) ≡ false → bound_or_refused params (bound params args) go ≡ go (bound params args)
bound_on params args go q =
    ap (λ (b : Bool). if b then Ends WrongCount else go (bound params (bound params args))) (bound_counts params args q) ∙ ap go (bound_twice params args q)

module _ (look : Key → KeyResult) where
  -- the way from the top comes to the namespace again
  pub record Reached (ns : Namespace) : Type 0 where
    pub events : List Event
    pub leads : (go : Namespace → Run) → Leads (model_of look) (walked_from ns.at root go) events (go ns)

  -- the walk of its address comes to the namespace
  pub record Came (ns : Namespace) : Type 0 where
    pub events : List Event
    pub leads : (go : Namespace → Run) → Leads (model_of look) (walked ns.at go) events (go ns)

  pub root_reached : Reached root
  root_reached = record { events = []; leads = λ go. refl }

  module _ (ns next : Namespace) (r : Reached ns) (s : Segment) (few : nat_le 64 (length ns.at) ≡ false) (es : List Event)
      (h : (go : Namespace → Run) → Leads (model_of look) (stepped (out-Segment s) ns go) es (go next)) (e : next.at ≡ ns.at ++ s ∷ []) where
    pub further : (go : Namespace → Run) → Leads (model_of look) (walked_from (ns.at ++ s ∷ []) root go) (r.events ++ es) (go next)
    further go =
        let on : Leads (model_of look) (walked_from (s ∷ []) ns go) es (go next) =
        subst (λ run. Leads (model_of look) run es (go next)) (sym (one_step s ns go few)) (h go) in
        subst (λ run. Leads (model_of look) run (r.events ++ es) (go next)) (sym (walk_append ns.at (s ∷ []) root go))
        (leads_append (model_of look) _ _ (go next) r.events es (r.leads (λ m. walked_from (s ∷ []) m go)) on)

    pub reached_on : Reached next
    reached_on = record { events = r.events ++ es; leads = λ go. subst (λ at. Leads (model_of look) (walked_from at root go) (r.events ++ es) (go next)) (sym e) (further go) }

    pub came_on : Came next
    came_on = record { events = r.events ++ es; leads = λ go. subst (λ at. Leads (model_of look) (walked at go) (r.events ++ es) (go next)) (sym e) (subst (λ run. Leads (model_of look) run (r.events ++ es) (go next)) (sym (walked_push ns.at s go)) (further go)) }

  -- a name steps to the child
  pub name_steps : (ns : Namespace) (name : Label) (go : Namespace → Run) → Leads (model_of look) (stepped (out-Segment (segment.Name name)) ns go) [] (go (child name ns))
  name_steps ns name go = ap (λ (s : Step). stepped s ns go) (out_name name)

  -- an item, with its arguments bound, steps to the namespace that its node gives
  module _ (ns next : Namespace) (ps : Params) (args : List Value) (n : ends_with_name ns.at ≡ true) (e : look (key.Params ns.source) ≡ found.Params ps)
      (q : is_wrong_count ps.params (length args) ≡ false) (r : Reply) (m : Means (model_of look) (Item ns.at (bound ps.params args)) (Gives r)) (is : r.namespace ≡ Some next) where
    abbrev pub item_events : List Event
    item_events = Tested (key.Params ns.source) ∷ Asked (Item ns.at (bound ps.params args)) r ∷ []

    enters : (go : Namespace → Run) → item_entered ns (bound ps.params args) go (look (key.Params ns.source)) ≡ Asks (Item ns.at (bound ps.params args)) (λ r. entered r.namespace go)
    enters go = ap (item_entered ns (bound ps.params args) go) e ∙ bound_on ps.params args (λ vs. Asks (Item ns.at vs) (λ r. entered r.namespace go)) q

    steps : (go : Namespace → Run) → stepped (out-Segment (segment.Item (bound ps.params args))) ns go ≡ Tests (key.Params ns.source) (item_entered ns (bound ps.params args) go)
    steps go =
        ap (λ (s : Step). stepped s ns go) (out_item (bound ps.params args)) ∙ ap (λ (b : Bool). if b then Tests (key.Params ns.source) (item_entered ns (bound ps.params args) go) else Ends NoSuch) n

    pub item_steps : (go : Namespace → Run) → Leads (model_of look) (stepped (out-Segment (segment.Item (bound ps.params args))) ns go) item_events (go next)
    item_steps go =
        subst (λ run. Leads (model_of look) run item_events (go next)) (sym (steps go))
        (refl, subst (λ run. Leads (model_of look) run (Asked (Item ns.at (bound ps.params args)) r ∷ []) (go next)) (sym (enters go)) (refl, m, ap (λ o. entered o go) is))
