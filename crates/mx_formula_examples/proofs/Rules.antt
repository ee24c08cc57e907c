-- By which events the parts of a formula, the walk of an address and the run of a node come to what they give: a rule for
-- each form.
use Rattle.std.proofs.Common.{◌≡◌, refl, None, Some, Ok, List, [], ◌∷◌, ◌++◌, ap, sym, ◌∙◌, subst, length, Option, Bool, true, false, nat_le, if◌then◌else◌, map}
use Rattle.std.proofs.lemmas.List.{append-nil, append_assoc}
use Rattle.std.specs.List.{list_all}
use Rattle.mx_value.specs.Plain.{is_plain}
use Rattle.mx_value.specs.declared.label.Label.{Label}
use Rattle.mx_value.specs.declared.value.Value.{Value}
use Rattle.mx_value.specs.declared.value.Value.TheVariants as value
use Rattle.mx_value.specs.declared.value.CellsAt.{CellsAt, roll-CellsAt, out-roll-CellsAt}
use Rattle.mx_value.specs.declared.value.Segment.{Segment, out-Segment}
use Rattle.mx_value.specs.declared.value.Segment.TheOpen.{CellsAt-F}
use Rattle.mx_value.specs.declared.value.Segment.TheVariants as segment
use Rattle.mx_value.specs.declared.namespace.Namespace.{Namespace}
use Rattle.mx_value.specs.declared.fault.FaultKind.TheVariants.{TypeMismatch, WrongCountInside, NotCallable, TooLarge, NoName}
use Rattle.mx_value.specs.declared.read.Read.TheVariants as read
use Rattle.mx_value.specs.declared.node.Node.TheVariants.{Cell, Item}
use Rattle.mx_syntax.specs.declared.expr.Expr.{Expr}
use Rattle.mx_syntax.specs.declared.expr.Expr.TheVariants as expr
use Rattle.mx_syntax.specs.declared.expr.SumPart.{SumPart, roll-SumPart}
use Rattle.mx_syntax.specs.declared.expr.SumOp.{SumOp}
use Rattle.mx_syntax.specs.declared.expr.ProductPart.{ProductPart, roll-ProductPart}
use Rattle.mx_syntax.specs.declared.expr.ProductOp.{ProductOp}
use Rattle.mx_syntax.specs.declared.expr.Trailer.{Trailer}
use Rattle.mx_syntax.specs.declared.expr.Trailer.TheVariants as trailer
use Rattle.mx_syntax.specs.declared.expr.Args.TheVariants as arguments
use Rattle.mx_syntax.specs.declared.stmt.Params.{Params}
use Rattle.mx_syntax.specs.declared.stmt.Formula.{Formula}
use Rattle.mx_syntax.specs.Binding.{bound, is_wrong_count}
use Rattle.mx_edit.specs.Rows.{TableRows}
use Rattle.mx_edit.specs.declared.reference.RefValue.TheVariants as reference
use Rattle.mx_edit.specs.declared.key.Key.{Key}
use Rattle.mx_edit.specs.declared.key.Key.TheVariants as key
use Rattle.mx_edit.specs.declared.key.KeyResult.{KeyResult}
use Rattle.mx_edit.specs.declared.key.KeyResult.TheVariants as found
use Rattle.mx_edit.specs.declared.reply.Reply.{Reply}
use Rattle.mx_syntax.specs.declared.op.Op.{Op}
use Rattle.mx_runs.specs.Runs.{Run, Ends, Looks, Tests, Asks, Notes, Gives, NoSuch, WrongCount, Event, Looked, Tested, Asked, Noted}
use Rattle.mx_runs.specs.Meaning.{Means, Leads}
use Rattle.mx_runs.proofs.Levels.{leads_append}
use Rattle.mx_meaning.specs.Namespaces.{Step, root, child, value_in, ends_with_name, is_short, is_allowed, item_at}
use Rattle.mx_meaning.specs.Walks.{entered, item_entered, stepped, walked_from, walked}
use Rattle.mx_meaning.specs.Environments.{Env, Reading, fault, computed, local_of}
use Rattle.mx_meaning.specs.References.{Target, cells_value, target_of, relative, target_found, target_read}
use Rattle.mx_meaning.specs.Lookup.{Callee, Called, bound_name, overlaid_or, sought_in, sought, local_or, global_found, as_value, valued, attribute_in}
use Rattle.mx_meaning.specs.Calls.{cells_asked, item_asked, space_asked, space_sought, entry_of, table_found, value_called, called, content_indexed, indexed}
use Rattle.mx_meaning.specs.Operations.{adding, multiplying, of_two}
use Rattle.mx_meaning.specs.Expressions.{Behind, Call, Index, Attr, values_from, joined_from, applied, applied_from, part_read, reading}
use Rattle.mx_meaning.specs.Laws.{model_of}
use Rattle.mx_meaning.proofs.Walking.{out_item, walked_push, further, name_steps}
use Rattle.mx_meaning.proofs.Forms.{trailer_read, sum_read, product_read}
use Rattle.mx_formula_examples.proofs.Equations.{out_space, out_cells, out_table, part-lit, part-name, part-sum, sum-part, part-product, product-part, part-post, trailer-call, trailer-index, trailer-attr}

pub from : (look : Key → KeyResult) (run other rest : Run) (es : List Event) → run ≡ other → Leads (model_of look) other es rest → Leads (model_of look) run es rest
from look run other rest es e l = subst (λ r. Leads (model_of look) r es rest) (sym e) l

-- ---- walks

-- the way from the top comes by these events to the namespace
pub record From (look : Key → KeyResult) (ns : Namespace) (es : List Event) : Type 0 where
  pub leads : (go : Namespace → Run) → Leads (model_of look) (walked_from ns.at root go) es (go ns)

-- the walk of its address comes by these events to the namespace
pub record Walks (look : Key → KeyResult) (ns : Namespace) (es : List Event) : Type 0 where
  pub way : From look ns es
  pub leads : (go : Namespace → Run) → Leads (model_of look) (walked ns.at go) es (go ns)

on : (look : Key → KeyResult) (ns next : Namespace) (s : Segment) (es fs : List Event) → From look ns es → nat_le 64 (length ns.at) ≡ false
    → ((go : Namespace → Run) → Leads (model_of look) (stepped (out-Segment s) ns go) fs (go next)) → next.at ≡ ns.at ++ s ∷ [] → Walks look next (es ++ fs)
on look ns next s es fs w few h e =
    let l : (go : Namespace → Run) → Leads (model_of look) (walked_from (ns.at ++ s ∷ []) root go) (es ++ fs) (go next) =
    further look ns next (record { events = es; leads = w.leads }) s few fs h e in
    record {
      way = record { leads = λ go. subst (λ at. Leads (model_of look) (walked_from at root go) (es ++ fs) (go next)) (sym e) (l go) };
      leads = λ go. subst (λ at. Leads (model_of look) (walked at go) (es ++ fs) (go next)) (sym e)
          (subst (λ run. Leads (model_of look) run (es ++ fs) (go next)) (sym (walked_push ns.at s go)) (l go));
    }

pub top : {look : Key → KeyResult} (name : Label) → Walks look (child name root) []
top {look = look} name = on look root (child name root) (segment.Name name) [] [] (record { leads = λ go. refl }) refl (name_steps look root name) refl

pub below : {look : Key → KeyResult} {ns : Namespace} {es : List Event} (name : Label) → Walks look ns es → nat_le 64 (length ns.at) ≡ false → Walks look (child name ns) (es ++ [])
below {look = look} {ns = ns} {es = es} name w few = on look ns (child name ns) (segment.Name name) es [] w.way few (name_steps look ns name) refl

-- what a walk does at an item with bound arguments
abbrev pub item_events : Namespace → List Value → Reply → List Event
item_events ns args r = Tested (key.Params ns.source) ∷ Asked (Item ns.at args) r ∷ []

module _ (look : Key → KeyResult) (ns next : Namespace) (ps : Params) (args : List Value) (w : Value) (n : ends_with_name ns.at ≡ true) (e : look (key.Params ns.source) ≡ found.Params ps)
    (q : is_wrong_count ps.params (length args) ≡ false) (b : bound ps.params args ≡ args) (m : Means (model_of look) (Item ns.at args) (Gives (record { value = w; namespace = Some next }))) where
  entering : (go : Namespace → Run) → item_entered ns args go (look (key.Params ns.source)) ≡ Asks (Item ns.at args) (λ r. entered r.namespace go)
  entering go =
      ap (item_entered ns args go) e ∙ ap (λ (wrong : Bool). if wrong then Ends WrongCount else Asks (Item ns.at (bound ps.params args)) (λ r. entered r.namespace go)) q
      ∙ ap (λ vs. Asks (Item ns.at vs) (λ r. entered r.namespace go)) b

  testing : (go : Namespace → Run) → stepped (out-Segment (segment.Item args)) ns go ≡ Tests (key.Params ns.source) (item_entered ns args go)
  testing go = ap (λ (s : Step). stepped s ns go) (out_item args) ∙ ap (λ (b : Bool). if b then Tests (key.Params ns.source) (item_entered ns args go) else Ends NoSuch) n

  stepping : (go : Namespace → Run) → Leads (model_of look) (stepped (out-Segment (segment.Item args)) ns go) (item_events ns args (record { value = w; namespace = Some next })) (go next)
  stepping go =
      from look _ (Tests (key.Params ns.source) (item_entered ns args go)) (go next) (item_events ns args (record { value = w; namespace = Some next })) (testing go)
      (refl, from look _ (Asks (Item ns.at args) (λ r. entered r.namespace go)) (go next) (Asked (Item ns.at args) (record { value = w; namespace = Some next }) ∷ []) (entering go) (refl, m, refl))

pub inside : {look : Key → KeyResult} {ns next : Namespace} {ps : Params} {args : List Value} {w : Value} {es : List Event} → Walks look ns es → nat_le 64 (length ns.at) ≡ false → ends_with_name ns.at ≡ true
    → look (key.Params ns.source) ≡ found.Params ps → is_wrong_count ps.params (length args) ≡ false → bound ps.params args ≡ args
    → Means (model_of look) (Item ns.at args) (Gives (record { value = w; namespace = Some next })) → next.at ≡ item_at ns args → Walks look next (es ++ item_events ns args (record { value = w; namespace = Some next }))
inside {look = look} {ns = ns} {next = next} {ps = ps} {args = args} {w = w} {es = es} way few n e q b m h =
    on look ns next (segment.Item args) es (item_events ns args (record { value = w; namespace = Some next })) way.way few (stepping look ns next ps args w n e q b m) h

-- ---- parts of a formula

-- the part stands for a value or a builtin after these events, whatever is done with it
pub record Stands (look : Key → KeyResult) (env : Env) (e : Expr) (es : List Event) (c : Callee) : Type 0 where
  pub leads : (go : Callee → Run) → Leads (model_of look) (part_read e env go) es (go c)

-- it comes to a value
abbrev pub Comes : (Key → KeyResult) → Env → Expr → List Event → Value → Type 0
Comes look env e es v = Stands look env e es (Called v)

pub with_value : (look : Key → KeyResult) (env : Env) (e : Expr) (es : List Event) (v : Value) → Comes look env e es v → (go : Value → Run) → Leads (model_of look) (reading e env go) es (go v)
with_value look env e es v p go = p.leads (λ c. as_value c env go)

pub lit : {look : Key → KeyResult} {env : Env} {v : Value} → Comes look env (expr.Lit v) [] v
lit {env = env} {v = v} = record { leads = λ go. part-lit v env go }

pub local : {look : Key → KeyResult} {env : Env} {name : Label} {v : Value} → local_of env.locals name ≡ Some (Some v) → Comes look env (expr.Name name) [] v
local {env = env} {name = name} e = record { leads = λ go. part-name name env go ∙ ap (λ (o : Option (Option Value)). local_or o name env go) e }

-- ---- names

-- what the source binds the name to comes to a value
pub record NameComes (look : Key → KeyResult) (ns : Namespace) (name : Label) (env : Env) (r : KeyResult) (es : List Event) (v : Value) : Type 0 where
  pub leads : (go : Value → Run) (other : Run) → Leads (model_of look) (bound_name ns name env go other r) es (go v)

-- the name comes to a value in the namespace
pub record SoughtComes (look : Key → KeyResult) (ns : Namespace) (name : Label) (env : Env) (es : List Event) (v : Value) : Type 0 where
  pub leads : (go : Value → Run) (other : Run) → Leads (model_of look) (sought_in ns name env go other) es (go v)

pub in_overlay : {look : Key → KeyResult} {ns : Namespace} {name : Label} {env : Env} {v : Value} → value_in ns.overlay name ≡ Some v → SoughtComes look ns name env [] v
in_overlay {ns = ns} {name = name} {env = env} h = record { leads = λ go other. ap (λ (o : Option Value). overlaid_or o ns name env go other) h }

pub in_source : {look : Key → KeyResult} {ns : Namespace} {name : Label} {env : Env} {es : List Event} {v : Value} (r : KeyResult) → value_in ns.overlay name ≡ None → look (key.Name ns.source name) ≡ r → NameComes look ns name env r es v
    → SoughtComes look ns name env (Looked (key.Name ns.source name) ∷ es) v
in_source {look = look} {ns = ns} {name = name} {env = env} {es = es} {v = v} r h e p = record {
  leads = λ go other.
      from look _ (Looks (key.Name ns.source name) (bound_name ns name env go other)) (go v) (Looked (key.Name ns.source name) ∷ es) (ap (λ (o : Option Value). overlaid_or o ns name env go other) h)
      (refl, from look _ (bound_name ns name env go other r) (go v) es (ap (bound_name ns name env go other) e) (p.leads go other));
}

-- a name in a formula that is no local
pub name_sought : {look : Key → KeyResult} {env : Env} {name : Label} {es : List Event} {v : Value} → local_of env.locals name ≡ None → SoughtComes look env.namespace name env es v → Comes look env (expr.Name name) es v
name_sought {look = look} {env = env} {name = name} {es = es} {v = v} free p = record {
  leads = λ go.
      from look _ (sought name env go) (go (Called v)) es (part-name name env go ∙ ap (λ (o : Option (Option Value)). local_or o name env go) free)
      (p.leads (λ w. go (Called w)) (Looks (key.Global name) (global_found name env go)));
}

pub plain_reference : {look : Key → KeyResult} {ns : Namespace} {name : Label} {env : Env} {v : Value} {owner : List Label} → NameComes look ns name env (found.Ref (reference.Plain v) owner) (Noted (read.Ref ns.at name) ∷ []) v
plain_reference = record { leads = λ go other. (refl, refl) }

pub table_reference : {look : Key → KeyResult} {ns : Namespace} {name : Label} {env : Env} {table : Label} {owner : List Label} → NameComes look ns name env (found.Ref (reference.Table table) owner) (Noted (read.Ref ns.at name) ∷ []) (value.Table table)
table_reference = record { leads = λ go other. (refl, refl) }

-- a target that is a space
pub target_reference : {look : Key → KeyResult} {ns : Namespace} {name : Label} {env : Env} {path : List Label} {fixed : Bool} {owner : List Label} (target : Target) → target_of ns path (relative owner fixed path) ≡ target
    → look (key.Exists target.path) ≡ found.There → is_short target.at ≡ true
    → NameComes look ns name env (found.Ref (reference.Target path fixed) owner) (Noted (read.Ref ns.at name) ∷ Looked (key.Exists target.path) ∷ []) (value.Space target.at)
target_reference {look = look} {ns = ns} {name = name} {env = env} {path = path} {fixed = fixed} {owner = owner} target is e short = record {
  leads = λ go other. (
    refl,
    from look _ (target_read target env go) (go (value.Space target.at)) (Looked (key.Exists target.path) ∷ []) (ap (λ t. target_read t env go) is)
        (refl, ap (target_found target env go) e ∙ ap (λ (b : Bool). if b then go (value.Space target.at) else fault TooLarge env) short),
  );
}

pub cells_here : {look : Key → KeyResult} {ns : Namespace} {name : Label} {env : Env} → NameComes look ns name env found.CellsHere [] (cells_value ns.at name)
cells_here = record { leads = λ go other. refl }

pub child_here : {look : Key → KeyResult} {ns : Namespace} {name : Label} {env : Env} → is_short (child name ns).at ≡ true → NameComes look ns name env found.Child [] (value.Space (child name ns).at)
child_here {ns = ns} {name = name} {env = env} short = record { leads = λ go other. ap (λ (b : Bool). if b then go (value.Space (child name ns).at) else fault TooLarge env) short }

-- ---- sums and products

-- parts of a sum or a product, behind one of this value
pub record JoinedComes (look : Key → KeyResult) (env : Env) (parts : List (Op × Reading)) (x : Value) (es : List Event) (v : Value) : Type 0 where
  pub leads : (go : Value → Run) → Leads (model_of look) (joined_from parts x env go) es (go v)

pub joined_end : {look : Key → KeyResult} {env : Env} {x : Value} → JoinedComes look env [] x [] x
joined_end = record { leads = λ go. refl }

pub joined_more : {look : Key → KeyResult} {env : Env} {parts : List (Op × Reading)} {x y s v : Value} {es fs : List Event} (op : Op) (e : Expr) → Comes look env e es y → of_two op x y ≡ Ok s → JoinedComes look env parts s fs v → JoinedComes look env ((op, reading e) ∷ parts) x (es ++ fs) v
joined_more {look = look} {env = env} {parts = parts} {x = x} {y = y} {s = s} {v = v} {es = es} {fs = fs} op e p h q = record {
  leads = λ go.
      let more : Value → Run = λ next. joined_from parts next env go in
      let one : Value → Run = λ w. computed (of_two op x w) env more in
      leads_append (model_of look) (reading e env one) (one y) (go v) es fs (with_value look env e es y p one)
      (from look (one y) (more s) (go v) fs (ap (λ r. computed r env more) h) (q.leads go));
}

pub sum : {look : Key → KeyResult} {env : Env} {a : Expr} {x v : Value} {es fs : List Event} (rest : List SumPart) → Comes look env a es x → JoinedComes look env (map sum_read rest) x fs v → Comes look env (expr.Sum a rest) (es ++ fs) v
sum {look = look} {env = env} {a = a} {x = x} {v = v} {es = es} {fs = fs} rest p q = record {
  leads = λ go.
      let one : Value → Run = λ w. joined_from (map sum_read rest) w env (λ u. go (Called u)) in
      from look _ (reading a env one) (go (Called v)) (es ++ fs) (part-sum a rest env go)
      (leads_append (model_of look) (reading a env one) (one x) (go (Called v)) es fs (with_value look env a es x p one) (q.leads (λ u. go (Called u))));
}

pub product : {look : Key → KeyResult} {env : Env} {a : Expr} {x v : Value} {es fs : List Event} (rest : List ProductPart) → Comes look env a es x → JoinedComes look env (map product_read rest) x fs v → Comes look env (expr.Product a rest) (es ++ fs) v
product {look = look} {env = env} {a = a} {x = x} {v = v} {es = es} {fs = fs} rest p q = record {
  leads = λ go.
      let one : Value → Run = λ w. joined_from (map product_read rest) w env (λ u. go (Called u)) in
      from look _ (reading a env one) (go (Called v)) (es ++ fs) (part-product a rest env go)
      (leads_append (model_of look) (reading a env one) (one x) (go (Called v)) es fs (with_value look env a es x p one) (q.leads (λ u. go (Called u))));
}

pub plus : {look : Key → KeyResult} {env : Env} {parts : List (Op × Reading)} {x v : Value} {es : List Event} (op : SumOp) (e : Expr) → JoinedComes look env ((adding op, reading e) ∷ parts) x es v → JoinedComes look env (sum_read (roll-SumPart (record { op = op; of = e })) ∷ parts) x es v
plus {look = look} {env = env} {parts = parts} {x = x} {v = v} {es = es} op e p = subst (λ (part : Op × Reading). JoinedComes look env (part ∷ parts) x es v) (sym (sum-part op e)) p

pub times : {look : Key → KeyResult} {env : Env} {parts : List (Op × Reading)} {x v : Value} {es : List Event} (op : ProductOp) (e : Expr) → JoinedComes look env ((multiplying op, reading e) ∷ parts) x es v → JoinedComes look env (product_read (roll-ProductPart (record { op = op; of = e })) ∷ parts) x es v
times {look = look} {env = env} {parts = parts} {x = x} {v = v} {es = es} op e p = subst (λ (part : Op × Reading). JoinedComes look env (part ∷ parts) x es v) (sym (product-part op e)) p

-- ---- what stands behind a part

pub record BehindComes (look : Key → KeyResult) (env : Env) (b : Behind) (c : Callee) (es : List Event) (v : Value) : Type 0 where
  pub leads : (go : Value → Run) → Leads (model_of look) (applied b c env go) es (go v)

pub record TrailComes (look : Key → KeyResult) (env : Env) (c : Callee) (ts : List Trailer) (es : List Event) (d : Callee) : Type 0 where
  pub leads : (go : Callee → Run) → Leads (model_of look) (applied_from (map trailer_read ts) c env go) es (go d)

pub trail_end : {look : Key → KeyResult} {env : Env} {c : Callee} → TrailComes look env c [] [] c
trail_end = record { leads = λ go. refl }

trail_more : (look : Key → KeyResult) (env : Env) (c d : Callee) (t : Trailer) (ts : List Trailer) (b : Behind) (es fs : List Event) (v : Value) → trailer_read t ≡ b → BehindComes look env b c es v → TrailComes look env (Called v) ts fs d → TrailComes look env c (t ∷ ts) (es ++ fs) d
trail_more look env c d t ts b es fs v is p q = record {
  leads = λ go.
      let more : Value → Run = λ w. applied_from (map trailer_read ts) (Called w) env go in
      from look _ (applied b c env more) (go d) (es ++ fs) (ap (λ (x : Behind). applied x c env more) is)
      (leads_append (model_of look) (applied b c env more) (more v) (go d) es fs (p.leads more) (q.leads go));
}

pub post : {look : Key → KeyResult} {env : Env} {first : Expr} {ts : List Trailer} {c d : Callee} {es fs : List Event} → Stands look env first es c → TrailComes look env c ts fs d → Stands look env (expr.Post first ts) (es ++ fs) d
post {look = look} {env = env} {first = first} {ts = ts} {c = c} {d = d} {es = es} {fs = fs} p q = record {
  leads = λ go.
      let one : Callee → Run = λ x. applied_from (map trailer_read ts) x env go in
      from look _ (part_read first env one) (go d) (es ++ fs) (part-post first ts env go)
      (leads_append (model_of look) (part_read first env one) (one c) (go d) es fs (p.leads one) (q.leads go));
}

-- arguments, from the left
pub record AllCome (look : Key → KeyResult) (env : Env) (args : List Expr) (es : List Event) (vs : List Value) : Type 0 where
  pub leads : (done : List Value) (go : List Value → Run) → Leads (model_of look) (values_from (map valued (map part_read args)) done env go) es (go (done ++ vs))

pub none : {look : Key → KeyResult} {env : Env} → AllCome look env [] [] []
none = record { leads = λ done go. ap go (sym (append-nil done)) }

pub more : {look : Key → KeyResult} {env : Env} {a : Expr} {args : List Expr} {es fs : List Event} {v : Value} {vs : List Value} → Comes look env a es v → AllCome look env args fs vs → AllCome look env (a ∷ args) (es ++ fs) (v ∷ vs)
more {look = look} {env = env} {a = a} {args = args} {es = es} {fs = fs} {v = v} {vs = vs} p q = record {
  leads = λ done go.
      let one : Value → Run = λ u. values_from (map valued (map part_read args)) (done ++ u ∷ []) env go in
      leads_append (model_of look) (reading a env one) (one v) (go (done ++ v ∷ vs)) es fs (with_value look env a es v p one)
      (subst (λ r. Leads (model_of look) (one v) fs r) (ap go (append_assoc done (v ∷ []) vs)) (q.leads (done ++ v ∷ []) go));
}

pub record CallComes (look : Key → KeyResult) (env : Env) (c : Callee) (vs : List Value) (es : List Event) (v : Value) : Type 0 where
  pub leads : (go : Value → Run) → Leads (model_of look) (called c vs env go) es (go v)

pub record IndexComes (look : Key → KeyResult) (env : Env) (x : Value) (vs : List Value) (es : List Event) (v : Value) : Type 0 where
  pub leads : (go : Value → Run) → Leads (model_of look) (indexed x vs env go) es (go v)

pub call : {look : Key → KeyResult} {env : Env} {c d : Callee} {args : List Expr} {ts : List Trailer} {vs : List Value} {es fs gs : List Event} {v : Value} → AllCome look env args es vs → CallComes look env c vs fs v → TrailComes look env (Called v) ts gs d
    → TrailComes look env c (trailer.Call (arguments.List args) ∷ ts) ((es ++ fs) ++ gs) d
call {look = look} {env = env} {c = c} {d = d} {args = args} {ts = ts} {vs = vs} {es = es} {fs = fs} {gs = gs} {v = v} p q r =
    trail_more look env c d (trailer.Call (arguments.List args)) ts (Call (map valued (map part_read args))) (es ++ fs) gs v (trailer-call args)
    (record { leads = λ go. leads_append (model_of look) _ (called c vs env go) (go v) es fs (p.leads [] (λ us. called c us env go)) (q.leads go) }) r

pub index : {look : Key → KeyResult} {env : Env} {x : Value} {d : Callee} {args : List Expr} {ts : List Trailer} {vs : List Value} {es fs gs : List Event} {v : Value} → AllCome look env args es vs → IndexComes look env x vs fs v → TrailComes look env (Called v) ts gs d
    → TrailComes look env (Called x) (trailer.Index args ∷ ts) ((es ++ fs) ++ gs) d
index {look = look} {env = env} {x = x} {d = d} {args = args} {ts = ts} {vs = vs} {es = es} {fs = fs} {gs = gs} {v = v} p q r =
    trail_more look env (Called x) d (trailer.Index args) ts (Index (map valued (map part_read args))) (es ++ fs) gs v (trailer-index args)
    (record { leads = λ go. leads_append (model_of look) _ (indexed x vs env go) (go v) es fs (p.leads [] (λ us. indexed x us env go)) (q.leads go) }) r

-- a name through a space: the walk of its address first
pub attribute_of : {look : Key → KeyResult} {env : Env} {ns : Namespace} {name : Label} {d : Callee} {ts : List Trailer} {es fs gs : List Event} {v : Value} → Walks look ns es → SoughtComes look ns name env fs v → TrailComes look env (Called v) ts gs d
    → TrailComes look env (Called (value.Space ns.at)) (trailer.Attr name ∷ ts) ((es ++ fs) ++ gs) d
attribute_of {look = look} {env = env} {ns = ns} {name = name} {d = d} {ts = ts} {es = es} {fs = fs} {gs = gs} {v = v} w p r =
    trail_more look env (Called (value.Space ns.at)) d (trailer.Attr name) ts (Attr name) (es ++ fs) gs v (trailer-attr name)
    (record {
      leads = λ go.
          let through : Namespace → Run = λ m. sought_in m name env go (fault NoName env) in
          from look _ (walked ns.at through) (go v) (es ++ fs) (ap (λ content. attribute_in content name env go) (out_space ns.at))
          (leads_append (model_of look) (walked ns.at through) (through ns) (go v) es fs (w.leads through) (p.leads go _));
    }) r

-- ---- calls

abbrev Open : Type 0
Open = CellsAt-F Segment Value CellsAt

abbrev cells_at : Namespace → Label → CellsAt
cells_at ns name = roll-CellsAt (record { space = ns.at; name = name })

-- what a call of cells does behind the walk
abbrev pub cells_events : Namespace → Label → List Value → Reply → List Event
cells_events ns name us r = Looked (key.Cells ns.source name) ∷ Asked (Cell ns.at name us) r ∷ []

module _ (look : Key → KeyResult) (env : Env) (ns : Namespace) (name : Label) (f : Formula) (allow : Bool) (vs us : List Value) (e : look (key.Cells ns.source name) ≡ found.Formula f allow)
    (plain : list_all is_plain vs ≡ true) (count : is_wrong_count f.params (length vs) ≡ false) (binds : bound f.params vs ≡ us) (go : Value → Run) where
  abbrev looking : Namespace → Run
  looking m = Looks (key.Cells m.source name) (cells_asked m name vs env go)

  pub as_walk : called (Called (value.Cells (cells_at ns name))) vs env go ≡ walked ns.at looking
  as_walk =
      ap (λ content. value_called content vs env go) (out_cells (cells_at ns name))
      ∙ ap (λ (o : Open). walked o.space (λ m. Looks (key.Cells m.source o.name) (cells_asked m o.name vs env go))) (out-roll-CellsAt (record { space = ns.at; name = name }))

  pub asking : cells_asked ns name vs env go (look (key.Cells ns.source name)) ≡ Asks (Cell ns.at name us) (λ r. go r.value)
  asking =
      ap (cells_asked ns name vs env go) e
      ∙ ap (λ (b : Bool). if b then (if is_wrong_count f.params (length vs) then fault WrongCountInside env else Asks (Cell ns.at name (bound f.params vs)) (λ r. go r.value)) else fault TypeMismatch env) plain
      ∙ ap (λ (b : Bool). if b then fault WrongCountInside env else Asks (Cell ns.at name (bound f.params vs)) (λ r. go r.value)) count
      ∙ ap (λ (xs : List Value). Asks (Cell ns.at name xs) (λ r. go r.value)) binds

pub call_of_cells : {look : Key → KeyResult} {env : Env} {ns : Namespace} {name : Label} {f : Formula} {allow : Bool} {vs us : List Value} {es : List Event} {r : Reply} → Walks look ns es → look (key.Cells ns.source name) ≡ found.Formula f allow
    → list_all is_plain vs ≡ true → is_wrong_count f.params (length vs) ≡ false → bound f.params vs ≡ us → Means (model_of look) (Cell ns.at name us) (Gives r)
    → CallComes look env (Called (value.Cells (roll-CellsAt (record { space = ns.at; name = name })))) vs (es ++ cells_events ns name us r) r.value
call_of_cells {look = look} {env = env} {ns = ns} {name = name} {f = f} {allow = allow} {vs = vs} {us = us} {es = es} {r = r} w e plain count binds m = record {
  leads = λ go.
      let k : Namespace → Run = λ n. Looks (key.Cells n.source name) (cells_asked n name vs env go) in
      from look _ (walked ns.at k) (go r.value) (es ++ cells_events ns name us r) (as_walk look env ns name f allow vs us e plain count binds go)
      (leads_append (model_of look) (walked ns.at k) (k ns) (go r.value) es (cells_events ns name us r) (w.leads k)
      (refl, from look _ (Asks (Cell ns.at name us) (λ x. go x.value)) (go r.value) (Asked (Cell ns.at name us) r ∷ []) (asking look env ns name f allow vs us e plain count binds go) (refl, m, refl)));
}

-- what a call of a space does behind the walk
abbrev pub space_events : Namespace → List Value → Reply → List Event
space_events ns us r = Looked (key.Params ns.source) ∷ Asked (Item ns.at us) r ∷ []

module _ (look : Key → KeyResult) (env : Env) (ns : Namespace) (ps : Params) (vs us : List Value) (n : ends_with_name ns.at ≡ true) (e : look (key.Params ns.source) ≡ found.Params ps)
    (plain : list_all is_plain vs ≡ true) (count : is_wrong_count ps.params (length vs) ≡ false) (binds : bound ps.params vs ≡ us) (allowed : is_allowed (item_at ns us) ≡ true) (go : Value → Run) where
  pub seeking : space_sought vs env go ns ≡ Looks (key.Params ns.source) (space_asked ns vs env go)
  seeking = ap (λ (b : Bool). if b then Looks (key.Params ns.source) (space_asked ns vs env go) else fault NotCallable env) n

  pub asking_item : space_asked ns vs env go (look (key.Params ns.source)) ≡ Asks (Item ns.at us) (λ r. go r.value)
  asking_item =
      ap (space_asked ns vs env go) e
      ∙ ap (λ (b : Bool). if b then (if is_wrong_count ps.params (length vs) then fault WrongCountInside env else item_asked ns env go (bound ps.params vs)) else fault TypeMismatch env) plain
      ∙ ap (λ (b : Bool). if b then fault WrongCountInside env else item_asked ns env go (bound ps.params vs)) count
      ∙ ap (item_asked ns env go) binds
      ∙ ap (λ (b : Bool). if b then Asks (Item ns.at us) (λ r. go r.value) else fault TooLarge env) allowed

  space_leads : (es : List Event) (r : Reply) → Walks look ns es → Means (model_of look) (Item ns.at us) (Gives r) → Leads (model_of look) (walked ns.at (space_sought vs env go)) (es ++ space_events ns us r) (go r.value)
  space_leads es r w m =
      leads_append (model_of look) (walked ns.at (space_sought vs env go)) (space_sought vs env go ns) (go r.value) es (space_events ns us r) (w.leads (space_sought vs env go))
      (from look _ (Looks (key.Params ns.source) (space_asked ns vs env go)) (go r.value) (space_events ns us r) seeking
      (refl, from look _ (Asks (Item ns.at us) (λ x. go x.value)) (go r.value) (Asked (Item ns.at us) r ∷ []) asking_item (refl, m, refl)))

-- a space is called or subscripted alike
pub call_of_space : {look : Key → KeyResult} {env : Env} {ns : Namespace} {ps : Params} {vs us : List Value} {es : List Event} {r : Reply} → Walks look ns es → ends_with_name ns.at ≡ true → look (key.Params ns.source) ≡ found.Params ps
    → list_all is_plain vs ≡ true → is_wrong_count ps.params (length vs) ≡ false → bound ps.params vs ≡ us → is_allowed (item_at ns us) ≡ true → Means (model_of look) (Item ns.at us) (Gives r)
    → CallComes look env (Called (value.Space ns.at)) vs (es ++ space_events ns us r) r.value
call_of_space {look = look} {env = env} {ns = ns} {ps = ps} {vs = vs} {us = us} {es = es} {r = r} w n e plain count binds allowed m = record {
  leads = λ go. from look _ (walked ns.at (space_sought vs env go)) (go r.value) (es ++ space_events ns us r) (ap (λ content. value_called content vs env go) (out_space ns.at))
      (space_leads look env ns ps vs us n e plain count binds allowed go es r w m);
}

pub index_of_space : {look : Key → KeyResult} {env : Env} {ns : Namespace} {ps : Params} {vs us : List Value} {es : List Event} {r : Reply} → Walks look ns es → ends_with_name ns.at ≡ true → look (key.Params ns.source) ≡ found.Params ps
    → list_all is_plain vs ≡ true → is_wrong_count ps.params (length vs) ≡ false → bound ps.params vs ≡ us → is_allowed (item_at ns us) ≡ true → Means (model_of look) (Item ns.at us) (Gives r)
    → IndexComes look env (value.Space ns.at) vs (es ++ space_events ns us r) r.value
index_of_space {look = look} {env = env} {ns = ns} {ps = ps} {vs = vs} {us = us} {es = es} {r = r} w n e plain count binds allowed m = record {
  leads = λ go. from look _ (walked ns.at (space_sought vs env go)) (go r.value) (es ++ space_events ns us r) (ap (λ content. content_indexed content (value.Space ns.at) vs env go) (out_space ns.at))
      (space_leads look env ns ps vs us n e plain count binds allowed go es r w m);
}

pub index_of_table : {look : Key → KeyResult} {env : Env} {name : Label} {t : TableRows} {vs : List Value} {v : Value} → look (key.Table name) ≡ found.Table t → entry_of t vs ≡ Ok v
    → IndexComes look env (value.Table name) vs (Noted (read.Table name) ∷ Looked (key.Table name) ∷ []) v
index_of_table {look = look} {env = env} {name = name} {t = t} {vs = vs} {v = v} e h = record {
  leads = λ go. from look _ (Notes (read.Table name) (Looks (key.Table name) (table_found vs env go))) (go v) (Noted (read.Table name) ∷ Looked (key.Table name) ∷ []) (ap (λ content. content_indexed content (value.Table name) vs env go) (out_table name))
      (refl, (refl, ap (table_found vs env go) e ∙ ap (λ a. computed a env go) h));
}
