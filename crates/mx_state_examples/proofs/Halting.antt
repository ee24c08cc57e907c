-- Further rules: a part of a formula that comes to no value, but to a fault or to an ask; conditionals; targets that are
-- cells; and what a run of a node comes to there.
use Rattle.std.proofs.Common.{◌≡◌, refl, None, Some, Ok, List, [], ◌∷◌, ◌++◌, ap, sym, ◌∙◌, length, Option, Bool, true, false, nat_le, if◌then◌else◌, map, rules}
use Rattle.std.specs.List.{list_all}
use Rattle.mx_value.specs.Plain.{is_plain}
use Rattle.mx_value.specs.declared.label.Label.{Label}
use Rattle.mx_value.specs.declared.value.Value.{Value}
use Rattle.mx_value.specs.declared.value.Value.TheVariants as value
use Rattle.mx_value.specs.declared.value.CellsAt.{roll-CellsAt}
use Rattle.mx_value.specs.declared.value.Segment.{Segment, out-Segment}
use Rattle.mx_value.specs.declared.value.Segment.TheVariants as segment
use Rattle.mx_value.specs.declared.namespace.Namespace.{Namespace}
use Rattle.mx_value.specs.declared.fault.FaultKind.TheVariants.{NoName, TooLarge}
use Rattle.mx_value.specs.declared.read.Read.TheVariants as read
use Rattle.mx_value.specs.declared.node.Node.{Node}
use Rattle.mx_value.specs.declared.node.Node.TheVariants.{Cell, Item}
use Rattle.mx_syntax.specs.declared.expr.Expr.{Expr, the_lemmas}
use Rattle.mx_syntax.specs.declared.expr.Expr.TheVariants as expr
use Rattle.mx_syntax.specs.declared.expr.Arm.{Arm, roll-Arm}
use Rattle.mx_syntax.specs.declared.expr.ProductPart.{ProductPart}
use Rattle.mx_syntax.specs.declared.expr.Trailer.{Trailer}
use Rattle.mx_syntax.specs.declared.expr.Trailer.TheVariants as trailer
use Rattle.mx_syntax.specs.declared.expr.Args.TheVariants as arguments
use Rattle.mx_syntax.specs.declared.stmt.Param.{Param}
use Rattle.mx_syntax.specs.declared.stmt.Params.{Params}
use Rattle.mx_syntax.specs.declared.stmt.Formula.{Formula}
use Rattle.mx_syntax.specs.declared.stmt.ItemEntry.{ItemEntry}
use Rattle.mx_syntax.specs.declared.stmt.ItemEntry.TheVariants as entry
use Rattle.mx_syntax.specs.Binding.{bound, is_wrong_count}
use Rattle.mx_edit.specs.declared.reference.RefValue.TheVariants as reference
use Rattle.mx_edit.specs.declared.key.Key.{Key}
use Rattle.mx_edit.specs.declared.key.Key.TheVariants as key
use Rattle.mx_edit.specs.declared.key.KeyResult.{KeyResult}
use Rattle.mx_edit.specs.declared.key.KeyResult.TheVariants as found
use Rattle.mx_edit.specs.declared.reply.Reply.{Reply}
use Rattle.mx_ops.specs.declared.builtin.Builtin.{Builtin}
use Rattle.mx_ops.specs.Names.{builtin_of}
use Rattle.mx_ops.specs.Truth.{truth}
use Rattle.mx_runs.specs.Runs.{Run, Ends, Looks, Tests, Asks, NoSuch, WrongCount, Event, Looked, Tested, Noted}
use Rattle.mx_runs.specs.Meaning.{Leads}
use Rattle.mx_runs.specs.Chains.{DoesAsk}
use Rattle.mx_runs.specs.Inputs.{is_static}
use Rattle.mx_runs.proofs.Levels.{leads_append}
use Rattle.mx_meaning.specs.Namespaces.{Overlay, root, value_in, ends_with_name, is_short, is_allowed, item_at}
use Rattle.mx_meaning.specs.Walks.{entered, item_entered, stepped, walked_from, walked}
use Rattle.mx_meaning.specs.Environments.{Env, Reading, fault, tested, local_of}
use Rattle.mx_meaning.specs.References.{Target, target_of, relative, parent_of, member_of, member_found, member_read, target_found, target_read}
use Rattle.mx_meaning.specs.Lookup.{Callee, Called, bound_name, overlaid_or, local_or, global_found, builtin_or_none, as_value}
use Rattle.mx_meaning.specs.Calls.{cells_asked, called, space_asked, space_sought, content_indexed, indexed}
use Rattle.mx_meaning.specs.Expressions.{Behind, values_beside, joined_from, chosen_from, applied, applied_from, part_read, reading}
use Rattle.mx_meaning.specs.Statements.{Returned, Plain, Display, named_reading, displayed_from, body_done}
use Rattle.mx_meaning.specs.Nodes.{arguments_of, first_env, cells_returned, cells_found, cells_run, input_or, item_returned, body}
use Rattle.mx_meaning.specs.Laws.{model_of}
use Rattle.mx_meaning.proofs.Walking.{out_item, walked_push, walk_append}
use Rattle.mx_meaning.proofs.Forms.{trailer_read, product_read, arm_read}
use Rattle.mx_formula_examples.proofs.Equations.{out_space, part-name, part-product, part-post, trailer-call, trailer-index}
use Rattle.mx_formula_examples.proofs.Rules.{from, Walks, Stands, Comes, with_value, NameComes, AllCome, seeking, asking_item, as_walk, asking}
use Rattle.mx_formula_examples.proofs.NodeRules.{line_env, one_line, line_done, display_line, display_done, item_leads}

-- the run of a node comes by these events to here
pub record ComesTo (look : Key → KeyResult) (n : Node) (es : List Event) (run : Run) : Type 0 where
  pub leads : Leads (model_of look) (body n) es run

abbrev pub does_ask : {look : Key → KeyResult} {n m : Node} {es : List Event} {go : Reply → Run} → ComesTo look n es (Asks m go) → DoesAsk (model_of look) n m
does_ask {es = es} {go = go} c = record { events = es; go = go; leads = c.leads }

-- ---- parts that come to no value

-- the part comes by these events to here, whatever would be done with its value
pub record Halts (look : Key → KeyResult) (env : Env) (e : Expr) (es : List Event) (stop : (Callee → Run) → Run) : Type 0 where
  pub leads : (go : Callee → Run) → Leads (model_of look) (part_read e env go) es (stop go)

-- a name that is found nowhere
pub no_name : {look : Key → KeyResult} {env : Env} {name : Label} → local_of env.locals name ≡ None → value_in env.namespace.overlay name ≡ None → look (key.Name env.namespace.source name) ≡ found.Missing → look (key.Global name) ≡ found.Missing → builtin_of name ≡ None
    → Halts look env (expr.Name name) (Looked (key.Name env.namespace.source name) ∷ Looked (key.Global name) ∷ []) (λ go. fault NoName env)
no_name {look = look} {env = env} {name = name} free over bare none nothing = record {
  leads = λ go.
      let other : Run = Looks (key.Global name) (global_found name env go) in
      let got : Value → Run = λ v. go (Called v) in
      from look _ (Looks (key.Name env.namespace.source name) (bound_name env.namespace name env got other)) (fault NoName env) (Looked (key.Name env.namespace.source name) ∷ Looked (key.Global name) ∷ [])
      (part-name name env go ∙ ap (λ (o : Option (Option Value)). local_or o name env go) free ∙ ap (λ (o : Option Value). overlaid_or o env.namespace name env got other) over) (
        refl,
        from look _ other (fault NoName env) (Looked (key.Global name) ∷ []) (ap (bound_name env.namespace name env got other) bare)
            (refl, ap (global_found name env go) none ∙ ap (λ (b : Option Builtin). builtin_or_none b env go) nothing),
      );
}

-- the first part of a product
pub product_halts : {look : Key → KeyResult} {env : Env} {a : Expr} {es : List Event} {stop : (Callee → Run) → Run} (rest : List ProductPart) → Halts look env a es stop
    → Halts look env (expr.Product a rest) es (λ go. stop (λ c. as_value c env (λ v. joined_from (map product_read rest) v env (λ w. go (Called w)))))
product_halts {look = look} {env = env} {a = a} {es = es} {stop = stop} rest p = record {
  leads = λ go.
      let one : Callee → Run = λ c. as_value c env (λ v. joined_from (map product_read rest) v env (λ w. go (Called w))) in
      from look _ (part_read a env one) (stop one) es (part-product a rest env go) (p.leads one);
}

-- what stands before others
pub first_halts : {look : Key → KeyResult} {env : Env} {first : Expr} {es : List Event} {stop : (Callee → Run) → Run} (ts : List Trailer) → Halts look env first es stop
    → Halts look env (expr.Post first ts) es (λ go. stop (λ c. applied_from (map trailer_read ts) c env go))
first_halts {look = look} {env = env} {first = first} {es = es} {stop = stop} ts p = record {
  leads = λ go.
      let one : Callee → Run = λ c. applied_from (map trailer_read ts) c env go in
      from look _ (part_read first env one) (stop one) es (part-post first ts env go) (p.leads one);
}

-- a subscript
pub record IndexHalts (look : Key → KeyResult) (env : Env) (x : Value) (vs : List Value) (es : List Event) (stop : (Value → Run) → Run) : Type 0 where
  pub leads : (go : Value → Run) → Leads (model_of look) (indexed x vs env go) es (stop go)

pub index_halts : {look : Key → KeyResult} {env : Env} {first : Expr} {x : Value} {args : List Expr} {vs : List Value} {es fs gs : List Event} {stop : (Value → Run) → Run} (ts : List Trailer) → Comes look env first es x → AllCome look env args fs vs → IndexHalts look env x vs gs stop
    → Halts look env (expr.Post first (trailer.Index args ∷ ts)) (es ++ (fs ++ gs)) (λ go. stop (λ v. applied_from (map trailer_read ts) (Called v) env go))
index_halts {look = look} {env = env} {first = first} {x = x} {args = args} {vs = vs} {es = es} {fs = fs} {gs = gs} {stop = stop} ts p q r = record {
  leads = λ go.
      let one : Callee → Run = λ c. applied_from (map trailer_read (trailer.Index args ∷ ts)) c env go in
      let more : Value → Run = λ v. applied_from (map trailer_read ts) (Called v) env go in
      from look _ (part_read first env one) (stop more) (es ++ (fs ++ gs)) (part-post first (trailer.Index args ∷ ts) env go)
      (leads_append (model_of look) (part_read first env one) (one (Called x)) (stop more) es (fs ++ gs) (p.leads one)
      (from look _ _ (stop more) (fs ++ gs) (ap (λ (b : Behind). applied b (Called x) env more) (trailer-index args))
      (leads_append (model_of look) _ (indexed x vs env more) (stop more) fs gs (q.leads [] (λ us. indexed x us env more)) (r.leads more))));
}

-- a space's item is asked
pub index_asks : {look : Key → KeyResult} {env : Env} {ns : Namespace} {ps : Params} {vs us : List Value} {es : List Event} → Walks look ns es → ends_with_name ns.at ≡ true → look (key.Params ns.source) ≡ found.Params ps
    → list_all is_plain vs ≡ true → is_wrong_count ps.params (length vs) ≡ false → bound ps.params vs ≡ us → is_allowed (item_at ns us) ≡ true
    → IndexHalts look env (value.Space ns.at) vs (es ++ Looked (key.Params ns.source) ∷ []) (λ go. Asks (Item ns.at us) (λ r. go r.value))
index_asks {look = look} {env = env} {ns = ns} {ps = ps} {vs = vs} {us = us} {es = es} w n e plain count binds allowed = record {
  leads = λ go.
      let k : KeyResult → Run = space_asked ns vs env go in
      let asks : Run = Asks (Item ns.at us) (λ r. go r.value) in
      from look _ (walked ns.at (space_sought vs env go)) asks (es ++ Looked (key.Params ns.source) ∷ []) (ap (λ content. content_indexed content (value.Space ns.at) vs env go) (out_space ns.at))
      (leads_append (model_of look) (walked ns.at (space_sought vs env go)) (space_sought vs env go ns) asks es (Looked (key.Params ns.source) ∷ []) (w.leads (space_sought vs env go))
      (from look _ (Looks (key.Params ns.source) k) asks (Looked (key.Params ns.source) ∷ []) (seeking look env ns ps vs us n e plain count binds allowed go)
      (refl, asking_item look env ns ps vs us n e plain count binds allowed go)));
}

-- a call
pub record CallHalts (look : Key → KeyResult) (env : Env) (c : Callee) (vs : List Value) (es : List Event) (stop : (Value → Run) → Run) : Type 0 where
  pub leads : (go : Value → Run) → Leads (model_of look) (called c vs env go) es (stop go)

pub call_halts : {look : Key → KeyResult} {env : Env} {first : Expr} {c : Callee} {args : List Expr} {vs : List Value} {es fs gs : List Event} {stop : (Value → Run) → Run} (ts : List Trailer) → Stands look env first es c → AllCome look env args fs vs → CallHalts look env c vs gs stop
    → Halts look env (expr.Post first (trailer.Call (arguments.List args) ∷ ts)) (es ++ (fs ++ gs)) (λ go. stop (λ v. applied_from (map trailer_read ts) (Called v) env go))
call_halts {look = look} {env = env} {first = first} {c = c} {args = args} {vs = vs} {es = es} {fs = fs} {gs = gs} {stop = stop} ts p q r = record {
  leads = λ go.
      let all : List Trailer = trailer.Call (arguments.List args) ∷ ts in
      let one : Callee → Run = λ d. applied_from (map trailer_read all) d env go in
      let more : Value → Run = λ v. applied_from (map trailer_read ts) (Called v) env go in
      from look _ (part_read first env one) (stop more) (es ++ (fs ++ gs)) (part-post first all env go)
      (leads_append (model_of look) (part_read first env one) (one c) (stop more) es (fs ++ gs) (p.leads one)
      (from look _ _ (stop more) (fs ++ gs) (ap (λ (b : Behind). applied b c env more) (trailer-call args))
      (leads_append (model_of look) _ (called c vs env more) (stop more) fs gs (q.leads [] (λ us. called c us env more)) (r.leads more))));
}

-- cells are asked
pub call_asks : {look : Key → KeyResult} {env : Env} {ns : Namespace} {name : Label} {f : Formula} {allow : Bool} {vs us : List Value} {es : List Event} → Walks look ns es → look (key.Cells ns.source name) ≡ found.Formula f allow
    → list_all is_plain vs ≡ true → is_wrong_count f.params (length vs) ≡ false → bound f.params vs ≡ us
    → CallHalts look env (Called (value.Cells (roll-CellsAt (record { space = ns.at; name = name })))) vs (es ++ Looked (key.Cells ns.source name) ∷ []) (λ go. Asks (Cell ns.at name us) (λ r. go r.value))
call_asks {look = look} {env = env} {ns = ns} {name = name} {f = f} {allow = allow} {vs = vs} {us = us} {es = es} w e plain count binds = record {
  leads = λ go.
      let k : Namespace → Run = λ m. Looks (key.Cells m.source name) (cells_asked m name vs env go) in
      let asks : Run = Asks (Cell ns.at name us) (λ r. go r.value) in
      from look _ (walked ns.at k) asks (es ++ Looked (key.Cells ns.source name) ∷ []) (as_walk look env ns name f allow vs us e plain count binds go)
      (leads_append (model_of look) (walked ns.at k) (k ns) asks es (Looked (key.Cells ns.source name) ∷ []) (w.leads k)
      (refl, asking look env ns name f allow vs us e plain count binds go));
}

-- ---- conditionals

part-cond : (arms : List Arm) (last : Expr) (env : Env) (go : Callee → Run) → part_read (expr.Cond arms last) env go ≡ chosen_from (map arm_read arms) (reading last) env (λ v. go (Called v))
part-cond arms last env go = search (the_lemmas, rules)

arm-is : (v t : Expr) → arm_read (roll-Arm (record { value = v; test = t })) ≡ (reading v, reading t)
arm-is v t = search (the_lemmas, rules)

-- the first arm is taken
pub arm_taken : {look : Key → KeyResult} {env : Env} {test taken : Expr} {es fs : List Event} {b v : Value} (arms : List Arm) (last : Expr) → Comes look env test es b → truth b ≡ Ok true → Comes look env taken fs v
    → Comes look env (expr.Cond (roll-Arm (record { value = taken; test = test }) ∷ arms) last) (es ++ fs) v
arm_taken {look = look} {env = env} {test = test} {taken = taken} {es = es} {fs = fs} {b = b} {v = v} arms last p h q = record {
  leads = λ go.
      let got : Value → Run = λ w. go (Called w) in
      let others : Run = chosen_from (map arm_read arms) (reading last) env got in
      let one : Value → Run = λ t. tested (truth t) (reading taken env got) others env in
      from look _ (reading test env one) (go (Called v)) (es ++ fs)
      (part-cond (roll-Arm (record { value = taken; test = test }) ∷ arms) last env go ∙ ap (λ (a : Reading × Reading). chosen_from (a ∷ map arm_read arms) (reading last) env got) (arm-is taken test))
      (leads_append (model_of look) (reading test env one) (one b) (go (Called v)) es fs (with_value look env test es b p one)
      (from look (one b) (reading taken env got) (go (Called v)) fs (ap (λ r. tested r (reading taken env got) others env) h) (with_value look env taken fs v q got)));
}

-- ---- a target that is cells

pub cells_target : {look : Key → KeyResult} {ns : Namespace} {name : Label} {env : Env} {path : List Label} {fixed : Bool} {owner : List Label} (target : Target) (last : Label) → target_of ns path (relative owner fixed path) ≡ target
    → look (key.Exists target.path) ≡ found.Missing → member_of target.path ≡ Some last → look (key.Name (parent_of target.path) last) ≡ found.CellsHere → is_short (parent_of target.at) ≡ true
    → NameComes look ns name env (found.Ref (reference.Target path fixed) owner) (Noted (read.Ref ns.at name) ∷ Looked (key.Exists target.path) ∷ Looked (key.Name (parent_of target.path) last) ∷ []) (value.Cells (roll-CellsAt (record { space = parent_of target.at; name = last })))
cells_target {look = look} {ns = ns} {name = name} {env = env} {path = path} {fixed = fixed} {owner = owner} target last is gone member here short = record {
  leads = λ go other.
      let v : Value = value.Cells (roll-CellsAt (record { space = parent_of target.at; name = last })) in (
        refl,
        from look _ (target_read target env go) (go v) (Looked (key.Exists target.path) ∷ Looked (key.Name (parent_of target.path) last) ∷ []) (ap (λ t. target_read t env go) is) (
          refl,
          from look _ (Looks (key.Name (parent_of target.path) last) (member_found target last env go)) (go v) (Looked (key.Name (parent_of target.path) last) ∷ []) (ap (target_found target env go) gone ∙ ap (λ (m : Option Label). member_read target m env go) member)
              (refl, ap (member_found target last env go) here ∙ ap (λ (b : Bool). if b then go v else fault TooLarge env) short),
        ),
      );
}

-- ---- cells

module _ (look : Key → KeyResult) (ns : Namespace) (name : Label) (params : List Param) (e : Expr) (allow : Bool) (vs : List Value) (es fs : List Event) (stop : (Callee → Run) → Run) (w : Walks look ns es)
    (here : look (key.Cells ns.source name) ≡ found.Formula (record { params = params; body = one_line e }) allow) (count : is_wrong_count params (length vs) ≡ false) (binds : bound params vs ≡ vs)
    (halts : Halts look (line_env (Cell ns.at name vs) ns (arguments_of params vs)) e fs stop) where
  abbrev n : Node
  n = Cell ns.at name vs

  abbrev env : Env
  env = line_env n ns (arguments_of params vs)

  abbrev pub returned : Callee → Run
  returned c = as_value c env (λ x. cells_returned allow n (Plain x))

  abbrev done_with : List Value → Run
  done_with us = body_done (one_line e) (first_env n ns (arguments_of params us) (one_line e)) (cells_returned allow n)

  begun : cells_found n ns vs (look (key.Cells ns.source name)) ≡ part_read e env returned
  begun =
      ap (cells_found n ns vs) here
      ∙ ap (λ (b : Bool). if b then Ends WrongCount else done_with (bound params vs)) count
      ∙ ap done_with binds
      ∙ line_done n ns (arguments_of params vs) e (cells_returned allow n)

  cells_halt : Leads (model_of look) (cells_run n ns.at name vs) (es ++ Looked (key.Cells ns.source name) ∷ fs) (stop returned)
  cells_halt =
      leads_append (model_of look) _ (Looks (key.Cells ns.source name) (cells_found n ns vs)) (stop returned) es (Looked (key.Cells ns.source name) ∷ fs) (w.leads (λ m. Looks (key.Cells m.source name) (cells_found n m vs)))
      (refl, from look _ (part_read e env returned) (stop returned) fs begun (halts.leads returned))

  -- at an address without items: no input was put in
  pub static_halts : is_static ns.at ≡ true → look (key.Input n) ≡ found.Missing → ComesTo look n (Looked (key.Input n) ∷ es ++ Looked (key.Cells ns.source name) ∷ fs) (stop returned)
  static_halts s input =
      let run : Run = cells_run n ns.at name vs in
      record {
        leads = from look (body n) (Looks (key.Input n) (input_or run)) (stop returned) (Looked (key.Input n) ∷ es ++ Looked (key.Cells ns.source name) ∷ fs) (ap (λ (b : Bool). if b then Looks (key.Input n) (input_or run) else run) s)
            (refl, from look _ run (stop returned) (es ++ Looked (key.Cells ns.source name) ∷ fs) (ap (input_or run) input) cells_halt);
      }

  -- in an item
  pub within_halts : is_static ns.at ≡ false → ComesTo look n (es ++ Looked (key.Cells ns.source name) ∷ fs) (stop returned)
  within_halts s =
      let run : Run = cells_run n ns.at name vs in
      record { leads = from look (body n) run (stop returned) (es ++ Looked (key.Cells ns.source name) ∷ fs) (ap (λ (b : Bool). if b then Looks (key.Input n) (input_or run) else run) s) cells_halt }

-- cells that are not there
pub no_cells : {look : Key → KeyResult} {ns : Namespace} {es : List Event} (name : Label) (vs : List Value) → Walks look ns es → look (key.Cells ns.source name) ≡ found.Missing → is_static ns.at ≡ true → look (key.Input (Cell ns.at name vs)) ≡ found.Missing
    → Leads (model_of look) (body (Cell ns.at name vs)) (Looked (key.Input (Cell ns.at name vs)) ∷ es ++ Looked (key.Cells ns.source name) ∷ []) (Ends NoSuch)
no_cells {look = look} {ns = ns} {es = es} name vs w gone s input =
    let n : Node = Cell ns.at name vs in
    let run : Run = cells_run n ns.at name vs in
    from look (body n) (Looks (key.Input n) (input_or run)) (Ends NoSuch) (Looked (key.Input n) ∷ es ++ Looked (key.Cells ns.source name) ∷ []) (ap (λ (b : Bool). if b then Looks (key.Input n) (input_or run) else run) s) (
      refl,
      from look _ run (Ends NoSuch) (es ++ Looked (key.Cells ns.source name) ∷ []) (ap (input_or run) input)
          (leads_append (model_of look) run (Looks (key.Cells ns.source name) (cells_found n ns vs)) (Ends NoSuch) es (Looked (key.Cells ns.source name) ∷ []) (w.leads (λ m. Looks (key.Cells m.source name) (cells_found n m vs)))
          (refl, ap (cells_found n ns vs) gone)),
    )

-- ---- walks that come to no namespace

-- a walk comes to its last segment
pub last_step : {look : Key → KeyResult} {ns : Namespace} {es : List Event} (fs : List Event) (s : Segment) (g : Namespace → Run) (rest : Run) → Walks look ns es → nat_le 64 (length ns.at) ≡ false → Leads (model_of look) (stepped (out-Segment s) ns g) fs rest
    → Leads (model_of look) (walked (ns.at ++ s ∷ []) g) (es ++ fs) rest
last_step {look = look} {ns = ns} {es = es} fs s g rest w few l =
    from look _ (walked_from ns.at root (λ m. walked_from (s ∷ []) m g)) rest (es ++ fs) (walked_push ns.at s g ∙ walk_append ns.at (s ∷ []) root g)
    (leads_append (model_of look) _ (walked_from (s ∷ []) ns g) rest es fs (w.way.leads (λ m. walked_from (s ∷ []) m g))
    (from look _ (stepped (out-Segment s) ns g) rest fs (ap (λ (b : Bool). if b then Ends NoSuch else stepped (out-Segment s) ns g) few) l))

module _ (look : Key → KeyResult) (ns : Namespace) (ps : Params) (args us : List Value) (es : List Event) (w : Walks look ns es) (few : nat_le 64 (length ns.at) ≡ false) (n : ends_with_name ns.at ≡ true)
    (e : look (key.Params ns.source) ≡ found.Params ps) (g : Namespace → Run) where
  tests : stepped (out-Segment (segment.Item args)) ns g ≡ Tests (key.Params ns.source) (item_entered ns args g)
  tests = ap (λ s. stepped s ns g) (out_item args) ∙ ap (λ (b : Bool). if b then Tests (key.Params ns.source) (item_entered ns args g) else Ends NoSuch) n

  -- it asks the item
  pub walk_asks : is_wrong_count ps.params (length args) ≡ false → bound ps.params args ≡ us → Leads (model_of look) (walked (item_at ns args) g) (es ++ Tested (key.Params ns.source) ∷ []) (Asks (Item ns.at us) (λ r. entered r.namespace g))
  walk_asks count binds =
      let asks : List Value → Run = λ vs. Asks (Item ns.at vs) (λ r. entered r.namespace g) in
      last_step (Tested (key.Params ns.source) ∷ []) (segment.Item args) g (asks us) w few
      (from look _ (Tests (key.Params ns.source) (item_entered ns args g)) (asks us) (Tested (key.Params ns.source) ∷ []) tests
      (refl, ap (item_entered ns args g) e ∙ ap (λ (b : Bool). if b then Ends WrongCount else asks (bound ps.params args)) count ∙ ap asks binds))

  -- the arguments don't bind
  pub walk_refuses : is_wrong_count ps.params (length args) ≡ true → Leads (model_of look) (walked (item_at ns args) g) (es ++ Tested (key.Params ns.source) ∷ []) (Ends WrongCount)
  walk_refuses count =
      let asks : List Value → Run = λ vs. Asks (Item ns.at vs) (λ r. entered r.namespace g) in
      last_step (Tested (key.Params ns.source) ∷ []) (segment.Item args) g (Ends WrongCount) w few
      (from look _ (Tests (key.Params ns.source) (item_entered ns args g)) (Ends WrongCount) (Tested (key.Params ns.source) ∷ []) tests
      (refl, ap (item_entered ns args g) e ∙ ap (λ (b : Bool). if b then Ends WrongCount else asks (bound ps.params args)) count))

  -- cells of the item ask it first
  pub cells_ask_item : is_wrong_count ps.params (length args) ≡ false → bound ps.params args ≡ us → (name : Label) (vs : List Value) → is_static (item_at ns args) ≡ false → g ≡ (λ m. Looks (key.Cells m.source name) (cells_found (Cell (item_at ns args) name vs) m vs))
      → ComesTo look (Cell (item_at ns args) name vs) (es ++ Tested (key.Params ns.source) ∷ []) (Asks (Item ns.at us) (λ r. entered r.namespace g))
  cells_ask_item count binds name vs s is =
      let n : Node = Cell (item_at ns args) name vs in
      let run : Run = cells_run n (item_at ns args) name vs in
      record {
        leads = from look (body n) (walked (item_at ns args) g) (Asks (Item ns.at us) (λ r. entered r.namespace g)) (es ++ Tested (key.Params ns.source) ∷ [])
            (ap (λ (b : Bool). if b then Looks (key.Input n) (input_or run) else run) s ∙ ap (λ (k : Namespace → Run). walked (item_at ns args) k) (sym is))
            (walk_asks count binds);
      }

-- ---- displays

-- the entries of a display, behind these references and with this base, come by these events to here
pub record DisplayHalts (look : Key → KeyResult) (env : Env) (entries : List ItemEntry) (refs : Overlay) (base : Option Value) (es : List Event) (stop : (Returned → Run) → Run) : Type 0 where
  pub leads : (back : Returned → Run) → Leads (model_of look) (displayed_from entries refs base env back) es (stop back)

-- a first reference that comes to no value
pub reference_halts : {look : Key → KeyResult} {env : Env} {name : Label} {e : Expr} {es : List Event} {stop : (Callee → Run) → Run} {more : List (Label × Expr)} {entries : List ItemEntry} {refs : Overlay} {base : Option Value} → Halts look env e es stop
    → DisplayHalts look env (entry.Refs ((name, e) ∷ more) ∷ entries) refs base es (λ back. stop (λ c. as_value c env (λ v. values_beside (map named_reading more) (refs ++ (name, v) ∷ []) env (λ all. displayed_from entries all base env back))))
reference_halts {env = env} {name = name} {more = more} {entries = entries} {refs = refs} {base = base} p = record {
  leads = λ back. p.leads (λ c. as_value c env (λ v. values_beside (map named_reading more) (refs ++ (name, v) ∷ []) env (λ all. displayed_from entries all base env back)));
}

-- the run of an item comes to where its display does
pub display_halts : {look : Key → KeyResult} {ns : Namespace} {params : List Param} {entries : List ItemEntry} {es fs : List Event} {stop : (Returned → Run) → Run} (args : List Value) → Walks look ns es → ends_with_name ns.at ≡ true
    → look (key.Params ns.source) ≡ found.Params (record { params = params; body = Some (display_line entries) }) → is_wrong_count params (length args) ≡ false → bound params args ≡ args → is_allowed (item_at ns args) ≡ true
    → DisplayHalts look (line_env (Item ns.at args) ns (arguments_of params args)) entries [] None fs stop
    → ComesTo look (Item ns.at args) (es ++ Looked (key.Params ns.source) ∷ fs) (stop (item_returned (Item ns.at args) ns args (arguments_of params args)))
display_halts {look = look} {ns = ns} {params = params} {entries = entries} {es = es} {fs = fs} {stop = stop} args w n here count binds allowed p =
    let node : Node = Item ns.at args in
    let given : Overlay = arguments_of params args in
    let back : Returned → Run = item_returned node ns args given in
    record {
      leads = item_leads look ns (record { params = params; body = Some (display_line entries) }) args n here count binds allowed es fs (stop back) w
          (from look _ (displayed_from entries [] None (line_env node ns given) back) (stop back) fs (display_done node ns given entries back) (p.leads back));
    }

-- the display of a base alone
pub base_halts : {look : Key → KeyResult} {env : Env} {e : Expr} {refs : Overlay} {base : Option Value} {es : List Event} {v : Value} → Comes look env e es v → DisplayHalts look env (entry.Base e ∷ []) refs base es (λ back. back (Display refs (Some v)))
base_halts {look = look} {env = env} {e = e} {refs = refs} {es = es} {v = v} p = record { leads = λ back. with_value look env e es v p (λ w. back (Display refs (Some w))) }
