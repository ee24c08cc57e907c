-- By which events a formula of one line and the run of a node come to what they give.
use Rattle.std.proofs.Common.{◌≡◌, refl, None, Some, List, [], ◌∷◌, ◌++◌, ℕ, ap, sym, ◌∙◌, subst, length, Option, Bool, true, false, if◌then◌else◌, map}
use Rattle.std.proofs.lemmas.List.{append-nil, append_assoc}
use Rattle.mx_value.specs.declared.label.Label.{Label}
use Rattle.mx_value.specs.declared.value.Value.{Value}
use Rattle.mx_value.specs.declared.value.Value.TheVariants as value
use Rattle.mx_value.specs.declared.value.Value.TheVariants.{Nothing}
use Rattle.mx_value.specs.declared.namespace.Namespace.{Namespace}
use Rattle.mx_value.specs.declared.node.Node.{Node}
use Rattle.mx_value.specs.declared.node.Node.TheVariants.{Cell, Item}
use Rattle.mx_syntax.specs.declared.expr.Expr.{Expr}
use Rattle.mx_syntax.specs.declared.stmt.Stmt.{Stmt}
use Rattle.mx_syntax.specs.declared.stmt.Stmt.TheVariants as stmt
use Rattle.mx_syntax.specs.declared.stmt.Param.{Param}
use Rattle.mx_syntax.specs.declared.stmt.Params.{Params}
use Rattle.mx_syntax.specs.declared.stmt.ItemEntry.{ItemEntry}
use Rattle.mx_syntax.specs.declared.stmt.ItemEntry.TheVariants as entry
use Rattle.mx_syntax.specs.Locals.{add_all}
use Rattle.mx_syntax.specs.Binding.{bound, is_wrong_count}
use Rattle.mx_edit.specs.declared.key.Key.{Key}
use Rattle.mx_edit.specs.declared.key.Key.TheVariants as key
use Rattle.mx_edit.specs.declared.key.KeyResult.{KeyResult}
use Rattle.mx_edit.specs.declared.key.KeyResult.TheVariants as found
use Rattle.mx_edit.specs.declared.reply.Reply.{Reply}
use Rattle.mx_runs.specs.Runs.{Run, Ends, Looks, Gives, NoSuch, WrongCount, Event, Looked, Outcome}
use Rattle.mx_runs.specs.Meaning.{Means, Leads}
use Rattle.mx_runs.specs.Inputs.{is_static}
use Rattle.mx_runs.proofs.Levels.{leads_append}
use Rattle.mx_runs.proofs.Meanings.{finished}
use Rattle.mx_meaning.specs.Namespaces.{Overlay, overlaid_by, ends_with_name, is_allowed, item_at}
use Rattle.mx_meaning.specs.Walks.{walked}
use Rattle.mx_meaning.specs.Environments.{Env, Locals}
use Rattle.mx_meaning.specs.Lookup.{as_value}
use Rattle.mx_meaning.specs.Expressions.{reading, values_beside}
use Rattle.mx_meaning.specs.Statements.{Returned, Plain, Display, Doing, named_reading, displayed_from, done_from, done_by, doing, body_done}
use Rattle.mx_meaning.specs.Nodes.{arguments_of, set_locals, unset_locals, first_env, value_given, cells_returned, cells_found, cells_run, input_or, item_returned, item_done, item_made, item_found, item_run, body}
use Rattle.mx_meaning.specs.Laws.{model_of}
use Rattle.mx_formula_examples.proofs.Equations.{doing-return, bound-return, first_line-return, doing-display, bound-display, first_line-display}
use Rattle.mx_formula_examples.proofs.Rules.{Walks, Comes, from}

-- where a formula of one line runs
abbrev pub line_env : Node → Namespace → Overlay → Env
line_env n ns given = record { node = n; namespace = ns; line = 1; locals = set_locals given ++ [] }

abbrev pub one_line : Expr → List Stmt
one_line e = stmt.Return (Some e) ∷ []

none_unset : (e : Expr) → unset_locals (one_line e) ≡ []
none_unset e = ap (λ (names : List Label). map (λ (name : Label). (name, None)) (add_all [] (names ++ []))) (bound-return (Some e))

module _ (n : Node) (ns : Namespace) (given : Overlay) (e : Expr) (back : Returned → Run) where
  pub line_done : body_done (one_line e) (first_env n ns given (one_line e)) back ≡ reading e (line_env n ns given) (λ v. back (Plain v))
  line_done =
      ap (λ (line : ℕ). done_from (map done_by (one_line e)) line (first_env n ns given (one_line e)) (λ x. back (Plain Nothing)) back) (first_line-return e)
      ∙ ap (λ (us : Locals). doing (stmt.Return (Some e)) (record { node = n; namespace = ns; line = 1; locals = set_locals given ++ us }) (λ x. back (Plain Nothing)) back) (none_unset e)
      ∙ ap (λ (d : Doing). d (line_env n ns given) (λ x. back (Plain Nothing)) back) (doing-return e)

-- the whole run of a node, as a record: its node is found from it
pub record RunsTo (look : Key → KeyResult) (n : Node) (es : List Event) (o : Outcome) : Type 0 where
  pub leads : Leads (model_of look) (body n) es (Ends o)

pub means : {look : Key → KeyResult} {n : Node} {es : List Event} {r : Reply} → RunsTo look n es (Gives r) → Means (model_of look) n (Gives r)
means {look = look} {n = n} {es = es} {r = r} w = finished (model_of look) n es (Gives r) tt w.leads

abbrev pub given_value : Value → Reply
given_value v = record { value = v; namespace = None }

-- cells of which the formula comes to some rest of the run
module _ (look : Key → KeyResult) (ns : Namespace) (name : Label) (params : List Param) (stmts : List Stmt) (allow : Bool) (vs : List Value) (es fs : List Event) (rest : Run) (w : Walks look ns es)
    (here : look (key.Cells ns.source name) ≡ found.Formula (record { params = params; body = stmts }) allow) (count : is_wrong_count params (length vs) ≡ false) (binds : bound params vs ≡ vs)
    (l : Leads (model_of look) (body_done stmts (first_env (Cell ns.at name vs) ns (arguments_of params vs) stmts) (cells_returned allow (Cell ns.at name vs))) fs rest) where
  abbrev n : Node
  n = Cell ns.at name vs

  abbrev done_with : List Value → Run
  done_with us = body_done stmts (first_env n ns (arguments_of params us) stmts) (cells_returned allow n)

  begun : cells_found n ns vs (look (key.Cells ns.source name)) ≡ done_with vs
  begun = ap (cells_found n ns vs) here ∙ ap (λ (b : Bool). if b then Ends WrongCount else done_with (bound params vs)) count ∙ ap done_with binds

  cells_lead : Leads (model_of look) (cells_run n ns.at name vs) (es ++ Looked (key.Cells ns.source name) ∷ fs) rest
  cells_lead =
      leads_append (model_of look) _ (Looks (key.Cells ns.source name) (cells_found n ns vs)) rest es (Looked (key.Cells ns.source name) ∷ fs) (w.leads (λ m. Looks (key.Cells m.source name) (cells_found n m vs)))
      (refl, from look _ (done_with vs) rest fs begun l)

  -- at an address without items: no input was put in
  pub static_lead : is_static ns.at ≡ true → look (key.Input n) ≡ found.Missing → Leads (model_of look) (body n) (Looked (key.Input n) ∷ es ++ Looked (key.Cells ns.source name) ∷ fs) rest
  static_lead s input =
      from look (body n) (Looks (key.Input n) (input_or (cells_run n ns.at name vs))) rest (Looked (key.Input n) ∷ es ++ Looked (key.Cells ns.source name) ∷ fs)
      (ap (λ (b : Bool). if b then Looks (key.Input n) (input_or (cells_run n ns.at name vs)) else cells_run n ns.at name vs) s)
      (refl, from look _ (cells_run n ns.at name vs) rest (es ++ Looked (key.Cells ns.source name) ∷ fs) (ap (input_or (cells_run n ns.at name vs)) input) cells_lead)

  -- in an item
  pub within_lead : is_static ns.at ≡ false → Leads (model_of look) (body n) (es ++ Looked (key.Cells ns.source name) ∷ fs) rest
  within_lead s =
      from look (body n) (cells_run n ns.at name vs) rest (es ++ Looked (key.Cells ns.source name) ∷ fs)
      (ap (λ (b : Bool). if b then Looks (key.Input n) (input_or (cells_run n ns.at name vs)) else cells_run n ns.at name vs) s) cells_lead

-- a formula of one line comes to what its expression comes to
pub line_leads : (look : Key → KeyResult) (n : Node) (ns : Namespace) (given : Overlay) (e : Expr) (back : Returned → Run) (fs : List Event) (rest : Run) → Leads (model_of look) (reading e (line_env n ns given) (λ x. back (Plain x))) fs rest
    → Leads (model_of look) (body_done (one_line e) (first_env n ns given (one_line e)) back) fs rest
line_leads look n ns given e back fs rest l = from look _ (reading e (line_env n ns given) (λ x. back (Plain x))) rest fs (line_done n ns given e back) l

-- and where that is a value, it ends with it
line_ends : (look : Key → KeyResult) (n : Node) (ns : Namespace) (given : Overlay) (e : Expr) (allow : Bool) (fs : List Event) (v : Value) → Comes look (line_env n ns given) e fs v → cells_returned allow n (Plain v) ≡ value_given v
    → Leads (model_of look) (body_done (one_line e) (first_env n ns given (one_line e)) (cells_returned allow n)) fs (value_given v)
line_ends look n ns given e allow fs v p ends =
    line_leads look n ns given e (cells_returned allow n) fs (value_given v)
    (subst (λ r. Leads (model_of look) (reading e (line_env n ns given) (λ x. cells_returned allow n (Plain x))) fs r) ends (p.leads (λ c. as_value c (line_env n ns given) (λ x. cells_returned allow n (Plain x)))))

-- cells of one line, at an address without items and in an item
pub static_run : {look : Key → KeyResult} {ns : Namespace} {name : Label} {params : List Param} {e : Expr} {allow : Bool} {es fs : List Event} {v : Value} (vs : List Value) → is_static ns.at ≡ true → Walks look ns es → look (key.Input (Cell ns.at name vs)) ≡ found.Missing
    → look (key.Cells ns.source name) ≡ found.Formula (record { params = params; body = one_line e }) allow → is_wrong_count params (length vs) ≡ false → bound params vs ≡ vs
    → Comes look (line_env (Cell ns.at name vs) ns (arguments_of params vs)) e fs v → cells_returned allow (Cell ns.at name vs) (Plain v) ≡ value_given v
    → RunsTo look (Cell ns.at name vs) (Looked (key.Input (Cell ns.at name vs)) ∷ es ++ Looked (key.Cells ns.source name) ∷ fs) (Gives (given_value v))
static_run {look = look} {ns = ns} {name = name} {params = params} {e = e} {allow = allow} {es = es} {fs = fs} {v = v} vs s w input here count binds p ends = record {
  leads = static_lead look ns name params (one_line e) allow vs es fs (value_given v) w here count binds (line_ends look (Cell ns.at name vs) ns (arguments_of params vs) e allow fs v p ends) s input;
}

pub within_run : {look : Key → KeyResult} {ns : Namespace} {name : Label} {params : List Param} {e : Expr} {allow : Bool} {es fs : List Event} {v : Value} (vs : List Value) → is_static ns.at ≡ false → Walks look ns es
    → look (key.Cells ns.source name) ≡ found.Formula (record { params = params; body = one_line e }) allow → is_wrong_count params (length vs) ≡ false → bound params vs ≡ vs
    → Comes look (line_env (Cell ns.at name vs) ns (arguments_of params vs)) e fs v → cells_returned allow (Cell ns.at name vs) (Plain v) ≡ value_given v
    → RunsTo look (Cell ns.at name vs) (es ++ Looked (key.Cells ns.source name) ∷ fs) (Gives (given_value v))
within_run {look = look} {ns = ns} {name = name} {params = params} {e = e} {allow = allow} {es = es} {fs = fs} {v = v} vs s w here count binds p ends = record {
  leads = within_lead look ns name params (one_line e) allow vs es fs (value_given v) w here count binds (line_ends look (Cell ns.at name vs) ns (arguments_of params vs) e allow fs v p ends) s;
}

-- ---- items

-- the reply of an item: its space, with this overlay and source
abbrev pub space_given : Namespace → List Value → Overlay → List Label → Reply
space_given ns args over source = record { value = value.Space (item_at ns args); namespace = Some (record { at = item_at ns args; source = source; overlay = over }) }

module _ (look : Key → KeyResult) (ns : Namespace) (ps : Params) (args : List Value) (n : ends_with_name ns.at ≡ true) (here : look (key.Params ns.source) ≡ found.Params ps)
    (count : is_wrong_count ps.params (length args) ≡ false) (binds : bound ps.params args ≡ args) (allowed : is_allowed (item_at ns args) ≡ true) where
  abbrev node : Node
  node = Item ns.at args

  sought_item : item_run node args ns ≡ Looks (key.Params ns.source) (item_found node ns args)
  sought_item = ap (λ (b : Bool). if b then Looks (key.Params ns.source) (item_found node ns args) else Ends NoSuch) n

  begun_item : item_found node ns args (look (key.Params ns.source)) ≡ item_done ps.body node ns args (arguments_of ps.params args)
  begun_item =
      ap (item_found node ns args) here
      ∙ ap (λ (b : Bool). if b then Ends WrongCount else item_made ps.body ps.params node ns (bound ps.params args)) count
      ∙ ap (item_made ps.body ps.params node ns) binds
      ∙ ap (λ (b : Bool). if b then item_done ps.body node ns args (arguments_of ps.params args) else Ends NoSuch) allowed

  pub item_leads : (es fs : List Event) (rest : Run) → Walks look ns es → Leads (model_of look) (item_done ps.body node ns args (arguments_of ps.params args)) fs rest → Leads (model_of look) (body node) (es ++ Looked (key.Params ns.source) ∷ fs) rest
  item_leads es fs rest w l =
      leads_append (model_of look) (walked ns.at (item_run node args)) (item_run node args ns) rest es (Looked (key.Params ns.source) ∷ fs) (w.leads (item_run node args))
      (from look _ (Looks (key.Params ns.source) (item_found node ns args)) rest (Looked (key.Params ns.source) ∷ fs) sought_item
      (refl, from look _ (item_done ps.body node ns args (arguments_of ps.params args)) rest fs begun_item l))

-- of a space without a parameter formula
pub bare_item : {look : Key → KeyResult} {ns : Namespace} {params : List Param} {es : List Event} (args : List Value) → Walks look ns es → ends_with_name ns.at ≡ true → look (key.Params ns.source) ≡ found.Params (record { params = params; body = None })
    → is_wrong_count params (length args) ≡ false → bound params args ≡ args → is_allowed (item_at ns args) ≡ true
    → RunsTo look (Item ns.at args) (es ++ Looked (key.Params ns.source) ∷ []) (Gives (space_given ns args (overlaid_by ns.overlay (arguments_of params args)) ns.source))
bare_item {look = look} {ns = ns} {params = params} {es = es} args w n here count binds allowed = record {
  leads = item_leads look ns (record { params = params; body = None }) args n here count binds allowed es [] (Ends (Gives (space_given ns args (overlaid_by ns.overlay (arguments_of params args)) ns.source))) w refl;
}

-- ---- displays

-- references, behind those before them
pub record RefsCome (look : Key → KeyResult) (env : Env) (refs : List (Label × Expr)) (es : List Event) (over : Overlay) : Type 0 where
  pub leads : (done : Overlay) (go : Overlay → Run) → Leads (model_of look) (values_beside (map named_reading refs) done env go) es (go (done ++ over))

pub no_refs : {look : Key → KeyResult} {env : Env} → RefsCome look env [] [] []
no_refs = record { leads = λ done go. ap go (sym (append-nil done)) }

pub more_refs : {look : Key → KeyResult} {env : Env} {name : Label} {e : Expr} {refs : List (Label × Expr)} {es fs : List Event} {v : Value} {over : Overlay} → Comes look env e es v → RefsCome look env refs fs over → RefsCome look env ((name, e) ∷ refs) (es ++ fs) ((name, v) ∷ over)
more_refs {look = look} {env = env} {name = name} {e = e} {refs = refs} {es = es} {fs = fs} {v = v} {over = over} p q = record {
  leads = λ done go.
      let one : Value → Run = λ u. values_beside (map named_reading refs) (done ++ (name, u) ∷ []) env go in
      leads_append (model_of look) (reading e env one) (one v) (go (done ++ (name, v) ∷ over)) es fs (p.leads (λ c. as_value c env one))
      (subst (λ r. Leads (model_of look) (one v) fs r) (ap go (append_assoc done ((name, v) ∷ []) over)) (q.leads (done ++ (name, v) ∷ []) go));
}

-- the entries of a display, behind these references and with this base
pub record DisplayComes (look : Key → KeyResult) (env : Env) (entries : List ItemEntry) (refs : Overlay) (base : Option Value) (es : List Event) (over : Overlay) (last : Option Value) : Type 0 where
  pub leads : (back : Returned → Run) → Leads (model_of look) (displayed_from entries refs base env back) es (back (Display over last))

pub display_end : {look : Key → KeyResult} {env : Env} {refs : Overlay} {base : Option Value} → DisplayComes look env [] refs base [] refs base
display_end = record { leads = λ back. refl }

pub display_base : {look : Key → KeyResult} {env : Env} {e : Expr} {entries : List ItemEntry} {refs over : Overlay} {base last : Option Value} {es fs : List Event} {v : Value} → Comes look env e es v → DisplayComes look env entries refs (Some v) fs over last → DisplayComes look env (entry.Base e ∷ entries) refs base (es ++ fs) over last
display_base {look = look} {env = env} {e = e} {entries = entries} {refs = refs} {over = over} {last = last} {es = es} {fs = fs} {v = v} p q = record {
  leads = λ back.
      let one : Value → Run = λ u. displayed_from entries refs (Some u) env back in
      leads_append (model_of look) (reading e env one) (one v) (back (Display over last)) es fs (p.leads (λ c. as_value c env one)) (q.leads back);
}

pub display_refs : {look : Key → KeyResult} {env : Env} {more : List (Label × Expr)} {entries : List ItemEntry} {refs given over : Overlay} {base last : Option Value} {es fs : List Event} → RefsCome look env more es given → DisplayComes look env entries (refs ++ given) base fs over last
    → DisplayComes look env (entry.Refs more ∷ entries) refs base (es ++ fs) over last
display_refs {look = look} {env = env} {more = more} {entries = entries} {refs = refs} {given = given} {over = over} {base = base} {last = last} {es = es} {fs = fs} p q = record {
  leads = λ back.
      let one : Overlay → Run = λ all. displayed_from entries all base env back in
      leads_append (model_of look) (values_beside (map named_reading more) refs env one) (one (refs ++ given)) (back (Display over last)) es fs (p.leads refs one) (q.leads back);
}

abbrev pub display_line : List ItemEntry → List Stmt
display_line entries = stmt.ReturnItem entries ∷ []

module _ (n : Node) (ns : Namespace) (given : Overlay) (entries : List ItemEntry) (back : Returned → Run) where
  pub display_done : body_done (display_line entries) (first_env n ns given (display_line entries)) back ≡ displayed_from entries [] None (line_env n ns given) back
  display_done =
      ap (λ (line : ℕ). done_from (map done_by (display_line entries)) line (first_env n ns given (display_line entries)) (λ x. back (Plain Nothing)) back) (first_line-display entries)
      ∙ ap (λ (names : List Label). doing (stmt.ReturnItem entries) (record { node = n; namespace = ns; line = 1; locals = set_locals given ++ map (λ (name : Label). (name, None)) (add_all [] (names ++ [])) }) (λ x. back (Plain Nothing)) back) (bound-display entries)
      ∙ ap (λ (d : Doing). d (line_env n ns given) (λ x. back (Plain Nothing)) back) (doing-display entries)

-- of a space whose parameter formula is a display
pub displayed_item : {look : Key → KeyResult} {ns : Namespace} {params : List Param} {entries : List ItemEntry} {es fs : List Event} {over : Overlay} {base : Option Value} {r : Reply} (args : List Value)
    → Walks look ns es → ends_with_name ns.at ≡ true → look (key.Params ns.source) ≡ found.Params (record { params = params; body = Some (display_line entries) })
    → is_wrong_count params (length args) ≡ false → bound params args ≡ args → is_allowed (item_at ns args) ≡ true
    → DisplayComes look (line_env (Item ns.at args) ns (arguments_of params args)) entries [] None fs over base
    → item_returned (Item ns.at args) ns args (arguments_of params args) (Display over base) ≡ Ends (Gives r)
    → RunsTo look (Item ns.at args) (es ++ Looked (key.Params ns.source) ∷ fs) (Gives r)
displayed_item {look = look} {ns = ns} {params = params} {entries = entries} {es = es} {fs = fs} {over = over} {base = base} {r = r} args w n here count binds allowed p ends =
    let node : Node = Item ns.at args in
    let given : Overlay = arguments_of params args in
    record {
      leads = item_leads look ns (record { params = params; body = Some (display_line entries) }) args n here count binds allowed es fs (Ends (Gives r)) w
          (from look _ (displayed_from entries [] None (line_env node ns given) (item_returned node ns args given)) (Ends (Gives r)) fs (display_done node ns given entries (item_returned node ns args given))
          (subst (λ x. Leads (model_of look) (displayed_from entries [] None (line_env node ns given) (item_returned node ns args given)) fs x) ends (p.leads (item_returned node ns args given))));
    }
