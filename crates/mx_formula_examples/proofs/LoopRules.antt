-- Rules for statements, loops and generators.
use Rattle.std.proofs.Common.{◌≡◌, refl, None, Some, Ok, Err, List, [], ◌∷◌, ◌++◌, ℕ, ℤ, ◌+◌, ap, sym, ◌∙◌, subst, length, Option, Bool, true, false, ◌&&◌, nat_le, not, if◌then◌else◌, map, max, arith}
use Rattle.std.proofs.lemmas.List.Sums.{sum_by-cons}
use Rattle.std.proofs.lemmas.List.{append-nil, append_assoc}
use Rattle.std.specs.Prelude.{sum as total}
use Rattle.std.specs.Bool.{beq}
use Rattle.mx_value.specs.Size.{size_of}
use Rattle.mx_value.specs.Nesting.{nesting_of, greatest}
use Rattle.mx_value.specs.declared.label.Label.{Label}
use Rattle.mx_value.specs.declared.value.Value.{Value}
use Rattle.mx_value.specs.declared.value.Value.TheVariants.{Int, Tup, Flag, Nothing}
use Rattle.mx_value.specs.declared.fault.FaultKind.{FaultKind}
use Rattle.mx_value.specs.declared.namespace.Namespace.{Namespace}
use Rattle.mx_value.specs.declared.node.Node.{Node}
use Rattle.mx_value.specs.declared.node.Node.TheVariants.{Cell}
use Rattle.mx_value.specs.declared.fault.FaultKind.TheVariants.{TooLarge}
use Rattle.mx_syntax.specs.declared.expr.Expr.{Expr}
use Rattle.mx_syntax.specs.declared.expr.Expr.TheVariants as expr
use Rattle.mx_syntax.specs.declared.expr.ProductPart.{ProductPart, roll-ProductPart}
use Rattle.mx_syntax.specs.declared.expr.ProductOp.{ProductOp}
use Rattle.mx_syntax.specs.declared.expr.Trailer.{Trailer}
use Rattle.mx_syntax.specs.declared.expr.Trailer.TheVariants as trailer
use Rattle.mx_syntax.specs.declared.expr.Args.TheVariants as arguments
use Rattle.mx_syntax.specs.declared.stmt.Stmt.{Stmt}
use Rattle.mx_syntax.specs.declared.stmt.Stmt.TheVariants as stmt
use Rattle.mx_syntax.specs.declared.stmt.ArithOp.{ArithOp}
use Rattle.mx_syntax.specs.declared.stmt.Param.{Param}
use Rattle.mx_syntax.specs.Binding.{bound, is_wrong_count}
use Rattle.mx_syntax.specs.Heights.{height, first_line}
use Rattle.mx_edit.specs.declared.key.Key.{Key}
use Rattle.mx_edit.specs.declared.key.Key.TheVariants as key
use Rattle.mx_edit.specs.declared.key.KeyResult.{KeyResult}
use Rattle.mx_edit.specs.declared.key.KeyResult.TheVariants as found
use Rattle.mx_syntax.specs.declared.op.Op.{Op}
use Rattle.mx_ops.specs.Kinds.{items_in, items_of}
use Rattle.mx_ops.specs.Truth.{truth}
use Rattle.mx_ops.specs.Answers.{is_allowed, made}
use Rattle.mx_runs.specs.Runs.{Run, Gives, Faults, Event, Looked}
use Rattle.mx_runs.specs.Meaning.{Means, Leads}
use Rattle.mx_runs.specs.Inputs.{is_static}
use Rattle.mx_runs.proofs.Meanings.{finished}
use Rattle.mx_meaning.specs.Namespaces.{Overlay}
use Rattle.mx_runs.proofs.Levels.{leads_append}
use Rattle.mx_meaning.specs.Environments.{Env, Locals, Reading, computed, local_of, at_line, with_local, within, fault}
use Rattle.mx_meaning.specs.Lookup.{Callee, Called, local_or, as_value}
use Rattle.mx_meaning.specs.Calls.{called}
use Rattle.mx_meaning.specs.Operations.{changing, multiplying, of_two}
use Rattle.mx_meaning.specs.Expressions.{Generator, joined_from, items_or_fault, generated_from, generated, decided_from, decided, called_over, applied, applied_from, reading}
use Rattle.mx_meaning.specs.Statements.{Returned, Plain, Doing, done_from, done_by, looped_from, doing, body_done}
use Rattle.mx_meaning.specs.Nodes.{arguments_of, set_locals, unset_locals, first_env, value_given, cells_returned}
use Rattle.mx_meaning.specs.Laws.{model_of}
use Rattle.mx_meaning.proofs.Forms.{trailer_read, product_read}
use Rattle.mx_formula_examples.proofs.Equations.{part-product, product-part, out_tuple, size_tuple, size_int, nesting_tuple, nesting_int, trailer-over, doing-return, doing-assign, doing-change, doing-for}
use Rattle.mx_formula_examples.proofs.Rules.{from, Walks, Comes, CallComes, TrailComes}
use Rattle.mx_formula_examples.proofs.NodeRules.{RunsTo, given_value, static_lead}
use Rattle.mx_formula_examples.proofs.FormRules.{Turns}

items_are : (vs : List Value) → items_of (Tup vs) ≡ Some vs
items_are vs = ap items_in (out_tuple vs)

-- ---- tuples of whole numbers

sizes : (ns : List ℤ) → total (map size_of (map Int ns)) ≡ length ns
sizes [] = refl
sizes (n ∷ ns) =
    let h : total (map size_of (map Int ns)) ≡ length ns = sizes ns in
    let one : size_of (Int n) ≡ 1 = size_int n in
    sum_by-cons (λ (a : ℕ). a) (size_of (Int n)) (map size_of (map Int ns)) ∙ omega (arith, h, one)

nestings : (ns : List ℤ) → greatest (map nesting_of (map Int ns)) ≡ 0
nestings [] = refl
nestings (n ∷ ns) = ap (λ (a : ℕ). max a (greatest (map nesting_of (map Int ns)))) (nesting_int n) ∙ ap (λ (a : ℕ). max 0 a) (nestings ns)

pub ints_allowed : (ns : List ℤ) → is_allowed (Tup (map Int ns)) ≡ nat_le (1 + length ns) 1_000_000
ints_allowed ns =
    ap (λ (a : ℕ). nat_le a 1_000_000 && nat_le (nesting_of (Tup (map Int ns))) 64) (size_tuple (map Int ns) ∙ ap (λ (a : ℕ). 1 + a) (sizes ns))
    ∙ ap (λ (a : ℕ). nat_le (1 + length ns) 1_000_000 && nat_le a 64) (nesting_tuple (map Int ns) ∙ ap (λ (a : ℕ). 1 + a) (nestings ns)) ∙ and_true (nat_le (1 + length ns) 1_000_000)
  where
    and_true : (b : Bool) → (b && true) ≡ b
    and_true true = refl
    and_true false = refl

-- ---- statements

-- the statement goes on with this environment
pub record StmtGoes (look : Key → KeyResult) (env : Env) (s : Stmt) (es : List Event) (next : Env) : Type 0 where
  pub leads : (after : Env → Run) (back : Returned → Run) → Leads (model_of look) (doing s env after back) es (after next)

-- the statements, the first at this line, go on with it
pub record BodyGoes (look : Key → KeyResult) (env : Env) (stmts : List Stmt) (line : ℕ) (es : List Event) (next : Env) : Type 0 where
  pub leads : (after : Env → Run) (back : Returned → Run) → Leads (model_of look) (done_from (map done_by stmts) line env after back) es (after next)

-- or return
pub record DoneComes (look : Key → KeyResult) (env : Env) (stmts : List Stmt) (line : ℕ) (es : List Event) (x : Returned) : Type 0 where
  pub leads : (after : Env → Run) (back : Returned → Run) → Leads (model_of look) (done_from (map done_by stmts) line env after back) es (back x)

-- or come to a fault
pub record DoneStops (look : Key → KeyResult) (env : Env) (stmts : List Stmt) (line : ℕ) (es : List Event) (kind : FaultKind) (at : Env) : Type 0 where
  pub leads : (after : Env → Run) (back : Returned → Run) → Leads (model_of look) (done_from (map done_by stmts) line env after back) es (fault kind at)

with_value : (look : Key → KeyResult) (env : Env) (e : Expr) (es : List Event) (v : Value) → Comes look env e es v → (go : Value → Run) → Leads (model_of look) (reading e env go) es (go v)
with_value look env e es v p go = p.leads (λ c. as_value c env go)

pub returned : {look : Key → KeyResult} {env : Env} {e : Expr} {rest : List Stmt} {line : ℕ} {es : List Event} {v : Value} → Comes look (at_line line env) e es v → DoneComes look env (stmt.Return (Some e) ∷ rest) line es (Plain v)
returned {look = look} {env = env} {e = e} {rest = rest} {line = line} {es = es} {v = v} p = record {
  leads = λ after back.
      from look _ (reading e (at_line line env) (λ x. back (Plain x))) (back (Plain v)) es
      (ap (λ (d : Doing). d (at_line line env) (λ u. done_from (map done_by rest) (line + height (stmt.Return (Some e))) u after back) back) (doing-return e))
      (with_value look (at_line line env) e es v p (λ x. back (Plain x)));
}

pub return_stops : {look : Key → KeyResult} {env : Env} {e : Expr} {rest : List Stmt} {line : ℕ} {es : List Event} {kind : FaultKind} → Turns look (at_line line env) e es (λ go. fault kind (at_line line env)) → DoneStops look env (stmt.Return (Some e) ∷ rest) line es kind (at_line line env)
return_stops {look = look} {env = env} {e = e} {rest = rest} {line = line} {es = es} {kind = kind} p = record {
  leads = λ after back.
      from look _ (reading e (at_line line env) (λ x. back (Plain x))) (fault kind (at_line line env)) es
      (ap (λ (d : Doing). d (at_line line env) (λ u. done_from (map done_by rest) (line + height (stmt.Return (Some e))) u after back) back) (doing-return e))
      (p.leads (λ c. as_value c (at_line line env) (λ x. back (Plain x))));
}

module _ (look : Key → KeyResult) (env next : Env) (s : Stmt) (rest : List Stmt) (line count : ℕ) (es fs : List Event) (p : StmtGoes look (at_line line env) s es next) (h : height s ≡ count) (after : Env → Run) (back : Returned → Run) where
  further : (last : Run) → Leads (model_of look) (done_from (map done_by rest) (line + count) next after back) fs last → Leads (model_of look) (done_from (map done_by (s ∷ rest)) line env after back) (es ++ fs) last
  further last l =
      leads_append (model_of look) _ (done_from (map done_by rest) (line + height s) next after back) last es fs (p.leads (λ u. done_from (map done_by rest) (line + height s) u after back) back)
      (from look _ (done_from (map done_by rest) (line + count) next after back) last fs (ap (λ (k : ℕ). done_from (map done_by rest) (line + k) next after back) h) l)

pub then_returns : {look : Key → KeyResult} {env next : Env} {s : Stmt} {rest : List Stmt} {line count : ℕ} {es fs : List Event} {x : Returned} → StmtGoes look (at_line line env) s es next → height s ≡ count → DoneComes look next rest (line + count) fs x → DoneComes look env (s ∷ rest) line (es ++ fs) x
then_returns {look = look} {env = env} {next = next} {s = s} {rest = rest} {line = line} {count = count} {es = es} {fs = fs} {x = x} p h q = record { leads = λ after back. further look env next s rest line count es fs p h after back (back x) (q.leads after back) }

pub then_stops : {look : Key → KeyResult} {env next at : Env} {s : Stmt} {rest : List Stmt} {line count : ℕ} {es fs : List Event} {kind : FaultKind} → StmtGoes look (at_line line env) s es next → height s ≡ count → DoneStops look next rest (line + count) fs kind at → DoneStops look env (s ∷ rest) line (es ++ fs) kind at
then_stops {look = look} {env = env} {next = next} {at = at} {s = s} {rest = rest} {line = line} {count = count} {es = es} {fs = fs} {kind = kind} p h q = record { leads = λ after back. further look env next s rest line count es fs p h after back (fault kind at) (q.leads after back) }

-- a body of one statement
pub one_goes : {look : Key → KeyResult} {env next : Env} {s : Stmt} {line : ℕ} {es : List Event} → StmtGoes look (at_line line env) s es next → BodyGoes look env (s ∷ []) line es next
one_goes p = record { leads = λ after back. p.leads after back }

pub assign_goes : {look : Key → KeyResult} {env : Env} {name : Label} {e : Expr} {es : List Event} {v : Value} → Comes look env e es v → StmtGoes look env (stmt.Assign name e) es (with_local name v env)
assign_goes {look = look} {env = env} {name = name} {e = e} {es = es} {v = v} p = record {
  leads = λ after back.
      from look _ (reading e env (λ x. after (with_local name x env))) (after (with_local name v env)) es (ap (λ (d : Doing). d env after back) (doing-assign name e))
      (with_value look env e es v p (λ x. after (with_local name x env)));
}

pub change_goes : {look : Key → KeyResult} {env : Env} {name : Label} {op : ArithOp} {e : Expr} {es : List Event} {old v new : Value} → local_of env.locals name ≡ Some (Some old) → Comes look env e es v → of_two (changing op) old v ≡ Ok new → StmtGoes look env (stmt.Change name op e) es (with_local name new env)
change_goes {look = look} {env = env} {name = name} {op = op} {e = e} {es = es} {old = old} {v = v} {new = new} here p h = record {
  leads = λ after back.
      let one : Value → Value → Run = λ x y. computed (of_two (changing op) x y) env (λ z. after (with_local name z env)) in
      from look _ (reading e env (one old)) (after (with_local name new env)) es
      (ap (λ (d : Doing). d env after back) (doing-change name op e) ∙ ap (λ (o : Option (Option Value)). local_or o name env (λ c. as_value c env (λ x. reading e env (one x)))) here)
      (subst (λ r. Leads (model_of look) (reading e env (one old)) es r) (ap (λ r. computed r env (λ z. after (with_local name z env))) h) (with_value look env e es v p (one old)));
}

-- the body of a loop for each of these items
pub record LoopGoes (look : Key → KeyResult) (env : Env) (name : Label) (stmts : List Stmt) (vs : List Value) (line : ℕ) (es : List Event) (next : Env) : Type 0 where
  pub leads : (after : Env → Run) (back : Returned → Run) → Leads (model_of look) (looped_from name (map done_by stmts) vs line env after back) es (after next)

pub loop_end : {look : Key → KeyResult} {env : Env} {name : Label} {stmts : List Stmt} {line : ℕ} → LoopGoes look env name stmts [] line [] env
loop_end = record { leads = λ after back. refl }

pub loop_more : {look : Key → KeyResult} {env mid next : Env} {name : Label} {stmts : List Stmt} {v : Value} {vs : List Value} {line : ℕ} {es fs : List Event} → BodyGoes look (with_local name v env) stmts line es mid → LoopGoes look mid name stmts vs line fs next → LoopGoes look env name stmts (v ∷ vs) line (es ++ fs) next
loop_more {look = look} {env = env} {mid = mid} {next = next} {name = name} {stmts = stmts} {v = v} {vs = vs} {line = line} {es = es} {fs = fs} p q = record {
  leads = λ after back.
      let on : Env → Run = λ e. looped_from name (map done_by stmts) vs line e after back in
      leads_append (model_of look) (done_from (map done_by stmts) line (with_local name v env) on back) (on mid) (after next) es fs (p.leads on back) (q.leads after back);
}

pub for_goes : {look : Key → KeyResult} {env next : Env} {name : Label} {over : Expr} {stmts : List Stmt} {vs : List Value} {es fs : List Event} → Comes look env over es (Tup vs) → LoopGoes look env name stmts vs (env.line + 1) fs next → StmtGoes look env (stmt.For name over stmts) (es ++ fs) next
for_goes {look = look} {env = env} {next = next} {name = name} {over = over} {stmts = stmts} {vs = vs} {es = es} {fs = fs} p q = record {
  leads = λ after back.
      let on : List Value → Run = λ items. looped_from name (map done_by stmts) items (env.line + 1) env after back in
      let one : Value → Run = λ v. items_or_fault (items_of v) env on in
      from look _ (reading over env one) (after next) (es ++ fs) (ap (λ (d : Doing). d env after back) (doing-for name over stmts))
      (leads_append (model_of look) (reading over env one) (one (Tup vs)) (after next) es fs (with_value look env over es (Tup vs) p one)
      (from look (one (Tup vs)) (on vs) (after next) fs (ap (λ o. items_or_fault o env on) (items_are vs)) (q.leads after back)));
}

-- ---- generators without a test

abbrev pub generator : Expr → Label → Expr → Generator
generator element name over = record { element = reading element; name = name; over = reading over; test = None }

pub record GenComes (look : Key → KeyResult) (env : Env) (element : Expr) (name : Label) (over : Expr) (vs : List Value) (es : List Event) (items : List Value) : Type 0 where
  pub leads : (done : List Value) (go : List Value → Run) → Leads (model_of look) (generated_from (generator element name over) vs done env go) es (go (done ++ items))

pub gen_end : {look : Key → KeyResult} {env : Env} {element : Expr} {name : Label} {over : Expr} → GenComes look env element name over [] [] []
gen_end = record { leads = λ done go. ap go (sym (append-nil done)) }

pub gen_more : {look : Key → KeyResult} {env : Env} {element : Expr} {name : Label} {over : Expr} {v w : Value} {vs items : List Value} {es fs : List Event} → Comes look (within name v env) element es w → GenComes look env element name over vs fs items → GenComes look env element name over (v ∷ vs) (es ++ fs) (w ∷ items)
gen_more {look = look} {env = env} {element = element} {name = name} {over = over} {v = v} {w = w} {vs = vs} {items = items} {es = es} {fs = fs} p q = record {
  leads = λ done go.
      let one : Value → Run = λ u. generated_from (generator element name over) vs (done ++ u ∷ []) env go in
      leads_append (model_of look) (reading element (within name v env) one) (one w) (go (done ++ w ∷ items)) es fs (with_value look (within name v env) element es w p one)
      (subst (λ r. Leads (model_of look) (one w) fs r) (ap go (append_assoc done (w ∷ []) items)) (q.leads (done ++ w ∷ []) go));
}

-- as the argument of a call that takes the tuple
pub call_over : {look : Key → KeyResult} {env : Env} {c d : Callee} {element : Expr} {name : Label} {over : Expr} {ts : List Trailer} {vs items : List Value} {es fs gs hs : List Event} {v : Value} → called_over c (generator element name over) ≡ (λ env go. generated (generator element name over) env (λ u. called c (u ∷ []) env go))
    → Comes look env over es (Tup vs) → GenComes look env element name over vs fs items → is_allowed (Tup items) ≡ true → CallComes look env c (Tup items ∷ []) gs v → TrailComes look env (Called v) ts hs d
    → TrailComes look env c (trailer.Call (arguments.Gen element name over None) ∷ ts) ((es ++ (fs ++ gs)) ++ hs) d
call_over {look = look} {env = env} {c = c} {d = d} {element = element} {name = name} {over = over} {ts = ts} {vs = vs} {items = items} {es = es} {fs = fs} {gs = gs} {hs = hs} {v = v} is p q allowed r t = record {
  leads = λ go.
      let more : Value → Run = λ w. applied_from (map trailer_read ts) (Called w) env go in
      let call : Value → Run = λ u. called c (u ∷ []) env more in
      let make : List Value → Run = λ us. computed (made (Tup us)) env call in
      let gen : List Value → Run = λ us. generated_from (generator element name over) us [] env make in
      let one : Value → Run = λ x. items_or_fault (items_of x) env gen in
      leads_append (model_of look) _ (more v) (go d) (es ++ (fs ++ gs)) hs
      (from look _ (reading over env one) (more v) (es ++ (fs ++ gs)) (ap (λ b. applied b c env more) (trailer-over element name over) ∙ ap (λ (read : Reading). read env more) is)
      (leads_append (model_of look) (reading over env one) (one (Tup vs)) (more v) es (fs ++ gs) (with_value look env over es (Tup vs) p one)
      (from look (one (Tup vs)) (gen vs) (more v) (fs ++ gs) (ap (λ o. items_or_fault o env gen) (items_are vs))
      (leads_append (model_of look) (gen vs) (make items) (more v) fs gs (q.leads [] make)
      (from look (make items) (call (Tup items)) (more v) gs (ap (λ (b : Bool). computed (if b then Ok (Tup items) else Err TooLarge) env call) allowed) (r.leads more))))))
      (t.leads go);
}

-- `any` and `all`: no item is computed after the first that decides
pub record DecidedComes (look : Key → KeyResult) (env : Env) (decides : Bool) (element : Expr) (name : Label) (over : Expr) (vs : List Value) (es : List Event) (v : Value) : Type 0 where
  pub leads : (go : Value → Run) → Leads (model_of look) (decided_from decides (generator element name over) vs env go) es (go v)

pub none_decides : {look : Key → KeyResult} {env : Env} {decides : Bool} {element : Expr} {name : Label} {over : Expr} → DecidedComes look env decides element name over [] [] (Flag (not decides))
none_decides = record { leads = λ go. refl }

module _ (look : Key → KeyResult) (env : Env) (decides : Bool) (element : Expr) (name : Label) (over : Expr) (v w : Value) (vs : List Value) (es fs : List Event) (x : Value) (b : Bool) (p : Comes look (within name v env) element es w) (h : truth w ≡ Ok b) where
  pub item_leads : (go : Value → Run) → Leads (model_of look) (if beq b decides then go (Flag decides) else decided_from decides (generator element name over) vs env go) fs (go x)
      → Leads (model_of look) (decided_from decides (generator element name over) (v ∷ vs) env go) (es ++ fs) (go x)
  item_leads go l =
      let pick : Bool → Run = λ c. if beq c decides then go (Flag decides) else decided_from decides (generator element name over) vs env go in
      let one : Value → Run = λ u. computed (truth u) env pick in
      leads_append (model_of look) (reading element (within name v env) one) (one w) (go x) es fs (with_value look (within name v env) element es w p one)
      (from look (one w) (pick b) (go x) fs (ap (λ r. computed r env pick) h) l)

-- this item decides
pub decides_here : {look : Key → KeyResult} {env : Env} {element : Expr} {name : Label} {over : Expr} {v w : Value} {vs : List Value} {es : List Event} → Comes look (within name v env) element es w → truth w ≡ Ok true → DecidedComes look env true element name over (v ∷ vs) (es ++ []) (Flag true)
decides_here {look = look} {env = env} {element = element} {name = name} {over = over} {v = v} {w = w} {vs = vs} {es = es} p h = record { leads = λ go. item_leads look env true element name over v w vs es [] (Flag true) true p h go refl }

-- this one does not
pub decides_later : {look : Key → KeyResult} {env : Env} {element : Expr} {name : Label} {over : Expr} {v w x : Value} {vs : List Value} {es fs : List Event} → Comes look (within name v env) element es w → truth w ≡ Ok false → DecidedComes look env true element name over vs fs x → DecidedComes look env true element name over (v ∷ vs) (es ++ fs) x
decides_later {look = look} {env = env} {element = element} {name = name} {over = over} {v = v} {w = w} {x = x} {vs = vs} {es = es} {fs = fs} p h q = record { leads = λ go. item_leads look env true element name over v w vs es fs x false p h go (q.leads go) }

pub any_over : {look : Key → KeyResult} {env : Env} {c d : Callee} {element : Expr} {name : Label} {over : Expr} {ts : List Trailer} {vs : List Value} {es fs hs : List Event} {v : Value} → called_over c (generator element name over) ≡ decided true (generator element name over)
    → Comes look env over es (Tup vs) → DecidedComes look env true element name over vs fs v → TrailComes look env (Called v) ts hs d
    → TrailComes look env c (trailer.Call (arguments.Gen element name over None) ∷ ts) ((es ++ fs) ++ hs) d
any_over {look = look} {env = env} {c = c} {d = d} {element = element} {name = name} {over = over} {ts = ts} {vs = vs} {es = es} {fs = fs} {hs = hs} {v = v} is p q t = record {
  leads = λ go.
      let more : Value → Run = λ w. applied_from (map trailer_read ts) (Called w) env go in
      let gen : List Value → Run = λ us. decided_from true (generator element name over) us env more in
      let one : Value → Run = λ x. items_or_fault (items_of x) env gen in
      leads_append (model_of look) _ (more v) (go d) (es ++ fs) hs
      (from look _ (reading over env one) (more v) (es ++ fs) (ap (λ b. applied b c env more) (trailer-over element name over) ∙ ap (λ (read : Reading). read env more) is)
      (leads_append (model_of look) (reading over env one) (one (Tup vs)) (more v) es fs (with_value look env over es (Tup vs) p one)
      (from look (one (Tup vs)) (gen vs) (more v) fs (ap (λ o. items_or_fault o env gen) (items_are vs)) (q.leads more))))
      (t.leads go);
}

-- ---- nodes of several lines

-- where a formula of several lines runs, with the names that it sets later
abbrev pub lines_env : Node → Namespace → Overlay → Locals → Env
lines_env n ns given later = record { node = n; namespace = ns; line = 1; locals = set_locals given ++ later }

-- the body comes to what its statements come to
pub body_leads : (look : Key → KeyResult) (n : Node) (ns : Namespace) (given : Overlay) (stmts : List Stmt) (later : Locals) (back : Returned → Run) (fs : List Event) (rest : Run) → unset_locals stmts ≡ later
    → Leads (model_of look) (done_from (map done_by stmts) (first_line stmts) (lines_env n ns given later) (λ e. back (Plain Nothing)) back) fs rest → Leads (model_of look) (body_done stmts (first_env n ns given stmts) back) fs rest
body_leads look n ns given stmts later back fs rest e l =
    from look _ (done_from (map done_by stmts) (first_line stmts) (lines_env n ns given later) (λ x. back (Plain Nothing)) back) rest fs
    (ap (λ (ls : Locals). done_from (map done_by stmts) (first_line stmts) (lines_env n ns given ls) (λ x. back (Plain Nothing)) back) e) l

pub body_run : {look : Key → KeyResult} {ns : Namespace} {name : Label} {params : List Param} {stmts : List Stmt} {allow : Bool} {es fs : List Event} {v : Value} (vs : List Value) (later : Locals) → is_static ns.at ≡ true → Walks look ns es → look (key.Input (Cell ns.at name vs)) ≡ found.Missing
    → look (key.Cells ns.source name) ≡ found.Formula (record { params = params; body = stmts }) allow → is_wrong_count params (length vs) ≡ false → bound params vs ≡ vs → unset_locals stmts ≡ later
    → DoneComes look (lines_env (Cell ns.at name vs) ns (arguments_of params vs) later) stmts (first_line stmts) fs (Plain v) → cells_returned allow (Cell ns.at name vs) (Plain v) ≡ value_given v
    → RunsTo look (Cell ns.at name vs) (Looked (key.Input (Cell ns.at name vs)) ∷ es ++ Looked (key.Cells ns.source name) ∷ fs) (Gives (given_value v))
body_run {look = look} {ns = ns} {name = name} {params = params} {stmts = stmts} {allow = allow} {es = es} {fs = fs} {v = v} vs later s w input here count binds unset p ends =
    let n : Node = Cell ns.at name vs in
    let back : Returned → Run = cells_returned allow n in
    let env : Env = lines_env n ns (arguments_of params vs) later in
    let l : Leads (model_of look) (done_from (map done_by stmts) (first_line stmts) env (λ e. back (Plain Nothing)) back) fs (value_given v) =
    subst (λ r. Leads (model_of look) (done_from (map done_by stmts) (first_line stmts) env (λ e. back (Plain Nothing)) back) fs r) ends (p.leads (λ e. back (Plain Nothing)) back) in
    record { leads = static_lead look ns name params stmts allow vs es fs (value_given v) w here count binds (body_leads look n ns (arguments_of params vs) stmts later back fs (value_given v) unset l) s input }

pub body_fault : {look : Key → KeyResult} {ns : Namespace} {name : Label} {params : List Param} {stmts : List Stmt} {allow : Bool} {es fs : List Event} {kind : FaultKind} {at : Env} (vs : List Value) (later : Locals) → is_static ns.at ≡ true → Walks look ns es → look (key.Input (Cell ns.at name vs)) ≡ found.Missing
    → look (key.Cells ns.source name) ≡ found.Formula (record { params = params; body = stmts }) allow → is_wrong_count params (length vs) ≡ false → bound params vs ≡ vs → unset_locals stmts ≡ later
    → DoneStops look (lines_env (Cell ns.at name vs) ns (arguments_of params vs) later) stmts (first_line stmts) fs kind at → Means (model_of look) (Cell ns.at name vs) (Faults kind at.node at.line)
body_fault {look = look} {ns = ns} {name = name} {params = params} {stmts = stmts} {allow = allow} {es = es} {fs = fs} {kind = kind} {at = at} vs later s w input here count binds unset p =
    let n : Node = Cell ns.at name vs in
    let back : Returned → Run = cells_returned allow n in
    finished (model_of look) n (Looked (key.Input n) ∷ es ++ Looked (key.Cells ns.source name) ∷ fs) (Faults kind at.node at.line) tt
    (static_lead look ns name params stmts allow vs es fs (fault kind at) w here count binds (body_leads look n ns (arguments_of params vs) stmts later back fs (fault kind at) unset (p.leads (λ e. back (Plain Nothing)) back)) s input)

-- a product whose second part makes a fault
pub product_fault : {look : Key → KeyResult} {env : Env} {a : Expr} {x y : Value} {es fs : List Event} {kind : FaultKind} (op : ProductOp) (e : Expr) (rest : List ProductPart) → Comes look env a es x → Comes look env e fs y → of_two (multiplying op) x y ≡ Err kind
    → Turns look env (expr.Product a (roll-ProductPart (record { op = op; of = e }) ∷ rest)) (es ++ fs) (λ go. fault kind env)
product_fault {look = look} {env = env} {a = a} {x = x} {y = y} {es = es} {fs = fs} {kind = kind} op e rest p q h = record {
  leads = λ go.
      let on : Value → Run = λ w. joined_from (map product_read rest) w env (λ u. go (Called u)) in
      let two : Value → Run = λ w. computed (of_two (multiplying op) x w) env on in
      let one : Value → Run = λ w. joined_from (product_read (roll-ProductPart (record { op = op; of = e })) ∷ map product_read rest) w env (λ u. go (Called u)) in
      from look _ (reading a env one) (fault kind env) (es ++ fs) (part-product a (roll-ProductPart (record { op = op; of = e }) ∷ rest) env go)
      (leads_append (model_of look) (reading a env one) (one x) (fault kind env) es fs (with_value look env a es x p one)
      (from look (one x) (reading e env two) (fault kind env) fs (ap (λ (part : Op × Reading). joined_from (part ∷ map product_read rest) x env (λ u. go (Called u))) (product-part op e))
      (subst (λ r. Leads (model_of look) (reading e env two) fs r) (ap (λ r. computed r env on) h) (with_value look env e fs y q two))));
}
