-- Rules for further forms: conditionals, comparisons, targets that are cells, functions that can always be called, generators,
-- faults, and asks.
use Rattle.std.proofs.Common.{◌≡◌, refl, None, Some, Ok, List, [], ◌∷◌, ◌++◌, ap, ◌∙◌, length, Option, Bool, true, false, if◌then◌else◌, map, rules}
use Rattle.std.specs.List.{list_all}
use Rattle.mx_value.specs.Plain.{is_plain}
use Rattle.mx_value.specs.declared.label.Label.{Label}
use Rattle.mx_value.specs.declared.value.Value.{Value, out-Value, the_lemmas as values}
use Rattle.mx_value.specs.declared.value.Value.TheVariants as value
use Rattle.mx_value.specs.declared.value.Segment.TheOpen.{Value-F}
use Rattle.mx_value.specs.declared.namespace.Namespace.{Namespace}
use Rattle.mx_value.specs.declared.fault.FaultKind.{FaultKind}
use Rattle.mx_value.specs.declared.fault.FaultKind.TheVariants.{NoName, TooLarge}
use Rattle.mx_value.specs.declared.read.Read.TheVariants as read
use Rattle.mx_value.specs.declared.node.Node.{Node}
use Rattle.mx_value.specs.declared.node.Node.TheVariants.{Cell, Item}
use Rattle.mx_syntax.specs.declared.expr.Expr.{Expr}
use Rattle.mx_syntax.specs.declared.expr.Expr.TheVariants as expr
use Rattle.mx_syntax.specs.declared.expr.Arm.{Arm, roll-Arm}
use Rattle.mx_syntax.specs.declared.expr.CmpOp.{CmpOp}
use Rattle.mx_syntax.specs.declared.expr.Comparison.{Comparison}
use Rattle.mx_syntax.specs.declared.expr.Comparison.TheVariants as comparison
use Rattle.mx_syntax.specs.declared.expr.SumPart.{SumPart}
use Rattle.mx_syntax.specs.declared.expr.Trailer.{Trailer}
use Rattle.mx_syntax.specs.declared.expr.Trailer.TheVariants as trailer
use Rattle.mx_syntax.specs.declared.expr.Args.TheVariants as arguments
use Rattle.mx_syntax.specs.declared.stmt.Param.{Param}
use Rattle.mx_syntax.specs.declared.stmt.ItemEntry.{ItemEntry}
use Rattle.mx_syntax.specs.declared.stmt.ItemEntry.TheVariants as entry
use Rattle.mx_syntax.specs.declared.stmt.Params.{Params}
use Rattle.mx_syntax.specs.declared.stmt.Formula.{Formula}
use Rattle.mx_syntax.specs.Binding.{bound, is_wrong_count}
use Rattle.mx_edit.specs.declared.reference.RefValue.TheVariants as reference
use Rattle.mx_edit.specs.declared.key.Key.{Key}
use Rattle.mx_edit.specs.declared.key.Key.TheVariants as key
use Rattle.mx_edit.specs.declared.key.KeyResult.{KeyResult}
use Rattle.mx_edit.specs.declared.key.KeyResult.TheVariants as found
use Rattle.mx_edit.specs.declared.reply.Reply.{Reply}
use Rattle.mx_ops.specs.declared.builtin.Builtin.{Builtin}
use Rattle.mx_ops.specs.Names.{builtin_of, op_of}
use Rattle.mx_ops.specs.Truth.{truth, truth_in}
use Rattle.mx_ops.specs.Table.{gives}
use Rattle.mx_runs.specs.Runs.{Run, Faults, Looks, Asks, Event, Looked, Noted}
use Rattle.mx_runs.specs.Meaning.{Means, Leads}
use Rattle.mx_runs.specs.Inputs.{is_static}
use Rattle.mx_runs.specs.Chains.{DoesAsk}
use Rattle.mx_runs.proofs.Meanings.{finished}
use Rattle.mx_runs.proofs.Levels.{leads_append}
use Rattle.mx_meaning.specs.Namespaces.{Overlay, value_in, ends_with_name, is_short, is_allowed, item_at}
use Rattle.mx_meaning.specs.Walks.{walked}
use Rattle.mx_meaning.specs.Environments.{Env, Reading, fault, computed, tested, local_of}
use Rattle.mx_meaning.specs.References.{Target, cells_value, target_of, relative, target_found, target_read, member_found, member_read, member_of, parent_of}
use Rattle.mx_meaning.specs.Lookup.{Callee, Called, Function, bound_name, overlaid_or, local_or, global_found, builtin_or_none, as_value, valued}
use Rattle.mx_meaning.specs.Calls.{cells_asked, space_asked, space_sought, called, content_indexed, indexed}
use Rattle.mx_meaning.specs.Operations.{comparing, of_two}
use Rattle.mx_meaning.specs.Expressions.{Comparing, values_from, values_beside, joined_from, chosen_from, compared_from, applied_from, applied, part_read, reading}
use Rattle.mx_meaning.specs.Statements.{Returned, Plain, named_reading, displayed_from}
use Rattle.mx_meaning.specs.Nodes.{arguments_of, cells_returned, item_returned}
use Rattle.mx_meaning.specs.Laws.{model_of}
use Rattle.mx_meaning.proofs.Forms.{trailer_read, sum_read, arm_read, comparison_read}
use Rattle.mx_formula_examples.proofs.Equations.{out_space, part-name, part-cond, arm-part, part-compare, comparison-op, part-post, part-sum, trailer-call, trailer-index}
use Rattle.mx_formula_examples.proofs.Rules.{from, Walks, Stands, Comes, AllCome, NameComes, CallComes, as_walk, asking, seeking, asking_item}
use Rattle.mx_formula_examples.proofs.NodeRules.{line_env, one_line, static_lead, line_leads, display_line, display_done, item_leads}

truth_flag : (b : Bool) → truth (value.Flag b) ≡ Ok b
truth_flag b = ap truth_in (out_flag b)
  where
    out_flag : (b : Bool) → out-Value (value.Flag b) ≡ Value-F.Flag b
    out_flag b = search (values, rules)

with_value : (look : Key → KeyResult) (env : Env) (e : Expr) (es : List Event) (v : Value) → Comes look env e es v → (go : Value → Run) → Leads (model_of look) (reading e env go) es (go v)
with_value look env e es v p go = p.leads (λ c. as_value c env go)

-- ---- conditionals

-- v if t
abbrev pub arm : Expr → Expr → Arm
arm v t = roll-Arm (record { value = v; test = t })

pub record ArmsCome (look : Key → KeyResult) (env : Env) (arms : List Arm) (last : Expr) (es : List Event) (x : Value) : Type 0 where
  pub leads : (go : Value → Run) → Leads (model_of look) (chosen_from (map arm_read arms) (reading last) env go) es (go x)

pub otherwise : {look : Key → KeyResult} {env : Env} {last : Expr} {es : List Event} {x : Value} → Comes look env last es x → ArmsCome look env [] last es x
otherwise {look = look} {env = env} {last = last} {es = es} {x = x} p = record { leads = λ go. with_value look env last es x p go }

pub arm_taken : {look : Key → KeyResult} {env : Env} {arms : List Arm} {last : Expr} {es fs : List Event} {w x : Value} (v t : Expr) → Comes look env t es w → truth w ≡ Ok true → Comes look env v fs x → ArmsCome look env (arm v t ∷ arms) last (es ++ fs) x
arm_taken {look = look} {env = env} {arms = arms} {last = last} {es = es} {fs = fs} {w = w} {x = x} v t p e q = record {
  leads = λ go.
      let others : Run = chosen_from (map arm_read arms) (reading last) env go in
      let one : Value → Run = λ u. tested (truth u) (reading v env go) others env in
      from look _ (reading t env one) (go x) (es ++ fs) (ap (λ (a : Reading × Reading). chosen_from (a ∷ map arm_read arms) (reading last) env go) (arm-part v t))
      (leads_append (model_of look) (reading t env one) (one w) (go x) es fs (with_value look env t es w p one)
      (from look (one w) (reading v env go) (go x) fs (ap (λ r. tested r (reading v env go) others env) e) (with_value look env v fs x q go)));
}

pub arm_passed : {look : Key → KeyResult} {env : Env} {arms : List Arm} {last : Expr} {es fs : List Event} {w x : Value} (v t : Expr) → Comes look env t es w → truth w ≡ Ok false → ArmsCome look env arms last fs x → ArmsCome look env (arm v t ∷ arms) last (es ++ fs) x
arm_passed {look = look} {env = env} {arms = arms} {last = last} {es = es} {fs = fs} {w = w} {x = x} v t p e q = record {
  leads = λ go.
      let others : Run = chosen_from (map arm_read arms) (reading last) env go in
      let one : Value → Run = λ u. tested (truth u) (reading v env go) others env in
      from look _ (reading t env one) (go x) (es ++ fs) (ap (λ (a : Reading × Reading). chosen_from (a ∷ map arm_read arms) (reading last) env go) (arm-part v t))
      (leads_append (model_of look) (reading t env one) (one w) (go x) es fs (with_value look env t es w p one)
      (from look (one w) others (go x) fs (ap (λ r. tested r (reading v env go) others env) e) (q.leads go)));
}

pub choice : {look : Key → KeyResult} {env : Env} {arms : List Arm} {last : Expr} {es : List Event} {x : Value} → ArmsCome look env arms last es x → Comes look env (expr.Cond arms last) es x
choice {look = look} {env = env} {arms = arms} {last = last} {es = es} {x = x} p = record {
  leads = λ go. from look _ (chosen_from (map arm_read arms) (reading last) env (λ v. go (Called v))) (go (Called x)) es (part-cond arms last env go) (p.leads (λ v. go (Called v)));
}

-- ---- comparisons

pub record ChainComes (look : Key → KeyResult) (env : Env) (x : Value) (rest : List Comparison) (es : List Event) (v : Value) : Type 0 where
  pub leads : (go : Value → Run) → Leads (model_of look) (compared_from (map comparison_read rest) x env go) es (go v)

pub chain_end : {look : Key → KeyResult} {env : Env} {x : Value} → ChainComes look env x [] [] (value.Flag true)
chain_end = record { leads = λ go. refl }

module _ (look : Key → KeyResult) (env : Env) (x y v : Value) (rest : List Comparison) (es fs : List Event) (op : CmpOp) (e : Expr) (holds : Bool) (p : Comes look env e es y) (h : of_two (comparing op) x y ≡ Ok (value.Flag holds)) where
  chain_leads : (go : Value → Run) → Leads (model_of look) (if holds then compared_from (map comparison_read rest) y env go else go (value.Flag false)) fs (go v) → Leads (model_of look) (compared_from (map comparison_read (comparison.Op op e ∷ rest)) x env go) (es ++ fs) (go v)
  chain_leads go l =
      let on : Value → Run = λ w. compared_from (map comparison_read rest) w env go in
      let one : Value → Run = λ w. computed (of_two (comparing op) x w) env (λ z. tested (truth z) (on w) (go (value.Flag false)) env) in
      from look _ (reading e env one) (go v) (es ++ fs) (ap (λ (c : Comparing). compared_from (c ∷ map comparison_read rest) x env go) (comparison-op op e))
      (leads_append (model_of look) (reading e env one) (one y) (go v) es fs (with_value look env e es y p one)
      (from look (one y) (if holds then on y else go (value.Flag false)) (go v) fs
      (ap (λ r. computed r env (λ z. tested (truth z) (on y) (go (value.Flag false)) env)) h ∙ ap (λ r. tested r (on y) (go (value.Flag false)) env) (truth_flag holds)) l))

pub chain_more : {look : Key → KeyResult} {env : Env} {x y v : Value} {rest : List Comparison} {es fs : List Event} {op : CmpOp} {e : Expr} → Comes look env e es y → of_two (comparing op) x y ≡ Ok (value.Flag true) → ChainComes look env y rest fs v → ChainComes look env x (comparison.Op op e ∷ rest) (es ++ fs) v
chain_more {look = look} {env = env} {x = x} {y = y} {v = v} {rest = rest} {es = es} {fs = fs} {op = op} {e = e} p h q = record { leads = λ go. chain_leads look env x y v rest es fs op e true p h go (q.leads go) }

pub chain_false : {look : Key → KeyResult} {env : Env} {x y : Value} {rest : List Comparison} {es : List Event} {op : CmpOp} {e : Expr} → Comes look env e es y → of_two (comparing op) x y ≡ Ok (value.Flag false) → ChainComes look env x (comparison.Op op e ∷ rest) (es ++ []) (value.Flag false)
chain_false {look = look} {env = env} {x = x} {y = y} {rest = rest} {es = es} {op = op} {e = e} p h = record { leads = λ go. chain_leads look env x y (value.Flag false) rest es [] op e false p h go refl }

pub compare : {look : Key → KeyResult} {env : Env} {a : Expr} {rest : List Comparison} {es fs : List Event} {x v : Value} → Comes look env a es x → ChainComes look env x rest fs v → Comes look env (expr.Compare a rest) (es ++ fs) v
compare {look = look} {env = env} {a = a} {rest = rest} {es = es} {fs = fs} {x = x} {v = v} p q = record {
  leads = λ go.
      let one : Value → Run = λ w. compared_from (map comparison_read rest) w env (λ u. go (Called u)) in
      from look _ (reading a env one) (go (Called v)) (es ++ fs) (part-compare a rest env go)
      (leads_append (model_of look) (reading a env one) (one x) (go (Called v)) es fs (with_value look env a es x p one) (q.leads (λ u. go (Called u))));
}

-- ---- targets that are cells

pub cells_target : {look : Key → KeyResult} {ns : Namespace} {name : Label} {env : Env} {path : List Label} {fixed : Bool} {owner : List Label} (target : Target) (last : Label) → target_of ns path (relative owner fixed path) ≡ target
    → look (key.Exists target.path) ≡ found.Missing → member_of target.path ≡ Some last → look (key.Name (parent_of target.path) last) ≡ found.CellsHere → is_short (parent_of target.at) ≡ true
    → NameComes look ns name env (found.Ref (reference.Target path fixed) owner) (Noted (read.Ref ns.at name) ∷ Looked (key.Exists target.path) ∷ Looked (key.Name (parent_of target.path) last) ∷ []) (cells_value (parent_of target.at) last)
cells_target {look = look} {ns = ns} {name = name} {env = env} {path = path} {fixed = fixed} {owner = owner} target last is e m h short = record {
  leads = λ go other.
      let v : Value = cells_value (parent_of target.at) last in
      let more : List Event = Looked (key.Name (parent_of target.path) last) ∷ [] in (
        refl,
        from look _ (target_read target env go) (go v) (Looked (key.Exists target.path) ∷ more) (ap (λ t. target_read t env go) is) (
          refl,
          from look _ (member_read target (Some last) env go) (go v) more (ap (target_found target env go) e ∙ ap (λ o. member_read target o env go) m)
              (refl, ap (member_found target last env go) h ∙ ap (λ (b : Bool). if b then go v else fault TooLarge env) short),
        ),
      );
}

-- ---- names that are found nowhere

pub function_named : {look : Key → KeyResult} {env : Env} {name : Label} {b : Builtin} → local_of env.locals name ≡ None → value_in env.namespace.overlay name ≡ None → look (key.Name env.namespace.source name) ≡ found.Missing → look (key.Global name) ≡ found.Missing → builtin_of name ≡ Some b
    → Stands look env (expr.Name name) (Looked (key.Name env.namespace.source name) ∷ Looked (key.Global name) ∷ []) (Function b)
function_named {look = look} {env = env} {name = name} {b = b} free over missing global is = record {
  leads = λ go.
      let other : Run = Looks (key.Global name) (global_found name env go) in
      let seek : KeyResult → Run = bound_name env.namespace name env (λ v. go (Called v)) other in
      from look _ (Looks (key.Name env.namespace.source name) seek) (go (Function b)) (Looked (key.Name env.namespace.source name) ∷ Looked (key.Global name) ∷ [])
      (part-name name env go ∙ ap (λ (o : Option (Option Value)). local_or o name env go) free ∙ ap (λ (o : Option Value). overlaid_or o env.namespace name env (λ v. go (Called v)) other) over) (
        refl,
        from look _ other (go (Function b)) (Looked (key.Global name) ∷ []) (ap seek missing)
            (refl, ap (global_found name env go) global ∙ ap (λ o. builtin_or_none o env go) is),
      );
}

pub call_of_function : {look : Key → KeyResult} {env : Env} {b : Builtin} {vs : List Value} {v : Value} → gives (op_of b) vs ≡ Ok v → CallComes look env (Function b) vs [] v
call_of_function {env = env} h = record { leads = λ go. ap (λ a. computed a env go) h }

-- ---- parts that come to something else than a value: a fault, or an ask

-- the part comes by these events to this rest of the run
pub record Turns (look : Key → KeyResult) (env : Env) (e : Expr) (es : List Event) (rest : (Callee → Run) → Run) : Type 0 where
  pub leads : (go : Callee → Run) → Leads (model_of look) (part_read e env go) es (rest go)

pub record TrailTurns (look : Key → KeyResult) (env : Env) (c : Callee) (ts : List Trailer) (es : List Event) (rest : (Callee → Run) → Run) : Type 0 where
  pub leads : (go : Callee → Run) → Leads (model_of look) (applied_from (map trailer_read ts) c env go) es (rest go)

pub name_missing : {look : Key → KeyResult} {env : Env} {name : Label} → local_of env.locals name ≡ None → value_in env.namespace.overlay name ≡ None → look (key.Name env.namespace.source name) ≡ found.Missing → look (key.Global name) ≡ found.Missing → builtin_of name ≡ None
    → Turns look env (expr.Name name) (Looked (key.Name env.namespace.source name) ∷ Looked (key.Global name) ∷ []) (λ go. fault NoName env)
name_missing {look = look} {env = env} {name = name} free over missing global is = record {
  leads = λ go.
      let other : Run = Looks (key.Global name) (global_found name env go) in
      let seek : KeyResult → Run = bound_name env.namespace name env (λ v. go (Called v)) other in
      from look _ (Looks (key.Name env.namespace.source name) seek) (fault NoName env) (Looked (key.Name env.namespace.source name) ∷ Looked (key.Global name) ∷ [])
      (part-name name env go ∙ ap (λ (o : Option (Option Value)). local_or o name env go) free ∙ ap (λ (o : Option Value). overlaid_or o env.namespace name env (λ v. go (Called v)) other) over) (
        refl,
        from look _ other (fault NoName env) (Looked (key.Global name) ∷ []) (ap seek missing)
            (refl, ap (global_found name env go) global ∙ ap (λ o. builtin_or_none o env go) is),
      );
}

-- the first part of a chain of calls turns, or what stands behind it
pub post_first : {look : Key → KeyResult} {env : Env} {first : Expr} {es : List Event} {rest : (Callee → Run) → Run} (ts : List Trailer) → Turns look env first es rest → Turns look env (expr.Post first ts) es (λ go. rest (λ c. applied_from (map trailer_read ts) c env go))
post_first {look = look} {env = env} {first = first} {es = es} {rest = rest} ts p = record {
  leads = λ go. from look _ (part_read first env (λ c. applied_from (map trailer_read ts) c env go)) _ es (part-post first ts env go) (p.leads (λ c. applied_from (map trailer_read ts) c env go));
}

pub post_turns : {look : Key → KeyResult} {env : Env} {first : Expr} {ts : List Trailer} {c : Callee} {es fs : List Event} {rest : (Callee → Run) → Run} → Stands look env first es c → TrailTurns look env c ts fs rest → Turns look env (expr.Post first ts) (es ++ fs) rest
post_turns {look = look} {env = env} {first = first} {ts = ts} {c = c} {es = es} {fs = fs} {rest = rest} p q = record {
  leads = λ go.
      let one : Callee → Run = λ x. applied_from (map trailer_read ts) x env go in
      from look _ (part_read first env one) (rest go) (es ++ fs) (part-post first ts env go)
      (leads_append (model_of look) (part_read first env one) (one c) (rest go) es fs (p.leads one) (q.leads go));
}

-- the first part of a sum or a product turns
pub sum_first : {look : Key → KeyResult} {env : Env} {a : Expr} {es : List Event} {turn : (Callee → Run) → Run} (rest : List SumPart) → Turns look env a es turn → Turns look env (expr.Sum a rest) es (λ go. turn (λ c. as_value c env (λ v. joined_from (map sum_read rest) v env (λ w. go (Called w)))))
sum_first {look = look} {env = env} {a = a} {es = es} {turn = turn} rest p = record {
  leads = λ go. from look _ (reading a env (λ v. joined_from (map sum_read rest) v env (λ w. go (Called w)))) _ es (part-sum a rest env go) (p.leads (λ c. as_value c env (λ v. joined_from (map sum_read rest) v env (λ w. go (Called w)))));
}

-- a call of cells comes to ask their node
pub call_asks : {look : Key → KeyResult} {env : Env} {ns : Namespace} {name : Label} {f : Formula} {allow : Bool} {args : List Expr} {ts : List Trailer} {vs us : List Value} {es fs : List Event} → AllCome look env args es vs → Walks look ns fs → look (key.Cells ns.source name) ≡ found.Formula f allow
    → list_all is_plain vs ≡ true → is_wrong_count f.params (length vs) ≡ false → bound f.params vs ≡ us
    → TrailTurns look env (Called (cells_value ns.at name)) (trailer.Call (arguments.List args) ∷ ts) (es ++ (fs ++ Looked (key.Cells ns.source name) ∷ [])) (λ go. Asks (Cell ns.at name us) (λ r. applied_from (map trailer_read ts) (Called r.value) env go))
call_asks {look = look} {env = env} {ns = ns} {name = name} {f = f} {allow = allow} {args = args} {ts = ts} {vs = vs} {us = us} {es = es} {fs = fs} p w e plain count binds = record {
  leads = λ go.
      let on : Value → Run = λ v. applied_from (map trailer_read ts) (Called v) env go in
      let c : Callee = Called (cells_value ns.at name) in
      let k : Namespace → Run = λ n. Looks (key.Cells n.source name) (cells_asked n name vs env on) in
      let rest : Run = Asks (Cell ns.at name us) (λ r. on r.value) in
      from look _ (values_from (map valued (map part_read args)) [] env (λ xs. called c xs env on)) rest (es ++ (fs ++ Looked (key.Cells ns.source name) ∷ [])) (ap (λ b. applied b c env on) (trailer-call args))
      (leads_append (model_of look) _ (called c vs env on) rest es (fs ++ Looked (key.Cells ns.source name) ∷ []) (p.leads [] (λ xs. called c xs env on))
      (from look _ (walked ns.at k) rest (fs ++ Looked (key.Cells ns.source name) ∷ []) (as_walk look env ns name f allow vs us e plain count binds on)
      (leads_append (model_of look) (walked ns.at k) (k ns) rest fs (Looked (key.Cells ns.source name) ∷ []) (w.leads k) (refl, asking look env ns name f allow vs us e plain count binds on))));
}

-- a subscript of a space comes to ask its item
pub index_asks : {look : Key → KeyResult} {env : Env} {ns : Namespace} {ps : Params} {args : List Expr} {ts : List Trailer} {vs us : List Value} {es fs : List Event} → AllCome look env args es vs → Walks look ns fs → ends_with_name ns.at ≡ true → look (key.Params ns.source) ≡ found.Params ps
    → list_all is_plain vs ≡ true → is_wrong_count ps.params (length vs) ≡ false → bound ps.params vs ≡ us → is_allowed (item_at ns us) ≡ true
    → TrailTurns look env (Called (value.Space ns.at)) (trailer.Index args ∷ ts) (es ++ (fs ++ Looked (key.Params ns.source) ∷ [])) (λ go. Asks (Item ns.at us) (λ r. applied_from (map trailer_read ts) (Called r.value) env go))
index_asks {look = look} {env = env} {ns = ns} {ps = ps} {args = args} {ts = ts} {vs = vs} {us = us} {es = es} {fs = fs} p w n e plain count binds allowed = record {
  leads = λ go.
      let on : Value → Run = λ v. applied_from (map trailer_read ts) (Called v) env go in
      let x : Value = value.Space ns.at in
      let rest : Run = Asks (Item ns.at us) (λ r. on r.value) in
      from look _ (values_from (map valued (map part_read args)) [] env (λ xs. indexed x xs env on)) rest (es ++ (fs ++ Looked (key.Params ns.source) ∷ [])) (ap (λ b. applied b (Called x) env on) (trailer-index args))
      (leads_append (model_of look) _ (indexed x vs env on) rest es (fs ++ Looked (key.Params ns.source) ∷ []) (p.leads [] (λ xs. indexed x xs env on))
      (from look _ (walked ns.at (space_sought vs env on)) rest (fs ++ Looked (key.Params ns.source) ∷ []) (ap (λ content. content_indexed content x vs env on) (out_space ns.at))
      (leads_append (model_of look) (walked ns.at (space_sought vs env on)) (space_sought vs env on ns) rest fs (Looked (key.Params ns.source) ∷ []) (w.leads (space_sought vs env on))
      (from look _ (Looks (key.Params ns.source) (space_asked ns vs env on)) rest (Looked (key.Params ns.source) ∷ []) (seeking look env ns ps vs us n e plain count binds allowed on)
      (refl, asking_item look env ns ps vs us n e plain count binds allowed on)))));
}

-- ---- nodes whose formula turns

-- cells of one line that come to ask, at an address without items
pub static_asks : {look : Key → KeyResult} {ns : Namespace} {name : Label} {params : List Param} {e : Expr} {allow : Bool} {es fs : List Event} {m : Node} {k : (Callee → Run) → Reply → Run} (vs : List Value) → is_static ns.at ≡ true → Walks look ns es → look (key.Input (Cell ns.at name vs)) ≡ found.Missing
    → look (key.Cells ns.source name) ≡ found.Formula (record { params = params; body = one_line e }) allow → is_wrong_count params (length vs) ≡ false → bound params vs ≡ vs
    → Turns look (line_env (Cell ns.at name vs) ns (arguments_of params vs)) e fs (λ go. Asks m (k go)) → DoesAsk (model_of look) (Cell ns.at name vs) m
static_asks {look = look} {ns = ns} {name = name} {params = params} {e = e} {allow = allow} {es = es} {fs = fs} {m = m} {k = k} vs s w input here count binds p =
    let n : Node = Cell ns.at name vs in
    let env : Env = line_env n ns (arguments_of params vs) in
    let last : Callee → Run = λ c. as_value c env (λ x. cells_returned allow n (Plain x)) in
    record {
      events = Looked (key.Input n) ∷ es ++ Looked (key.Cells ns.source name) ∷ fs;
      go = k last;
      leads = static_lead look ns name params (one_line e) allow vs es fs (Asks m (k last)) w here count binds (line_leads look n ns (arguments_of params vs) e (cells_returned allow n) fs (Asks m (k last)) (p.leads last)) s input;
    }

-- cells of one line that come to a fault
pub static_fault : {look : Key → KeyResult} {ns : Namespace} {name : Label} {params : List Param} {e : Expr} {allow : Bool} {es fs : List Event} {kind : FaultKind} (vs : List Value) → is_static ns.at ≡ true → Walks look ns es → look (key.Input (Cell ns.at name vs)) ≡ found.Missing
    → look (key.Cells ns.source name) ≡ found.Formula (record { params = params; body = one_line e }) allow → is_wrong_count params (length vs) ≡ false → bound params vs ≡ vs
    → Turns look (line_env (Cell ns.at name vs) ns (arguments_of params vs)) e fs (λ go. fault kind (line_env (Cell ns.at name vs) ns (arguments_of params vs))) → Means (model_of look) (Cell ns.at name vs) (Faults kind (Cell ns.at name vs) 1)
static_fault {look = look} {ns = ns} {name = name} {params = params} {e = e} {allow = allow} {es = es} {fs = fs} {kind = kind} vs s w input here count binds p =
    let n : Node = Cell ns.at name vs in
    let env : Env = line_env n ns (arguments_of params vs) in
    let last : Callee → Run = λ c. as_value c env (λ x. cells_returned allow n (Plain x)) in
    finished (model_of look) n (Looked (key.Input n) ∷ es ++ Looked (key.Cells ns.source name) ∷ fs) (Faults kind n 1) tt
    (static_lead look ns name params (one_line e) allow vs es fs (fault kind env) w here count binds (line_leads look n ns (arguments_of params vs) e (cells_returned allow n) fs (fault kind env) (p.leads last)) s input)

-- an item whose display comes to ask in its first reference
pub item_asks : {look : Key → KeyResult} {ns : Namespace} {params : List Param} {name : Label} {e : Expr} {es fs : List Event} {m : Node} {k : (Callee → Run) → Reply → Run} (more : List (Label × Expr)) (entries : List ItemEntry) (args : List Value) → Walks look ns es → ends_with_name ns.at ≡ true
    → look (key.Params ns.source) ≡ found.Params (record { params = params; body = Some (display_line (entry.Refs ((name, e) ∷ more) ∷ entries)) }) → is_wrong_count params (length args) ≡ false → bound params args ≡ args → is_allowed (item_at ns args) ≡ true
    → Turns look (line_env (Item ns.at args) ns (arguments_of params args)) e fs (λ go. Asks m (k go)) → DoesAsk (model_of look) (Item ns.at args) m
item_asks {look = look} {ns = ns} {params = params} {name = name} {e = e} {es = es} {fs = fs} {m = m} {k = k} more entries args w n here count binds allowed p =
    let node : Node = Item ns.at args in
    let given : Overlay = arguments_of params args in
    let env : Env = line_env node ns given in
    let all : List ItemEntry = entry.Refs ((name, e) ∷ more) ∷ entries in
    let back : Returned → Run = item_returned node ns args given in
    let last : Callee → Run = λ c. as_value c env (λ v. values_beside (map named_reading more) ([] ++ (name, v) ∷ []) env (λ refs. displayed_from entries refs None env back)) in
    record {
      events = es ++ Looked (key.Params ns.source) ∷ fs;
      go = k last;
      leads = item_leads look ns (record { params = params; body = Some (display_line all) }) args n here count binds allowed es fs (Asks m (k last)) w
          (from look _ (displayed_from all [] None env back) (Asks m (k last)) fs (display_done node ns given all back) (p.leads last));
    }
