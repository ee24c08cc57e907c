-- Rules for references of the model, for inputs, and for calls and sums that come to a fault.
use Rattle.std.proofs.Common.{◌≡◌, refl, None, Err, List, [], ◌∷◌, ◌++◌, ℤ, ap, ◌∙◌, subst, length, Option, Bool, true, false, if◌then◌else◌, map}
use Rattle.std.specs.List.{list_all}
use Rattle.mx_value.specs.Plain.{is_plain}
use Rattle.mx_value.specs.declared.label.Label.{Label}
use Rattle.mx_value.specs.declared.value.Value.{Value}
use Rattle.mx_value.specs.declared.value.Value.TheVariants as value
use Rattle.mx_value.specs.declared.value.CellsAt.{CellsAt, roll-CellsAt, out-roll-CellsAt}
use Rattle.mx_value.specs.declared.value.Segment.{Segment}
use Rattle.mx_value.specs.declared.value.Segment.TheOpen.{CellsAt-F}
use Rattle.mx_value.specs.declared.namespace.Namespace.{Namespace}
use Rattle.mx_value.specs.declared.fault.FaultKind.{FaultKind}
use Rattle.mx_value.specs.declared.fault.FaultKind.TheVariants.{TypeMismatch, NotCallable, WrongCountInside}
use Rattle.mx_value.specs.declared.read.Read.TheVariants as read
use Rattle.mx_value.specs.declared.node.Node.TheVariants.{Cell}
use Rattle.mx_syntax.specs.declared.expr.Expr.{Expr}
use Rattle.mx_syntax.specs.declared.expr.Expr.TheVariants as expr
use Rattle.mx_syntax.specs.declared.expr.SumPart.{SumPart, roll-SumPart}
use Rattle.mx_syntax.specs.declared.expr.SumOp.{SumOp}
use Rattle.mx_syntax.specs.declared.expr.Trailer.{Trailer}
use Rattle.mx_syntax.specs.declared.expr.Trailer.TheVariants as trailer
use Rattle.mx_syntax.specs.declared.expr.Args.TheVariants as arguments
use Rattle.mx_syntax.specs.declared.stmt.Formula.{Formula}
use Rattle.mx_syntax.specs.Binding.{bound, is_wrong_count}
use Rattle.mx_edit.specs.declared.reference.RefValue.TheVariants as reference
use Rattle.mx_edit.specs.declared.key.Key.{Key}
use Rattle.mx_edit.specs.declared.key.Key.TheVariants as key
use Rattle.mx_edit.specs.declared.key.KeyResult.{KeyResult}
use Rattle.mx_edit.specs.declared.key.KeyResult.TheVariants as found
use Rattle.mx_syntax.specs.declared.op.Op.{Op}
use Rattle.mx_ops.specs.declared.builtin.Builtin.{Builtin}
use Rattle.mx_ops.specs.Names.{op_of}
use Rattle.mx_ops.specs.Table.{gives}
use Rattle.mx_runs.specs.Runs.{Run, Looks, Asks, Gives, Event, Looked, Noted}
use Rattle.mx_runs.specs.Meaning.{Leads}
use Rattle.mx_runs.specs.Inputs.{is_static}
use Rattle.mx_runs.proofs.Levels.{leads_append}
use Rattle.mx_meaning.specs.Namespaces.{value_in}
use Rattle.mx_meaning.specs.Walks.{walked}
use Rattle.mx_meaning.specs.Environments.{Env, Reading, fault, computed, local_of}
use Rattle.mx_meaning.specs.Lookup.{Callee, Called, Function, bound_name, overlaid_or, local_or, global_found, valued}
use Rattle.mx_meaning.specs.Calls.{cells_asked, value_called, called}
use Rattle.mx_meaning.specs.Operations.{adding, of_two}
use Rattle.mx_meaning.specs.Expressions.{values_from, joined_from, applied, applied_from, part_read, reading}
use Rattle.mx_meaning.specs.Nodes.{input_or, cells_run, body}
use Rattle.mx_meaning.specs.Laws.{model_of}
use Rattle.mx_meaning.proofs.Forms.{trailer_read, sum_read}
use Rattle.mx_formula_examples.proofs.Equations.{out_int, out_cells, part-name, part-sum, sum-part, trailer-call}
use Rattle.mx_formula_examples.proofs.Rules.{from, with_value, Walks, Comes, AllCome}
use Rattle.mx_formula_examples.proofs.NodeRules.{RunsTo, given_value}
use Rattle.mx_formula_examples.proofs.FormRules.{Turns, TrailTurns}

-- ---- references of the model and inputs

pub global_reference : {look : Key → KeyResult} {env : Env} {name : Label} {v : Value} {owner : List Label} → local_of env.locals name ≡ None → value_in env.namespace.overlay name ≡ None → look (key.Name env.namespace.source name) ≡ found.Missing → look (key.Global name) ≡ found.Ref (reference.Plain v) owner
    → Comes look env (expr.Name name) (Looked (key.Name env.namespace.source name) ∷ Looked (key.Global name) ∷ Noted (read.Global name) ∷ []) v
global_reference {look = look} {env = env} {name = name} {v = v} {owner = owner} free over missing global = record {
  leads = λ go.
      let other : Run = Looks (key.Global name) (global_found name env go) in
      let seek : KeyResult → Run = bound_name env.namespace name env (λ u. go (Called u)) other in
      from look _ (Looks (key.Name env.namespace.source name) seek) (go (Called v)) (Looked (key.Name env.namespace.source name) ∷ Looked (key.Global name) ∷ Noted (read.Global name) ∷ [])
      (part-name name env go ∙ ap (λ (o : Option (Option Value)). local_or o name env go) free ∙ ap (λ (o : Option Value). overlaid_or o env.namespace name env (λ u. go (Called u)) other) over) (
        refl,
        from look _ other (go (Called v)) (Looked (key.Global name) ∷ Noted (read.Global name) ∷ []) (ap seek missing)
            (refl, from look _ (global_found name env go (found.Ref (reference.Plain v) owner)) (go (Called v)) (Noted (read.Global name) ∷ []) (ap (global_found name env go) global) (refl, refl)),
      );
}

-- the run of an input, at an address without items
pub input_run : {look : Key → KeyResult} {at : List Segment} {name : Label} {args : List Value} {v : Value} → is_static at ≡ true → look (key.Input (Cell at name args)) ≡ found.Value v → RunsTo look (Cell at name args) (Looked (key.Input (Cell at name args)) ∷ []) (Gives (given_value v))
input_run {look = look} {at = at} {name = name} {args = args} {v = v} s input =
    let run : Run = cells_run (Cell at name args) at name args in
    let looking : Run = Looks (key.Input (Cell at name args)) (input_or run) in
    record { leads = from look (body (Cell at name args)) looking _ (Looked (key.Input (Cell at name args)) ∷ []) (ap (λ (b : Bool). if b then looking else run) s) (refl, ap (input_or run) input) }

-- ---- calls that come to a fault

pub record CallFaults (look : Key → KeyResult) (env : Env) (c : Callee) (vs : List Value) (es : List Event) (kind : FaultKind) : Type 0 where
  pub leads : (go : Value → Run) → Leads (model_of look) (called c vs env go) es (fault kind env)

pub call_faults : {look : Key → KeyResult} {env : Env} {c : Callee} {args : List Expr} {ts : List Trailer} {vs : List Value} {es fs : List Event} {kind : FaultKind} → AllCome look env args es vs → CallFaults look env c vs fs kind
    → TrailTurns look env c (trailer.Call (arguments.List args) ∷ ts) (es ++ fs) (λ go. fault kind env)
call_faults {look = look} {env = env} {c = c} {args = args} {ts = ts} {vs = vs} {es = es} {fs = fs} {kind = kind} p q = record {
  leads = λ go.
      let on : Value → Run = λ v. applied_from (map trailer_read ts) (Called v) env go in
      from look _ (values_from (map valued (map part_read args)) [] env (λ xs. called c xs env on)) (fault kind env) (es ++ fs) (ap (λ b. applied b c env on) (trailer-call args))
      (leads_append (model_of look) _ (called c vs env on) (fault kind env) es fs (p.leads [] (λ xs. called c xs env on)) (q.leads on));
}

-- a function that gives a fault
pub function_faults : {look : Key → KeyResult} {env : Env} {b : Builtin} {vs : List Value} {kind : FaultKind} → gives (op_of b) vs ≡ Err kind → CallFaults look env (Function b) vs [] kind
function_faults {env = env} h = record { leads = λ go. ap (λ a. computed a env go) h }

abbrev Open : Type 0
Open = CellsAt-F Segment Value CellsAt

-- a number is not called
pub number_called : {look : Key → KeyResult} {env : Env} {n : ℤ} {vs : List Value} → CallFaults look env (Called (value.Int n)) vs [] NotCallable
number_called {env = env} {n = n} {vs = vs} = record { leads = λ go. ap (λ content. value_called content vs env go) (out_int n) }

module _ (look : Key → KeyResult) (env : Env) (ns : Namespace) (name : Label) (f : Formula) (allow : Bool) (vs : List Value) (es : List Event) (w : Walks look ns es) (e : look (key.Cells ns.source name) ≡ found.Formula f allow) where
  abbrev asks : (Value → Run) → List Value → Run
  asks go us = Asks (Cell ns.at name us) (λ r. go r.value)

  -- the call of cells comes to a fault at their parameters
  cells_fault : (kind : FaultKind) → ((go : Value → Run) → cells_asked ns name vs env go (found.Formula f allow) ≡ fault kind env) → CallFaults look env (Called (value.Cells (roll-CellsAt (record { space = ns.at; name = name })))) vs (es ++ Looked (key.Cells ns.source name) ∷ []) kind
  cells_fault kind h = record {
    leads = λ go.
        let k : Namespace → Run = λ n. Looks (key.Cells n.source name) (cells_asked n name vs env go) in
        from look _ (walked ns.at k) (fault kind env) (es ++ Looked (key.Cells ns.source name) ∷ [])
        (ap (λ content. value_called content vs env go) (out_cells (roll-CellsAt (record { space = ns.at; name = name })))
        ∙ ap (λ (o : Open). walked o.space (λ m. Looks (key.Cells m.source o.name) (cells_asked m o.name vs env go))) (out-roll-CellsAt (record { space = ns.at; name = name })))
        (leads_append (model_of look) (walked ns.at k) (k ns) (fault kind env) es (Looked (key.Cells ns.source name) ∷ []) (w.leads k) (refl, ap (cells_asked ns name vs env go) e ∙ h go));
  }

  counted : list_all is_plain vs ≡ true → is_wrong_count f.params (length vs) ≡ true → (go : Value → Run) → cells_asked ns name vs env go (found.Formula f allow) ≡ fault WrongCountInside env
  counted plain count go =
      ap (λ (b : Bool). if b then (if is_wrong_count f.params (length vs) then fault WrongCountInside env else asks go (bound f.params vs)) else fault TypeMismatch env) plain
      ∙ ap (λ (b : Bool). if b then fault WrongCountInside env else asks go (bound f.params vs)) count

  mismatched : list_all is_plain vs ≡ false → (go : Value → Run) → cells_asked ns name vs env go (found.Formula f allow) ≡ fault TypeMismatch env
  mismatched plain go = ap (λ (b : Bool). if b then (if is_wrong_count f.params (length vs) then fault WrongCountInside env else asks go (bound f.params vs)) else fault TypeMismatch env) plain

-- the parameters don't bind so many arguments
pub wrong_count : {look : Key → KeyResult} {env : Env} {ns : Namespace} {name : Label} {f : Formula} {allow : Bool} {vs : List Value} {es : List Event} → Walks look ns es → look (key.Cells ns.source name) ≡ found.Formula f allow → list_all is_plain vs ≡ true → is_wrong_count f.params (length vs) ≡ true
    → CallFaults look env (Called (value.Cells (roll-CellsAt (record { space = ns.at; name = name })))) vs (es ++ Looked (key.Cells ns.source name) ∷ []) WrongCountInside
wrong_count {look = look} {env = env} {ns = ns} {name = name} {f = f} {allow = allow} {vs = vs} {es = es} w e plain count = cells_fault look env ns name f allow vs es w e WrongCountInside (counted look env ns name f allow vs es w e plain count)

-- an argument is not plain
pub not_plain : {look : Key → KeyResult} {env : Env} {ns : Namespace} {name : Label} {f : Formula} {allow : Bool} {vs : List Value} {es : List Event} → Walks look ns es → look (key.Cells ns.source name) ≡ found.Formula f allow → list_all is_plain vs ≡ false
    → CallFaults look env (Called (value.Cells (roll-CellsAt (record { space = ns.at; name = name })))) vs (es ++ Looked (key.Cells ns.source name) ∷ []) TypeMismatch
not_plain {look = look} {env = env} {ns = ns} {name = name} {f = f} {allow = allow} {vs = vs} {es = es} w e plain = cells_fault look env ns name f allow vs es w e TypeMismatch (mismatched look env ns name f allow vs es w e plain)

-- ---- a sum whose second part makes a fault

pub sum_fault : {look : Key → KeyResult} {env : Env} {a : Expr} {x y : Value} {es fs : List Event} {kind : FaultKind} (op : SumOp) (e : Expr) (rest : List SumPart) → Comes look env a es x → Comes look env e fs y → of_two (adding op) x y ≡ Err kind
    → Turns look env (expr.Sum a (roll-SumPart (record { op = op; of = e }) ∷ rest)) (es ++ fs) (λ go. fault kind env)
sum_fault {look = look} {env = env} {a = a} {x = x} {y = y} {es = es} {fs = fs} {kind = kind} op e rest p q h = record {
  leads = λ go.
      let on : Value → Run = λ w. joined_from (map sum_read rest) w env (λ u. go (Called u)) in
      let two : Value → Run = λ w. computed (of_two (adding op) x w) env on in
      let one : Value → Run = λ w. joined_from (sum_read (roll-SumPart (record { op = op; of = e })) ∷ map sum_read rest) w env (λ u. go (Called u)) in
      from look _ (reading a env one) (fault kind env) (es ++ fs) (part-sum a (roll-SumPart (record { op = op; of = e }) ∷ rest) env go)
      (leads_append (model_of look) (reading a env one) (one x) (fault kind env) es fs (with_value look env a es x p one)
      (from look (one x) (reading e env two) (fault kind env) fs (ap (λ (part : Op × Reading). joined_from (part ∷ map sum_read rest) x env (λ u. go (Called u))) (sum-part op e))
      (subst (λ r. Leads (model_of look) (reading e env two) fs r) (ap (λ r. computed r env on) h) (with_value look env e fs y q two))));
}
