-- Rules for generators with a test, and for `all`.
use Rattle.std.proofs.Common.{◌≡◌, refl, None, Some, Ok, Err, List, [], ◌∷◌, ◌++◌, ap, sym, ◌∙◌, subst, Bool, true, false, if◌then◌else◌, map, rules}
use Rattle.std.proofs.lemmas.List.{append-nil, append_assoc}
use Rattle.mx_value.specs.declared.label.Label.{Label}
use Rattle.mx_value.specs.declared.value.Value.{Value}
use Rattle.mx_value.specs.declared.value.Value.TheVariants.{Flag, Tup}
use Rattle.mx_value.specs.declared.fault.FaultKind.TheVariants.{TooLarge}
use Rattle.mx_syntax.specs.declared.expr.Expr.{Expr, the_lemmas}
use Rattle.mx_syntax.specs.declared.expr.Trailer.{Trailer}
use Rattle.mx_syntax.specs.declared.expr.Trailer.TheVariants as trailer
use Rattle.mx_syntax.specs.declared.expr.Args.TheVariants as arguments
use Rattle.mx_edit.specs.declared.key.Key.{Key}
use Rattle.mx_edit.specs.declared.key.KeyResult.{KeyResult}
use Rattle.mx_ops.specs.Kinds.{items_in, items_of}
use Rattle.mx_ops.specs.Truth.{truth}
use Rattle.mx_ops.specs.Answers.{is_allowed, made}
use Rattle.mx_runs.specs.Runs.{Run, Event}
use Rattle.mx_runs.specs.Meaning.{Leads}
use Rattle.mx_runs.proofs.Levels.{leads_append}
use Rattle.mx_meaning.specs.Environments.{Env, Reading, computed, tested, within}
use Rattle.mx_meaning.specs.Lookup.{Callee, Called}
use Rattle.mx_meaning.specs.Calls.{called}
use Rattle.mx_meaning.specs.Expressions.{Generator, Over, items_or_fault, generated_from, generated, decided_from, decided, called_over, applied, applied_from, reading}
use Rattle.mx_meaning.specs.Laws.{model_of}
use Rattle.mx_meaning.proofs.Forms.{trailer_read}
use Rattle.mx_formula_examples.proofs.Equations.{out_tuple, trailer-over}
use Rattle.mx_formula_examples.proofs.Rules.{from, with_value, Comes, CallComes, TrailComes}
use Rattle.mx_formula_examples.proofs.LoopRules.{generator, DecidedComes, item_leads}

items_are : (vs : List Value) → items_of (Tup vs) ≡ Some vs
items_are vs = ap items_in (out_tuple vs)

-- ---- generators with a test

-- an expression for a name, over what is gone over, and its test
pub record Parts : Type 0 where
  pub element : Expr
  pub name : Label
  pub over : Expr
  pub test : Expr

abbrev pub tested_generator : Parts → Generator
tested_generator g = record { element = reading g.element; name = g.name; over = reading g.over; test = Some (reading g.test) }

trailer-tested : (element : Expr) (name : Label) (over test : Expr) → trailer_read (trailer.Call (arguments.Gen element name over (Some test))) ≡ Over (tested_generator (record { element = element; name = name; over = over; test = test }))
trailer-tested element name over test = search (the_lemmas, rules)

pub record TestedComes (look : Key → KeyResult) (env : Env) (g : Parts) (vs : List Value) (es : List Event) (items : List Value) : Type 0 where
  pub leads : (done : List Value) (go : List Value → Run) → Leads (model_of look) (generated_from (tested_generator g) vs done env go) es (go (done ++ items))

pub tested_end : {look : Key → KeyResult} {env : Env} {g : Parts} → TestedComes look env g [] [] []
tested_end = record { leads = λ done go. ap go (sym (append-nil done)) }

-- the test holds for this item
pub tested_in : {look : Key → KeyResult} {env : Env} {g : Parts} {v t w : Value} {vs items : List Value} {es fs gs : List Event} → Comes look (within g.name v env) g.test es t → truth t ≡ Ok true → Comes look (within g.name v env) g.element fs w → TestedComes look env g vs gs items
    → TestedComes look env g (v ∷ vs) (es ++ (fs ++ gs)) (w ∷ items)
tested_in {look = look} {env = env} {g = g} {v = v} {t = t} {w = w} {vs = vs} {items = items} {es = es} {fs = fs} {gs = gs} p h q r = record {
  leads = λ done go.
      let scope : Env = within g.name v env in
      let next : Value → Run = λ u. generated_from (tested_generator g) vs (done ++ u ∷ []) env go in
      let one : Value → Run = λ u. tested (truth u) (reading g.element scope next) (generated_from (tested_generator g) vs done env go) scope in
      leads_append (model_of look) (reading g.test scope one) (one t) (go (done ++ w ∷ items)) es (fs ++ gs) (with_value look scope g.test es t p one)
      (from look (one t) (reading g.element scope next) (go (done ++ w ∷ items)) (fs ++ gs) (ap (λ b. tested b (reading g.element scope next) (generated_from (tested_generator g) vs done env go) scope) h)
      (leads_append (model_of look) (reading g.element scope next) (next w) (go (done ++ w ∷ items)) fs gs (with_value look scope g.element fs w q next)
      (subst (λ x. Leads (model_of look) (next w) gs x) (ap go (append_assoc done (w ∷ []) items)) (r.leads (done ++ w ∷ []) go))));
}

-- it does not
pub tested_out : {look : Key → KeyResult} {env : Env} {g : Parts} {v t : Value} {vs items : List Value} {es fs : List Event} → Comes look (within g.name v env) g.test es t → truth t ≡ Ok false → TestedComes look env g vs fs items → TestedComes look env g (v ∷ vs) (es ++ fs) items
tested_out {look = look} {env = env} {g = g} {v = v} {t = t} {vs = vs} {items = items} {es = es} {fs = fs} p h q = record {
  leads = λ done go.
      let scope : Env = within g.name v env in
      let next : Value → Run = λ u. generated_from (tested_generator g) vs (done ++ u ∷ []) env go in
      let others : Run = generated_from (tested_generator g) vs done env go in
      let one : Value → Run = λ u. tested (truth u) (reading g.element scope next) others scope in
      leads_append (model_of look) (reading g.test scope one) (one t) (go (done ++ items)) es fs (with_value look scope g.test es t p one)
      (from look (one t) others (go (done ++ items)) fs (ap (λ b. tested b (reading g.element scope next) others scope) h) (q.leads done go));
}

-- as the argument of a call that takes the tuple
pub call_over_tested : {look : Key → KeyResult} {env : Env} {c d : Callee} {ts : List Trailer} {vs items : List Value} {es fs gs hs : List Event} {v : Value} (element : Expr) (name : Label) (over test : Expr)
    → called_over c (tested_generator (record { element = element; name = name; over = over; test = test })) ≡ (λ env go. generated (tested_generator (record { element = element; name = name; over = over; test = test })) env (λ u. called c (u ∷ []) env go))
    → Comes look env over es (Tup vs) → TestedComes look env (record { element = element; name = name; over = over; test = test }) vs fs items → is_allowed (Tup items) ≡ true → CallComes look env c (Tup items ∷ []) gs v → TrailComes look env (Called v) ts hs d
    → TrailComes look env c (trailer.Call (arguments.Gen element name over (Some test)) ∷ ts) ((es ++ (fs ++ gs)) ++ hs) d
call_over_tested {look = look} {env = env} {c = c} {d = d} {ts = ts} {vs = vs} {items = items} {es = es} {fs = fs} {gs = gs} {hs = hs} {v = v} element name over test is p q allowed r t = record {
  leads = λ go.
      let g : Parts = record { element = element; name = name; over = over; test = test } in
      let more : Value → Run = λ w. applied_from (map trailer_read ts) (Called w) env go in
      let call : Value → Run = λ u. called c (u ∷ []) env more in
      let make : List Value → Run = λ us. computed (made (Tup us)) env call in
      let gen : List Value → Run = λ us. generated_from (tested_generator g) us [] env make in
      let one : Value → Run = λ x. items_or_fault (items_of x) env gen in
      leads_append (model_of look) _ (more v) (go d) (es ++ (fs ++ gs)) hs
      (from look _ (reading over env one) (more v) (es ++ (fs ++ gs)) (ap (λ b. applied b c env more) (trailer-tested element name over test) ∙ ap (λ (read : Reading). read env more) is)
      (leads_append (model_of look) (reading over env one) (one (Tup vs)) (more v) es (fs ++ gs) (with_value look env over es (Tup vs) p one)
      (from look (one (Tup vs)) (gen vs) (more v) (fs ++ gs) (ap (λ o. items_or_fault o env gen) (items_are vs))
      (leads_append (model_of look) (gen vs) (make items) (more v) fs gs (q.leads [] make)
      (from look (make items) (call (Tup items)) (more v) gs (ap (λ (b : Bool). computed (if b then Ok (Tup items) else Err TooLarge) env call) allowed) (r.leads more))))))
      (t.leads go);
}

-- ---- `all`: the first item that is false decides

pub fails_here : {look : Key → KeyResult} {env : Env} {element : Expr} {name : Label} {over : Expr} {v w : Value} {vs : List Value} {es : List Event} → Comes look (within name v env) element es w → truth w ≡ Ok false → DecidedComes look env false element name over (v ∷ vs) (es ++ []) (Flag false)
fails_here {look = look} {env = env} {element = element} {name = name} {over = over} {v = v} {w = w} {vs = vs} {es = es} p h = record { leads = λ go. item_leads look env false element name over v w vs es [] (Flag false) false p h go refl }

pub holds_here : {look : Key → KeyResult} {env : Env} {element : Expr} {name : Label} {over : Expr} {v w x : Value} {vs : List Value} {es fs : List Event} → Comes look (within name v env) element es w → truth w ≡ Ok true → DecidedComes look env false element name over vs fs x → DecidedComes look env false element name over (v ∷ vs) (es ++ fs) x
holds_here {look = look} {env = env} {element = element} {name = name} {over = over} {v = v} {w = w} {x = x} {vs = vs} {es = es} {fs = fs} p h q = record { leads = λ go. item_leads look env false element name over v w vs es fs x true p h go (q.leads go) }

pub all_over : {look : Key → KeyResult} {env : Env} {c d : Callee} {element : Expr} {name : Label} {over : Expr} {ts : List Trailer} {vs : List Value} {es fs hs : List Event} {v : Value} → called_over c (generator element name over) ≡ decided false (generator element name over)
    → Comes look env over es (Tup vs) → DecidedComes look env false element name over vs fs v → TrailComes look env (Called v) ts hs d → TrailComes look env c (trailer.Call (arguments.Gen element name over None) ∷ ts) ((es ++ fs) ++ hs) d
all_over {look = look} {env = env} {c = c} {d = d} {element = element} {name = name} {over = over} {ts = ts} {vs = vs} {es = es} {fs = fs} {hs = hs} {v = v} is p q t = record {
  leads = λ go.
      let more : Value → Run = λ w. applied_from (map trailer_read ts) (Called w) env go in
      let gen : List Value → Run = λ us. decided_from false (generator element name over) us env more in
      let one : Value → Run = λ x. items_or_fault (items_of x) env gen in
      leads_append (model_of look) _ (more v) (go d) (es ++ fs) hs
      (from look _ (reading over env one) (more v) (es ++ fs) (ap (λ b. applied b c env more) (trailer-over element name over) ∙ ap (λ (read : Reading). read env more) is)
      (leads_append (model_of look) (reading over env one) (one (Tup vs)) (more v) es fs (with_value look env over es (Tup vs) p one)
      (from look (one (Tup vs)) (gen vs) (more v) fs (ap (λ o. items_or_fault o env gen) (items_are vs)) (q.leads more))))
      (t.leads go);
}
