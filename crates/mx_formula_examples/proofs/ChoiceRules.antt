-- Rules for statements that choose, with what they count and bind, for `pass`, and for bodies that come to their end.
use Rattle.std.proofs.Common.{◌≡◌, refl, None, Some, Ok, List, [], ◌∷◌, ◌++◌, ℕ, ◌+◌, ap, sym, ◌∙◌, subst, length, Option, Bool, true, false, if◌then◌else◌, map}
use Rattle.std.specs.List.{sum}
use Rattle.mx_value.specs.declared.label.Label.{Label}
use Rattle.mx_value.specs.declared.value.Value.{Value}
use Rattle.mx_value.specs.declared.value.Value.TheVariants.{Nothing}
use Rattle.mx_value.specs.declared.namespace.Namespace.{Namespace}
use Rattle.mx_value.specs.declared.node.Node.{Node}
use Rattle.mx_value.specs.declared.node.Node.TheVariants.{Cell}
use Rattle.mx_value.specs.declared.fault.FaultKind.{FaultKind}
use Rattle.mx_value.specs.declared.fault.FaultKind.TheVariants.{UnsetLocal}
use Rattle.mx_syntax.specs.declared.expr.Expr.{Expr}
use Rattle.mx_syntax.specs.declared.expr.Expr.TheVariants as expr
use Rattle.mx_syntax.specs.declared.stmt.Stmt.{Stmt, fold-roll-Stmt}
use Rattle.mx_syntax.specs.declared.stmt.Stmt.TheVariants as stmt
use Rattle.mx_syntax.specs.declared.stmt.Stmt.TheOpen.{Stmt-F}
use Rattle.mx_syntax.specs.declared.stmt.Stmt.TheFolds.{para-roll-Stmt}
use Rattle.mx_syntax.specs.declared.stmt.IfArm.{IfArm, roll-IfArm, para-IfArm, para-roll-IfArm, fold-roll-IfArm}
use Rattle.mx_syntax.specs.declared.stmt.ArithOp.{ArithOp}
use Rattle.mx_syntax.specs.declared.stmt.Param.{Param}
use Rattle.mx_syntax.specs.Binding.{bound, is_wrong_count}
use Rattle.mx_syntax.specs.Lists.{flat}
use Rattle.mx_syntax.specs.Heights.{height, arm_height, first_line, returns, returns_step, any_arm, stmt_step as height_step, arm_step as height_arm}
use Rattle.mx_syntax.specs.Locals.{bound_by, arm_bound, stmt_step as bound_step, arm_step as bound_arm}
use Rattle.mx_edit.specs.declared.key.Key.{Key}
use Rattle.mx_edit.specs.declared.key.Key.TheVariants as key
use Rattle.mx_edit.specs.declared.key.KeyResult.{KeyResult}
use Rattle.mx_edit.specs.declared.key.KeyResult.TheVariants as found
use Rattle.mx_ops.specs.Truth.{truth}
use Rattle.mx_runs.specs.Runs.{Run, Gives, Event, Looked}
use Rattle.mx_runs.specs.Meaning.{Leads}
use Rattle.mx_runs.specs.Inputs.{is_static}
use Rattle.mx_runs.proofs.Levels.{leads_append}
use Rattle.mx_meaning.specs.Environments.{Env, Locals, computed, tested, with_local, fault, at_line, local_of}
use Rattle.mx_meaning.specs.Lookup.{local_or, as_value}
use Rattle.mx_meaning.specs.Operations.{changing, of_two}
use Rattle.mx_meaning.specs.Expressions.{reading}
use Rattle.mx_meaning.specs.Statements.{Returned, Plain, Done, Doing, ArmDoing, stmt_step, arm_step, doing, done_by, done_from, arms_from}
use Rattle.mx_meaning.specs.Nodes.{arguments_of, unset_locals, value_given, cells_returned}
use Rattle.mx_meaning.specs.Laws.{model_of}
use Rattle.mx_formula_examples.proofs.Equations.{part-name, doing-change}
use Rattle.mx_formula_examples.proofs.Rules.{from, with_value, Walks, Comes}
use Rattle.mx_formula_examples.proofs.NodeRules.{RunsTo, given_value, static_lead}
use Rattle.mx_formula_examples.proofs.FormRules.{Turns}
use Rattle.mx_formula_examples.proofs.LoopRules.{StmtGoes, BodyGoes, DoneComes, DoneStops, lines_env, body_leads}

-- ---- what the folds give

abbrev pub if_arm : Expr → List Stmt → IfArm
if_arm t stmts = roll-IfArm (record { test = t; body = stmts })

abbrev arm_doing : IfArm → ArmDoing
arm_doing = para-IfArm Doing ArmDoing stmt_step arm_step

abbrev pub arm_done : IfArm → IfArm × ArmDoing
arm_done a = (a, arm_doing a)

abbrev pub done_all : List Stmt → List Done
done_all stmts = map done_by stmts

abbrev pub other_done : Option (List Stmt) → Option (List Done)
other_done None = None
other_done (Some stmts) = Some (done_all stmts)

doing-arm : (t : Expr) (stmts : List Stmt) → arm_doing (if_arm t stmts) ≡ (reading t, done_all stmts)
doing-arm t stmts = para-roll-IfArm Doing ArmDoing stmt_step arm_step (record { test = t; body = stmts })

doing-if : (arms : List IfArm) → doing (stmt.If arms None) ≡ (λ env after back. arms_from (map arm_done arms) None env.line env after back)
doing-if arms = ap doing (sym (stmt.rolls-If arms None)) ∙ para-roll-Stmt Doing ArmDoing stmt_step arm_step (Stmt-F.If arms None)

doing-if_else : (arms : List IfArm) (stmts : List Stmt) → doing (stmt.If arms (Some stmts)) ≡ (λ env after back. arms_from (map arm_done arms) (Some (done_all stmts)) env.line env after back)
doing-if_else arms stmts = ap doing (sym (stmt.rolls-If arms (Some stmts))) ∙ para-roll-Stmt Doing ArmDoing stmt_step arm_step (Stmt-F.If arms (Some stmts))

pub first_line-if : (arms : List IfArm) (other : Option (List Stmt)) → first_line (stmt.If arms other ∷ []) ≡ 2
first_line-if arms other = ap (λ (b : Bool). if b then 1 else 2) (ap returns (sym (stmt.rolls-If arms other)) ∙ fold-roll-Stmt Bool (Unit {0}) returns_step any_arm (Stmt-F.If arms other))

pub height-if : (arms : List IfArm) → height (stmt.If arms None) ≡ sum (map arm_height arms) + 0
height-if arms = ap height (sym (stmt.rolls-If arms None)) ∙ fold-roll-Stmt ℕ ℕ height_step height_arm (Stmt-F.If arms None)

pub height-arm : (t : Expr) (stmts : List Stmt) → arm_height (if_arm t stmts) ≡ sum (map height stmts) + 1
height-arm t stmts = fold-roll-IfArm ℕ ℕ height_step height_arm (record { test = t; body = stmts })

pub height-return : (e : Expr) → height (stmt.Return (Some e)) ≡ 1
height-return e = ap height (sym (stmt.rolls-Return (Some e))) ∙ fold-roll-Stmt ℕ ℕ height_step height_arm (Stmt-F.Return (Some e))

pub bound-if : (arms : List IfArm) → bound_by (stmt.If arms None) ≡ flat (map arm_bound arms) ++ []
bound-if arms = ap bound_by (sym (stmt.rolls-If arms None)) ∙ fold-roll-Stmt (List Label) (List Label) bound_step bound_arm (Stmt-F.If arms None)

pub bound-if_else : (arms : List IfArm) (stmts : List Stmt) → bound_by (stmt.If arms (Some stmts)) ≡ flat (map arm_bound arms) ++ flat (map bound_by stmts)
bound-if_else arms stmts = ap bound_by (sym (stmt.rolls-If arms (Some stmts))) ∙ fold-roll-Stmt (List Label) (List Label) bound_step bound_arm (Stmt-F.If arms (Some stmts))

pub bound-arm : (t : Expr) (stmts : List Stmt) → arm_bound (if_arm t stmts) ≡ flat (map bound_by stmts)
bound-arm t stmts = fold-roll-IfArm (List Label) (List Label) bound_step bound_arm (record { test = t; body = stmts })

-- ---- the arms of an `if`

-- what statements come to: they go on, they return, or they stop with a fault
abbrev pub Rest : Type 0
Rest = (Env → Run) → (Returned → Run) → Run

-- the arms, the first at this line, and the statements of `else` come to this rest of the run
pub record ArmsCome (look : Key → KeyResult) (env : Env) (arms : List IfArm) (other : Option (List Stmt)) (line : ℕ) (es : List Event) (rest : Rest) : Type 0 where
  pub leads : (after : Env → Run) (back : Returned → Run) → Leads (model_of look) (arms_from (map arm_done arms) (other_done other) line env after back) es (rest after back)

pub no_arm : {look : Key → KeyResult} {env : Env} {line : ℕ} → ArmsCome look env [] None line [] (λ after back. after env)
no_arm = record { leads = λ after back. refl }

pub other_returns : {look : Key → KeyResult} {env : Env} {stmts : List Stmt} {line : ℕ} {es : List Event} {x : Returned} → DoneComes look env stmts (line + 1) es x → ArmsCome look env [] (Some stmts) line es (λ after back. back x)
other_returns p = record { leads = λ after back. p.leads after back }

module _ (look : Key → KeyResult) (env : Env) (t : Expr) (stmts : List Stmt) (arms : List IfArm) (other : Option (List Stmt)) (line : ℕ) (es fs : List Event) (w : Value) (holds : Bool) (p : Comes look (at_line line env) t es w) (h : truth w ≡ Ok holds) (after : Env → Run) (back : Returned → Run) where
  abbrev within_arm : Run
  within_arm = done_from (done_all stmts) (line + 1) env after back

  abbrev next_arms : Run
  next_arms = arms_from (map arm_done arms) (other_done other) (line + arm_height (if_arm t stmts)) env after back

  arm_leads : (last : Run) → Leads (model_of look) (if holds then within_arm else next_arms) fs last → Leads (model_of look) (arms_from (map arm_done (if_arm t stmts ∷ arms)) (other_done other) line env after back) (es ++ fs) last
  arm_leads last l =
      let one : Value → Run = λ v. tested (truth v) within_arm next_arms (at_line line env) in
      from look _ (reading t (at_line line env) one) last (es ++ fs) (ap (λ (d : ArmDoing). arms_from ((if_arm t stmts, d) ∷ map arm_done arms) (other_done other) line env after back) (doing-arm t stmts))
      (leads_append (model_of look) (reading t (at_line line env) one) (one w) last es fs (with_value look (at_line line env) t es w p one)
      (from look (one w) (if holds then within_arm else next_arms) last fs (ap (λ r. tested r within_arm next_arms (at_line line env)) h) l))

-- the test of the first arm holds, and its statements return
pub arm_returns : {look : Key → KeyResult} {env : Env} {t : Expr} {stmts : List Stmt} {arms : List IfArm} {other : Option (List Stmt)} {line : ℕ} {es fs : List Event} {w : Value} {x : Returned} → Comes look (at_line line env) t es w → truth w ≡ Ok true → DoneComes look env stmts (line + 1) fs x
    → ArmsCome look env (if_arm t stmts ∷ arms) other line (es ++ fs) (λ after back. back x)
arm_returns {look = look} {env = env} {t = t} {stmts = stmts} {arms = arms} {other = other} {line = line} {es = es} {fs = fs} {w = w} {x = x} p h q = record { leads = λ after back. arm_leads look env t stmts arms other line es fs w true p h after back (back x) (q.leads after back) }

-- or they go on
pub arm_goes : {look : Key → KeyResult} {env next : Env} {t : Expr} {stmts : List Stmt} {arms : List IfArm} {other : Option (List Stmt)} {line : ℕ} {es fs : List Event} {w : Value} → Comes look (at_line line env) t es w → truth w ≡ Ok true → BodyGoes look env stmts (line + 1) fs next
    → ArmsCome look env (if_arm t stmts ∷ arms) other line (es ++ fs) (λ after back. after next)
arm_goes {look = look} {env = env} {next = next} {t = t} {stmts = stmts} {arms = arms} {other = other} {line = line} {es = es} {fs = fs} {w = w} p h q = record { leads = λ after back. arm_leads look env t stmts arms other line es fs w true p h after back (after next) (q.leads after back) }

-- it does not hold
pub arm_fails : {look : Key → KeyResult} {env : Env} {t : Expr} {stmts : List Stmt} {arms : List IfArm} {other : Option (List Stmt)} {line count : ℕ} {es fs : List Event} {w : Value} {rest : Rest} → Comes look (at_line line env) t es w → truth w ≡ Ok false → arm_height (if_arm t stmts) ≡ count
    → ArmsCome look env arms other (line + count) fs rest → ArmsCome look env (if_arm t stmts ∷ arms) other line (es ++ fs) rest
arm_fails {look = look} {env = env} {t = t} {stmts = stmts} {arms = arms} {other = other} {line = line} {count = count} {es = es} {fs = fs} {w = w} {rest = rest} p h k q = record {
  leads = λ after back.
      arm_leads look env t stmts arms other line es fs w false p h after back (rest after back)
      (from look _ (arms_from (map arm_done arms) (other_done other) (line + count) env after back) (rest after back) fs (ap (λ (c : ℕ). arms_from (map arm_done arms) (other_done other) (line + c) env after back) k) (q.leads after back));
}

-- it comes to a fault
pub arm_stops : {look : Key → KeyResult} {env : Env} {t : Expr} {stmts : List Stmt} {arms : List IfArm} {other : Option (List Stmt)} {line : ℕ} {es : List Event} {kind : FaultKind} → Turns look (at_line line env) t es (λ go. fault kind (at_line line env))
    → ArmsCome look env (if_arm t stmts ∷ arms) other line es (λ after back. fault kind (at_line line env))
arm_stops {look = look} {env = env} {t = t} {stmts = stmts} {arms = arms} {other = other} {line = line} {es = es} {kind = kind} p = record {
  leads = λ after back.
      let inner : Run = done_from (done_all stmts) (line + 1) env after back in
      let others : Run = arms_from (map arm_done arms) (other_done other) (line + arm_height (if_arm t stmts)) env after back in
      let one : Value → Run = λ v. tested (truth v) inner others (at_line line env) in
      from look _ (reading t (at_line line env) one) (fault kind (at_line line env)) es (ap (λ (d : ArmDoing). arms_from ((if_arm t stmts, d) ∷ map arm_done arms) (other_done other) line env after back) (doing-arm t stmts))
      (p.leads (λ c. as_value c (at_line line env) one));
}

-- ---- an `if`

-- the statement comes to this rest of the run
pub record StmtComes (look : Key → KeyResult) (env : Env) (s : Stmt) (es : List Event) (rest : Rest) : Type 0 where
  pub leads : (after : Env → Run) (back : Returned → Run) → Leads (model_of look) (doing s env after back) es (rest after back)

pub choose : {look : Key → KeyResult} {env : Env} {arms : List IfArm} {es : List Event} {rest : Rest} → ArmsCome look env arms None env.line es rest → StmtComes look env (stmt.If arms None) es rest
choose {look = look} {env = env} {arms = arms} {es = es} {rest = rest} p = record {
  leads = λ after back. from look _ (arms_from (map arm_done arms) None env.line env after back) (rest after back) es (ap (λ (d : Doing). d env after back) (doing-if arms)) (p.leads after back);
}

pub choose_or : {look : Key → KeyResult} {env : Env} {arms : List IfArm} {stmts : List Stmt} {es : List Event} {rest : Rest} → ArmsCome look env arms (Some stmts) env.line es rest → StmtComes look env (stmt.If arms (Some stmts)) es rest
choose_or {look = look} {env = env} {arms = arms} {stmts = stmts} {es = es} {rest = rest} p = record {
  leads = λ after back. from look _ (arms_from (map arm_done arms) (Some (done_all stmts)) env.line env after back) (rest after back) es (ap (λ (d : Doing). d env after back) (doing-if_else arms stmts)) (p.leads after back);
}

pub goes_on : {look : Key → KeyResult} {env next : Env} {s : Stmt} {es : List Event} → StmtComes look env s es (λ after back. after next) → StmtGoes look env s es next
goes_on p = record { leads = λ after back. p.leads after back }

pub statement_returns : {look : Key → KeyResult} {env : Env} {s : Stmt} {more : List Stmt} {line : ℕ} {es : List Event} {x : Returned} → StmtComes look (at_line line env) s es (λ after back. back x) → DoneComes look env (s ∷ more) line es x
statement_returns {s = s} {more = more} {line = line} p = record { leads = λ after back. p.leads (λ e. done_from (map done_by more) (line + height s) e after back) back }

pub statement_stops : {look : Key → KeyResult} {env at : Env} {s : Stmt} {more : List Stmt} {line : ℕ} {es : List Event} {kind : FaultKind} → StmtComes look (at_line line env) s es (λ after back. fault kind at) → DoneStops look env (s ∷ more) line es kind at
statement_stops {s = s} {more = more} {line = line} p = record { leads = λ after back. p.leads (λ e. done_from (map done_by more) (line + height s) e after back) back }

-- ---- a local that is not set

pub local_unset : {look : Key → KeyResult} {env : Env} {name : Label} → local_of env.locals name ≡ Some None → Turns look env (expr.Name name) [] (λ go. fault UnsetLocal env)
local_unset {env = env} {name = name} e = record { leads = λ go. part-name name env go ∙ ap (λ (o : Option (Option Value)). local_or o name env go) e }

pub change_unset : {look : Key → KeyResult} {env : Env} {name : Label} {op : ArithOp} {e : Expr} → local_of env.locals name ≡ Some None → StmtComes look env (stmt.Change name op e) [] (λ after back. fault UnsetLocal env)
change_unset {env = env} {name = name} {op = op} {e = e} here = record {
  leads = λ after back.
      let one : Value → Run = λ old. reading e env (λ v. computed (of_two (changing op) old v) env (λ new. after (with_local name new env))) in
      ap (λ (d : Doing). d env after back) (doing-change name op e) ∙ ap (λ (o : Option (Option Value)). local_or o name env (λ c. as_value c env one)) here;
}

-- ---- `pass`, and a body that comes to its end

doing-pass : doing stmt.Pass ≡ (λ env after back. after env)
doing-pass = ap doing (sym stmt.rolls-Pass) ∙ para-roll-Stmt Doing ArmDoing stmt_step arm_step Stmt-F.Pass

pub bound-pass : bound_by stmt.Pass ≡ []
bound-pass = ap bound_by (sym stmt.rolls-Pass) ∙ fold-roll-Stmt (List Label) (List Label) bound_step bound_arm Stmt-F.Pass

pub first_line-pass : first_line (stmt.Pass ∷ []) ≡ 2
first_line-pass = ap (λ (b : Bool). if b then 1 else 2) (ap returns (sym stmt.rolls-Pass) ∙ fold-roll-Stmt Bool (Unit {0}) returns_step any_arm Stmt-F.Pass)

pub pass_goes : {look : Key → KeyResult} {env : Env} → StmtGoes look env stmt.Pass [] env
pass_goes {env = env} = record { leads = λ after back. ap (λ (d : Doing). d env after back) doing-pass }

-- at an address without items
pub end_run : {look : Key → KeyResult} {ns : Namespace} {name : Label} {params : List Param} {stmts : List Stmt} {allow : Bool} {es fs : List Event} {next : Env} (vs : List Value) (later : Locals) → is_static ns.at ≡ true → Walks look ns es → look (key.Input (Cell ns.at name vs)) ≡ found.Missing
    → look (key.Cells ns.source name) ≡ found.Formula (record { params = params; body = stmts }) allow → is_wrong_count params (length vs) ≡ false → bound params vs ≡ vs → unset_locals stmts ≡ later
    → BodyGoes look (lines_env (Cell ns.at name vs) ns (arguments_of params vs) later) stmts (first_line stmts) fs next → cells_returned allow (Cell ns.at name vs) (Plain Nothing) ≡ value_given Nothing
    → RunsTo look (Cell ns.at name vs) (Looked (key.Input (Cell ns.at name vs)) ∷ es ++ Looked (key.Cells ns.source name) ∷ fs) (Gives (given_value Nothing))
end_run {look = look} {ns = ns} {name = name} {params = params} {stmts = stmts} {allow = allow} {es = es} {fs = fs} vs later s w input here count binds unset p ends =
    let n : Node = Cell ns.at name vs in
    let back : Returned → Run = cells_returned allow n in
    let env : Env = lines_env n ns (arguments_of params vs) later in
    let l : Leads (model_of look) (done_from (done_all stmts) (first_line stmts) env (λ e. back (Plain Nothing)) back) fs (value_given Nothing) =
    subst (λ r. Leads (model_of look) (done_from (done_all stmts) (first_line stmts) env (λ e. back (Plain Nothing)) back) fs r) ends (p.leads (λ e. back (Plain Nothing)) back) in
    record { leads = static_lead look ns name params stmts allow vs es fs (value_given Nothing) w here count binds (body_leads look n ns (arguments_of params vs) stmts later back fs (value_given Nothing) unset l) s input }
