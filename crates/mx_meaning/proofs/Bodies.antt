-- What is kept by each way in which a run goes on, is kept by every statement and by the body of a formula.
use Rattle.std.proofs.Common.{◌≡◌, ℕ, ◌+◌, List, [], ◌∷◌, Option, None, Some, map, sym, subst}
use Rattle.mx_value.specs.declared.label.Label.{Label}
use Rattle.mx_value.specs.declared.value.Value.{Value}
use Rattle.mx_value.specs.declared.namespace.Namespace.{Namespace}
use Rattle.mx_syntax.specs.declared.expr.Expr.{Expr}
use Rattle.mx_syntax.specs.declared.stmt.Stmt.{Stmt}
use Rattle.mx_syntax.specs.declared.stmt.IfArm.{IfArm, para-IfArm, para-roll-IfArm}
use Rattle.mx_syntax.specs.declared.stmt.ItemEntry.{ItemEntry}
use Rattle.mx_syntax.specs.declared.stmt.ItemEntry.TheVariants as entry
use Rattle.mx_syntax.specs.declared.stmt.Stmt.TheOpen.{Stmt-F, IfArm-F}
use Rattle.mx_syntax.specs.declared.stmt.Stmt.TheViews.{roll-Stmt, roll-IfArm}
use Rattle.mx_syntax.specs.declared.stmt.Stmt.TheFolds.{para-roll-Stmt, map-Stmt, map-IfArm, ind-Stmt}
use Rattle.mx_syntax.specs.Heights.{height, arm_height, first_line}
use Rattle.mx_edit.specs.declared.key.Key.{Key}
use Rattle.mx_edit.specs.declared.key.KeyResult.{KeyResult}
use Rattle.mx_ops.specs.Kinds.{items_of}
use Rattle.mx_ops.specs.Truth.{truth}
use Rattle.mx_runs.specs.Runs.{Run}
use Rattle.mx_meaning.specs.Namespaces.{Overlay}
use Rattle.mx_meaning.specs.Environments.{Env, Reading, at_line, with_local}
use Rattle.mx_meaning.specs.Lookup.{named}
use Rattle.mx_meaning.specs.Operations.{changing, of_two}
use Rattle.mx_meaning.specs.Expressions.{reading}
use Rattle.mx_meaning.specs.Statements.{Returned, Doing, Done, ArmDoing, named_reading, displayed_from, done_from, other_from, arms_from, looped_from, stmt_step, arm_step, doing, done_by, body_done}
use Rattle.mx_meaning.proofs.Keeping.{Keeps}
use Rattle.mx_meaning.proofs.Keeping as kept
use Rattle.mx_meaning.proofs.Forms.{Each}
use Rattle.mx_meaning.proofs.Forms as forms

as_done : {R : Type 0} → (P : R → Type 0) (r s : R) → r ≡ s → P s → P r
as_done P r s e x = subst P (sym e) x

module _ (look : Key → KeyResult) (P : Run → Type 0) (Came : Namespace → Type 0) (keeps : Keeps look P Came) where
  abbrev Onwards : {X : Type 0} → (X → Run) → Type 0
  Onwards {X} go = (x : X) → P (go x)

  abbrev OfReading : Reading → Type 0
  OfReading read = (env : Env) (go : Value → Run) → Onwards go → P (read env go)

  abbrev OfDoing : Doing → Type 0
  OfDoing d = (env : Env) (after : Env → Run) (back : Returned → Run) → Onwards after → Onwards back → P (d env after back)

  reading_kept : (e : Expr) → OfReading (reading e)
  reading_kept e = forms.reading_kept look P Came keeps e

  refs_kept : (refs : List (Label × Expr)) → Each (λ p. OfReading p.1) (map named_reading refs)
  refs_kept [] = tt
  refs_kept (r ∷ refs) = (reading_kept r.1, refs_kept refs)

  displayed_kept : (entries : List ItemEntry) (refs : Overlay) (base : Option Value) (env : Env) (back : Returned → Run) → Onwards back → P (displayed_from entries refs base env back)
  displayed_kept [] refs base env back k = k _
  displayed_kept (entry.Refs more ∷ entries) refs base env back k =
      forms.beside_kept look P Came keeps (map named_reading more) (refs_kept more) refs env _ (λ all. displayed_kept entries all base env back k)
  displayed_kept (entry.Base e ∷ entries) refs base env back k = reading_kept e env _ (λ v. displayed_kept entries refs (Some v) env back k)

  abbrev OfDone : Done → Type 0
  OfDone d = OfDoing d.1

  done_kept : (body : List Done) → Each OfDone body → (line : ℕ) → OfDoing (done_from body line)
  done_kept [] a line env after back k b = k env
  done_kept (s ∷ body) a line env after back k b = a.0 (at_line line env) _ back (λ e. done_kept body a.1 (line + height s.0) e after back k b) b

  abbrev OfArmDoing : ArmDoing → Type 0
  OfArmDoing a = OfReading a.0 × Each OfDone a.1

  abbrev OfOther : Option (List Done) → Type 0
  OfOther None = Unit {0}
  OfOther (Some body) = Each OfDone body

  other_kept : (other : Option (List Done)) → OfOther other → (line : ℕ) → OfDoing (other_from other line)
  other_kept None a line env after back k b = k env
  other_kept (Some body) a line env after back k b = done_kept body a (line + 1) env after back k b

  arms_kept : (arms : List (IfArm × ArmDoing)) → Each (λ a. OfArmDoing a.1) arms → (other : Option (List Done)) → OfOther other → (line : ℕ) → OfDoing (arms_from arms other line)
  arms_kept [] a other o line env after back k b = other_kept other o line env after back k b
  arms_kept (x ∷ arms) a other o line env after back k b =
      a.0.0 (at_line line env) _ (λ v. kept.tested_kept look P Came keeps (truth v) _ _ (at_line line env) (done_kept x.1.1 a.0.1 (line + 1) env after back k b) (arms_kept arms a.1 other o (line + arm_height x.0) env after back k b))

  looped_kept : (name : Label) (body : List Done) → Each OfDone body → (vs : List Value) (line : ℕ) → OfDoing (looped_from name body vs line)
  looped_kept name body a [] line env after back k b = k env
  looped_kept name body a (v ∷ vs) line env after back k b = done_kept body a line (with_local name v env) _ back (λ e. looped_kept name body a vs line e after back k b) b

  -- ---- layers

  abbrev OfStmt : Stmt → Type 0
  OfStmt s = OfDoing (doing s)

  abbrev arm_doing : IfArm → ArmDoing
  arm_doing = para-IfArm Doing ArmDoing stmt_step arm_step

  abbrev arm_done_by : IfArm → IfArm × ArmDoing
  arm_done_by a = (a, arm_doing a)

  abbrev OfIfArm : IfArm → Type 0
  OfIfArm a = OfArmDoing (arm_doing a)

  stmts_are : (stmts : List ((s : Stmt) × OfStmt s)) → Each OfDone (map done_by (map (λ s. s.0) stmts))
  stmts_are [] = tt
  stmts_are (s ∷ stmts) = (s.1, stmts_are stmts)

  arms_are : (arms : List ((a : IfArm) × OfIfArm a)) → Each (λ a. OfArmDoing a.1) (map arm_done_by (map (λ a. a.0) arms))
  arms_are [] = tt
  arms_are (a ∷ arms) = (a.1, arms_are arms)

  abbrev bare_stmt : Stmt-F ((s : Stmt) × OfStmt s) ((a : IfArm) × OfIfArm a) → Stmt-F Stmt IfArm
  bare_stmt y = map-Stmt _ _ Stmt IfArm (λ s. s.0) (λ a. a.0) y

  abbrev done_layer : Stmt-F Stmt IfArm → Doing
  done_layer z = stmt_step (map-Stmt Stmt IfArm (Stmt × Doing) (IfArm × ArmDoing) done_by arm_done_by z)

  layer_kept : (y : Stmt-F ((s : Stmt) × OfStmt s) ((a : IfArm) × OfIfArm a)) → OfDoing (done_layer (bare_stmt y))
  layer_kept Stmt-F.Pass env after back k b = k env
  layer_kept (Stmt-F.Return None) env after back k b = b _
  layer_kept (Stmt-F.Return (Some e)) env after back k b = reading_kept e env _ (λ v. b _)
  layer_kept (Stmt-F.ReturnItem entries) env after back k b = displayed_kept entries [] None env back b
  layer_kept (Stmt-F.Assign name e) env after back k b = reading_kept e env _ (λ v. k (with_local name v env))
  layer_kept (Stmt-F.Change name op e) env after back k b =
      kept.valued_kept look P Came keeps (named name) (kept.named_kept look P Came keeps name) env _ (λ old. reading_kept e env _ (λ v. kept.computed_kept look P Came keeps (of_two (changing op) old v) env _ (λ w. k (with_local name w env))))
  layer_kept (Stmt-F.If arms None) env after back k b = arms_kept _ (arms_are arms) None tt env.line env after back k b
  layer_kept (Stmt-F.If arms (Some stmts)) env after back k b = arms_kept _ (arms_are arms) (Some (map done_by (map (λ s. s.0) stmts))) (stmts_are stmts) env.line env after back k b
  layer_kept (Stmt-F.For name over stmts) env after back k b =
      reading_kept over env _ (λ v. forms.items_kept look P Came keeps (items_of v) env _ (λ items. looped_kept name _ (stmts_are stmts) items (env.line + 1) env after back k b))

  arm_kept : (y : IfArm-F ((s : Stmt) × OfStmt s) ((a : IfArm) × OfIfArm a)) → OfIfArm (roll-IfArm (map-IfArm _ _ Stmt IfArm (λ s. s.0) (λ a. a.0) y))
  arm_kept y =
      let z : IfArm-F Stmt IfArm = map-IfArm _ _ Stmt IfArm (λ s. s.0) (λ a. a.0) y in
      subst (λ (d : ArmDoing). OfArmDoing d) (sym (para-roll-IfArm Doing ArmDoing stmt_step arm_step z)) (reading_kept y.test, stmts_are y.body)

  stmt_kept : (s : Stmt) → OfStmt s
  stmt_kept = ind-Stmt OfStmt OfIfArm
      (λ x y is. subst (λ (z : Stmt-F Stmt IfArm). OfStmt (roll-Stmt z)) is (as_done OfDoing (doing (roll-Stmt (bare_stmt y))) (done_layer (bare_stmt y)) (para-roll-Stmt Doing ArmDoing stmt_step arm_step (bare_stmt y)) (layer_kept y)))
      (λ x y is. subst (λ (z : IfArm-F Stmt IfArm). OfIfArm (roll-IfArm z)) is (arm_kept y))

  all_kept : (stmts : List Stmt) → Each OfDone (map done_by stmts)
  all_kept [] = tt
  all_kept (s ∷ stmts) = (stmt_kept s, all_kept stmts)

  pub body_kept : (stmts : List Stmt) (env : Env) (back : Returned → Run) → Onwards back → P (body_done stmts env back)
  body_kept stmts env back b = done_kept (map done_by stmts) (all_kept stmts) (first_line stmts) env _ back (λ e. b _) b
