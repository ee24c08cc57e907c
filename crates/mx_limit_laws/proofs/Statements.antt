-- Every statement stays within the limits, where its literals are arguments, and so does the body of a formula.
use Rattle.std.proofs.Common.{◌≡◌, ℕ, ◌+◌, List, [], ◌∷◌, ◌++◌, Option, None, Some, map, sym, subst}
use Rattle.mx_value.specs.declared.label.Label.{Label}
use Rattle.mx_value.specs.declared.value.Value.{Value}
use Rattle.mx_value.specs.declared.value.Value.TheVariants as made
use Rattle.mx_syntax.specs.Lists.{flat}
use Rattle.mx_syntax.specs.declared.expr.Expr.{Expr}
use Rattle.mx_syntax.specs.declared.stmt.Stmt.{Stmt}
use Rattle.mx_syntax.specs.declared.stmt.IfArm.{IfArm, fold-roll-IfArm, para-IfArm, para-roll-IfArm}
use Rattle.mx_syntax.specs.declared.stmt.ItemEntry.{ItemEntry}
use Rattle.mx_syntax.specs.declared.stmt.ItemEntry.TheVariants as entry
use Rattle.mx_syntax.specs.declared.stmt.Stmt.TheOpen.{Stmt-F, IfArm-F}
use Rattle.mx_syntax.specs.declared.stmt.Stmt.TheViews.{roll-Stmt, roll-IfArm}
use Rattle.mx_syntax.specs.declared.stmt.Stmt.TheFolds.{fold-roll-Stmt, para-roll-Stmt, map-Stmt, map-IfArm, ind-Stmt}
use Rattle.mx_syntax.specs.Heights.{height, arm_height, first_line}
use Rattle.mx_edit.specs.declared.key.Key.{Key}
use Rattle.mx_edit.specs.declared.key.KeyResult.{KeyResult}
use Rattle.mx_ops.specs.Kinds.{items_of}
use Rattle.mx_ops.specs.Truth.{truth}
use Rattle.mx_runs.specs.Runs.{Run}
use Rattle.mx_meaning.specs.Namespaces.{Overlay}
use Rattle.mx_meaning.specs.Environments.{Env, Reading, at_line, with_local}
use Rattle.mx_meaning.specs.Lookup.{named}
use Rattle.mx_meaning.specs.Operations.{changing, of_two}
use Rattle.mx_meaning.specs.Expressions.{reading}
use Rattle.mx_meaning.specs.Statements.{Returned, Plain, Display, Doing, Done, ArmDoing, named_reading, displayed_from, done_from, other_from, arms_from, looped_from, stmt_step, arm_step, doing, done_by, body_done}
use Rattle.mx_state.specs.Proper.{IsArgument}
use Rattle.mx_limit_laws.specs.Values.{Each, IsWithin}
use Rattle.mx_limit_laws.specs.Literals.{Values, literals_of, named_literals, entry_literals, stmt_literals, if_arm_literals, body_literals}
use Rattle.mx_limit_laws.specs.Literals as literal
use Rattle.mx_limit_laws.specs.Replies.{HasSmallResults}
use Rattle.mx_limit_laws.proofs.Lists.{IfAny, each_left, each_right}
use Rattle.mx_limit_laws.proofs.Values.{nothing_within}
use Rattle.mx_limit_laws.proofs.Operators.{items_of_within}
use Rattle.mx_limit_laws.proofs.Staying.{Stays, computed_stays, tested_stays, AreSmall, IsSmallEnv, with_local_small}
use Rattle.mx_limit_laws.proofs.Lookups as lookups
use Rattle.mx_limit_laws.proofs.Expressions as expressions

-- what a formula returns within the limits
abbrev pub IsSmallReturned : Returned → Type 0
IsSmallReturned (Plain v) = IsWithin v
IsSmallReturned (Display refs base) = AreSmall refs × IfAny IsWithin base

by_layer : {R : Type 0} → (P : R → Type 0) (r s : R) → r ≡ s → (vs ws : Values) → vs ≡ ws → (Each IsArgument ws → P s) → Each IsArgument vs → P r
by_layer P r s e vs ws f h l = subst P (sym e) (h (subst (Each IsArgument) f l))

abbrev pub stmt_values : Stmt-F Stmt IfArm → Values
stmt_values z = literal.stmt_step (map-Stmt Stmt IfArm Values Values stmt_literals if_arm_literals z)

module _ (look : Key → KeyResult) (small : HasSmallResults look) where
  abbrev OfReading : Reading → Type 0
  OfReading read = (env : Env) → IsSmallEnv env → (go : Value → Run) → ((v : Value) → IsWithin v → Stays look (go v)) → Stays look (read env go)

  abbrev OfDoing : Doing → Type 0
  OfDoing d =
      (env : Env) → IsSmallEnv env → (after : Env → Run) (back : Returned → Run) → ((e : Env) → IsSmallEnv e → Stays look (after e))
      → ((x : Returned) → IsSmallReturned x → Stays look (back x)) → Stays look (d env after back)

  -- the line has no say
  lined : (line : ℕ) (env : Env) → IsSmallEnv env → IsSmallEnv (at_line line env)
  lined line env e = record { namespace = e.namespace; locals = e.locals }

  refs_stay : (refs : List (Label × Expr)) → Each IsArgument (flat (map named_literals refs)) → Each (λ p. OfReading p.1) (map named_reading refs)
  refs_stay [] l = tt
  refs_stay (r ∷ refs) l = (expressions.reading_stays look small r.1 (each_left IsArgument (literals_of r.1) _ l), refs_stay refs (each_right IsArgument (literals_of r.1) _ l))

  displayed_stays : (entries : List ItemEntry) → Each IsArgument (flat (map entry_literals entries)) → (refs : Overlay) → AreSmall refs → (base : Option Value) → IfAny IsWithin base → (env : Env) → IsSmallEnv env → (back : Returned → Run)
      → ((x : Returned) → IsSmallReturned x → Stays look (back x)) → Stays look (displayed_from entries refs base env back)
  displayed_stays [] l refs r base b env e back k = k (Display refs base) (r, b)
  displayed_stays (entry.Refs more ∷ entries) l refs r base b env e back k =
      let own : Values = flat (map named_literals more) in
      expressions.beside_stay look small (map named_reading more) (refs_stay more (each_left IsArgument own _ l)) refs r env e _ (λ all a. displayed_stays entries (each_right IsArgument own _ l) all a base b env e back k)
  displayed_stays (entry.Base x ∷ entries) l refs r base b env e back k =
      expressions.reading_stays look small x (each_left IsArgument (literals_of x) _ l) env e _ (λ v w. displayed_stays entries (each_right IsArgument (literals_of x) _ l) refs r (Some v) w env e back k)

  abbrev OfDone : Done → Type 0
  OfDone d = OfDoing d.1

  done_stays : (body : List Done) → Each OfDone body → (line : ℕ) → OfDoing (done_from body line)
  done_stays [] a line env e after back k b = k env e
  done_stays (s ∷ body) a line env e after back k b = a.0 (at_line line env) (lined line env e) _ back (λ next n. done_stays body a.1 (line + height s.0) next n after back k b) b

  abbrev OfArmDoing : ArmDoing → Type 0
  OfArmDoing a = OfReading a.0 × Each OfDone a.1

  abbrev OfOther : Option (List Done) → Type 0
  OfOther None = Unit {0}
  OfOther (Some body) = Each OfDone body

  other_stays : (other : Option (List Done)) → OfOther other → (line : ℕ) → OfDoing (other_from other line)
  other_stays None a line env e after back k b = k env e
  other_stays (Some body) a line env e after back k b = done_stays body a (line + 1) env e after back k b

  arms_stay : (arms : List (IfArm × ArmDoing)) → Each (λ a. OfArmDoing a.1) arms → (other : Option (List Done)) → OfOther other → (line : ℕ) → OfDoing (arms_from arms other line)
  arms_stay [] a other o line env e after back k b = other_stays other o line env e after back k b
  arms_stay (x ∷ arms) a other o line env e after back k b =
      a.0.0 (at_line line env) (lined line env e) _ (λ v w. tested_stays look (truth v) _ _ (at_line line env) (done_stays x.1.1 a.0.1 (line + 1) env e after back k b) (arms_stay arms a.1 other o (line + arm_height x.0) env e after back k b))

  looped_stays : (name : Label) (body : List Done) → Each OfDone body → (vs : List Value) → Each IsWithin vs → (line : ℕ) → OfDoing (looped_from name body vs line)
  looped_stays name body a [] h line env e after back k b = k env e
  looped_stays name body a (v ∷ vs) h line env e after back k b = done_stays body a line (with_local name v env) (with_local_small env e name v h.0) _ back (λ next n. looped_stays name body a vs h.1 line next n after back k b) b

  -- ---- layers

  abbrev OfStmt : Stmt → Type 0
  OfStmt s = Each IsArgument (stmt_literals s) → OfDoing (doing s)

  abbrev arm_doing : IfArm → ArmDoing
  arm_doing = para-IfArm Doing ArmDoing stmt_step arm_step

  abbrev arm_done_by : IfArm → IfArm × ArmDoing
  arm_done_by a = (a, arm_doing a)

  abbrev OfIfArm : IfArm → Type 0
  OfIfArm a = Each IsArgument (if_arm_literals a) → OfArmDoing (arm_doing a)

  stmts_are : (stmts : List ((s : Stmt) × OfStmt s)) → Each IsArgument (flat (map stmt_literals (map (λ s. s.0) stmts))) → Each OfDone (map done_by (map (λ s. s.0) stmts))
  stmts_are [] l = tt
  stmts_are (s ∷ stmts) l = (s.1 (each_left IsArgument (stmt_literals s.0) _ l), stmts_are stmts (each_right IsArgument (stmt_literals s.0) _ l))

  arms_are : (arms : List ((a : IfArm) × OfIfArm a)) → Each IsArgument (flat (map if_arm_literals (map (λ a. a.0) arms))) → Each (λ a. OfArmDoing a.1) (map arm_done_by (map (λ a. a.0) arms))
  arms_are [] l = tt
  arms_are (a ∷ arms) l = (a.1 (each_left IsArgument (if_arm_literals a.0) _ l), arms_are arms (each_right IsArgument (if_arm_literals a.0) _ l))

  abbrev bare_stmt : Stmt-F ((s : Stmt) × OfStmt s) ((a : IfArm) × OfIfArm a) → Stmt-F Stmt IfArm
  bare_stmt y = map-Stmt _ _ Stmt IfArm (λ s. s.0) (λ a. a.0) y

  abbrev done_layer : Stmt-F Stmt IfArm → Doing
  done_layer z = stmt_step (map-Stmt Stmt IfArm (Stmt × Doing) (IfArm × ArmDoing) done_by arm_done_by z)

  layer_stays : (y : Stmt-F ((s : Stmt) × OfStmt s) ((a : IfArm) × OfIfArm a)) → Each IsArgument (stmt_values (bare_stmt y)) → OfDoing (done_layer (bare_stmt y))
  layer_stays Stmt-F.Pass l env e after back k b = k env e
  layer_stays (Stmt-F.Return None) l env e after back k b = b (Plain made.Nothing) nothing_within
  layer_stays (Stmt-F.Return (Some x)) l env e after back k b = expressions.reading_stays look small x l env e _ (λ v w. b (Plain v) w)
  layer_stays (Stmt-F.ReturnItem entries) l env e after back k b = displayed_stays entries l [] tt None tt env e back b
  layer_stays (Stmt-F.Assign name x) l env e after back k b = expressions.reading_stays look small x l env e _ (λ v w. k (with_local name v env) (with_local_small env e name v w))
  layer_stays (Stmt-F.Change name op x) l env e after back k b =
      lookups.valued_stays look small (named name) (lookups.named_stays look small name) env e _ (λ old o. expressions.reading_stays look small x l env e _ (λ v w.
      computed_stays look (of_two (changing op) old v) (expressions.two_within (changing op) old v o w) env _ (λ u h. k (with_local name u env) (with_local_small env e name u h))))
  layer_stays (Stmt-F.If arms None) l env e after back k b =
      let own : Values = flat (map if_arm_literals (map (λ a. a.0) arms)) in
      arms_stay (map arm_done_by (map (λ a. a.0) arms)) (arms_are arms (each_left IsArgument own [] l)) None tt env.line env e after back k b
  layer_stays (Stmt-F.If arms (Some stmts)) l env e after back k b =
      let own : Values = flat (map if_arm_literals (map (λ a. a.0) arms)) in
      let more : Values = flat (map stmt_literals (map (λ s. s.0) stmts)) in
      arms_stay (map arm_done_by (map (λ a. a.0) arms)) (arms_are arms (each_left IsArgument own more l)) (Some (map done_by (map (λ s. s.0) stmts))) (stmts_are stmts (each_right IsArgument own more l)) env.line env e after back k b
  layer_stays (Stmt-F.For name over stmts) l env e after back k b =
      let more : Values = flat (map stmt_literals (map (λ s. s.0) stmts)) in
      expressions.reading_stays look small over (each_left IsArgument (literals_of over) more l) env e _ (λ v w. expressions.items_stay look small (items_of v) (items_of_within v w) env _ (λ items h.
      looped_stays name (map done_by (map (λ s. s.0) stmts)) (stmts_are stmts (each_right IsArgument (literals_of over) more l)) items h (env.line + 1) env e after back k b))

  arm_stays : (y : IfArm-F ((s : Stmt) × OfStmt s) ((a : IfArm) × OfIfArm a)) → OfIfArm (roll-IfArm (map-IfArm _ _ Stmt IfArm (λ s. s.0) (λ a. a.0) y))
  arm_stays y =
      let z : IfArm-F Stmt IfArm = map-IfArm _ _ Stmt IfArm (λ s. s.0) (λ a. a.0) y in
      let stmts : List Stmt = map (λ s. s.0) y.body in
      by_layer OfArmDoing (arm_doing (roll-IfArm z)) (reading y.test, map done_by stmts) (para-roll-IfArm Doing ArmDoing stmt_step arm_step z)
      (if_arm_literals (roll-IfArm z)) (literals_of y.test ++ flat (map stmt_literals stmts)) (fold-roll-IfArm Values Values literal.stmt_step literal.if_arm_step z)
      (λ l. (expressions.reading_stays look small y.test (each_left IsArgument (literals_of y.test) _ l), stmts_are y.body (each_right IsArgument (literals_of y.test) _ l)))

  stmt_of : (z : Stmt-F Stmt IfArm) → (Each IsArgument (stmt_values z) → OfDoing (done_layer z)) → OfStmt (roll-Stmt z)
  stmt_of z h =
      by_layer OfDoing (doing (roll-Stmt z)) (done_layer z) (para-roll-Stmt Doing ArmDoing stmt_step arm_step z)
      (stmt_literals (roll-Stmt z)) (stmt_values z) (fold-roll-Stmt Values Values literal.stmt_step literal.if_arm_step z) h

  stmt_stays : (s : Stmt) → OfStmt s
  stmt_stays = ind-Stmt OfStmt OfIfArm
      (λ x y is. subst (λ (z : Stmt-F Stmt IfArm). OfStmt (roll-Stmt z)) is (stmt_of (bare_stmt y) (layer_stays y)))
      (λ x y is. subst (λ (z : IfArm-F Stmt IfArm). OfIfArm (roll-IfArm z)) is (arm_stays y))

  all_stay : (stmts : List Stmt) → Each IsArgument (body_literals stmts) → Each OfDone (map done_by stmts)
  all_stay [] l = tt
  all_stay (s ∷ stmts) l = (stmt_stays s (each_left IsArgument (stmt_literals s) _ l), all_stay stmts (each_right IsArgument (stmt_literals s) _ l))

  -- the body of a formula whose literals are arguments
  pub body_stays : (stmts : List Stmt) → Each IsArgument (body_literals stmts) → (env : Env) → IsSmallEnv env → (back : Returned → Run) → ((x : Returned) → IsSmallReturned x → Stays look (back x)) → Stays look (body_done stmts env back)
  body_stays stmts l env e back b = done_stays (map done_by stmts) (all_stay stmts l) (first_line stmts) env e _ back (λ next n. b (Plain made.Nothing) nothing_within) b
