-- The instructions of a statement do what it means: the forms, put together over the trees.
use Rattle.std.proofs.Common.{◌≡◌, ℕ, ◌+◌, List, [], ◌∷◌, ◌++◌, length, map, Option, Some, None, refl, sym, ap, subst, arith, length-append}
use Rattle.mx_value.specs.declared.label.Label.{Label}
use Rattle.mx_syntax.specs.declared.stmt.Stmt.{Stmt, fold-roll-Stmt}
use Rattle.mx_syntax.specs.declared.stmt.IfArm.{IfArm, para-IfArm, fold-roll-IfArm, para-roll-IfArm}
use Rattle.mx_syntax.specs.declared.stmt.Stmt.TheOpen.{Stmt-F, IfArm-F}
use Rattle.mx_syntax.specs.declared.stmt.Stmt.TheViews.{roll-Stmt, roll-IfArm}
use Rattle.mx_syntax.specs.declared.stmt.Stmt.TheFolds.{para-roll-Stmt, map-Stmt, map-IfArm, ind-Stmt}
use Rattle.mx_syntax.specs.Heights.{height, arm_height}
use Rattle.mx_syntax.specs.Lists.{flat}
use Rattle.mx_syntax.specs.Locals.{bound_by, arm_bound}
use Rattle.mx_syntax.specs.Locals as locals
use Rattle.mx_meaning.specs.Environments.{at_line}
use Rattle.mx_meaning.specs.Statements.{Doing, Done, ArmDoing, doing, done_by, done_from, other_from, arms_from}
use Rattle.mx_meaning.specs.Statements as meant
use Rattle.mx_code.specs.declared.action.Instr.{Instr}
use Rattle.mx_code.specs.declared.action.Local.{Local}
use Rattle.mx_code.specs.Expressions.{Coded, expr_code}
use Rattle.mx_code.specs.Statements.{ArmCode, stmt_step, arm_step, stmt_code, coded, body_code, other_code, branches_code}
use Rattle.mx_code_law.specs.States.{Home}
use Rattle.mx_code_law.specs.Fits.{IsScope, Fits, HavePlaces, DoesFit}
use Rattle.mx_code_law.proofs.Places.{has_front, has_back}
use Rattle.mx_code_law.proofs.Steps.{moved}
use Rattle.mx_code_law.proofs.Trees.{expr_fits}
use Rattle.mx_code_law.proofs.Bodies.{nothing_fits, returns_fit, displays_fit, assign_fits, change_fits, choice_does, none_fits, loops_fit}

places_front : (scope : List Local) (xs ys : List Label) → HavePlaces scope (xs ++ ys) → HavePlaces scope xs
places_front scope [] ys h = tt
places_front scope (x ∷ xs) ys h = (h.0, places_front scope xs ys h.1)

places_back : (scope : List Local) (xs ys : List Label) → HavePlaces scope (xs ++ ys) → HavePlaces scope ys
places_back scope [] ys h = h
places_back scope (x ∷ xs) ys h = places_back scope xs ys h.1

abbrev arm_doing : IfArm → ArmDoing
arm_doing = para-IfArm Doing ArmDoing meant.stmt_step meant.arm_step

abbrev arm_done_by : IfArm → IfArm × ArmDoing
arm_done_by a = (a, arm_doing a)

abbrev arm_code : IfArm → ArmCode
arm_code = para-IfArm Coded ArmCode stmt_step arm_step

abbrev arm_coded : IfArm → IfArm × ArmCode
arm_coded a = (a, arm_code a)

module _ (code : List Instr) (h : Home) (size : ℕ) where
  abbrev OfStmt : Stmt → Type 0
  OfStmt s = (scope : List Local) (line : ℕ) → IsScope scope → HavePlaces scope (bound_by s) → DoesFit code h size scope (stmt_code s scope line) (λ env. doing s (at_line line env))

  -- a test at a line, and statements from a line on
  abbrev ArmFits : ArmCode → ArmDoing → List Label → Type 0
  ArmFits c d names =
      ((scope : List Local) (line : ℕ) → IsScope scope → Fits code h size scope line (c.0 scope line) d.0) × ((scope : List Local) (line : ℕ) → IsScope scope → HavePlaces scope names → DoesFit code h size scope (body_code c.1 scope line) (done_from d.1 line))

  abbrev OfArm : IfArm → Type 0
  OfArm a = ArmFits (arm_code a) (arm_doing a) (arm_bound a)

  abbrev Stmts : Type 0
  Stmts = List ((s : Stmt) × OfStmt s)

  abbrev bare_stmts : Stmts → List Stmt
  bare_stmts body = map (λ s. s.0) body

  abbrev Arms : Type 0
  Arms = List ((a : IfArm) × OfArm a)

  abbrev bare_arms : Arms → List IfArm
  bare_arms arms = map (λ a. a.0) arms

  pub bodies_fit : (body : Stmts) (scope : List Local) (line : ℕ) → IsScope scope → HavePlaces scope (flat (map bound_by (bare_stmts body))) → DoesFit code h size scope (body_code (map coded (bare_stmts body)) scope line) (done_from (map done_by (bare_stmts body)) line)
  bodies_fit [] scope line sc p pc stack ls l ms after back has st r k = moved code h _ _ stack ls _ (omega arith) (k l ms ls st)
  bodies_fit (s ∷ body) scope line sc p pc stack ls l ms after back has st r k =
      let c = stmt_code s.0 scope line in
      let rest = body_code (map coded (bare_stmts body)) scope (line + height s.0) in
      let end : pc + length c + length rest ≡ pc + length (body_code (map coded (bare_stmts (s ∷ body))) scope line) = omega (arith, length-append c rest) in
      s.1 scope line sc (places_front scope (bound_by s.0) _ p) pc stack ls l ms _ back (has_front code size pc c _ has) st r (λ m more ns sn.
      bodies_fit body scope (line + height s.0) sc (places_back scope (bound_by s.0) _ p) (pc + length c) stack ns m more after back (has_back code size pc c _ has) sn r (λ n all os so. moved code h _ _ stack os _ end (k n all os so)))

  abbrev other_stmts : Option Stmts → Option (List Stmt)
  other_stmts None = None
  other_stmts (Some body) = Some (bare_stmts body)

  abbrev other_coded : Option (List Stmt) → Option (List (Stmt × Coded))
  other_coded None = None
  other_coded (Some body) = Some (map coded body)

  abbrev other_done : Option (List Stmt) → Option (List Done)
  other_done None = None
  other_done (Some body) = Some (map done_by body)

  abbrev other_bound : Option (List Stmt) → List Label
  other_bound None = []
  other_bound (Some body) = flat (map bound_by body)

  others_fit : (other : Option Stmts) (scope : List Local) (line : ℕ) → IsScope scope → HavePlaces scope (other_bound (other_stmts other)) → DoesFit code h size scope (other_code (other_coded (other_stmts other)) scope line) (other_from (other_done (other_stmts other)) line)
  others_fit None scope line sc p = none_fits code h size scope
  others_fit (Some body) scope line sc p = bodies_fit body scope (line + 1) sc p

  branches_fit : (arms : Arms) (other : Option Stmts) (scope : List Local) (line : ℕ) → IsScope scope → HavePlaces scope (flat (map arm_bound (bare_arms arms))) → HavePlaces scope (other_bound (other_stmts other))
      → DoesFit code h size scope (branches_code (map arm_coded (bare_arms arms)) (other_coded (other_stmts other)) scope line) (arms_from (map arm_done_by (bare_arms arms)) (other_done (other_stmts other)) line)
  branches_fit [] other scope line sc p q = others_fit other scope line sc q
  branches_fit (a ∷ arms) other scope line sc p q =
      let next = line + arm_height a.0 in
      let oc = other_coded (other_stmts other) in
      let od = other_done (other_stmts other) in
      choice_does code h size (arm_doing a.0).0 (done_from (arm_doing a.0).1 (line + 1)) (arms_from (map arm_done_by (bare_arms arms)) od next) ((arm_code a.0).0 scope line) (body_code (arm_code a.0).1 scope (line + 1)) (branches_code (map arm_coded (bare_arms arms)) oc scope next) scope line
      (a.1.0 scope line sc) (a.1.1 scope (line + 1) sc (places_front scope (arm_bound a.0) _ p))
      (branches_fit arms other scope next sc (places_back scope (arm_bound a.0) _ p) q)

  -- what is done does not depend on the line before it
  at_lines : (scope : List Local) (c : List Instr) (d : Doing) (line : ℕ) → DoesFit code h size scope c d → DoesFit code h size scope c (λ env. d (at_line line env))
  at_lines scope c d line f pc stack ls l ms after back has st r k = f pc stack ls line ms after back has st r k

  abbrev Layer : Type 0
  Layer = Stmt-F ((s : Stmt) × OfStmt s) ((a : IfArm) × OfArm a)

  abbrev bare : Layer → Stmt-F Stmt IfArm
  bare y = map-Stmt _ _ Stmt IfArm (λ s. s.0) (λ a. a.0) y

  abbrev code_layer : Stmt-F Stmt IfArm → Coded
  code_layer z = stmt_step (map-Stmt Stmt IfArm (Stmt × Coded) (IfArm × ArmCode) coded arm_coded z)

  abbrev done_layer : Stmt-F Stmt IfArm → Doing
  done_layer z = meant.stmt_step (map-Stmt Stmt IfArm (Stmt × Doing) (IfArm × ArmDoing) done_by arm_done_by z)

  abbrev bound_layer : Stmt-F Stmt IfArm → List Label
  bound_layer z = locals.stmt_step (map-Stmt Stmt IfArm (List Label) (List Label) bound_by arm_bound z)

  layer_fits : (y : Layer) (scope : List Local) (line : ℕ) → IsScope scope → HavePlaces scope (bound_layer (bare y)) → DoesFit code h size scope (code_layer (bare y) scope line) (λ env. done_layer (bare y) (at_line line env))
  layer_fits Stmt-F.Pass scope line sc p = at_lines scope [] (λ env after back. after env) line (none_fits code h size scope)
  layer_fits (Stmt-F.Return None) scope line sc p = nothing_fits code h size scope line
  layer_fits (Stmt-F.Return (Some e)) scope line sc p = returns_fit code h size e scope line sc
  layer_fits (Stmt-F.ReturnItem entries) scope line sc p = displays_fit code h size entries scope line sc
  layer_fits (Stmt-F.Assign name e) scope line sc p = assign_fits code h size name e scope line sc p.0
  layer_fits (Stmt-F.Change name op e) scope line sc p = change_fits code h size name op e scope line sc p.0
  layer_fits (Stmt-F.If arms None) scope line sc p = at_lines scope _ (arms_from (map arm_done_by (bare_arms arms)) None line) line (branches_fit arms None scope line sc (places_front scope _ _ p) tt)
  layer_fits (Stmt-F.If arms (Some body)) scope line sc p =
      let names = flat (map arm_bound (bare_arms arms)) in
      at_lines scope _ (arms_from (map arm_done_by (bare_arms arms)) (Some (map done_by (bare_stmts body))) line) line (branches_fit arms (Some body) scope line sc (places_front scope names _ p) (places_back scope names _ p))
  layer_fits (Stmt-F.For name over body) scope line sc p =
      loops_fit code h size name over p.0.0 scope line sc p.0.1 (map done_by (bare_stmts body)) (body_code (map coded (bare_stmts body)) scope (line + 1)) (bodies_fit body scope (line + 1) sc p.1)

  as_layer : (z : Stmt-F Stmt IfArm) → ((scope : List Local) (line : ℕ) → IsScope scope → HavePlaces scope (bound_layer z) → DoesFit code h size scope (code_layer z scope line) (λ env. done_layer z (at_line line env))) → OfStmt (roll-Stmt z)
  as_layer z f scope line sc p =
      let c = para-roll-Stmt Coded ArmCode stmt_step arm_step z in
      let d = para-roll-Stmt Doing ArmDoing meant.stmt_step meant.arm_step z in
      let b = fold-roll-Stmt (List Label) (List Label) locals.stmt_step locals.arm_step z in
      subst (λ (x : Coded). DoesFit code h size scope (x scope line) (λ env. doing (roll-Stmt z) (at_line line env))) (sym c)
      (subst (λ (x : Doing). DoesFit code h size scope (code_layer z scope line) (λ env. x (at_line line env))) (sym d) (f scope line sc (subst (HavePlaces scope) b p)))

  arm_fits : (y : IfArm-F ((s : Stmt) × OfStmt s) ((a : IfArm) × OfArm a)) → OfArm (roll-IfArm (map-IfArm _ _ Stmt IfArm (λ s. s.0) (λ a. a.0) y))
  arm_fits y =
      let z : IfArm-F Stmt IfArm = map-IfArm _ _ Stmt IfArm (λ s. s.0) (λ a. a.0) y in
      let c = para-roll-IfArm Coded ArmCode stmt_step arm_step z in
      let d = para-roll-IfArm Doing ArmDoing meant.stmt_step meant.arm_step z in
      let b = fold-roll-IfArm (List Label) (List Label) locals.stmt_step locals.arm_step z in
      subst (λ (x : ArmCode). ArmFits x (arm_doing (roll-IfArm z)) (arm_bound (roll-IfArm z))) (sym c)
      (subst (λ (x : ArmDoing). ArmFits (expr_code y.test, map coded (bare_stmts y.body)) x (arm_bound (roll-IfArm z))) (sym d)
      ((λ scope line sc. expr_fits code h size y.test scope line sc), (λ scope line sc p. bodies_fit y.body scope line sc (subst (HavePlaces scope) b p))))

  -- each statement's instructions do what it means
  pub stmt_fits : (s : Stmt) → OfStmt s
  stmt_fits = ind-Stmt OfStmt OfArm
      (λ x y is. subst (λ (z : Stmt-F Stmt IfArm). OfStmt (roll-Stmt z)) is (as_layer (bare y) (layer_fits y)))
      (λ x y is. subst (λ (z : IfArm-F Stmt IfArm). OfArm (roll-IfArm z)) is (arm_fits y))

  all_fit : List Stmt → Stmts
  all_fit [] = []
  all_fit (s ∷ body) = (s, stmt_fits s) ∷ all_fit body

  all_bare : (body : List Stmt) → bare_stmts (all_fit body) ≡ body
  unfolding all_fit
  all_bare [] = refl
  all_bare (s ∷ body) = ap (λ more. s ∷ more) (all_bare body)

  -- the statements of a body, the first at the line
  pub body_fits : (body : List Stmt) (scope : List Local) (line : ℕ) → IsScope scope → HavePlaces scope (flat (map bound_by body)) → DoesFit code h size scope (body_code (map coded body) scope line) (done_from (map done_by body) line)
  body_fits body scope line sc =
      subst (λ (b : List Stmt). HavePlaces scope (flat (map bound_by b)) → DoesFit code h size scope (body_code (map coded b) scope line) (done_from (map done_by b) line)) (all_bare body) (bodies_fit (all_fit body) scope line sc)
