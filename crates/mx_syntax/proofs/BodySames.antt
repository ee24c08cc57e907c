-- `==` on statements and formulas says that the plain trees are the same.
use Rattle.std.proofs.Common.{◌≡◌, Bool, true, false, ◌&&◌, ◌==◌, ℕ, List, Option, None, Some, map, refl, sym, ap, subst, inl, inr, rules}
use Rattle.std.specs.Bool.{Decides}
use Rattle.std.specs.Option.{option_eq, option_map}
use Rattle.std.specs.Cmp.Lexicographic.{pointwise, pointwise_decides}
use denote.Enum.Declared.{Choice}
use denote.Enum.Compared.{Each, by}
use denote.Enum.Bare.{same_true, true_same}
use Rattle.mx_value.specs.declared.value.Value.{Value}
use Rattle.mx_value.specs.contracts.value.ValuePartialEq.TheImpl as value
use Rattle.mx_value.proofs.Enums.{DecidesAt, enum_decides, items_decide, both_decide, decides_as, last_field, more_fields, text_decides}
use Rattle.mx_value.proofs.Sames.{value_decides}
use Rattle.mx_syntax.specs.declared.expr.Expr.{Expr}
use Rattle.mx_syntax.specs.contracts.expr.ExprPartialEq.TheImpl as expr
use Rattle.mx_syntax.specs.declared.stmt.ArithOp.{ArithOp}
use Rattle.mx_syntax.specs.contracts.stmt.ArithOp as arith_type
use Rattle.mx_syntax.specs.contracts.stmt.ArithOpPartialEq.TheImpl as arith
use Rattle.mx_syntax.specs.declared.stmt.Stmt.{Stmt}
use Rattle.mx_syntax.specs.declared.stmt.Stmt.TheVariants as made
use Rattle.mx_syntax.specs.declared.stmt.IfArm.{IfArm, out-IfArm}
use Rattle.mx_syntax.specs.declared.stmt.Stmt.TheOpen.{Stmt-F, IfArm-F}
use Rattle.mx_syntax.specs.declared.stmt.Stmt.TheViews.{roll-Stmt, roll-IfArm}
use Rattle.mx_syntax.specs.declared.stmt.Stmt.TheBlock.{member-Stmt, member-IfArm}
use Rattle.mx_syntax.specs.declared.stmt.Stmt.TheFolds.{map-Stmt, map-IfArm, ind-Stmt, ind-IfArm}
use Rattle.mx_syntax.specs.contracts.stmt.Stmt as stmt_type
use Rattle.mx_syntax.specs.contracts.stmt.StmtPartialEq.TheImpl as stmt
use Rattle.mx_syntax.specs.contracts.stmt.StmtPartialEq.TheImpl.Laws as stmt_laws
use Rattle.mx_syntax.specs.contracts.stmt.IfArmPartialEq.TheImpl as if_arm
use Rattle.mx_syntax.specs.contracts.stmt.IfArmPartialEq.TheImpl.Laws as if_arm_laws
use Rattle.mx_syntax.specs.declared.stmt.ItemEntry.{ItemEntry}
use Rattle.mx_syntax.specs.declared.stmt.ItemEntry.TheVariants as entry_made
use Rattle.mx_syntax.specs.contracts.stmt.ItemEntry as entry_type
use Rattle.mx_syntax.specs.contracts.stmt.ItemEntryPartialEq.TheImpl as entry
use Rattle.mx_syntax.specs.declared.stmt.Param.{Param}
use Rattle.mx_syntax.specs.contracts.stmt.ParamPartialEq.TheImpl as param
use Rattle.mx_syntax.specs.declared.stmt.Formula.{Formula}
use Rattle.mx_syntax.specs.contracts.stmt.FormulaPartialEq.TheImpl as formula
use Rattle.mx_syntax.specs.declared.stmt.Params.{Params}
use Rattle.mx_syntax.specs.contracts.stmt.ParamsPartialEq.TheImpl as params
use Rattle.mx_syntax.proofs.TreeSames.{expr_decides}

pub arith_decides : (a b : ArithOp) → Decides ((arith.ghosts).eq a b) (a ≡ b)
arith_decides a b = (same_true arith_type.the_type (search rules) a b, true_same arith_type.the_type a b)

options_decide : {X : Type 0} {E : X → X → Bool} → ((x y : X) → Decides (E x y) (x ≡ y)) → (x y : Option X) → Decides (option_eq E x y) (x ≡ y)
options_decide d None None = (λ t. refl, λ e. refl)
options_decide d None (Some y) = (λ t. cc, λ e. cc)
options_decide d (Some x) None = (λ t. cc, λ e. cc)
options_decide d (Some x) (Some y) = decides_as (λ e. ap Some e) (λ e. let same : x ≡ y = cc in same) (d x y)

-- of a list that may be there
body_decides : {X : Type 0} (E : X → X → Bool) (xs : List ((x : X) × ((y : X) → Decides (E x y) (x ≡ y)))) (ys : Option (List X)) → Decides (option_eq (pointwise E) (Some (map (λ e. e.0) xs)) ys) (Some (map (λ e. e.0) xs) ≡ ys)
body_decides E xs None = (λ t. cc, λ e. cc)
body_decides E xs (Some ys) = decides_as (λ e. ap Some e) (λ e. let same : map (λ e. e.0) xs ≡ ys = cc in same) (items_decide E xs ys)

no_body_decides : {X : Type 0} (E : X → X → Bool) (ys : Option (List X)) → Decides (option_eq (pointwise E) None ys) (None ≡ ys)
no_body_decides E None = (λ t. refl, λ e. refl)
no_body_decides E (Some ys) = (λ t. cc, λ e. cc)

ref_decides : (x y : List ℕ × Expr) → Decides (pointwise ◌==◌ x.0 y.0 && (expr.ghosts).eq x.1 y.1) (x ≡ y)
ref_decides x y = more_fields _ _ x y (text_decides x.0 y.0) (expr_decides x.1 y.1)

abbrev each_entry : Each Bool entry_type.the_parts
each_entry = (
  (λ x y. pointwise (λ (p q : List ℕ × Expr). pointwise ◌==◌ p.0 q.0 && (expr.ghosts).eq p.1 q.1) x.0 y.0),
  ((λ x y. (expr.ghosts).eq x.0 y.0), tt),
)

entry_at : (a : ItemEntry) → DecidesAt entry_type.the_parts each_entry (entry_type.as_values a)
entry_at (entry_made.Refs refs) = λ y. last_field (refs, tt) y (pointwise_decides ref_decides refs y.0)
entry_at (entry_made.Base e) = λ y. last_field (e, tt) y (expr_decides e y.0)

pub entry_decides : (a b : ItemEntry) → Decides ((entry.ghosts).eq a b) (a ≡ b)
entry_decides a b = enum_decides entry_type.enum each_entry (entry_type.as_values a) (entry_at a) a b (entry_type.enum.eta a)

-- `==` decides about this one
abbrev OfStmt : Stmt → Type 0
OfStmt a = (b : Stmt) → Decides ((stmt.ghosts).eq a b) (a ≡ b)

abbrev OfIfArm : IfArm → Type 0
OfIfArm a = (b : IfArm) → Decides ((if_arm.ghosts).eq a b) (a ≡ b)

stmt_choice : Stmt-F Stmt IfArm → Choice stmt_type.the_parts
stmt_choice Stmt-F.Pass = inl tt
stmt_choice (Stmt-F.Return e) = inr (inl (e, tt))
stmt_choice (Stmt-F.ReturnItem entries) = inr (inr (inl (entries, tt)))
stmt_choice (Stmt-F.Assign name e) = inr (inr (inr (inl (name, (e, tt)))))
stmt_choice (Stmt-F.Change name op e) = inr (inr (inr (inr (inl (name, (op, (e, tt)))))))
stmt_choice (Stmt-F.If arms other) = inr (inr (inr (inr (inr (inl (arms, (other, tt)))))))
stmt_choice (Stmt-F.For name over body) = inr (inr (inr (inr (inr (inr (inl (name, (over, (body, tt)))))))))

stmt_made : (x : Stmt-F Stmt IfArm) → stmt_type.enum.make (stmt_choice x) ≡ roll-Stmt x
unfolding stmt_choice
stmt_made Stmt-F.Pass = sym made.rolls-Pass
stmt_made (Stmt-F.Return e) = sym (made.rolls-Return e)
stmt_made (Stmt-F.ReturnItem entries) = sym (made.rolls-ReturnItem entries)
stmt_made (Stmt-F.Assign name e) = sym (made.rolls-Assign name e)
stmt_made (Stmt-F.Change name op e) = sym (made.rolls-Change name op e)
stmt_made (Stmt-F.If arms other) = sym (made.rolls-If arms other)
stmt_made (Stmt-F.For name over body) = sym (made.rolls-For name over body)

abbrev each_stmt : Each Bool stmt_type.the_parts
each_stmt = (
  (λ x y. true),
  (
    (λ x y. option_eq (expr.ghosts).eq x.0 y.0),
    (
      (λ x y. pointwise (entry.ghosts).eq x.0 y.0),
      (
        (λ x y. pointwise ◌==◌ x.0 y.0 && (expr.ghosts).eq x.1.0 y.1.0),
        (
          (λ x y. pointwise ◌==◌ x.0 y.0 && ((arith.ghosts).eq x.1.0 y.1.0 && (expr.ghosts).eq x.1.1.0 y.1.1.0)),
          (
            (λ x y. pointwise (stmt_laws.family member-IfArm) x.0 y.0 && option_eq (pointwise (stmt_laws.family member-Stmt)) x.1.0 y.1.0),
            ((λ x y. pointwise ◌==◌ x.0 y.0 && ((expr.ghosts).eq x.1.0 y.1.0 && pointwise (stmt_laws.family member-Stmt) x.1.1.0 y.1.1.0)), tt),
          ),
        ),
      ),
    ),
  ),
)

stmt_at : (y : Stmt-F ((a : Stmt) × OfStmt a) ((a : IfArm) × OfIfArm a)) → DecidesAt stmt_type.the_parts each_stmt (stmt_choice (map-Stmt _ _ Stmt IfArm (λ e. e.0) (λ e. e.0) y))
unfolding stmt_choice
stmt_at Stmt-F.Pass = λ y. (λ t. refl, λ e. refl)
stmt_at (Stmt-F.Return e) = λ y. last_field (e, tt) y (options_decide expr_decides e y.0)
stmt_at (Stmt-F.ReturnItem entries) = λ y. last_field (entries, tt) y (pointwise_decides entry_decides entries y.0)
stmt_at (Stmt-F.Assign name e) = λ y. more_fields _ _ _ y (text_decides name y.0) (last_field (e, tt) y.1 (expr_decides e y.1.0))
stmt_at (Stmt-F.Change name op e) = λ y. more_fields _ _ _ y (text_decides name y.0) (more_fields _ _ _ y.1 (arith_decides op y.1.0) (last_field (e, tt) y.1.1 (expr_decides e y.1.1.0)))
stmt_at (Stmt-F.If arms None) = λ y. more_fields _ _ _ y (items_decide (stmt_laws.family member-IfArm) arms y.0) (last_field _ y.1 (no_body_decides (stmt_laws.family member-Stmt) y.1.0))
stmt_at (Stmt-F.If arms (Some body)) = λ y. more_fields _ _ _ y (items_decide (stmt_laws.family member-IfArm) arms y.0) (last_field _ y.1 (body_decides (stmt_laws.family member-Stmt) body y.1.0))
stmt_at (Stmt-F.For name over body) = λ y.
    more_fields _ _ _ y (text_decides name y.0) (more_fields _ _ _ y.1 (expr_decides over y.1.0) (last_field _ y.1.1 (items_decide (stmt_laws.family member-Stmt) body y.1.1.0)))

arm_at : (y : IfArm-F ((a : Stmt) × OfStmt a) ((a : IfArm) × OfIfArm a)) (b : IfArm) → Decides (if_arm_laws.unfolded (roll-IfArm (map-IfArm _ _ Stmt IfArm (λ e. e.0) (λ e. e.0) y)) b) (roll-IfArm (map-IfArm _ _ Stmt IfArm (λ e. e.0) (λ e. e.0) y) ≡ b)
arm_at y b =
    decides_as (λ p. λ i. roll-IfArm (record { test = p.0 i; body = p.1 i })) (λ e. (ap (λ a. (out-IfArm a).test) e, ap (λ a. (out-IfArm a).body) e))
    (both_decide _ _ (expr_decides y.test (out-IfArm b).test) (items_decide (if_arm_laws.family member-Stmt) y.body (out-IfArm b).body))

stmt_step : (x : Stmt-F Stmt IfArm) (y : Stmt-F ((a : Stmt) × OfStmt a) ((a : IfArm) × OfIfArm a)) → map-Stmt _ _ Stmt IfArm (λ e. e.0) (λ e. e.0) y ≡ x → OfStmt (roll-Stmt x)
stmt_step x y is b =
    let at = subst (λ (z : Stmt-F Stmt IfArm). DecidesAt stmt_type.the_parts each_stmt (stmt_choice z)) is (stmt_at y) in
    let d = enum_decides stmt_type.enum each_stmt (stmt_choice x) at (roll-Stmt x) b (stmt_made x) in
    subst (λ (t : Bool). Decides t (roll-Stmt x ≡ b)) (sym (stmt_laws.is (roll-Stmt x) b)) d

arm_step : (x : IfArm-F Stmt IfArm) (y : IfArm-F ((a : Stmt) × OfStmt a) ((a : IfArm) × OfIfArm a)) → map-IfArm _ _ Stmt IfArm (λ e. e.0) (λ e. e.0) y ≡ x → OfIfArm (roll-IfArm x)
arm_step x y is b =
    let d = subst (λ (z : IfArm-F Stmt IfArm). Decides (if_arm_laws.unfolded (roll-IfArm z) b) (roll-IfArm z ≡ b)) is (arm_at y b) in
    subst (λ (t : Bool). Decides t (roll-IfArm x ≡ b)) (sym (if_arm_laws.is (roll-IfArm x) b)) d

pub stmt_decides : (a b : Stmt) → Decides ((stmt.ghosts).eq a b) (a ≡ b)
stmt_decides = ind-Stmt OfStmt OfIfArm stmt_step arm_step

pub arm_decides : (a b : IfArm) → Decides ((if_arm.ghosts).eq a b) (a ≡ b)
arm_decides = ind-IfArm OfStmt OfIfArm stmt_step arm_step

pub param_decides : (a b : Param) → Decides ((param.ghosts).eq a b) (a ≡ b)
param_decides a b =
    let there : (a.name ≡ b.name) × (a.default ≡ b.default) → a ≡ b = λ p i. record { name = p.0 i; default = p.1 i } in
    let back : a ≡ b → (a.name ≡ b.name) × (a.default ≡ b.default) = λ e. (ap (λ n. n.name) e, ap (λ n. n.default) e) in
    decides_as there back (both_decide _ _ (text_decides a.name b.name) (options_decide value_decides a.default b.default))

pub formula_decides : (a b : Formula) → Decides ((formula.ghosts).eq a b) (a ≡ b)
formula_decides a b =
    let there : (a.params ≡ b.params) × (a.body ≡ b.body) → a ≡ b = λ p i. record { params = p.0 i; body = p.1 i } in
    let back : a ≡ b → (a.params ≡ b.params) × (a.body ≡ b.body) = λ e. (ap (λ n. n.params) e, ap (λ n. n.body) e) in
    decides_as there back (both_decide _ _ (pointwise_decides param_decides a.params b.params) (pointwise_decides stmt_decides a.body b.body))

pub params_decide : (a b : Params) → Decides ((params.ghosts).eq a b) (a ≡ b)
params_decide a b =
    let there : (a.params ≡ b.params) × (a.body ≡ b.body) → a ≡ b = λ p i. record { params = p.0 i; body = p.1 i } in
    let back : a ≡ b → (a.params ≡ b.params) × (a.body ≡ b.body) = λ e. (ap (λ n. n.params) e, ap (λ n. n.body) e) in
    decides_as there back (both_decide _ _ (pointwise_decides param_decides a.params b.params) (options_decide (pointwise_decides stmt_decides) a.body b.body))
