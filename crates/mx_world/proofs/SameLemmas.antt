-- Two results of keys are the same exactly where their parts are.
use Rattle.std.proofs.Common.{◌≡◌, [], Bool, true, false, refl, sym, ◌∙◌, ap, subst}
use Rattle.std.specs.Prelude.{IsTrue, ◌↔◌}
use Rattle.std.specs.Bool.{Decides}
use mathlib.Core.Bool.{beq}
use Rattle.mx_value.specs.declared.value.Value.{Value}
use Rattle.mx_value.specs.Name.{same_path}
use Rattle.mx_value.specs.contracts.value.ValuePartialEq.TheImpl as value
use Rattle.mx_value.proofs.Sames.{value_decides}
use Rattle.mx_value.proofs.NodeSames.{path_decides}
use Rattle.mx_syntax.specs.declared.stmt.Formula.{Formula}
use Rattle.mx_syntax.specs.declared.stmt.Params.{Params}
use Rattle.mx_syntax.specs.Equality.{formula_eq, params_eq}
use Rattle.mx_syntax.proofs.BodySames.{formula_decides, params_decide}
use Rattle.mx_edit.specs.declared.reference.RefValue.{RefValue}
use Rattle.mx_edit.specs.declared.key.KeyResult.{KeyResult}
use Rattle.mx_edit.specs.declared.key.KeyResult.TheVariants as found
use Rattle.mx_edit.specs.Rows.{TableRows}
use Rattle.mx_edit.specs.Equality.{ref_value_eq, table_eq}
use Rattle.mx_edit.proofs.Results.{ref_value_decides}
use Rattle.mx_edit.proofs.TableSames.{table_decides}
use Rattle.mx_model.specs.Records.{Path}

-- one part
by_part : {X : Type 0} (tell : X → KeyResult) (x y : X) (test result : Bool) (one other : KeyResult) → Decides test (x ≡ y) → (tell x ≡ tell y → x ≡ y) → result ≡ test → one ≡ tell x → other ≡ tell y → IsTrue result ↔ (one ≡ other)
by_part tell x y test result one other decides part r e f = (
  λ t. e ∙ ap tell (decides.0 (sym r ∙ t)) ∙ sym f,
  λ s. r ∙ decides.1 (part (sym e ∙ s ∙ f)),
)

pub same_values : (x y : Value) (result : Bool) (one other : KeyResult) → result ≡ (value.ghosts).eq x y → one ≡ found.Value x → other ≡ found.Value y → IsTrue result ↔ (one ≡ other)
same_values x y result one other r e f = by_part (λ v. found.Value v) x y ((value.ghosts).eq x y) result one other (value_decides x y) (λ s. let p : x ≡ y = cc in p) r e f

pub same_params : (x y : Params) (result : Bool) (one other : KeyResult) → result ≡ params_eq x y → one ≡ found.Params x → other ≡ found.Params y → IsTrue result ↔ (one ≡ other)
same_params x y result one other r e f = by_part (λ v. found.Params v) x y (params_eq x y) result one other (params_decide x y) (λ s. let p : x ≡ y = cc in p) r e f

pub same_globals : (x y : RefValue) (result : Bool) (one other : KeyResult) → result ≡ ref_value_eq x y → one ≡ found.Ref x [] → other ≡ found.Ref y [] → IsTrue result ↔ (one ≡ other)
same_globals x y result one other r e f = by_part (λ v. found.Ref v []) x y (ref_value_eq x y) result one other (ref_value_decides x y) (λ s. let p : x ≡ y = cc in p) r e f

pub same_tables : (x y : TableRows) (result : Bool) (one other : KeyResult) → result ≡ table_eq x y → one ≡ found.Table x → other ≡ found.Table y → IsTrue result ↔ (one ≡ other)
same_tables x y result one other r e f = by_part (λ v. found.Table v) x y (table_eq x y) result one other (table_decides x y) (λ s. let p : x ≡ y = cc in p) r e f

-- ---- two parts

no_truth : (b : Bool) → b ≡ true → b ≡ false → ⊥
no_truth b t f = let g : true ≡ false = sym t ∙ f in cc

-- the first part decides where it differs
by_first : {X : Type 0} (x y : X) (test result : Bool) (one other : KeyResult) → Decides test (x ≡ y) → (one ≡ other → x ≡ y) → result ≡ test → result ≡ false → IsTrue result ↔ (one ≡ other)
by_first x y test result one other decides part r differs = (
  λ t. absurd (no_truth result t differs),
  λ s. absurd (no_truth result (r ∙ decides.1 (part s)) differs),
)

beq_is : (a b : Bool) → beq a b ≡ true → a ≡ b
beq_is true true e = refl
beq_is true false e = absurd (let f : false ≡ true = e in cc)
beq_is false true e = absurd (let f : false ≡ true = e in cc)
beq_is false false e = refl

beq_own : (a : Bool) → beq a a ≡ true
beq_own true = refl
beq_own false = refl

is_beq : (a b : Bool) → a ≡ b → beq a b ≡ true
is_beq a b e = subst (λ (c : Bool). beq a c ≡ true) e (beq_own a)

pub same_formulas : (x y : Formula) (a b : Bool) (test : Bool) (one other : KeyResult) → test ≡ formula_eq x y → test ≡ true → one ≡ found.Formula x a → other ≡ found.Formula y b → IsTrue (beq a b) ↔ (one ≡ other)
same_formulas x y a b test one other t holds e f =
    let same = (formula_decides x y).0 (sym t ∙ holds) in
    by_part (λ allow. found.Formula x allow) a b (beq a b) (beq a b) one other ((λ i. beq_is a b i), (λ i. is_beq a b i)) (λ s. let p : a ≡ b = cc in p) refl e (f ∙ ap (λ (g : Formula). found.Formula g b) (sym same))

pub other_formulas : (x y : Formula) (a b : Bool) (test : Bool) (one other : KeyResult) → test ≡ formula_eq x y → test ≡ false → one ≡ found.Formula x a → other ≡ found.Formula y b → IsTrue test ↔ (one ≡ other)
other_formulas x y a b test one other t differs e f =
    by_first x y (formula_eq x y) test one other (formula_decides x y) (λ s. let i : found.Formula x a ≡ found.Formula y b = sym e ∙ s ∙ f in let p : x ≡ y = cc in p) t differs

pub same_references : (x y : RefValue) (p q : Path) (test result : Bool) (one other : KeyResult) → test ≡ ref_value_eq x y → test ≡ true → result ≡ same_path p q → one ≡ found.Ref x p → other ≡ found.Ref y q → IsTrue result ↔ (one ≡ other)
same_references x y p q test result one other t holds r e f =
    let same = (ref_value_decides x y).0 (sym t ∙ holds) in
    by_part (λ owner. found.Ref x owner) p q (same_path p q) result one other (path_decides p q) (λ s. let i : p ≡ q = cc in i) r e (f ∙ ap (λ (v : RefValue). found.Ref v q) (sym same))

pub other_references : (x y : RefValue) (p q : Path) (test : Bool) (one other : KeyResult) → test ≡ ref_value_eq x y → test ≡ false → one ≡ found.Ref x p → other ≡ found.Ref y q → IsTrue test ↔ (one ≡ other)
other_references x y p q test one other t differs e f =
    by_first x y (ref_value_eq x y) test one other (ref_value_decides x y) (λ s. let i : found.Ref x p ≡ found.Ref y q = sym e ∙ s ∙ f in let j : x ≡ y = cc in j) t differs
