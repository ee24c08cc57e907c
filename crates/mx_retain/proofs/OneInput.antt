-- An edit of an input changes no other input.
use Rattle.std.proofs.Common.{◌≡◌, Bool, true, false, cond, List, [], ◌∷◌, Option, Some, None, Result, Ok, Err, IfOk, inl, refl, sym, ◌∙◌, ap, subst}
use Rattle.std.specs.Prelude.{if◌then◌else◌}
use Rattle.std.specs.Map.{lookup}
use Rattle.mx_value.specs.declared.value.Value.{Value}
use Rattle.mx_value.specs.declared.value.Segment.{Segment}
use Rattle.mx_value.specs.declared.node.Node.{Node}
use Rattle.mx_value.specs.declared.node.Node.TheVariants as node
use Rattle.mx_value.proofs.NodeSames.{node_decides}
use Rattle.mx_edit.specs.declared.edit.Edit.{Edit}
use Rattle.mx_edit.specs.declared.edit.Edit.TheVariants as edit
use Rattle.mx_edit.specs.declared.key.Key.TheVariants.{Input}
use Rattle.mx_vertices.specs.Places.{Has}
use Rattle.mx_vertices.specs.Inputs.{AreChanged}
use Rattle.mx_model.specs.Records.{Name, ModelRecord}
use Rattle.mx_model.specs.Keys.{node_eq, input_of, value_of, key_result, is_changed}
use Rattle.mx_model.specs.Change.{define, without, bound_at, bound_edit, change}
use Rattle.mx_model.specs.Inputs.{cells_params, path_of}
use Rattle.mx_model.specs.Refused.{do_not_bind, record_trouble}
use Rattle.mx_model.specs.Apply.{Apply, IsAccepted, changed}
use Rattle.mx_model.specs.Valid.{Valid}
use Rattle.mx_model.specs.Laws.{ChangesAreTold}
use Rattle.mx_changes.proofs.Free.{free_of}
use Rattle.mx_whole_edits.specs.Whole.{is_of_input}
use Rattle.mx_whole_edits.proofs.InputEdits.{all_stay}
use Rattle.mx_retain.specs.Changed.{one_changed}
use Rattle.mx_retain.proofs.Changed.{one_is}

abbrev Inputs : Type 0
Inputs = List (Node × Value)

pub if_ok : {X E : Type 0} {P Q : X → Type 0} (r : Result X E) → ((x : X) → P x → Q x) → IfOk r P → IfOk r Q
if_ok (Ok x) f h = f x h
if_ok (Err e) f h = h

-- ---- what is found under other nodes

apart_by : (a b : Node) (t : Bool) → node_eq a b ≡ t → (a ≡ b → ⊥) → t ≡ false
apart_by a b false e unlike = refl
apart_by a b true e unlike = absurd (unlike ((node_decides a b).0 e))

skip : (m : Node) (e : Node × Value) (es : Inputs) → (m ≡ e.0 → ⊥) → lookup (node_eq m) (e ∷ es) ≡ lookup (node_eq m) es
skip m e es unlike = ap (λ b. cond b (Some e.1) (lookup (node_eq m) es)) (apart_by m e.0 (node_eq m e.0) refl unlike)

define_by : (b : Bool) (n m : Node) (v : Value) (e : Node × Value) (es : Inputs) → node_eq n e.0 ≡ b → (n ≡ m → ⊥) → lookup (node_eq m) (define node_eq es n v) ≡ lookup (node_eq m) es → lookup (node_eq m) (if b then (e.0, v) ∷ es else e ∷ define node_eq es n v) ≡ lookup (node_eq m) (e ∷ es)
define_by true n m v e es q unlike rest =
    let at : m ≡ e.0 → ⊥ = λ is. unlike ((node_decides n e.0).0 q ∙ sym is) in
    skip m (e.0, v) es at ∙ sym (skip m e es at)
define_by false n m v e es q unlike rest = ap (λ (o : Option Value). cond (node_eq m e.0) (Some e.1) o) rest

define_other : (n m : Node) (v : Value) (es : Inputs) → (n ≡ m → ⊥) → lookup (node_eq m) (define node_eq es n v) ≡ lookup (node_eq m) es
define_other n m v [] unlike = skip m (n, v) [] (λ is. unlike (sym is))
define_other n m v (e ∷ es) unlike = define_by (node_eq n e.0) n m v e es refl unlike (define_other n m v es unlike)

without_by : (b : Bool) (n m : Node) (e : Node × Value) (es : Inputs) → node_eq n e.0 ≡ b → (n ≡ m → ⊥) → lookup (node_eq m) (without node_eq es n) ≡ lookup (node_eq m) es → lookup (node_eq m) (if b then es else e ∷ without node_eq es n) ≡ lookup (node_eq m) (e ∷ es)
without_by true n m e es q unlike rest = sym (skip m e es (λ is. unlike ((node_decides n e.0).0 q ∙ sym is)))
without_by false n m e es q unlike rest = ap (λ (o : Option Value). cond (node_eq m e.0) (Some e.1) o) rest

without_other : (n m : Node) (es : Inputs) → (n ≡ m → ⊥) → lookup (node_eq m) (without node_eq es n) ≡ lookup (node_eq m) es
without_other n m [] unlike = refl
without_other n m (e ∷ es) unlike = without_by (node_eq n e.0) n m e es refl unlike (without_other n m es unlike)

-- ---- an edit of an input

-- where it is accepted, its arguments bind, and the new text differs in this input alone
pub record ChangesInput (text made : ModelRecord) (at : List Segment) (name : Name) (args : List Value) : Type 0 where
  pub binds : do_not_bind (cells_params text (path_of at) name) args ≡ false
  pub others : (m : Node) → (node.Cell at name (bound_at text at name args) ≡ m → ⊥) → input_of made m ≡ input_of text m

set_changes : (text : ModelRecord) (at : List Segment) (name : Name) (args : List Value) (value : Value) → Valid text → record_trouble text (edit.SetInput at name args value) ≡ None → ChangesInput text (changed text (edit.SetInput at name args value)) at name args
set_changes text at name args value valid none =
    let e = edit.SetInput at name args value in
    let n = node.Cell at name (bound_at text at name args) in
    let stay = all_stay text (change text (bound_edit text e)) e refl none refl valid.inputs in
    record {
      binds = (free_of text e none).count;
      others = λ m unlike. ap (λ (t : ModelRecord). input_of t m) (sym stay) ∙ define_other n m value text.inputs unlike;
    }

pub set_told : (text made : ModelRecord) (at : List Segment) (name : Name) (args : List Value) (value : Value) → Valid text → Apply text (edit.SetInput at name args value) (Ok made) → ChangesInput text made at name args
set_told text made at name args value valid (IsAccepted none counted meets) = set_changes text at name args value valid none

del_changes : (text : ModelRecord) (at : List Segment) (name : Name) (args : List Value) → Valid text → record_trouble text (edit.DelInput at name args) ≡ None → ChangesInput text (changed text (edit.DelInput at name args)) at name args
del_changes text at name args valid none =
    let e = edit.DelInput at name args in
    let n = node.Cell at name (bound_at text at name args) in
    let stay = all_stay text (change text (bound_edit text e)) e refl none refl valid.inputs in
    record {
      binds = (free_of text e none).count;
      others = λ m unlike. ap (λ (t : ModelRecord). input_of t m) (sym stay) ∙ without_other n m text.inputs unlike;
    }

pub del_told : (text made : ModelRecord) (at : List Segment) (name : Name) (args : List Value) → Valid text → Apply text (edit.DelInput at name args) (Ok made) → ChangesInput text made at name args
del_told text made at name args valid (IsAccepted none counted meets) = del_changes text at name args valid none

-- ---- the node, where its input differs

module _ (text made : ModelRecord) (told : ChangesAreTold) (n : Node) (others : (m : Node) → (n ≡ m → ⊥) → input_of made m ≡ input_of text m) where
  abbrev test : Node → Bool
  test m = is_changed text made (Input m)

  same_key : (m : Node) → (n ≡ m → ⊥) → key_result text (Input m) ≡ key_result made (Input m)
  same_key m unlike = ap value_of (sym (others m unlike))

  only_by : (m : Node) (b : Bool) → node_eq n m ≡ b → test m ≡ true → n ≡ m
  only_by m true e t = (node_decides n m).0 e
  only_by m false e t =
      absurd ((told text made (Input m)).0 t (same_key m (λ is. let f : true ≡ false = sym ((node_decides n m).1 is) ∙ e in cc)))

  has_one : (m : Node) → test m ≡ true → n ≡ m → Has (one_changed text made n) m
  has_one m t is =
      let passes : test n ≡ true = subst (λ (x : Node). test x ≡ true) (sym is) t in
      subst (λ (xs : List Node). Has xs m) (sym (ap (λ (b : Bool). cond b (n ∷ []) []) passes)) (inl is)

  pub one_told : (nodes : List Node) → nodes ≡ one_changed text made n → AreChanged (is_changed text made) nodes
  one_told nodes is m = (
    λ h. one_is text made told n m (test n) refl (subst (λ (xs : List Node). Has xs m) is h),
    λ t. subst (λ (xs : List Node). Has xs m) (sym is) (has_one m t (only_by m (node_eq n m) refl t)),
  )
