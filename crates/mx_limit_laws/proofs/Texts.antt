-- What keys lead to in a valid text with small literals.
use Rattle.std.proofs.Common.{◌≡◌, ◌≤◌, Bool, true, false, ◌||◌, not, nat_lt, if◌then◌else◌, ℕ, List, [], ◌∷◌, ◌++◌, Option, None, Some, inl, inr, refl, arith}
use Rattle.std.specs.Prelude.{option_and_then, is_some}
use Rattle.std.specs.Option.{option_or}
use Rattle.std.specs.Map.{lookup}
use Rattle.std.proofs.lemmas.Bool.Decides.{nat_tests}
use Rattle.mx_value.specs.Name.{same_name}
use Rattle.mx_value.specs.Plain.{is_plain}
use Rattle.mx_value.specs.Nesting.{nesting_of}
use Rattle.mx_value.specs.declared.value.Value.{Value}
use Rattle.mx_value.specs.declared.node.Node.{Node}
use Rattle.mx_syntax.specs.declared.stmt.Params.{Params}
use Rattle.mx_edit.specs.Rows.{TableRows}
use Rattle.mx_edit.specs.declared.reference.RefValue.{RefValue}
use Rattle.mx_edit.specs.declared.reference.RefValue.TheVariants as reference
use Rattle.mx_edit.specs.declared.key.Key.{Key}
use Rattle.mx_edit.specs.declared.key.Key.TheVariants as key
use Rattle.mx_edit.specs.declared.key.KeyResult.TheVariants as found
use Rattle.mx_c3.specs.Lists.{Has}
use Rattle.mx_c3.specs.declared.space.SpaceId.{SpaceId}
use Rattle.mx_model.specs.Records.{Name, Path, CellsRecord, SpaceRecord, ModelRecord}
use Rattle.mx_model.specs.declared.layers.Layered.{Layered}
use Rattle.mx_model.specs.declared.layers.Layered.TheVariants.{Layers, NoOrder, NotStatic}
use Rattle.mx_model.specs.Layers.{id_of, space_of, layers, is_static}
use Rattle.mx_model.specs.Binding.{Member, Cells, Reference, Child, own_child, or_child, or_other, own_member, first_with, in_layers, binding, parameters}
use Rattle.mx_model.specs.Keys.{bound_to, formula_of, global_of, params_of, value_of, table_of, node_eq, input_of, key_result}
use Rattle.mx_model.specs.Valid.{IsKept, IsReference, Valid}
use Rattle.mx_state.specs.Proper.{IsArgument}
use Rattle.mx_limit_laws.specs.Values.{Each}
use Rattle.mx_limit_laws.specs.Replies.{HasSmallLiterals, HasSmallDefaults, IsSmallReference, IsSmallTable, IsSmallResult}
use Rattle.mx_limit_laws.specs.Texts.{HasSmallParams, IsSmallSpace, IsSmallText}
use Rattle.mx_limit_laws.specs.Laws.{TextsHaveSmallResults}
use Rattle.mx_limit_laws.proofs.Lists.{IfAny, each_at}

-- ---- lists

each_of : {X : Type 0} (P : X → Type 0) (xs : List X) → ((x : X) → Has xs x → P x) → Each P xs
each_of P [] h = tt
each_of P (x ∷ xs) h = (h x (inl refl), each_of P xs (λ y i. h y (inr i)))

each_both : {X : Type 0} (P Q : X → Type 0) (xs : List X) → Each P xs → Each Q xs → Each (λ x. P x × Q x) xs
each_both P Q [] h k = tt
each_both P Q (x ∷ xs) h k = ((h.0, k.0), each_both P Q xs h.1 k.1)

module _ {K X : Type 0} (P : X → Type 0) (test : K → Bool) where
  passed : (b : Bool) (x : X) (rest : Option X) → P x → IfAny P rest → IfAny P (if b then Some x else rest)
  passed true x rest h k = h
  passed false x rest h k = k

  -- what a look-up finds is among the entries
  pub looked_up : (es : List (K × X)) → Each (λ (e : K × X). P e.1) es → IfAny P (lookup test es)
  looked_up [] h = tt
  looked_up (e ∷ es) h = passed (test e.0) e.1 (lookup test es) h.0 (looked_up es h.1)

-- ---- kept values

none_of : (a b : Bool) → (not a || b) ≡ false → (a ≡ true) × (b ≡ false)
none_of true false h = (refl, refl)
none_of true true h = cc
none_of false b h = cc

not_more : (n : ℕ) → nat_lt 64 n ≡ false → n ≤ 64
not_more n h = grind (arith, nat_tests)

kept_argument : (v : Value) → IsKept v → IsArgument v
kept_argument v k =
    let p = none_of (is_plain v) (nat_lt 64 (nesting_of v)) k.0 in
    record { plain = p.0; small = k.1; flat = not_more (nesting_of v) p.1 }

module _ (text : ModelRecord) (valid : Valid text) (small : IsSmallText text) where
  reference_small : (r : RefValue) → IsReference text r → IsSmallReference r
  reference_small (reference.Plain v) k = kept_argument v k
  reference_small (reference.Table name) k = tt
  reference_small (reference.Target path fixed) k = tt

  abbrev OfSpace : SpaceRecord → Type 0
  OfSpace s = IsSmallSpace s × Each (λ (r : Name × RefValue). IsSmallReference r.1) s.references

  spaces_small : Each OfSpace text.spaces
  spaces_small =
      each_both IsSmallSpace (λ s. Each (λ (r : Name × RefValue). IsSmallReference r.1) s.references) text.spaces small.formulas
      (each_of (λ s. Each (λ (r : Name × RefValue). IsSmallReference r.1) s.references) text.spaces (λ s i. each_of (λ (r : Name × RefValue). IsSmallReference r.1) s.references (λ r j. reference_small r.1 (valid.references.owned s r i j))))

  -- ---- what the first layer has

  module _ {X : Type 0} (P : X → Type 0) (own : SpaceRecord → Option X) (h : (s : SpaceRecord) → OfSpace s → IfAny P (own s)) where
    of_space : (s : Option SpaceRecord) → IfAny OfSpace s → IfAny P (option_and_then own s)
    of_space None k = tt
    of_space (Some s) k = h s k

    first_of_two : (a b : Option X) → IfAny P a → IfAny P b → IfAny P (option_or a b)
    first_of_two (Some x) b p q = p
    first_of_two None b p q = q

    first_small : (spaces : List SpaceId) → IfAny P (first_with text own spaces)
    first_small [] = tt
    first_small (s ∷ spaces) = first_of_two (option_and_then own (space_of text s)) (first_with text own spaces) (of_space (space_of text s) (each_at OfSpace text.spaces spaces_small s.0)) (first_small spaces)

    layers_small : (l : Layered) → IfAny P (in_layers text own l)
    layers_small (Layers spaces) = first_small spaces
    layers_small NoOrder = tt
    layers_small NotStatic = tt

  abbrev IsSmallMember : Member → Type 0
  IsSmallMember (Cells cells) = HasSmallLiterals cells.formula
  IsSmallMember (Reference value owner) = IsSmallReference value
  IsSmallMember Child = Unit {0}

  child_if : (b : Bool) → IfAny IsSmallMember (if b then Some Child else None)
  child_if true = tt
  child_if false = tt

  child_small : (path : Path) (name : Name) → IfAny IsSmallMember (own_child text path name)
  child_small path name = child_if (is_some (id_of text (path ++ name ∷ [])))

  or_child_small : (child : Option Member) (path : Path) (r : Option RefValue) → IfAny IsSmallMember child → IfAny IsSmallReference r → IfAny IsSmallMember (or_child child path r)
  or_child_small child path (Some value) c r = r
  or_child_small child path None c r = c

  or_other_small : (other : Option Member) (cells : Option CellsRecord) → IfAny IsSmallMember other → IfAny (λ (c : CellsRecord). HasSmallLiterals c.formula) cells → IfAny IsSmallMember (or_other other cells)
  or_other_small other (Some cells) o c = c
  or_other_small other None o c = o

  own_small : (name : Name) (s : SpaceRecord) → OfSpace s → IfAny IsSmallMember (own_member text name s)
  own_small name s k =
      or_other_small (or_child (own_child text s.path name) s.path (lookup (same_name name) s.references)) (lookup (same_name name) s.cells)
      (or_child_small (own_child text s.path name) s.path (lookup (same_name name) s.references) (child_small s.path name) (looked_up IsSmallReference (same_name name) s.references k.1))
      (looked_up (λ (c : CellsRecord). HasSmallLiterals c.formula) (same_name name) s.cells k.0.cells)

  binding_small : (path : Path) (name : Name) → IfAny IsSmallMember (binding text path name)
  binding_small path name = layers_small IsSmallMember (own_member text name) (own_small name) (layers text path)

  own_params : (p : Option Params) → HasSmallParams p → IfAny HasSmallDefaults p
  own_params None h = tt
  own_params (Some ps) h = h

  parameters_small : (path : Path) → IfAny HasSmallDefaults (parameters text path)
  parameters_small path = layers_small HasSmallDefaults (λ (s : SpaceRecord). s.params) (λ s k. own_params s.params k.0.params) (layers text path)

  -- ---- key by key

  bound_small : (m : Option Member) → IfAny IsSmallMember m → IsSmallResult (bound_to m)
  bound_small (Some (Cells cells)) h = tt
  bound_small (Some (Reference value owner)) h = h
  bound_small (Some Child) h = tt
  bound_small None h = tt

  formula_small : (m : Option Member) → IfAny IsSmallMember m → IsSmallResult (formula_of m)
  formula_small (Some (Cells cells)) h = h
  formula_small (Some (Reference value owner)) h = tt
  formula_small (Some Child) h = tt
  formula_small None h = tt

  global_small : (r : Option RefValue) → IfAny IsSmallReference r → IsSmallResult (global_of r)
  global_small (Some value) h = h
  global_small None h = tt

  params_small : (p : Option Params) → IfAny HasSmallDefaults p → IsSmallResult (params_of p)
  params_small (Some ps) h = h
  params_small None h = tt

  value_small : (v : Option Value) → IfAny IsArgument v → IsSmallResult (value_of v)
  value_small (Some v) h = h
  value_small None h = tt

  table_small : (t : Option TableRows) → IfAny IsSmallTable t → IsSmallResult (table_of t)
  table_small (Some t) h = h
  table_small None h = tt

  there_small : (b : Bool) → IsSmallResult (if b then found.There else found.Missing)
  there_small true = tt
  there_small false = tt

  pub results_small : (k : Key) → IsSmallResult (key_result text k)
  results_small (key.Name path name) = bound_small (binding text path name) (binding_small path name)
  results_small (key.Global name) =
      global_small (lookup (same_name name) text.globals) (looked_up IsSmallReference (same_name name) text.globals (each_of (λ (r : Name × RefValue). IsSmallReference r.1) text.globals (λ r i. reference_small r.1 (valid.references.globals r i))))
  results_small (key.Cells path name) = formula_small (binding text path name) (binding_small path name)
  results_small (key.Params path) = params_small (parameters text path) (parameters_small path)
  results_small (key.Exists path) = there_small (is_static text path)
  results_small (key.Input n) =
      value_small (input_of text n) (looked_up IsArgument (node_eq n) text.inputs (each_of (λ (input : Node × Value). IsArgument input.1) text.inputs (λ input i. kept_argument input.1 (valid.inputs.each input i).kept)))
  results_small (key.Table name) = table_small (lookup (same_name name) text.tables) (looked_up IsSmallTable (same_name name) text.tables small.tables)

pub texts_have_small_results : TextsHaveSmallResults
texts_have_small_results text valid small k = results_small text valid small k
