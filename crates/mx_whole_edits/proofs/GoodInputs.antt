-- Each edit leaves inputs as a valid text asks of them.
use Rattle.std.proofs.Common.{◌≡◌, ℕ, zero, suc, ◌+◌, Bool, true, false, not, List, [], ◌∷◌, ◌++◌, length, map, drop, nat_lt, Option, Some, None, ◌||◌, inl, inr, refl, sym, ◌∙◌, ap, subst, arith}
use Rattle.std.specs.Prelude.{is_some, is_none, option_and_then, if◌then◌else◌}
use Rattle.std.specs.Option.{option_or}
use Rattle.std.specs.List.{filter, cons_option, list_any}
use Rattle.std.specs.Map.{lookup}
use Rattle.std.proofs.lemmas.Option.{same_Some}
use Rattle.mx_value.specs.Name.{same_name}
use Rattle.mx_value.specs.Normal.{normal_of}
use Rattle.mx_value.specs.Plain.{is_plain}
use Rattle.mx_value.specs.Nesting.{nesting_of}
use Rattle.mx_value.specs.declared.value.Value.{Value}
use Rattle.mx_value.specs.declared.value.Segment.{Segment}
use Rattle.mx_value.specs.declared.node.Node.{Node}
use Rattle.mx_value.specs.declared.node.Node.TheVariants as node
use Rattle.mx_value.proofs.NodeSames.{node_decides}
use Rattle.mx_syntax.specs.Binding.{defaults, bound}
use Rattle.mx_syntax.specs.declared.stmt.Param.{Param}
use Rattle.mx_print.specs.Values.{value_text, node_text}
use Rattle.mx_edit.specs.declared.reference.RefValue.{RefValue}
use Rattle.mx_edit.specs.declared.edit.Edit.{Edit}
use Rattle.mx_edit.specs.declared.edit.Edit.TheVariants as edit
use Rattle.mx_c3.specs.declared.space.SpaceId.{SpaceId}
use Rattle.mx_c3.specs.Lists.{Has, Distinct}
use Rattle.mx_c3.proofs.ListLemmas.{has_cases}
use Rattle.mx_model.specs.Records.{Name, Path, CellsRecord, SpaceRecord, ModelRecord}
use Rattle.mx_model.specs.Layers.{id_of, space_of, layers}
use Rattle.mx_model.specs.declared.layers.Layered.{Layered}
use Rattle.mx_model.specs.declared.layers.Layered.TheVariants.{Layers, NoOrder, NotStatic}
use Rattle.mx_model.specs.Binding.{Member, Child, own_child, or_child, or_other, own_member, first_with, in_layers, binding}
use Rattle.mx_model.specs.Keys.{node_eq}
use Rattle.mx_model.specs.Inputs.{path_of, params_of, cells_params, fits, without_unfit}
use Rattle.mx_model.specs.Change.{bound_by, bound_at, change, bound_edit}
use Rattle.mx_model.specs.Refused.{is_unfit, is_long, is_nothing, lacks_cells}
use Rattle.mx_model.specs.Valid.{IsKept, IsBound, InputsFit}
use Rattle.mx_model.proofs.Filtered.{place_has, map_has}
use Rattle.mx_changes.proofs.Free.{IsFree, either}
use Rattle.mx_model.specs.Literals.{AreLiteral, HasLiterals}
use Rattle.mx_whole_edits.proofs.NormalLaws.{normal_keeps}
use Rattle.mx_whole_edits.proofs.Members.{define_has, define_once, without_has, without_once}
use Rattle.mx_whole_edits.proofs.FineEdits.{kept_value}
use Rattle.mx_whole_edits.proofs.Free.{IsUnused}

abbrev Input : Type 0
Input = Node × Value

pub record IsGood (input : Input) : Type 0 where
  pub bound : IsBound input.0
  pub kept : IsKept input.1
  pub some : is_nothing input.1 ≡ false

-- ---- the parameters of cells that a path binds

record CellsOf (text : ModelRecord) (params : List Param) : Type 0 where
  pub space : SpaceRecord
  pub among : Has text.spaces space
  pub cells : Name × CellsRecord
  pub has : Has space.cells cells
  pub is : cells.1.formula.params ≡ params

record Under {X : Type 0} (ms : List (Name × X)) (x : X) : Type 0 where
  pub member : Name × X
  pub has : Has ms member
  pub is : member.1 ≡ x

under_by : {X : Type 0} (m : Name × X) (ms : List (Name × X)) (x : X) (b : Bool) (rest : Option X) → (if b then Some m.1 else rest) ≡ Some x → (rest ≡ Some x → Under ms x) → Under (m ∷ ms) x
under_by m ms x true rest e f = record { member = m; has = inl refl; is = same_Some m.1 x e }
under_by m ms x false rest e f = let u = f e in record { member = u.member; has = inr u.has; is = u.is }

under : {X : Type 0} (n : Name) (ms : List (Name × X)) (x : X) → lookup (same_name n) ms ≡ Some x → Under ms x
under n [] x e = absurd (let f : None ≡ Some x = e in cc)
under n (m ∷ ms) x e = under_by m ms x (same_name n m.0) (lookup (same_name n) ms) e (under n ms x)

no_child_params : (b : Bool) (params : List Param) → params_of (if b then Some Child else None) ≡ Some params → ⊥
no_child_params true params e = let f : None ≡ Some params = e in cc
no_child_params false params e = let f : None ≡ Some params = e in cc

own_cells : (text : ModelRecord) (s : SpaceRecord) (name : Name) (params : List Param) → Has text.spaces s → params_of (own_member text name s) ≡ Some params → CellsOf text params
own_cells text s name params h e = by_cells (lookup (same_name name) s.cells) refl e
  where
    by_reference : (child : Option Member) (o : Option RefValue) → params_of (or_child child s.path o) ≡ Some params → (params_of child ≡ Some params → ⊥) → ⊥
    by_reference child (Some value) f none = let g : None ≡ Some params = f in cc
    by_reference child None f none = none f

    by_cells : (o : Option CellsRecord) → lookup (same_name name) s.cells ≡ o → params_of (or_other (or_child (own_child text s.path name) s.path (lookup (same_name name) s.references)) o) ≡ Some params → CellsOf text params
    by_cells (Some c) at f =
        let u = under name s.cells c at in
        record { space = s; among = h; cells = u.member; has = u.has; is = ap (λ (z : CellsRecord). z.formula.params) u.is ∙ same_Some c.formula.params params f }
    by_cells None at f = absurd (by_reference (own_child text s.path name) (lookup (same_name name) s.references) f (no_child_params (is_some (id_of text (s.path ++ name ∷ []))) params))

member_by : (text : ModelRecord) (s : SpaceRecord) (name : Name) (params : List Param) (m rest : Option Member) → Has text.spaces s → own_member text name s ≡ m → params_of (option_or m rest) ≡ Some params → (params_of rest ≡ Some params → CellsOf text params) → CellsOf text params
member_by text s name params (Some m) rest h at e f = own_cells text s name params h (ap params_of at ∙ e)
member_by text s name params None rest h at e f = f e

first_by : (text : ModelRecord) (name : Name) (params : List Param) (s : SpaceId) (o : Option SpaceRecord) → space_of text s ≡ o → (rest : Option Member) → params_of (option_or (option_and_then (own_member text name) o) rest) ≡ Some params → (params_of rest ≡ Some params → CellsOf text params) → CellsOf text params
first_by text name params s None at rest e f = f e
first_by text name params s (Some space) at rest e f = member_by text space name params (own_member text name space) rest (place_has text.spaces s.0 space at) refl e f

first_cells : (text : ModelRecord) (name : Name) (params : List Param) (spaces : List SpaceId) → params_of (first_with text (own_member text name) spaces) ≡ Some params → CellsOf text params
first_cells text name params [] e = absurd (let f : None ≡ Some params = e in cc)
first_cells text name params (s ∷ spaces) e = first_by text name params s (space_of text s) refl (first_with text (own_member text name) spaces) e (first_cells text name params spaces)

layer_cells : (text : ModelRecord) (name : Name) (params : List Param) (reached : Layered) → params_of (in_layers text (own_member text name) reached) ≡ Some params → CellsOf text params
layer_cells text name params (Layers spaces) e = first_cells text name params spaces e
layer_cells text name params NoOrder e = absurd (let f : None ≡ Some params = e in cc)
layer_cells text name params NotStatic e = absurd (let f : None ≡ Some params = e in cc)

bound_literal : (text : ModelRecord) (path : Path) (name : Name) (params : List Param) → HasLiterals text → params_of (binding text path name) ≡ Some params → AreLiteral params
bound_literal text path name params literals e =
    let c = layer_cells text name params (layers text path) e in
    let P : List Param → Type 0 = λ ps. AreLiteral ps in
    subst P c.is (literals c.space c.cells c.among c.has)

-- ---- bound arguments

unfit_normal : (v : Value) → is_unfit (normal_of v) ≡ is_unfit v
unfit_normal v =
    let k = normal_keeps v in
    ap (λ (b : Bool). not b || nat_lt 64 (nesting_of (normal_of v))) k.plain ∙ ap (λ (n : ℕ). not (is_plain v) || nat_lt 64 n) k.nesting

all_twice : (vs : List Value) → map normal_of (map normal_of vs) ≡ map normal_of vs
all_twice [] = refl
all_twice (v ∷ vs) = ap (λ (u : Value). u ∷ map normal_of (map normal_of vs)) (normal_keeps v).twice ∙ ap (λ (us : List Value). normal_of v ∷ us) (all_twice vs)

any_unfit : (vs : List Value) (v : Value) → list_any is_unfit vs ≡ false → Has vs v → is_unfit v ≡ false
any_unfit [] v e h = absurd h
any_unfit (u ∷ vs) v e h = let b = either (is_unfit u) (list_any is_unfit vs) e in elim h [ inl i ↦ ap is_unfit (sym i) ∙ b.0 | inr r ↦ any_unfit vs v b.1 r ]

behind : (o : Option Value) (vs : List Value) (v : Value) → Has vs v → Has (cons_option o vs) v
behind None vs v h = h
behind (Some u) vs v h = inr h

dropped : (n : ℕ) (params : List Param) (v : Value) → Has (defaults (drop n params)) v → Has (defaults params) v
dropped zero [] v h = h
dropped zero (p ∷ params) v h = h
dropped (suc n) [] v h = h
dropped (suc n) (p ∷ params) v h = behind p.default (defaults params) v (dropped n params v h)

full_good : (at : List Segment) (name : Name) (params : List Param) (args : List Value) → AreLiteral params → list_any is_unfit args ≡ false → IsBound (node.Cell at name (bound params args))
full_good at name params args literal fit = (
  all_twice (args ++ defaults (drop (length args) params)),
  λ a h.
      let m = map_has normal_of (args ++ defaults (drop (length args) params)) a h in
      let one : is_unfit m.from ≡ false = elim (has_cases args (defaults (drop (length args) params)) m.from m.among) [
        | inl given ↦ any_unfit args m.from fit given
        | inr default ↦ literal m.from (dropped (length args) params m.from default)
      ] in
      ap is_unfit (sym m.is) ∙ unfit_normal m.from ∙ one,
)

bound_by_params : (text : ModelRecord) (at : List Segment) (name : Name) (args : List Value) (path : Option Path) (o : Option (List Param)) → HasLiterals text → cells_params text path name ≡ o → is_none path ≡ false → lacks_cells text path name ≡ false → list_any is_unfit args ≡ false → IsBound (node.Cell at name (bound_by o args))
bound_by_params text at name args None o literals e some lacks fit = absurd (let f : true ≡ false = some in cc)
bound_by_params text at name args (Some path) None literals e some lacks fit = absurd (let f : true ≡ false = sym (ap is_none e) ∙ lacks in cc)
bound_by_params text at name args (Some path) (Some params) literals e some lacks fit = full_good at name params args (bound_literal text path name params literals e) fit

new_good : (text : ModelRecord) (at : List Segment) (name : Name) (args : List Value) (value : Value) → HasLiterals text → IsFree text (edit.SetInput at name args value) → IsUnused text (edit.SetInput at name args value) → IsGood (node.Cell at name (bound_at text at name args), value)
new_good text at name args value literals free unused =
    let long = is_long (length (node_text (node.Cell at name (bound_at text at name args))) + length (value_text value)) in
    let a = either (is_nothing value) (list_any is_unfit args || (is_unfit value || long)) free.values in
    let b = either (list_any is_unfit args) (is_unfit value || long) a.1 in
    let c = either (is_unfit value) long b.1 in
    record {
      bound = bound_by_params text at name args (path_of at) (cells_params text (path_of at) name) literals refl unused.address free.members b.0;
      kept = kept_value value c.0 (shorter (length (node_text (node.Cell at name (bound_at text at name args)))) (length (value_text value)) c.1);
      some = a.0;
    }
  where
    shorter : (n m : ℕ) → is_long (n + m) ≡ false → is_long m ≡ false
    shorter n m e = grind arith

-- ---- the inputs of the changed text

pub record AreGood (inputs : List Input) : Type 0 where
  pub each : (input : Input) → Has inputs input → IsGood input
  pub once : Distinct (map (λ (i : Input). i.0) inputs)

node_is : (a b : Node) → node_eq a b ≡ true → a ≡ b
node_is a b e = (node_decides a b).0 e

node_so : (a b : Node) → a ≡ b → node_eq a b ≡ true
node_so a b e = (node_decides a b).1 e

pub goods_of : (text : ModelRecord) → InputsFit text → AreGood text.inputs
goods_of text inputs = record { each = λ i h. let g = inputs.each i h in record { bound = g.bound; kept = g.kept; some = g.some }; once = inputs.once }

same_goods : (inputs made : List Input) → made ≡ inputs → AreGood inputs → AreGood made
same_goods inputs made e g = let P : List Input → Type 0 = λ is. AreGood is in subst P (sym e) g

reference_goods : (text : ModelRecord) (path : Path) (name : Name) (value : RefValue) → AreGood text.inputs → AreGood (change text (edit.SetRef path name value)).inputs
reference_goods text [] name value g = g
reference_goods text (first ∷ names) name value g = g

unreferenced_goods : (text : ModelRecord) (path : Path) (name : Name) → AreGood text.inputs → AreGood (change text (edit.DelRef path name)).inputs
unreferenced_goods text [] name g = g
unreferenced_goods text (first ∷ names) name g = g

pub changed_goods : (text : ModelRecord) (e : Edit) → HasLiterals text → IsFree text e → IsUnused text e → AreGood text.inputs → AreGood (change text (bound_edit text e)).inputs
changed_goods text (edit.NewSpace parent name) literals free unused g = g
changed_goods text (edit.DelSpace path) literals free unused g = g
changed_goods text (edit.SetBases path bases) literals free unused g = g
changed_goods text (edit.SetCells path name formula) literals free unused g = g
changed_goods text (edit.DelCells path name) literals free unused g = g
changed_goods text (edit.SetAllowNone path name flag) literals free unused g = g
changed_goods text (edit.SetRef path name value) literals free unused g = reference_goods text path name value g
changed_goods text (edit.DelRef path name) literals free unused g = unreferenced_goods text path name g
changed_goods text (edit.SetParams path params) literals free unused g = g
changed_goods text (edit.SetInput at name args value) literals free unused g =
    let n = node.Cell at name (bound_at text at name args) in
    let new = new_good text at name args value literals free unused in
    record {
      each = λ i h. elim (define_has node_eq node_is node_so text.inputs n value i h) [
        | inl o ↦ g.each i o
        | inr e ↦ (let P : Node → Type 0 = λ z. IsGood (z, i.1) in let Q : Value → Type 0 = λ v. IsGood (n, v) in subst P (sym e.0) (subst Q (sym e.1) new))
      ];
      once = define_once node_eq node_is node_so text.inputs n value g.once;
    }
changed_goods text (edit.DelInput at name args) literals free unused g =
    let n = node.Cell at name (bound_at text at name args) in
    record {
      each = λ i h. g.each i (without_has node_eq node_is node_so text.inputs n i h);
      once = without_once node_eq node_is node_so text.inputs n g.once;
    }
changed_goods text (edit.SetTable name table) literals free unused g = g

-- ---- those that fit

fit_by : (p : Input → Bool) (z i : Input) (inputs : List Input) (b : Bool) → p z ≡ b → (Has (filter p inputs) i → Has inputs i × (p i ≡ true)) → Has (if b then z ∷ filter p inputs else filter p inputs) i → Has (z ∷ inputs) i × (p i ≡ true)
fit_by p z i inputs true e f h = elim h [ inl is ↦ (inl is, ap p (sym is) ∙ e) | inr r ↦ (inr (f r).0, (f r).1) ]
fit_by p z i inputs false e f h = (inr (f h).0, (f h).1)

fit_has : (p : Input → Bool) (inputs : List Input) (i : Input) → Has (filter p inputs) i → Has inputs i × (p i ≡ true)
fit_has p [] i h = absurd h
fit_has p (z ∷ inputs) i h = fit_by p z i inputs (p z) refl (fit_has p inputs i) h

keyed : (p : Input → Bool) (z : Input) (inputs : List Input) (b : Bool) (k : Node) → (Has (map (λ (i : Input). i.0) (filter p inputs)) k → Has (map (λ (i : Input). i.0) inputs) k) → Has (map (λ (i : Input). i.0) (if b then z ∷ filter p inputs else filter p inputs)) k → Has (map (λ (i : Input). i.0) (z ∷ inputs)) k
keyed p z inputs true k f h = elim h [ inl e ↦ inl e | inr r ↦ inr (f r) ]
keyed p z inputs false k f h = inr (f h)

fit_keys : (p : Input → Bool) (inputs : List Input) (k : Node) → Has (map (λ (i : Input). i.0) (filter p inputs)) k → Has (map (λ (i : Input). i.0) inputs) k
fit_keys p [] k h = h
fit_keys p (z ∷ inputs) k h = keyed p z inputs (p z) k (fit_keys p inputs k) h

fit_once_by : (p : Input → Bool) (z : Input) (inputs : List Input) (b : Bool) → (Has (map (λ (i : Input). i.0) (filter p inputs)) z.0 → ⊥) → Distinct (map (λ (i : Input). i.0) (filter p inputs)) → Distinct (map (λ (i : Input). i.0) (if b then z ∷ filter p inputs else filter p inputs))
fit_once_by p z inputs true n d = (n, d)
fit_once_by p z inputs false n d = d

fit_once : (p : Input → Bool) (inputs : List Input) → Distinct (map (λ (i : Input). i.0) inputs) → Distinct (map (λ (i : Input). i.0) (filter p inputs))
fit_once p [] d = tt
fit_once p (z ∷ inputs) d = fit_once_by p z inputs (p z) (λ h. d.0 (fit_keys p inputs z.0 h)) (fit_once p inputs d.1)

pub inputs_fit : (text : ModelRecord) → AreGood text.inputs → InputsFit (without_unfit text)
inputs_fit text g = record {
  each = λ i h.
      let f = fit_has (λ (input : Input). fits text input.0) text.inputs i h in
      let good = g.each i f.0 in
      record { fits = f.1; bound = good.bound; kept = good.kept; some = good.some };
  once = fit_once (λ (input : Input). fits text input.0) text.inputs g.once;
}
