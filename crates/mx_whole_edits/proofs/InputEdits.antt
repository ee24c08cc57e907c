-- After an edit of an input all inputs fit.
use Rattle.std.proofs.Common.{◌≡◌, ℕ, suc, ◌≤◌, Bool, true, false, ◌||◌, ◌&&◌, List, [], ◌∷◌, ◌++◌, length, drop, nat_lt, Option, Some, None, inl, inr, refl, sym, ◌∙◌, ap, subst, arith, length-append}
use Rattle.std.proofs.lemmas.List.{length-map, length-drop}
use Rattle.std.specs.Prelude.{is_none, ◌==◌}
use Rattle.std.specs.List.{cons_option, list_all}
use Rattle.mx_value.specs.Normal.{normal_of}
use Rattle.mx_value.specs.declared.value.Value.{Value}
use Rattle.mx_value.specs.declared.value.Segment.{Segment}
use Rattle.mx_value.specs.declared.node.Node.{Node}
use Rattle.mx_value.specs.declared.node.Node.TheVariants as node
use Rattle.mx_value.proofs.NodeSames.{node_decides}
use Rattle.mx_syntax.specs.Binding.{bound, defaults, lack_default, is_wrong_count}
use Rattle.mx_syntax.specs.declared.stmt.Param.{Param}
use Rattle.mx_edit.specs.declared.edit.Edit.{Edit}
use Rattle.mx_edit.specs.declared.edit.Edit.TheVariants as edit
use Rattle.mx_c3.specs.Lists.{Has}
use Rattle.mx_model.specs.Records.{Name, Path, ModelRecord}
use Rattle.mx_model.specs.Keys.{node_eq}
use Rattle.mx_model.specs.Inputs.{path_of, cells_params, fits, without_unfit}
use Rattle.mx_model.specs.Change.{bound_at, change, bound_edit}
use Rattle.mx_model.specs.Refused.{do_not_bind, lacks_cells, record_trouble}
use Rattle.mx_model.specs.Valid.{InputsFit}
use Rattle.mx_whole_edits.proofs.KeptInputs.{filter_all}
use Rattle.mx_changes.proofs.Free.{free_of}
use Rattle.mx_whole_edits.specs.Whole.{is_of_input}
use Rattle.mx_whole_edits.proofs.Free.{unused_of}
use Rattle.mx_whole_edits.proofs.Members.{define_has, without_has}

abbrev Input : Type 0
Input = Node × Value

-- ---- arguments that bind are as many as the parameters

all_given : (params : List Param) → lack_default params ≡ false → length (defaults params) ≡ length params
all_given [] h = refl
all_given (p ∷ params) h = here p.default h (λ k. all_given params k)
  where
    here : (d : Option Value) → (is_none d || lack_default params) ≡ false → (lack_default params ≡ false → length (defaults params) ≡ length params) → length (cons_option d (defaults params)) ≡ suc (length params)
    here None h more = cc
    here (Some v) h more = omega (arith, more h)

neither : (a b : Bool) → (a || b) ≡ false → (a ≡ false) × (b ≡ false)
neither false false h = (refl, refl)
neither false true h = cc
neither true b h = cc

not_less : (a b : ℕ) → nat_lt a b ≡ false → b ≤ a
not_less a b h = grind arith

bound_long : (params : List Param) (args : List Value) → is_wrong_count params (length args) ≡ false → length (bound params args) ≡ length params
bound_long params args h =
    let hs = neither (nat_lt (length params) (length args)) (lack_default (drop (length args) params)) h in
    let few = not_less (length params) (length args) hs.0 in
    length-map (args ++ defaults (drop (length args) params)) normal_of ∙ omega (arith, few, length-append args (defaults (drop (length args) params)), all_given (drop (length args) params) hs.1, length-drop (length args) params)

same_many : (n : ℕ) → (n == n) ≡ true
same_many n = grind arith

new_fits : (text : ModelRecord) (at : List Segment) (name : Name) (args : List Value) (path : Option Path) (o : Option (List Param)) → path_of at ≡ path → cells_params text path name ≡ o → is_none path ≡ false → lacks_cells text path name ≡ false → do_not_bind o args ≡ false → fits text (node.Cell at name (bound_at text at name args)) ≡ true
new_fits text at name args None o p e some lacks binds = absurd (let f : true ≡ false = some in cc)
new_fits text at name args (Some path) None p e some lacks binds = absurd (let f : true ≡ false = sym (ap is_none e) ∙ lacks in cc)
new_fits text at name args (Some path) (Some params) p e some lacks binds =
    rw (p, e) (ap (λ (n : ℕ). length params == n) (bound_long params args binds) ∙ same_many (length params))

-- ---- the inputs of the changed text

all_pass : (p : Input → Bool) (inputs : List Input) → ((i : Input) → Has inputs i → p i ≡ true) → list_all p inputs ≡ true
all_pass p [] f = refl
all_pass p (i ∷ inputs) f = ap (λ (b : Bool). b && list_all p inputs) (f i (inl refl)) ∙ all_pass p inputs (λ j h. f j (inr h))

node_is : (a b : Node) → node_eq a b ≡ true → a ≡ b
node_is a b e = (node_decides a b).0 e

node_so : (a b : Node) → a ≡ b → node_eq a b ≡ true
node_so a b e = (node_decides a b).1 e

-- where all inputs fit, the text is without none of them
kept_so : (made t : ModelRecord) → made ≡ t → ((i : Input) → Has t.inputs i → fits t i.0 ≡ true) → made ≡ without_unfit made
kept_so made t same all =
    let P : ModelRecord → Type 0 = λ m. m ≡ without_unfit m in
    let p : Input → Bool = λ i. fits t i.0 in
    subst P (sym same) (ap (λ (inputs : List Input). record t { inputs = inputs }) (sym (filter_all p t.inputs (all_pass p t.inputs all))))

pub all_stay : (text made : ModelRecord) (e : Edit) → is_of_input e ≡ true → record_trouble text e ≡ None → made ≡ change text (bound_edit text e) → InputsFit text → made ≡ without_unfit made
all_stay text made (edit.SetInput at name args value) is none same fit =
    let e = edit.SetInput at name args value in
    let free = free_of text e none in
    let n = node.Cell at name (bound_at text at name args) in
    let new : fits text n ≡ true = new_fits text at name args (path_of at) (cells_params text (path_of at) name) refl refl (unused_of text e none).address free.members free.count in
    kept_so made (change text (bound_edit text e)) same (λ i h. elim (define_has node_eq node_is node_so text.inputs n value i h) [
      | inl o ↦ (fit.each i o).fits
      | inr q ↦ (let P : Node → Type 0 = λ z. fits text z ≡ true in subst P (sym q.0) new)
    ])
all_stay text made (edit.DelInput at name args) is none same fit =
    let e = edit.DelInput at name args in
    let n = node.Cell at name (bound_at text at name args) in
    kept_so made (change text (bound_edit text e)) same (λ i h. (fit.each i (without_has node_eq node_is node_so text.inputs n i h)).fits)
all_stay text made (edit.NewSpace parent name) is none same fit = absurd (let f : false ≡ true = is in cc)
all_stay text made (edit.DelSpace path) is none same fit = absurd (let f : false ≡ true = is in cc)
all_stay text made (edit.SetBases path bases) is none same fit = absurd (let f : false ≡ true = is in cc)
all_stay text made (edit.SetCells path name formula) is none same fit = absurd (let f : false ≡ true = is in cc)
all_stay text made (edit.DelCells path name) is none same fit = absurd (let f : false ≡ true = is in cc)
all_stay text made (edit.SetAllowNone path name flag) is none same fit = absurd (let f : false ≡ true = is in cc)
all_stay text made (edit.SetRef path name value) is none same fit = absurd (let f : false ≡ true = is in cc)
all_stay text made (edit.DelRef path name) is none same fit = absurd (let f : false ≡ true = is in cc)
all_stay text made (edit.SetParams path params) is none same fit = absurd (let f : false ≡ true = is in cc)
all_stay text made (edit.SetTable name table) is none same fit = absurd (let f : false ≡ true = is in cc)
