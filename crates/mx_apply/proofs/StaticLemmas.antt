-- The cells that a static path binds, and the last name of a path.
use Rattle.std.proofs.Common.{◌≡◌, ℕ, ◌+◌, ◌-◌, ◌<◌, ◌≤◌, arith, List, [], ◌∷◌, ◌++◌, length, take, get_or, Option, Some, None, sym, ◌∙◌, ap, subst}
use Rattle.std.specs.Prelude.{option_map}
use Rattle.std.proofs.lemmas.List.{take_more, take_all}
use Rattle.mx_c3.specs.declared.space.SpaceId.{SpaceId}
use Rattle.mx_c3.specs.InOrder.{AllBelow}
use Rattle.mx_syntax.specs.declared.stmt.Formula.{Formula}
use Rattle.mx_syntax.specs.declared.stmt.Param.{Param}
use Rattle.mx_model.specs.declared.kind.Kind.TheVariants as kind
use Rattle.mx_model.specs.declared.layers.Layered.{Layered}
use Rattle.mx_model.specs.declared.layers.Layered.TheVariants.{Layers}
use Rattle.mx_model.specs.Records.{Name, Path, ModelRecord}
use Rattle.mx_model.specs.Layers.{layers}
use Rattle.mx_model.specs.Binding.{Member}
use Rattle.mx_model.specs.Lookup.{IsBoundAt}
use Rattle.mx_model.specs.Readers.{formula_in}
use Rattle.mx_model.specs.Inputs.{params_of}
use Rattle.mx_model.specs.Sound.{IsSound, HasSpaces}
use Rattle.mx_model.specs.Paths.{split_last}
use Rattle.mx_model.proofs.Defined.{split_push}
use Rattle.mx_model.proofs.SoundLemmas.{layers_spaces}
use Rattle.mx_model.proofs.LookupLemmas.{cells_at, reference_at}

-- ---- cells

abbrev pub params : Formula → List Param
params f = f.params

pub params_cells : (text : ModelRecord) (name : Name) (s : SpaceId) (member : Option Member) → IsBoundAt text name s kind.Cells member → option_map params (formula_in text s name) ≡ params_of member
params_cells text name s member b =
    let at = cells_at text name s b.of_kind in
    ap (option_map params) at.formula ∙ ap params_of (sym (b.is ∙ at.is))

pub no_params : (text : ModelRecord) (name : Name) (s : SpaceId) (member : Option Member) → IsBoundAt text name s kind.Reference member → params_of member ≡ None
no_params text name s member b = ap params_of (b.is ∙ (reference_at text name s b.of_kind).is)

pub layers_below : (text : ModelRecord) (path : Path) (spaces : List SpaceId) → IsSound text → layers text path ≡ Layers spaces → AllBelow (length text.spaces) spaces
layers_below text path spaces sound e =
    let P : Layered → Type 0 = λ reached. HasSpaces text reached in
    let are = subst P e (layers_spaces text path sound) in
    are.1

-- ---- the last name

ends : (s : Path) (last : Name) → 1 ≤ length s → last ≡ get_or s (length s - 1) last → take (length s - 1) s ++ last ∷ [] ≡ s
ends s last some is =
    let within : length s - 1 < length s = omega arith in
    let whole : length s - 1 + 1 ≡ length s = omega arith in
    ap (λ (x : Name). take (length s - 1) s ++ x ∷ []) is ∙ sym (take_more s (length s - 1) last within) ∙ ap (λ (n : ℕ). take n s) whole ∙ take_all (length s) s (omega arith)

pub split_built : (path s parent : Path) (last copied : Name) → s ≡ path → 1 ≤ length s → last ≡ get_or s (length s - 1) last → parent ≡ take (length s - 1) s → copied ≡ last → Some (parent, copied) ≡ split_last path
split_built path s parent last copied e some is p c =
    ap (λ (q : Path). Some (q, copied)) p ∙ ap (λ (n : Name). Some (take (length s - 1) s, n)) c ∙
    sym (split_push (take (length s - 1) s) last) ∙ ap split_last (ends s last some is ∙ e)
