use Rattle.std.proofs.Common.{◌∙◌, ap, sym, subst}
use Rattle.mx_model.specs.declared.lookup.Binding.{Binding}
use Rattle.mx_model.specs.Binding.{own_member, first_with}
use Rattle.mx_model.specs.Lookup.{IsBinding}
use Rattle.mx_model.specs.Inputs.{params_of}
use Rattle.mx_apply.proofs.StaticLemmas.{params, params_cells, no_params}
use Rattle.std.specs.Prelude.{option_map}
use Rattle.mx_apply.proofs.statics.formula_in.Goals as goal

pub formula-requires : goal.formula-requires
formula-requires c =
    let text = c.args.text.now in
    let name = c.args.name.now in
    let P : Binding → Type 0 = λ b. IsBinding text name b (first_with text (own_member text name) c.args.layers.now) in
    let at = subst P c.in-CellsHere.is c.lookup.ensures in
    at.within

pub returns-in-CellsHere : goal.returns-in-CellsHere
returns-in-CellsHere c =
    let text = c.args.text.now in
    let name = c.args.name.now in
    let member = first_with text (own_member text name) c.args.layers.now in
    let P : Binding → Type 0 = λ b. IsBinding text name b member in
    let at = subst P c.in-CellsHere.is c.lookup.ensures in
    ap (option_map params) c.formula.ensures ∙ params_cells text name c.in-CellsHere.owner member at

pub returns-in-Ref : goal.returns-in-Ref
returns-in-Ref c =
    let text = c.args.text.now in
    let name = c.args.name.now in
    let member = first_with text (own_member text name) c.args.layers.now in
    let P : Binding → Type 0 = λ b. IsBinding text name b member in
    sym (no_params text name _ member (subst P c.in-Ref.is c.lookup.ensures))

pub returns-in-Child : goal.returns-in-Child
returns-in-Child c =
    let text = c.args.text.now in
    let name = c.args.name.now in
    let P : Binding → Type 0 = λ b. IsBinding text name b (first_with text (own_member text name) c.args.layers.now) in
    sym (ap params_of (subst P c.in-Child.is c.lookup.ensures))

pub returns-in-Missing : goal.returns-in-Missing
returns-in-Missing c =
    let text = c.args.text.now in
    let name = c.args.name.now in
    let P : Binding → Type 0 = λ b. IsBinding text name b (first_with text (own_member text name) c.args.layers.now) in
    sym (ap params_of (subst P c.in-Missing.is c.lookup.ensures))
