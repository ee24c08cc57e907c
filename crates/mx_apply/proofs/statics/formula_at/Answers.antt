use Rattle.std.proofs.Common.{◌∙◌, ap, sym}
use Rattle.mx_model.specs.declared.layers.Layered.{Layered}
use Rattle.mx_model.specs.Binding.{own_member, in_layers}
use Rattle.mx_model.specs.Inputs.{params_of}
use Rattle.mx_apply.proofs.StaticLemmas.{layers_below}
use Rattle.mx_apply.proofs.statics.formula_at.Goals as goal

pub formula_in-requires : goal.formula_in-requires
formula_in-requires c =
    layers_below c.args.text.now c.args.path.now c.in-Layers.layers c.requires (sym c.in_ok-layers.ensures ∙ c.in-Layers.is)

pub returns-in-Layers : goal.returns-in-Layers
returns-in-Layers c =
    let text = c.args.text.now in
    let e = sym c.in_ok-layers.ensures ∙ c.in-Layers.is in
    c.formula_in.ensures ∙ sym (ap (λ (reached : Layered). params_of (in_layers text (own_member text c.args.name.now) reached)) e)

pub returns-in-NoOrder : goal.returns-in-NoOrder
returns-in-NoOrder c =
    let text = c.args.text.now in
    let e = sym c.in_ok-layers.ensures ∙ c.in-NoOrder.is in
    sym (ap (λ (reached : Layered). params_of (in_layers text (own_member text c.args.name.now) reached)) e)

pub returns-in-NotStatic : goal.returns-in-NotStatic
returns-in-NotStatic c =
    let text = c.args.text.now in
    let e = sym c.in_ok-layers.ensures ∙ c.in-NotStatic.is in
    sym (ap (λ (reached : Layered). params_of (in_layers text (own_member text c.args.name.now) reached)) e)
