use Rattle.std.proofs.Common.{◌≡◌, Option, IfOk, ap, sym, subst}
use Rattle.mx_syntax.specs.declared.stmt.Params.{Params}
use Rattle.mx_edit.specs.declared.key.KeyResult.{KeyResult}
use Rattle.mx_model.specs.declared.layers.Layered.{Layered}
use Rattle.mx_model.specs.Records.{SpaceRecord}
use Rattle.mx_model.specs.Layers.{layers}
use Rattle.mx_model.specs.Binding.{in_layers}
use Rattle.mx_model.specs.Keys.{params_of}
use Rattle.mx_model.proofs.LookupLemmas.{found_layers, not_found, layers_below}
use Rattle.mx_model.proofs.keys.params_at.Goals as goal

pub params_in-requires : goal.params_in-requires
params_in-requires c =
    let text = c.args.text.now in
    let path = c.args.path.now in
    layers_below text path c.in-Some.layers c.requires (found_layers (layers text path) c.in_ok-layers.field-0 c.in-Some.layers c.in-Some.is c.in_ok-layers.ensures)

pub returns-in-Some : goal.returns-in-Some
returns-in-Some c =
    let text = c.args.text.now in
    let own : SpaceRecord → Option Params = λ s. s.params in
    let e = found_layers (layers text c.args.path.now) c.in_ok-layers.field-0 c.in-Some.layers c.in-Some.is c.in_ok-layers.ensures in
    let P : Option Params → Type 0 = λ params. IfOk c.params_in.result (λ (told : KeyResult). told ≡ params_of params) in
    subst P (sym (ap (in_layers text own) e)) c.params_in.ensures

pub returns-in-None : goal.returns-in-None
returns-in-None c =
    let text = c.args.text.now in
    let own : SpaceRecord → Option Params = λ s. s.params in
    let e = not_found (layers text c.args.path.now) c.in_ok-layers.field-0 c.in-None.is c.in_ok-layers.ensures in
    sym (ap (λ (reached : Layered). params_of (in_layers text own reached)) e)
