use Rattle.std.proofs.Common.{◌≡◌, length, map, Some, sym, ap, subst}
use Rattle.mx_c3.specs.InOrder.{AllBelow}
use Rattle.mx_model.specs.Records.{Path, ModelRecord}
use Rattle.mx_model.specs.Readers.{path_in}
use Rattle.mx_state.specs.State.{State}
use Rattle.mx_engine.proofs.Ordering.{spaces_below, layers_told}
use Rattle.mx_engine.proofs.engine.Engine.order.Goals as goal

pub paths_of-requires : goal.paths_of-requires
paths_of-requires c =
    subst (λ (t : ModelRecord). AllBelow (length t.spaces) c.layers.result.now) (sym c.text-text.ensures.exact)
    (spaces_below c.self.inside.world c.paths-paths.result.now c.args.path.now c.in-Some.id c.layers.result.now (c.in-Some.ensures.found c.self.inside.world c.paths-paths.ensures) c.layers.ensures.exact
    c.layer_laws.ensures.sound c.layer_laws.ensures.layers c.text-text.ensures.valid)

pub returns-in-Ok : goal.returns-in-Ok
returns-in-Ok c =
    layers_told c.self.inside.world c.paths-paths.result.now c.args.path.now c.in-Some.id c.layers.result.now (c.in-Some.ensures.found c.self.inside.world c.paths-paths.ensures) c.layers.ensures.exact
    c.args.self.now.text c.in-Ok.order.items (ap (λ (s : State). s.text) c.self.view_is)
    (subst (λ (t : ModelRecord). map (path_in t) c.layers.result.now ≡ map (λ (p : Path). Some p) c.in-Ok.order.items) c.text-text.ensures.exact c.in-Ok.ensures)
