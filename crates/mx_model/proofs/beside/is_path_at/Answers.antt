use Rattle.std.proofs.Common.{◌∙◌, Some, sym, ap}
use Rattle.std.specs.Prelude.{option_map}
use Rattle.std.proofs.lemmas.Option.{slice_get-map}
use Rattle.mx_value.proofs.NodeSames.{path_decides}
use Rattle.mx_model.specs.Records.{Path, SpaceRecord}
use Rattle.mx_model.proofs.beside.is_path_at.Goals as goal

pub returns : goal.returns
returns c same path at =
    let own : SpaceRecord → Path = λ s. s.path in
    let there = slice_get-map own c.args.spaces.now c.args.place ∙ ap (option_map own) (sym c.in-Some.ensures) in
    let is = (path_decides c.path.result.now c.in-Some-get.path.now).0 (sym c.eq.ensures ∙ same) in
    there ∙ ap (λ (p : Path). Some p) (sym (c.path.ensures ∙ ap own c.get-3.ensures) ∙ is) ∙ c.in-Some-get.ensures ∙ at
