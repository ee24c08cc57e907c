use Rattle.std.proofs.Common.{◌∙◌, List, ap}
use Rattle.mx_model.specs.Records.{Path}
use Rattle.mx_model.specs.Layers.{lists_in}
use Rattle.mx_model.proofs.text.ModelText.with_spaces.Goals as goal

pub with_index-requires : goal.with_index-requires
with_index-requires c =
    let index = c.in_ok-index.ensures in
    record {
      paths = index.paths;
      lists = index.bases ∙ ap (λ (ps : List Path). lists_in ps c.args.spaces) index.paths;
      placed = c.requires;
    }
