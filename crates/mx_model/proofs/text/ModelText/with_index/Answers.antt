use Rattle.std.proofs.Common.{refl}
use Rattle.mx_model.specs.Records.{ModelRecord}
use Rattle.mx_model.proofs.SpaceLemmas.{placed_same}
use Rattle.mx_model.proofs.text.ModelText.with_index.Goals as goal

pub invariant_of-result : goal.invariant_of-result
invariant_of-result c =
    let text : ModelRecord = record c.args.self.now { spaces = c.args.spaces } in
    let held = c.in_ok-held.held in
    let made : ModelRecord = record { spaces = c.args.spaces; globals = held.globals; inputs = held.inputs; tables = held.tables } in
    record {
      paths = c.requires.paths;
      bases = c.requires.lists;
      placed = placed_same c.args.kinds c.args.kinds text made refl refl c.requires.placed;
    }
