use Rattle.std.proofs.Common.{◌∙◌, List, ap, subst}
use Rattle.mx_model.specs.Records.{SpaceRecord, ModelRecord}
use Rattle.mx_model.specs.Layers.{paths_of, base_lists}
use Rattle.mx_model.specs.Indexed.{ArePlaced}
use Rattle.mx_model.proofs.SpaceLemmas.{placed_same}
use Rattle.mx_model.proofs.text.ModelText.copy.Goals as goal

pub with_spaces_in_place-requires : goal.with_spaces_in_place-requires
with_spaces_in_place-requires c =
    let text = c.args.self.now in
    let made : ModelRecord = record text { spaces = c.in_ok-spaces.spaces } in
    let P : ModelRecord → Type 0 = λ t. ArePlaced c.self.inside.kinds t in
    let spaces = c.in_ok-spaces.ensures ∙ ap (λ (t : ModelRecord). t.spaces) c.self.view_is in
    record {
      placed = placed_same _ _ text made c.in_ok-kinds.ensures spaces (subst P c.self.view_is c.self.invariant.placed);
      paths = ap (λ (ss : List SpaceRecord). paths_of (record text { spaces = ss })) spaces;
      bases = ap (λ (ss : List SpaceRecord). base_lists (record text { spaces = ss })) spaces;
    }
