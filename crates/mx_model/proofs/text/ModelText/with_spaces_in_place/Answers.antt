use Rattle.std.proofs.Common.{◌∙◌, sym, subst}
use Rattle.mx_model.specs.Records.{ModelRecord}
use Rattle.mx_model.specs.Indexed.{IsIndexed}
use Rattle.mx_model.proofs.text.ModelText.with_spaces_in_place.Goals as goal

pub with_index-requires : goal.with_index-requires
with_index-requires c =
    let inside = c.self.inside in
    let P : ModelRecord → Type 0 = λ t. IsIndexed inside.paths inside.lists inside.kinds t in
    let index = subst P c.self.view_is c.self.invariant in
    record {
      paths = c.in_ok-index.ensures.paths ∙ index.paths ∙ sym c.requires.paths;
      lists = c.in_ok-index.ensures.lists ∙ index.bases ∙ sym c.requires.bases;
      placed = c.requires.placed;
    }
