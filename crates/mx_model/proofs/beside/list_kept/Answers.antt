use Rattle.std.proofs.Common.{◌≡◌, ◌∙◌, List, length, slice_get, sym, ap}
use Rattle.std.specs.Prelude.{option_map}
use Rattle.std.specs.List.{filter_map}
use Rattle.std.proofs.lemmas.Option.{same_Some, slice_get-map}
use Rattle.mx_c3.specs.declared.space.SpaceId.{SpaceId}
use Rattle.mx_model.specs.Records.{Path, SpaceRecord}
use Rattle.mx_model.specs.Layers.{id_in}
use Rattle.mx_model.proofs.beside.list_kept.Goals as goal

pub returns : goal.returns
returns c =
    let kept = c.args.kept.now in
    let own : SpaceRecord → List SpaceId = λ s. filter_map (id_in kept.paths.now) s.bases in
    let at = slice_get-map own kept.spaces.now c.args.place ∙ ap (option_map own) (sym c.in-Some.ensures) in
    let there = sym c.bases-ids.ensures ∙ ap (λ (l : List (List SpaceId)). slice_get l c.args.place) c.requires.bases ∙ at in
    let bases : SpaceRecord → List Path = λ s. s.bases in
    let kept_bases : c.in-Some.space.now.bases ≡ c.args.bases.now = sym (ap bases (c.behind-space.view_is ∙ c.get-2.ensures)) ∙ c.are_same.ensures.0 c.if-not-are_same.false in
    record {
      are = same_Some c.bases-ids.result.now (own c.in-Some.space.now) there ∙ ap (filter_map (id_in kept.paths.now)) kept_bases;
      all = ap length (sym c.as_slice.ensures) ∙ c.if-as_slice-len.false ∙ c.len.ensures;
    }
