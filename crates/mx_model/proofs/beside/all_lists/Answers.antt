use Rattle.std.proofs.Common.{◌∙◌, List, ap, sym}
use Rattle.std.specs.List.{filter_map}
use Rattle.mx_c3.specs.declared.space.SpaceId.{SpaceId}
use Rattle.mx_model.specs.Records.{SpaceRecord}
use Rattle.mx_model.specs.Layers.{id_in}
use Rattle.mx_model.proofs.Defined.{gives_more}
use Rattle.mx_model.proofs.beside.all_lists.Goals as goal

pub loop-place-preserved : goal.loop-place-preserved
loop-place-preserved c =
    let known = id_in c.args.paths.now in
    let own : SpaceRecord → List SpaceId = λ s. filter_map known s.bases in
    let bases : SpaceRecord → _ = λ s. s.bases in
    let same = c.in_ok-list_of.ensures ∙ ap (filter_map known) (ap bases (c.behind-space.view_is ∙ c.get-in-loop-place.ensures)) in
    gives_more own c.args.spaces.now c.loop-place.place c.in-Some.space.now c.loop-place.lists c.push.new.self c.in_ok-list_of.field-0 (sym c.in-Some.ensures) c.loop-place.invariant same c.in_ok-push.ensures.ok
