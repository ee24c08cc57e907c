use Rattle.std.proofs.Common.{◌∙◌, ap, map, sym}
use Rattle.std.proofs.lemmas.Option.{slice_get-map}
use Rattle.std.specs.Prelude.{option_map}
use Rattle.mx_model.specs.Records.{Path, SpaceRecord}
use Rattle.mx_model.proofs.Defined.{path_more}
use Rattle.mx_model.proofs.beside.more_paths.Goals as goal

pub loop-place-preserved : goal.loop-place-preserved
loop-place-preserved c =
    let path : SpaceRecord → Path = λ s. s.path in
    let spaces = c.args.spaces.now in
    let i = c.loop-place.place in
    let space = c.in-Some.space.now in
    let is = slice_get-map path spaces i ∙ ap (option_map path) (sym c.in-Some.ensures) in
    path_more (map path spaces) c.loop-place.paths i space.path c.path.result.now c.enter_copy.new.paths c.requires.once c.loop-place.invariant is (c.path.ensures ∙ ap path c.get-in-loop-place.ensures) c.in_ok-enter_copy.ensures
