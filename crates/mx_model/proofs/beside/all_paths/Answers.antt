use Rattle.std.proofs.Common.{◌∙◌, ap, map, sym, subst, arith}
use Rattle.std.specs.List.{IsDistinct}
use Rattle.std.proofs.lemmas.List.{take_all}
use Rattle.mx_value.specs.Name.{same_path}
use Rattle.mx_model.specs.Records.{Path, SpaceRecord}
use Rattle.mx_model.proofs.Defined.{gives_more, distinct_paths}
use Rattle.mx_model.proofs.beside.all_paths.Goals as goal

pub loop-place-preserved : goal.loop-place-preserved
loop-place-preserved c =
    let path : SpaceRecord → Path = λ s. s.path in
    let same = c.in_ok-copy.ensures ∙ c.path.ensures ∙ ap path c.get-in-loop-place.ensures in
    gives_more path c.args.spaces.now c.loop-place.place c.in-Some.space.now c.loop-place.paths.items c.push.new.self.items c.in_ok-copy.field-0 (sym c.in-Some.ensures) c.loop-place.invariant same c.in_ok-push.ensures.items

pub from_slice-requires : goal.from_slice-requires
from_slice-requires c =
    let path : SpaceRecord → Path = λ s. s.path in
    let spaces = c.args.spaces.now in
    let past = c.loop-place-test.false in
    let end = c.len-place-end.ensures in
    let all = take_all c.loop-place.place spaces (omega arith) in
    let are = c.as_slice.ensures.value ∙ c.loop-place.invariant ∙ ap (map path) all in
    record { once = subst (IsDistinct same_path) (sym are) (distinct_paths (map path spaces) c.requires) }
