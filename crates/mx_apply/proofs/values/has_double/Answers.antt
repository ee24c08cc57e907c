use Rattle.std.proofs.Common.{◌≡◌, ◌+◌, ◌∙◌, false, drop, rules}
use Rattle.std.specs.List.{list_any}
use Rattle.mx_value.specs.Name.{same_path}
use Rattle.mx_apply.proofs.ValueLemmas.{double_passed}
use Rattle.mx_apply.proofs.values.has_double.Goals as goal

pub loop-i-preserved : goal.loop-i-preserved
loop-i-preserved c =
    let paths = c.args.paths.now in
    let path = c.index-paths-i.result in
    let other : list_any (same_path path) (drop (c.loop-i.i + 1) paths) ≡ false = search rules in
    c.loop-i.invariant ∙ double_passed paths c.loop-i.i path c.loop-i-test.true c.index-paths-i.is other
