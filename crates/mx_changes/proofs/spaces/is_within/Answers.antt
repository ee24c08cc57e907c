use Rattle.std.proofs.Common.{◌∙◌, length, take, ap}
use Rattle.std.specs.Cmp.Lexicographic.{pointwise}
use Rattle.mx_value.specs.Name.{same_name}
use Rattle.mx_model.specs.Records.{Path}
use Rattle.mx_changes.proofs.GoneSpaces.{within_starts}
use Rattle.mx_changes.proofs.spaces.is_within.Goals as goal

pub returns : goal.returns
returns c =
    let path = c.args.path.now in
    c.starts_with.ensures.value ∙
    ap (λ (p : Path). pointwise same_name p (take (length p) c.as_slice.result.now)) c.as_slice-2.ensures ∙
    ap (λ (o : Path). pointwise same_name path (take (length path) o)) c.as_slice.ensures ∙ within_starts path c.args.other.now
