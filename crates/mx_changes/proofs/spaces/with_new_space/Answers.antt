use Rattle.std.proofs.Common.{◌≡◌, ◌∙◌, ◌<◌, ◌+◌, ◌^◌, List, [], ◌∷◌, ◌++◌, ap, length, arith}
use Rattle.mx_model.specs.Records.{SpaceRecord}
use Rattle.mx_changes.proofs.Free.{holds, new_free}
use Rattle.mx_changes.proofs.NewSpaces.{grown_built}
use Rattle.mx_changes.proofs.spaces.with_new_space.Goals as goal

pub with_spaces-requires : goal.with_spaces-requires
with_spaces-requires c =
    let text = c.args.text.now in
    let parent = c.args.parent.now in
    let name = c.args.name.now in
    let long : length c.spaces.result.now ≡ length text.spaces = ap length c.spaces.ensures in
    let few : length text.spaces + 1 < 2 ^ 32 = omega arith in
    let spaces = c.in_ok-spaces.ensures ∙ ap (λ (zs : List SpaceRecord). zs ++ c.in_ok-space.space ∷ []) c.spaces-2.ensures ∙ ap (λ (z : SpaceRecord). text.spaces ++ z ∷ []) c.in_ok-space.ensures in
    grown_built text _ c.kinds.result.now c.in_ok-before.before c.in_ok-kinds.kinds parent name c.kinds.ensures (holds text parent c.requires.held) (new_free text parent name c.requires.free) few c.in_ok-before.ensures c.in_ok-kinds.ensures (ap (λ (zs : List SpaceRecord). record text { spaces = zs }) spaces)
