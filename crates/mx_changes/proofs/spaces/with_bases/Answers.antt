use Rattle.std.proofs.Common.{◌≡◌, ◌∙◌, List, IfOk, ap, sym, subst}
use Rattle.mx_model.specs.Records.{SpaceRecord, ModelRecord}
use Rattle.mx_changes.proofs.BaseLemmas.{bases_placed, bases_changed}
use Rattle.mx_changes.proofs.spaces.with_bases.Goals as goal

pub with_spaces-requires : goal.with_spaces-requires
with_spaces-requires c =
    let text = c.args.text.now in
    bases_placed text _ c.kinds.result.now c.in_ok-kinds.kinds c.spaces.result.now c.in-Some.s c.space.result.now c.in_ok-space.space c.args.bases.now c.kinds.ensures c.in_ok-kinds.ensures c.spaces.ensures c.space.ensures c.in_ok-space.ensures (ap (λ (zs : List SpaceRecord). record text { spaces = zs }) c.in_ok-spaces.ensures)

pub returns : goal.returns
returns c =
    let text = c.args.text.now in
    let made = bases_changed text c.args.path.now c.spaces.result.now c.in-Some.s c.space.result.now c.in_ok-space.space c.args.bases.now c.kinds.ensures.once (sym c.in-Some.ensures) c.spaces.ensures c.space.ensures c.in_ok-space.ensures in
    let Q : ModelRecord → Type 0 = λ z. IfOk c.with_spaces.result (λ (t : ModelRecord). t ≡ z) in
    subst Q (ap (λ (zs : List SpaceRecord). record text { spaces = zs }) c.in_ok-spaces.ensures ∙ made) c.with_spaces.ensures
