use Rattle.std.proofs.Common.{◌∙◌, List, [], ◌∷◌, ◌++◌, ap, sym, subst}
use Rattle.mx_c3.specs.declared.space.SpaceId.{SpaceId}
use Rattle.mx_c3.specs.Lists.{AllDistinct}
use Rattle.mx_model.proofs.SoundLemmas.{each_spaces, last_spaces}
use Rattle.mx_model.proofs.layers.merge_orders.Goals as goal

pub merge-requires : goal.merge-requires
merge-requires c =
    let text = c.args.text.now in
    let spaces = c.args.spaces.now in
    let orders = c.in-Ok.orders.items in
    let is = c.deref.ensures.value ∙ c.in_ok-push.ensures.items ∙ ap (λ (o : List SpaceId). orders ++ o ∷ []) c.in_ok-copy.ensures in
    let all = last_spaces text orders spaces (each_spaces text c.requires.sound spaces orders c.requires.spaces.1 c.in-Ok.ensures) c.requires.spaces in
    let P : List (List SpaceId) → Type 0 = λ lists. AllDistinct lists in
    subst P (sym is) all.0
