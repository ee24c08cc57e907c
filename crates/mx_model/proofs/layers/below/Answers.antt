use Rattle.std.proofs.Common.{List, sym, subst}
use Rattle.mx_c3.specs.declared.space.SpaceId.{SpaceId}
use Rattle.mx_model.specs.declared.layers.Layered.{Layered}
use Rattle.mx_model.specs.Sound.{AreSpaces, HasSpaces}
use Rattle.mx_model.proofs.SoundLemmas.{children_spaces}
use Rattle.mx_model.proofs.layers.below.Goals as goal

pub of_children-requires-clause-spaces : goal.of_children-requires-clause-spaces
of_children-requires-clause-spaces c =
    let text = c.args.text.now in
    let P : Layered → Type 0 = λ reached. HasSpaces text reached in
    let are = subst P c.in-Layers.is c.requires.spaces in
    let Q : List SpaceId → Type 0 = λ spaces. AreSpaces text spaces in
    subst Q (sym c.in_ok-children.ensures) (children_spaces text c.args.name.now c.in-Layers.spaces c.requires.sound are)
