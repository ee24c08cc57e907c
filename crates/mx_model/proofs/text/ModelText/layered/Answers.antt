use Rattle.std.proofs.Common.{[], ◌∷◌, sym, subst}
use Rattle.mx_model.specs.declared.layers.Layered.{Layered}
use Rattle.mx_model.specs.Sound.{HasSpaces}
use Rattle.mx_model.proofs.SoundLemmas.{at_top_spaces}
use Rattle.mx_model.proofs.text.ModelText.layered.Goals as goal

pub further-requires-clause-spaces : goal.further-requires-clause-spaces
further-requires-clause-spaces c =
    let text = c.args.self.now in
    let P : Layered → Type 0 = λ reached. HasSpaces text reached in
    subst P (sym c.in_ok-at_top.ensures) (at_top_spaces text c.requires (c.in-Some.first.now ∷ []))
