use Rattle.std.proofs.Common.{◌≡◌, List, ◌∙◌, ap, sym, subst}
use Rattle.std.specs.List.{insert}
use Rattle.mx_paths.specs.declared.child.Child.{Child}
use Rattle.mx_paths.specs.Sorting.{IsEntered, IsPlace}
use Rattle.mx_paths.proofs.SortLemmas.{entered}
use Rattle.mx_paths.proofs.families.Siblings.enter.Goals as goal

pub returns : goal.returns
returns c =
    let v : c.self.inside.children.items ≡ c.args.self.now = cc in
    let at : c.deref.result.now ≡ c.args.self.now = c.deref.ensures.value ∙ v in
    let P : List Child → Type 0 = λ cs. IsPlace cs c.args.child.name c.place_of-place.result in
    let Q : List Child → Type 0 = λ cs. IsEntered c.args.child c.args.self.now cs in
    let new : c.insert.new.self.items ≡ insert c.args.self.now c.place_of-place.result c.args.child = c.in_ok-insert.ensures.items ∙ ap (λ (cs : List Child). insert cs c.place_of-place.result c.args.child) v in
    subst Q (sym new) (entered c.args.self.now c.place_of-place.result c.args.child c.requires.rising (subst P at c.place_of-place.ensures) c.requires.new)
