use Rattle.std.proofs.Common.{◌≡◌, ◌∙◌, List, Option, sym, ap, subst}
use Rattle.mx_value.specs.declared.label.Label.{Label}
use Rattle.mx_edit.specs.declared.reference.RefValue.{RefValue}
use Rattle.mx_model.specs.Keys.{key_result}
use Rattle.mx_meaning.specs.References.{Target, relative, target_of}
use Rattle.mx_code_law.specs.States.{Next}
use Rattle.mx_code_law.specs.Finding.{reference_next, target_next}
use Rattle.mx_lookup.specs.Goes.{Goes}
use Rattle.mx_lookup.specs.Targets.{target_meant}
use Rattle.mx_lookup.proofs.references.seek_reference.Goals as goal

pub returns-in-Target : goal.returns-in-Target
returns-in-Target c = λ h line to.
    let owner = c.args.written.owner.now in
    let space = c.args.space.now in
    let target = c.in_ok-target-in-Target.target in
    let meant : target_next h (target_meant target) line to ≡ reference_next h c.args.written.value.now owner space line to =
    ap (λ (t : Target). target_next h t line to)
    (c.in_ok-target-in-Target.ensures
    ∙ ap (λ (names : Option (List Label)). target_of space c.in-Target.path names)
    (c.relative-names.ensures ∙ ap (λ (path : List Label). relative owner c.in-Target.fixed path) c.as_slice.ensures))
    ∙ ap (λ (v : RefValue). reference_next h v owner space line to) (sym c.in-Target.is) in
    subst (λ (n : Next). Goes (key_result c.args.world.now) c.seek_target.result h line to n c.args.seen.now c.seek_target.new.seen) meant (c.seek_target.ensures h line to)
