use Rattle.std.proofs.Common.{◌≡◌, ◌∙◌, [], ◌∷◌, ◌++◌, ◌+◌, List, Option, None, Some, take, get_or, Bor, ap, sym, subst}
use Rattle.std.specs.Prelude.{MatchOption}
use Rattle.mx_model.specs.Records.{Name}
use Rattle.mx_paths.specs.declared.child.Child.{Child}
use Rattle.mx_paths.specs.Siblings.{Precedes, first, firsts, IsLeast}
use Rattle.mx_paths.proofs.Matches.{match_some, match_none, none_true}
use Rattle.mx_paths.proofs.Least.{least_alone, least_new, least_old, firsts_none, firsts_some}
use Rattle.mx_paths.proofs.walk.least_name.Goals as goal
use Rattle.mx_paths.proofs.walk.least_name.Goals.{in-Some-least+then-precedes, in-Some-least+else-precedes, in-None}

abbrev Least : Option (Bor Name) → List Child → Type 0
Least least cs = MatchOption least (cs ≡ []) (λ name. IsLeast cs name.now)

pub loop-family-preserved-in_default : goal.loop-family-preserved-in_default
loop-family-preserved-in_default c =
    let all = c.args.families.now in
    let i = c.loop-family.family-index in
    let d = c.family-item.result in
    let none : first (get_or all i d) ≡ None = ap first (sym c.family-item.is) ∙ c.in_default.ensures in
    subst (Least c.loop-family.least) (sym (firsts_none all i d c.loop-family-test.true none)) c.loop-family.invariant

pub loop-family-preserved : goal.loop-family-preserved
loop-family-preserved c =
    let all = c.args.families.now in
    let i = c.loop-family.family-index in
    let d = c.family-item.result in
    let child : Child = c.in-Some.child.now in
    let some : first (get_or all i d) ≡ Some child = ap first (sym c.family-item.is) ∙ c.in-Some.ensures in
    let more = firsts_some all i d child c.loop-family-test.true some in
    let P : Option (Bor Name) → Type 0 = λ o. Least o (firsts (take (i + 1) all)) in
    let before = firsts (take i all) in
    elim c.match-least.branch [
      | in-Some-least+then-precedes w ↦
          let was = match_some (before ≡ []) (λ name. IsLeast before name.now) c.loop-family.least w.in-Some-least.name c.loop-family.invariant w.in-Some-least.is in
          subst P (sym w.least-is) (subst (λ (cs : List Child). IsLeast cs child.name) (sym more) (least_new before w.in-Some-least.name.now child was (w.precedes.ensures.0 w.if-precedes.true)))
      | in-Some-least+else-precedes w ↦
          let was = match_some (before ≡ []) (λ name. IsLeast before name.now) c.loop-family.least w.in-Some-least.name c.loop-family.invariant w.in-Some-least.is in
          let not = λ (p : Precedes child.name w.in-Some-least.name.now). none_true w.precedes.result (w.precedes.ensures.1 p) w.if-precedes.false in
          subst P (sym (w.least-is ∙ w.in-Some-least.is)) (subst (λ (cs : List Child). IsLeast cs w.in-Some-least.name.now) (sym more) (least_old before w.in-Some-least.name.now child was not))
      | in-None w ↦
          let none = match_none (before ≡ []) (λ name. IsLeast before name.now) c.loop-family.least c.loop-family.invariant w.in-None.is in
          subst P (sym w.least-is) (subst (λ (cs : List Child). IsLeast cs child.name) (sym (more ∙ ap (λ (cs : List Child). cs ++ child ∷ []) none)) (least_alone child))
    ]
