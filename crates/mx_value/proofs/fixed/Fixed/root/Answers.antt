use Rattle.std.proofs.Common.{◌≡◌, ◌<◌, ◌≤◌, ◌≤ℤ◌, ◌^◌, arith, ap, ◌∙◌, sym, subst, inl, inr, ℤ, pos, Result, Ok, IfOk, to_z-of_z, FitsSigned}
use Rattle.std.specs.Int.{w128}
use Rattle.mx_value.specs.declared.fixed.NumFault.{NumFault}
use Rattle.mx_value.specs.Fixed.{IsRoot, fixed_root}
use Rattle.mx_value.proofs.PowerLaws.{root-domain, root-found, root-is, sign-below, sign-above}
use Rattle.mx_value.proofs.fixed.Fixed.root.Goals as goal
use Rattle.mx_value.proofs.fixed.Fixed.root.Goals.{then-self-lt0-via-then-self-lt0, then-self-lt0-via-else-self-lt0+then-n-eq0, then-self-lt0-via-else-self-lt0+else-n-eq0+then-n-gt-MOST_FACTORS}

pub returns-then-self-lt0-clause-value : goal.returns-then-self-lt0-clause-value
returns-then-self-lt0-clause-value c =
    root-domain c.args.self c.args.n (elim c.then-self-lt0.branch [
      | then-self-lt0-via-then-self-lt0 w ↦ inl (sign-below c.args.self c.self.inside.raw c.self.invariant c.self.view_is w.if-self-lt0.true)
      | then-self-lt0-via-else-self-lt0+then-n-eq0 w ↦ inr (inl (sym c.from-n.ensures ∙ w.if-n-eq0.true))
      | then-self-lt0-via-else-self-lt0+else-n-eq0+then-n-gt-MOST_FACTORS w ↦ inr (inr (omega (arith, c.from-n.ensures, w.if-n-gt-MOST_FACTORS.true)))
    ])

pub returns-clause-value : goal.returns-clause-value
returns-clause-value c =
    let f : FitsSigned w128 c.from.result = record { sfits = c.from.type_inv } in
    let h = c.from.ensures in
    let above : pos 0 ≤ℤ c.args.self = sign-above c.args.self c.self.inside.raw c.self.invariant c.self.view_is c.if-self-lt0.false in
    let base = c.greatest_base-base.ensures in
    let some : 0 < c.from-n.result = omega arith in
    ap Ok (to_z-of_z f ∙ h) ∙ root-found c.args.self c.from-n.result c.greatest_base-base.result above some c.if-n-gt-MOST_FACTORS.false base.small base.reached base.above
    ∙ ap (fixed_root c.args.self) c.from-n.ensures

pub returns-clause-greatest : goal.returns-clause-greatest
returns-clause-greatest c =
    subst (λ (r : Result ℤ NumFault). IfOk r (IsRoot c.args.self c.args.n)) (sym (returns-clause-value c)) (root-is c.args.self c.args.n)
