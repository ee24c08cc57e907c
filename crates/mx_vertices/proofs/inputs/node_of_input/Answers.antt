use Rattle.std.proofs.Common.{◌≡◌, ◌∙◌, true, false, sym, ap}
use Rattle.mx_edit.specs.declared.key.Key.TheVariants.{Input}
use Rattle.mx_vertices.specs.Inputs.{is_static}
use Rattle.mx_vertices.proofs.inputs.node_of_input.Goals as goal

pub returns : goal.returns
returns c q =
    let own : is_static c.in-Input.node ≡ true = ap is_static (sym c.get.ensures) ∙ sym c.is_static.ensures ∙ c.if-not-is_static.false in (
      λ o.
          let both : Input o.held.body.node ≡ Input c.in-Input.node = o.is ∙ c.in-Input.is in
          let same : o.held.body.node ≡ c.in-Input.node = cc in
          (c.find_held.ensures q).0 (record { held = o.held; slot = o.slot; is = same }),
      λ h.
          let n = (c.find_held.ensures q).1 h in
          record { held = n.held; slot = n.slot; own = ap is_static n.is ∙ own; is = ap Input n.is ∙ sym c.in-Input.is },
    )

pub returns-in_default : goal.returns-in_default
returns-in_default c q = (λ o. c.in_default.not-Input o.held.body.node (sym o.is), λ h. absurd h)

pub returns-then-not-is_static : goal.returns-then-not-is_static
returns-then-not-is_static c q = (
  λ o.
      let both : Input o.held.body.node ≡ Input c.in-Input.node = o.is ∙ c.in-Input.is in
      let same : o.held.body.node ≡ c.in-Input.node = cc in
      let no : false ≡ true = sym c.if-not-is_static.true ∙ c.is_static.ensures ∙ ap is_static (c.get.ensures ∙ sym same) ∙ o.own in
      cc,
  λ h. absurd h,
)
