use Rattle.std.proofs.Common.{◌≡◌, ◌∙◌, Some, None, true, sym, ap, subst, inl, inr}
use Rattle.std.specs.Prelude.{option_copied}
use Rattle.std.specs.HashMap.{get as look_up}
use Rattle.mx_value.specs.declared.node.Node.{Node as Asked}
use Rattle.mx_value.specs.Equality.{node_eq}
use Rattle.mx_vertices.specs.declared.standing.Standing.TheVariants.{Begun, Ended}
use Rattle.mx_vertices.specs.Found.{IsNodeAt}
use Rattle.mx_vertices.proofs.Statics.{is_led, not_led, led_at}
use Rattle.mx_vertices.proofs.inputs.find_held.Goals as goal

pub returns-then-holds_node : goal.returns-then-holds_node
returns-then-holds_node c q =
    let some : look_up node_eq c.args.table.now c.args.node.now ≡ Some (Ended c.in-Ended.id) = sym c.get.ensures.value ∙ ap option_copied c.in-Some.is ∙ ap Some c.in-Ended.is in
    let there : IsNodeAt c.args.slots.now c.in-Ended.id.at c.args.node.now
    = subst (λ (n : Asked). IsNodeAt c.args.slots.now c.in-Ended.id.at n) c.get-2.ensures (c.holds_node.ensures.yes c.if-holds_node.true) in (
      λ n. inl (led_at (look_up node_eq c.args.table.now) c.args.slots.now c.requires c.args.node.now c.in-Ended.id some q n),
      λ h. elim h [ inl e ↦ subst (λ k. IsNodeAt c.args.slots.now k c.args.node.now) e there | inr e ↦ absurd e ],
    )

pub returns : goal.returns
returns c q =
    let some : look_up node_eq c.args.table.now c.args.node.now ≡ Some (Ended c.in-Ended.id) = sym c.get.ensures.value ∙ ap option_copied c.in-Some.is ∙ ap Some c.in-Ended.is in (
      λ n.
          let same : c.in-Ended.id.at ≡ q = led_at (look_up node_eq c.args.table.now) c.args.slots.now c.requires c.args.node.now c.in-Ended.id some q n in
          let yes : c.holds_node.result ≡ true = c.holds_node.ensures.no (subst (λ (m : Asked). IsNodeAt c.args.slots.now c.in-Ended.id.at m) (sym c.get-2.ensures) (subst (λ k. IsNodeAt c.args.slots.now k c.args.node.now) (sym same) n)) in
          let no = c.if-holds_node.false in
          cc,
      λ h. absurd h,
    )

pub returns-in_default : goal.returns-in_default
returns-in_default c q =
    let none : look_up node_eq c.args.table.now c.args.node.now ≡ None = sym c.get.ensures.value ∙ ap option_copied c.in_default.is in
    (λ n. is_led (look_up node_eq c.args.table.now) c.args.slots.now c.requires c.args.node.now none q n, λ h. absurd h)

pub returns-in_default-standing : goal.returns-in_default-standing
returns-in_default-standing c q =
    let some : look_up node_eq c.args.table.now c.args.node.now ≡ Some Begun = sym c.get.ensures.value ∙ ap option_copied c.in-Some.is ∙ ap Some c.in_default-standing.is in
    (λ n. not_led (look_up node_eq c.args.table.now) c.args.slots.now c.requires c.args.node.now some q n, λ h. absurd h)
