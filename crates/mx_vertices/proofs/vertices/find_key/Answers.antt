use Rattle.std.proofs.Common.{◌≡◌, ◌∙◌, Some, None, true, sym, ap, subst}
use Rattle.std.specs.Prelude.{option_copied}
use Rattle.std.specs.HashMap.{get as look_up}
use Rattle.mx_edit.specs.Equality.{key_eq}
use Rattle.mx_vertices.specs.Kept.{IsKeyAt}
use Rattle.mx_vertices.proofs.Watching.{is_led, led_at}
use Rattle.mx_vertices.proofs.vertices.find_key.Goals as goal

pub returns-in_default-clause-none : goal.returns-in_default-clause-none
returns-in_default-clause-none c q i =
    let none : look_up key_eq c.args.table.now c.args.key.now ≡ None = sym c.get.ensures.value ∙ ap option_copied c.in_default.is in
    is_led (look_up key_eq c.args.table.now) c.args.slots.now c.requires c.args.key.now none q i

pub returns-clause-none : goal.returns-clause-none
returns-clause-none c q i =
    let some : look_up key_eq c.args.table.now c.args.key.now ≡ Some c.in-Some.entered.now = sym c.get.ensures.value ∙ ap option_copied c.in-Some.is in
    let same = led_at (look_up key_eq c.args.table.now) c.args.slots.now c.requires c.args.key.now c.in-Some.entered.now some q i in
    let yes : c.is_key.result ≡ true = c.is_key.ensures.no (subst (λ n. IsKeyAt c.args.slots.now n c.args.key.now) (sym same) i) in
    let no = c.if-is_key.false in
    cc
