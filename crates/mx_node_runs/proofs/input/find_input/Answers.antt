use Rattle.std.proofs.Common.{◌≡◌, ◌∙◌, true, false, Some, None, sym, ap, subst}
use Rattle.mx_value.specs.declared.node.Node.{Node}
use Rattle.mx_value.specs.declared.node.Node.TheVariants.{Cell}
use Rattle.mx_value.specs.declared.value.Value.{Value}
use Rattle.mx_edit.specs.declared.key.Key.TheVariants as key
use Rattle.mx_edit.specs.declared.key.KeyResult.TheVariants as found
use Rattle.mx_model.specs.Keys.{key_result}
use Rattle.mx_runs.specs.Inputs.{is_static}
use Rattle.mx_read_set.specs.Seen.{Seen, with_key}
use Rattle.mx_node_runs.proofs.Inputs.{Gives, of_item, not_static, sought}
use Rattle.mx_node_runs.proofs.input.find_input.Goals as goal

pub returns-in_default : goal.returns-in_default
returns-in_default c =
    of_item (key_result c.args.world.now) c.args.seen.now c.args.node.now c.in_default.field-0 c.in_default.field-1 (sym c.in_default.is ∙ c.get.ensures)

pub returns-then-not-is_static : goal.returns-then-not-is_static
returns-then-not-is_static c =
    let n : Cell c.in-Cell.at c.in-Cell.field-1 c.in-Cell.field-2 ≡ c.args.node.now = sym c.in-Cell.is ∙ c.get.ensures in
    let i : is_static c.in-Cell.at ≡ false = ap is_static (sym c.as_slice.ensures) ∙ sym c.is_static.ensures ∙ c.if-not-is_static.true in
    not_static (key_result c.args.world.now) c.args.seen.now c.args.node.now c.in-Cell.at c.in-Cell.field-1 c.in-Cell.field-2 n i

pub returns-in-Some : goal.returns-in-Some
returns-in-Some c =
    let n : Cell c.in-Cell.at c.in-Cell.field-1 c.in-Cell.field-2 ≡ c.args.node.now = sym c.in-Cell.is ∙ c.get.ensures in
    let i : is_static c.in-Cell.at ≡ true = ap is_static (sym c.as_slice.ensures) ∙ sym c.is_static.ensures ∙ c.if-not-is_static.false in
    let v : Value = c.in_ok-copy-in-Some.field-0 in
    let s : c.look.new.self ≡ with_key (key.Input c.args.node.now) c.args.seen.now = c.in_ok-look.ensures ∙ ap (λ (m : Node). with_key (key.Input m) c.args.seen.now) c.in_ok-copy.ensures in
    let q : found.Value v ≡ key_result c.args.world.now (key.Input c.args.node.now) = ap found.Value c.in_ok-copy-in-Some.ensures ∙ c.in-Some.ensures ∙ ap (λ (m : Node). key_result c.args.world.now (key.Input m)) c.get-2.ensures in
    subst (λ (x : Seen). Gives (key_result c.args.world.now) c.args.seen.now c.args.node.now (Some v) x) (sym s)
    (sought (key_result c.args.world.now) c.args.seen.now c.args.node.now c.in-Cell.at c.in-Cell.field-1 c.in-Cell.field-2 n i (Some v) q)

pub returns-in-None : goal.returns-in-None
returns-in-None c =
    let n : Cell c.in-Cell.at c.in-Cell.field-1 c.in-Cell.field-2 ≡ c.args.node.now = sym c.in-Cell.is ∙ c.get.ensures in
    let i : is_static c.in-Cell.at ≡ true = ap is_static (sym c.as_slice.ensures) ∙ sym c.is_static.ensures ∙ c.if-not-is_static.false in
    let s : c.look.new.self ≡ with_key (key.Input c.args.node.now) c.args.seen.now = c.in_ok-look.ensures ∙ ap (λ (m : Node). with_key (key.Input m) c.args.seen.now) c.in_ok-copy.ensures in
    let q : found.Missing ≡ key_result c.args.world.now (key.Input c.args.node.now) = c.in-None.ensures ∙ ap (λ (m : Node). key_result c.args.world.now (key.Input m)) c.get-2.ensures in
    subst (λ (x : Seen). Gives (key_result c.args.world.now) c.args.seen.now c.args.node.now None x) (sym s)
    (sought (key_result c.args.world.now) c.args.seen.now c.args.node.now c.in-Cell.at c.in-Cell.field-1 c.in-Cell.field-2 n i None q)
