use Rattle.std.proofs.Common.{rules, ◌≡◌, sym, ◌∙◌, subst, List, ℕ, All}
use Rattle.mx_value.specs.Label.{IsPrintable}
use Rattle.mx_value.proofs.Bytes.{printable_from_none}
use Rattle.mx_value.proofs.label.Label.new.Goals as goal

pub invariant_of-result : goal.invariant_of-result
invariant_of-result c =
    let none = sym c.first_unprintable.ensures ∙ c.in-None.is in
    let items : c.args.bytes.now ≡ c.in_ok-new-in-None.field-0.value.items = search rules in
    subst (λ (bytes : List ℕ). All IsPrintable bytes) items (printable_from_none c.args.bytes.now none)
