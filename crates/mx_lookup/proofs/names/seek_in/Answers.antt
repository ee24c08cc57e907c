use Rattle.std.proofs.Common.{◌≡◌, None, Option, rules, sym, subst}
use Rattle.mx_value.specs.declared.value.Value.{Value}
use Rattle.mx_edit.specs.declared.key.Key.TheVariants as key
use Rattle.mx_edit.specs.declared.key.KeyResult.{KeyResult}
use Rattle.mx_edit.specs.declared.key.KeyResult.TheVariants as found
use Rattle.mx_model.specs.Keys.{key_result}
use Rattle.mx_meaning.specs.Namespaces.{value_in}
use Rattle.mx_code_law.specs.Finding.{bound_name_next, overlaid_next}
use Rattle.mx_read_set.specs.Seen.{with_key}
use Rattle.mx_lookup.specs.Goes.{Goes}
use Rattle.mx_lookup.specs.Sought.{found_or}
use Rattle.mx_lookup.proofs.Going.{goes_looked}
use Rattle.mx_lookup.proofs.names.seek_in.Goals as goal

pub returns-in-Ref : goal.returns-in-Ref
returns-in-Ref c = λ h line to other.
    let look = key_result c.args.world.now in
    let space = c.args.space.now in
    let name = c.args.name.now in
    let q : KeyResult = found.Ref c.in-Ref.found.value.now c.in-Ref.found.owner.now in
    let none : value_in space.overlay name ≡ None = search rules in
    let is : look (key.Name space.source name) ≡ q = search rules in
    let mid : c.look.new.self ≡ with_key (key.Name space.source name) c.args.seen.now = rw (c.in_ok-copy-2.ensures, c.in_ok-copy-3.ensures) at c.in_ok-look.ensures in
    subst (λ (o : Option Value). Goes look c.bound-in-Ref.result h line (found_or to other) (overlaid_next h o space name line to other) c.args.seen.now c.seek_bound_reference.new.seen) (sym none)
    (goes_looked look h line (found_or to other) c.bound-in-Ref.result (key.Name space.source name) q (bound_name_next h space name line to other) c.args.seen.now c.look.new.self c.seek_bound_reference.new.seen is mid
    (c.bound-in-Ref.ensures look h line to other (bound_name_next h space name line to other q) c.look.new.self c.seek_bound_reference.new.seen (c.seek_bound_reference.ensures h line to other)))
