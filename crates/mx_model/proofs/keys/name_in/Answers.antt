use Rattle.std.proofs.Common.{◌≡◌, Option, IfOk, ap, sym, subst}
use Rattle.mx_edit.specs.declared.key.KeyResult.{KeyResult}
use Rattle.mx_model.specs.declared.lookup.Binding.{Binding}
use Rattle.mx_model.specs.Binding.{Member, own_member, first_with}
use Rattle.mx_model.specs.Lookup.{IsBinding}
use Rattle.mx_model.specs.Keys.{bound_to}
use Rattle.mx_model.proofs.LookupLemmas.{bound_cells}
use Rattle.mx_model.proofs.keys.name_in.Goals as goal

pub returns-in-CellsHere : goal.returns-in-CellsHere
returns-in-CellsHere c =
    let text = c.args.text.now in
    let name = c.args.name.now in
    let P : Binding → Type 0 = λ b. IsBinding text name b (first_with text (own_member text name) c.args.layers.now) in
    sym (bound_cells text name _ (first_with text (own_member text name) c.args.layers.now) (subst P c.in-CellsHere.is c.lookup.ensures))

pub returns-in-Child : goal.returns-in-Child
returns-in-Child c =
    let text = c.args.text.now in
    let name = c.args.name.now in
    let P : Binding → Type 0 = λ b. IsBinding text name b (first_with text (own_member text name) c.args.layers.now) in
    sym (ap bound_to (subst P c.in-Child.is c.lookup.ensures))

pub returns-in-Missing : goal.returns-in-Missing
returns-in-Missing c =
    let text = c.args.text.now in
    let name = c.args.name.now in
    let P : Binding → Type 0 = λ b. IsBinding text name b (first_with text (own_member text name) c.args.layers.now) in
    sym (ap bound_to (subst P c.in-Missing.is c.lookup.ensures))

pub reference_of-requires-clause-within : goal.reference_of-requires-clause-within
reference_of-requires-clause-within c =
    let text = c.args.text.now in
    let name = c.args.name.now in
    let P : Binding → Type 0 = λ b. IsBinding text name b (first_with text (own_member text name) c.args.layers.now) in
    let at = subst P c.in-Ref.is c.lookup.ensures in
    at.within

pub reference_of-requires-clause-of_kind : goal.reference_of-requires-clause-of_kind
reference_of-requires-clause-of_kind c =
    let text = c.args.text.now in
    let name = c.args.name.now in
    let P : Binding → Type 0 = λ b. IsBinding text name b (first_with text (own_member text name) c.args.layers.now) in
    let at = subst P c.in-Ref.is c.lookup.ensures in
    at.of_kind

pub returns-in-Ref : goal.returns-in-Ref
returns-in-Ref c =
    let text = c.args.text.now in
    let name = c.args.name.now in
    let P : Binding → Type 0 = λ b. IsBinding text name b (first_with text (own_member text name) c.args.layers.now) in
    let at = subst P c.in-Ref.is c.lookup.ensures in
    let Q : Option Member → Type 0 = λ member. IfOk c.reference_of.result (λ (told : KeyResult). told ≡ bound_to member) in
    subst Q (sym at.is) c.reference_of.ensures
