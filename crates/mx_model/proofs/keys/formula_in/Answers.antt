use Rattle.std.proofs.Common.{◌≡◌, Option, IfOk, ap, sym, subst}
use Rattle.mx_edit.specs.declared.key.KeyResult.{KeyResult}
use Rattle.mx_model.specs.declared.lookup.Binding.{Binding}
use Rattle.mx_model.specs.Binding.{Member, own_member, first_with}
use Rattle.mx_model.specs.Lookup.{IsBinding}
use Rattle.mx_model.specs.Keys.{formula_of}
use Rattle.mx_model.proofs.LookupLemmas.{no_cells}
use Rattle.mx_model.proofs.keys.formula_in.Goals as goal

pub returns-in-Ref : goal.returns-in-Ref
returns-in-Ref c =
    let text = c.args.text.now in
    let name = c.args.name.now in
    let P : Binding → Type 0 = λ b. IsBinding text name b (first_with text (own_member text name) c.args.layers.now) in
    sym (no_cells text name _ (first_with text (own_member text name) c.args.layers.now) (subst P c.in-Ref.is c.lookup.ensures))

pub returns-in-Child : goal.returns-in-Child
returns-in-Child c =
    let text = c.args.text.now in
    let name = c.args.name.now in
    let P : Binding → Type 0 = λ b. IsBinding text name b (first_with text (own_member text name) c.args.layers.now) in
    sym (ap formula_of (subst P c.in-Child.is c.lookup.ensures))

pub returns-in-Missing : goal.returns-in-Missing
returns-in-Missing c =
    let text = c.args.text.now in
    let name = c.args.name.now in
    let P : Binding → Type 0 = λ b. IsBinding text name b (first_with text (own_member text name) c.args.layers.now) in
    sym (ap formula_of (subst P c.in-Missing.is c.lookup.ensures))

pub cells_of-requires-clause-within : goal.cells_of-requires-clause-within
cells_of-requires-clause-within c =
    let text = c.args.text.now in
    let name = c.args.name.now in
    let P : Binding → Type 0 = λ b. IsBinding text name b (first_with text (own_member text name) c.args.layers.now) in
    let at = subst P c.in-CellsHere.is c.lookup.ensures in
    at.within

pub cells_of-requires-clause-of_kind : goal.cells_of-requires-clause-of_kind
cells_of-requires-clause-of_kind c =
    let text = c.args.text.now in
    let name = c.args.name.now in
    let P : Binding → Type 0 = λ b. IsBinding text name b (first_with text (own_member text name) c.args.layers.now) in
    let at = subst P c.in-CellsHere.is c.lookup.ensures in
    at.of_kind

pub returns-in-CellsHere : goal.returns-in-CellsHere
returns-in-CellsHere c =
    let text = c.args.text.now in
    let name = c.args.name.now in
    let P : Binding → Type 0 = λ b. IsBinding text name b (first_with text (own_member text name) c.args.layers.now) in
    let at = subst P c.in-CellsHere.is c.lookup.ensures in
    let Q : Option Member → Type 0 = λ member. IfOk c.cells_of.result (λ (told : KeyResult). told ≡ formula_of member) in
    subst Q (sym at.is) c.cells_of.ensures
