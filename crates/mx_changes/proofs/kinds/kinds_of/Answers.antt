use Rattle.std.proofs.Common.{◌≡◌, ◌∙◌, Some, get_or, sym, slice_get}
use Rattle.std.proofs.lemmas.Option.{slice_get-get_or}
use Rattle.mx_model.proofs.KindLemmas.{table_there, tells_at}
use Rattle.mx_changes.proofs.KindChanges.{defined_all, removed_all}
use Rattle.mx_changes.proofs.kinds.kinds_of.Goals as goal

pub unreachable-requires : goal.unreachable-requires
unreachable-requires c =
    table_there c.args.text.now c.args.text.now.spaces c.kinds.result.now c.args.s.0 c.kinds.ensures.kinds c.requires.within (sym c.in_default.ensures)

pub returns-in-Some-2 : goal.returns-in-Some-2
returns-in-Some-2 c =
    let tables = c.kinds.result.now in
    let text = c.args.text.now in
    let n = c.args.s.0 in
    let table = c.in-Some.kinds.now in
    let old = get_or text.spaces n c.args.space.now in
    let is : slice_get text.spaces n ≡ Some old = slice_get-get_or text.spaces n c.args.space.now c.requires.within in
    defined_all text c.args.name.now old c.args.space.now table c.in-Some-2.kind c.define_kind.result (tells_at text text.spaces tables n old table c.kinds.ensures.kinds is (sym c.in-Some.ensures)) (c.requires.others old is) (sym c.in-Some-2.is ∙ c.in_ok-kind.ensures) c.define_kind.ensures

pub returns-in-None : goal.returns-in-None
returns-in-None c =
    let tables = c.kinds.result.now in
    let text = c.args.text.now in
    let n = c.args.s.0 in
    let table = c.in-Some.kinds.now in
    let old = get_or text.spaces n c.args.space.now in
    let is : slice_get text.spaces n ≡ Some old = slice_get-get_or text.spaces n c.args.space.now c.requires.within in
    removed_all text c.args.name.now old c.args.space.now table c.remove_kind.result (tells_at text text.spaces tables n old table c.kinds.ensures.kinds is (sym c.in-Some.ensures)) (c.requires.others old is) (sym c.in-None.is ∙ c.in_ok-kind.ensures) c.remove_kind.ensures
