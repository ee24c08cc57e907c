use Rattle.std.proofs.Common.{◌≡◌, ◌∙◌, ◌<◌, List, ap, sym, subst, length, set, arith}
use Rattle.mx_edit.specs.declared.edit.Edit.TheVariants as edit
use Rattle.mx_model.specs.Change.{change}
use Rattle.mx_model.specs.Indexed.{Kinds, TellAll}
use Rattle.mx_model.proofs.KindLemmas.{tables_many, table_there, ok_more}
use Rattle.mx_model.specs.Records.{SpaceRecord}
use Rattle.mx_model.proofs.Filtered.{has_map}
use Rattle.mx_model.proofs.Places.{id_within}
use Rattle.mx_changes.proofs.Free.{own_none, holds}
use Rattle.mx_changes.proofs.NewSpaces.{with_child, without_parent}
use Rattle.mx_changes.proofs.spaces.kinds_with_child.Goals as goal

pub unreachable-requires : goal.unreachable-requires
unreachable-requires c =
    let text = c.args.text.now in
    let within = id_within text c.args.parent.now c.in-Some.s (sym c.in-Some.ensures) in
    table_there text text.spaces c.args.kinds.now c.in-Some.s.0 c.requires.placed.kinds within (sym c.in_default.ensures)

pub set-requires : goal.set-requires
set-requires c =
    let tables = c.args.kinds.now in
    let text = c.args.text.now in
    let many : length tables ≡ length text.spaces = tables_many text text.spaces tables c.requires.placed.kinds in
    let within : c.in-Some.s.0 < length text.spaces = id_within text c.args.parent.now c.in-Some.s (sym c.in-Some.ensures) in
    let long : length c.in_ok-tables-in-Some.tables ≡ length tables = ap length c.in_ok-tables-in-Some.ensures in
    omega arith

pub returns-in-Some : goal.returns-in-Some
returns-in-Some c =
    let tables = c.args.kinds.now in
    let text = c.args.text.now in
    let parent = c.args.parent.now in
    let s = c.in-Some.s in
    let placed = c.requires.placed in
    let own = own_none text parent c.args.name.now (λ z h. placed.parents z.path (has_map (λ (r : SpaceRecord). r.path) text.spaces z h)) c.requires.free in
    let tell = with_child text tables parent c.args.name.now s c.in-Some-get.own.now c.in_ok-table-in-Some.table placed (sym c.in-Some.ensures) (sym c.in-Some-get.ensures) own c.in_ok-table-in-Some.ensures in
    let Q : List Kinds → Type 0 = λ ts. TellAll (change text (edit.NewSpace parent c.args.name.now)) text.spaces ts in
    subst Q (sym (c.in_ok-set-in-Some.ensures.ok ∙ ap (λ (ts : List Kinds). set ts s.0 c.in_ok-table-in-Some.table) c.in_ok-tables-in-Some.ensures)) tell

pub returns-in-None : goal.returns-in-None
returns-in-None c =
    let text = c.args.text.now in
    let parent = c.args.parent.now in
    let tell = without_parent text c.args.kinds.now parent c.args.name.now c.requires.placed (sym c.in-None.ensures) (holds text parent c.requires.held) in
    let Q : List Kinds → Type 0 = λ ts. TellAll (change text (edit.NewSpace parent c.args.name.now)) text.spaces ts in
    ok_more (λ copies. copies ≡ c.args.kinds.now) Q c.copy-in-None.result (λ copies e. subst Q (sym e) tell) c.copy-in-None.ensures
