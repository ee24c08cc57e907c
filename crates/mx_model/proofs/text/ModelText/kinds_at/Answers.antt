use Rattle.std.proofs.Common.{sym, subst}
use Rattle.mx_model.specs.Records.{ModelRecord}
use Rattle.mx_model.specs.Indexed.{TellAll}
use Rattle.mx_model.proofs.KindLemmas.{table_there, tells_at, told_all}
use Rattle.mx_model.proofs.text.ModelText.kinds_at.Goals as goal

pub unreachable-requires : goal.unreachable-requires
unreachable-requires c =
    let P : ModelRecord → Type 0 = λ t. TellAll t t.spaces c.self.inside.kinds in
    table_there c.args.self.now c.args.self.now.spaces c.self.inside.kinds c.args.s.0 (subst P c.self.view_is c.self.invariant.placed.kinds) c.requires (sym c.in_default.ensures)

pub returns : goal.returns
returns c =
    let tables = c.self.inside.kinds in
    let text = c.args.self.now in
    let n = c.args.s.0 in
    let table = c.in-Some.kinds.now in
    let P : ModelRecord → Type 0 = λ t. TellAll t t.spaces tables in
    let tell = subst P c.self.view_is c.self.invariant.placed.kinds in
    told_all text table c.args.s c.copy.result (λ s is. tells_at text text.spaces tables n s table tell is (sym c.in-Some.ensures)) c.copy.ensures
