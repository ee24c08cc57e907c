use Rattle.std.proofs.Common.{◌∙◌, ap, sym, subst}
use Rattle.std.specs.Map.{lookup}
use Rattle.mx_value.specs.Name.{same_name}
use Rattle.mx_model.specs.Records.{ModelRecord}
use Rattle.mx_model.specs.Indexed.{Kinds, TellAll}
use Rattle.mx_model.proofs.KindLemmas.{told_at, table_there}
use Rattle.mx_model.proofs.text.ModelText.kind_by.Goals as goal

pub unreachable-requires : goal.unreachable-requires
unreachable-requires c =
    let P : ModelRecord → Type 0 = λ t. TellAll t t.spaces c.self.inside.kinds in
    table_there c.args.self.now c.args.self.now.spaces c.self.inside.kinds c.args.s.0 (subst P c.self.view_is c.self.invariant.placed.kinds) c.requires (sym c.in_default.ensures)

pub returns : goal.returns
returns c =
    let text = c.args.self.now in
    let name = c.args.name.now.now in
    let P : ModelRecord → Type 0 = λ t. TellAll t t.spaces c.self.inside.kinds in
    let tell = subst P c.self.view_is c.self.invariant.placed.kinds in
    c.copied.ensures ∙ c.get_by.ensures ∙ ap (λ (k : Kinds). lookup (same_name name) k) c.get-2.ensures ∙
    told_at text text.spaces c.self.inside.kinds c.args.s.0 c.in-Some.kinds.now name tell (sym c.in-Some.ensures)
