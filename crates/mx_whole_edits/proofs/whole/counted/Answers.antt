use Rattle.std.proofs.Common.{◌∙◌, sym, subst}
use Rattle.mx_model.specs.Records.{ModelRecord}
use Rattle.mx_apply.specs.Chain.{CanGoOn}
use Rattle.mx_whole_edits.proofs.WholeLemmas.{over_stops, accepted, goes_kept}
use Rattle.mx_whole_edits.proofs.whole.counted.Goals as goal

pub returns-in-Some-clause-exact : goal.returns-in-Some-clause-exact
returns-in-Some-clause-exact c =
    over_stops c.args.text.now c.args.made c.in-Ok.kept c.args.edit.now c.in-Some.limit c.requires.free c.requires.is c.requires.next c.in-Ok.ensures (sym c.over.ensures ∙ c.in-Some.is)

pub returns-in-None-clause-exact : goal.returns-in-None-clause-exact
returns-in-None-clause-exact c =
    accepted c.args.text.now c.args.made c.in-Ok.kept c.args.edit.now c.requires.free c.requires.is c.requires.next c.in-Ok.ensures (sym c.over.ensures ∙ c.in-None.is)

pub returns-in-None-clause-next : goal.returns-in-None-clause-next
returns-in-None-clause-next c =
    let P : ModelRecord → Type 0 = λ t. CanGoOn t in
    subst P (sym c.in-Ok.ensures) (goes_kept c.args.made c.requires.next)

pub keep_ready-requires-clause-accepted : goal.keep_ready-requires-clause-accepted
keep_ready-requires-clause-accepted c =
    accepted c.args.text.now c.args.made c.in-Ok.kept c.args.edit.now c.requires.free c.requires.is c.requires.next c.in-Ok.ensures (sym c.over.ensures ∙ c.in-None.is)

pub keep_ready-requires-clause-next : goal.keep_ready-requires-clause-next
keep_ready-requires-clause-next c =
    let P : ModelRecord → Type 0 = λ t. CanGoOn t in
    subst P (sym c.in-Ok.ensures) (goes_kept c.args.made c.requires.next)
