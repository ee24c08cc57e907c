use Rattle.std.proofs.Common.{sym, subst}
use Rattle.mx_model.specs.Records.{ModelRecord}
use Rattle.mx_model.specs.Valid.{InputsFit}
use Rattle.mx_apply.specs.Chain.{CanGoOn}
use Rattle.mx_apply.proofs.ChainLemmas.{valid_goes_on}
use Rattle.mx_paths.specs.Names.{IsNamed}
use Rattle.mx_whole_edits.specs.Whole.{IsAccepted, IsStopped}
use Rattle.mx_prepare.proofs.Named.{named_after}
use Rattle.mx_prepare.proofs.PrepareLemmas.{walked_all, stopped}
use Rattle.mx_prepare.proofs.prepare.prepare.Goals as goal

pub applied-requires-clause-fit : goal.applied-requires-clause-fit
applied-requires-clause-fit c = subst InputsFit (sym c.text.ensures.exact) c.text.ensures.valid.inputs

pub applied-requires-clause-next : goal.applied-requires-clause-next
applied-requires-clause-next c = subst CanGoOn (sym c.text.ensures.exact) (valid_goes_on c.args.world.now c.text.ensures.valid)

pub walked-requires-clause-named : goal.walked-requires-clause-named
walked-requires-clause-named c =
    let a : IsAccepted c.args.world.now c.args.edit.now c.in-Ok.text = subst (λ (t : ModelRecord). IsAccepted t c.args.edit.now c.in-Ok.text) c.text.ensures.exact c.in-Ok.ensures.exact in
    subst IsNamed (sym a.is) (named_after c.args.world.now c.args.edit.now c.text.ensures.named a.free)

pub returns-in-Ok : goal.returns-in-Ok
returns-in-Ok c =
    let a : IsAccepted c.args.world.now c.args.edit.now c.in-Ok.text = subst (λ (t : ModelRecord). IsAccepted t c.args.edit.now c.in-Ok.text) c.text.ensures.exact c.in-Ok.ensures.exact in
    walked_all c.args.world.now c.in-Ok.text c.args.edit.now a c.walked.result c.walked.ensures

pub returns-in-Err : goal.returns-in-Err
returns-in-Err c = stopped c.args.world.now c.args.edit.now c.in-Err.why (subst (λ (t : ModelRecord). IsStopped t c.args.edit.now c.in-Err.why) c.text.ensures.exact c.in-Err.ensures.exact)
