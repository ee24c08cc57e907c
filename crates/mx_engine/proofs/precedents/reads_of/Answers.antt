use Rattle.std.proofs.Common.{◌≡◌, List, [], Option, subst}
use Rattle.mx_value.specs.declared.node.Node.{Node}
use Rattle.mx_value.specs.declared.read.Read.{Read}
use Rattle.mx_memo_laws.specs.Entries.{entries_of}
use Rattle.mx_machine.specs.States.{state_of}
use Rattle.mx_state.specs.Evaluations.{HasBoundForm}
use Rattle.mx_engine.specs.Precedents.{AreReadBy, AreHeldReads}
use Rattle.mx_engine.proofs.ReadHeld.{in_ok}
use Rattle.mx_engine.proofs.ReadBy.{read_of_bound, read_of_unbound}
use Rattle.mx_engine.proofs.precedents.reads_of.Goals as goal

pub returns-in-Some : goal.returns-in-Some
returns-in-Some c =
    let by = subst (λ (o : Option Node). HasBoundForm (state_of c.args.world.now c.args.memo.now 1) c.args.node.now o) c.in-Some.is c.in_ok-form.ensures in
    in_ok (AreHeldReads (entries_of c.args.memo.now.held) c.in-Some.form) (AreReadBy c.args.world.now c.args.memo.now c.args.node.now) c.reads_held.result
    (λ reads are. read_of_bound c.laws.ensures.texts_have_runs c.laws-2.ensures.input_reads_none c.args.world.now c.args.memo.now c.requires c.laws.ensures.one_is_asked c.args.node.now c.in-Some.form reads by are)
    c.reads_held.ensures

pub returns-in-None : goal.returns-in-None
returns-in-None c =
    let unknown = subst (λ (o : Option Node). HasBoundForm (state_of c.args.world.now c.args.memo.now 1) c.args.node.now o) c.in-None.is c.in_ok-form.ensures in
    in_ok (λ (reads : List Read). reads ≡ []) (AreReadBy c.args.world.now c.args.memo.now c.args.node.now) c.empty.result
    (λ reads is.
    read_of_unbound c.laws.ensures.texts_have_runs c.laws-2.ensures.input_reads_none c.args.world.now c.args.memo.now c.requires c.laws.ensures.bound_is_bound c.laws.ensures.bound_walks_alike c.laws.ensures.value_binds
    c.args.node.now reads unknown is)
    c.empty.ensures
