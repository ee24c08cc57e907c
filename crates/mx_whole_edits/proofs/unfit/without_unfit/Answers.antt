use Rattle.std.proofs.Common.{◌≡◌, ◌∙◌, IfOk, sym, subst}
use Rattle.mx_model.specs.Records.{ModelRecord}
use Rattle.mx_whole_edits.proofs.KeptInputs.{text_stays, text_kept}
use Rattle.mx_whole_edits.proofs.unfit.without_unfit.Goals as goal

pub returns-then-branch : goal.returns-then-branch
returns-then-branch g c =
    let text = c.args.text.now in
    let is = text_stays text (g.F.Fitting.text c.args.fitting.now) c.inputs.result.now c.requires.same c.inputs.ensures (sym c.in_ok-do_all_fit.ensures ∙ c.if-branch.true) in
    let P : ModelRecord → Type 0 = λ kept. IfOk c.copy.result (λ (t : ModelRecord). t ≡ kept) in
    subst P is c.copy.ensures

pub returns : goal.returns
returns g c =
    let text = c.args.text.now in
    let is = text_kept text (g.F.Fitting.text c.args.fitting.now) c.inputs-2.result.now c.in_ok-kept.kept c.requires.same c.inputs-2.ensures c.in_ok-kept.ensures in
    let P : ModelRecord → Type 0 = λ kept. IfOk c.with_inputs.result (λ (t : ModelRecord). t ≡ kept) in
    subst P is c.with_inputs.ensures
