use Rattle.std.proofs.Common.{◌≡◌, ◌∙◌, IfOk, sym, subst}
use Rattle.mx_model.specs.Records.{ModelRecord}
use Rattle.mx_whole_edits.proofs.InputEdits.{all_stay}
use Rattle.mx_whole_edits.proofs.whole.fitting.Goals as goal

pub returns-then-is_of_input : goal.returns-then-is_of_input
returns-then-is_of_input c =
    let stays = all_stay c.args.text.now c.args.made.now c.args.edit.now (sym c.is_of_input.ensures ∙ c.if-is_of_input.true) c.requires.free c.requires.is c.requires.fit in
    let P : ModelRecord → Type 0 = λ kept. IfOk c.copy.result (λ (t : ModelRecord). t ≡ kept) in
    subst P stays c.copy.ensures
