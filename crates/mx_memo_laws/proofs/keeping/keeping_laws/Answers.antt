use Rattle.mx_memo_laws.proofs.Evaluations.{nothing_is_kept, edit_keeps, clearing_keeps, roll_back_keeps, renumbering_keeps}
use Rattle.mx_memo_laws.proofs.keeping.keeping_laws.Goals as goal

pub returns : goal.returns
returns c = record {
  nothing_is_kept = nothing_is_kept;
  edit_keeps = edit_keeps;
  clearing_keeps = clearing_keeps;
  roll_back_keeps = roll_back_keeps;
  renumbering_keeps = renumbering_keeps;
}
