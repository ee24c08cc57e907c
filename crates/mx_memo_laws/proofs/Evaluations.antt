-- What stays kept between evaluations.
use Rattle.std.proofs.Common.{◌≡◌, ◌∙◌, refl, sym, ap, subst, arith}
use Rattle.mx_memo.specs.Memos.{Memory}
use Rattle.mx_runs.specs.Runs.{Model}
use Rattle.mx_answers.specs.Records.{IsRightMemo}
use Rattle.mx_answers.specs.Retention.{HasChanged, IsInScope}
use Rattle.mx_answers.specs.Laws.{IsRetained, IsCleared}
use Rattle.mx_answers.proofs.Retaining.{sifted_by_keys}
use Rattle.mx_answers.proofs.Clearing.{sifted_by_scope}
use Rattle.mx_memo_laws.specs.Entries.{entries_of}
use Rattle.mx_memo_laws.specs.Laws.{AreSifted, IsRolledBack, HoldsSame}
use Rattle.mx_memo_laws.specs.Keeping.{NothingIsKept, EditKeeps, ClearingKeeps, RollBackKeeps, RenumberingKeeps}
use Rattle.mx_memo_laws.proofs.Growing.{rolling_back}
use Rattle.mx_memo_laws.proofs.Sifting.{retained}
use Rattle.mx_memo_laws.proofs.Scopes.{cleared}
use Rattle.mx_memo_laws.proofs.Stamps.{renumbering}

pub nothing_is_kept : NothingIsKept
nothing_is_kept model = record {
  memo = record {
    right = record {
      means = λ e h. absurd h;
      own = λ n h. absurd h;
      once = tt;
      closed = λ n m h a. absurd h;
      room = omega arith;
    };
    records = λ e h. absurd h;
    order = tt;
  };
  ordered = record { stands = record { apart = tt; rising = tt; given = λ r h. absurd h }; asks = tt };
  idle = refl;
}

-- the same entries are as right
right_same : (model : Model) (old new : Memory) → entries_of new.held ≡ entries_of old.held → IsRightMemo model (entries_of old.held) → IsRightMemo model (entries_of new.held)
right_same model old new same m = subst (λ es. IsRightMemo model es) (sym same) m

pub edit_keeps : EditKeeps
edit_keeps model other changed old new ends after covered tells k s last begun =
    let left : AreSifted (HasChanged changed) old new = retained changed old new k.ordered k.memo.right.once s last in
    let right : IsRetained model other (entries_of old.held) (entries_of new.held)
    = sifted_by_keys model other changed (entries_of old.held) (entries_of new.held) ends after covered tells k.memo left.entries in
    record { kept = record { memo = right.memo; ordered = left.ordered; idle = begun ∙ k.idle }; retains = right.retains }

pub clearing_keeps : ClearingKeeps
clearing_keeps model scope old new ends k s last begun =
    let left : AreSifted (IsInScope scope) old new = cleared scope old new k.ordered k.memo.right.once s last in
    let right : IsCleared model (IsInScope scope) (entries_of old.held) (entries_of new.held)
    = sifted_by_scope model scope (entries_of old.held) (entries_of new.held) ends k.memo left.entries in
    record { kept = record { memo = right.memo; ordered = left.ordered; idle = begun ∙ k.idle }; clears = right.clears }

pub roll_back_keeps : RollBackKeeps
roll_back_keeps model start old new k o g s last begun =
    let back : IsRolledBack start old new = rolling_back start old new k.ordered o g s last in
    let same : entries_of new.held ≡ entries_of start.held = ap (λ rs. entries_of rs) back.same in
    record { kept = record { memo = right_same model start new same k.memo; ordered = back.ordered; idle = begun }; same = same }

pub renumbering_keeps : RenumberingKeeps
renumbering_keeps model old new k is last begun =
    let h : HoldsSame old new = renumbering old new k.ordered is last in
    record { kept = record { memo = right_same model old new h.entries k.memo; ordered = h.ordered; idle = begun ∙ k.idle }; same = h.entries }
