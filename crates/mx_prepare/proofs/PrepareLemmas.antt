-- An edit that is prepared: its world, and its answer.
use Rattle.std.proofs.Common.{◌≡◌, true, List, Result, Ok, Err, sym, ap, ◌∙◌, subst}
use Rattle.mx_edit.specs.declared.edit.Edit.{Edit}
use Rattle.mx_edit.specs.declared.refusal.EditRefusal.{EditRefusal}
use Rattle.mx_edit.specs.declared.refusal.EditRefusal.TheVariants as refusal
use Rattle.mx_model.specs.Records.{ModelRecord}
use Rattle.mx_model.specs.Walk.{Meets, MeetsNothing}
use Rattle.mx_model.specs.Valid.{Valid}
use Rattle.mx_model.specs.Apply.{changed}
use Rattle.mx_paths.specs.Names.{IsNamed}
use Rattle.mx_paths.specs.Table.{Row, IsTableOf}
use Rattle.mx_paths.specs.Kept.{IsBuiltAlike}
use Rattle.mx_paths.proofs.KeptLemmas.{table_stays, walk_stays}
use Rattle.mx_whole_edits.specs.Whole.{IsAccepted, IsApplied}
use Rattle.mx_whole_edits.specs.Ready.{IsReady}
use Rattle.mx_whole_edits.proofs.WholeLemmas.{whole}
use Rattle.mx_whole_edits.proofs.ReadyLemmas.{ready_valid}
use Rattle.mx_world.specs.World.{IsWorld}
use Rattle.mx_prepare.specs.Shape.{shape_of, keeps_shape}
use Rattle.mx_prepare.specs.Prepared.{Prepares, IsWalked}
use Rattle.mx_prepare.proofs.Shapes.{built_alike}
use Rattle.mx_prepare.proofs.KeptShape.{edits_keep_shape}

-- ---- an edit that keeps the shape of the text

alike : (text made : ModelRecord) (e : Edit) → keeps_shape e ≡ true → made ≡ changed text e → IsBuiltAlike text made
alike text made e keeps is = built_alike made text (ap shape_of is ∙ edits_keep_shape text e keeps)

pub kept_walk : (text made : ModelRecord) (e : Edit) → keeps_shape e ≡ true → made ≡ changed text e → Valid text → MeetsNothing made
kept_walk text made e keeps is valid = walk_stays text made (alike text made e keeps is) valid.walked

pub kept_world : (text made : ModelRecord) (e : Edit) (rows : List Row) → keeps_shape e ≡ true → made ≡ changed text e → Valid text → IsTableOf text rows → IsReady made → IsNamed made → IsWorld made rows
kept_world text made e rows keeps is valid table ready named = record {
  valid = ready_valid made ready (kept_walk text made e keeps is valid);
  named = named;
  literals = ready.literals;
  table = table_stays text made rows (alike text made e keeps is) table;
}

-- ---- a table that is made anew

pub new_world : (made : ModelRecord) (rows shared : List Row) → shared ≡ rows → IsReady made → IsNamed made → IsTableOf made rows × MeetsNothing made → IsWorld made shared
new_world made rows shared same ready named built = record {
  valid = ready_valid made ready built.1;
  named = named;
  literals = ready.literals;
  table = subst (λ (r : List Row). IsTableOf made r) (sym same) built.0;
}

-- ---- the answer

pub walked_ok : (text made shown : ModelRecord) (e : Edit) → shown ≡ made → made ≡ changed text e → MeetsNothing made → IsWalked (changed text e) (Ok shown)
walked_ok text made shown e same is nothing = (same ∙ is, subst (λ (t : ModelRecord). MeetsNothing t) is nothing)

module _ (text made : ModelRecord) (e : Edit) (accepted : IsAccepted text e made) where
  met : (why : EditRefusal) → Meets (changed text e) why → Meets made why
  met why m = subst (λ (t : ModelRecord). Meets t why) (sym accepted.is) m

  walked_err : (why : EditRefusal) → IsWalked (changed text e) (Err why) → Prepares text e (Err why)
  walked_err refusal.NoMemory w = tt
  walked_err refusal.BadName w = (whole text e).meets made refusal.BadName accepted (met refusal.BadName w)
  walked_err refusal.NoSuchSpace w = (whole text e).meets made refusal.NoSuchSpace accepted (met refusal.NoSuchSpace w)
  walked_err refusal.NoSuchMember w = (whole text e).meets made refusal.NoSuchMember accepted (met refusal.NoSuchMember w)
  walked_err refusal.NameTaken w = (whole text e).meets made refusal.NameTaken accepted (met refusal.NameTaken w)
  walked_err refusal.WrongCount w = (whole text e).meets made refusal.WrongCount accepted (met refusal.WrongCount w)
  walked_err refusal.ItemAddress w = (whole text e).meets made refusal.ItemAddress accepted (met refusal.ItemAddress w)
  walked_err refusal.BadValue w = (whole text e).meets made refusal.BadValue accepted (met refusal.BadValue w)
  walked_err (refusal.InUse path) w = (whole text e).meets made (refusal.InUse path) accepted (met (refusal.InUse path) w)
  walked_err (refusal.Cycle ring) w = (whole text e).meets made (refusal.Cycle ring) accepted (met (refusal.Cycle ring) w)
  walked_err (refusal.TooMany l) w = (whole text e).meets made (refusal.TooMany l) accepted (met (refusal.TooMany l) w)
  walked_err (refusal.NoOrder path) w = (whole text e).meets made (refusal.NoOrder path) accepted (met (refusal.NoOrder path) w)

  pub walked_all : (answer : Result ModelRecord EditRefusal) → IsWalked (changed text e) answer → Prepares text e answer
  walked_all (Ok shown) w = (whole text e).accepts shown (record { free = accepted.free; counted = accepted.counted; is = w.0 }) (subst (λ (t : ModelRecord). MeetsNothing t) (sym w.0) w.1)
  walked_all (Err why) w = walked_err why w

pub stopped : (text : ModelRecord) (e : Edit) (why : EditRefusal) → IsApplied text e (Err why) → Prepares text e (Err why)
stopped text e refusal.NoMemory s = tt
stopped text e refusal.BadName s = (whole text e).stops refusal.BadName s
stopped text e refusal.NoSuchSpace s = (whole text e).stops refusal.NoSuchSpace s
stopped text e refusal.NoSuchMember s = (whole text e).stops refusal.NoSuchMember s
stopped text e refusal.NameTaken s = (whole text e).stops refusal.NameTaken s
stopped text e refusal.WrongCount s = (whole text e).stops refusal.WrongCount s
stopped text e refusal.ItemAddress s = (whole text e).stops refusal.ItemAddress s
stopped text e refusal.BadValue s = (whole text e).stops refusal.BadValue s
stopped text e (refusal.InUse path) s = (whole text e).stops (refusal.InUse path) s
stopped text e (refusal.Cycle ring) s = (whole text e).stops (refusal.Cycle ring) s
stopped text e (refusal.TooMany l) s = (whole text e).stops (refusal.TooMany l) s
stopped text e (refusal.NoOrder path) s = (whole text e).stops (refusal.NoOrder path) s
