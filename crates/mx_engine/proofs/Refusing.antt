-- A refusal of an edit that is prepared is one of the edit.
use Rattle.std.proofs.Common.{Err}
use Rattle.mx_edit.specs.declared.edit.Edit.{Edit}
use Rattle.mx_edit.specs.declared.refusal.EditRefusal.{EditRefusal}
use Rattle.mx_edit.specs.declared.refusal.EditRefusal.TheVariants as refusal
use Rattle.mx_model.specs.Records.{ModelRecord}
use Rattle.mx_prepare.specs.Prepared.{Prepares}
use Rattle.mx_engine.specs.Refused.{IsRefusedBy}

pub refused_for : (text : ModelRecord) (e : Edit) (why : EditRefusal) → Prepares text e (Err why) → IsRefusedBy text e (Err why)
refused_for text e refusal.BadName p = p
refused_for text e refusal.NoSuchSpace p = p
refused_for text e refusal.NoSuchMember p = p
refused_for text e refusal.NameTaken p = p
refused_for text e refusal.WrongCount p = p
refused_for text e refusal.ItemAddress p = p
refused_for text e refusal.BadValue p = p
refused_for text e (refusal.InUse path) p = p
refused_for text e (refusal.Cycle paths) p = p
refused_for text e (refusal.TooMany limit) p = p
refused_for text e (refusal.NoOrder path) p = p
refused_for text e refusal.NoMemory p = p
