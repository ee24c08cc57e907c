-- What an edit needs of its text, by the edit's form.
use Rattle.std.proofs.Common.{◌≡◌, subst}
use Rattle.std.specs.Prelude.{IsTrue}
use Rattle.mx_edit.specs.declared.edit.Edit.{Edit}
use Rattle.mx_edit.specs.declared.reference.RefValue.{RefValue}
use Rattle.mx_model.specs.Records.{ModelRecord}
use Rattle.mx_model.specs.Sound.{IsSound}
use Rattle.mx_apply.specs.Needs.{names_path, looks_up, CanFind, CanTell}

pub sound_for : (text : ModelRecord) (e form : Edit) → CanTell text e → e ≡ form → IsTrue (looks_up form) → IsSound text
sound_for text e form can is looks = let P : Edit → Type 0 = λ z. CanTell text z in subst P is can looks

pub sound_to : (text : ModelRecord) (value form : RefValue) → CanFind text value → value ≡ form → IsTrue (names_path form) → IsSound text
sound_to text value form can is names = let P : RefValue → Type 0 = λ z. CanFind text z in subst P is can names
