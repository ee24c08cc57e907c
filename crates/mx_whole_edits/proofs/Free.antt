-- What else holds of an edit to which no refusal applies.
use Rattle.std.proofs.Common.{◌≡◌, Bool, true, false, Option, Some, None, refl}
use Rattle.std.specs.Prelude.{if◌then◌else◌}
use Rattle.mx_edit.specs.declared.edit.Edit.{Edit}
use Rattle.mx_edit.specs.declared.refusal.EditRefusal.{EditRefusal}
use Rattle.mx_edit.specs.declared.refusal.EditRefusal.TheVariants as refusal
use Rattle.mx_model.specs.Records.{ModelRecord}
use Rattle.mx_model.specs.Refused.{bad_name, no_such_space, no_such_member, name_taken, wrong_count, item_address, bad_value, in_use, record_trouble}
use Rattle.mx_changes.proofs.Free.{from_value, from_address, from_count, from_taken, from_member, from_space}

pub record IsUnused (text : ModelRecord) (e : Edit) : Type 0 where
  pub address : item_address e ≡ false
  pub users : in_use text e ≡ None

unless : (b : Bool) (why : EditRefusal) (rest : Option EditRefusal) → (if b then Some why else rest) ≡ None → (b ≡ false) × (rest ≡ None)
unless true why rest e = absurd (let f : Some why ≡ None = e in cc)
unless false why rest e = (refl, e)

pub unused_of : (text : ModelRecord) (e : Edit) → record_trouble text e ≡ None → IsUnused text e
unused_of text e none =
    let a = unless (bad_name e) refusal.BadName (from_space text e) none in
    let b = unless (no_such_space text e) refusal.NoSuchSpace (from_member text e) a.1 in
    let c = unless (no_such_member text e) refusal.NoSuchMember (from_taken text e) b.1 in
    let d = unless (name_taken text e) refusal.NameTaken (from_count text e) c.1 in
    let f = unless (wrong_count text e) refusal.WrongCount (from_address text e) d.1 in
    let g = unless (item_address e) refusal.ItemAddress (from_value text e) f.1 in
    let h = unless (bad_value text e) refusal.BadValue (in_use text e) g.1 in
    record { address = g.0; users = h.1 }
