-- What a write that failed leaves, where the files are told.
use Rattle.std.proofs.Common.{◌≡◌, ◌∙◌, Bool, true, false, cond, List, [], ◌∷◌, ◌++◌, Option, Some, nat_cmp, inl, inr, refl, ap, subst}
use Rattle.std.specs.Cmp.Lexicographic.{slice_cmp}
use Rattle.std.specs.Ordering.{eq_by_cmp}
use Rattle.std.specs.FinMap as finite
use Rattle.std.specs.FinMap.{get-insert}
use Rattle.std.proofs.lemmas.Cmp.{nat_list_cmp_total}
use Rattle.std.proofs.lemmas.Map.Lookups.{exact_bytes}
use Rattle.std.proofs.lemmas.Map.Views.{tells_apart}
use Rattle.mx_outside.specs.Files.{FileMap, ChangesOnly}
use Rattle.mx_print.specs.Texts.{Text}
use Rattle.mx_c3.specs.Lists.{Has}
use Rattle.mx_model.specs.Records.{ModelRecord}
use Rattle.mx_project.specs.Folder.{in_folder}
use Rattle.mx_project.specs.Writing.{File, with_files, IsBroken}
use Rattle.mx_project.specs.Laws.{IsOldOrWhole, LeavesKnown, FaultsLeaveKnown}

-- ---- told files

set_files : FileMap → Text → List File → FileMap
set_files told folder [] = told
set_files told folder (f ∷ fs) = set_files (finite.insert told (in_folder folder f.name) f.bytes) folder fs

told_files : (told : FileMap) (folder : Text) (fs : List File) → with_files (Some told) folder fs ≡ Some (set_files told folder fs)
unfolding set_files
told_files told folder [] = refl
told_files told folder (f ∷ fs) = told_files (finite.insert told (in_folder folder f.name) f.bytes) folder fs

-- ---- each name

abbrev is_same : Text → Text → Bool
is_same name other = eq_by_cmp (slice_cmp nat_cmp) name other

one_set : (told : FileMap) (folder name : Text) (f : File) (fs : List File) (b : Bool) → is_same name (in_folder folder f.name) ≡ b → IsOldOrWhole told (finite.insert told (in_folder folder f.name) f.bytes) folder (f ∷ fs) name
one_set told folder name f fs true e =
    inr (
      f,
      inl refl,
      tells_apart exact_bytes name (in_folder folder f.name) e,
      get-insert nat_list_cmp_total told (in_folder folder f.name) f.bytes name ∙ ap (λ (c : Bool). cond c (Some f.bytes) (finite.get told name)) e,
    )
one_set told folder name f fs false e =
    inl (get-insert nat_list_cmp_total told (in_folder folder f.name) f.bytes name ∙ ap (λ (c : Bool). cond c (Some f.bytes) (finite.get told name)) e)

all_set : (fs : List File) (old : FileMap) (folder name : Text) → IsOldOrWhole old (set_files old folder fs) folder fs name
unfolding set_files
all_set [] old folder name = inl refl
all_set (f ∷ fs) old folder name =
    elim (all_set fs (finite.insert old (in_folder folder f.name) f.bytes) folder name) [
      | inl same ↦ elim (one_set old folder name f fs (is_same name (in_folder folder f.name)) refl) [ inl s ↦ inl (same ∙ s) | inr w ↦ inr (w.0, w.1, w.2, same ∙ w.3) ]
      | inr w ↦ inr (w.0, inr w.1, w.2, w.3)
    ]

-- ---- the file whose write failed

has_front : (fs gs : List File) (f : File) → Has fs f → Has (fs ++ gs) f
has_front [] gs f h = absurd h
has_front (x ∷ fs) gs f h = elim h [ inl e ↦ inl e | inr t ↦ inr (has_front fs gs f t) ]

has_between : (fs gs : List File) (f : File) → Has (fs ++ f ∷ gs) f
has_between [] gs f = inl refl
has_between (x ∷ fs) gs f = inr (has_between fs gs f)

others_known : (folder name : Text) (old new : FileMap) (before gs : List File) → finite.get new name ≡ finite.get (set_files old folder before) name → IsOldOrWhole old new folder (before ++ gs) name
others_known folder name old new before gs same =
    elim (all_set before old folder name) [ inl s ↦ inl (same ∙ s) | inr w ↦ inr (w.0, has_front before gs w.0 w.1, w.2, same ∙ w.3) ]

leaves_known : (text : ModelRecord) (folder : Text) (old new : FileMap) → IsBroken text folder (Some old) (Some new) → LeavesKnown text folder old new
leaves_known text folder old new b =
    let left : ChangesOnly (in_folder folder b.broken.name) (Some (set_files old folder b.before)) (Some new) =
    subst (λ (t : Option FileMap). ChangesOnly (in_folder folder b.broken.name) t (Some new)) (told_files old folder b.before) b.left in
    record {
      files = b.before ++ b.broken ∷ b.after;
      are = b.are;
      broken = b.broken;
      among = has_between b.before b.after b.broken;
      others = λ name differs. others_known folder name old new b.before (b.broken ∷ b.after) (left name differs);
    }

pub faults_leave_known : FaultsLeaveKnown
faults_leave_known text folder old new b = leaves_known text folder old new b
