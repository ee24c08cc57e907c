-- Files in a list as a map, of which the first of a name counts.
use Rattle.std.proofs.Common.{◌≡◌, ◌∙◌, ℕ, zero, suc, ◌<◌, ◌≤◌, Bool, true, false, cond, List, [], ◌∷◌, ◌++◌, length, Some, None, String, Vec, string_bytes, inl, inr, refl, sym, ap, arith, slice_index_or, slice_set}
use Rattle.std.specs.List.{position_or_len}
use Rattle.std.specs.Str.{bytes_eq}
use Rattle.std.specs.Ordering.{nat_cmp, eq_by_cmp}
use Rattle.std.specs.Cmp.Lexicographic.{slice_cmp}
use Rattle.std.specs.FinMap as finite
use Rattle.std.specs.FinMap.{find, get-from_entries, get-insert, same_map, nat_cmp-IsAntisymmetric, slice_cmp-IsAntisymmetric, from_entries_push}
use Rattle.std.specs.declared.alloc.Global.{Global}
use Rattle.std.proofs.lemmas.Bool.{cases_Bool}
use Rattle.std.proofs.lemmas.Bool.Decides.{nat_tests}
use Rattle.std.proofs.lemmas.Cmp.{nat_list_cmp_total}
use Rattle.std.proofs.lemmas.List.{map-append}
use Rattle.std.proofs.lemmas.Map.Text.{is_eq-slice_cmp}
use Rattle.std.proofs.lemmas.Slice.Eq.{bytes_eq-Decides}
use Rattle.mx_outside.specs.Files.{entries_of, files_of, place_of, bytes_of}

abbrev pub File : Type 0
File = String Global × Vec ℕ Global

-- the first place of a name, or the number of files
abbrev place : List ℕ → List File → ℕ
place name files = position_or_len (λ file. bytes_eq (string_bytes file.0) name) files

abbrev ties : List ℕ → List ℕ → Bool
ties = eq_by_cmp (slice_cmp nat_cmp)

tied : (a b : List ℕ) → bytes_eq a b ≡ true → a ≡ b
tied a b h = (bytes_eq-Decides a b).0 h

tie : (a b : List ℕ) → a ≡ b → ties a b ≡ true
tie a b e = is_eq-slice_cmp a b ∙ (bytes_eq-Decides a b).1 e

apart : (a b : List ℕ) → bytes_eq a b ≡ false → ties b a ≡ false
apart a b h = elim (cases_Bool (ties b a)) [
  | inl t ↦ let e = (bytes_eq-Decides a b).1 (sym (tied b a (sym (is_eq-slice_cmp b a) ∙ t))) in cc (h, e)
  | inr f ↦ f
]

first_place : (name : List ℕ) (f : File) (fs : List File) → bytes_eq (string_bytes f.0) name ≡ true → place name (f ∷ fs) ≡ zero
first_place name f fs t = rw t refl

later_place : (name : List ℕ) (f : File) (fs : List File) → bytes_eq (string_bytes f.0) name ≡ false → place name (f ∷ fs) ≡ suc (place name fs)
later_place name f fs n = rw n (omega arith)

found_there : (name : List ℕ) (files : List File) (d : File) → place name files < length files → find (slice_cmp nat_cmp) name (entries_of files) ≡ Some (slice_index_or files (place name files) d).1.items
found_there name [] d h = absurd (omega arith)
found_there name (f ∷ fs) d h = elim (cases_Bool (bytes_eq (string_bytes f.0) name)) [
  | inl t ↦ let e = tie name (string_bytes f.0) (sym (tied (string_bytes f.0) name t)) in let p = first_place name f fs t in rw (p, e) refl
  | inr n ↦ let e = apart (string_bytes f.0) name n in let p = later_place name f fs n in let behind = rw p at h in rw (p, e) (found_there name fs d (omega (arith, behind)))
]

found_nowhere : (name : List ℕ) (files : List File) → length files ≤ place name files → find (slice_cmp nat_cmp) name (entries_of files) ≡ None
found_nowhere name [] h = refl
found_nowhere name (f ∷ fs) h = elim (cases_Bool (bytes_eq (string_bytes f.0) name)) [
  | inl t ↦ let short = rw (first_place name f fs t) at h in absurd (omega (arith, short))
  | inr n ↦ let e = apart (string_bytes f.0) name n in let behind = rw (later_place name f fs n) at h in rw e (found_nowhere name fs (omega (arith, behind)))
]

named_there : (name : List ℕ) (files : List File) (d : File) → place name files < length files → string_bytes (slice_index_or files (place name files) d).0 ≡ name
named_there name [] d h = absurd (omega arith)
named_there name (f ∷ fs) d h = elim (cases_Bool (bytes_eq (string_bytes f.0) name)) [
  | inl t ↦ let p = first_place name f fs t in rw p (tied (string_bytes f.0) name t)
  | inr n ↦ let p = later_place name f fs n in let behind = rw p at h in rw p (named_there name fs d (omega (arith, behind)))
]

hidden : {A : Type 0} (b : Bool) (x y z : A) → cond b x z ≡ cond b x (cond b y z)
hidden true x y z = refl
hidden false x y z = refl

-- one question behind another that not both can answer
swapped : {A : Type 0} (a b : Bool) (x y z : A) → (a ≡ true → b ≡ true → false ≡ true) → cond a x (cond b y z) ≡ cond b y (cond a x z)
swapped true true x y z h = let bad = h refl refl in cc (bad)
swapped true false x y z h = refl
swapped false true x y z h = refl
swapped false false x y z h = refl

set_there : (name q : List ℕ) (files : List File) (g : File) → place name files < length files → string_bytes g.0 ≡ name
    → find (slice_cmp nat_cmp) q (entries_of (slice_set files (place name files) g)) ≡ cond (ties q name) (Some g.1.items) (find (slice_cmp nat_cmp) q (entries_of files))
set_there name q [] g h e = absurd (omega arith)
set_there name q (f ∷ fs) g h e = elim (cases_Bool (bytes_eq (string_bytes f.0) name)) [
  | inl t ↦
      let same : string_bytes f.0 ≡ name = tied (string_bytes f.0) name t in
      let p = first_place name f fs t in
      rw (p, e, same) (hidden (ties q name) (Some g.1.items) (Some f.1.items) (find (slice_cmp nat_cmp) q (entries_of fs)))
  | inr n ↦
      let p = later_place name f fs n in
      let behind = rw p at h in
      let later = set_there name q fs g (omega (arith, behind)) e in
      let differ : ties q (string_bytes f.0) ≡ true → ties q name ≡ true → false ≡ true =
      λ a b. sym n ∙ (bytes_eq-Decides (string_bytes f.0) name).1 (sym (tied q (string_bytes f.0) (sym (is_eq-slice_cmp q (string_bytes f.0)) ∙ a)) ∙ tied q name (sym (is_eq-slice_cmp q name) ∙ b)) in
      rw p (ap (cond (ties q (string_bytes f.0)) (Some f.1.items)) later ∙ swapped (ties q (string_bytes f.0)) (ties q name) (Some f.1.items) (Some g.1.items) (find (slice_cmp nat_cmp) q (entries_of fs)) differ)
]

some_place : (b : Bool) (p at : ℕ) → cond b (Some p) None ≡ Some at → (b ≡ true) × (p ≡ at)
some_place true p at e = (refl, cc e)
some_place false p at e = cc e

no_place : (b : Bool) (p : ℕ) → cond b (Some p) None ≡ None → b ≡ false
no_place true p e = cc e
no_place false p e = refl

within : (name : List ℕ) (files : List File) (at : ℕ) → place_of files name ≡ Some at → (place name files < length files) × (place name files ≡ at)
within name files at e = let p = some_place _ _ at e in (grind (arith, nat_tests), p.1)

pub bytes_there : (name : List ℕ) (files : List File) (at : ℕ) (d : File) → place_of files name ≡ Some at → Some (slice_index_or files at d).1.items ≡ bytes_of files name
bytes_there name files at d e =
    let p = within name files at e in
    sym (get-from_entries nat_list_cmp_total (entries_of files) name ∙ found_there name files d p.0 ∙ ap (λ n. Some (slice_index_or files n d).1.items) p.1)

nowhere : (name : List ℕ) (files : List File) → place_of files name ≡ None → find (slice_cmp nat_cmp) name (entries_of files) ≡ None
nowhere name files e = let p = no_place _ _ e in found_nowhere name files (grind (arith, nat_tests))

pub bytes_nowhere : (name : List ℕ) (files : List File) → place_of files name ≡ None → None ≡ bytes_of files name
bytes_nowhere name files e = sym (get-from_entries nat_list_cmp_total (entries_of files) name ∙ nowhere name files e)

same_order : finite.IsAntisymmetric (slice_cmp nat_cmp)
same_order = slice_cmp-IsAntisymmetric nat_cmp-IsAntisymmetric

pub set_at : (name bytes : List ℕ) (files : List File) (at : ℕ) (d g : File) → place_of files name ≡ Some at → g.0 ≡ (slice_index_or files at d).0 → g.1.items ≡ bytes
    → files_of (slice_set files at g) ≡ finite.insert (files_of files) name bytes
set_at name bytes files at d g e key is =
    let p = within name files at e in
    let named : string_bytes g.0 ≡ name = ap string_bytes key ∙ ap (λ n. string_bytes (slice_index_or files n d).0) (sym p.1) ∙ named_there name files d p.0 in
    same_map nat_list_cmp_total same_order _ _ (λ q.
    get-from_entries nat_list_cmp_total (entries_of (slice_set files at g)) q
    ∙ ap (λ n. find (slice_cmp nat_cmp) q (entries_of (slice_set files n g))) (sym p.1)
    ∙ set_there name q files g p.0 named
    ∙ ap (λ (b : List ℕ). cond (ties q name) (Some b) (find (slice_cmp nat_cmp) q (entries_of files))) is
    ∙ ap (cond (ties q name) (Some bytes)) (sym (get-from_entries nat_list_cmp_total (entries_of files) q))
    ∙ sym (get-insert nat_list_cmp_total (files_of files) name bytes q))

pub set_new : (name bytes : List ℕ) (files : List File) (g : File) → place_of files name ≡ None → string_bytes g.0 ≡ name → g.1.items ≡ bytes
    → files_of (files ++ g ∷ []) ≡ finite.insert (files_of files) name bytes
set_new name bytes files g e key is =
    ap (finite.from_entries {R = slice_cmp nat_cmp}) (map-append (λ (file : File). (string_bytes file.0, file.1.items)) files (g ∷ []))
    ∙ (λ i. finite.from_entries {R = slice_cmp nat_cmp} (entries_of files ++ (key i, is i) ∷ []))
    ∙ from_entries_push nat_list_cmp_total same_order (entries_of files) name bytes (nowhere name files e)
