-- Parts that are joined by slashes are the parts between the slashes.
use Rattle.std.proofs.Common.{◌≡◌, ◌∙◌, ℕ, zero, suc, ◌≤◌, ◌<◌, true, false, List, [], ◌∷◌, ◌==◌, length, refl, sym, ap, arith, All}
use Rattle.std.specs.Int.{is_in_range}
use Rattle.std.specs.List.{join_with_byte, list_all, slice_split}
use Rattle.std.specs.Str.{IsAscii, IsUtf8}
use Rattle.std.proofs.lemmas.Bool.{and_parts}
use Rattle.std.proofs.lemmas.Bool.Decides.{nat_tests}
use Rattle.std.proofs.lemmas.List.Elements.{All-nil, All-cons}
use Rattle.std.proofs.lemmas.List.Folds.{list_all-append}
use Rattle.std.proofs.lemmas.Str.{IsUtf8-from_ascii}
use Rattle.std.proofs.lemmas.List.Splits.{join_with_byte-slice_split, length-slice_split, slice_split_none, slice_split_at}
use Rattle.mx_outside.specs.Names.{is_part_byte, is_part, IsFileName, are_parts}

no_slash_byte : (b : ℕ) → is_part_byte b ≡ true → (b == 47) ≡ false
no_slash_byte b h = grind (arith, nat_tests)

no_slashes : (part : List ℕ) → list_all is_part_byte part ≡ true → All (λ b. (b == 47) ≡ false) part
no_slashes [] h = All-nil (λ c. (c == 47) ≡ false)
no_slashes (b ∷ bs) h = let p = and_parts (is_part_byte b) (list_all is_part_byte bs) h in All-cons (λ c. (c == 47) ≡ false) b bs (no_slash_byte b p.0) (no_slashes bs p.1)

no_slash : (part : List ℕ) → is_part part ≡ true → All (λ b. (b == 47) ≡ false) part
no_slash part h = no_slashes part (and_parts _ (list_all is_part_byte part) (and_parts _ _ h).0).1

split_joined : (parts : List (List ℕ)) → 0 < length parts → list_all is_part parts ≡ true → slice_split (λ b. b == 47) (join_with_byte 47 parts) ≡ parts
split_joined [] some each = absurd (omega arith)
split_joined (p ∷ []) some each = slice_split_none _ p (no_slash p (and_parts (is_part p) true each).0)
split_joined (p ∷ q ∷ ps) some each =
    let e = and_parts (is_part p) (list_all is_part (q ∷ ps)) each in
    slice_split_at _ p 47 (join_with_byte 47 (q ∷ ps)) (no_slash p e.0) refl ∙ ap (λ (r : List (List ℕ)). p ∷ r) (split_joined (q ∷ ps) (omega arith) e.1)

pub name_of_parts : (name : List ℕ) → are_parts name ≡ true → length name ≤ 255 → IsFileName name
name_of_parts name each short = record {
  parts = slice_split (λ b. b == 47) name;
  some = omega (arith, length-slice_split (λ b. b == 47) name);
  each = each;
  joined = sym (join_with_byte-slice_split 47 name);
  short = short;
}

pub parts_of_name : (name : List ℕ) → IsFileName name → are_parts name ≡ true
parts_of_name name h = ap (λ (n : List ℕ). are_parts n) h.joined ∙ ap (list_all is_part) (split_joined h.parts h.some h.each) ∙ h.each

-- ---- the bytes of a name

printable_byte : (b : ℕ) → is_part_byte b ≡ true → is_in_range 32 126 b ≡ true
printable_byte b h = grind (arith, nat_tests)

printable_bytes : (bs : List ℕ) → list_all is_part_byte bs ≡ true → list_all (is_in_range 32 126) bs ≡ true
printable_bytes [] h = refl
printable_bytes (b ∷ bs) h =
    let p = and_parts (is_part_byte b) (list_all is_part_byte bs) h in
    rw (printable_byte b p.0) (printable_bytes bs p.1)

printable_part : (part : List ℕ) → is_part part ≡ true → list_all (is_in_range 32 126) part ≡ true
printable_part part h = printable_bytes part (and_parts _ (list_all is_part_byte part) (and_parts _ _ h).0).1

printable_parts : (parts : List (List ℕ)) → list_all is_part parts ≡ true → list_all (is_in_range 32 126) (join_with_byte 47 parts) ≡ true
printable_parts [] each = refl
printable_parts (p ∷ []) each = printable_part p (and_parts (is_part p) true each).0
printable_parts (p ∷ q ∷ ps) each =
    let e = and_parts (is_part p) (list_all is_part (q ∷ ps)) each in
    list_all-append (is_in_range 32 126) p (47 ∷ join_with_byte 47 (q ∷ ps)) ∙ rw (printable_part p e.0) (printable_parts (q ∷ ps) e.1)

-- each is printable
pub printable_name : (name : List ℕ) → IsFileName name → list_all (is_in_range 32 126) name ≡ true
printable_name name h = ap (λ (n : List ℕ). list_all (is_in_range 32 126) n) h.joined ∙ printable_parts h.parts h.each

small_byte : (b : ℕ) → is_in_range 32 126 b ≡ true → b < 128
small_byte b h = grind (arith, nat_tests)

pub ascii_bytes : (bs : List ℕ) → list_all (is_in_range 32 126) bs ≡ true → IsAscii bs
ascii_bytes [] h i = omega arith
ascii_bytes (b ∷ bs) h zero = small_byte b (and_parts (is_in_range 32 126 b) (list_all (is_in_range 32 126) bs) h).0
ascii_bytes (b ∷ bs) h (suc i) = ascii_bytes bs (and_parts (is_in_range 32 126 b) (list_all (is_in_range 32 126) bs) h).1 i

-- and all together are a text
pub utf8_name : (name : List ℕ) → IsFileName name → IsUtf8 name
utf8_name name h = IsUtf8-from_ascii name (ascii_bytes name (printable_name name h))
