-- Where instructions stand in the code.
use Rattle.std.proofs.Common.{◌≡◌, ◌≤◌, ℕ, ◌+◌, List, [], ◌∷◌, ◌++◌, length, Some, refl, subst, arith, append_assoc, length-append}
use Rattle.std.specs.Prelude.{slice_get}
use Rattle.std.proofs.Math.Nat.{le-max_left, le-max_right}
use Rattle.mx_code.specs.declared.action.Instr.{Instr}
use Rattle.mx_code.specs.Statements.{places_for, places_in}
use Rattle.mx_code_law.specs.Fits.{HasAt}

module _ (code : List Instr) (size : ℕ) where
  pub has_front : (pc : ℕ) (a b : List Instr) → HasAt code size pc (a ++ b) → HasAt code size pc a
  has_front pc [] b h = tt
  has_front pc (i ∷ a) b h = (h.0, h.1, has_front (pc + 1) a b h.2)

  pub has_back : (pc : ℕ) (a b : List Instr) → HasAt code size pc (a ++ b) → HasAt code size (pc + length a) b
  has_back pc [] b h = let e : pc ≡ pc + 0 = omega arith in subst (λ n. HasAt code size n b) e h
  has_back pc (i ∷ a) b h =
      let e : pc + 1 + length a ≡ pc + length (i ∷ a) = omega arith in
      subst (λ n. HasAt code size n b) e (has_back (pc + 1) a b h.2)

get_seam : (pre : List Instr) (i : Instr) (is : List Instr) → slice_get (pre ++ i ∷ is) (length pre) ≡ Some i
get_seam [] i is = refl
get_seam (p ∷ pre) i is = get_seam pre i is

has_all : (size : ℕ) (is pre : List Instr) → places_in is ≤ size → HasAt (pre ++ is) size (length pre) is
has_all size [] pre h = tt
has_all size (i ∷ is) pre h =
    let n : length (pre ++ i ∷ []) ≡ length pre + 1 = omega (arith, length-append pre (i ∷ [])) in
    let rest = has_all size is (pre ++ i ∷ []) (omega (arith, h, le-max_right (places_for i.action) (places_in is))) in
    let rest' = subst (λ l. HasAt l size (length (pre ++ i ∷ [])) is) (append_assoc pre (i ∷ []) is) rest in
    (get_seam pre i is, omega (arith, h, le-max_left (places_for i.action) (places_in is)), subst (λ m. HasAt (pre ++ i ∷ is) size m is) n rest')

-- all instructions of a code stand in it
pub has_whole : (size : ℕ) (is : List Instr) → places_in is ≤ size → HasAt is size 0 is
has_whole size is h = has_all size is [] h
