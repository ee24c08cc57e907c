-- What one write after another leaves.
use Rattle.std.proofs.Common.{◌≡◌, ℕ, ◌+◌, ◌≤◌, List, [], ◌++◌, Option, None, Some, length, take, drop, take-append-drop, refl, sym, ap, ◌∙◌, append_assoc, append-nil, arith, length-drop}
use Rattle.std.proofs.Math.Seq.{take-add}
use Rattle.std.proofs.lemmas.List.{drop-drop}
use Rattle.std.specs.Io.KnownBytes.{append_known, prepend_known}
use Rattle.mx_outside.specs.Outside.{TakesFront}

pub append_known-append : (old : Option (List ℕ)) (a b : List ℕ) → append_known (append_known old a) b ≡ append_known old (a ++ b)
append_known-append None a b = refl
append_known-append (Some t) a b = ap (λ (l : List ℕ). Some l) (append_assoc t a b)

pub append_known-nil : (old : Option (List ℕ)) → append_known old [] ≡ old
append_known-nil None = refl
append_known-nil (Some t) = ap (λ (l : List ℕ). Some l) (append-nil t)

pub prepend_known-append : (new : Option (List ℕ)) (a b : List ℕ) → prepend_known a (prepend_known b new) ≡ prepend_known (a ++ b) new
prepend_known-append None a b = refl
prepend_known-append (Some t) a b = ap (λ (l : List ℕ). Some l) (sym (append_assoc a b t))

-- a write after those that took the first bytes
pub taken_more : (old mid new : Option (List ℕ)) (piece : List ℕ) (m n : ℕ)
    → mid ≡ append_known old (take m piece) → new ≡ append_known mid (take n (drop m piece)) → new ≡ append_known old (take (m + n) piece)
taken_more old mid new piece m n first second =
    second ∙ ap (λ (t : Option (List ℕ)). append_known t (take n (drop m piece))) first
    ∙ append_known-append old (take m piece) (take n (drop m piece))
    ∙ ap (λ (l : List ℕ). append_known old l) (sym (take-add m n piece))

pub front_more : (old mid new : Option (List ℕ)) (piece : List ℕ) (m : ℕ) → m ≤ length piece
    → mid ≡ append_known old (take m piece) → TakesFront mid new (drop m piece) → TakesFront old new piece
front_more old mid new piece m le first second = record {
  count = m + second.count;
  within = omega (arith, second.within, length-drop m piece);
  bytes = taken_more old mid new piece m second.count first second.bytes;
}

-- a read after those that took the first bytes
pub left_more : (all into : List ℕ) (m n : ℕ) → take n into ≡ take n (drop m all) → Some (drop m all) ≡ prepend_known (take n into) (Some (drop (m + n) all))
left_more all into m n same =
    ap (λ (l : List ℕ). Some l) (sym (take-append-drop n (drop m all)) ∙ ap (λ (l : List ℕ). l ++ drop n (drop m all)) (sym same)
    ∙ ap (λ (l : List ℕ). take n into ++ l) (drop-drop n m all))
