-- Gaps behind gaps, and the bytes that they are made of.
use Rattle.std.proofs.Common.{◌≡◌, ℕ, ◌+◌, suc, List, [], ◌∷◌, ◌++◌, Bool, true, false, ◌==◌, cond, drop, refl, sym, subst, append_assoc, append-nil, arith}
use Rattle.std.specs.List.{prefix_len, AllPass}
use Rattle.std.proofs.lemmas.Bool.{eqb-true}
use Rattle.std.proofs.lemmas.List.Elements.{All-head, All-tail}
use Rattle.mx_lex.specs.Bytes.{is_printable, first_passes}
use Rattle.mx_lex.specs.Heads.{ends_here}
use Rattle.mx_token_laws.specs.Standing.{AreSpaces, IsGap}

pub gap_append : (behind ys xs : List ℕ) → IsGap (ys ++ behind) xs → IsGap behind ys → IsGap behind (xs ++ ys)
gap_append behind ys _ IsGap.none h = h
gap_append behind ys _ (IsGap.space bs gap) h = IsGap.space (bs ++ ys) (gap_append behind ys bs gap h)
gap_append behind ys _ (IsGap.line_end bs gap) h = IsGap.line_end (bs ++ ys) (gap_append behind ys bs gap h)
gap_append behind ys _ (IsGap.comment text bs printable ends gap) h =
    let further = IsGap.comment text (bs ++ ys) printable (subst (λ l. ends_here l ≡ true) (sym (append_assoc bs ys behind)) ends) (gap_append behind ys bs gap h) in
    subst (λ l. IsGap behind (35 ∷ l)) (sym (append_assoc text bs ys)) further

pub spaces_gap : (bytes behind : List ℕ) → AreSpaces bytes → IsGap behind bytes
spaces_gap [] behind h = IsGap.none
spaces_gap (b ∷ bs) behind h =
    let is = eqb-true b 32 (All-head (λ c. (c == 32) ≡ true) b bs h) in
    subst (λ c. IsGap behind (c ∷ bs)) (sym is) (IsGap.space bs (spaces_gap bs behind (All-tail (λ c. (c == 32) ≡ true) b bs h)))

pub comment_gap : (text behind : List ℕ) → AllPass is_printable text → ends_here behind ≡ true → IsGap behind (35 ∷ text)
comment_gap text behind printable ends =
    subst (λ l. IsGap behind (35 ∷ l)) (append-nil text) (IsGap.comment text [] printable ends IsGap.none)

-- the front that passes is as long as can be
pub front_stops : (p : ℕ → Bool) (bytes : List ℕ) → first_passes p (drop (prefix_len p bytes) bytes) ≡ false
front_stops p [] = refl
front_stops p (b ∷ bs) = go (p b) refl (front_stops p bs)
  where
    go : (passes : Bool) → p b ≡ passes → first_passes p (drop (prefix_len p bs) bs) ≡ false → first_passes p (drop (cond passes (1 + prefix_len p bs) 0) (b ∷ bs)) ≡ false
    go true h later = let one : suc (prefix_len p bs) ≡ 1 + prefix_len p bs = omega arith in subst (λ n. first_passes p (drop n (b ∷ bs)) ≡ false) one later
    go false h later = h
