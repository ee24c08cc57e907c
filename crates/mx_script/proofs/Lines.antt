-- The first line of bytes, and those behind it.
use Rattle.std.proofs.Common.{◌≡◌, ◌≢◌, ℕ, zero, suc, ◌+◌, ◌<◌, ◌==◌, false, List, [], ◌∷◌, ◌++◌, length, take, drop, get_or, refl, sym, ap, ◌∙◌, append_assoc, arith, take-append-drop}
use Rattle.std.proofs.lemmas.Bool.Decides.{nat_tests}
use Rattle.std.proofs.lemmas.List.{take_more}
use Rattle.mx_script.specs.Script.{Lines, onto, split_lines, last_line, lines_of, HasNoLf}

-- bytes with no LF, from their places
pub no_lf_front : (s : List ℕ) (n : ℕ) → ((k : ℕ) → k < n → get_or s k 0 ≢ 10) → HasNoLf (take n s)
no_lf_front s zero none = tt
no_lf_front [] (suc n) none = tt
no_lf_front (b ∷ bs) (suc n) none = (none 0 (omega arith), no_lf_front bs n (λ k h. none (suc k) (omega arith)))

pub no_lf_whole : (s : List ℕ) → ((k : ℕ) → k < length s → get_or s k 0 ≢ 10) → HasNoLf s
no_lf_whole [] none = tt
no_lf_whole (b ∷ bs) none = (none 0 (omega arith), no_lf_whole bs (λ k h. none (suc k) (omega arith)))

-- a list in front of a place, the LF there and what is behind it
pub around_lf : (s : List ℕ) (n : ℕ) → n < length s → get_or s n 0 ≡ 10 → s ≡ take n s ++ (10 ∷ drop (n + 1) s)
around_lf s n within lf = sym (take-append-drop (n + 1) s) ∙ ap (λ (l : List ℕ). l ++ drop (n + 1) s) (take_more s n 0 within) ∙ append_assoc (take n s) (get_or s n 0 ∷ []) (drop (n + 1) s)
    ∙ ap (λ (b : ℕ). take n s ++ (b ∷ drop (n + 1) s)) lf

-- bytes with no LF are the open line
pub stretch : (s : List ℕ) → HasNoLf s → split_lines s ≡ record { whole = []; rest = s }
stretch [] none = refl
stretch (b ∷ bs) none =
    let apart : b ≢ 10 = none.0 in
    let e : (b == 10) ≡ false = grind (arith, nat_tests) in
    rw e (ap (λ (l : Lines). onto b l.whole l.rest) (stretch bs none.1))

-- and a line where an LF stands behind them
split_lines-line : (line behind : List ℕ) → HasNoLf line → split_lines (line ++ 10 ∷ behind) ≡ record { whole = line ∷ (split_lines behind).whole; rest = (split_lines behind).rest }
split_lines-line [] behind none = refl
split_lines-line (b ∷ bs) behind none =
    let apart : b ≢ 10 = none.0 in
    let e : (b == 10) ≡ false = grind (arith, nat_tests) in
    rw e (ap (λ (l : Lines). onto b l.whole l.rest) (split_lines-line bs behind none.1))

lines_of-line : (line behind : List ℕ) → HasNoLf line → lines_of (line ++ 10 ∷ behind) ≡ line ∷ lines_of behind
lines_of-line line behind none = ap (λ (l : Lines). l.whole ++ last_line l.rest) (split_lines-line line behind none)

pub lines_at_lf : (s : List ℕ) (n : ℕ) → n < length s → ((k : ℕ) → k < n → get_or s k 0 ≢ 10) → get_or s n 0 ≡ 10 → lines_of s ≡ take n s ∷ lines_of (drop (n + 1) s)
lines_at_lf s n within before lf = ap lines_of (around_lf s n within lf) ∙ lines_of-line (take n s) (drop (n + 1) s) (no_lf_front s n before)

pub lines_without_lf : (s : List ℕ) → 0 < length s → ((k : ℕ) → k < length s → get_or s k 0 ≢ 10) → lines_of s ≡ s ∷ []
lines_without_lf [] some none = absurd (omega arith)
lines_without_lf (b ∷ bs) some none = ap (λ (l : Lines). l.whole ++ last_line l.rest) (stretch (b ∷ bs) (no_lf_whole (b ∷ bs) none))
