-- The front of a script within the limits is within them.
use Rattle.std.proofs.Common.{◌≡◌, ℕ, ◌≤◌, List, [], ◌∷◌, ◌++◌, Option, None, Some, length, sym, ap, ◌∙◌, subst, append_assoc, arith, length-append}
use Rattle.std.specs.List.{AllByRecursion}
use Rattle.std.specs.Io.KnownBytes.{prepend_known}
use Rattle.mx_script.specs.Script.{Lines, split_lines}
use Rattle.mx_outside.specs.Files.{FileMap}
use Rattle.mx_run.specs.Transcript.{IsWithin, IsCut}
use Rattle.mx_run.proofs.ScriptLemmas.{glued, glued_rest, split_lines-append}

all_front : (P : List ℕ → Type 0) (xs ys : List (List ℕ)) → AllByRecursion P (xs ++ ys) → AllByRecursion P xs
all_front P [] ys all = tt
all_front P (x ∷ xs) ys all = (all.0, all_front P xs ys all.1)

all_back : (P : List ℕ → Type 0) (xs ys : List (List ℕ)) → AllByRecursion P (xs ++ ys) → AllByRecursion P ys
all_back P [] ys all = all
all_back P (x ∷ xs) ys all = all_back P xs ys all.1

short_front : (r : List ℕ) (ms : List (List ℕ)) (s : List ℕ) → AllByRecursion (λ (l : List ℕ). length l ≤ 65536) (glued r ms) → length (glued_rest r ms s) ≤ 65536 → length r ≤ 65536
short_front r [] s all rest = omega (arith, length-append r s)
short_front r (m ∷ ms) s all rest = omega (arith, all.0, length-append r m)

pub within_front : (a b : List ℕ) → IsWithin (a ++ b) → IsWithin a
within_front a b within =
    let e = split_lines-append a b in
    let all = subst (λ (l : Lines). AllByRecursion (λ (x : List ℕ). length x ≤ 65536) l.whole) e within.whole in
    let rest = subst (λ (l : Lines). length l.rest ≤ 65536) e within.rest in
    record {
      size = omega (arith, within.size, length-append a b);
      whole = all_front (λ (x : List ℕ). length x ≤ 65536) (split_lines a).whole (glued (split_lines a).rest (split_lines b).whole) all;
      rest = short_front (split_lines a).rest (split_lines b).whole (split_lines b).rest
          (all_back (λ (x : List ℕ). length x ≤ 65536) (split_lines a).whole (glued (split_lines a).rest (split_lines b).whole) all) rest;
    }

-- no run over a script within the limits passes one
pub no_cut : (first : Option FileMap) (script read written : List ℕ) (left : Option (List ℕ)) → IsWithin script → Some script ≡ prepend_known read left → IsCut first read written → ⊥
no_cut first script read written None within is cut = cc
no_cut first script read written (Some rest) within is cut =
    let whole : script ≡ read ++ rest = cc in
    let split : script ≡ (cut.before ++ cut.byte ∷ []) ++ (cut.after ++ rest) =
    whole ∙ ap (λ (l : List ℕ). l ++ rest) cut.is ∙ append_assoc cut.before (cut.byte ∷ cut.after) rest ∙ sym (append_assoc cut.before (cut.byte ∷ []) (cut.after ++ rest)) in
    cut.passes (within_front (cut.before ++ cut.byte ∷ []) (cut.after ++ rest) (subst IsWithin split within))
