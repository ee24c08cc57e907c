-- What stands among the lines of a statement stands in the text that the statement stands in.
use Rattle.std.proofs.Common.{◌≡◌, ℕ, zero, suc, ◌+◌, List, [], ◌∷◌, ◌++◌, sym, ap, ◌∙◌, append_assoc, length-append, zero-add, arith, refl}
use Rattle.std.specs.Prelude.{codes}
use Rattle.std.proofs.lemmas.List.{map-append, length-map}
use Rattle.mx_print.specs.Texts.{Text}
use Rattle.mx_print.specs.Statements.{margin}
use Rattle.mx_print.specs.Lines.{deep, Stands}

margin_both : (d e : ℕ) → margin d ++ margin e ≡ margin (d + e)
margin_both zero e = ap margin (sym (zero-add e))
margin_both (suc d) e = let k : suc d + e ≡ suc (d + e) = omega arith in ap (λ (t : Text). codes "    " ++ t) (margin_both d e) ∙ ap margin (sym k)

deep_both : (d e : ℕ) (ls : List Text) → deep d (deep e ls) ≡ deep (d + e) ls
deep_both d e [] = refl
deep_both d e (l ∷ ls) =
    ap (λ (t : Text). t ∷ deep d (deep e ls)) (sym (append_assoc (margin d) (margin e) l) ∙ ap (λ (t : Text). t ++ l) (margin_both d e))
    ∙ ap (λ (k : List Text). (margin (d + e) ++ l) ∷ k) (deep_both d e ls)

regroup : (a b i c d : List Text) → a ++ ((b ++ (i ++ c)) ++ d) ≡ (a ++ b) ++ (i ++ (c ++ d))
regroup a b i c d = ap (λ (ls : List Text). a ++ ls) (append_assoc b (i ++ c) d ∙ ap (λ (ls : List Text). b ++ ls) (append_assoc i c d)) ∙ sym (append_assoc a b (i ++ (c ++ d)))

pub stands_within : (first line at : ℕ) (lines own inner : List Text) → Stands first lines line own → Stands line own at inner → Stands first lines at inner
stands_within first line at lines own inner h k =
    let d : ℕ = h.depth in
    let e : ℕ = k.depth in
    let f : Text → Text = λ (l : Text). margin d ++ l in
    let back : List Text = deep d k.before in
    let parts : deep d own ≡ back ++ (deep (d + e) inner ++ deep d k.after) =
    ap (deep d) k.whole ∙ map-append f k.before (deep e inner ++ k.after)
    ∙ ap (λ (ls : List Text). back ++ ls) (map-append f (deep e inner) k.after ∙ ap (λ (ls : List Text). ls ++ deep d k.after) (deep_both d e inner)) in
    record {
      depth = d + e;
      before = h.before ++ back;
      after = deep d k.after ++ h.after;
      whole = h.whole ∙ ap (λ (ls : List Text). h.before ++ (ls ++ h.after)) parts ∙ regroup h.before back (deep (d + e) inner) (deep d k.after) h.after;
      place = omega (arith, h.place, k.place, length-append h.before back, length-map k.before f);
    }
