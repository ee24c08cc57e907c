-- A figure has a number, or a step that it needs fails; and what rows are made of.
use Rattle.std.proofs.Common.{◌≡◌, ℕ, zero, suc, ◌+◌, ◌<◌, inl, inr, ℤ, List, [], ◌∷◌, ◌++◌, length, slice_index_or, map, Result, Ok, Err, refl, sym, ap, subst, ◌∙◌, arith}
use Rattle.std.specs.List.{Contains}
use Rattle.std.proofs.lemmas.List.{map-append}
use Rattle.std.proofs.lemmas.List.Elements.{Contains-append_right}
use Rattle.mx_value.specs.declared.fixed.NumFault.{NumFault}
use Rattle.mx_plain.specs.Figures.{Step, Figure, Given, Whole, Both, One, value, joined, turned, stepped, changed, Fails, Change}
use Rattle.mx_plain.specs.Months.{first}
use Rattle.mx_plain.specs.Outcome.{AreRows, AreNumbers, OneFails}
use Rattle.mx_plain.proofs.FirstMonths.{first-none, first-more}

both_fail : (step : Step) (a b : Figure) (fault : NumFault) (p q : Result ℤ NumFault) → value a ≡ p → value b ≡ q → (value a ≡ Err fault → Fails a fault) → (value b ≡ Err fault → Fails b fault) → joined step p q ≡ Err fault → Fails (Both step a b) fault
both_fail step a b fault (Err e) q va vb fa fb h = inl (fa (va ∙ h))
both_fail step a b fault (Ok x) (Err e) va vb fa fb h = inr (inl (fb (vb ∙ h)))
both_fail step a b fault (Ok x) (Ok y) va vb fa fb h = inr (inr (x, (y, (va, vb, h))))

one_fails : (change : Change) (a : Figure) (fault : NumFault) (p : Result ℤ NumFault) → value a ≡ p → (value a ≡ Err fault → Fails a fault) → turned change p ≡ Err fault → Fails (One change a) fault
one_fails change a fault (Err e) va fa h = inl (fa (va ∙ h))
one_fails change a fault (Ok x) va fa h = inr (x, (va, h))

-- a figure's fault is that of a step whose operands all have numbers
pub fails : (figure : Figure) (fault : NumFault) → value figure ≡ Err fault → Fails figure fault
fails (Given x) fault h = absurd (cc)
fails (Whole n) fault h = h
fails (Both step a b) fault h = both_fail step a b fault (value a) (value b) refl refl (fails a fault) (fails b fault) h
fails (One change a) fault h = one_fails change a fault (value a) refl (fails a fault) h

both_stand : (step : Step) (a b : Figure) (fault : NumFault) (v : ℤ) (p q : Result ℤ NumFault) → value a ≡ p → value b ≡ q → ((x : ℤ) → value a ≡ Ok x → Fails a fault → ⊥) → ((y : ℤ) → value b ≡ Ok y → Fails b fault → ⊥) → joined step p q ≡ Ok v → Fails (Both step a b) fault → ⊥
both_stand step a b fault v (Err e) q va vb sa sb h f = cc
both_stand step a b fault v (Ok x) (Err e) va vb sa sb h f = cc
both_stand step a b fault v (Ok x) (Ok y) va vb sa sb h (inl f) = sa x va f
both_stand step a b fault v (Ok x) (Ok y) va vb sa sb h (inr (inl f)) = sb y vb f
both_stand step a b fault v (Ok x) (Ok y) va vb sa sb h (inr (inr f)) =
    let i : x ≡ f.0 = let j = sym va ∙ f.1.1.0 in cc in
    let k : y ≡ f.1.0 = let j = sym vb ∙ f.1.1.1 in cc in
    let l : stepped step x y ≡ Err fault = (λ t. stepped step (i t) (k t)) ∙ f.1.1.2 in
    cc

one_stands : (change : Change) (a : Figure) (fault : NumFault) (v : ℤ) (p : Result ℤ NumFault) → value a ≡ p → ((x : ℤ) → value a ≡ Ok x → Fails a fault → ⊥) → turned change p ≡ Ok v → Fails (One change a) fault → ⊥
one_stands change a fault v (Err e) va sa h f = cc
one_stands change a fault v (Ok x) va sa h (inl f) = sa x va f
one_stands change a fault v (Ok x) va sa h (inr f) =
    let i : x ≡ f.0 = let j = sym va ∙ f.1.0 in cc in
    let l : changed change x ≡ Err fault = ap (changed change) i ∙ f.1.1 in
    cc

-- no step fails that a figure with a number needs
pub stands : (figure : Figure) (fault : NumFault) (x : ℤ) → value figure ≡ Ok x → Fails figure fault → ⊥
stands (Given y) fault x h f = f
stands (Whole n) fault x h f = cc
stands (Both step a b) fault x h f = both_stand step a b fault x (value a) (value b) refl refl (stands a fault) (stands b fault) h f
stands (One change a) fault x h f = one_stands change a fault x (value a) refl (stands a fault) h f

failing_at : (figures : List Figure) (fault : NumFault) (k : ℕ) → k < length (map value figures) → slice_index_or (map value figures) k (Err fault) ≡ Err fault → OneFails figures fault
failing_at [] fault k h e = absurd (omega arith)
failing_at (x ∷ xs) fault zero h e = (x, ((0, omega arith, refl), fails x fault e))
failing_at (x ∷ xs) fault (suc k) h e =
    let r = failing_at xs fault k (omega arith) e in
    (r.0, (Contains-append_right (x ∷ []) xs r.0 r.1.0, r.1.1))

-- a fault among the numbers of figures is one of a step that they need
pub failing : (figures : List Figure) (numbers : List (Result ℤ NumFault)) (fault : NumFault) → numbers ≡ map value figures → Contains numbers (Err fault) → OneFails figures fault
failing figures numbers fault e h =
    let there = subst (λ (rs : List (Result ℤ NumFault)). Contains rs (Err fault)) e h in
    failing_at figures fault there.0 there.1 there.2

pub rows-none : (row : ℕ → List Figure) (rows : List (List ℤ)) → rows ≡ [] → AreRows 0 row rows
rows-none row rows e = ap (map (map value)) (first-none row) ∙ sym (ap (map (map Ok)) e)

pub rows-more : (n : ℕ) (row : ℕ → List Figure) (rows more : List (List ℤ)) (numbers : List ℤ) → AreRows n row rows → AreNumbers (row n) numbers → more ≡ rows ++ numbers ∷ [] → AreRows (n + 1) row more
rows-more n row rows more numbers h k e =
    ap (map (map value)) (first-more n row)
    ∙ map-append (map value) (first n row) (row n ∷ [])
    ∙ (λ i. h i ++ k i ∷ [])
    ∙ sym (map-append (map Ok) rows (numbers ∷ []))
    ∙ sym (ap (map (map Ok)) e)
