-- What the definitions say of small models, by computing it.
use Rattle.std.proofs.Common.{◌≡◌, refl, ap, inl, inr, codes, [], ◌∷◌, length, arith}
use Rattle.mx_value.specs.Name.{is_keyword}
use Rattle.mx_c3.specs.Merge.{merge}
use Rattle.mx_c3.specs.Linearisation.{c3}
use Rattle.mx_model.specs.Records.{Path, empty_space}
use Rattle.mx_model.specs.Apply.{HasRing}
use Rattle.mx_model.specs.Rows.{DiamondInOrder, CrossedHasNoOrder, ChildIsDerived, HiddenChildStays, NoBaseNoChild, BaseBringsItsRecord, RefusalsInTurn, ChildAsBaseIsRing}

pub diamond : DiamondInOrder
unfolding c3 merge
diamond = refl

pub crossed : CrossedHasNoOrder
unfolding c3 merge
crossed = refl

pub derived : ChildIsDerived
unfolding c3 merge
derived = refl

pub hidden : HiddenChildStays
unfolding c3 merge
hidden f = (refl, refl)

pub no_base : NoBaseNoChild
unfolding c3 merge
no_base = refl

pub alone : BaseBringsItsRecord
unfolding c3 merge
alone = (refl, refl)

pub refusals : RefusalsInTurn
unfolding c3 merge is_keyword
refusals = (refl, λ f. refl, refl, refl)

one_longer : {X : Type 0} (x y : X) → (x ∷ y ∷ []) ≡ (x ∷ []) → ⊥
one_longer x y e = let l : length (x ∷ y ∷ []) ≡ length (x ∷ []) = ap length e in omega (arith, l)

-- the two paths of the ring
abbrev first : Path
first = codes "A" ∷ []

abbrev second : Path
second = codes "A" ∷ codes "B" ∷ []

pub ring : ChildAsBaseIsRing
unfolding c3 merge
ring =
    HasRing (first ∷ second ∷ []) refl (
      ((λ m. elim m [ inl e ↦ one_longer (codes "A") (codes "B") e | inr n ↦ n ]), ((λ m. m), tt)),
      (
        (refl, inl (record { name = codes "B"; at = refl; defined = refl })),
        (refl, inr (record { space = record (empty_space second) { bases = first ∷ [] }; has = inr (inr (inl refl)); at = refl; among = inl refl })),
      ),
    )
