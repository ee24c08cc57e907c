-- A derived `==` on an enum decides `≡` where the tests of its fields do.
use Rattle.std.proofs.Common.{◌≡◌, ◌==◌, ℕ, Bool, true, false, ◌&&◌, List, [], ◌∷◌, map, refl, sym, ◌∙◌, ap, subst, inl, inr}
use Rattle.std.specs.Bool.{Decides}
use Rattle.std.specs.Cmp.Lexicographic.{pointwise, pointwise_decides}
use Rattle.std.specs.Cmp.{unsigned_Decides, first_so, second_so}
use Rattle.std.specs.Cmp.Derive.{both_true}
use denote.Struct.Field.{Field}
use denote.Struct.Values.{Values}
use denote.Enum.Declared.{Choice, Record, values_one}
use denote.Enum.Compared.{Each, by}

-- the test of the variant of c decides whether its fields are those of another value
abbrev pub DecidesAt : (fields : List (List Field)) → Each Bool fields → Choice fields → Type 0
DecidesAt [] each c = absurd c
DecidesAt (Fs ∷ Fss) each (inl x) = (y : Values Fs) → Decides (each.0 x y) (x ≡ y)
DecidesAt (Fs ∷ Fss) each (inr c) = DecidesAt Fss each.1 c

pub choice_decides : (fields : List (List Field)) (each : Each Bool fields) (c : Choice fields) → DecidesAt fields each c → (d : Choice fields) → Decides (by false false fields each c d) (c ≡ d)
choice_decides [] each c s d = absurd c
choice_decides (Fs ∷ Fss) each (inl x) s (inl y) = (λ t. ap inl ((s y).0 t), λ e. let same : x ≡ y = cc in (s y).1 same)
choice_decides (Fs ∷ Fss) each (inl x) s (inr d) = (λ t. cc, λ e. cc)
choice_decides (Fs ∷ Fss) each (inr c) s (inl y) = (λ t. cc, λ e. cc)
choice_decides (Fs ∷ Fss) each (inr c) s (inr d) =
    let rest = choice_decides Fss each.1 c s d in
    (λ t. ap inr (rest.0 t), λ e. let same : c ≡ d = cc in rest.1 same)

pub enum_decides : (N : Record) (each : Each Bool N.parts) (c : Choice N.parts) → DecidesAt N.parts each c → (a b : N.D) → N.make c ≡ a → Decides (by false false N.parts each (N.as_values a) (N.as_values b)) (a ≡ b)
enum_decides N each c s a b made =
    let is : N.as_values a ≡ c = ap N.as_values (sym made) ∙ N.beta c in
    let d = choice_decides N.parts each c s (N.as_values b) in
    let forth : by false false N.parts each (N.as_values a) (N.as_values b) ≡ true → a ≡ b =
    λ t. values_one N a b (is ∙ d.0 (subst (λ (x : Choice N.parts). by false false N.parts each x (N.as_values b) ≡ true) is t)) in
    let back : a ≡ b → by false false N.parts each (N.as_values a) (N.as_values b) ≡ true =
    λ e. subst (λ (x : Choice N.parts). by false false N.parts each x (N.as_values b) ≡ true) (sym is) (d.1 (sym is ∙ ap N.as_values e)) in
    (forth, back)

-- one by one, where each item's test decides
pub items_decide : {X : Type 0} (E : X → X → Bool) (xs : List ((x : X) × ((y : X) → Decides (E x y) (x ≡ y)))) (ys : List X) → Decides (pointwise E (map (λ x. x.0) xs) ys) (map (λ x. x.0) xs ≡ ys)
items_decide E [] [] = (λ t. refl, λ e. refl)
items_decide E [] (y ∷ ys) = (λ t. cc, λ e. cc)
items_decide E (x ∷ xs) [] = (λ t. cc, λ e. cc)
items_decide E (x ∷ xs) (y ∷ ys) =
    let rest = items_decide E xs ys in
    let tail : Bool = pointwise E (map (λ x. x.0) xs) ys in
    let forth : (E x.0 y && tail) ≡ true → (x.0 ∷ map (λ x. x.0) xs) ≡ (y ∷ ys) =
    λ t. let head = (x.1 y).0 (first_so (E x.0 y) tail t) in let last = rest.0 (second_so (E x.0 y) tail t) in cc in
    let back : (x.0 ∷ map (λ x. x.0) xs) ≡ (y ∷ ys) → (E x.0 y && tail) ≡ true =
    λ e. let head : x.0 ≡ y = cc in let last : map (λ x. x.0) xs ≡ ys = cc in both_true ((x.1 y).1 head) (rest.1 last) in
    (forth, back)

-- two tests together decide two facts together
pub both_decide : {P Q : Type 0} (s t : Bool) → Decides s P → Decides t Q → Decides (s && t) (P × Q)
both_decide s t d e = (λ h. (d.0 (first_so s t h), e.0 (second_so s t h)), λ p. both_true (d.1 p.0) (e.1 p.1))

-- the fact may be said in another way
pub decides_as : {P Q : Type 0} {t : Bool} → (P → Q) → (Q → P) → Decides t P → Decides t Q
decides_as there back d = (λ h. there (d.0 h), λ q. d.1 (back q))

-- of the last field of a variant
pub last_field : {A : Type 0} {t : Bool} (x y : A × Unit {0}) → Decides t (x.0 ≡ y.0) → Decides t (x ≡ y)
last_field x y d = decides_as (λ e i. (e i, tt)) (ap (λ p. p.0)) d

-- of a field of a variant, and those behind it
pub more_fields : {A B : Type 0} (s t : Bool) (x y : A × B) → Decides s (x.0 ≡ y.0) → Decides t (x.1 ≡ y.1) → Decides (s && t) (x ≡ y)
more_fields s t x y d e = decides_as (λ p i. (p.0 i, p.1 i)) (λ p. (ap (λ q. q.0) p, ap (λ q. q.1) p)) (both_decide s t d e)

pub text_decides : (xs ys : List ℕ) → Decides (pointwise ◌==◌ xs ys) (xs ≡ ys)
text_decides = pointwise_decides unsigned_Decides
