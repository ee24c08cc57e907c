-- What an edit comes to is told in one way: a text that it makes, or the words of a refusal.
use Rattle.std.proofs.Common.{◌≡◌, List, [], ◌∷◌, None, Result, Ok, Err, inl, inr, refl, sym, ◌∙◌, ap, subst}
use Rattle.mx_edit.specs.declared.edit.Edit.{Edit}
use Rattle.mx_edit.specs.declared.refusal.EditRefusal.{EditRefusal}
use Rattle.mx_edit.specs.declared.refusal.EditRefusal.TheVariants as refusal
use Rattle.mx_edit.specs.declared.refusal.Limit.{Limit}
use Rattle.mx_print.specs.Texts.{Text}
use Rattle.mx_text.specs.Edit.{edit_refusal_text}
use Rattle.mx_model.specs.Records.{Path, ModelRecord}
use Rattle.mx_model.specs.Rings.{IsRing, HasNoRing}
use Rattle.mx_model.specs.Counts.{over}
use Rattle.mx_model.specs.Walk.{own_trouble, MeetsAt, Meets}
use Rattle.mx_model.specs.Apply.{changed, Apply, IsRefused, HasRing, IsOver, IsStopped, IsAccepted}
use Rattle.mx_paths.specs.Names.{IsNamed}
use Rattle.mx_paths.proofs.PathOrder.{First, Same, Second, ordered}
use Rattle.mx_paths.proofs.Statics.{static_names}
use Rattle.mx_prepare.proofs.Named.{named_after}

-- what is told of it
abbrev pub told : Result ModelRecord EditRefusal → Result ModelRecord Text
told (Ok made) = Ok made
told (Err why) = Err (edit_refusal_text why)

ring_or_none : (text : ModelRecord) (ring : List Path) → IsRing text ring → HasNoRing text → ⊥
ring_or_none text [] r n = r
ring_or_none text (path ∷ paths) r n = n path paths r.1

one_at : (text : ModelRecord) (path : Path) (a b : EditRefusal) → MeetsAt text path a → MeetsAt text path b → a ≡ b
one_at text path a b (inl i) (inl j) = cc
one_at text path a b (inl i) (inr j) = let none : own_trouble text path ≡ None = j.0 in absurd cc
one_at text path a b (inr i) (inl j) = let none : own_trouble text path ≡ None = i.0 in absurd cc
one_at text path a b (inr i) (inr j) = i.2 ∙ sym j.2

one_meeting : (text : ModelRecord) (a b : EditRefusal) → IsNamed text → Meets text a → Meets text b → a ≡ b
one_meeting text a b named x y =
    elim (ordered x.path y.path (static_names text x.path named x.static) (static_names text y.path named y.static)) [
      | First before ↦ absurd (y.first x.path a x.static before x.meets)
      | Same is ↦ one_at text y.path a b (subst (λ (p : Path). MeetsAt text p a) is x.meets) y.meets
      | Second before ↦ absurd (x.first y.path b y.static before y.meets)
    ]

module _ (text : ModelRecord) (e : Edit) (named : IsNamed text) where
  words : {a b : EditRefusal} → a ≡ b → told (Err a) ≡ told (Err b)
  words i = ap (λ (why : EditRefusal). told (Err why)) i

  pub one_telling : (r q : Result ModelRecord EditRefusal) → Apply text e r → Apply text e q → told r ≡ told q
  one_telling r q (IsRefused a t) (IsRefused b u) = let same : a ≡ b = cc in words same
  one_telling r q (IsRefused a t) (HasRing ring u k) = absurd cc
  one_telling r q (IsRefused a t) (IsOver l u n o) = absurd cc
  one_telling r q (IsRefused a t) (IsStopped b u c m) = absurd cc
  one_telling r q (IsRefused a t) (IsAccepted u c m) = absurd cc
  one_telling r q (HasRing ring t k) (IsRefused b u) = absurd cc
  one_telling r q (HasRing ring t k) (HasRing other u h) = refl
  one_telling r q (HasRing ring t k) (IsOver l u n o) = absurd (ring_or_none (changed text e) ring k n)
  one_telling r q (HasRing ring t k) (IsStopped b u c m) = absurd (ring_or_none (changed text e) ring k c.no_ring)
  one_telling r q (HasRing ring t k) (IsAccepted u c m) = absurd (ring_or_none (changed text e) ring k c.no_ring)
  one_telling r q (IsOver l t n o) (IsRefused b u) = absurd cc
  one_telling r q (IsOver l t n o) (HasRing ring u k) = absurd (ring_or_none (changed text e) ring k n)
  one_telling r q (IsOver l t n o) (IsOver m u p h) = let same : l ≡ m = cc in words (ap (λ (limit : Limit). refusal.TooMany limit) same)
  one_telling r q (IsOver l t n o) (IsStopped b u c m) = let few : over (changed text e) ≡ None = c.few in absurd cc
  one_telling r q (IsOver l t n o) (IsAccepted u c m) = let few : over (changed text e) ≡ None = c.few in absurd cc
  one_telling r q (IsStopped a t c m) (IsRefused b u) = absurd cc
  one_telling r q (IsStopped a t c m) (HasRing ring u k) = absurd (ring_or_none (changed text e) ring k c.no_ring)
  one_telling r q (IsStopped a t c m) (IsOver l u n o) = let few : over (changed text e) ≡ None = c.few in absurd cc
  one_telling r q (IsStopped a t c m) (IsStopped b u d k) = words (one_meeting (changed text e) a b (named_after text e named t) m k)
  one_telling r q (IsStopped a t c m) (IsAccepted u d k) = absurd (k m.path a m.static m.meets)
  one_telling r q (IsAccepted t c m) (IsRefused b u) = absurd cc
  one_telling r q (IsAccepted t c m) (HasRing ring u k) = absurd (ring_or_none (changed text e) ring k c.no_ring)
  one_telling r q (IsAccepted t c m) (IsOver l u n o) = let few : over (changed text e) ≡ None = c.few in absurd cc
  one_telling r q (IsAccepted t c m) (IsStopped b u d k) = absurd (m k.path b k.static k.meets)
  one_telling r q (IsAccepted t c m) (IsAccepted u d k) = refl

  -- the text that an edit makes has named spaces
  pub made_named : (r : Result ModelRecord EditRefusal) (made : ModelRecord) → r ≡ Ok made → Apply text e r → IsNamed made
  made_named r made i (IsRefused a t) = absurd cc
  made_named r made i (HasRing ring t k) = absurd cc
  made_named r made i (IsOver l t n o) = absurd cc
  made_named r made i (IsStopped a t c m) = absurd cc
  made_named r made i (IsAccepted t c m) = let same : changed text e ≡ made = cc in subst IsNamed same (named_after text e named t)
