-- The first nodes of those that are held, under stamps without a gap, are what a roll-back leaves.
use Rattle.std.proofs.Common.{◌≡◌, ℕ, zero, suc, ◌+◌, ◌<◌, ◌≤◌, List, [], ◌∷◌, length, take, drop, inl, inr, refl, sym, ◌∙◌, ap, subst, arith, take-append-drop, length-take}
use Rattle.mx_vertices.specs.Kept.{Kept, asked}
use Rattle.mx_vertices.specs.Kept as kept
use Rattle.mx_vertices.specs.Places.{Has}
use Rattle.mx_invalidation.specs.Stamps.{renumbered}
use Rattle.mx_memo.specs.Memos.{Memory}
use Rattle.mx_memo.specs.Restoring.{AreApart, AskBefore}
use Rattle.mx_memo.specs.Order.{StampsRise}
use Rattle.mx_memo_laws.specs.Entries.{entries_of, IsOrdered}
use Rattle.mx_memo_laws.specs.Laws.{HasGrown, RollingBack, Renumbering}

-- ---- the first of what is held

has_take : (k : ℕ) (held : List Kept) (r : Kept) → Has (take k held) r → Has held r
has_take zero held r h = absurd h
has_take (suc k) [] r h = absurd h
has_take (suc k) (x ∷ held) r h = elim h [ inl e ↦ inl e | inr s ↦ inr (has_take k held r s) ]

apart_take : (k : ℕ) (held : List Kept) → AreApart held → AreApart (take k held)
apart_take zero held a = tt
apart_take (suc k) [] a = tt
apart_take (suc k) (x ∷ held) a = (λ s h e. a.0 s (has_take k held s h) e, apart_take k held a.1)

rise_take : (k p : ℕ) (held : List Kept) → StampsRise p held → StampsRise p (take k held)
rise_take zero p held a = tt
rise_take (suc k) p [] a = tt
rise_take (suc k) p (x ∷ held) a = (a.0, rise_take k x.stamp held a.1)

asks_take : (k : ℕ) (before : List ℕ) (held : List Kept) → AskBefore before held → AskBefore before (take k held)
asks_take zero before held a = tt
asks_take (suc k) before [] a = tt
asks_take (suc k) before (x ∷ held) a = (a.0, asks_take k (x.id ∷ before) held a.1)

-- ---- stamps without a gap

take_stamps : (k p : ℕ) (held : List Kept) (r : Kept) → Has (take k (renumbered p held)) r → r.stamp ≤ p + k
take_stamps zero p held r h = absurd h
take_stamps (suc k) p [] r h = absurd h
take_stamps (suc k) p (x ∷ held) r h =
    elim h [
      | inl e ↦ let s : p + 1 ≡ r.stamp = ap (λ (y : Kept). y.stamp) e in omega (arith, s)
      | inr t ↦ let i : r.stamp ≤ p + 1 + k = take_stamps k (p + 1) held r t in omega (arith, i)
    ]

drop_stamps : (k p : ℕ) (held : List Kept) (r : Kept) → Has (drop k (renumbered p held)) r → p + k < r.stamp
drop_stamps zero p [] r h = absurd h
drop_stamps zero p (x ∷ held) r h =
    elim h [
      | inl e ↦ let s : p + 1 ≡ r.stamp = ap (λ (y : Kept). y.stamp) e in omega (arith, s)
      | inr t ↦ let i : p + 1 + 0 < r.stamp = drop_stamps zero (p + 1) held r t in omega (arith, i)
    ]
drop_stamps (suc k) p [] r h = absurd h
drop_stamps (suc k) p (x ∷ held) r h = let i : p + 1 + k < r.stamp = drop_stamps k (p + 1) held r h in omega (arith, i)

pub as_many_numbered : (p : ℕ) (held : List Kept) → length (renumbered p held) ≡ length held
as_many_numbered p [] = refl
as_many_numbered p (x ∷ held) = ap (λ (n : ℕ). suc n) (as_many_numbered (p + 1) held)

-- ---- a roll-back

-- the first of what was held, in order
pub record AreFirst (count : ℕ) (old new : Memory) : Type 0 where
  pub entries : entries_of new.held ≡ take count (entries_of old.held)
  pub ordered : IsOrdered new

pub first_kept : Renumbering → RollingBack → (count : ℕ) (old mid new : Memory) → IsOrdered old → count ≤ length old.held → mid.held ≡ renumbered 0 old.held → mid.last ≡ length old.held
    → kept.Sifts (kept.IsTouched (λ r. count < r.stamp) mid.held) mid.held new.held → new.last ≡ mid.last → AreFirst count old new
first_kept renumbering rolling count old mid new ordered few is last sifts stays =
    let same = renumbering old mid ordered is last in
    let start : Memory = record { held = take count mid.held; last = count; begun = [] } in
    let first : (r : Kept) → Has (take count mid.held) r → r.stamp ≤ count = λ r h. let i : r.stamp ≤ 0 + count = take_stamps count 0 old.held r (subst (λ (held : List Kept). Has (take count held) r) is h) in omega (arith, i) in
    let behind : (r : Kept) → Has (drop count mid.held) r → count < r.stamp = λ r h. let i : 0 + count < r.stamp = drop_stamps count 0 old.held r (subst (λ (held : List Kept). Has (drop count held) r) is h) in omega (arith, i) in
    let begins : IsOrdered start = record {
      stands = record { apart = apart_take count mid.held same.ordered.stands.apart; rising = rise_take count 0 mid.held same.ordered.stands.rising; given = first };
      asks = asks_take count [] mid.held same.ordered.asks;
    } in
    let grown : HasGrown start mid = record { more = drop count mid.held; is = sym (take-append-drop count mid.held); later = behind; given = subst (λ (n : ℕ). count ≤ n) (sym last) few } in
    let back = rolling start mid new begins same.ordered grown sifts stays in
    let long : length mid.held ≡ length old.held = ap length is ∙ as_many_numbered 0 old.held in
    let short : length (take count mid.held) ≡ count = let l = length-take count mid.held in omega (arith, l, long, few) in
    record {
      entries = back.first ∙ ap (λ (n : ℕ). take n (entries_of mid.held)) short ∙ ap (take count) same.entries;
      ordered = back.ordered;
    }
