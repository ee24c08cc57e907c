-- New stamps change no entry.
use Rattle.std.proofs.Common.{◌≡◌, ◌∙◌, ℕ, ◌+◌, ◌≤◌, cond, eqb, List, [], ◌∷◌, length, map, refl, sym, ap, subst, arith, inl, inr}
use Rattle.mx_vertices.specs.Kept.{Kept}
use Rattle.mx_invalidation.specs.Stamps.{renumbered}
use Rattle.mx_vertices.specs.Places as places
use Rattle.mx_memo.specs.Order.{StampsRise}
use Rattle.mx_memo.specs.Restoring.{AreApart, AskBefore}
use Rattle.mx_memo_laws.specs.Entries.{node_under, entry_of, entries_of}
use Rattle.mx_memo_laws.specs.Laws.{Renumbering}
use Rattle.mx_memo_laws.proofs.Members.{map_same}
use Rattle.mx_memo_laws.proofs.Nodes.{entry_same}

under_renumbered : (p : ℕ) (held : List Kept) (id : ℕ) → node_under (renumbered p held) id ≡ node_under held id
under_renumbered p [] id = refl
under_renumbered p (r ∷ held) id = ap (λ n. cond (eqb r.id id) r.body.node n) (under_renumbered (p + 1) held id)

entries_renumbered : (all : List Kept) (p : ℕ) (held : List Kept) → map (entry_of all) (renumbered p held) ≡ map (entry_of all) held
entries_renumbered all p [] = refl
entries_renumbered all p (r ∷ held) = ap (λ es. entry_of all r ∷ es) (entries_renumbered all (p + 1) held)

-- a node under its new stamp
record HasStamp (p : ℕ) (held : List Kept) (s : Kept) : Type 0 where
  was : Kept
  among : places.Has held was
  id_is : was.id ≡ s.id
  few : s.stamp ≤ p + length held

stamped : (p : ℕ) (held : List Kept) (s : Kept) → places.Has (renumbered p held) s → HasStamp p held s
stamped p [] s h = absurd h
stamped p (r ∷ held) s h =
    elim h [
      | inl e ↦ record {
        was = r;
        among = inl refl;
        id_is = ap (λ (k : Kept). k.id) e;
        few = let stamp : p + 1 ≡ s.stamp = ap (λ (k : Kept). k.stamp) e in omega (arith, stamp);
      }
      | inr i ↦
          let f = stamped (p + 1) held s i in
          let few : s.stamp ≤ p + 1 + length held = f.few in
          record { was = f.was; among = inr f.among; id_is = f.id_is; few = omega (arith, few) }
    ]

apart_renumbered : (p : ℕ) (held : List Kept) → AreApart held → AreApart (renumbered p held)
apart_renumbered p [] a = tt
apart_renumbered p (r ∷ held) a =
    (λ s h e. let f = stamped (p + 1) held s h in a.0 f.was f.among (e ∙ sym f.id_is), apart_renumbered (p + 1) held a.1)

rise_renumbered : (p : ℕ) (held : List Kept) → StampsRise p (renumbered p held)
rise_renumbered p [] = tt
rise_renumbered p (r ∷ held) = (omega arith, rise_renumbered (p + 1) held)

asks_renumbered : (p : ℕ) (before : List ℕ) (held : List Kept) → AskBefore before held → AskBefore before (renumbered p held)
asks_renumbered p before [] a = tt
asks_renumbered p before (r ∷ held) a = (a.0, asks_renumbered (p + 1) (r.id ∷ before) held a.1)

pub renumbering : Renumbering
renumbering old new o is last = record {
  entries = ap (λ rs. entries_of rs) is
      ∙ entries_renumbered (renumbered 0 old.held) 0 old.held
      ∙ map_same (entry_of (renumbered 0 old.held)) (entry_of old.held) old.held
      (λ r h. entry_same (renumbered 0 old.held) old.held r (λ m a. under_renumbered 0 old.held m));
  ordered = record {
    stands = record {
      apart = subst (λ rs. AreApart rs) (sym is) (apart_renumbered 0 old.held o.stands.apart);
      rising = subst (λ rs. StampsRise 0 rs) (sym is) (rise_renumbered 0 old.held);
      given = λ r h.
          let f = stamped 0 old.held r (subst (λ rs. places.Has rs r) is h) in
          let few : r.stamp ≤ 0 + length old.held = f.few in
          omega (arith, few, last);
    };
    asks = subst (λ rs. AskBefore [] rs) (sym is) (asks_renumbered 0 [] old.held o.asks);
  };
}
