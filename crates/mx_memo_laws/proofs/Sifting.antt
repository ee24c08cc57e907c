-- What a memo drops by ids it drops by nodes.
use Rattle.std.proofs.Common.{◌≡◌, ◌∙◌, ℕ, ◌<◌, ◌≤◌, List, [], ◌∷◌, map, refl, sym, ap, subst, arith, inl, inr}
use Rattle.mx_value.specs.declared.node.Node.{Node}
use Rattle.mx_edit.specs.Entry.{Entry}
use Rattle.mx_vertices.specs.Kept.{Kept, asked, IsHeld, IsTouched, Here, ByAsk, Sifts, Done, Keeps, Drops}
use Rattle.mx_vertices.specs.Kept as kept
use Rattle.mx_vertices.specs.Reading.{asks_in}
use Rattle.mx_vertices.specs.Places as places
use Rattle.mx_memo.specs.Memos.{Memory}
use Rattle.mx_memo.specs.Order.{StampsRise}
use Rattle.mx_memo.specs.Restoring.{AreApart, AskBefore}
use Rattle.mx_runs.specs.Lists.{Has}
use Rattle.mx_runs.proofs.Lists.{has_map, From, has_map_from}
use Rattle.mx_answers.specs.Retention.{HasChanged}
use Rattle.mx_answers.specs.Retention as retention
use Rattle.mx_memo_laws.specs.Entries.{node_under, nodes_under, entry_of, entries_of, IsOrdered}
use Rattle.mx_memo_laws.specs.Laws.{HeldOnce, AreSifted, Retention}
use Rattle.mx_memo_laws.proofs.Members.{among, placed, map_same, ask_in, ask_out, key_in, key_out}
use Rattle.mx_memo_laws.proofs.Nodes.{node_of_id, entry_same, asks_are_held, held_of, entered, one_node}

module _ (Out : ℕ → Type 0) where
  sift_only : (rs ks : List Kept) → Sifts Out rs ks → (r : Kept) → places.Has ks r → places.Has rs r × (Out r.id → ⊥)
  sift_only rs ks Done r h = absurd h
  sift_only rs ks (Keeps x xs left n s) r h =
      elim h [
        | inl e ↦ (inl e, λ o. n (subst (λ (k : Kept). Out k.id) (sym e) o))
        | inr i ↦ let f = sift_only xs left s r i in (inr f.0, f.1)
      ]
  sift_only rs ks (Drops x xs left o s) r h = let f = sift_only xs ks s r h in (inr f.0, f.1)

  sift_whole : (rs ks : List Kept) → Sifts Out rs ks → (r : Kept) → places.Has rs r → (Out r.id → ⊥) → places.Has ks r
  sift_whole rs ks Done r h n = h
  sift_whole rs ks (Keeps x xs left m s) r h n = elim h [ inl e ↦ inl e | inr i ↦ inr (sift_whole xs left s r i n) ]
  sift_whole rs ks (Drops x xs left o s) r h n =
      elim h [ inl e ↦ absurd (n (subst (λ (k : Kept). Out k.id) e o)) | inr i ↦ sift_whole xs ks s r i n ]

  sift_apart : (rs ks : List Kept) → Sifts Out rs ks → AreApart rs → AreApart ks
  sift_apart rs ks Done a = tt
  sift_apart rs ks (Keeps x xs left n s) a = (λ r h. a.0 r (sift_only xs left s r h).0, sift_apart xs left s a.1)
  sift_apart rs ks (Drops x xs left o s) a = sift_apart xs ks s a.1

  sift_rise : (p q : ℕ) (rs ks : List Kept) → Sifts Out rs ks → p ≤ q → StampsRise q rs → StampsRise p ks
  sift_rise p q rs ks Done l r = tt
  sift_rise p q rs ks (Keeps x xs left n s) l r =
      (let b : q < x.stamp = r.0 in omega (arith, b, l), sift_rise x.stamp x.stamp xs left s (omega arith) r.1)
  sift_rise p q rs ks (Drops x xs left o s) l r =
      sift_rise p x.stamp xs ks s (let b : q < x.stamp = r.0 in omega (arith, b, l)) r.1

  sift_asks : (rs ks : List Kept) → Sifts Out rs ks → (before past : List ℕ) → ((m : ℕ) → places.Has before m → (Out m → ⊥) → places.Has past m)
      → ((r : Kept) → places.Has rs r → (m : ℕ) → places.Has r.sources (asked m) → Out m → Out r.id)
      → AskBefore before rs → AskBefore past ks
  sift_asks rs ks Done before past p c a = tt
  sift_asks rs ks (Keeps x xs left n s) before past p c a = (
    λ m h. p m (a.0 m h) (λ o. n (c x (inl refl) m h o)),
    sift_asks xs left s (x.id ∷ before) (x.id ∷ past) (λ m h n. elim h [ inl e ↦ inl e | inr i ↦ inr (p m i n) ]) (λ r h. c r (inr h)) a.1,
  )
  sift_asks rs ks (Drops x xs left o s) before past p c a =
      sift_asks xs ks s (x.id ∷ before) past
      (λ m h n. elim h [ inl e ↦ absurd (n (subst Out e o)) | inr i ↦ p m i n ]) (λ r h. c r (inr h)) a.1

-- a test of held nodes and one of entries tell the same
abbrev pub TellsSame : (Kept → Type 0) → (Entry → Type 0) → List Kept → Type 0
TellsSame passes In held = (r : Kept) → places.Has held r → (passes r → In (entry_of held r)) × (In (entry_of held r) → passes r)

module _ (passes : Kept → Type 0) (In : Entry → Type 0) (held : List Kept) (apart : AreApart held) (order : AskBefore [] held) (once : HeldOnce held) (told : TellsSame passes In held) where
  abbrev Out : ℕ → Type 0
  Out = IsTouched passes held

  abbrev Lost : Node → Type 0
  Lost = retention.IsTouched In (entries_of held)

  touched_entered : (q : ℕ) → Out q → Lost (node_under held q)
  touched_entered q (Here r h p) =
      subst Lost (sym (node_of_id held apart r h r.id refl)) (retention.Here (entry_of held r) (entered held r h) ((told r h).0 p))
  touched_entered q (ByAsk r h m a t) =
      subst Lost (sym (node_of_id held apart r h r.id refl))
      (retention.ByAsk (entry_of held r) (entered held r h) (node_under held m) (has_map (node_under held) (asks_in r.sources) m (ask_in r.sources m a)) (touched_entered m t))

  entered_touched : (n : Node) → Lost n → (r : Kept) → places.Has held r → r.body.node ≡ n → Out r.id
  entered_touched n (retention.Here e h i) r k same =
      let f : From (entry_of held) held e = held_of held e h in
      let there : places.Has held f.item = placed held f.item f.among in
      let one : f.item ≡ r = one_node held once f.item r f.among (among held r k) (ap (λ (x : Entry). x.node) f.is ∙ sym same) in
      subst (λ (x : Kept). Out x.id) one (Here f.item there ((told f.item there).1 (subst In (sym f.is) i)))
  entered_touched n (retention.ByAsk e h m a t) r k same =
      let f : From (entry_of held) held e = held_of held e h in
      let there : places.Has held f.item = placed held f.item f.among in
      let one : f.item ≡ r = one_node held once f.item r f.among (among held r k) (ap (λ (x : Entry). x.node) f.is ∙ sym same) in
      let asks : Has (nodes_under held (asks_in f.item.sources)) m = subst (λ (x : Entry). Has x.asks m) (sym f.is) a in
      let g : From (node_under held) (asks_in f.item.sources) m = has_map_from (node_under held) (asks_in f.item.sources) m asks in
      let ask : places.Has f.item.sources (asked g.item) = ask_out f.item.sources g.item g.among in
      let s : IsHeld held g.item = asks_are_held held order f.item there g.item ask in
      let out : Out s.entry.id = entered_touched m t s.entry s.among (sym (node_of_id held apart s.entry s.among g.item s.is) ∙ g.is) in
      subst (λ (x : Kept). Out x.id) one (ByAsk f.item there g.item ask (subst Out s.is out))

  sift_entered : (rs ks : List Kept) → Sifts Out rs ks → ((r : Kept) → places.Has rs r → places.Has held r) → retention.Sifts Lost (map (entry_of held) rs) (map (entry_of held) ks)
  sift_entered rs ks Done sub = retention.NoneLeft
  sift_entered rs ks (Keeps x xs left n s) sub =
      retention.Keeps (entry_of held x) (map (entry_of held) xs) (map (entry_of held) left)
      (λ t. n (entered_touched x.body.node t x (sub x (inl refl)) refl)) (sift_entered xs left s (λ r i. sub r (inr i)))
  sift_entered rs ks (Drops x xs left o s) sub =
      retention.Drops (entry_of held x) (map (entry_of held) xs) (map (entry_of held) ks)
      (subst Lost (node_of_id held apart x (sub x (inl refl)) x.id refl) (touched_entered x.id o)) (sift_entered xs ks s (λ r i. sub r (inr i)))

  asks_stay : (ks : List Kept) → Sifts Out held ks → (r : Kept) → places.Has ks r → (m : ℕ) → places.Has r.sources (asked m) → IsHeld ks m
  asks_stay ks s r h m a =
      let f = sift_only Out held ks s r h in
      let t : IsHeld held m = asks_are_held held order r f.0 m a in
      record {
        entry = t.entry;
        among = sift_whole Out held ks s t.entry t.among (λ o. f.1 (ByAsk r f.0 m a (subst Out t.is o)));
        is = t.is;
      }

  entries_left : (ks : List Kept) → Sifts Out held ks → map (entry_of held) ks ≡ entries_of ks
  entries_left ks s =
      map_same (entry_of held) (entry_of ks) ks
      (λ r h. entry_same held ks r
      (λ m a.
      let t : IsHeld ks m = asks_stay ks s r (placed ks r h) m a in
      node_of_id held apart t.entry (sift_only Out held ks s t.entry t.among).0 m t.is
      ∙ sym (node_of_id ks (sift_apart Out held ks s apart) t.entry t.among m t.is)))

  entries_sifted : (ks : List Kept) → Sifts Out held ks → retention.Sifts Lost (entries_of held) (entries_of ks)
  entries_sifted ks s =
      subst (λ es. retention.Sifts Lost (entries_of held) es) (entries_left ks s) (sift_entered held ks s (λ r i. i))

  asks_before : (ks : List Kept) → Sifts Out held ks → AskBefore [] ks
  asks_before ks s = sift_asks Out held ks s [] [] (λ m h n. h) (λ r h m a o. ByAsk r h m a o) order

pub sifted : (passes : Kept → Type 0) (In : Entry → Type 0) (old new : Memory) → IsOrdered old → HeldOnce old.held → TellsSame passes In old.held → Sifts (IsTouched passes old.held) old.held new.held → new.last ≡ old.last → AreSifted In old new
sifted passes In old new o once told s last = record {
  entries = entries_sifted passes In old.held o.stands.apart o.asks once told new.held s;
  ordered = record {
    stands = record {
      apart = sift_apart (IsTouched passes old.held) old.held new.held s o.stands.apart;
      rising = sift_rise (IsTouched passes old.held) 0 0 old.held new.held s (omega arith) o.stands.rising;
      given = λ r h.
          let early : r.stamp ≤ old.last = o.stands.given r (sift_only (IsTouched passes old.held) old.held new.held s r h).0 in
          omega (arith, early, last);
    };
    asks = asks_before passes In old.held o.stands.apart o.asks once told new.held s;
  };
}

pub retained : Retention
retained changed old new o once s last =
    sifted (kept.HasChanged changed) (HasChanged changed) old new o once
    (λ r h. (
      λ c. record { key = c.key; among = key_in r.sources c.key c.among; is = c.tells },
      λ c. record { key = c.key; among = key_out r.sources c.key c.among; tells = c.is },
    ))
    s last
