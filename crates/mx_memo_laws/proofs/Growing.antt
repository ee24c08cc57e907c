-- What is held later stands behind what was held, and a roll-back takes it away.
use Rattle.std.proofs.Common.{◌≡◌, ◌∙◌, ℕ, ◌+◌, ◌<◌, ◌≤◌, List, [], ◌∷◌, ◌++◌, length, map, take, refl, sym, ap, subst, arith, append_assoc, ◌⊎◌, inl, inr}
use Rattle.std.proofs.lemmas.List.{append-nil, map-append, length-map}
use Rattle.std.proofs.Math.Seq.{take-append_seam}
use Rattle.mx_graph.specs.declared.ids.NodeId.{NodeId}
use Rattle.mx_edit.specs.declared.key.Key.{Key}
use Rattle.mx_vertices.specs.declared.slot.Body.{Body}
use Rattle.mx_vertices.specs.Held.{entry_with}
use Rattle.mx_vertices.specs.Kept.{Kept, asked, IsHeld}
use Rattle.mx_vertices.specs.Kept as kept
use Rattle.mx_vertices.specs.Reading.{asks_in, id_at}
use Rattle.mx_vertices.specs.Places as places
use Rattle.mx_memo.specs.Memos.{Memory, AreHeld}
use Rattle.mx_memo.specs.Restoring.{AreApart, AskBefore}
use Rattle.mx_memo.proofs.Restoring.{has_front, has_rest, restores}
use Rattle.mx_runs.specs.Lists.{Has}
use Rattle.mx_runs.proofs.Lists.{has_push_cases, From, has_map_from}
use Rattle.mx_memo_laws.specs.Entries.{nodes_under, entry_of, entries_of, entry_held}
use Rattle.mx_memo_laws.specs.Laws.{Holding, LastIsHeld, GrownFromItself, GrowsByHolding, HeldStays, HasGrownBy, EntriesStay, RollingBack}
use Rattle.mx_memo_laws.proofs.Members.{among, placed, map_same, ask_in, keys_held, asks_held}
use Rattle.mx_memo_laws.proofs.Nodes.{under_front, entry_same, asks_are_held, order_is_of_held}

-- the first entries are those that were held
entries_front : (held more : List Kept) → AskBefore [] held → entries_of (held ++ more) ≡ entries_of held ++ map (entry_of (held ++ more)) more
entries_front held more order =
    map-append (entry_of (held ++ more)) held more
    ∙ ap (λ es. es ++ map (entry_of (held ++ more)) more)
    (map_same (entry_of (held ++ more)) (entry_of held) held
    (λ r h. entry_same (held ++ more) held r (λ m k. under_front held more m (asks_are_held held order r (placed held r h) m k))))

-- what asks none but what stands there may stand behind
order_push : (before : List ℕ) (held : List Kept) (k : Kept) → AskBefore before held → ((m : ℕ) → places.Has k.sources (asked m) → places.Has before m ⊎ IsHeld held m) → AskBefore before (held ++ k ∷ [])
order_push before [] k a h = (λ m i. elim (h m i) [ inl b ↦ b | inr s ↦ absurd s.among ], tt)
order_push before (x ∷ held) k a h = (
  a.0,
  order_push (x.id ∷ before) held k a.1
      (λ m i. elim (h m i) [
        | inl b ↦ inl (inr b)
        | inr s ↦ elim s.among [
          | inl e ↦ inl (inl (ap (λ (r : Kept). r.id) e ∙ s.is))
          | inr j ↦ inr (record { entry = s.entry; among = j; is = s.is })
        ]
      ]),
)

module _ (old new : Memory) (id : ℕ) (body : Body) (keys : List Key) (asks : List NodeId) (held : AreHeld old.held asks) where
  abbrev last : Kept
  last = entry_with (old.last + 1) id body keys asks

  asks_held_under : (m : ℕ) → Has (map id_at asks) m → IsHeld old.held m
  asks_held_under m h =
      let f : From id_at asks m = has_map_from id_at asks m h in
      let s : IsHeld old.held f.item.at = held f.item (placed asks f.item f.among) in
      record { entry = s.entry; among = s.among; is = s.is ∙ f.is }

  last_asks : (m : ℕ) → places.Has last.sources (asked m) → IsHeld old.held m
  last_asks m h = asks_held_under m (subst (λ is. Has is m) (asks_held body.node keys asks) (ask_in last.sources m h))

  last_entry : entry_of (old.held ++ last ∷ []) last ≡ entry_held old.held body keys asks
  last_entry =
      ap (λ ks. record { node = body.node; reply = body.reply; keys = ks; asks = nodes_under (old.held ++ last ∷ []) (asks_in last.sources); reads = body.reads }) (keys_held body.node keys asks)
      ∙ ap (λ ns. record { node = body.node; reply = body.reply; keys = (entry_held old.held body keys asks).keys; asks = ns; reads = body.reads })
      (ap (λ is. nodes_under (old.held ++ last ∷ []) is) (asks_held body.node keys asks)
      ∙ map_same _ _ (map id_at asks) (λ m i. under_front old.held (last ∷ []) m (asks_held_under m i)))

pub holding : Holding
holding old new id body keys asks o held after is =
    let now : new.held ≡ old.held ++ entry_with (old.last + 1) id body keys asks ∷ [] = ap (λ (m : Memory). m.held) is in
    let k = entry_with (old.last + 1) id body keys asks in
    record {
      entries = ap (λ rs. entries_of rs) now
          ∙ entries_front old.held (k ∷ []) o.asks
          ∙ ap (λ e. entries_of old.held ++ e ∷ []) (last_entry old new id body keys asks held);
      ordered = record {
        stands = after;
        asks = subst (λ rs. AskBefore [] rs) (sym now) (order_push [] old.held k o.asks (λ m i. inr (last_asks old new id body keys asks held m i)));
      };
    }

pub last_is_held : LastIsHeld
last_is_held old new id body keys asks is =
    let k = entry_with (old.last + 1) id body keys asks in
    record {
      entry = k;
      among = subst (λ rs. places.Has rs k) (sym (ap (λ (m : Memory). m.held) is)) (has_rest old.held (k ∷ []) k (inl refl));
      id_is = refl;
      node_is = refl;
    }

pub grown_from_itself : GrownFromItself
grown_from_itself m = record { more = []; is = sym (append-nil m.held); later = λ r h. absurd h; given = omega arith }

pub grows_by_holding : GrowsByHolding
grows_by_holding start old new id body keys asks g is =
    let k = entry_with (old.last + 1) id body keys asks in
    let given : start.last ≤ old.last = g.given in
    let last : new.last ≡ old.last + 1 = ap (λ (m : Memory). m.last) is in
    record {
      more = g.more ++ k ∷ [];
      is = ap (λ (m : Memory). m.held) is ∙ ap (λ rs. rs ++ k ∷ []) g.is ∙ append_assoc start.held g.more (k ∷ []);
      later = λ r h.
          elim (has_push_cases g.more k r (among (g.more ++ k ∷ []) r h)) [
            | inl i ↦ g.later r (placed g.more r i)
            | inr e ↦ let stamp : old.last + 1 ≡ r.stamp = ap (λ (x : Kept). x.stamp) e in omega (arith, stamp, given)
          ];
      given = omega (arith, given, last);
    }

pub held_stays : HeldStays
held_stays start m id n g h = record {
  entry = h.entry;
  among = subst (λ rs. places.Has rs h.entry) (sym g.is) (has_front start.held g.more h.entry h.among);
  id_is = h.id_is;
  node_is = h.node_is;
}

pub entries_stay : EntriesStay
entries_stay start m o g = record {
  more = map (entry_of (start.held ++ g.more)) g.more;
  is = ap (λ rs. entries_of rs) g.is ∙ entries_front start.held g.more o.asks;
}

pub rolling_back : RollingBack
rolling_back start old new os oo g s last =
    let sifts : kept.Sifts (kept.IsTouched (λ r. start.last < r.stamp) (start.held ++ g.more)) (start.held ++ g.more) new.held
    = subst (λ rs. kept.Sifts (kept.IsTouched (λ r. start.last < r.stamp) rs) rs new.held) g.is s in
    let same : new.held ≡ start.held
    = restores start.last start.held g.more new.held os.stands.given g.later (subst (λ rs. AreApart rs) g.is oo.stands.apart) (subst (λ rs. AskBefore [] rs) g.is oo.asks) sifts in
    let more : HasGrownBy start old = entries_stay start old os g in
    let many : length (entries_of start.held) ≡ length start.held = length-map start.held (entry_of start.held) in
    let given : start.last ≤ old.last = g.given in
    record {
      same = same;
      first = ap (λ rs. entries_of rs) same
          ∙ sym (ap (λ n. take n (entries_of old.held)) (sym many)
          ∙ ap (λ es. take (length (entries_of start.held)) es) more.is
          ∙ take-append_seam (entries_of start.held) more.more);
      ordered = order_is_of_held start new os same (omega (arith, given, last));
    }
