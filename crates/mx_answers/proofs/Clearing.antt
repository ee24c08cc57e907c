-- What a clearing keeps is right, and sifting by its scope keeps exactly that.
use Rattle.std.proofs.Common.{◌≡◌, true, false, List, inl, inr, refl, sym, ◌∙◌, subst}
use Rattle.mx_value.specs.declared.node.Node.{Node}
use Rattle.mx_edit.specs.Entry.{Entry}
use Rattle.mx_runs.specs.Lists.{Has}
use Rattle.mx_runs.specs.Runs.{Model}
use Rattle.mx_runs.specs.Inputs.{is_input, InputsEnd}
use Rattle.mx_runs.specs.Chains.{DoesAsk, Reaches, Itself, Through}
use Rattle.mx_runs.proofs.Inputs.{input_reaches}
use Rattle.mx_answers.specs.Held.{nodes_of, IsKnown, IsRight}
use Rattle.mx_answers.specs.Records.{IsRightMemo}
use Rattle.mx_answers.specs.Retention.{IsInScope, IsOutside, Clears, IsTouched, Here, ByAsk, Sifts}
use Rattle.mx_answers.specs.Laws.{ClearedIsRight, IsCleared, SiftedByScope, SiftedByTest}
use Rattle.mx_answers.proofs.Held.{entry_of, named}
use Rattle.mx_answers.proofs.Records.{asked_recorded, recorded_ask}
use Rattle.mx_answers.proofs.Sifting.{asks_held, sift_only, sift_whole, sift_once, sift_memo, fewer_room}

-- a held node of these that a node reaches
record ReachesIn (model : Model) (In : Entry → Type 0) (held : List Entry) (n : Node) : Type 0 where
  entry : Entry
  among : Has held entry
  is : In entry
  reaches : Reaches model n entry.node

module _ (model : Model) (In : Entry → Type 0) (held : List Entry) where
  module _ (kept : List Entry) (right : IsRight model held) (c : Clears model In held kept) where
    cleared_named : (x : Node) → Has (nodes_of kept) x → Has (nodes_of held) x
    cleared_named x h = let f = entry_of kept x h in subst (λ y. Has (nodes_of held) y) f.is (named held f.item (c.only f.item f.among).0)

    cleared_closed : (n m : Node) → Has (nodes_of kept) n → DoesAsk model n m → IsKnown model (nodes_of kept) m
    cleared_closed n m h a =
        let f = entry_of kept n h in
        let out : IsOutside model In held n = subst (λ x. IsOutside model In held x) f.is (c.only f.item f.among).1 in
        elim (right.closed n m (cleared_named n h) a) [
          | inl i ↦
              let d = entry_of held m i in
              let on : IsOutside model In held m = λ e k w r. out e k w (Through m a r) in
              inl (subst (λ x. Has (nodes_of kept) x) d.is (named kept d.item (c.whole d.item d.among (subst (λ x. IsOutside model In held x) (sym d.is) on))))
          | inr i ↦ inr i
        ]

    pub cleared : IsRight model kept
    cleared = record {
      means = λ e h. right.means e (c.only e h).0;
      own = λ n h. right.own n (cleared_named n h);
      once = c.once;
      closed = cleared_closed;
      room = fewer_room held kept c.once cleared_named right.room;
    }

  module _ (ends : InputsEnd model) (memo : IsRightMemo model held) where
    touched_reaches : (n : Node) → IsTouched In held n → ReachesIn model In held n
    touched_reaches n (Here e h i) = record { entry = e; among = h; is = i; reaches = Itself }
    touched_reaches n (ByAsk e h m a t) =
        let r = touched_reaches m t in
        record { entry = r.entry; among = r.among; is = r.is; reaches = Through m (recorded_ask model e (memo.records e h) m a).0 r.reaches }

    -- what reaches a held node of these is touched, by way of what is held
    reaching_touched : (n m : Node) → Reaches model n m → (e : Entry) → Has held e → e.node ≡ n → (d : Entry) → Has held d → d.node ≡ m → In d → IsTouched In held n
    reaching_touched n m Itself e h i d k j w = subst (λ x. IsTouched In held x) j (Here d k w)
    reaching_touched n m (Through x a q) e h i d k j w =
        let b : DoesAsk model e.node x = subst (λ y. DoesAsk model y x) (sym i) a in
        elim (asked_recorded model e (memo.records e h) x b) [
          | inl put ↦
              let s : x ≡ d.node = input_reaches model x ends put m q ∙ sym j in
              let o : is_input model d.node ≡ true = subst (λ y. is_input model y ≡ true) s put in
              let p : is_input model d.node ≡ false = memo.right.own d.node (named held d k) in
              absurd (let z : true ≡ false = sym o ∙ p in cc)
          | inr r ↦
              let f = entry_of held x (asks_held held memo.order e h x r) in
              subst (λ y. IsTouched In held y) i (ByAsk e h x r (reaching_touched x m q f.item f.among f.is d k j w))
        ]

    pub sifted : (kept : List Entry) → Sifts (IsTouched In held) held kept → IsCleared model In held kept
    sifted kept s =
        let still : (e : Entry) → Has kept e → Has held e × IsOutside model In held e.node
        = λ e h. let q = sift_only (IsTouched In held) held kept s e h in (q.0, λ d k w r. q.1 (reaching_touched e.node d.node r e q.0 refl d k refl w)) in
        record {
          memo = sift_memo model model In held kept memo s (λ e h. memo.records e (still e h).0) (λ e h. memo.right.own e.node (named held e (still e h).0));
          clears = record {
            once = sift_once (IsTouched In held) held kept s memo.right.once;
            only = still;
            whole = λ e h o. sift_whole (IsTouched In held) held kept s e h (λ t. let r = touched_reaches e.node t in o r.entry r.among r.is r.reaches);
          };
        }

pub cleared_is_right : ClearedIsRight
cleared_is_right model scope held kept right c = cleared model (IsInScope scope) held kept right c

pub sifted_by_scope : SiftedByScope
sifted_by_scope model scope held kept ends memo s = sifted model (IsInScope scope) held ends memo kept s

pub sifted_by_test : SiftedByTest
sifted_by_test model is_in held kept ends memo s = sifted model (λ e. is_in e ≡ true) held ends memo kept s
