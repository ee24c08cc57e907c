-- What an edit keeps is right for it, and sifting by changed keys keeps exactly that.
use Rattle.std.proofs.Common.{◌≡◌, Bool, true, false, ◌&&◌, List, [], ◌⊎◌, inl, inr, refl, sym, ◌∙◌, ap, subst}
use Rattle.mx_value.specs.declared.node.Node.{Node}
use Rattle.mx_value.specs.declared.node.Node.TheVariants.{Cell, Item}
use Rattle.mx_edit.specs.Entry.{Entry}
use Rattle.mx_edit.specs.declared.key.Key.{Key}
use Rattle.mx_edit.specs.declared.key.Key.TheVariants.{Input}
use Rattle.mx_edit.specs.declared.key.KeyResult.{KeyResult}
use Rattle.mx_runs.specs.Lists.{Has, FirstEach}
use Rattle.mx_runs.specs.Runs.{Model, Ends, Asks, Gives}
use Rattle.mx_runs.specs.Inputs.{is_input, is_static, is_value, InputsEnd}
use Rattle.mx_runs.specs.Meaning.{Leads}
use Rattle.mx_runs.specs.Chains.{asks_of, DoesAsk, Reaches, Itself, Through}
use Rattle.mx_runs.specs.Support.{with_look, LooksUp, KeySupports, IsUnchanged, HasSameKeys, TestsAreCovered}
use Rattle.mx_runs.specs.Laws.{Agrees}
use Rattle.mx_runs.proofs.Events.{asked_is_ask}
use Rattle.mx_runs.proofs.Agreement.{agree_leads, keys_unchanged, key_agreement}
use Rattle.mx_runs.proofs.Inputs.{input_reaches, its_key, looks_input_up}
use Rattle.mx_answers.specs.Held.{nodes_of, IsKnown, IsRight}
use Rattle.mx_answers.specs.Records.{IsRecordOf, IsRightMemo}
use Rattle.mx_answers.specs.Retention.{Retains, HasChanged, IsTouched, Here, ByAsk}
use Rattle.mx_answers.specs.Laws.{RecordStays, RetainedIsRight, SiftedByKeys}
use Rattle.mx_answers.proofs.Held.{entry_of, named, input_or_not}
use Rattle.mx_answers.proofs.Records.{record_means, same_keys, same_asks, looked_recorded, input_recorded, asked_recorded, recorded_ask, recorded_key}
use Rattle.mx_answers.proofs.Sifting.{asks_held, sift_only, sift_whole, sift_once, sift_memo, fewer_room}

input_by_look : (model : Model) (other : Key → KeyResult) (n : Node) → other (Input n) ≡ model.look (Input n) → is_input (with_look model other) n ≡ is_input model n
input_by_look model other (Cell at name arguments) e = ap (λ (r : KeyResult). is_static at && is_value r) e
input_by_look model other (Item at arguments) e = refl

module _ (model : Model) (other : Key → KeyResult) (ends : InputsEnd model) (others : InputsEnd (with_look model other)) where
  -- whichever of the models it is an input of, its run looks its input up
  looks_own_up : (n : Node) → (is_input model n ≡ true) ⊎ (is_input (with_look model other) n ≡ true) → LooksUp model n (Input n)
  looks_own_up n i =
      elim i [
        | inl a ↦ looks_input_up model n ends a
        | inr b ↦ let e = others n b in record { events = []; go = e.go; leads = e.starts }
      ]

  input_by_keys : (n : Node) → HasSameKeys model other n → (is_input model n ≡ true) ⊎ (is_input (with_look model other) n ≡ true) → is_input (with_look model other) n ≡ is_input model n
  input_by_keys n h i = input_by_look model other n (h (Input n) (record { by = n; reaches = Itself; looks = looks_own_up n i }))

  -- a node whose keys lead to the same is an input in both models or in none
  same_input : (n : Node) → HasSameKeys model other n → is_input (with_look model other) n ≡ is_input model n
  same_input n h =
      elim (input_or_not model n) [
        | inl a ↦ input_by_keys n h (inl a)
        | inr a ↦ elim (input_or_not (with_look model other) n) [ inl b ↦ input_by_keys n h (inr b) | inr b ↦ b ∙ sym a ]
      ]

  same_keys_ask : (n m : Node) → HasSameKeys model other n → DoesAsk model n m → HasSameKeys model other m
  same_keys_ask n m h a k s = h k (record { by = s.by; reaches = Through m a s.reaches; looks = s.looks })

  -- a record of a node whose keys lead to the same is one after the edit
  record_retained : TestsAreCovered model → (e : Entry) → HasSameKeys model other e.node → IsRecordOf model e → IsRecordOf (with_look model other) e
  record_retained covered e h r =
      let u : IsUnchanged model other e.node = keys_unchanged model other e.node e.reply covered (record_means model e r) h in
      let i : (x : Node) → Has (asks_of r.events) x → is_input (with_look model other) x ≡ is_input model x
      = λ x k. same_input x (same_keys_ask e.node x h (asked_is_ask model e.node (Ends (Gives e.reply)) r.events r.leads x k)) in
      record {
        events = r.events;
        leads = agree_leads model other e.node (Ends (Gives e.reply)) r.events u r.leads;
        keys = subst (λ ks. FirstEach [] ks e.keys) (sym (same_keys model (with_look model other) r.events i)) r.keys;
        asks = subst (λ ms. FirstEach [] ms e.asks) (sym (same_asks model (with_look model other) r.events i)) r.asks;
        reads = r.reads;
      }

  module _ (covered : TestsAreCovered model) (held kept : List Entry) (right : IsRight model held) (t : Retains model other held kept) where
    retained_agrees : (e : Entry) → Has kept e → Agrees model other e.node e.reply
    retained_agrees e h = let q = t.only e h in key_agreement model other e.node e.reply covered (right.means e q.0) q.1

    retained_named : (x : Node) → Has (nodes_of kept) x → Has (nodes_of held) x
    retained_named x h = let f = entry_of kept x h in subst (λ y. Has (nodes_of held) y) f.is (named held f.item (t.only f.item f.among).0)

    retained_own : (n : Node) → Has (nodes_of kept) n → is_input (with_look model other) n ≡ false
    retained_own n h =
        let f = entry_of kept n h in
        let same : HasSameKeys model other n = subst (λ x. HasSameKeys model other x) f.is (t.only f.item f.among).1 in
        same_input n same ∙ right.own n (retained_named n h)

    retained_closed : (n m : Node) → Has (nodes_of kept) n → DoesAsk (with_look model other) n m → IsKnown (with_look model other) (nodes_of kept) m
    retained_closed n m h a =
        let f = entry_of kept n h in
        let same : HasSameKeys model other n = subst (λ x. HasSameKeys model other x) f.is (t.only f.item f.among).1 in
        let g = retained_agrees f.item f.among in
        let l : Leads (with_look model other) (model.body f.item.node) a.events (Asks m a.go) = subst (λ x. Leads (with_look model other) (model.body x) a.events (Asks m a.go)) (sym f.is) a.leads in
        let b : DoesAsk model n m = subst (λ x. DoesAsk model x m) f.is (record { events = a.events; go = a.go; leads = g.back (Asks m a.go) a.events l }) in
        let next : HasSameKeys model other m = same_keys_ask n m same b in
        elim (right.closed n m (retained_named n h) b) [
          | inl i ↦
              let d = entry_of held m i in
              inl (subst (λ x. Has (nodes_of kept) x) d.is (named kept d.item (t.whole d.item d.among (subst (λ x. HasSameKeys model other x) (sym d.is) next))))
          | inr i ↦ inr (same_input m next ∙ i)
        ]

    pub retained : IsRight (with_look model other) kept
    retained = record {
      means = λ e h. (retained_agrees e h).means;
      own = retained_own;
      once = t.once;
      closed = retained_closed;
      room = fewer_room held kept t.once retained_named right.room;
    }

pub record_stays : RecordStays
record_stays model other e ends others covered r h = record_retained model other ends others covered e h r

pub retained_is_right : RetainedIsRight
retained_is_right model other held kept ends others covered right t = retained model other ends others covered held kept right t

-- a changed key that the node rests on
record RestsOnChanged (model : Model) (changed : Key → Bool) (n : Node) : Type 0 where
  key : Key
  supports : KeySupports model key n
  is : changed key ≡ true

module _ (model : Model) (ends : InputsEnd model) (changed : Key → Bool) (held : List Entry) (memo : IsRightMemo model held) where
  touched_rests : (n : Node) → IsTouched (HasChanged changed) held n → RestsOnChanged model changed n
  touched_rests n (Here e h c) = record { key = c.key; supports = recorded_key model e (memo.records e h) ends c.key c.among; is = c.is }
  touched_rests n (ByAsk e h m a t) =
      let more = touched_rests m t in
      let ask : DoesAsk model e.node m = (recorded_ask model e (memo.records e h) m a).0 in
      record { key = more.key; supports = record { by = more.supports.by; reaches = Through m ask more.supports.reaches; looks = more.supports.looks }; is = more.is }

  unchanged_key : (e : Entry) → Has held e → (IsTouched (HasChanged changed) held e.node → ⊥) → (k : Key) → Has e.keys k → changed k ≡ false
  unchanged_key e h n k a =
      elim (changed k) as (λ b. changed k ≡ b → b ≡ false) [
        | true ↦ λ i. absurd (n (Here e h (record { key = k; among = a; is = i })))
        | false ↦ λ i. refl
      ] refl

  untouched_reached : (n m : Node) → Reaches model n m → (e : Entry) → Has held e → e.node ≡ n → (IsTouched (HasChanged changed) held e.node → ⊥) → (k : Key) → LooksUp model m k → changed k ≡ false
  untouched_reached n m Itself e h i u k l = unchanged_key e h u k (looked_recorded model e (memo.records e h) k (subst (λ y. LooksUp model y k) (sym i) l))
  untouched_reached n m (Through x a q) e h i u k l =
      let b : DoesAsk model e.node x = subst (λ y. DoesAsk model y x) (sym i) a in
      elim (asked_recorded model e (memo.records e h) x b) [
        | inl put ↦
            let s : x ≡ m = input_reaches model x ends put m q in
            let w : k ≡ Input x = its_key model x ends put k (subst (λ y. LooksUp model y k) (sym s) l) in
            unchanged_key e h u k (subst (λ y. Has e.keys y) (sym w) (input_recorded model e (memo.records e h) x b put))
        | inr r ↦
            let f = entry_of held x (asks_held held memo.order e h x r) in
            untouched_reached x m q f.item f.among f.is (λ t. u (ByAsk e h x r (subst (λ y. IsTouched (HasChanged changed) held y) f.is t))) k l
      ]

pub sifted_by_keys : SiftedByKeys
sifted_by_keys model other changed held kept ends others covered tells m s =
    let Out : Node → Type 0 = IsTouched (HasChanged changed) held in
    let still : (e : Entry) → Has kept e → Has held e × HasSameKeys model other e.node
    = λ e h. let q = sift_only Out held kept s e h in (q.0, λ k p. tells.same k (untouched_reached model ends changed held m e.node p.by p.reaches e q.0 refl q.1 k p.looks)) in
    let records : (e : Entry) → Has kept e → IsRecordOf (with_look model other) e
    = λ e h. let q = still e h in record_retained model other ends others covered e q.1 (m.records e q.0) in
    let own : (e : Entry) → Has kept e → is_input (with_look model other) e.node ≡ false
    = λ e h. let q = still e h in same_input model other ends others e.node q.1 ∙ m.right.own e.node (named held e q.0) in
    record {
      memo = sift_memo model (with_look model other) (HasChanged changed) held kept m s records own;
      retains = record {
        once = sift_once Out held kept s m.right.once;
        only = still;
        whole = λ e h u. sift_whole Out held kept s e h (λ t. let r = touched_rests model ends changed held m e.node t in tells.differs r.key r.is (u r.key r.supports));
      };
    }
