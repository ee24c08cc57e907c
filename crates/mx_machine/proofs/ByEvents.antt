-- A run that goes by events whose answers are held goes past what is known, and what is recorded of it grows by them.
use Rattle.std.proofs.Common.{◌≡◌, false, List, [], ◌∷◌, ◌++◌, ◌⊎◌, inl, inr, refl, sym, ◌∙◌, ap, subst}
use Rattle.std.proofs.lemmas.List.{append-nil, append_assoc}
use Rattle.mx_value.specs.declared.node.Node.{Node}
use Rattle.mx_value.specs.declared.read.Read.{Read}
use Rattle.mx_value.specs.declared.read.Read.TheVariants as read
use Rattle.mx_value.specs.Equality.{node_eq, read_eq}
use Rattle.mx_value.proofs.NodeSames.{node_decides, read_decides}
use Rattle.mx_edit.specs.Entry.{Entry}
use Rattle.mx_edit.specs.Equality.{key_eq}
use Rattle.mx_edit.specs.declared.key.Key.{Key}
use Rattle.mx_edit.specs.declared.reply.Reply.{Reply}
use Rattle.mx_edit.proofs.Keys.{key_decides}
use Rattle.mx_runs.specs.Lists.{Has, EachOnce}
use Rattle.mx_runs.specs.Runs.{Model, Run, Ends, Looks, Tests, Asks, Notes, Event, Looked, Tested, Asked, Noted}
use Rattle.mx_runs.specs.Inputs.{is_input}
use Rattle.mx_runs.specs.Meaning.{Leads}
use Rattle.mx_runs.proofs.Lists.{each_again, each_new, each_is_one, each_of, has_map, is_among}
use Rattle.mx_answers.specs.Held.{nodes_of, IsRight}
use Rattle.mx_answers.specs.Records.{recorded_keys, recorded_asks, reads_of}
use Rattle.mx_suspended.specs.Recorded.{Recorded, Adds, GoesPast, Stays, PastLook, PastTest, PastNote, PastHeld}
use Rattle.mx_suspended.proofs.Growing.{keys_grow, asks_grow, reads_grow, other_no_key, other_ask_alone}
use Rattle.mx_binding.specs.Walking.{IsAnswered, AreAnswered}

-- ---- each once

adds_next : {X : Type 0} (ws xs ys : List X) (x : X) → Has xs x ⊎ (Has xs x → ⊥) → EachOnce ws xs → EachOnce (ws ++ x ∷ []) ys → Adds xs x ys
adds_next ws xs ys x h e f = elim h [
  | inl i ↦ inl (i, each_is_one [] (ws ++ x ∷ []) ys xs f (each_again [] ws xs x e (inr i)))
  | inr n ↦ inr (n, each_is_one [] (ws ++ x ∷ []) ys (xs ++ x ∷ []) f (each_new [] ws xs x e (λ z. z) n))
]

-- no more is there
same_each : {X : Type 0} (ws vs more xs : List X) → vs ≡ ws ++ more → more ≡ [] → EachOnce ws xs → EachOnce vs xs
same_each ws vs more xs e n o = subst (λ zs. EachOnce zs xs) (sym (e ∙ ap (λ zs. ws ++ zs) n ∙ append-nil ws)) o

-- one more is there
next_each : {X : Type 0} (ws vs more xs : List X) (x : X) → vs ≡ ws ++ more → more ≡ x ∷ [] → EachOnce (ws ++ x ∷ []) xs → EachOnce vs xs
next_each ws vs more xs x e n o = subst (λ zs. EachOnce zs xs) (sym (e ∙ ap (λ zs. ws ++ zs) n)) o

each_key : (ks : List Key) → (xs : List Key) × EachOnce ks xs
each_key ks = each_of key_eq (λ a b. (key_decides a b)) [] ks

each_node : (ns : List Node) → (xs : List Node) × EachOnce ns xs
each_node ns = each_of node_eq node_decides [] ns

each_read : (rs : List Read) → (xs : List Read) × EachOnce rs xs
each_read rs = each_of read_eq (λ a b. (read_decides a b)) [] rs

-- ---- by events

module _ (model : Model) where
  -- exactly so much is recorded of these events
  pub record IsRecorded (es : List Event) (r : Recorded) : Type 0 where
    pub keys : EachOnce (recorded_keys model es) r.keys
    pub asks : EachOnce (recorded_asks model es) r.asks
    pub reads : EachOnce (reads_of es) r.reads

  -- only one thing is recorded of them
  pub one_recorded : (es : List Event) (a b : Recorded) → IsRecorded es a → IsRecorded es b → a ≡ b
  one_recorded es a b x y =
      let k : a.keys ≡ b.keys = each_is_one [] (recorded_keys model es) a.keys b.keys x.keys y.keys in
      let n : a.asks ≡ b.asks = each_is_one [] (recorded_asks model es) a.asks b.asks x.asks y.asks in
      let r : a.reads ≡ b.reads = each_is_one [] (reads_of es) a.reads b.reads x.reads y.reads in
      ap (λ ks. record { keys = ks; asks = a.asks; reads = a.reads }) k ∙ ap (λ ns. record { keys = b.keys; asks = ns; reads = a.reads }) n ∙ ap (λ rs. record { keys = b.keys; asks = b.asks; reads = rs }) r

  module _ (held : List Entry) (right : IsRight model held) where
    no_input : (m : Node) (r : Reply) → IsAnswered held m r → is_input model m ≡ false
    no_input m r a = right.own m (subst (λ (x : Node). Has (nodes_of held) x) a.node_is (has_map (λ (e : Entry). e.node) held a.entry a.among))

    -- the events behind others
    behind_these : (done es : List Event) (e : Event) (last : Recorded) → IsRecorded (done ++ e ∷ es) last → IsRecorded ((done ++ e ∷ []) ++ es) last
    behind_these done es e last p = subst (λ zs. IsRecorded zs last) (sym (append_assoc done (e ∷ []) es)) p

    pub past_by : (es done : List Event) (run rest : Run) (so_far last : Recorded) → Leads model run es rest → AreAnswered held es → IsRecorded done so_far → IsRecorded (done ++ es) last → GoesPast model held run so_far rest last
    past_by [] done run rest so_far last l a o p =
        let same : so_far ≡ last = one_recorded done so_far last o (subst (λ zs. IsRecorded zs last) (append-nil done) p) in
        subst (λ (x : Recorded). GoesPast model held run so_far rest x) same (subst (λ (x : Run). GoesPast model held run so_far x so_far) l (Stays run so_far))
    past_by (Looked k ∷ es) done (Looks key go) rest so_far last l a o p =
        let q = each_key (recorded_keys model done ++ k ∷ []) in
        let mid : Recorded = record so_far { keys = q.0 } in
        let once : IsRecorded (done ++ Looked k ∷ []) mid = record {
          keys = next_each (recorded_keys model done) _ _ q.0 k (keys_grow model done (Looked k ∷ [])) refl q.1;
          asks = same_each (recorded_asks model done) _ _ so_far.asks (asks_grow model done (Looked k ∷ [])) refl o.asks;
          reads = same_each (reads_of done) _ _ so_far.reads (reads_grow done (Looked k ∷ [])) refl o.reads;
        } in
        let adds : Adds so_far.keys k q.0 = adds_next (recorded_keys model done) so_far.keys q.0 k (is_among key_eq (λ a b. (key_decides a b)) k so_far.keys) o.keys q.1 in
        PastLook key go rest so_far last q.0 (subst (λ (x : Key). Adds so_far.keys x q.0) l.0 adds)
        (past_by es (done ++ Looked k ∷ []) (go (model.look key)) rest mid last l.1 a once (behind_these done es (Looked k) last p))
    past_by (Tested k ∷ es) done (Tests key go) rest so_far last l a o p =
        let once : IsRecorded (done ++ Tested k ∷ []) so_far = record {
          keys = same_each (recorded_keys model done) _ _ so_far.keys (keys_grow model done (Tested k ∷ [])) refl o.keys;
          asks = same_each (recorded_asks model done) _ _ so_far.asks (asks_grow model done (Tested k ∷ [])) refl o.asks;
          reads = same_each (reads_of done) _ _ so_far.reads (reads_grow done (Tested k ∷ [])) refl o.reads;
        } in
        PastTest key go rest so_far last (past_by es (done ++ Tested k ∷ []) (go (model.look key)) rest so_far last l.1 a once (behind_these done es (Tested k) last p))
    past_by (Noted x ∷ es) done (Notes r run) rest so_far last l a o p =
        let q = each_read (reads_of done ++ x ∷ []) in
        let mid : Recorded = record so_far { reads = q.0 } in
        let once : IsRecorded (done ++ Noted x ∷ []) mid = record {
          keys = same_each (recorded_keys model done) _ _ so_far.keys (keys_grow model done (Noted x ∷ [])) refl o.keys;
          asks = same_each (recorded_asks model done) _ _ so_far.asks (asks_grow model done (Noted x ∷ [])) refl o.asks;
          reads = next_each (reads_of done) _ _ q.0 x (reads_grow done (Noted x ∷ [])) refl q.1;
        } in
        let adds : Adds so_far.reads x q.0 = adds_next (reads_of done) so_far.reads q.0 x (is_among read_eq (λ a b. (read_decides a b)) x so_far.reads) o.reads q.1 in
        PastNote r run rest so_far last q.0 (subst (λ (y : Read). Adds so_far.reads y q.0) l.0 adds)
        (past_by es (done ++ Noted x ∷ []) run rest mid last l.1 a once (behind_these done es (Noted x) last p))
    past_by (Asked x v ∷ es) done (Asks m go) rest so_far last l a o p =
        let answered : IsAnswered held x v = a.0 in
        let own : is_input model x ≡ false = no_input x v answered in
        let q = each_node (recorded_asks model done ++ x ∷ []) in
        let q2 = each_read (reads_of done ++ read.Node x ∷ []) in
        let mid : Recorded = record so_far { asks = q.0; reads = q2.0 } in
        let once : IsRecorded (done ++ Asked x v ∷ []) mid = record {
          keys = same_each (recorded_keys model done) _ _ so_far.keys (keys_grow model done (Asked x v ∷ [])) (other_no_key model x v own) o.keys;
          asks = next_each (recorded_asks model done) _ _ q.0 x (asks_grow model done (Asked x v ∷ [])) (other_ask_alone model x v own) q.1;
          reads = next_each (reads_of done) _ _ q2.0 (read.Node x) (reads_grow done (Asked x v ∷ [])) refl q2.1;
        } in
        let asks : Adds so_far.asks x q.0 = adds_next (recorded_asks model done) so_far.asks q.0 x (is_among node_eq node_decides x so_far.asks) o.asks q.1 in
        let reads : Adds so_far.reads (read.Node x) q2.0 = adds_next (reads_of done) so_far.reads q2.0 (read.Node x) (is_among read_eq (λ a b. (read_decides a b)) (read.Node x) so_far.reads) o.reads q2.1 in
        let e : Entry = answered.entry in
        let on : GoesPast model held (go e.reply) mid rest last =
        subst (λ (r : Reply). GoesPast model held (go r) mid rest last) (sym answered.reply_is)
        (past_by es (done ++ Asked x v ∷ []) (go v) rest mid last l.2 a.1 once (behind_these done es (Asked x v) last p)) in
        subst (λ (n : Node). GoesPast model held (Asks n go) so_far rest last) (answered.node_is ∙ l.0)
        (PastHeld e go rest so_far last q.0 q2.0 answered.among
        (subst (λ (n : Node). Adds so_far.asks n q.0) (sym answered.node_is) asks)
        (subst (λ (n : Node). Adds so_far.reads (read.Node n) q2.0) (sym answered.node_is) reads) on)
    past_by (e ∷ es) done run rest so_far last l a o p = absurd l
