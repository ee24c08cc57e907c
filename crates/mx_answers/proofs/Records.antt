-- What a record says of the run of its node.
use Rattle.std.proofs.Common.{None, ◌≡◌, true, false, if◌then◌else◌, List, [], ◌∷◌, ◌++◌, ◌⊎◌, inl, inr, refl, sym, ◌∙◌, ap, subst}
use Rattle.std.proofs.lemmas.List.{append-nil}
use Rattle.mx_value.specs.declared.node.Node.{Node}
use Rattle.mx_value.specs.declared.read.Read.{Read}
use Rattle.mx_value.specs.Equality.{node_eq, read_eq}
use Rattle.mx_value.proofs.NodeSames.{node_decides, read_decides}
use Rattle.mx_edit.specs.Equality.{key_eq}
use Rattle.mx_edit.proofs.Keys.{key_decides}
use Rattle.mx_edit.specs.Entry.{Entry}
use Rattle.mx_edit.specs.declared.key.Key.{Key}
use Rattle.mx_edit.specs.declared.key.Key.TheVariants.{Input}
use Rattle.mx_edit.specs.declared.reply.Reply.{Reply}
use Rattle.mx_runs.specs.Lists.{Has, FirstEach, Done, First}
use Rattle.mx_runs.specs.Runs.{Model, Run, Ends, Gives, Event, Looked, Tested, Asked, Noted}
use Rattle.mx_runs.specs.Inputs.{is_input, InputsEnd}
use Rattle.mx_runs.specs.Meaning.{Means, Leads}
use Rattle.mx_runs.specs.Chains.{asks_of, keys_of, DoesAsk, Itself, Through}
use Rattle.mx_runs.specs.Support.{LooksUp, KeySupports}
use Rattle.mx_runs.proofs.Lists.{each_is_among, each_has_all, each_is_one, each_of}
use Rattle.mx_runs.proofs.Levels.{ends_only}
use Rattle.mx_runs.proofs.Runs.{comparable, asked_by_end}
use Rattle.mx_runs.proofs.Events.{looked_is_look, asked_is_ask, looked_by_end}
use Rattle.mx_runs.proofs.Meanings.{finished, whole_at}
use Rattle.mx_runs.proofs.Inputs.{input_value, whole, looks_input_up}
use Rattle.mx_answers.specs.Records.{recorded_keys, recorded_asks, reads_of, IsRecordOf}
use Rattle.mx_answers.specs.Laws.{ValueIsRecorded, OneRecord, OneReads, InputReadsNone}
use Rattle.mx_answers.proofs.Held.{input_or_not}

-- an input was asked, and the key is its own
pub record IsOfInput (model : Model) (es : List Event) (k : Key) : Type 0 where
  pub node : Node
  pub among : Has (asks_of es) node
  pub input : is_input model node ≡ true
  pub is : Input node ≡ k

later : (model : Model) (m : Node) (v : Reply) (es : List Event) (k : Key) → Has (keys_of es) k ⊎ IsOfInput model es k → Has (keys_of es) k ⊎ IsOfInput model (Asked m v ∷ es) k
later model m v es k c = elim c [ inl a ↦ inl a | inr b ↦ inr (record { node = b.node; among = inr b.among; input = b.input; is = b.is }) ]

module _ (model : Model) where
  pub keys_cases : (es : List Event) (k : Key) → Has (recorded_keys model es) k → Has (keys_of es) k ⊎ IsOfInput model es k
  keys_cases [] k h = absurd h
  keys_cases (Looked x ∷ es) k h =
      elim h [
        | inl e ↦ inl (inl e)
        | inr r ↦ elim (keys_cases es k r) [ inl a ↦ inl (inr a) | inr b ↦ inr (record { node = b.node; among = b.among; input = b.input; is = b.is }) ]
      ]
  keys_cases (Tested x ∷ es) k h = elim (keys_cases es k h) [ inl a ↦ inl a | inr b ↦ inr (record { node = b.node; among = b.among; input = b.input; is = b.is }) ]
  keys_cases (Noted x ∷ es) k h = elim (keys_cases es k h) [ inl a ↦ inl a | inr b ↦ inr (record { node = b.node; among = b.among; input = b.input; is = b.is }) ]
  keys_cases (Asked m v ∷ es) k h =
      elim (is_input model m) as (λ b. is_input model m ≡ b → Has (if b then Input m ∷ recorded_keys model es else recorded_keys model es) k → Has (keys_of es) k ⊎ IsOfInput model (Asked m v ∷ es) k) [
        | true ↦ λ i g. elim g [ inl e ↦ inr (record { node = m; among = inl refl; input = i; is = e }) | inr r ↦ later model m v es k (keys_cases es k r) ]
        | false ↦ λ i g. later model m v es k (keys_cases es k g)
      ] refl h

  past_ask : (m : Node) (keys : List Key) (k : Key) → Has keys k → Has (if is_input model m then Input m ∷ keys else keys) k
  past_ask m keys k h = elim (is_input model m) as (λ b. Has (if b then Input m ∷ keys else keys) k) [ true ↦ inr h | false ↦ h ]

  pub own_key : (es : List Event) (k : Key) → Has (keys_of es) k → Has (recorded_keys model es) k
  own_key [] k h = h
  own_key (Looked x ∷ es) k h = elim h [ inl e ↦ inl e | inr r ↦ inr (own_key es k r) ]
  own_key (Tested x ∷ es) k h = own_key es k h
  own_key (Asked m v ∷ es) k h = past_ask m (recorded_keys model es) k (own_key es k h)
  own_key (Noted x ∷ es) k h = own_key es k h

  pub input_key : (es : List Event) (m : Node) → is_input model m ≡ true → Has (asks_of es) m → Has (recorded_keys model es) (Input m)
  input_key [] m i h = absurd h
  input_key (Looked x ∷ es) m i h = inr (input_key es m i h)
  input_key (Tested x ∷ es) m i h = input_key es m i h
  input_key (Noted x ∷ es) m i h = input_key es m i h
  input_key (Asked y v ∷ es) m i h =
      elim h [
        | inl e ↦
            let j : is_input model y ≡ true = subst (λ z. is_input model z ≡ true) (sym e) i in
            subst (λ b. Has (if b then Input y ∷ recorded_keys model es else recorded_keys model es) (Input m)) (sym j) (inl (ap Input e))
        | inr r ↦ past_ask y (recorded_keys model es) (Input m) (input_key es m i r)
      ]

  pub asks_cases : (es : List Event) (m : Node) → Has (recorded_asks model es) m → Has (asks_of es) m × (is_input model m ≡ false)
  asks_cases [] m h = absurd h
  asks_cases (Looked x ∷ es) m h = asks_cases es m h
  asks_cases (Tested x ∷ es) m h = asks_cases es m h
  asks_cases (Noted x ∷ es) m h = asks_cases es m h
  asks_cases (Asked y v ∷ es) m h =
      elim (is_input model y) as (λ b. is_input model y ≡ b → Has (if b then recorded_asks model es else y ∷ recorded_asks model es) m → Has (y ∷ asks_of es) m × (is_input model m ≡ false)) [
        | true ↦ λ i g. let q = asks_cases es m g in (inr q.0, q.1)
        | false ↦ λ i g. elim g [ inl e ↦ (inl e, subst (λ z. is_input model z ≡ false) e i) | inr r ↦ let q = asks_cases es m r in (inr q.0, q.1) ]
      ] refl h

  pub own_ask : (es : List Event) (m : Node) → is_input model m ≡ false → Has (asks_of es) m → Has (recorded_asks model es) m
  own_ask [] m i h = h
  own_ask (Looked x ∷ es) m i h = own_ask es m i h
  own_ask (Tested x ∷ es) m i h = own_ask es m i h
  own_ask (Noted x ∷ es) m i h = own_ask es m i h
  own_ask (Asked y v ∷ es) m i h =
      elim h [
        | inl e ↦
            let j : is_input model y ≡ false = subst (λ z. is_input model z ≡ false) (sym e) i in
            subst (λ b. Has (if b then recorded_asks model es else y ∷ recorded_asks model es) m) (sym j) (inl e)
        | inr r ↦
            let g : Has (recorded_asks model es) m = own_ask es m i r in
            elim (is_input model y) as (λ b. Has (if b then recorded_asks model es else y ∷ recorded_asks model es) m) [ true ↦ g | false ↦ inr g ]
      ]

-- where the same asked nodes are inputs, the same is recorded
module _ (model other : Model) where
  pub same_keys : (es : List Event) → ((m : Node) → Has (asks_of es) m → is_input other m ≡ is_input model m) → recorded_keys other es ≡ recorded_keys model es
  same_keys [] h = refl
  same_keys (Looked x ∷ es) h = ap (λ ks. x ∷ ks) (same_keys es h)
  same_keys (Tested x ∷ es) h = same_keys es h
  same_keys (Asked m v ∷ es) h =
      let i : is_input other m ≡ is_input model m = h m (inl refl) in
      let t : recorded_keys other es ≡ recorded_keys model es = same_keys es (λ x k. h x (inr k)) in
      ap (λ b. if b then Input m ∷ recorded_keys other es else recorded_keys other es) i ∙ ap (λ ks. if is_input model m then Input m ∷ ks else ks) t
  same_keys (Noted x ∷ es) h = same_keys es h

  pub same_asks : (es : List Event) → ((m : Node) → Has (asks_of es) m → is_input other m ≡ is_input model m) → recorded_asks other es ≡ recorded_asks model es
  same_asks [] h = refl
  same_asks (Looked x ∷ es) h = same_asks es h
  same_asks (Tested x ∷ es) h = same_asks es h
  same_asks (Asked m v ∷ es) h =
      let i : is_input other m ≡ is_input model m = h m (inl refl) in
      let t : recorded_asks other es ≡ recorded_asks model es = same_asks es (λ x k. h x (inr k)) in
      ap (λ b. if b then recorded_asks other es else m ∷ recorded_asks other es) i ∙ ap (λ ms. if is_input model m then ms else m ∷ ms) t
  same_asks (Noted x ∷ es) h = same_asks es h

-- what a record says of its node
module _ (model : Model) (e : Entry) (r : IsRecordOf model e) where
  pub record_means : Means model e.node (Gives e.reply)
  record_means = finished model e.node r.events (Gives e.reply) tt r.leads

  asked_among : (m : Node) → DoesAsk model e.node m → Has (asks_of r.events) m
  asked_among m a = asked_by_end model (model.body e.node) m a.go (Gives e.reply) a.events r.events a.leads r.leads

  asked_does : (m : Node) → Has (asks_of r.events) m → DoesAsk model e.node m
  asked_does m h = asked_is_ask model e.node (Ends (Gives e.reply)) r.events r.leads m h

  key_among : (k : Key) → Has (recorded_keys model r.events) k → Has e.keys k
  key_among k h = elim (each_has_all [] (recorded_keys model r.events) e.keys r.keys k h) [ inl z ↦ absurd z | inr i ↦ i ]

  pub looked_recorded : (k : Key) → LooksUp model e.node k → Has e.keys k
  looked_recorded k l = key_among k (own_key model r.events k (looked_by_end model (model.body e.node) k l.go (Gives e.reply) l.events r.events l.leads r.leads))

  pub input_recorded : (m : Node) → DoesAsk model e.node m → is_input model m ≡ true → Has e.keys (Input m)
  input_recorded m a i = key_among (Input m) (input_key model r.events m i (asked_among m a))

  pub asked_recorded : (m : Node) → DoesAsk model e.node m → (is_input model m ≡ true) ⊎ Has e.asks m
  asked_recorded m a =
      elim (input_or_not model m) [
        | inl i ↦ inl i
        | inr i ↦ elim (each_has_all [] (recorded_asks model r.events) e.asks r.asks m (own_ask model r.events m i (asked_among m a))) [ inl z ↦ absurd z | inr h ↦ inr h ]
      ]

  pub recorded_ask : (m : Node) → Has e.asks m → DoesAsk model e.node m × (is_input model m ≡ false)
  recorded_ask m h =
      let q = asks_cases model r.events m (each_is_among [] (recorded_asks model r.events) e.asks r.asks m h) in
      (asked_does m q.0, q.1)

  -- each recorded key supports the node
  pub recorded_key : InputsEnd model → (k : Key) → Has e.keys k → KeySupports model k e.node
  recorded_key ends k h =
      elim (keys_cases model r.events k (each_is_among [] (recorded_keys model r.events) e.keys r.keys k h)) [
        | inl a ↦ record { by = e.node; reaches = Itself; looks = looked_is_look model e.node (Ends (Gives e.reply)) r.events r.leads k a }
        | inr i ↦ record {
          by = i.node;
          reaches = Through i.node (asked_does i.node i.among) Itself;
          looks = subst (λ x. LooksUp model i.node x) i.is (looks_input_up model i.node ends i.input);
        }
      ]

-- two whole runs of one node are one
one_run : (model : Model) (run : Run) (es fs : List Event) (v w : Reply) → Leads model run es (Ends (Gives v)) → Leads model run fs (Ends (Gives w)) → (es ≡ fs) × (v ≡ w)
one_run model run es fs v w a b =
    elim (comparable model run (Ends (Gives v)) (Ends (Gives w)) es fs a b) [
      | inl g ↦
          let o = ends_only model (Gives v) (Ends (Gives w)) g.more g.leads in
          let i : fs ≡ es = g.is ∙ ap (λ z. es ++ z) o.0 ∙ append-nil es in
          let j : Ends (Gives w) ≡ Ends (Gives v) = o.1 in
          (sym i, cc)
      | inr g ↦
          let o = ends_only model (Gives w) (Ends (Gives v)) g.more g.leads in
          let i : es ≡ fs = g.is ∙ ap (λ z. fs ++ z) o.0 ∙ append-nil fs in
          let j : Ends (Gives v) ≡ Ends (Gives w) = o.1 in
          (i, cc)
    ]

same_fields : {E : Type 0} (make : Node → Reply → List Key → List Node → List Read → E) (n m : Node) (v w : Reply) (ks ls : List Key) (ms ns : List Node) (rs ss : List Read) → n ≡ m → v ≡ w → ks ≡ ls → ms ≡ ns → rs ≡ ss → make n v ks ms rs ≡ make m w ls ns ss
same_fields make n m v w ks ls ms ns rs ss a b c d e = cc

pub one_record : OneRecord
one_record model d e r s i =
    let l : Leads model (model.body e.node) r.events (Ends (Gives d.reply)) = subst (λ n. Leads model (model.body n) r.events (Ends (Gives d.reply))) i r.leads in
    let o = one_run model (model.body e.node) r.events s.events d.reply e.reply l s.leads in
    let k : d.keys ≡ e.keys = each_is_one [] (recorded_keys model s.events) d.keys e.keys (subst (λ es. FirstEach [] (recorded_keys model es) d.keys) o.0 r.keys) s.keys in
    let a : d.asks ≡ e.asks = each_is_one [] (recorded_asks model s.events) d.asks e.asks (subst (λ es. FirstEach [] (recorded_asks model es) d.asks) o.0 r.asks) s.asks in
    let q : d.reads ≡ e.reads = each_is_one [] (reads_of s.events) d.reads e.reads (subst (λ es. FirstEach [] (reads_of es) d.reads) o.0 r.reads) s.reads in
    let make : Node → Reply → List Key → List Node → List Read → Entry = λ n v ks ms rs. record { node = n; reply = v; keys = ks; asks = ms; reads = rs } in
    same_fields make d.node e.node d.reply e.reply d.keys e.keys d.asks e.asks d.reads e.reads i o.1 k a q

pub value_is_recorded : ValueIsRecorded
value_is_recorded model n h =
    let w = whole_at model n h.reply h.means.at h.means.gives in
    let ks = each_of key_eq key_decides [] (recorded_keys model w.events) in
    let ms = each_of node_eq node_decides [] (recorded_asks model w.events) in
    let rs = each_of read_eq read_decides [] (reads_of w.events) in
    record {
      entry = record { node = n; reply = h.reply; keys = ks.0; asks = ms.0; reads = rs.0 };
      of = refl;
      is = record { events = w.events; leads = w.leads; keys = ks.1; asks = ms.1; reads = rs.1 };
    }

pub one_reads : OneReads
one_reads model n xs ys a b =
    let p = a.recorded in
    let q = b.recorded in
    let e : p.entry ≡ q.entry = one_record model p.entry q.entry p.is q.is (p.of ∙ sym q.of) in
    sym a.read ∙ ap (λ (d : Entry). d.reads) e ∙ b.read

pub input_reads_none : InputReadsNone
input_reads_none model n ends i =
    let v = (input_value model n i).value in
    record {
      recorded = record {
        entry = record { node = n; reply = record { value = v; namespace = None }; keys = Input n ∷ []; asks = []; reads = [] };
        of = refl;
        is = record { events = Looked (Input n) ∷ []; leads = whole model n ends i; keys = First (Input n) (λ z. z) Done; asks = Done; reads = Done };
      };
      read = refl;
    }
