-- How a run that stands somewhere goes on: past what is known, with a value that it asked for, and to its end.
use Rattle.std.proofs.Common.{◌≡◌, ℕ, suc, ◌+◌, ◌≤◌, true, false, List, [], ◌∷◌, ◌++◌, ◌⊎◌, length, inl, inr, refl, sym, ◌∙◌, ap, subst, arith, None}
use Rattle.std.proofs.lemmas.List.{append-nil}
use Rattle.mx_value.specs.declared.node.Node.{Node}
use Rattle.mx_value.specs.declared.read.Read.{Read}
use Rattle.mx_value.specs.declared.read.Read.TheVariants as read
use Rattle.mx_value.specs.declared.value.Value.{Value}
use Rattle.mx_edit.specs.Entry.{Entry}
use Rattle.mx_edit.specs.declared.key.Key.{Key}
use Rattle.mx_edit.specs.declared.key.Key.TheVariants.{Input}
use Rattle.mx_edit.specs.declared.key.KeyResult.{KeyResult}
use Rattle.mx_edit.specs.declared.key.KeyResult.TheVariants as found
use Rattle.mx_edit.specs.declared.reply.Reply.{Reply}
use Rattle.mx_runs.specs.Lists.{Has, EachOnce, Done}
use Rattle.mx_runs.specs.Runs.{Model, Run, Outcome, Gives, Ends, Looks, Tests, Asks, Notes, Event, Looked, Tested, Asked, Noted}
use Rattle.mx_runs.specs.Inputs.{is_input, InputsEnd}
use Rattle.mx_runs.specs.Meaning.{Means}
use Rattle.mx_runs.specs.Chains.{asks_of, Reaches, Itself, ReachedFrom, HasValue, AsksFirst, IsFirstChain}
use Rattle.mx_runs.proofs.Lists.{has_left, has_right, has_cases}
use Rattle.mx_runs.proofs.Runs.{Before, Now, After, ask_case, asked_by_end}
use Rattle.mx_runs.specs.Laws.{IsItsInput}
use Rattle.mx_runs.proofs.Inputs.{input_is_its_value}
use Rattle.mx_answers.specs.Held.{nodes_of, IsRight}
use Rattle.mx_answers.specs.Answers.{IsShallow}
use Rattle.mx_answers.specs.Records.{recorded_keys, recorded_asks, reads_of}
use Rattle.mx_answers.proofs.Held.{input_or_not, named}
use Rattle.mx_suspended.specs.Recorded.{Recorded, nothing, ComesTo, Adds, GoesPast, Stays, PastLook, PastTest, PastNote, PastHeld, PastInput}
use Rattle.mx_suspended.specs.Flights.{AreUnknown, StandsAt}
use Rattle.mx_suspended.proofs.Growing.{added, still_there, added_cases, each_adds, keys_grow, asks_grow, reads_grow, input_key_alone, input_no_ask, other_no_key, other_ask_alone, asked_recorded, recorded_reached, comes_by}

-- a run that has done nothing
pub stands_first : (model : Model) (limit depth : ℕ) (held : List Node) (n : Node) → StandsAt model limit depth held held n nothing (model.body n)
stands_first model limit depth held n = record {
  comes = record { events = []; leads = refl; keys = Done; asks = Done; reads = Done };
  still = λ x h. h;
  newly = λ x h. inl h;
  kept = λ x z. absurd z;
  shallow = λ b rest z. absurd z;
}

-- an unchanged list of what is recorded
same_each : {X : Type 0} (ws vs more xs : List X) → EachOnce ws xs → vs ≡ ws ++ more → more ≡ [] → EachOnce vs xs
same_each ws vs more xs e i j = subst (λ zs. EachOnce zs xs) (sym (i ∙ ap (λ zs. ws ++ zs) j ∙ append-nil ws)) e

-- a run comes on by one event
module _ (model : Model) (n : Node) (so_far : Recorded) where
  look_on : (key : Key) (go : KeyResult → Run) (keys : List Key) → Adds so_far.keys key keys → ComesTo model n so_far (Looks key go) → ComesTo model n (record so_far { keys = keys }) (go (model.look key))
  look_on key go keys a c =
      comes_by model n so_far (Looks key go) c (Looked key) (go (model.look key)) (record so_far { keys = keys }) (refl, refl)
      (each_adds so_far.keys keys key a (recorded_keys model c.events) (recorded_keys model (c.events ++ Looked key ∷ [])) c.keys (keys_grow model c.events (Looked key ∷ [])))
      (same_each (recorded_asks model c.events) (recorded_asks model (c.events ++ Looked key ∷ [])) [] so_far.asks c.asks (asks_grow model c.events (Looked key ∷ [])) refl)
      (same_each (reads_of c.events) (reads_of (c.events ++ Looked key ∷ [])) [] so_far.reads c.reads (reads_grow c.events (Looked key ∷ [])) refl)

  test_on : (key : Key) (go : KeyResult → Run) → ComesTo model n so_far (Tests key go) → ComesTo model n so_far (go (model.look key))
  test_on key go c =
      comes_by model n so_far (Tests key go) c (Tested key) (go (model.look key)) so_far (refl, refl)
      (same_each (recorded_keys model c.events) (recorded_keys model (c.events ++ Tested key ∷ [])) [] so_far.keys c.keys (keys_grow model c.events (Tested key ∷ [])) refl)
      (same_each (recorded_asks model c.events) (recorded_asks model (c.events ++ Tested key ∷ [])) [] so_far.asks c.asks (asks_grow model c.events (Tested key ∷ [])) refl)
      (same_each (reads_of c.events) (reads_of (c.events ++ Tested key ∷ [])) [] so_far.reads c.reads (reads_grow c.events (Tested key ∷ [])) refl)

  note_on : (noted : Read) (run : Run) (reads : List Read) → Adds so_far.reads noted reads → ComesTo model n so_far (Notes noted run) → ComesTo model n (record so_far { reads = reads }) run
  note_on noted run reads a c =
      comes_by model n so_far (Notes noted run) c (Noted noted) run (record so_far { reads = reads }) (refl, refl)
      (same_each (recorded_keys model c.events) (recorded_keys model (c.events ++ Noted noted ∷ [])) [] so_far.keys c.keys (keys_grow model c.events (Noted noted ∷ [])) refl)
      (same_each (recorded_asks model c.events) (recorded_asks model (c.events ++ Noted noted ∷ [])) [] so_far.asks c.asks (asks_grow model c.events (Noted noted ∷ [])) refl)
      (each_adds so_far.reads reads noted a (reads_of c.events) (reads_of (c.events ++ Noted noted ∷ [])) c.reads (reads_grow c.events (Noted noted ∷ [])))

  ask_on : (m : Node) (go : Reply → Run) (r : Reply) (asks : List Node) (reads : List Read) → is_input model m ≡ false → Means model m (Gives r) → Adds so_far.asks m asks → Adds so_far.reads (read.Node m) reads → ComesTo model n so_far (Asks m go) → ComesTo model n (record so_far { asks = asks; reads = reads }) (go r)
  ask_on m go r asks reads own means a b c =
      comes_by model n so_far (Asks m go) c (Asked m r) (go r) (record so_far { asks = asks; reads = reads }) (refl, means, refl)
      (same_each (recorded_keys model c.events) (recorded_keys model (c.events ++ Asked m r ∷ [])) (recorded_keys model (Asked m r ∷ [])) so_far.keys c.keys (keys_grow model c.events (Asked m r ∷ [])) (other_no_key model m r own))
      (each_adds so_far.asks asks m a (recorded_asks model c.events) (recorded_asks model (c.events ++ Asked m r ∷ [])) c.asks (asks_grow model c.events (Asked m r ∷ []) ∙ ap (λ ms. recorded_asks model c.events ++ ms) (other_ask_alone model m r own)))
      (each_adds so_far.reads reads (read.Node m) b (reads_of c.events) (reads_of (c.events ++ Asked m r ∷ [])) c.reads (reads_grow c.events (Asked m r ∷ [])))

  input_on : (m : Node) (go : Reply → Run) (r : Reply) (keys : List Key) (reads : List Read) → is_input model m ≡ true → Means model m (Gives r) → Adds so_far.keys (Input m) keys → Adds so_far.reads (read.Node m) reads → ComesTo model n so_far (Asks m go) → ComesTo model n (record so_far { keys = keys; reads = reads }) (go r)
  input_on m go r keys reads put means a b c =
      comes_by model n so_far (Asks m go) c (Asked m r) (go r) (record so_far { keys = keys; reads = reads }) (refl, means, refl)
      (each_adds so_far.keys keys (Input m) a (recorded_keys model c.events) (recorded_keys model (c.events ++ Asked m r ∷ [])) c.keys (keys_grow model c.events (Asked m r ∷ []) ∙ ap (λ ks. recorded_keys model c.events ++ ks) (input_key_alone model m r put)))
      (same_each (recorded_asks model c.events) (recorded_asks model (c.events ++ Asked m r ∷ [])) (recorded_asks model (Asked m r ∷ [])) so_far.asks c.asks (asks_grow model c.events (Asked m r ∷ [])) (input_no_ask model m r put))
      (each_adds so_far.reads reads (read.Node m) b (reads_of c.events) (reads_of (c.events ++ Asked m r ∷ [])) c.reads (reads_grow c.events (Asked m r ∷ [])))

-- a run that stands asks no node anew
stands_same : (model : Model) (limit depth : ℕ) (since held : List Node) (n : Node) (so_far last : Recorded) (run rest : Run) → last.asks ≡ so_far.asks → ComesTo model n last rest → StandsAt model limit depth since held n so_far run → StandsAt model limit depth since held n last rest
stands_same model limit depth since held n so_far last run rest e c s = record {
  comes = c;
  still = s.still;
  newly = λ x h. elim (s.newly x h) [ inl a ↦ inl a | inr b ↦ inr (subst (λ ms. ReachedFrom model ms x) (sym e) b) ];
  kept = λ x h. s.kept x (subst (λ ms. Has ms x) e h);
  shallow = λ b rest h. s.shallow b rest (subst (λ ms. Has ms b) e h);
}

-- what a run's node asks first and what is not known as it began is not known now
past_known : (model : Model) (limit depth : ℕ) (since held : List Node) (n : Node) (so_far : Recorded) (run : Run) → (s : StandsAt model limit depth since held n so_far run) → (es : List Event) → es ≡ s.comes.events → (ns : List Node) → ((x : Node) → Has ns x → ReachedFrom model (asks_of es) x → ⊥) → AreUnknown model ns since → AreUnknown model ns held
past_known model limit depth since held n so_far run s es e ns fresh d x h k =
    elim k [
      | inl i ↦ elim (s.newly x i) [
        | inl a ↦ d x h (inl a)
        | inr b ↦ fresh x h (subst (λ fs. ReachedFrom model (asks_of fs) x) (sym e) (recorded_reached model n so_far run s.comes x b))
      ]
      | inr i ↦ d x h (inr i)
    ]

suc_more : (depth n limit : ℕ) → suc depth + n ≤ limit → depth + suc n ≤ limit
suc_more depth n limit h = omega arith

-- a node that is not known is no input
pub unknown_own : (model : Model) (nodes held : List Node) → AreUnknown model nodes held → (x : Node) → Has nodes x → is_input model x ≡ false
unknown_own model nodes held u x h = elim (input_or_not model x) [ inl i ↦ absurd (u x h (inr i)) | inr i ↦ i ]

-- a first chain over the node that is asked now
module _ (model : Model) (limit depth : ℕ) (since held : List Node) (n m : Node) (go : Reply → Run) (so_far : Recorded) (s : StandsAt model limit depth since held n so_far (Asks m go)) where
  first_now : (a : Node) (rest : List Node) → a ≡ m → (f : AsksFirst model n a rest) → f.events ≡ s.comes.events → IsFirstChain model (n ∷ a ∷ rest) → AreUnknown model (n ∷ a ∷ rest) since → IsFirstChain model (m ∷ rest) × AreUnknown model (m ∷ rest) held
  first_now a rest e f i c d = (
    subst (λ y. IsFirstChain model (y ∷ rest)) e (c.0.1, c.1.1),
    subst (λ y. AreUnknown model (y ∷ rest) held) e (past_known model limit depth since held n so_far (Asks m go) s f.events i (a ∷ rest) f.fresh (λ x h k. d x (inr h) k)),
  )

  given_shallow : IsShallow model limit (suc depth) held m → (rest : List Node) → IsFirstChain model (n ∷ m ∷ rest) → AreUnknown model (n ∷ m ∷ rest) since → depth + length (m ∷ rest) ≤ limit
  given_shallow sh rest c d =
      let f : AsksFirst model n m rest = c.1.0 in
      elim (ask_case model (model.body n) m m f.go go f.events s.comes.events f.leads s.comes.leads) [
        | Before h ↦ s.shallow m rest (asked_recorded model n so_far (Asks m go) s.comes m (unknown_own model (n ∷ m ∷ rest) since d m (inr (inl refl))) h) c d
        | Now i e ↦ let k = first_now m rest e f i c d in suc_more depth (length rest) limit (sh rest k.0 k.1)
        | After h v ↦ absurd (f.fresh m (inl refl) (record { from = m; among = h; reaches = Itself }))
      ]

  -- where the node that is asked has no value
  pub stands_shallow_ask : (avoid : List Node) → (HasValue model m → ⊥) → IsShallow model limit (suc depth) (n ∷ avoid ++ held) m → depth ≤ limit → IsShallow model limit depth (avoid ++ since) n
  stands_shallow_ask avoid none sh le [] c d = omega arith
  stands_shallow_ask avoid none sh le (b ∷ rest) c d =
      let f : AsksFirst model n b rest = c.1.0 in
      let d1 : AreUnknown model (n ∷ b ∷ rest) since = λ x h k. d x h (elim k [ inl i ↦ inl (has_right avoid since x i) | inr i ↦ inr i ]) in
      elim (ask_case model (model.body n) b m f.go go f.events s.comes.events f.leads s.comes.leads) [
        | Before h ↦ s.shallow b rest (asked_recorded model n so_far (Asks m go) s.comes b (unknown_own model (n ∷ b ∷ rest) since d1 b (inr (inl refl))) h) c d1
        | Now i e ↦
            let k = first_now b rest e f i c d1 in
            let d2 : (x : Node) → Has (b ∷ rest) x → Has avoid x → ⊥ = λ x h q. d x (inr h) (inl (has_left avoid since x q)) in
            let d3 : (x : Node) → Has (m ∷ rest) x → Has avoid x → ⊥ = subst (λ y. (x : Node) → Has (y ∷ rest) x → Has avoid x → ⊥) e d2 in
            let d4 : Has (m ∷ rest) n → ⊥ = λ h. c.0.0 (subst (λ y. Has (y ∷ rest) n) (sym e) h) in
            let d5 : AreUnknown model (m ∷ rest) (n ∷ avoid ++ held) = λ x h q. elim q [
              | inl i ↦ elim i [
                | inl t ↦ d4 (subst (λ y. Has (m ∷ rest) y) (sym t) h)
                | inr t ↦ elim (has_cases avoid held x t) [ inl u ↦ d3 x h u | inr u ↦ k.1 x h (inl u) ]
              ]
              | inr i ↦ k.1 x h (inr i)
            ] in
            suc_more depth (length rest) limit (sh rest k.0 d5)
        | After h v ↦ absurd (none v)
      ]

  -- a node that is no input gives what it means; more may be held by then, which it reaches
  pub stands_given : (r : Reply) (after : List Node) (asks : List Node) (reads : List Read) → Adds so_far.asks m asks → Adds so_far.reads (read.Node m) reads → is_input model m ≡ false → ((x : Node) → Has held x → Has after x) → ((x : Node) → Has after x → Has held x ⊎ Reaches model m x) → Has after m → Means model m (Gives r) → IsShallow model limit (suc depth) held m → StandsAt model limit depth since after n (record so_far { asks = asks; reads = reads }) (go r)
  stands_given r after asks reads a b own still newly has means sh = record {
    comes = ask_on model n so_far m go r asks reads own means a b s.comes;
    still = λ x h. still x (s.still x h);
    newly = λ x h. elim (newly x h) [
      | inl i ↦ elim (s.newly x i) [
        | inl j ↦ inl j
        | inr q ↦ inr (record { from = q.from; among = still_there so_far.asks asks m a q.from q.among; reaches = q.reaches })
      ]
      | inr i ↦ inr (record { from = m; among = added so_far.asks asks m a; reaches = i })
    ];
    kept = λ x h. elim (added_cases so_far.asks asks m a x h) [
      | inl i ↦ still x (s.kept x i)
      | inr i ↦ subst (λ y. Has after y) i has
    ];
    shallow = λ y rest h c d. elim (added_cases so_far.asks asks m a y h) [
      | inl i ↦ s.shallow y rest i c d
      | inr i ↦ given_shallow sh rest (subst (λ z. IsFirstChain model (n ∷ z ∷ rest)) (sym i) c) (subst (λ z. AreUnknown model (n ∷ z ∷ rest) since) (sym i) d)
    ];
  }

-- the end of a run
pub stands_shallow_end : (model : Model) (limit depth : ℕ) (since held : List Node) (n : Node) (so_far : Recorded) (o : Outcome) → StandsAt model limit depth since held n so_far (Ends o) → depth ≤ limit → IsShallow model limit depth since n
stands_shallow_end model limit depth since held n so_far o s le [] c d = omega arith
stands_shallow_end model limit depth since held n so_far o s le (b ∷ rest) c d =
    let f : AsksFirst model n b rest = c.1.0 in
    let i : Has (asks_of s.comes.events) b = asked_by_end model (model.body n) b f.go o f.events s.comes.events f.leads s.comes.leads in
    s.shallow b rest (asked_recorded model n so_far (Ends o) s.comes b (unknown_own model (n ∷ b ∷ rest) since d b (inr (inl refl))) i) c d

pub shallow_more : (model : Model) (limit depth : ℕ) (avoid more : List Node) (n : Node) → IsShallow model limit depth avoid n → IsShallow model limit depth (more ++ avoid) n
shallow_more model limit depth avoid more n s rest c d = s rest c (λ x h k. d x h (elim k [ inl i ↦ inl (has_right more avoid x i) | inr i ↦ inr i ]))

-- an input means what was put in
pub put_in : (model : Model) (m : Node) (value : Value) → InputsEnd model → is_input model m ≡ true → model.look (Input m) ≡ found.Value value → Means model m (Gives (record { value = value; namespace = None }))
put_in model m value ends i e =
    let w : IsItsInput model m = input_is_its_value model m ends i in
    let q : found.Value w.value ≡ found.Value value = sym w.put_in ∙ e in
    let v : w.value ≡ value = cc in
    subst (λ (u : Value). Means model m (Gives (record { value = u; namespace = None }))) v w.means

-- a run that stands goes on past what is known
module _ (model : Model) (held : List Entry) (ends : InputsEnd model) (right : IsRight model held) (limit depth : ℕ) (since : List Node) (n : Node) where
  pub stands_past : (run rest : Run) (so_far last : Recorded) → GoesPast model held run so_far rest last → StandsAt model limit depth since (nodes_of held) n so_far run → StandsAt model limit depth since (nodes_of held) n last rest
  stands_past run rest so_far last (Stays at olds) s = s
  stands_past run rest so_far last (PastLook key go to olds news keys a more) s =
      stands_past (go (model.look key)) to (record olds { keys = keys }) news more
      (stands_same model limit depth since (nodes_of held) n olds (record olds { keys = keys }) (Looks key go) (go (model.look key)) refl (look_on model n olds key go keys a s.comes) s)
  stands_past run rest so_far last (PastTest key go to olds news more) s =
      stands_past (go (model.look key)) to olds news more
      (stands_same model limit depth since (nodes_of held) n olds olds (Tests key go) (go (model.look key)) refl (test_on model n olds key go s.comes) s)
  stands_past run rest so_far last (PastNote noted next to olds news reads a more) s =
      stands_past next to (record olds { reads = reads }) news more
      (stands_same model limit depth since (nodes_of held) n olds (record olds { reads = reads }) (Notes noted next) next refl (note_on model n olds noted next reads a s.comes) s)
  stands_past run rest so_far last (PastHeld e go to olds news asks reads h a b more) s =
      let has : Has (nodes_of held) e.node = named held e h in
      stands_past (go e.reply) to (record olds { asks = asks; reads = reads }) news more
      (stands_given model limit depth since (nodes_of held) n e.node go olds s e.reply (nodes_of held) asks reads a b (right.own e.node has)
      (λ x i. i) (λ x i. inl i) has (right.means e h) (λ rest c d. absurd (d e.node (inl refl) (inl has))))
  stands_past run rest so_far last (PastInput m value go to olds news keys reads i look a b more) s =
      let r : Reply = record { value = value; namespace = None } in
      stands_past (go r) to (record olds { keys = keys; reads = reads }) news more
      (stands_same model limit depth since (nodes_of held) n olds (record olds { keys = keys; reads = reads }) (Asks m go) (go r) refl
      (input_on model n olds m go r keys reads i (put_in model m value ends i look) a b s.comes) s)

-- what goes past and then past more goes past both
pub past_then : (model : Model) (held : List Entry) (run half rest : Run) (so_far mid last : Recorded) → GoesPast model held run so_far half mid → GoesPast model held half mid rest last → GoesPast model held run so_far rest last
past_then model held run half rest so_far mid last (Stays at olds) q = q
past_then model held run half rest so_far mid last (PastLook key go to olds news keys a more) q =
    PastLook key go rest olds last keys a (past_then model held (go (model.look key)) half rest (record olds { keys = keys }) mid last more q)
past_then model held run half rest so_far mid last (PastTest key go to olds news more) q =
    PastTest key go rest olds last (past_then model held (go (model.look key)) half rest olds mid last more q)
past_then model held run half rest so_far mid last (PastNote noted next to olds news reads a more) q =
    PastNote noted next rest olds last reads a (past_then model held next half rest (record olds { reads = reads }) mid last more q)
past_then model held run half rest so_far mid last (PastHeld e go to olds news asks reads h a b more) q =
    PastHeld e go rest olds last asks reads h a b (past_then model held (go e.reply) half rest (record olds { asks = asks; reads = reads }) mid last more q)
past_then model held run half rest so_far mid last (PastInput m value go to olds news keys reads i look a b more) q =
    PastInput m value go rest olds last keys reads i look a b (past_then model held (go (record { value = value; namespace = None })) half rest (record olds { keys = keys; reads = reads }) mid last more q)
