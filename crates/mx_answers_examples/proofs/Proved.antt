-- The examples, proved.
use Rattle.std.proofs.Common.{Ok, ◌≡◌, ℕ, ◌≤◌, true, false, List, [], ◌∷◌, ◌++◌, length, inl, inr, refl, sym, ◌∙◌, subst, arith}
use Rattle.mx_value.specs.declared.value.Value.{Value}
use Rattle.mx_value.specs.declared.value.Segment.{Segment}
use Rattle.mx_value.specs.declared.node.Node.{Node}
use Rattle.mx_value.specs.declared.node.Node.TheVariants.{Cell, Item}
use Rattle.mx_value.specs.declared.read.Read.TheVariants as read
use Rattle.mx_edit.specs.Entry.{Entry}
use Rattle.mx_edit.specs.declared.key.Key.{Key}
use Rattle.mx_edit.specs.declared.key.Key.TheVariants.{Input}
use Rattle.mx_edit.specs.declared.key.KeyResult.{KeyResult}
use Rattle.mx_edit.specs.declared.key.KeyResult.TheVariants as found
use Rattle.mx_runs.specs.Lists.{Has, First, Done}
use Rattle.mx_runs.specs.Runs.{Model, Outcome, Run, Asks, Ends, Tests, Gives, Event, Looked, Tested, Asked}
use Rattle.mx_runs.specs.Inputs.{is_input}
use Rattle.mx_runs.specs.Meaning.{Means, Leads}
use Rattle.mx_runs.specs.Chains.{DoesAsk, Reaches, Itself, Through, HasValue, IsFirstChain, IsRing, first_or}
use Rattle.mx_runs.specs.Support.{LooksUp, DoesTest, IsCovered, KeySupports, HasSameKeys}
use Rattle.mx_runs.proofs.Lists.{has_push}
use Rattle.mx_runs.proofs.Levels.{ends_only}
use Rattle.mx_answers.specs.Held.{nodes_of, Counts, IsKnown}
use Rattle.mx_answers.specs.Records.{IsRecordOf, AskBefore}
use Rattle.mx_answers.specs.Answers.{DeepChain, NoDeepChain, AreLost, Completes}
use Rattle.mx_answers.proofs.Sifting.{records_right}
use Rattle.mx_answers.proofs.Alike.{one_step}
use Rattle.mx_answers_examples.specs.Small.{put, asker, circle, look, small, asked, plain, input_or, formula, body}
use Rattle.mx_answers_examples.specs.Examples.{RunsMeetPremises, AskerGivesTheInput, AskerEndsOnlySo, InputIsNotHeld, CircleIsARing, NoRunIsAllowed, HeldIsRight, ChangeDrops, SameChangeKeeps}
use Rattle.mx_answers_examples.proofs.Small.{inputs_end, put_means, asker_means, run_of_asker, asker_runs, asker_asks, does_ask, put_reaches, asker_reaches, circle_asks_itself, circle_lost, circle_asks, circle_reaches}

-- a run that has ended tests no key
no_test : (model : Model) (go : KeyResult → Run) (o : Outcome) (es : List Event) (key : Key) → Leads model (Ends o) es (Tests key go) → ⊥
no_test model go o es key l = let e : Tests key go ≡ Ends o = (ends_only model o (Tests key go) es l).1 in cc

module _ (v : Value) where
  -- a test of the small model is of the input's key, before the input is asked
  its_input : (at : List Segment) (name : List ℕ) (arguments : List Value) (key : Key) (go : KeyResult → Run) (es : List Event) → Leads (small v) (body (Cell at name arguments)) es (Tests key go) → (Input put ≡ key) × DoesAsk (small v) (Cell at name arguments) put
  its_input at name arguments key go [] l = absurd (cc)
  its_input at [] arguments key go (Looked k ∷ es) l = absurd (no_test (small v) go (Gives (plain v)) es key l.1)
  its_input at (x ∷ []) arguments key go (Looked k ∷ []) l =
      let e : Tests (Input put) (λ _. Asks put (λ r. Ends (Gives r))) ≡ Tests key go = l.1 in
      (cc, record { events = Looked (Input (Cell at (x ∷ []) arguments)) ∷ Tested (Input put) ∷ []; go = λ r. Ends (Gives r); leads = (refl, (refl, refl)) })
  its_input at (x ∷ []) arguments key go (Looked k ∷ Tested j ∷ []) l = absurd (let e : Asks put (λ r. Ends (Gives r)) ≡ Tests key go = l.1.1 in cc)
  its_input at (x ∷ []) arguments key go (Looked k ∷ Tested j ∷ Asked m r ∷ es) l = absurd (no_test (small v) go (Gives r) es key l.1.1.2)
  its_input at (x ∷ []) arguments key go (Looked k ∷ Tested j ∷ e ∷ es) l = absurd l.1.1
  its_input at (x ∷ []) arguments key go (Looked k ∷ e ∷ es) l = absurd l.1
  its_input at (x ∷ y ∷ name) arguments key go (Looked k ∷ []) l = absurd (let e : Asks circle (λ r. Ends (Gives r)) ≡ Tests key go = l.1 in cc)
  its_input at (x ∷ y ∷ name) arguments key go (Looked k ∷ Asked m r ∷ es) l = absurd (no_test (small v) go (Gives r) es key l.1.2)
  its_input at (x ∷ y ∷ name) arguments key go (Looked k ∷ e ∷ es) l = absurd l.1
  its_input at name arguments key go (e ∷ es) l = absurd l

  put_looks : LooksUp (small v) put (Input put)
  put_looks = record { events = []; go = input_or (formula []); leads = refl }

  covered : (n : Node) (key : Key) → DoesTest (small v) n key → IsCovered (small v) n key
  covered (Cell at name arguments) key d =
      let q = its_input at name arguments key d.go d.events d.leads in
      record { asked = put; asks = q.1; looks = subst (λ k. LooksUp (small v) put k) q.0 put_looks }
  covered (Item at arguments) key d = absurd (no_test (small v) d.go _ d.events key d.leads)

pub runs_meet_premises : RunsMeetPremises
runs_meet_premises v = record { inputs_end = inputs_end v; tests_are_covered = λ n r key m d. covered v n key d }

-- the second node of a chain that is too deep: the first asks it, and it is another, and not known
record Second (model : Model) (held : List Entry) (n : Node) : Type 0 where
  node : Node
  asks : DoesAsk model n node
  other : n ≡ node → ⊥
  unknown : IsKnown model (nodes_of held) node → ⊥

second_of : (model : Model) (held : List Entry) (limit : ℕ) (n m : Node) (chain : List Node) → 1 ≤ limit → length chain ≡ limit → first_or m chain ≡ n → (d : DeepChain model held limit n m) → d.chain ≡ chain → Second model held n
second_of model held limit n m [] least long begins d e = let z : 0 ≡ limit = long in absurd (omega arith)
second_of model held limit n m (a ∷ []) least long begins d e =
    let f : IsFirstChain model (a ∷ m ∷ []) = subst (λ ns. IsFirstChain model (ns ++ m ∷ [])) e d.first in
    let k = f.1.0 in
    record {
      node = m;
      asks = subst (λ x. DoesAsk model x m) begins (record { events = k.events; go = k.go; leads = k.leads });
      other = λ i. f.0.0 (inl (sym i ∙ sym begins));
      unknown = d.unknown m (has_push d.chain m);
    }
second_of model held limit n m (a ∷ b ∷ rest) least long begins d e =
    let f : IsFirstChain model (a ∷ b ∷ rest ++ m ∷ []) = subst (λ ns. IsFirstChain model (ns ++ m ∷ [])) e d.first in
    let k = f.1.0 in
    record {
      node = b;
      asks = subst (λ x. DoesAsk model x b) begins (record { events = k.events; go = k.go; leads = k.leads });
      other = λ i. f.0.0 (inl (sym i ∙ sym begins));
      unknown = d.unknown b (subst (λ ns. Has (ns ++ m ∷ []) b) (sym e) (inr (inl refl)));
    }

second : (model : Model) (held : List Entry) (limit : ℕ) (n m : Node) → 1 ≤ limit → DeepChain model held limit n m → Second model held n
second model held limit n m least d = second_of model held limit n m d.chain least d.long d.begins d refl

-- a chain that is too deep begins with a node that is not known
begins_unknown : (model : Model) (held : List Entry) (limit : ℕ) (n m : Node) (chain : List Node) → first_or m chain ≡ n → (d : DeepChain model held limit n m) → d.chain ≡ chain → IsKnown model (nodes_of held) n → ⊥
begins_unknown model held limit n m [] begins d e k = d.unknown n (subst (λ ns. Has (ns ++ m ∷ []) n) (sym e) (inl begins)) k
begins_unknown model held limit n m (a ∷ chain) begins d e k = d.unknown n (subst (λ ns. Has (ns ++ m ∷ []) n) (sym e) (inl begins)) k

module _ (v : Value) where
  counts_asker : Counts (small v) asker
  counts_asker = record { value = record { reply = plain v; means = asker_means v }; own = refl }

  put_counts_not : (x : Node) → put ≡ x → Counts (small v) x → ⊥
  put_counts_not x e c = let i : true ≡ false = subst (λ y. is_input (small v) y ≡ false) (sym e) c.own in cc

  asker_has_value : (x : Node) → Reaches (small v) asker x → HasValue (small v) x
  asker_has_value x r =
      elim (asker_reaches v x r) [
        | inl e ↦ subst (λ y. HasValue (small v) y) e (record { reply = plain v; means = asker_means v })
        | inr e ↦ subst (λ y. HasValue (small v) y) e (record { reply = plain v; means = put_means v })
      ]

  asker_shallow : (held : List Entry) (limit : ℕ) → 1 ≤ limit → NoDeepChain (small v) held limit asker
  asker_shallow held limit least m d =
      let s = second (small v) held limit asker m least d in
      s.unknown (inr (subst (λ y. is_input (small v) y ≡ true) (asker_asks v s.node s.asks) refl))

  none_lost : (n : Node) → ((x : Node) → Reaches (small v) n x → HasValue (small v) x) → AreLost (small v) n 0
  none_lost n h = record { nodes = []; distinct = tt; only = λ x z. absurd z; whole = λ x r z. absurd (z (h x r)); many = refl }

  asker_completes : (limit : ℕ) → 1 ≤ limit → Completes (small v) (record { node = asker; held = []; limit = limit }) (asked v ∷ []) 1
  asker_completes limit least = record {
    room = record {
      shallow = asker_shallow [] limit least;
      few = record {
        nodes = asker ∷ put ∷ [];
        few = omega arith;
        whole = λ x c. elim c [ inl z ↦ absurd z | inr k ↦ elim (asker_reaches v x k.0) [ inl e ↦ inl e | inr e ↦ inr (inl e) ] ];
      };
    };
    holds = record {
      more = asked v ∷ [];
      is = refl;
      once = ((λ z. z), tt);
      exactly = λ x. (
        (λ h. elim h [ inl e ↦ subst (λ y. Reaches (small v) asker y × Counts (small v) y × (⊥ → ⊥)) e (Itself, counts_asker, λ z. z) | inr z ↦ absurd z ]),
        (λ k. elim (asker_reaches v x k.0) [ inl e ↦ inl e | inr e ↦ absurd (put_counts_not x e k.1) ]),
      );
      means = λ e h. elim h [ inl i ↦ subst (λ (d : Entry). Means (small v) d.node (Gives d.reply)) i (asker_means v) | inr z ↦ absurd z ];
    };
    lost = 0;
    are_lost = none_lost asker asker_has_value;
    runs = refl;
  }

  put_has_value : (x : Node) → Reaches (small v) put x → HasValue (small v) x
  put_has_value x r = subst (λ y. HasValue (small v) y) (put_reaches v x r) (record { reply = plain v; means = put_means v })

  put_completes : (limit : ℕ) → Completes (small v) (record { node = put; held = []; limit = limit }) [] 0
  put_completes limit = record {
    room = record {
      shallow = λ m d. begins_unknown (small v) [] limit put m d.chain d.begins d refl (inr refl);
      few = record { nodes = []; few = omega arith; whole = λ x c. elim c [ inl z ↦ absurd z | inr k ↦ absurd (put_counts_not x (put_reaches v x k.0) k.1) ] };
    };
    holds = record {
      more = [];
      is = refl;
      once = tt;
      exactly = λ x. ((λ z. absurd z), (λ k. put_counts_not x (put_reaches v x k.0) k.1));
      means = λ e z. absurd z;
    };
    lost = 0;
    are_lost = none_lost put put_has_value;
    runs = refl;
  }

  circle_has_none : (x : Node) → circle ≡ x → HasValue (small v) x → ⊥
  circle_has_none x e h = circle_lost v (Gives h.reply) (subst (λ y. Means (small v) y (Gives h.reply)) (sym e) h.means)

  circle_completes : (limit : ℕ) → 1 ≤ limit → Completes (small v) (record { node = circle; held = []; limit = limit }) [] 1
  circle_completes limit least = record {
    room = record {
      shallow = λ m d. let s = second (small v) [] limit circle m least d in s.other (circle_asks v s.node s.asks);
      few = record { nodes = []; few = omega arith; whole = λ x c. elim c [ inl z ↦ absurd z | inr k ↦ let c : Counts (small v) x = k.1 in absurd (circle_has_none x (circle_reaches v x k.0) c.value) ] };
    };
    holds = record {
      more = [];
      is = refl;
      once = tt;
      exactly = λ x. ((λ z. absurd z), (λ k. let c : Counts (small v) x = k.1 in circle_has_none x (circle_reaches v x k.0) c.value));
      means = λ e z. absurd z;
    };
    lost = 1;
    are_lost = record {
      nodes = circle ∷ [];
      distinct = ((λ z. z), tt);
      only = λ x h. elim h [ inl e ↦ (subst (λ y. Reaches (small v) circle y) e Itself, circle_has_none x e) | inr z ↦ absurd z ];
      whole = λ x r z. inl (circle_reaches v x r);
      many = refl;
    };
    runs = refl;
  }

  circle_ring : IsRing (small v) circle (circle ∷ [])
  circle_ring = record {
    lead = [];
    again = circle;
    rest = [];
    is = refl;
    begins = refl;
    distinct = ((λ z. z), tt);
    stuck = (record { asks = circle_asks_itself v; lost = circle_lost v }, tt);
  }

pub asker_gives_the_input : AskerGivesTheInput
asker_gives_the_input v limit least = (record { reply = plain v; means = asker_means v; value = refl }, asker_completes v limit least)

pub asker_ends_only_so : AskerEndsOnlySo
asker_ends_only_so v limit b last runs least x k =
    one_step (small v) (record { node = asker; held = []; limit = limit }) [] (Ok v) b (asked v ∷ []) last 1 runs
    (record { nodes = λ y. ((λ z. z), (λ z. z)); replies = λ d e z. absurd z; many = refl })
    (asker_gives_the_input v limit least) x tt k

pub input_is_not_held : InputIsNotHeld
input_is_not_held v limit = (record { reply = plain v; means = put_means v; value = refl }, put_completes v limit)

pub circle_is_a_ring : CircleIsARing
circle_is_a_ring v limit least = (circle_ring v, circle_lost v, circle_completes v limit least)

held_completes : (v : Value) → Completes (small v) (record { node = asker; held = asked v ∷ []; limit = 0 }) (asked v ∷ []) 0
held_completes v = record {
  room = record {
    shallow = λ m d. begins_unknown (small v) (asked v ∷ []) 0 asker m d.chain d.begins d refl (inl (inl refl));
    few = record {
      nodes = asker ∷ [];
      few = omega arith;
      whole = λ x c. elim c [ inl h ↦ h | inr k ↦ elim (asker_reaches v x k.0) [ inl e ↦ inl e | inr e ↦ absurd (put_counts_not v x e k.1) ] ];
    };
  };
  holds = record {
    more = [];
    is = refl;
    once = tt;
    exactly = λ x. ((λ z. absurd z), (λ k. elim (asker_reaches v x k.0) [ inl e ↦ k.2 (inl e) | inr e ↦ put_counts_not v x e k.1 ]));
    means = λ e z. absurd z;
  };
  lost = 0;
  are_lost = none_lost v asker (asker_has_value v);
  runs = refl;
}

pub no_run_is_allowed : NoRunIsAllowed
no_run_is_allowed v = record {
  too_deep = (
    record {
      chain = [];
      long = refl;
      begins = refl;
      first = (((λ z. z), tt), tt);
      unknown = λ x h k. elim h [
        | inl e ↦ elim k [ inl z ↦ z | inr i ↦ let j : false ≡ true = subst (λ y. is_input (small v) y ≡ true) (sym e) i in absurd (cc) ]
        | inr z ↦ z
      ];
    },
    refl,
  );
  held = (record { reply = plain v; means = asker_means v; value = refl }, held_completes v);
}

is_record : (v : Value) → IsRecordOf (small v) (asked v)
is_record v = record {
  events = run_of_asker v;
  leads = asker_runs v;
  keys = First (Input asker) (λ z. z) (First (Input put) (λ h. elim h [ inl e ↦ absurd (let i : Input asker ≡ Input put = e in cc) | inr z ↦ z ]) Done);
  asks = Done;
  reads = First (read.Node put) (λ z. z) Done;
}

pub held_is_right : HeldIsRight
held_is_right v =
    let records : (e : Entry) → Has (asked v ∷ []) e → IsRecordOf (small v) e = λ e h. elim h [ inl i ↦ subst (λ (d : Entry). IsRecordOf (small v) d) i (is_record v) | inr z ↦ absurd z ] in
    let own : (n : Node) → Has (nodes_of (asked v ∷ [])) n → is_input (small v) n ≡ false = λ n h. elim h [ inl e ↦ subst (λ y. is_input (small v) y ≡ false) e refl | inr z ↦ absurd z ] in
    let order : AskBefore [] (asked v ∷ []) = ((λ x z. z), tt) in
    record { right = records_right (small v) (asked v ∷ []) records order own ((λ z. z), tt) (omega arith); records = records; order = order }

rests_on_put : (v : Value) → KeySupports (small v) (Input put) asker
rests_on_put v = record { by = put; reaches = Through put (does_ask v) Itself; looks = put_looks v }

changed_drops : (v w : Value) → (w ≡ v → ⊥) → (e : Entry) → asked v ≡ e → HasSameKeys (small v) (look w) e.node → ⊥
changed_drops v w other e i u =
    let s : HasSameKeys (small v) (look w) asker = subst (λ (d : Entry). HasSameKeys (small v) (look w) d.node) (sym i) u in
    let same : found.Value w ≡ found.Value v = s (Input put) (rests_on_put v) in
    other (cc)

pub change_drops : ChangeDrops
change_drops v w other = record {
  once = tt;
  only = λ e z. absurd z;
  whole = λ e h u. elim h [ inl i ↦ absurd (changed_drops v w other e i u) | inr z ↦ z ];
}

pub same_change_keeps : SameChangeKeeps
same_change_keeps v = record { once = ((λ z. z), tt); only = λ e h. (h, λ k s. refl); whole = λ e h u. h }
