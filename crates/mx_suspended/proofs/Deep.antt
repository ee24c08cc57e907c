-- The nodes in flight are a first chain, and where it meets itself a stuck chain.
use Rattle.std.proofs.Common.{◌≡◌, ℕ, suc, ◌+◌, ◌≤◌, List, [], ◌∷◌, ◌++◌, length, reverse, inl, inr, refl, sym, ◌∙◌, ap, subst, arith, length-append}
use Rattle.std.proofs.lemmas.List.{length-map, length-reverse}
use Rattle.mx_value.specs.declared.node.Node.{Node}
use Rattle.mx_edit.specs.Entry.{Entry}
use Rattle.mx_runs.specs.Lists.{Has, Distinct}
use Rattle.mx_runs.specs.Runs.{Model}
use Rattle.mx_runs.specs.Inputs.{InputsEnd}
use Rattle.mx_runs.specs.Chains.{Reaches, MeansNothing, AsksFirst, AskInTurn, IsFirstChain, LastAsk, StuckChain, IsRing, first_or}
use Rattle.mx_runs.proofs.Lists.{onto, onto_is, distinct_onto}
use Rattle.mx_runs.proofs.Meanings.{lost}
use Rattle.mx_runs.proofs.Inputs.{input_reaches}
use Rattle.mx_answers.specs.Held.{nodes_of, IsKnown, IsRight}
use Rattle.mx_answers.specs.Answers.{Evaluation, IsShallow, DeepChain, NoDeepChain}
use Rattle.mx_answers.proofs.Held.{held_reach}
use Rattle.mx_suspended.specs.Flights.{Suspended, nodes_waiting, AreUnknown, Waits, AreApart}
use Rattle.mx_suspended.proofs.Waiting.{frame_asks, asked_known, waits_still, waits_asks, asked_on}

pub first_or_front : (m z : Node) (ns rest : List Node) → first_or z (ns ++ m ∷ rest) ≡ first_or m ns
first_or_front m z [] rest = refl
first_or_front m z (n ∷ ns) rest = refl

unknown_onto : (model : Model) (xs rest held : List Node) → AreUnknown model xs held → AreUnknown model rest held → AreUnknown model (onto xs rest) held
unknown_onto model [] rest held d e = e
unknown_onto model (x ∷ xs) rest held d e =
    unknown_onto model xs (x ∷ rest) held (λ z h. d z (inr h)) (λ z h k. elim h [ inl i ↦ d z (inl i) k | inr r ↦ e z r k ])

-- what is reached from a known node is known
pub known_reach : (model : Model) (held : List Entry) → InputsEnd model → IsRight model held → (y x : Node) → IsKnown model (nodes_of held) y → Reaches model y x → IsKnown model (nodes_of held) x
known_reach model held ends right y x k r =
    elim k [
      | inl i ↦ held_reach model held ends right y x i r
      | inr i ↦ subst (λ z. IsKnown model (nodes_of held) z) (input_reaches model y ends i x r) (inr i)
    ]

module _ (model : Model) (ev : Evaluation) where
  chain_begins : (fs : List Suspended) (m : Node) (since : List Node) → Waits model ev fs m since → (rest : List Node) (z : Node) → first_or z (onto (nodes_waiting fs) (m ∷ rest)) ≡ ev.node
  chain_begins [] m since w rest z = w.0
  chain_begins (f ∷ fs) m since w rest z = chain_begins fs f.node w.0 w.2 (m ∷ rest) z

  in_turn : (held : List Entry) → InputsEnd model → IsRight model held → (fs : List Suspended) (m : Node) (since : List Node) → Waits model ev fs m since → ((x : Node) → Has since x → Has (nodes_of held) x) → AreUnknown model (nodes_waiting fs) (nodes_of held) → (rest : List Node) → AreUnknown model (m ∷ rest) (nodes_of held) → AskInTurn model (m ∷ rest) → AskInTurn model (onto (nodes_waiting fs) (m ∷ rest))
  in_turn held ends r [] m since w k df rest d a = a
  in_turn held ends r (f ∷ fs) m since w k df rest d a =
      let known : (y : Node) → IsKnown model since y → IsKnown model (nodes_of held) y = λ y c. elim c [ inl i ↦ inl (k y i) | inr i ↦ inr i ] in
      let first : AsksFirst model f.node m rest = record {
        events = w.1.comes.events;
        go = f.go;
        leads = w.1.comes.leads;
        fresh = λ x h q. d x h (known_reach model held ends r q.from x (known q.from (asked_known model ev f (suc (length fs)) w.0 since m w.1 q.from q.among)) q.reaches);
      } in
      in_turn held ends r fs f.node w.0 w.2 (λ x h. k x (w.1.still x h)) (λ x h. df x (inr h)) (m ∷ rest)
      (λ x h q. elim h [ inl e ↦ df x (inl e) q | inr i ↦ d x i q ]) (first, a)

  pub deep : (held : List Entry) → InputsEnd model → IsRight model held → (fs : List Suspended) (m : Node) → Waits model ev fs m (nodes_of held) → AreApart model ev.limit (nodes_waiting fs) (nodes_of held) → (IsKnown model (nodes_of held) m → ⊥) → (Has (nodes_waiting fs) m → ⊥) → ev.limit ≤ length fs → DeepChain model ev.held ev.limit ev.node m
  deep held ends r fs m w a nh nf le =
      let ns : List Node = nodes_waiting fs in
      let e : onto ns (m ∷ []) ≡ reverse ns ++ m ∷ [] = onto_is ns (m ∷ []) in
      let dm : AreUnknown model (m ∷ []) (nodes_of held) = λ x h q. elim h [ inl i ↦ nh (subst (λ y. IsKnown model (nodes_of held) y) (sym i) q) | inr z ↦ z ] in
      let df : (x : Node) → Has ns x → Has (m ∷ []) x → ⊥ = λ x h q. elim q [ inl i ↦ nf (subst (λ y. Has ns y) (sym i) h) | inr z ↦ z ] in
      let back : (x : Node) → IsKnown model (nodes_of ev.held) x → IsKnown model (nodes_of held) x = λ x k. elim k [ inl i ↦ inl (waits_still model ev fs m (nodes_of held) w x i) | inr i ↦ inr i ] in
      let long : length ns ≡ ev.limit = let i : length ns ≡ length fs = length-map fs (λ (f : Suspended). f.node) in let j : length ns ≤ ev.limit = a.within in omega arith in
      record {
        chain = reverse ns;
        long = length-reverse ns ∙ long;
        begins = sym (first_or_front m m (reverse ns) []) ∙ ap (λ zs. first_or m zs) (sym e) ∙ chain_begins fs m (nodes_of held) w [] m;
        first = subst (λ zs. IsFirstChain model zs) e (distinct_onto ns (m ∷ []) a.distinct ((λ z. z), tt) df, in_turn held ends r fs m (nodes_of held) w (λ x h. h) a.unknown [] dm tt);
        unknown = subst (λ zs. AreUnknown model zs (nodes_of ev.held)) e (λ x h q. unknown_onto model ns (m ∷ []) (nodes_of held) a.unknown dm x h (back x q));
      }

  ring_begins : (fs : List Suspended) (m : Node) (since : List Node) → Waits model ev fs m since → Has (nodes_waiting fs) m → (z : Node) → first_or z (onto (nodes_waiting fs) []) ≡ ev.node
  ring_begins [] m since w h z = absurd h
  ring_begins (f ∷ fs) m since w h z = chain_begins fs f.node w.0 w.2 [] z

  pub on_ring : (fs : List Suspended) (m : Node) (since : List Node) → Waits model ev fs m since → Has (nodes_waiting fs) m → (n : Node) → Has (m ∷ nodes_waiting fs) n → MeansNothing model n
  on_ring fs m since w h n i =
      let within : (x : Node) → Has (m ∷ nodes_waiting fs) x → Has (nodes_waiting fs) x = λ x j. elim j [ inl e ↦ subst (λ y. Has (nodes_waiting fs) y) e h | inr q ↦ q ] in
      lost model (nodes_waiting fs) (λ y j. let q = waits_asks model ev fs m since w y j in record { next = q.next; within = within q.next q.within; asks = q.asks }) n (within n i)

  stuck_onto : (fs : List Suspended) (m : Node) (since : List Node) → Waits model ev fs m since → ((n : Node) → Has (m ∷ nodes_waiting fs) n → MeansNothing model n) → (rest : List Node) (z : Node) → first_or z rest ≡ m → StuckChain model rest z → StuckChain model (onto (nodes_waiting fs) rest) z
  stuck_onto [] m since w k rest z e s = s
  stuck_onto (f ∷ fs) m since w k rest z e s =
      let l : LastAsk model f.node m = record { asks = frame_asks model ev f (suc (length fs)) w.0 since m w.1; lost = k m (inl refl) } in
      stuck_onto fs f.node w.0 w.2 (λ n h. k n (inr h)) (f.node ∷ rest) z refl (subst (λ x. LastAsk model f.node x) (sym e) l, s)

  pub ring : (fs : List Suspended) (m : Node) (since : List Node) → Waits model ev fs m since → Has (nodes_waiting fs) m → Distinct (nodes_waiting fs) → (lead rest : List Node) → onto (nodes_waiting fs) [] ≡ lead ++ m ∷ rest → IsRing model ev.node (m ∷ rest)
  ring fs m since w h d lead rest e = record {
    lead = lead;
    again = m;
    rest = rest;
    is = refl;
    begins = sym (first_or_front m m lead rest) ∙ ap (λ zs. first_or m zs) (sym e) ∙ ring_begins fs m since w h m;
    distinct = subst (λ zs. Distinct zs) e (distinct_onto (nodes_waiting fs) [] d tt (λ x q z. z));
    stuck = subst (λ zs. StuckChain model zs m) e (stuck_onto fs m since w (on_ring fs m since w h) [] m refl tt);
  }

  pub asked_nothing : (fs : List Suspended) (m : Node) (since : List Node) → Waits model ev fs m since → Has (nodes_waiting fs) m → MeansNothing model ev.node
  asked_nothing fs m since w h = on_ring fs m since w h ev.node (asked_on model ev fs m since w)

-- a chain by its first node and the others
record Fronted (n m : Node) (chain : List Node) : Type 0 where
  rest : List Node
  is : chain ++ m ∷ [] ≡ n ∷ rest
  long : length rest ≡ length chain

fronted : (n m : Node) (chain : List Node) → first_or m chain ≡ n → Fronted n m chain
fronted n m [] e = record { rest = []; is = ap (λ x. x ∷ []) e; long = refl }
fronted n m (c ∷ cs) e = record { rest = cs ++ m ∷ []; is = ap (λ x. x ∷ (cs ++ m ∷ [])) e; long = omega (arith, length-append cs (m ∷ [])) }

pub no_deep : (model : Model) (held : List Entry) (limit : ℕ) (n : Node) → IsShallow model limit 1 (nodes_of held) n → NoDeepChain model held limit n
no_deep model held limit n s m d =
    let f : Fronted n m d.chain = fronted n m d.chain d.begins in
    let h : 1 + length f.rest ≤ limit = s f.rest (subst (λ zs. IsFirstChain model zs) f.is d.first) (subst (λ zs. AreUnknown model zs (nodes_of held)) f.is d.unknown) in
    let a : length f.rest ≡ length d.chain = f.long in
    let b : length d.chain ≡ limit = d.long in
    absurd (omega arith)
