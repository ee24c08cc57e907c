-- Runs that wait, one for the other.
use Rattle.std.proofs.Common.{ℕ, suc, ◌≤◌, List, [], ◌∷◌, ◌++◌, length, ◌⊎◌, inl, inr, refl, sym, subst, arith}
use Rattle.mx_value.specs.declared.node.Node.{Node}
use Rattle.mx_edit.specs.Entry.{Entry}
use Rattle.mx_runs.specs.Lists.{Has}
use Rattle.mx_runs.specs.Runs.{Model, Outcome, Asks}
use Rattle.mx_runs.specs.Meaning.{Means}
use Rattle.mx_runs.specs.Chains.{asks_of, DoesAsk, Reaches, Itself, HasValue}
use Rattle.mx_runs.proofs.Runs.{Before, Now, After, ask_case}
use Rattle.mx_runs.proofs.Meanings.{IsFailure, passed_on, ask_has_value, AsksWithin}
use Rattle.mx_runs.proofs.Reach.{reach_on, reach_ask}
use Rattle.mx_answers.specs.Held.{nodes_of, Counts, IsKnown, IsRight}
use Rattle.mx_answers.specs.Answers.{Evaluation, IsShallow, IsCounted}
use Rattle.mx_answers.proofs.Held.{input_or_not, held_value}
use Rattle.mx_suspended.specs.Flights.{Suspended, nodes_waiting, StandsAt, Waits}
use Rattle.mx_suspended.proofs.Growing.{asked_recorded, reached_on}
use Rattle.mx_suspended.proofs.Standing.{stands_shallow_ask}

-- a held node counts
pub counts : (model : Model) (held : List Entry) → IsRight model held → (x : Node) → Has (nodes_of held) x → Counts model x
counts model held right x h = record { value = held_value model held right x h; own = right.own x h }

module _ (model : Model) (ev : Evaluation) where
  pub frame_asks : (f : Suspended) (depth : ℕ) (before since : List Node) (m : Node) → StandsAt model ev.limit depth before since f.node f.so_far (Asks m f.go) → DoesAsk model f.node m
  frame_asks f depth before since m s = record { events = s.comes.events; go = f.go; leads = s.comes.leads }

  -- what such a run asked before is known
  pub asked_known : (f : Suspended) (depth : ℕ) (before since : List Node) (m : Node) → (s : StandsAt model ev.limit depth before since f.node f.so_far (Asks m f.go)) → (x : Node) → Has (asks_of s.comes.events) x → IsKnown model since x
  asked_known f depth before since m s x h =
      elim (input_or_not model x) [
        | inl i ↦ inr i
        | inr i ↦ inl (s.kept x (asked_recorded model f.node f.so_far (Asks m f.go) s.comes x i h))
      ]

  -- a failure goes down to the node that is asked for
  pub handed_down : (fs : List Suspended) (m : Node) (since : List Node) (o : Outcome) → IsFailure o → Waits model ev fs m since → Means model m o → Means model ev.node o
  handed_down [] m since o f w h = subst (λ x. Means model x o) w.0 h
  handed_down (g ∷ fs) m since o f w h = handed_down fs g.node w.0 o f w.2 (passed_on model g.node m w.1.comes.events g.go o f w.1.comes.leads h)

  up_no_value : (f : Suspended) (depth : ℕ) (before since : List Node) (m : Node) → StandsAt model ev.limit depth before since f.node f.so_far (Asks m f.go) → (HasValue model m → ⊥) → HasValue model f.node → ⊥
  up_no_value f depth before since m s none h = none (ask_has_value model f.node m (frame_asks f depth before since m s) h)

  -- where the asked node has no value, none that waits has
  pub none_has_value : (fs : List Suspended) (m : Node) (since : List Node) → Waits model ev fs m since → (HasValue model m → ⊥) → (x : Node) → Has (m ∷ nodes_waiting fs) x → HasValue model x → ⊥
  none_has_value [] m since w none x h v = elim h [ inl e ↦ none (subst (λ y. HasValue model y) (sym e) v) | inr z ↦ absurd z ]
  none_has_value (f ∷ fs) m since w none x h v =
      elim h [
        | inl e ↦ none (subst (λ y. HasValue model y) (sym e) v)
        | inr r ↦ none_has_value fs f.node w.0 w.2 (up_no_value f (suc (length fs)) w.0 since m w.1 none) x r v
      ]

  pub handed_shallow : (fs : List Suspended) (m : Node) (since : List Node) → Waits model ev fs m since → (HasValue model m → ⊥) → length fs ≤ ev.limit → IsShallow model ev.limit (suc (length fs)) (nodes_waiting fs ++ since) m → IsShallow model ev.limit 1 (nodes_of ev.held) ev.node
  handed_shallow [] m since w none le s = subst (λ x. IsShallow model ev.limit 1 (nodes_of ev.held) x) w.0 (subst (λ ns. IsShallow model ev.limit 1 ns m) w.1 s)
  handed_shallow (f ∷ fs) m since w none le s =
      handed_shallow fs f.node w.0 w.2 (up_no_value f (suc (length fs)) w.0 since m w.1 none) (omega arith)
      (stands_shallow_ask model ev.limit (suc (length fs)) w.0 since f.node m f.go f.so_far w.1 (nodes_waiting fs) none s le)

  -- what was held at the start is still held
  pub waits_still : (fs : List Suspended) (m : Node) (since : List Node) → Waits model ev fs m since → (x : Node) → Has (nodes_of ev.held) x → Has since x
  waits_still [] m since w x h = subst (λ ns. Has ns x) (sym w.1) h
  waits_still (f ∷ fs) m since w x h = w.1.still x (waits_still fs f.node w.0 w.2 x h)

  pub asked_reaches : (fs : List Suspended) (m : Node) (since : List Node) → Waits model ev fs m since → Reaches model ev.node m
  asked_reaches [] m since w = subst (λ x. Reaches model x m) w.0 Itself
  asked_reaches (f ∷ fs) m since w = reach_ask model ev.node f.node m (asked_reaches fs f.node w.0 w.2) (frame_asks f (suc (length fs)) w.0 since m w.1)

  pub asked_on : (fs : List Suspended) (m : Node) (since : List Node) → Waits model ev fs m since → Has (m ∷ nodes_waiting fs) ev.node
  asked_on [] m since w = inl w.0
  asked_on (f ∷ fs) m since w = inr (asked_on fs f.node w.0 w.2)

  -- what is held since is what was held at the start, and nodes that the asked node reaches
  pub waits_only : (fs : List Suspended) (m : Node) (since : List Node) → Waits model ev fs m since → (x : Node) → Has since x → Has (nodes_of ev.held) x ⊎ Reaches model ev.node x
  waits_only [] m since w x h = inl (subst (λ ns. Has ns x) w.1 h)
  waits_only (f ∷ fs) m since w x h =
      elim (w.1.newly x h) [
        | inl a ↦ waits_only fs f.node w.0 w.2 x a
        | inr b ↦ inr (reach_on model ev.node f.node x (asked_reaches fs f.node w.0 w.2) (reached_on model f.node f.so_far (Asks m f.go) w.1.comes x b))
      ]

  -- each node that is asked by one that waits is known, or is in flight
  pub waits_closed : (fs : List Suspended) (m : Node) (since held : List Node) → Waits model ev fs m since → (HasValue model m → ⊥) → ((x : Node) → Has since x → Has held x) → (y z : Node) → Has (nodes_waiting fs) y → DoesAsk model y z → IsKnown model held z ⊎ Has (m ∷ nodes_waiting fs) z
  waits_closed [] m since held w none k y z h a = absurd h
  waits_closed (f ∷ fs) m since held w none k y z h a =
      elim h [
        | inl e ↦
            let b : DoesAsk model f.node z = subst (λ x. DoesAsk model x z) (sym e) a in
            elim (ask_case model (model.body f.node) z m b.go f.go b.events w.1.comes.events b.leads w.1.comes.leads) [
              | Before q ↦ inl (elim (asked_known f (suc (length fs)) w.0 since m w.1 z q) [ inl i ↦ inl (k z i) | inr i ↦ inr i ])
              | Now i q ↦ inr (inl (sym q))
              | After q v ↦ absurd (none v)
            ]
        | inr r ↦ elim (waits_closed fs f.node w.0 held w.2 (up_no_value f (suc (length fs)) w.0 since m w.1 none) (λ x q. k x (w.1.still x q)) y z r a) [
          | inl q ↦ inl q
          | inr q ↦ inr (inr q)
        ]
      ]

  pub waits_asks : (fs : List Suspended) (m : Node) (since : List Node) → Waits model ev fs m since → (y : Node) → Has (nodes_waiting fs) y → AsksWithin model (m ∷ nodes_waiting fs) y
  waits_asks [] m since w y h = absurd h
  waits_asks (f ∷ fs) m since w y h =
      elim h [
        | inl e ↦ record { next = m; within = inl refl; asks = subst (λ x. DoesAsk model x m) e (frame_asks f (suc (length fs)) w.0 since m w.1) }
        | inr r ↦ let q = waits_asks fs f.node w.0 w.2 y r in record { next = q.next; within = inr q.within; asks = q.asks }
      ]

  pub stack_reached : (fs : List Suspended) (m : Node) (since : List Node) → Waits model ev fs m since → (x : Node) → Has (m ∷ nodes_waiting fs) x → Reaches model ev.node x
  stack_reached [] m since w x h = elim h [ inl e ↦ subst (λ y. Reaches model ev.node y) e (asked_reaches [] m since w) | inr z ↦ absurd z ]
  stack_reached (f ∷ fs) m since w x h = elim h [ inl e ↦ subst (λ y. Reaches model ev.node y) e (asked_reaches (f ∷ fs) m since w) | inr r ↦ stack_reached fs f.node w.0 w.2 x r ]

  -- each held node was held at the start, or is reached and counts
  pub held_counts : (fs : List Suspended) (m : Node) (since : List Node) (held : List Entry) → Waits model ev fs m since → IsRight model held → ((x : Node) → Has (nodes_of held) x → Has since x ⊎ Reaches model m x) → (x : Node) → Has (nodes_of held) x → IsCounted model ev.held ev.node x
  held_counts fs m since held w right newly x h =
      let v : Counts model x = counts model held right x h in
      elim (newly x h) [
        | inl a ↦ elim (waits_only fs m since w x a) [ inl b ↦ inl b | inr b ↦ inr (b, v) ]
        | inr a ↦ inr (reach_on model ev.node m x (asked_reaches fs m since w) a, v)
      ]
