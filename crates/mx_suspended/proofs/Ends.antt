-- How an evaluation is complete: what is held at its end, and how many runs it began.
use Rattle.std.proofs.Common.{◌≡◌, true, false, ℕ, suc, ◌+◌, ◌≤◌, List, [], ◌∷◌, ◌++◌, length, ◌⊎◌, inl, inr, refl, sym, ◌∙◌, subst, arith}
use Rattle.std.proofs.lemmas.List.{append-nil, length-map}
use Rattle.mx_value.specs.declared.node.Node.{Node}
use Rattle.mx_edit.specs.Entry.{Entry}
use Rattle.mx_runs.specs.Lists.{Has, Distinct}
use Rattle.mx_runs.specs.Runs.{Model}
use Rattle.mx_runs.specs.Inputs.{is_input, InputsEnd}
use Rattle.mx_runs.specs.Chains.{DoesAsk, Reaches, HasValue}
use Rattle.mx_runs.proofs.Inputs.{input_asks_none, input_is_its_value}
use Rattle.mx_runs.proofs.Reach.{reach_within, reach_has_value}
use Rattle.mx_answers.specs.Held.{most_held, nodes_of, Counts, IsKnown, IsRight}
use Rattle.mx_answers.specs.Answers.{Evaluation, IsShallow, IsCounted, AreLost, Completes}
use Rattle.mx_answers.proofs.Held.{nodes_grow, held_value, holds_more}
use Rattle.mx_suspended.specs.Flights.{Suspended, nodes_waiting, Waits}
use Rattle.mx_suspended.proofs.Waiting.{asked_on, stack_reached, none_has_value, waits_closed, held_counts, handed_shallow}
use Rattle.mx_suspended.proofs.Deep.{no_deep}

pub input_has_value : (model : Model) (n : Node) → InputsEnd model → is_input model n ≡ true → HasValue model n
input_has_value model n ends i = record { reply = _; means = (input_is_its_value model n ends i).means }

-- what counts is no input
not_input : (model : Model) (n : Node) → Counts model n → is_input model n ≡ true → ⊥
not_input model n c i = let j : true ≡ false = sym i ∙ c.own in absurd (cc)

-- all that a node with a value reaches has one
pub none_lost : (model : Model) (n : Node) → HasValue model n → AreLost model n 0
none_lost model n v = record {
  nodes = [];
  distinct = tt;
  only = λ x h. absurd h;
  whole = λ x r none. absurd (none (reach_has_value model n x r v));
  many = refl;
}

-- where exactly what counts is held, no chain is too deep and each run is counted, an evaluation is complete
pub completes : (model : Model) (ev : Evaluation) (held more : List Entry) (ticks lost : ℕ) → IsRight model held → ev.held ++ more ≡ held → IsShallow model ev.limit 1 (nodes_of ev.held) ev.node → ((x : Node) → Has (nodes_of held) x → IsCounted model ev.held ev.node x) → ((x : Node) → Reaches model ev.node x → Counts model x → Has (nodes_of held) x) → AreLost model ev.node lost → ticks + length ev.held ≡ length held + lost → Completes model ev held ticks
completes model ev held more ticks lost right grown shallow only whole are_lost runs = record {
  room = record {
    shallow = no_deep model ev.held ev.limit ev.node shallow;
    few = record {
      nodes = nodes_of held;
      few = let i : length (nodes_of held) ≡ length held = length-map held (λ (e : Entry). e.node) in let j : length held ≤ most_held = right.room in omega arith;
      whole = λ x h. elim h [ inl i ↦ nodes_grow ev.held more held x (sym grown) i | inr i ↦ whole x i.0 i.1 ];
    };
  };
  holds = holds_more model ev.held more held ev.node right (sym grown) only whole;
  lost = lost;
  are_lost = are_lost;
  runs = runs;
}

-- an evaluation of a node that is known as it begins
pub known_completes : (model : Model) (ev : Evaluation) → InputsEnd model → IsRight model ev.held → HasValue model ev.node → IsKnown model (nodes_of ev.held) ev.node → ((x : Node) → Reaches model ev.node x → Counts model x → Has (nodes_of ev.held) x) → Completes model ev ev.held 0
known_completes model ev ends right v known whole =
    completes model ev ev.held [] 0 0 right (append-nil ev.held) (λ rest c d. absurd (d ev.node (inl refl) known)) (λ x h. inl h) whole (none_lost model ev.node v) (omega arith)

-- an evaluation that ends with no value, in the run of a node or as it is asked
module _ (model : Model) (ev : Evaluation) (ends : InputsEnd model) (fs : List Suspended) (m : Node) (since : List Node) (held more : List Entry) (w : Waits model ev fs m since) (right : IsRight model held) (grown : ev.held ++ more ≡ held) (still : (x : Node) → Has since x → Has (nodes_of held) x) (newly : (x : Node) → Has (nodes_of held) x → Has since x ⊎ Reaches model m x) (none : HasValue model m → ⊥) (own : (z : Node) → DoesAsk model m z → IsKnown model (nodes_of held) z ⊎ Has (m ∷ nodes_waiting fs) z) where
  -- a node that is known or in flight
  abbrev IsMet : Node → Type 0
  IsMet x = IsKnown model (nodes_of held) x ⊎ Has (m ∷ nodes_waiting fs) x

  stopped_closed : (y z : Node) → IsMet y → DoesAsk model y z → IsMet z
  stopped_closed y z s a =
      elim s [
        | inl k ↦ elim k [
          | inl h ↦ inl (right.closed y z h a)
          | inr i ↦ absurd (input_asks_none model y ends i z a)
        ]
        | inr h ↦ elim h [
          | inl e ↦ own z (subst (λ x. DoesAsk model x z) (sym e) a)
          | inr r ↦ waits_closed model ev fs m since (nodes_of held) w none still y z r a
        ]
      ]

  stopped_met : (x : Node) → Reaches model ev.node x → IsMet x
  stopped_met x r = reach_within model IsMet stopped_closed ev.node x (inr (asked_on model ev fs m since w)) r

  stopped_whole : (x : Node) → Reaches model ev.node x → Counts model x → Has (nodes_of held) x
  stopped_whole x r c =
      elim (stopped_met x r) [
        | inl k ↦ elim k [ inl h ↦ h | inr i ↦ absurd (not_input model x c i) ]
        | inr h ↦ absurd (none_has_value model ev fs m since w none x h c.value)
      ]

  -- the nodes in flight are those that are reached and have no value
  stopped_lost : (ns : List Node) → Distinct ns → ((x : Node) → Has (m ∷ nodes_waiting fs) x → Has ns x) → ((x : Node) → Has ns x → Has (m ∷ nodes_waiting fs) x) → AreLost model ev.node (length ns)
  stopped_lost ns d to from = record {
    nodes = ns;
    distinct = d;
    only = λ x h. (stack_reached model ev fs m since w x (from x h), none_has_value model ev fs m since w none x (from x h));
    whole = λ x r v. elim (stopped_met x r) [
      | inl k ↦ elim k [ inl h ↦ absurd (v (held_value model held right x h)) | inr i ↦ absurd (v (input_has_value model x ends i)) ]
      | inr h ↦ to x h
    ];
    many = refl;
  }

  pub stopped : (ns : List Node) → Distinct ns → ((x : Node) → Has (m ∷ nodes_waiting fs) x → Has ns x) → ((x : Node) → Has ns x → Has (m ∷ nodes_waiting fs) x) → (ticks : ℕ) → ticks + length ev.held ≡ length held + length ns → length fs ≤ ev.limit → IsShallow model ev.limit (suc (length fs)) (nodes_waiting fs ++ since) m → Completes model ev held ticks
  stopped ns d to from ticks runs le shallow =
      completes model ev held more ticks (length ns) right grown (handed_shallow model ev fs m since w none le shallow)
      (held_counts model ev fs m since held w right newly) stopped_whole (stopped_lost ns d to from) runs
