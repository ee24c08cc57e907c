-- What the three nodes mean, ask and reach.
use Rattle.std.proofs.Common.{◌≡◌, true, List, [], ◌∷◌, ◌⊎◌, inl, inr, refl, sym, subst}
use Rattle.mx_value.specs.declared.value.Value.{Value}
use Rattle.mx_value.specs.declared.node.Node.{Node}
use Rattle.mx_value.specs.declared.node.Node.TheVariants.{Cell, Item}
use Rattle.mx_edit.specs.declared.key.Key.TheVariants.{Input}
use Rattle.mx_runs.specs.Runs.{Ends, Gives, Event, Looked, Tested, Asked}
use Rattle.mx_runs.specs.Inputs.{is_input, InputsEnd}
use Rattle.mx_runs.specs.Meaning.{Means, Leads}
use Rattle.mx_runs.specs.Chains.{DoesAsk, Reaches, Itself, Through, MeansNothing}
use Rattle.mx_runs.proofs.Runs.{asked_by_end, ask_case, Before, Now, After}
use Rattle.mx_runs.proofs.Meanings.{lost}
use Rattle.mx_runs.proofs.Reach.{reach_within}
use Rattle.mx_runs.proofs.Inputs.{input_asks_none}
use Rattle.mx_answers_examples.specs.Small.{put, asker, circle, small, plain, body}

pub inputs_end : (v : Value) → InputsEnd (small v)
inputs_end v (Cell at name arguments) i = record { go = _; starts = refl; ends = λ w. refl }
inputs_end v (Item at arguments) i = absurd (cc)

pub put_means : (v : Value) → Means (small v) put (Gives (plain v))
put_means v = record { at = 1; gives = refl; reached = tt }

pub asker_means : (v : Value) → Means (small v) asker (Gives (plain v))
asker_means v = record { at = 2; gives = refl; reached = tt }

abbrev pub run_of_asker : Value → List Event
run_of_asker v = Looked (Input asker) ∷ Tested (Input put) ∷ Asked put (plain v) ∷ []

pub asker_runs : (v : Value) → Leads (small v) (body asker) (run_of_asker v) (Ends (Gives (plain v)))
asker_runs v = (refl, (refl, (refl, put_means v, refl)))

pub put_is_input : (v : Value) → is_input (small v) put ≡ true
put_is_input v = refl

pub asker_asks : (v : Value) (m : Node) → DoesAsk (small v) asker m → put ≡ m
asker_asks v m a =
    elim (asked_by_end (small v) (body asker) m a.go (Gives (plain v)) a.events (run_of_asker v) a.leads (asker_runs v)) [ inl e ↦ e | inr h ↦ absurd h ]

pub does_ask : (v : Value) → DoesAsk (small v) asker put
does_ask v = record { events = Looked (Input asker) ∷ Tested (Input put) ∷ []; go = λ r. Ends (Gives r); leads = (refl, (refl, refl)) }

pub put_reaches : (v : Value) (m : Node) → Reaches (small v) put m → put ≡ m
put_reaches v m Itself = refl
put_reaches v m (Through k a r) = absurd (input_asks_none (small v) put (inputs_end v) refl k a)

pub asker_reaches : (v : Value) (m : Node) → Reaches (small v) asker m → (asker ≡ m) ⊎ (put ≡ m)
asker_reaches v m Itself = inl refl
asker_reaches v m (Through k a r) = inr (put_reaches v m (subst (λ x. Reaches (small v) x m) (sym (asker_asks v k a)) r))

pub circle_asks_itself : (v : Value) → DoesAsk (small v) circle circle
circle_asks_itself v = record { events = Looked (Input circle) ∷ []; go = λ r. Ends (Gives r); leads = (refl, refl) }

pub circle_lost : (v : Value) → MeansNothing (small v) circle
circle_lost v = lost (small v) (circle ∷ []) (λ n h. elim h [
  | inl e ↦ record { next = circle; within = inl refl; asks = subst (λ x. DoesAsk (small v) x circle) e (circle_asks_itself v) }
  | inr z ↦ absurd z
]) circle (inl refl)

pub circle_asks : (v : Value) (m : Node) → DoesAsk (small v) circle m → circle ≡ m
unfolding circle_asks_itself
circle_asks v m a =
    let b : DoesAsk (small v) circle circle = circle_asks_itself v in
    elim (ask_case (small v) (body circle) m circle a.go b.go a.events b.events a.leads b.leads) [
      | Before h ↦ absurd h
      | Now e i ↦ sym i
      | After h w ↦ absurd (circle_lost v (Gives w.reply) w.means)
    ]

pub circle_reaches : (v : Value) (m : Node) → Reaches (small v) circle m → circle ≡ m
circle_reaches v m r =
    reach_within (small v) (λ x. circle ≡ x) (λ x y e a. circle_asks v y (subst (λ z. DoesAsk (small v) z y) (sym e) a)) circle m refl r
