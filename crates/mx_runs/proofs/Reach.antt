-- How asks and chains of asks lead on.
use Rattle.std.proofs.Common.{List}
use Rattle.mx_value.specs.declared.node.Node.{Node}
use Rattle.mx_runs.specs.Runs.{Model, Event, Run}
use Rattle.mx_runs.specs.Meaning.{Leads}
use Rattle.mx_runs.specs.Chains.{asks_of, DoesAsk, Reaches, Itself, Through, ReachedFrom, HasValue}
use Rattle.mx_runs.proofs.Events.{asked_is_ask}
use Rattle.mx_runs.proofs.Meanings.{ask_has_value}

-- what is closed under asks has all that its nodes reach
pub reach_within : (model : Model) (S : Node → Type 0) → ((n m : Node) → S n → DoesAsk model n m → S m) → (n m : Node) → S n → Reaches model n m → S m
reach_within model S h n m s Itself = s
reach_within model S h n m s (Through k a r) = reach_within model S h k m (h n k s a) r

pub reach_on : (model : Model) (a b c : Node) → Reaches model a b → Reaches model b c → Reaches model a c
reach_on model a b c Itself r = r
reach_on model a b c (Through k x q) r = Through k x (reach_on model k b c q r)

pub reach_ask : (model : Model) (a b c : Node) → Reaches model a b → DoesAsk model b c → Reaches model a c
reach_ask model a b c r x = reach_on model a b c r (Through c x Itself)

-- what a run's asks reach, its node reaches
pub reached_by : (model : Model) (n : Node) (rest : Run) (es : List Event) (x : Node) → Leads model (model.body n) es rest → ReachedFrom model (asks_of es) x → Reaches model n x
reached_by model n rest es x l r = Through r.from (asked_is_ask model n rest es l r.from r.among) r.reaches

-- each node that a node with a value reaches has a value
pub reach_has_value : (model : Model) (n m : Node) → Reaches model n m → HasValue model n → HasValue model m
reach_has_value model n m r h = reach_within model (λ x. HasValue model x) (λ x y v a. ask_has_value model x y a v) n m h r
