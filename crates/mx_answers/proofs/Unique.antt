-- One answer.
use Rattle.std.proofs.Common.{◌≡◌, ℕ, suc, ◌≤◌, List, length, Result, Ok, Err, refl, sym, ◌∙◌, ap, arith}
use Rattle.mx_value.specs.declared.node.Node.{Node}
use Rattle.mx_value.specs.declared.value.Value.{Value as Values}
use Rattle.mx_value.specs.declared.refusal.EvalRefusal.{EvalRefusal}
use Rattle.mx_value.specs.declared.refusal.EvalRefusal.TheVariants as refusal
use Rattle.mx_edit.specs.Entry.{Entry}
use Rattle.mx_runs.specs.Runs.{Model, Outcome, Gives, Faults, NoSuch, WrongCount, NoLevel}
use Rattle.mx_runs.specs.Meaning.{Means}
use Rattle.mx_runs.specs.Chains.{IsRing, MeansNothing}
use Rattle.mx_runs.proofs.Lists.{no_more}
use Rattle.mx_runs.proofs.Levels.{one_meaning}
use Rattle.mx_runs.proofs.Rings.{one_ring}
use Rattle.mx_answers.specs.Answers.{Evaluation, Answer, IsSettled, AtMost, PastMost, HasRoom}
use Rattle.mx_answers.specs.Laws.{OneAnswer, NotRefused}

pub few_or_many : (model : Model) (held : List Entry) (n : Node) (most : ℕ) → AtMost model held n most → PastMost model held n most → ⊥
few_or_many model held n most a p =
    let h : length p.nodes ≤ length a.nodes = no_more p.nodes a.nodes p.distinct (λ x i. a.whole x (p.each x i)) in
    let i : length a.nodes ≤ most = a.few in
    let j : length p.nodes ≡ suc most = p.many in
    absurd (omega arith)

-- how an outcome is answered; one that is not reached never is
abbrev told : Outcome → Result Values EvalRefusal
told (Gives r) = Ok r.value
told (Faults k m line) = Err (refusal.Fault k m line)
told NoSuch = Err refusal.NoSuch
told WrongCount = Err refusal.WrongCount
told NoLevel = Err refusal.NoMemory

-- what a settled answer rests on
pub data RestsOn (model : Model) (n : Node) (a : Result Values EvalRefusal) : Type 0 where
  Meant : (o : Outcome) → Means model n o → a ≡ told o → RestsOn model n a
  Circles : (ring : List Node) → IsRing model n ring → MeansNothing model n → a ≡ Err (refusal.Ring ring) → RestsOn model n a

pub same_answer : (model : Model) (n : Node) (a b : Result Values EvalRefusal) → RestsOn model n a → RestsOn model n b → a ≡ b
same_answer model n a b (Meant o m e) (Meant p k f) = e ∙ ap told (one_meaning model n o p m k) ∙ sym f
same_answer model n a b (Meant o m e) (Circles ring r lost f) = absurd (lost o m)
same_answer model n a b (Circles ring r lost e) (Meant p k f) = absurd (lost p k)
same_answer model n a b (Circles ring r lost e) (Circles other s none f) = e ∙ ap (λ (ns : List Node). Err (refusal.Ring ns)) (one_ring model n ring other r s) ∙ sym f

module _ (model : Model) (ev : Evaluation) where
  pub rests : (a : Result Values EvalRefusal) (after : List Entry) (ticks : ℕ) → Answer model ev a after ticks → IsSettled a → RestsOn model ev.node a × HasRoom model ev
  rests (Ok v) after ticks x i = (Meant (Gives x.0.reply) x.0.means (ap Ok (sym x.0.value)), x.1.room)
  rests (Err (refusal.Fault k m line)) after ticks x i = (Meant (Faults k m line) x.0 refl, x.1.room)
  rests (Err (refusal.Ring ring)) after ticks x i = (Circles ring x.0 x.1 refl, x.2.room)
  rests (Err refusal.NoSuch) after ticks x i = (Meant NoSuch x.0 refl, x.1.room)
  rests (Err refusal.WrongCount) after ticks x i = (Meant WrongCount x.0 refl, x.1.room)
  rests (Err (refusal.TooDeep m)) after ticks x i = absurd i
  rests (Err refusal.Full) after ticks x i = absurd i
  rests (Err refusal.NoMemory) after ticks x i = absurd i

  -- what is answered where there is room is settled
  pub with_room : (b : Result Values EvalRefusal) (after : List Entry) (ticks : ℕ) → Answer model ev b after ticks → HasRoom model ev → (b ≡ Err refusal.NoMemory → ⊥) → IsSettled b
  with_room (Ok v) after ticks y h k = tt
  with_room (Err (refusal.Fault q m line)) after ticks y h k = tt
  with_room (Err (refusal.Ring ring)) after ticks y h k = tt
  with_room (Err refusal.NoSuch) after ticks y h k = tt
  with_room (Err refusal.WrongCount) after ticks y h k = tt
  with_room (Err (refusal.TooDeep m)) after ticks y h k = h.shallow m y.0
  with_room (Err refusal.Full) after ticks y h k = few_or_many model ev.held ev.node _ h.few y.0
  with_room (Err refusal.NoMemory) after ticks y h k = k refl

pub one_answer : OneAnswer
one_answer model ev a b after last ticks runs x y i j =
    same_answer model ev.node a b (rests model ev a after ticks x i).0 (rests model ev b last runs y j).0

pub not_refused : NotRefused
not_refused model ev a b after last ticks runs x y i k = with_room model ev b last runs y (rests model ev a after ticks x i).1 k
