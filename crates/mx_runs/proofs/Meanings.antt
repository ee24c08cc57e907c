-- What the end of a run means, and how the end of an asked node reaches those that wait for it.
use Rattle.std.proofs.Common.{◌≡◌, ℕ, zero, suc, ◌+◌, List, [], ◌∷◌, refl, sym, ◌∙◌, ap, subst, arith}
use Rattle.mx_value.specs.declared.node.Node.{Node}
use Rattle.mx_edit.specs.declared.reply.Reply.{Reply}
use Rattle.mx_runs.specs.Lists.{Has}
use Rattle.mx_runs.specs.Runs.{Model, Event, Looked, Tested, Asked, Noted, Tests, Outcome, Gives, Faults, NoSuch, WrongCount, NoLevel, Run, Ends, Looks, Asks, Notes}
use Rattle.mx_runs.specs.Meaning.{ending, answered, level, IsReached, Means, Leads}
use Rattle.mx_runs.proofs.Levels.{level_more, ending_more, one_meaning, same_value}
use Rattle.mx_runs.proofs.Runs.{asked_by_end}
use Rattle.mx_runs.proofs.Events.{asked_has_value}
use Rattle.mx_runs.specs.Chains.{DoesAsk, HasValue, MeansNothing}

-- what the end of a run is at some level
pub record EndsAs (model : Model) (run : Run) (o : Outcome) : Type 0 where
  pub at : ℕ
  pub ends : ending model.look (level model at) run ≡ o

asked_more : (model : Model) (m : Node) (go : Reply → Run) (v : Reply) (o : Outcome) → IsReached o → Means model m (Gives v) → EndsAs model (go v) o → EndsAs model (Asks m go) o
asked_more model m go v o r h e =
    let k : ℕ = h.at + e.at in
    let a : level model k m ≡ Gives v = level_more model h.at e.at m (subst IsReached (sym h.gives) tt) ∙ h.gives in
    let z : e.at + h.at ≡ k = omega arith in
    let b : ending model.look (level model k) (go v) ≡ o =
    subst (λ j. ending model.look (level model j) (go v) ≡ o) z
    (ending_more model.look (level model e.at) (level model (e.at + h.at)) (level_more model e.at h.at) (go v) (subst IsReached (sym e.ends) r) ∙ e.ends) in
    record { at = k; ends = ap (λ p. answered p (λ w. ending model.look (level model k) (go w))) a ∙ b }

pub leads_to_end : (model : Model) (run rest : Run) (es : List Event) (o : Outcome) → IsReached o → Leads model run es rest → EndsAs model rest o → EndsAs model run o
leads_to_end model run rest [] o r l e = subst (λ x. EndsAs model x o) (sym l) e
leads_to_end model (Looks key go) rest (Looked x ∷ es) o r l e =
    let h : EndsAs model (go (model.look key)) o = leads_to_end model (go (model.look key)) rest es o r l.1 e in
    record { at = h.at; ends = h.ends }
leads_to_end model (Tests key go) rest (Tested x ∷ es) o r l e =
    let h : EndsAs model (go (model.look key)) o = leads_to_end model (go (model.look key)) rest es o r l.1 e in
    record { at = h.at; ends = h.ends }
leads_to_end model (Asks m go) rest (Asked x v ∷ es) o r l e = asked_more model m go v o r l.1 (leads_to_end model (go v) rest es o r l.2 e)
leads_to_end model (Notes read run) rest (Noted x ∷ es) o r l e = let h : EndsAs model run o = leads_to_end model run rest es o r l.1 e in record { at = h.at; ends = h.ends }
leads_to_end model run rest (x ∷ es) o r l e = absurd l

means_end : (model : Model) (n : Node) (o : Outcome) → IsReached o → EndsAs model (model.body n) o → Means model n o
means_end model n o r e = record { at = suc e.at; gives = e.ends; reached = r }

-- a run that ended means its end
pub finished : (model : Model) (n : Node) (es : List Event) (o : Outcome) → IsReached o → Leads model (model.body n) es (Ends o) → Means model n o
finished model n es o r l = means_end model n o r (leads_to_end model (model.body n) (Ends o) es o r l (record { at = 0; ends = refl }))

-- an outcome that is no value
abbrev pub IsFailure : Outcome → Type 0
IsFailure (Gives v) = ⊥
IsFailure (Faults k n line) = Unit {0}
IsFailure NoSuch = Unit {0}
IsFailure WrongCount = Unit {0}
IsFailure NoLevel = ⊥

pub failure_reached : (o : Outcome) → IsFailure o → IsReached o
failure_reached (Gives v) f = absurd f
failure_reached (Faults k n line) f = tt
failure_reached NoSuch f = tt
failure_reached WrongCount f = tt
failure_reached NoLevel f = absurd f

passes_on : (o : Outcome) → IsFailure o → (go : Reply → Outcome) → answered o go ≡ o
passes_on (Gives v) f go = absurd f
passes_on (Faults k n line) f go = refl
passes_on NoSuch f go = refl
passes_on WrongCount f go = refl
passes_on NoLevel f go = absurd f

-- a failure is passed on to the run that asks
pub passed_on : (model : Model) (n m : Node) (es : List Event) (go : Reply → Run) (o : Outcome) → IsFailure o → Leads model (model.body n) es (Asks m go) → Means model m o → Means model n o
passed_on model n m es go o f l h =
    means_end model n o (failure_reached o f) (leads_to_end model (model.body n) (Asks m go) es o (failure_reached o f) l
    (record { at = h.at; ends = ap (λ p. answered p (λ w. ending model.look (level model h.at) (go w))) h.gives ∙ passes_on o f _ }))

-- a node that means a failure has no value
pub failure_no_value : (model : Model) (n : Node) (o : Outcome) → IsFailure o → Means model n o → HasValue model n → ⊥
failure_no_value model n o f m h = subst IsFailure (one_meaning model n o (Gives h.reply) m h.means) f

pub answered_value : (o : Outcome) (go : Reply → Outcome) (v : Reply) → answered o go ≡ Gives v → (w : Reply) × (o ≡ Gives w) × (go w ≡ Gives v)
answered_value (Gives w) go v e = (w, refl, e)
answered_value (Faults k n line) go v e = absurd (cc)
answered_value NoSuch go v e = absurd (cc)
answered_value WrongCount go v e = absurd (cc)
answered_value NoLevel go v e = absurd (cc)

pub given_at : (model : Model) (k : ℕ) (m : Node) (w : Reply) → level model k m ≡ Gives w → Means model m (Gives w)
given_at model k m w e = record { at = k; gives = e; reached = tt }

-- the whole run of a node with a value
pub record Whole (model : Model) (run : Run) (v : Reply) : Type 0 where
  pub events : List Event
  pub leads : Leads model run events (Ends (Gives v))

run_to_end : (model : Model) (k : ℕ) (run : Run) (v : Reply) → ending model.look (level model k) run ≡ Gives v → Whole model run v
run_to_end model k (Ends o) v e = record { events = []; leads = ap Ends e }
run_to_end model k (Looks key go) v e = let w = run_to_end model k (go (model.look key)) v e in record { events = Looked key ∷ w.events; leads = (refl, w.leads) }
run_to_end model k (Tests key go) v e = let w = run_to_end model k (go (model.look key)) v e in record { events = Tested key ∷ w.events; leads = (refl, w.leads) }
run_to_end model k (Notes read run) v e = let w = run_to_end model k run v e in record { events = Noted read ∷ w.events; leads = (refl, w.leads) }
run_to_end model k (Asks m go) v e =
    let a = answered_value (level model k m) (λ u. ending model.look (level model k) (go u)) v e in
    let w = run_to_end model k (go a.0) v a.2 in
    record { events = Asked m a.0 ∷ w.events; leads = (refl, given_at model k m a.0 a.1, w.leads) }

pub whole_at : (model : Model) (n : Node) (v : Reply) (k : ℕ) → level model k n ≡ Gives v → Whole model (model.body n) v
whole_at model n v zero e = absurd (cc)
whole_at model n v (suc k) e = run_to_end model k (model.body n) v e

-- each node that a node with a value asks has a value
pub ask_has_value : (model : Model) (n m : Node) → DoesAsk model n m → HasValue model n → HasValue model m
ask_has_value model n m a h =
    let w = whole_at model n h.reply h.means.at h.means.gives in
    asked_has_value model n (Ends (Gives h.reply)) w.events w.leads m (asked_by_end model (model.body n) m a.go (Gives h.reply) a.events w.events a.leads w.leads)

unreached_asked : (model : Model) (k : ℕ) (y : Node) (f : Reply → Run) (u : Reply) (o : Outcome) → level model k y ≡ o → Means model y (Gives u) → ending model.look (level model k) (f u) ≡ NoLevel → ending model.look (level model k) (Asks y f) ≡ NoLevel
unreached_asked model k y f u (Gives w) e h r =
    let s : w ≡ u = same_value model y w u (given_at model k y w e) h in
    ap (λ o. answered o (λ z. ending model.look (level model k) (f z))) e ∙ ap (λ z. ending model.look (level model k) (f z)) s ∙ r
unreached_asked model k y f u (Faults q n line) e h r = absurd (let x : Faults q n line ≡ Gives u = one_meaning model y (Faults q n line) (Gives u) (record { at = k; gives = e; reached = tt }) h in cc)
unreached_asked model k y f u NoSuch e h r = absurd (let x : NoSuch ≡ Gives u = one_meaning model y NoSuch (Gives u) (record { at = k; gives = e; reached = tt }) h in cc)
unreached_asked model k y f u WrongCount e h r = absurd (let x : WrongCount ≡ Gives u = one_meaning model y WrongCount (Gives u) (record { at = k; gives = e; reached = tt }) h in cc)
unreached_asked model k y f u NoLevel e h r = ap (λ o. answered o (λ z. ending model.look (level model k) (f z))) e

-- where the node that a run waits for is not reached, the run is not
unreached : (model : Model) (k : ℕ) (run : Run) (m : Node) (go : Reply → Run) (es : List Event) → Leads model run es (Asks m go) → level model k m ≡ NoLevel → ending model.look (level model k) run ≡ NoLevel
unreached model k run m go [] l e = subst (λ r. ending model.look (level model k) r ≡ NoLevel) (sym l) (ap (λ o. answered o (λ w. ending model.look (level model k) (go w))) e)
unreached model k (Looks key f) m go (Looked x ∷ es) l e = unreached model k (f (model.look key)) m go es l.1 e
unreached model k (Tests key f) m go (Tested x ∷ es) l e = unreached model k (f (model.look key)) m go es l.1 e
unreached model k (Asks y f) m go (Asked x u ∷ es) l e = unreached_asked model k y f u (level model k y) refl l.1 (unreached model k (f u) m go es l.2 e)
unreached model k (Notes read run) m go (Noted x ∷ es) l e = unreached model k run m go es l.1 e
unreached model k run m go (x ∷ es) l e = absurd l

pub record AsksWithin (model : Model) (ns : List Node) (n : Node) : Type 0 where
  pub next : Node
  pub within : Has ns next
  pub asks : DoesAsk model n next

lost_at : (model : Model) (ns : List Node) → ((n : Node) → Has ns n → AsksWithin model ns n) → (k : ℕ) (n : Node) → Has ns n → level model k n ≡ NoLevel
lost_at model ns h zero n i = refl
lost_at model ns h (suc k) n i = let a = h n i in unreached model k (model.body n) a.next a.asks.go a.asks.events a.asks.leads (lost_at model ns h k a.next a.within)

-- nodes that wait for each other mean nothing
pub lost : (model : Model) (ns : List Node) → ((n : Node) → Has ns n → AsksWithin model ns n) → (n : Node) → Has ns n → MeansNothing model n
lost model ns h n i o m = subst IsReached (sym m.gives ∙ lost_at model ns h m.at n i) m.reached

means_nothing_level : (model : Model) (m : Node) (k : ℕ) (o : Outcome) → level model k m ≡ o → MeansNothing model m → level model k m ≡ NoLevel
means_nothing_level model m k (Gives v) e h = absurd (h (Gives v) (record { at = k; gives = e; reached = tt }))
means_nothing_level model m k (Faults q n line) e h = absurd (h (Faults q n line) (record { at = k; gives = e; reached = tt }))
means_nothing_level model m k NoSuch e h = absurd (h NoSuch (record { at = k; gives = e; reached = tt }))
means_nothing_level model m k WrongCount e h = absurd (h WrongCount (record { at = k; gives = e; reached = tt }))
means_nothing_level model m k NoLevel e h = e

lost_level : (model : Model) (n m : Node) → DoesAsk model n m → MeansNothing model m → (k : ℕ) → level model k n ≡ NoLevel
lost_level model n m a h zero = refl
lost_level model n m a h (suc k) = unreached model k (model.body n) m a.go a.events a.leads (means_nothing_level model m k (level model k m) refl h)

-- where the node that a run waits for means nothing, the run's node does
pub waiting_lost : (model : Model) (n m : Node) → DoesAsk model n m → MeansNothing model m → MeansNothing model n
waiting_lost model n m a h o e = subst IsReached (sym e.gives ∙ lost_level model n m a h e.at) e.reached
