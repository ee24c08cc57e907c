-- What a node means: what its run comes to, over what keys lead to and what the nodes mean that it asks.
use Rattle.std.specs.Prelude.{◌≡◌, ℕ, zero, suc, List, [], ◌∷◌}
use Rattle.mx_value.specs.declared.node.Node.{Node}
use Rattle.mx_edit.specs.declared.key.Key.{Key}
use Rattle.mx_edit.specs.declared.key.KeyResult.{KeyResult}
use Rattle.mx_edit.specs.declared.reply.Reply.{Reply}
use Rattle.mx_runs.specs.Runs.{Model, Outcome, Gives, Faults, NoSuch, WrongCount, NoLevel, Run, Ends, Looks, Tests, Asks, Notes, Event, Looked, Tested, Asked, Noted}

-- an ask without a value ends the run
abbrev pub answered : Outcome → (Reply → Outcome) → Outcome
answered (Gives r) go = go r
answered (Faults k n line) go = Faults k n line
answered NoSuch go = NoSuch
answered WrongCount go = WrongCount
answered NoLevel go = NoLevel

-- the end of a run over what keys lead to and what asked nodes come to
abbrev pub ending : (Key → KeyResult) → (Node → Outcome) → Run → Outcome
ending look ask (Ends o) = o
ending look ask (Looks key go) = ending look ask (go (look key))
ending look ask (Tests key go) = ending look ask (go (look key))
ending look ask (Asks m go) = answered (ask m) (λ r. ending look ask (go r))
ending look ask (Notes read run) = ending look ask run

-- what a node gives where chains of at most so many runs are followed
abbrev pub level : Model → ℕ → Node → Outcome
level model zero n = NoLevel
level model (suc k) n = ending model.look (level model k) (model.body n)

-- the run came to an end at this level
abbrev pub IsReached : Outcome → Type 0
IsReached (Gives r) = Unit {0}
IsReached (Faults k n line) = Unit {0}
IsReached NoSuch = Unit {0}
IsReached WrongCount = Unit {0}
IsReached NoLevel = ⊥

-- what the node means: what some level gives
pub record Means (model : Model) (n : Node) (o : Outcome) : Type 0 where
  pub at : ℕ
  pub gives : level model at n ≡ o
  pub reached : IsReached o

-- the run comes by these events to the rest of it
abbrev pub Leads : Model → Run → List Event → Run → Type 0
Leads model run [] rest = run ≡ rest
Leads model (Looks key go) (Looked k ∷ es) rest = (k ≡ key) × Leads model (go (model.look key)) es rest
Leads model (Tests key go) (Tested k ∷ es) rest = (k ≡ key) × Leads model (go (model.look key)) es rest
Leads model (Asks m go) (Asked x r ∷ es) rest = (x ≡ m) × Means model m (Gives r) × Leads model (go r) es rest
Leads model (Notes read run) (Noted r ∷ es) rest = (r ≡ read) × Leads model run es rest
Leads model run (e ∷ es) rest = ⊥
