-- What a call or a subscript leads to, past what it looks up.
use Rattle.std.specs.Prelude.{◌≡◌, ℕ}
use Rattle.mx_value.specs.declared.value.Value.{Value}
use Rattle.mx_runs.specs.Runs.{NoSuch, WrongCount}
use Rattle.mx_code_law.specs.States.{State, Home, Next, On, End, Ask, Fault}
use Rattle.mx_code_law.specs.Finding.{Again}
use Rattle.mx_read_set.specs.Seen.{Seen}
use Rattle.mx_read_set.specs.Passed.{passed}
use Rattle.mx_walks.specs.Ways.{Look}
use Rattle.mx_walks.specs.declared.called.Called.{Called}
use Rattle.mx_walks.specs.declared.called.Called.TheVariants as called

-- what comes of an instruction at a line by what it led to
abbrev pub called_as : Home → ℕ → Called → Again → (Value → State) → Next
called_as h line (called.Leaves v) again to = On (to v)
called_as h line (called.Asks m) again to = Ask m (λ r. to r.value)
called_as h line (called.AsksOnWalk m rest) again to = Ask m (λ r. again rest r.namespace)
called_as h line (called.Faults kind) again to = Fault h kind line
called_as h line called.NoSuch again to = End NoSuch
called_as h line called.WrongCount again to = End WrongCount

-- what comes of an instruction, wherever it stands and however it goes on
abbrev pub Coming : Type 0
Coming = Home → ℕ → Again → (Value → State) → Next

-- it is what this led to
abbrev pub IsCalled : Coming → Called → Type 0
IsCalled coming result = (h : Home) (line : ℕ) (again : Again) (to : Value → State) → coming h line again to ≡ called_as h line result again to

-- past what it looks up it comes to what this led to, and so much is read then
abbrev pub Comes : Look → Coming → Called → Seen → Seen → Type 0
Comes look coming result old new =
    (h : Home) (line : ℕ) (again : Again) (to : Value → State) → passed look (coming h line again to) old ≡ passed look (called_as h line result again to) new
