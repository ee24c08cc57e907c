-- What it is that instructions do what expressions and statements mean.
use Rattle.std.specs.Prelude.{◌≡◌, ◌<◌, ◌≤◌, ℕ, ◌+◌, List, [], ◌∷◌, Option, Some, None, length, map, get_or, slice_get}
use Rattle.mx_value.specs.declared.label.Label.{Label}
use Rattle.mx_value.specs.declared.value.Value.{Value}
use Rattle.mx_runs.specs.Runs.{Run}
use Rattle.mx_meaning.specs.Environments.{Env, Locals, Reading}
use Rattle.mx_meaning.specs.Lookup.{Callee, Part}
use Rattle.mx_meaning.specs.Statements.{Returned, Doing}
use Rattle.mx_code.specs.declared.action.Instr.{Instr}
use Rattle.mx_code.specs.declared.action.Local.{Local}
use Rattle.mx_code.specs.Names.{place_of}
use Rattle.mx_code.specs.Statements.{places_for}
use Rattle.mx_code_law.specs.States.{Slot, Holds, slot_of, state, End, Home}
use Rattle.mx_code_law.specs.Returning.{outcome_of}
use Rattle.mx_code_law.specs.Machine.{Leads, Does}

-- The instructions stand in the code at this place, and need no more places for locals than there are.
abbrev pub HasAt : List Instr → ℕ → ℕ → List Instr → Type 0
HasAt code size pc [] = Unit {0}
HasAt code size pc (i ∷ is) = (slice_get code pc ≡ Some i) × (places_for i.action ≤ size) × HasAt code size (pc + 1) is

-- no local has the place
abbrev pub IsFree : ℕ → List Local → Type 0
IsFree place [] = Unit {0}
IsFree place (l ∷ ls) = (l.place ≡ place → ⊥) × IsFree place ls

-- each local has a place of its own, below this number
abbrev pub HasPlaces : ℕ → List Local → Type 0
HasPlaces count [] = Unit {0}
HasPlaces count (l ∷ ls) = (l.place < count) × IsFree l.place ls × HasPlaces count ls

-- the locals in scope have the places below their number
abbrev pub IsScope : List Local → Type 0
IsScope scope = HasPlaces (length scope) scope

-- a local by its name, with what is at its place
abbrev pub standing : List (Option Value) → Local → Label × Option Value
standing ls l = (l.name, get_or ls l.place None)

-- The locals of a run, of which there are so many, stand for those of the formula.
pub record Stands (size : ℕ) (scope : List Local) (locals : Locals) (ls : List (Option Value)) : Type 0 where
  pub is : locals ≡ map (standing ls) scope
  pub long : length ls ≡ size
  pub fit : length scope ≤ size

-- where a formula is at a line, with these locals
abbrev pub here : Home → ℕ → Locals → Env
here h line locals = record { node = h.node; namespace = h.space; line = line; locals = locals }

-- Where the rest of the code does what comes after each value that is read, with the value on the stack, the
-- instructions before it do what is read.
abbrev pub Fits : List Instr → Home → ℕ → List Local → ℕ → List Instr → Reading → Type 0
Fits code h size scope line c read =
    (pc : ℕ) (stack : List Slot) (ls : List (Option Value)) (locals : Locals) (go : Value → Run) → HasAt code size pc c → Stands size scope locals ls
    → ((v : Value) (ms : List (Option Value)) → Stands size scope locals ms → Does code h (state (pc + length c) (Holds v ∷ stack) ms) (go v))
    → Does code h (state pc stack ls) (read (here h line locals) go)

-- the same of a part that may be called
abbrev pub CalleeFits : List Instr → Home → ℕ → List Local → ℕ → List Instr → Part → Type 0
CalleeFits code h size scope line c part =
    (pc : ℕ) (stack : List Slot) (ls : List (Option Value)) (locals : Locals) (go : Callee → Run) → HasAt code size pc c → Stands size scope locals ls
    → ((v : Callee) (ms : List (Option Value)) → Stands size scope locals ms → Does code h (state (pc + length c) (slot_of v ∷ stack) ms) (go v))
    → Does code h (state pc stack ls) (part (here h line locals) go)

-- each of the names has a place
abbrev pub HavePlaces : List Local → List Label → Type 0
HavePlaces scope [] = Unit {0}
HavePlaces scope (name ∷ names) = ((place : ℕ) × (place_of scope name ≡ Some place)) × HavePlaces scope names

-- what comes of a return is what the run comes to
abbrev pub Returns : List Instr → Home → (Returned → Run) → Type 0
Returns code h back = (r : Returned) → Leads code h (End (outcome_of h r)) (back r)

-- Where the rest of the code does what comes after what is done, with the same on the stack, the instructions before it
-- do it.
abbrev pub DoesFit : List Instr → Home → ℕ → List Local → List Instr → Doing → Type 0
DoesFit code h size scope c do_ =
    (pc : ℕ) (stack : List Slot) (ls : List (Option Value)) (line : ℕ) (locals : Locals) (after : Env → Run) (back : Returned → Run) → HasAt code size pc c → Stands size scope locals ls → Returns code h back
    → ((at : ℕ) (more : Locals) (ms : List (Option Value)) → Stands size scope more ms → Does code h (state (pc + length c) stack ms) (after (here h at more)))
    → Does code h (state pc stack ls) (do_ (here h line locals) after back)
