-- What the laws say of the small model.
use Rattle.std.specs.Prelude.{ℕ, ◌≤◌, List, [], ◌∷◌, Ok, Err}
use Rattle.mx_value.specs.declared.value.Value.{Value}
use Rattle.mx_value.specs.declared.fault.FaultKind.TheVariants.{NoIndex}
use Rattle.mx_value.specs.declared.node.Node.{Node}
use Rattle.mx_value.specs.declared.refusal.EvalRefusal.TheVariants as refusal
use Rattle.mx_edit.specs.Entry.{Entry}
use Rattle.mx_answers.specs.Answers.{Evaluation, Answer}
use Rattle.mx_suspended.specs.Ended.{IsClosed, left_by}
use Rattle.mx_answers_examples.specs.FlightModel.{put, inner, outer, faulty, missing, lead, knot, turn, small, inner_entry, outer_entry}

-- an evaluation of a node where so much is held
abbrev pub asking_for : Node → List Entry → ℕ → Evaluation
asking_for n held limit = record { node = n; held = held; limit = limit }

-- The outer node asks the inner one, for which a run begins, and then again, for which none does. Both are held, the
-- inner one first, and the outer one's record has one ask of it.
abbrev pub OuterGives : Type 0
OuterGives = (v : Value) (limit : ℕ) → 2 ≤ limit → Answer (small v) (asking_for outer [] limit) (Ok v) (inner_entry v ∷ outer_entry v ∷ []) 2

-- where chains may have one node alone, the inner one is too deep
abbrev pub InnerIsTooDeep : Type 0
InnerIsTooDeep = (v : Value) (ticks : ℕ) → Answer (small v) (asking_for outer [] 1) (Err (refusal.TooDeep inner)) [] ticks

-- but not where it is held: then one run begins
abbrev pub HeldBreaksTheChain : Type 0
HeldBreaksTheChain = (v : Value) → Answer (small v) (asking_for outer (inner_entry v ∷ []) 1) (Ok v) (inner_entry v ∷ outer_entry v ∷ []) 1

abbrev pub HeldNeedsNoRun : Type 0
HeldNeedsNoRun = (v : Value) (limit : ℕ) → Answer (small v) (asking_for inner (inner_entry v ∷ []) limit) (Ok v) (inner_entry v ∷ []) 0

abbrev pub InputNeedsNoRun : Type 0
InputNeedsNoRun = (v : Value) (limit : ℕ) → Answer (small v) (asking_for put [] limit) (Ok v) [] 0

-- a fault leaves the inner node held, and two runs were begun
abbrev pub FaultKeepsTheInner : Type 0
FaultKeepsTheInner = (v : Value) (limit : ℕ) → 2 ≤ limit → Answer (small v) (asking_for faulty [] limit) (Err (refusal.Fault NoIndex faulty 1)) (inner_entry v ∷ []) 2

-- that there is no such node leaves nothing held
abbrev pub NoSuchKeepsNothing : Type 0
NoSuchKeepsNothing = (v : Value) (limit ticks : ℕ) → 2 ≤ limit → Answer (small v) (asking_for missing [] limit) (Err refusal.NoSuch) [] ticks

-- for what was held at its end is cut off, and what is left is a right memo
abbrev pub NoSuchIsClosed : Type 0
NoSuchIsClosed = (v : Value) (limit ticks : ℕ) → 2 ≤ limit → IsClosed (small v) (asking_for missing [] limit) (Err refusal.NoSuch) (left_by (Err refusal.NoSuch) [] (inner_entry v ∷ [])) ticks

-- the ring is without the node that leads to it, even where no chain may be longer
abbrev pub RingIsWithoutTheLead : Type 0
RingIsWithoutTheLead = (v : Value) → Answer (small v) (asking_for lead [] 3) (Err (refusal.Ring (knot ∷ turn ∷ []))) [] 3
