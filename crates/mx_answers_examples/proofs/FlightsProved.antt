-- The examples, by one law for each step.
use Rattle.std.proofs.Common.{Err, ◌≡◌, true, false, ℕ, suc, ◌≤◌, ◌<◌, List, [], ◌∷◌, length, inl, inr, refl, arith}
use Rattle.mx_value.specs.declared.value.Value.{Value}
use Rattle.mx_value.specs.declared.fault.FaultKind.TheVariants.{NoIndex}
use Rattle.mx_value.specs.declared.refusal.EvalRefusal.TheVariants as refusal
use Rattle.mx_value.specs.declared.node.Node.{Node}
use Rattle.mx_value.specs.declared.node.Node.TheVariants.{Cell, Item}
use Rattle.mx_value.specs.declared.read.Read.TheVariants as read
use Rattle.mx_edit.specs.Entry.{Entry}
use Rattle.mx_edit.specs.declared.key.Key.TheVariants.{Input}
use Rattle.mx_edit.specs.declared.reply.Reply.{Reply}
use Rattle.mx_runs.specs.Lists.{Has}
use Rattle.mx_runs.specs.Runs.{Run, Ends, Asks, Notes, Gives, NoSuch}
use Rattle.mx_runs.specs.Inputs.{InputsEnd}
use Rattle.mx_answers.specs.Held.{nodes_of, IsKnown}
use Rattle.mx_answers.specs.Records.{IsRightMemo}
use Rattle.mx_answers.specs.Answers.{Evaluation}
use Rattle.mx_suspended.specs.Recorded.{Recorded, nothing, GoesPast, Stays, PastLook, PastTest, PastNote, PastHeld, PastInput}
use Rattle.mx_suspended.specs.Flights.{Suspended, InFlight, nodes_waiting, IsTop, Awaits, IsDone}
use Rattle.mx_suspended.proofs.Steps.{answering_held, answering_input, starting, beginning, passing, asking, giving, handing_down, answering_value, answering_fault, answering_no_such, answering_ring, answering_too_deep, closing}
use Rattle.mx_answers_examples.specs.FlightModel.{cells, put, inner, outer, faulty, missing, lead, knot, turn, small, plain, input_or, formula, body, inner_entry, outer_entry}
use Rattle.mx_answers_examples.specs.Flights.{asking_for, OuterGives, InnerIsTooDeep, HeldBreaksTheChain, HeldNeedsNoRun, InputNeedsNoRun, FaultKeepsTheInner, NoSuchKeepsNothing, NoSuchIsClosed, RingIsWithoutTheLead}

inputs_end : (v : Value) → InputsEnd (small v)
inputs_end v (Cell at name arguments) i = record { go = _; starts = refl; ends = λ w. refl }
inputs_end v (Item at arguments) i = absurd (cc)

none_held : (v : Value) → IsRightMemo (small v) []
none_held v = record {
  right = record { means = λ e h. absurd h; own = λ n h. absurd h; once = tt; closed = λ n m h. absurd h; room = omega arith };
  records = λ e h. absurd h;
  order = tt;
}

-- named cells are no input
unknown : (v : Value) (x : ℕ) (name : List ℕ) → IsKnown (small v) [] (cells (x ∷ name)) → ⊥
unknown v x name k = elim k [ inl h ↦ h | inr i ↦ let j : false ≡ true = i in absurd (cc) ]

-- nodes of cells of other names are others
abbrev runs : Node → Recorded
runs n = record { keys = Input n ∷ []; asks = []; reads = [] }

-- the run of a node without an input begins by looking it up
abbrev first : (v : Value) (held : List Entry) (x : ℕ) (name : List ℕ) → GoesPast (small v) held (body (cells (x ∷ name))) nothing (formula (x ∷ name)) (runs (cells (x ∷ name)))
first v held x name = PastLook (Input (cells (x ∷ name))) (input_or (formula (x ∷ name))) (formula (x ∷ name)) nothing (runs (cells (x ∷ name))) (Input (cells (x ∷ name)) ∷ []) (inr (λ z. z, refl)) (Stays (formula (x ∷ name)) (runs (cells (x ∷ name))))

-- so many runs were begun, and these wait
abbrev flying : List Entry → ℕ → List Suspended → InFlight
flying held ticks waiting = record { held = held; ticks = ticks; waiting = waiting }

module _ (v : Value) (ev : Evaluation) where
  -- an awaited node of named cells begins its run, which looks its input up
  begun : (held : List Entry) (ticks : ℕ) (waiting : List Suspended) (x : ℕ) (name : List ℕ) → Awaits (small v) ev (flying held ticks waiting) (cells (x ∷ name)) → (Has (nodes_waiting waiting) (cells (x ∷ name)) → ⊥) → length waiting < ev.limit → IsTop (small v) ev (flying held (suc ticks) waiting) (cells (x ∷ name)) (runs (cells (x ∷ name))) (formula (x ∷ name))
  begun held ticks waiting x name a new room =
      passing (small v) ev (flying held (suc ticks) waiting) (cells (x ∷ name)) (body (cells (x ∷ name))) (formula (x ∷ name)) nothing (runs (cells (x ∷ name))) (inputs_end v) (first v held x name)
      (beginning (small v) ev (flying held ticks waiting) (cells (x ∷ name)) a new room)

  -- the inner node's run asks the input, gives its value and is held
  given : (ticks : ℕ) (waiting : List Suspended) → IsTop (small v) ev (flying [] ticks waiting) inner (runs inner) (formula (0 ∷ [])) → IsDone (small v) ev (flying (inner_entry v ∷ []) ticks waiting) inner (plain v)
  given ticks waiting t =
      let so_far : Recorded = record { keys = Input inner ∷ Input put ∷ []; asks = []; reads = read.Node put ∷ [] } in
      let over : Run = Ends (Gives (plain v)) in
      let past : GoesPast (small v) [] (formula (0 ∷ [])) (runs inner) over so_far =
      PastTest (Input put) (λ _. Asks put (λ r. Ends (Gives r))) over (runs inner) so_far
      (PastInput put v (λ r. Ends (Gives r)) over (runs inner) so_far (Input inner ∷ Input put ∷ []) (read.Node put ∷ []) refl refl
      (inr (λ h. elim h [ inl e ↦ absurd (let i : Input inner ≡ Input put = e in cc) | inr z ↦ z ], refl)) (inr (λ z. z, refl)) (Stays over so_far)) in
      giving (small v) ev (flying [] ticks waiting) inner so_far (plain v) (passing (small v) ev (flying [] ticks waiting) inner (formula (0 ∷ [])) over (runs inner) so_far (inputs_end v) past t) (omega arith)

  -- a node that asks the inner one waits for it, and goes on with its value
  down : (n : Node) (go : Reply → Run) → (n ≡ inner → ⊥) → 1 < ev.limit → IsTop (small v) ev (flying [] 1 []) n (runs n) (Asks inner go) → IsTop (small v) ev (flying (inner_entry v ∷ []) 2 []) n (record { keys = Input n ∷ []; asks = inner ∷ []; reads = read.Node inner ∷ [] }) (go (plain v))
  down n go other room t =
      let w : Suspended = record { node = n; so_far = runs n; go = go } in
      let a : Awaits (small v) ev (flying [] 1 (w ∷ [])) inner = asking (small v) ev (flying [] 1 []) n inner (runs n) go t (unknown v 0 []) in
      let b : IsTop (small v) ev (flying [] 2 (w ∷ [])) inner (runs inner) (formula (0 ∷ [])) = begun [] 1 (w ∷ []) 0 [] a (λ h. elim h [ inl e ↦ other e | inr z ↦ z ]) room in
      handing_down (small v) ev (flying (inner_entry v ∷ []) 2 []) w [] inner (plain v) (inner ∷ []) (read.Node inner ∷ []) (given 2 (w ∷ []) b) (inr (λ z. z, refl)) (inr (λ z. z, refl))

  -- the outer node notes a reference and asks the inner one again, which is held; its value is the answer
  abbrev half : Recorded
  half = record { keys = Input outer ∷ []; asks = inner ∷ []; reads = read.Node inner ∷ [] }

  abbrev whole : Recorded
  whole = record { keys = Input outer ∷ []; asks = inner ∷ []; reads = read.Node inner ∷ read.Global (0 ∷ []) ∷ [] }

  abbrev rest : Run
  rest = Notes (read.Global (0 ∷ [])) (Asks inner (λ s. Ends (Gives s)))

  again : GoesPast (small v) (inner_entry v ∷ []) rest half (Ends (Gives (plain v))) whole
  again =
      PastNote (read.Global (0 ∷ [])) (Asks inner (λ s. Ends (Gives s))) (Ends (Gives (plain v))) half whole (read.Node inner ∷ read.Global (0 ∷ []) ∷ [])
      (inr (λ h. elim h [ inl e ↦ absurd (let i : read.Node inner ≡ read.Global (0 ∷ []) = e in cc) | inr z ↦ z ], refl))
      (PastHeld (inner_entry v) (λ s. Ends (Gives s)) (Ends (Gives (plain v))) whole whole (inner ∷ []) (read.Node inner ∷ read.Global (0 ∷ []) ∷ []) (inl refl)
      (inl (inl refl, refl)) (inl (inl refl, refl)) (Stays (Ends (Gives (plain v))) whole))

  outer_done : (ticks : ℕ) → IsTop (small v) ev (flying (inner_entry v ∷ []) ticks []) outer half rest → IsDone (small v) ev (flying (inner_entry v ∷ outer_entry v ∷ []) ticks []) outer (plain v)
  outer_done ticks t =
      giving (small v) ev (flying (inner_entry v ∷ []) ticks []) outer whole (plain v)
      (passing (small v) ev (flying (inner_entry v ∷ []) ticks []) outer rest (Ends (Gives (plain v))) half whole (inputs_end v) again t) (omega arith)

-- the first run of a node that is asked for
started : (v : Value) (limit : ℕ) (x : ℕ) (name : List ℕ) → 1 ≤ limit → IsTop (small v) (asking_for (cells (x ∷ name)) [] limit) (flying [] 1 []) (cells (x ∷ name)) (runs (cells (x ∷ name))) (formula (x ∷ name))
started v limit x name room =
    begun v (asking_for (cells (x ∷ name)) [] limit) [] 0 [] x name (starting (small v) (asking_for (cells (x ∷ name)) [] limit) (none_held v) (unknown v x name)) (λ z. z) (omega arith)

pub outer_gives : OuterGives
outer_gives v limit room =
    let ev : Evaluation = asking_for outer [] limit in
    let t = down v ev outer _ (λ e. let i : outer ≡ inner = e in absurd (cc)) (omega arith) (started v limit 0 (0 ∷ []) (omega arith)) in
    answering_value (small v) ev (flying (inner_entry v ∷ outer_entry v ∷ []) 2 []) outer (plain v) (inputs_end v) (outer_done v ev 2 t)

pub inner_is_too_deep : InnerIsTooDeep
inner_is_too_deep v ticks =
    let ev : Evaluation = asking_for outer [] 1 in
    let a = asking (small v) ev (flying [] 1 []) outer inner (runs outer) _ (started v 1 0 (0 ∷ []) (omega arith)) (unknown v 0 []) in
    answering_too_deep (small v) ev _ inner ticks (inputs_end v) a (λ h. elim h [ inl e ↦ let i : outer ≡ inner = e in absurd (cc) | inr z ↦ z ]) (omega arith)

-- what is held after the inner node was asked for
inner_memo : (v : Value) → IsRightMemo (small v) (inner_entry v ∷ [])
inner_memo v = (given v (asking_for inner [] 1) 1 [] (started v 1 0 [] (omega arith))).under_way.memo

pub held_breaks_the_chain : HeldBreaksTheChain
held_breaks_the_chain v =
    let ev : Evaluation = asking_for outer (inner_entry v ∷ []) 1 in
    let held : List Entry = inner_entry v ∷ [] in
    let new : IsKnown (small v) (nodes_of held) outer → ⊥ = λ k. elim k [
      | inl h ↦ elim h [ inl e ↦ absurd (let i : inner ≡ outer = e in cc) | inr z ↦ z ]
      | inr i ↦ let j : false ≡ true = i in absurd (cc)
    ] in
    let t = begun v ev held 0 [] 0 (0 ∷ []) (starting (small v) ev (inner_memo v) new) (λ z. z) (omega arith) in
    let past : GoesPast (small v) held (formula (0 ∷ 0 ∷ [])) (runs outer) (rest v ev) (half v ev) =
    PastHeld (inner_entry v) _ (rest v ev) (runs outer) (half v ev) (inner ∷ []) (read.Node inner ∷ []) (inl refl) (inr (λ z. z, refl)) (inr (λ z. z, refl)) (Stays (rest v ev) (half v ev)) in
    answering_value (small v) ev (flying (inner_entry v ∷ outer_entry v ∷ []) 1 []) outer (plain v) (inputs_end v)
    (outer_done v ev 1 (passing (small v) ev (flying held 1 []) outer (formula (0 ∷ 0 ∷ [])) (rest v ev) (runs outer) (half v ev) (inputs_end v) past t))

pub held_needs_no_run : HeldNeedsNoRun
held_needs_no_run v limit = answering_held (small v) (asking_for inner (inner_entry v ∷ []) limit) (inner_entry v) (inputs_end v) (inner_memo v) (inl refl) refl

pub input_needs_no_run : InputNeedsNoRun
input_needs_no_run v limit = answering_input (small v) (asking_for put [] limit) v (inputs_end v) (none_held v) refl refl

pub fault_keeps_the_inner : FaultKeepsTheInner
fault_keeps_the_inner v limit room =
    let ev : Evaluation = asking_for faulty [] limit in
    answering_fault (small v) ev (flying (inner_entry v ∷ []) 2 []) faulty faulty _ NoIndex 1 (inputs_end v)
    (down v ev faulty _ (λ e. let i : faulty ≡ inner = e in absurd (cc)) (omega arith) (started v limit 0 (0 ∷ 0 ∷ []) (omega arith)))

-- the run of the node that is missing, after the inner one gave its value
missing_top : (v : Value) (limit : ℕ) → 2 ≤ limit → IsTop (small v) (asking_for missing [] limit) (flying (inner_entry v ∷ []) 2 []) missing (record { keys = Input missing ∷ []; asks = inner ∷ []; reads = read.Node inner ∷ [] }) (Ends NoSuch)
missing_top v limit room = down v (asking_for missing [] limit) missing (λ r. Ends NoSuch) (λ e. let i : missing ≡ inner = e in absurd (cc)) (omega arith) (started v limit 0 (0 ∷ 0 ∷ 0 ∷ []) (omega arith))

pub no_such_keeps_nothing : NoSuchKeepsNothing
no_such_keeps_nothing v limit ticks room = answering_no_such (small v) (asking_for missing [] limit) (flying (inner_entry v ∷ []) 2 []) missing _ ticks (inputs_end v) (missing_top v limit room)

pub no_such_is_closed : NoSuchIsClosed
no_such_is_closed v limit ticks room =
    let u = (missing_top v limit room).under_way in
    closing (small v) (asking_for missing [] limit) (inner_entry v ∷ []) ticks (Err refusal.NoSuch)
    (record { memo = u.memo; more = u.more; grown = u.grown; right = no_such_keeps_nothing v limit ticks room })

pub ring_is_without_the_lead : RingIsWithoutTheLead
ring_is_without_the_lead v =
    let ev : Evaluation = asking_for lead [] 3 in
    let gives : Reply → Run = λ r. Ends (Gives r) in
    let a : Suspended = record { node = lead; so_far = runs lead; go = gives } in
    let b : Suspended = record { node = knot; so_far = runs knot; go = gives } in
    let c : Suspended = record { node = turn; so_far = runs turn; go = gives } in
    let t1 = started v 3 0 (0 ∷ 0 ∷ 0 ∷ 0 ∷ []) (omega arith) in
    let w1 : Awaits (small v) ev (flying [] 1 (a ∷ [])) knot = asking (small v) ev (flying [] 1 []) lead knot (runs lead) gives t1 (unknown v 0 (0 ∷ 0 ∷ 0 ∷ 0 ∷ 0 ∷ [])) in
    let t2 = begun v ev [] 1 (a ∷ []) 0 (0 ∷ 0 ∷ 0 ∷ 0 ∷ 0 ∷ []) w1 (λ h. elim h [ inl e ↦ let i : lead ≡ knot = e in absurd (cc) | inr z ↦ z ]) (omega arith) in
    let w2 : Awaits (small v) ev (flying [] 2 (b ∷ a ∷ [])) turn = asking (small v) ev (flying [] 2 (a ∷ [])) knot turn (runs knot) gives t2 (unknown v 0 (0 ∷ 0 ∷ 0 ∷ 0 ∷ 0 ∷ 0 ∷ [])) in
    let t3 = begun v ev [] 2 (b ∷ a ∷ []) 0 (0 ∷ 0 ∷ 0 ∷ 0 ∷ 0 ∷ 0 ∷ []) w2 (λ h. elim h [
      | inl e ↦ let i : knot ≡ turn = e in absurd (cc)
      | inr k ↦ elim k [ inl e ↦ let i : lead ≡ turn = e in absurd (cc) | inr z ↦ z ]
    ]) (omega arith) in
    let w3 : Awaits (small v) ev (flying [] 3 (c ∷ b ∷ a ∷ [])) knot = asking (small v) ev (flying [] 3 (b ∷ a ∷ [])) turn knot (runs turn) gives t3 (unknown v 0 (0 ∷ 0 ∷ 0 ∷ 0 ∷ 0 ∷ [])) in
    answering_ring (small v) ev (flying [] 3 (c ∷ b ∷ a ∷ [])) knot (lead ∷ []) (turn ∷ []) (inputs_end v) w3 refl
