-- What comes of a run that is to wait.
use Rattle.std.proofs.Common.{Bool, true, false, ◌≡◌, ℕ, ◌≤◌, ◌<◌, ◌-◌, List, [], ◌∷◌, ◌++◌, length, sym, ◌∙◌, ap, subst, arith}
use Rattle.std.proofs.lemmas.List.{map-append}
use Rattle.mx_value.specs.declared.node.Node.{Node}
use Rattle.mx_value.specs.declared.refusal.EvalRefusal.TheVariants as refusal
use Rattle.mx_memo.specs.Memos.{Memory}
use Rattle.mx_runs.specs.Lists.{Has}
use Rattle.mx_runs.specs.Runs.{Model}
use Rattle.mx_runs.specs.Inputs.{InputsEnd}
use Rattle.mx_answers.specs.Held.{nodes_of}
use Rattle.mx_suspended.specs.Flights.{nodes_waiting}
use Rattle.mx_code_law.specs.States.{State}
use Rattle.mx_stack.specs.Flight.{Flight, idle}
use Rattle.mx_memo_laws.specs.Entries.{entries_of}
use Rattle.mx_memo_laws.proofs.Members.{among, placed}
use Rattle.mx_memo_laws.proofs.Nodes.{new_is_not_entered}
use Rattle.mx_frames.specs.Known.{HasBegun, IsUnknown}
use Rattle.mx_frames.specs.Passing.{Stands}
use Rattle.mx_frames.specs.declared.current.Current.{Current}
use Rattle.mx_frames.specs.declared.passing.Asked.{Asked}
use Rattle.mx_frames.specs.Flights.{AsksInOrder, Work, IsAwaited, IsPaused, IsSoundPaused, IsWithin, HasBrokenOff, first_of, frame_nodes, stretch_asking}
use Rattle.mx_frames.specs.Rings.{IsFrom}
use Rattle.mx_frames.specs.declared.runs.Frame.{Frame}
use Rattle.mx_frames.proofs.Standing.{first_pushed}
use Rattle.mx_frames.proofs.Waits.{IsAsking, asks, awaited, asked_too_deep, asked_ring, not_below}

pub nodes_pushed : (frames : List Frame) (w : Frame) → frame_nodes (frames ++ w ∷ []) ≡ frame_nodes frames ++ w.current.node ∷ []
nodes_pushed frames w = map-append (λ (x : Frame). x.current.node) frames (w ∷ [])

module _ (model : Model) (q : Work) (m : Memory) (now : ℕ) (ends : InputsEnd model) (items : AsksInOrder model) (stack : Flight) (frames : List Frame) (current : Current) (a : Asked)
    (s : IsSoundPaused m frames (stretch_asking current a)) (p : IsPaused model q m stack frames (stretch_asking current a) now) where
  abbrev frame : Frame
  frame = record { current = current; waiting = a.waiting }

  -- the states of the runs that wait
  abbrev states : List State
  states = stack.top ∷ stack.below

  nodes_all : frame_nodes (frames ++ frame ∷ []) ≡ frame_nodes frames ++ current.node ∷ []
  nodes_all = nodes_pushed frames frame

  stands_as : (b : Bool) → a.is_begun ≡ b → Stands model m a.node b
  stands_as b e = subst (λ (x : Bool). Stands model m a.node x) e p.pauses.3

  begun_among : HasBegun model m a.node → Has (frame_nodes (frames ++ frame ∷ [])) a.node
  begun_among h = subst (λ (ns : List Node). Has ns a.node) (s.sound.begun ∙ sym nodes_all) (among m.begun a.node h.begun)

  begun_unheld : HasBegun model m a.node → Has (nodes_of (entries_of m.held)) a.node → ⊥
  begun_unheld h = (new_is_not_entered m.held a.node).0 (s.sound.new a.node (subst (λ (ns : List Node). Has ns a.node) nodes_all (begun_among h)))

  on_ring : HasBegun model m a.node → IsAsking model q m states (frames ++ frame ∷ []) a.node (first_of frames current.node) now
  on_ring h = asks model ends q m now stack frames current a p (begun_unheld h) h.own

  -- in flight
  pub waits_ring : (after : List Frame) (ring : List Node) (rest : List Frame) → after ≡ frames ++ frame ∷ [] → a.is_begun ≡ true → (Has (frame_nodes after) a.node → IsFrom (frame_nodes after) a.node (frame_nodes rest)) → ring ≡ frame_nodes rest
      → HasBrokenOff model q m (first_of frames current.node) now (refusal.Ring ring)
  waits_ring after ring rest is e from r =
      let h : HasBegun model m a.node = stands_as true e in
      let f : IsFrom (frame_nodes (frames ++ frame ∷ [])) a.node (frame_nodes rest) = subst (λ (ws : List Frame). Has (frame_nodes ws) a.node → IsFrom (frame_nodes ws) a.node (frame_nodes rest)) is from (begun_among h) in
      asked_ring model ends q m now states (frames ++ frame ∷ []) a.node (first_of frames current.node) (on_ring h) f.lead f.rest ring f.whole (r ∙ f.is)

  unknown_unheld : IsUnknown model m a.node → Has (nodes_of (entries_of m.held)) a.node → ⊥
  unknown_unheld u = (new_is_not_entered m.held a.node).0 u.new

  on_new : IsUnknown model m a.node → IsAsking model q m states (frames ++ frame ∷ []) a.node (first_of frames current.node) now
  on_new u = asks model ends q m now stack frames current a p (unknown_unheld u) u.own

  off_frames : IsUnknown model m a.node → Has (frame_nodes (frames ++ frame ∷ [])) a.node → ⊥
  off_frames u h = u.begun (placed m.begun a.node (subst (λ (ns : List Node). Has ns a.node) (nodes_all ∙ sym s.sound.begun) h))

  off_bottom : IsUnknown model m a.node → Has (nodes_waiting q.bottom) a.node → ⊥
  off_bottom u = not_below model ends q m now stack frames current a p (unknown_unheld u) u.own items

  -- too deep
  pub waits_too_deep : (after : List Frame) (to : Node) (limit below : ℕ) → after ≡ frames ++ frame ∷ [] → IsWithin q limit below → a.is_begun ≡ false → to ≡ a.node → limit - below ≤ length after → HasBrokenOff model q m (first_of frames current.node) now (refusal.TooDeep to)
  waits_too_deep after to limit below is w e t deep =
      let u : IsUnknown model m a.node = stands_as false e in
      asked_too_deep model ends q m now states (frames ++ frame ∷ []) a.node (first_of frames current.node) (on_new u) to t (off_frames u) (off_bottom u) (let i = w.limit_is in let j = w.below_is in let k = ap length is in omega (arith, i, j, k, deep))

  -- its run is to begin
  pub waits_on : (after : List Frame) (limit below : ℕ) → after ≡ frames ++ frame ∷ [] → IsWithin q limit below → a.is_begun ≡ false → length after < limit - below
      → (stack2 : Flight) → stack2 ≡ record { top = idle; below = stack.top ∷ stack.below } → IsAwaited model q m stack2 after a.node now × (first_of after a.node ≡ first_of frames current.node)
  waits_on after limit below is w e short stack2 begun =
      let u : IsUnknown model m a.node = stands_as false e in
      subst (λ (ws : List Frame). IsAwaited model q m stack2 ws a.node now × (first_of ws a.node ≡ first_of frames current.node)) (sym is) (awaited model ends q m now states (frames ++ frame ∷ []) a.node (first_of frames current.node) (on_new u) stack2 (ap (λ (f : Flight). f.below) begun) (ap (λ (f : Flight). f.top) begun) (off_frames u) (off_bottom u) (let i = w.limit_is in let j = w.below_is in let k = ap length is in omega (arith, i, j, k, short)) (first_pushed frames frame a.node), first_pushed frames frame a.node)
