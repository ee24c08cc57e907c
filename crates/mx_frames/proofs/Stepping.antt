-- A step of the run on top, from where it pauses.
use Rattle.std.proofs.Common.{◌≡◌, ℕ, List, [], ◌∷◌, ◌++◌, ◌⊎◌, Result, Ok, Err, inl, inr, refl, sym, ◌∙◌, ap, subst}
use Rattle.mx_value.specs.declared.node.Node.{Node}
use Rattle.mx_value.specs.declared.refusal.EvalRefusal.{EvalRefusal}
use Rattle.mx_memo.specs.Memos.{Memory, AreHeld}
use Rattle.mx_runs.specs.Lists.{Has, Distinct}
use Rattle.mx_runs.specs.Runs.{Model, Run}
use Rattle.mx_runs.specs.Inputs.{InputsEnd}
use Rattle.mx_stack.specs.Flight.{Flight}
use Rattle.mx_node_runs.specs.Halts.{HaltsAs}
use Rattle.mx_binding.specs.Records.{HasOwnKey}
use Rattle.mx_vertices.specs.Found.{IsNew}
use Rattle.mx_lookup.specs.declared.ending.Ending.{Ending}
use Rattle.mx_frames.specs.Passing.{Pauses}
use Rattle.mx_frames.specs.declared.passing.Asked.{Asked}
use Rattle.mx_frames.specs.declared.passing.Paused.{Paused}
use Rattle.mx_frames.specs.declared.passing.Paused.TheVariants as paused
use Rattle.mx_frames.specs.declared.current.Current.{Current}
use Rattle.mx_frames.specs.declared.current.Running.{Running}
use Rattle.mx_frames.specs.declared.passing.Stretch.{Stretch}
use Rattle.mx_frames.specs.declared.progress.Given.{Given}
use Rattle.mx_frames.specs.declared.progress.Progress.{Progress}
use Rattle.mx_frames.specs.declared.progress.Progress.TheVariants as progress
use Rattle.mx_frames.specs.declared.runs.Frame.{Frame}
use Rattle.mx_frames.specs.Flights.{Work, Flies, IsAwaited, IsPaused, IsPushed, IsSound, IsSoundPaused, IsSoundWith, Waited, Begins, Flew, HasBrokenOff, IsGiven, first_of, frame_nodes, stretch_asking, stretch_ending}
use Rattle.mx_frames.proofs.Flown.{flies_past, in_front}
use Rattle.mx_frames.proofs.Waiting.{nodes_pushed}

-- ---- what is told of the memo and the frames

-- a run that has paused is sound as it was
pub paused_sound : (m : Memory) (frames : List Frame) (r : Running) (s : Stretch) → IsSoundWith m frames r → s.current.node ≡ r.current.node → AreHeld m.held s.current.records.asks → IsSoundPaused m frames s
paused_sound m frames r s w e a = record {
  sound = subst (λ (x : Node). IsSound m frames (frame_nodes frames ++ x ∷ [])) (sym e) w.sound;
  asks = a;
}

front_or_last : (ws : List Frame) (w v : Frame) → Has (ws ++ w ∷ []) v → Has ws v ⊎ (w ≡ v)
front_or_last [] w v h = elim h [ inl e ↦ inr e | inr i ↦ absurd i ]
front_or_last (x ∷ ws) w v h = elim h [ inl e ↦ inl (inl e) | inr i ↦ elim (front_or_last ws w v i) [ inl j ↦ inl (inr j) | inr e ↦ inr e ] ]

-- a run that waits is one of the frames
pub pushed_sound : (m : Memory) (olds news : List Frame) (s : Stretch) → IsSoundPaused m olds s → IsPushed s.current olds news → IsSound m news (frame_nodes news)
pushed_sound m olds news s p q =
    let nodes : frame_nodes olds ++ s.current.node ∷ [] ≡ frame_nodes news =
    sym (ap frame_nodes q.is ∙ nodes_pushed olds q.frame ∙ ap (λ (c : Current). frame_nodes olds ++ c.node ∷ []) q.of) in
    record {
      ordered = p.sound.ordered;
      held_once = p.sound.held_once;
      begun = p.sound.begun ∙ nodes;
      once = subst (λ (ns : List Node). Distinct ns) nodes p.sound.once;
      new = λ x i. p.sound.new x (subst (λ (ns : List Node). Has ns x) (sym nodes) i);
      asks = λ v i. elim (front_or_last olds q.frame v (subst (λ (ws : List Frame). Has ws v) q.is i)) [
        | inl j ↦ p.sound.asks v j
        | inr e ↦ subst (λ (w : Frame). AreHeld m.held w.current.records.asks) e (subst (λ (c : Current). AreHeld m.held c.records.asks) (sym q.of) p.asks)
      ];
    }

-- ---- what flies

module _ (model : Model) (ends : InputsEnd model) (q : Work) (m : Memory) (stack stack2 : Flight) (frames : List Frame) (r : Running) (s : Stretch) (now : ℕ)
    (node : s.current.node ≡ r.current.node)
    (passes : (run : Run) → HaltsAs r.current.node run r.halt stack.top → Pauses model m run r.current.records s stack2.top × (stack2.below ≡ stack.below))
    (own : (run : Run) → HaltsAs r.current.node run r.halt stack.top → HasOwnKey r.current.node r.current.records.seen.keys → HasOwnKey s.current.node s.current.records.seen.keys) where
  -- the run on top has come to where it pauses
  pub pauses_now : Flies model q m stack frames r now → IsPaused model q m stack2 frames s now
  pauses_now f =
      let p : Pauses model m f.run r.current.records s stack2.top × (stack2.below ≡ stack.below) = passes f.run f.halts in
      flies_past model ends q m stack stack2 frames r s now f node p.1 p.0 (own f.run f.halts f.own)

  -- it has ended
  pub ends_flown : (e : Ending) → s.paused ≡ paused.Ends e → (m2 : Memory) (stack3 : Flight) (frames2 : List Frame) (result : Result Progress EvalRefusal)
      → ((q2 : Work) (t : ℕ) → IsPaused model q2 m stack2 frames (stretch_ending s.current e) t → Flew model q2 m2 stack3 frames2 (first_of frames s.current.node) t result)
      → Flies model q m stack frames r now → Flew model q m2 stack3 frames2 (first_of frames r.current.node) now result
  ends_flown e is m2 stack3 frames2 result flew f =
      subst (λ (n : Node). Flew model q m2 stack3 frames2 (first_of frames n) now result) node
      (flew q now (subst (λ (x : Paused). IsPaused model q m stack2 frames (record { current = s.current; paused = x }) now) is (pauses_now f)))

  -- it waits
  pub waits_flown : (a : Asked) → s.paused ≡ paused.Asks a → (frames2 : List Frame) (stack3 : Flight) (result : Result Node EvalRefusal)
      → (IsPaused model q m stack2 frames (stretch_asking s.current a) now → Waited model q m stack3 frames2 (first_of frames s.current.node) now result)
      → Flies model q m stack frames r now → Waited model q m stack3 frames2 (first_of frames r.current.node) now result
  waits_flown a is frames2 stack3 result waited f =
      subst (λ (n : Node). Waited model q m stack3 frames2 (first_of frames n) now result) node
      (waited (subst (λ (x : Paused). IsPaused model q m stack2 frames (record { current = s.current; paused = x }) now) is (pauses_now f)))

-- the first in flight is the one that was
pub broken_named : (model : Model) (q : Work) (m : Memory) (now : ℕ) (e : EvalRefusal) (n first : Node) → n ≡ first → HasBrokenOff model q m n now e → HasBrokenOff model q m first now e
broken_named model q m now e n first is b = subst (λ (x : Node). HasBrokenOff model q m x now e) is b

pub given_named : (model : Model) (q : Work) (m : Memory) (now : ℕ) (g : Given) (n first : Node) → n ≡ first → IsGiven model q m g now × (g.node ≡ n) → IsGiven model q m g now × (g.node ≡ first)
given_named model q m now g n first is f = (f.0, f.1 ∙ is)

pub flown_on : (model : Model) (q : Work) (m : Memory) (stack : Flight) (frames : List Frame) (n first : Node) (now : ℕ) (r : Running) → n ≡ first → Flies model q m stack frames r now × (first_of frames r.current.node ≡ n) → Flies model q m stack frames r now × (first_of frames r.current.node ≡ first)
flown_on model q m stack frames n first now r is f = (f.0, f.1 ∙ is)
