-- The runs in flight as the one on top has ended.
use Rattle.std.proofs.Common.{◌≡◌, ℕ, List, [], ◌∷◌, ◌++◌, ◌⊎◌, inl, inr, Ok, refl, sym, ◌∙◌, ap, subst}
use Rattle.mx_value.specs.declared.node.Node.{Node}
use Rattle.mx_value.specs.declared.refusal.EvalRefusal.TheVariants as refusal
use Rattle.mx_edit.specs.declared.reply.Reply.{Reply}
use Rattle.mx_vertices.specs.Found.{IsHeldAs}
use Rattle.mx_vertices.specs.Kept.{Kept}
use Rattle.mx_vertices.specs.Places as places
use Rattle.mx_memo.specs.Memos.{Memory, AreHeld}
use Rattle.mx_runs.specs.Lists.{Has, Distinct}
use Rattle.mx_runs.specs.Runs.{Model}
use Rattle.mx_runs.specs.Inputs.{InputsEnd}
use Rattle.mx_answers.specs.Held.{nodes_of}
use Rattle.mx_stack.specs.Flight.{Flight}
use Rattle.mx_edit.specs.Entry.{Entry}
use Rattle.mx_memo_laws.specs.Entries.{entries_of}
use Rattle.mx_memo_laws.specs.Laws.{HeldOnce}
use Rattle.mx_memo_laws.proofs.Nodes.{new_is_not_entered}
use Rattle.mx_frames.specs.declared.current.Current.{Current}
use Rattle.mx_frames.specs.Flights.{Work, Flew, IsPaused, IsSound, IsSoundPaused, IsSoundAfter, HasBrokenOff, first_of, frame_nodes, stretch_giving}
use Rattle.mx_frames.specs.Giving.{IsReadyToHold, IsHeldLast, IsAtHand, IsHandedOver, IsHandedDown, GoesDown}
use Rattle.mx_frames.specs.declared.runs.Frame.{Frame}
use Rattle.mx_frames.specs.declared.progress.Given.{Given}
use Rattle.mx_frames.specs.declared.progress.Progress.{Progress}
use Rattle.mx_frames.specs.declared.progress.Progress.TheVariants as progress
use Rattle.mx_frames.proofs.Flown.{at_end, in_front}
use Rattle.mx_frames.proofs.Sound.{distinct_front, distinct_last, distinct_pushed}
use Rattle.mx_memo.proofs.Last.{same_front}
use Rattle.mx_frames.proofs.Waits.{has_turned}
use Rattle.mx_frames.proofs.Gives.{given_held, handed_broken}

-- the flight goes on as the frames do
pub flew_down : (model : Model) (q : Work) (m : Memory) (given : Given) (stack : Flight) (frames : List Frame) (first : Node) (now : ℕ) (p : Progress) → GoesDown model q m given stack frames first now (Ok p) → Flew model q m stack frames first now (Ok p)
flew_down model q m given stack frames first now (progress.Going r) d = d
flew_down model q m given stack frames first now (progress.Done g) d = d

-- its node may be held
pub ready : (m : Memory) (frames : List Frame) (c : Current) (reply : Reply) → IsSoundPaused m frames (stretch_giving c reply) → IsReadyToHold m c
ready m frames c reply s = record {
  ordered = s.sound.ordered;
  held_once = s.sound.held_once;
  before = frame_nodes frames;
  begun = s.sound.begun;
  apart = distinct_last (frame_nodes frames) c.node s.sound.once;
  new = s.sound.new c.node (at_end (frame_nodes frames) c.node);
  asks = s.asks;
}

held_before : (held : List Kept) (k r : Kept) → places.Has (held ++ k ∷ []) r → places.Has held r ⊎ (r ≡ k)
held_before [] k r h = elim h [ inl e ↦ inr (sym e) | inr i ↦ absurd i ]
held_before (x ∷ held) k r h = elim h [ inl e ↦ inl (inl e) | inr i ↦ elim (held_before held k r i) [ inl j ↦ inl (inr j) | inr j ↦ inr j ] ]

placed_front : (held more : List Kept) (r : Kept) → places.Has held r → places.Has (held ++ more) r
placed_front [] more r h = absurd h
placed_front (x ∷ held) more r h = elim h [ inl e ↦ inl e | inr i ↦ inr (placed_front held more r i) ]

placed_last : (held : List Kept) (k : Kept) → places.Has (held ++ k ∷ []) k
placed_last [] k = inl refl
placed_last (x ∷ held) k = inr (placed_last held k)

module _ (old new : Memory) (frames : List Frame) (c : Current) (reply : Reply) (g : Given) (s : IsSoundPaused old frames (stretch_giving c reply)) (h : IsHeldLast old new c reply g) where
  -- the node is held with its id
  pub held_as : IsHeldAs new.held g.id.at g.node
  held_as = record {
    entry = h.entry;
    among = subst (λ (ks : List Kept). places.Has ks h.entry) (sym h.holds) (placed_last old.held h.entry);
    id_is = h.id_is;
    node_is = h.node_is ∙ sym h.node_given;
  }

  still_asks : (w : Frame) → Has frames w → AreHeld new.held w.current.records.asks
  still_asks w i = λ id j. (let a = s.sound.asks w i id j in record { entry = a.entry; among = subst (λ (ks : List Kept). places.Has ks a.entry) (sym h.holds) (placed_front old.held (h.entry ∷ []) a.entry a.among); is = a.is })

  once_more : HeldOnce new.held
  once_more =
      let nodes : nodes_of (entries_of new.held) ≡ nodes_of (entries_of old.held) ++ c.node ∷ [] = ap nodes_of h.entries ∙ nodes_last (entries_of old.held) _ ∙ ap (λ (x : Node). nodes_of (entries_of old.held) ++ x ∷ []) h.node_is in
      subst (λ (ns : List Node). Distinct ns) (sym nodes) (distinct_pushed (nodes_of (entries_of old.held)) c.node s.sound.held_once ((new_is_not_entered old.held c.node).0 (s.sound.new c.node (at_end (frame_nodes frames) c.node))))
    where
      nodes_last : (es : List Entry) (e : Entry) → nodes_of (es ++ e ∷ []) ≡ nodes_of es ++ e.node ∷ []
      nodes_last [] e = refl
      nodes_last (x ∷ es) e = ap (λ (ns : List Node). x.node ∷ ns) (nodes_last es e)

  -- those that wait are in flight
  pub sound_held : IsSound new frames (frame_nodes frames)
  sound_held = record {
    ordered = h.ordered;
    held_once = once_more;
    begun = (same_front new.begun (frame_nodes frames) c.node c.node (sym h.ended ∙ s.sound.begun)).0;
    once = distinct_front (frame_nodes frames) c.node s.sound.once;
    new = λ x i r j e. elim (held_before old.held h.entry r (subst (λ (ks : List Kept). places.Has ks r) h.holds j)) [
      | inl k ↦ s.sound.new x (in_front (frame_nodes frames) (c.node ∷ []) x i) r k e
      | inr k ↦ distinct_last (frame_nodes frames) c.node s.sound.once (subst (λ (y : Node). Has (frame_nodes frames) y) (sym e ∙ ap (λ (z : Kept). z.body.node) k ∙ h.node_is) i)
    ];
    asks = still_asks;
  }

  pub at_hand : IsAtHand new frames g
  at_hand = record { ordered = h.ordered; held_once = once_more; is = held_as; asks = still_asks }

-- the run on top has paused with its reply, which is held
module _ (model : Model) (ends : InputsEnd model) (q : Work) (now : ℕ) (old new : Memory) (stack : Flight) (frames : List Frame) (c : Current) (reply : Reply) (g : Given) (s : IsSoundPaused old frames (stretch_giving c reply)) (h : IsHeldLast old new c reply g)
    (p : IsPaused model q old stack frames (stretch_giving c reply) now) where
  handed_over : IsHandedOver model q new stack.below frames g.node g.reply now
  handed_over = subst (λ (n : Node). IsHandedOver model q new stack.below frames n g.reply now) (sym h.node_given) (subst (λ (r : Reply). IsHandedOver model q new stack.below frames c.node r now) (sym h.reply_given)
      (given_held model ends q now old stack frames (stretch_giving c reply) reply p refl new h.entry h.entry.body h.keys h.holds h.entries h.node_is h.reply_is h.reads_are (h.keys_are p.own) h.few (λ w i. s.sound.asks w (has_turned frames w i))))

  pub gives_broken : (first : Node) → HasBrokenOff model q new first now refusal.NoMemory
  gives_broken first = handed_broken model ends q now new stack.below frames g.node first g.reply handed_over

  pub gives_on : (stack2 : Flight) (frames2 : List Frame) (on : Progress)
      → ((q2 : Work) (m : Memory) (t : ℕ) → IsAtHand m frames g → IsHandedOver model q2 m stack.below frames g.node g.reply t → GoesDown model q2 m g stack2 frames2 (first_of frames g.node) t (Ok on)) → Flew model q new stack2 frames2 (first_of frames c.node) now (Ok on)
  gives_on stack2 frames2 on goes = subst (λ (n : Node). Flew model q new stack2 frames2 (first_of frames n) now (Ok on)) h.node_given
      (flew_down model q new g stack2 frames2 (first_of frames g.node) now on (goes q new now (at_hand old new frames c reply g s h) handed_over))

pub sound_down : (m : Memory) (frames : List Frame) (given : Given) (p : Progress) → IsHeldAs m.held given.id.at given.node → IsHandedDown m frames given (Ok p) → IsSoundAfter m frames (Ok p)
sound_down m frames given (progress.Going r) i d = d
sound_down m frames given (progress.Done g) i d = (d.2, d.1, subst (λ (x : Given). IsHeldAs m.held x.id.at x.node) (sym d.0) i)
