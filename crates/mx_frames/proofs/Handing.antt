-- A run that waits goes on with the reply of the node that it asked.
use Rattle.std.proofs.Common.{◌≡◌, ℕ, ◌≤◌, List, [], ◌∷◌, ◌++◌, length, refl, sym, ◌∙◌, ap, subst}
use Rattle.mx_value.specs.declared.node.Node.{Node}
use Rattle.mx_value.specs.declared.read.Read.TheVariants as read
use Rattle.mx_edit.specs.declared.reply.Reply.{Reply}
use Rattle.mx_graph.specs.declared.ids.NodeId.{NodeId}
use Rattle.mx_memo.specs.Memos.{Memory, AreHeld}
use Rattle.mx_runs.specs.Lists.{Has, Distinct}
use Rattle.mx_runs.specs.Runs.{Model, Run}
use Rattle.mx_runs.specs.Inputs.{InputsEnd}
use Rattle.mx_suspended.specs.Recorded.{GoesPast}
use Rattle.mx_code_law.specs.States.{State}
use Rattle.mx_stack.specs.Flight.{Flight}
use Rattle.mx_read_set.specs.Seen.{Seen, with_read}
use Rattle.mx_interpreter.specs.Runs.{recorded}
use Rattle.mx_node_runs.specs.Halts.{HaltsAt, Resumes}
use Rattle.mx_memo_laws.proofs.Nodes.{one_under_id}
use Rattle.mx_binding.specs.Records.{with_ask, HasOwnKey}
use Rattle.mx_binding.specs.declared.records.Records.{Records}
use Rattle.mx_binding.proofs.Recording.{ask_held}
use Rattle.mx_frames.specs.declared.current.Running.{Running}
use Rattle.mx_frames.proofs.Passes.{grows, own_stays}
use Rattle.mx_frames.specs.Flights.{Work, Flies, IsSound, IsSoundWith, first_of, frame_nodes}
use Rattle.mx_frames.specs.Giving.{IsAtHand, IsHandedOver}
use Rattle.mx_frames.specs.declared.runs.Frame.{Frame}
use Rattle.mx_frames.specs.declared.progress.Given.{Given}
use Rattle.mx_frames.proofs.Standing.{first_pushed}
use Rattle.mx_frames.proofs.Flown.{in_front, at_end}
use Rattle.mx_frames.proofs.Waiting.{nodes_pushed}
use Rattle.mx_frames.proofs.Gives.{Popped, asker_flies, asker_resumes, popped}

module _ (m : Memory) (olds front : List Frame) (w : Frame) (given : Given) (is : olds ≡ front ++ w ∷ []) (at : IsAtHand m olds given)
    (x : Node) (ex : x ≡ given.node) (records : Records) (rs : records.seen ≡ with_read (read.Node x) w.current.records.seen) (ra : records.asks ≡ with_ask given.id w.current.records.asks)
    (r : Running) (en : r.current.node ≡ w.current.node) (ea : r.current.records.asks ≡ records.asks) where
  last_asks : AreHeld m.held w.current.records.asks
  last_asks = at.asks w (subst (λ (ws : List Frame). Has ws w) (sym is) (at_end front w))

  -- the frames are sound with it on top
  pub sound_on : IsSound m olds (frame_nodes olds) → IsSoundWith m front r
  sound_on s = record {
    sound = record {
      ordered = s.ordered;
      held_once = s.held_once;
      begun = s.begun ∙ nodes;
      once = subst (λ (ns : List Node). Distinct ns) nodes s.once;
      new = λ y i. s.new y (subst (λ (ns : List Node). Has ns y) (sym nodes) i);
      asks = λ v i. s.asks v (subst (λ (ws : List Frame). Has ws v) (sym is) (in_front front (w ∷ []) v i));
    };
    asks = subst (λ (ids : List NodeId). AreHeld m.held ids) (sym (ea ∙ ra)) (ask_held m.held w.current.records.asks given.id last_asks (record { entry = at.is.entry; among = at.is.among; is = at.is.id_is }));
  }
    where
      nodes : frame_nodes olds ≡ frame_nodes front ++ r.current.node ∷ []
      nodes = ap frame_nodes is ∙ nodes_pushed front w ∙ ap (λ (y : Node). frame_nodes front ++ y ∷ []) (sym en)

  -- it flies on
  module _ (model : Model) (ends : InputsEnd model) (q : Work) (now : ℕ) (b : List State) (h : IsHandedOver model q m b olds given.node given.reply now) (stack1 stack2 : Flight)
      (back : (s : State) (others : List State) → b ≡ s ∷ others → stack1 ≡ record { top = s; below = others }) (reply : Reply) (er : reply ≡ given.reply)
      (goes : (go : Reply → Run) → Resumes w.current.node w.waiting stack1.top go → HaltsAt model w.current.node (go reply) records.seen r.current.records.seen r.halt stack2.top × (stack2.below ≡ stack1.below)) where
    over : IsHandedOver model q m b (front ++ w ∷ []) given.node given.reply now
    over = subst (λ (ws : List Frame). IsHandedOver model q m b ws given.node given.reply now) is h

    abbrev was : Popped model ends q now m b front w given.node given.reply over
    was = popped model ends q now m b front w given.node given.reply over

    stack_is : stack1 ≡ record { top = was.state; below = was.states }
    stack_is = back was.state was.states was.on

    abbrev go_on : Reply → Run
    go_on = was.asker.go

    gone : HaltsAt model w.current.node (go_on reply) records.seen r.current.records.seen r.halt stack2.top × (stack2.below ≡ stack1.below)
    gone = goes go_on (subst (λ (f : Flight). Resumes w.current.node w.waiting f.top go_on) (sym stack_is) (asker_resumes model ends q now m b front w given.node given.reply over))

    halts : HaltsAt model w.current.node (go_on given.reply) records.seen r.current.records.seen r.halt stack2.top
    halts = subst (λ (y : Reply). HaltsAt model w.current.node (go_on y) records.seen r.current.records.seen r.halt stack2.top) er gone.0

    own : HasOwnKey w.current.node r.current.records.seen.keys
    own =
        let before : HasOwnKey w.current.node records.seen.keys = subst (λ (s : Seen). HasOwnKey w.current.node s.keys) (sym rs) (popped model ends q now m b front w given.node given.reply over).stands.own in
        let past : GoesPast model [] (go_on given.reply) (recorded records.seen []) halts.rest (recorded r.current.records.seen []) = halts.past [] [] in
        own_stays w.current.node (recorded records.seen []) (recorded r.current.records.seen []) (grows model [] (go_on given.reply) halts.rest (recorded records.seen []) (recorded r.current.records.seen []) past) before

    pub flies_on : Flies model q m stack2 front r now × (first_of front r.current.node ≡ first_of olds given.node)
    flies_on = (
      asker_flies model ends q now m b front w given.node given.reply over at.held_once last_asks given.id at.is.entry at.is.among at.is.id_is at.is.node_is (one_under_id m given.id.at given.node at.ordered at.is)
          records (subst (λ (y : Node). records.seen ≡ with_read (read.Node y) w.current.records.seen) ex rs) ra stack2 r r.current.records.seen (gone.1 ∙ ap (λ (f : Flight). f.below) stack_is) en refl ea halts own,
      ap (first_of front) en ∙ sym (first_pushed front w given.node) ∙ ap (λ (ws : List Frame). first_of ws given.node) (sym is),
    )
