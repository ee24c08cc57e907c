-- A run that waits for a node which it asks: that one awaits its run, or is in flight, or too deep.
use Rattle.std.proofs.Common.{true, false, ◌≡◌, ℕ, ◌+◌, ◌≤◌, ◌<◌, List, [], ◌∷◌, ◌++◌, ◌⊎◌, inl, inr, length, reverse, refl, sym, ◌∙◌, ap, subst, arith}
use Rattle.std.proofs.lemmas.List.{reverse-append, reverse-reverse, append_assoc, length-reverse}
use Rattle.mx_value.specs.declared.node.Node.{Node}
use Rattle.mx_value.specs.declared.node.Node.TheVariants.{Item}
use Rattle.mx_value.specs.declared.refusal.EvalRefusal.TheVariants as refusal
use Rattle.mx_memo.specs.Memos.{Memory}
use Rattle.mx_runs.specs.Lists.{Has}
use Rattle.mx_runs.specs.Runs.{Model, Run, Asks}
use Rattle.mx_runs.specs.Inputs.{InputsEnd, is_input}
use Rattle.mx_runs.specs.Chains.{asks_of}
use Rattle.mx_meaning.specs.Laws.{BindsTo}
use Rattle.mx_answers.specs.Held.{nodes_of, IsKnown}
use Rattle.mx_suspended.specs.Flights.{Suspended, InFlight, IsTop, Awaits, nodes_waiting}
use Rattle.mx_suspended.proofs.Steps.{asking, answering_ring, answering_too_deep}
use Rattle.mx_suspended.proofs.Growing.{asked_recorded}
use Rattle.mx_suspended.proofs.Deep.{on_ring}
use Rattle.mx_suspended.specs.ItemsFirst.{PassesThrough, address_of}
use Rattle.mx_code_law.specs.States.{State}
use Rattle.mx_stack.specs.Flight.{Flight, idle}
use Rattle.mx_memo_laws.specs.Entries.{entries_of}
use Rattle.mx_binding.specs.Records.{recorded_in}
use Rattle.mx_frames.specs.Flights.{AsksInOrder, Work, IsAloft, IsAwaited, IsPaused, HasBrokenOff, IsOnTheWay, IsItemBefore, Stand, first_of, frame_nodes}
use Rattle.mx_frames.specs.declared.runs.Frame.{Frame}
use Rattle.mx_frames.specs.declared.current.Current.{Current}
use Rattle.mx_frames.specs.declared.passing.Asked.{Asked}
use Rattle.mx_frames.specs.declared.passing.Paused.TheVariants as paused
use Rattle.mx_frames.proofs.Standing.{stand_nodes, stand_long, map_reverse, rev_push}
use Rattle.mx_frames.proofs.Flown.{is_flying, kept_end, unkept_end, under_broken}

-- the last of those that wait asks the node
pub record IsAsking (model : Model) (q : Work) (m : Memory) (b : List State) (frames : List Frame) (n first : Node) (now : ℕ) : Type 0 where
  pub flight : InFlight
  pub aloft : IsAloft q m b frames now flight
  pub way : IsOnTheWay model q.bottom first
  pub awaits : Awaits model q.ev flight n
  pub flying : Has (nodes_waiting flight.waiting) first

-- a node of none of these waits not among them
none_of : (fs : List Suspended) (n : Node) → ((f : Suspended) → Has fs f → f.node ≡ n → ⊥) → Has (nodes_waiting fs) n → ⊥
none_of [] n none h = absurd h
none_of (f ∷ fs) n none h = elim h [ inl e ↦ none f (inl refl) e | inr i ↦ none_of fs n (λ g j. none g (inr j)) i ]

has_cases : {X : Type 0} (xs ys : List X) (x : X) → Has (xs ++ ys) x → Has xs x ⊎ Has ys x
has_cases [] ys x h = inr h
has_cases (z ∷ xs) ys x h = elim h [ inl e ↦ inl (inl e) | inr i ↦ elim (has_cases xs ys x i) [ inl j ↦ inl (inr j) | inr j ↦ inr j ] ]

pub has_turned : {X : Type 0} (xs : List X) (x : X) → Has (reverse xs) x → Has xs x
has_turned [] x h = absurd h
has_turned {X} (z ∷ xs) x h = elim (has_cases (reverse xs) (z ∷ []) x (subst (λ (ys : List X). Has ys x) (reverse-append (z ∷ []) xs) h)) [
  | inl i ↦ inr (has_turned xs x i)
  | inr i ↦ elim i [ inl e ↦ inl e | inr j ↦ absurd j ]
]

has_behind : {X : Type 0} (xs : List X) (x : X) (ys : List X) → Has (xs ++ x ∷ ys) x
has_behind [] x ys = inl refl
has_behind (z ∷ xs) x ys = inr (has_behind xs x ys)

module _ (model : Model) (ends : InputsEnd model) (q : Work) (m : Memory) (now : ℕ) where
  -- the run on top, with its frame
  module _ (stack : Flight) (frames : List Frame) (current : Current) (a : Asked)
      (p : IsPaused model q m stack frames (record { current = current; paused = paused.Asks a }) now)
      (unheld : Has (nodes_of (entries_of m.held)) a.node → ⊥) (own : is_input model a.node ≡ false) where
    abbrev frame : Frame
    frame = record { current = current; waiting = a.waiting }

    -- the states of the runs that wait
    abbrev states : List State
    states = stack.top ∷ stack.below

    abbrev waiter : Suspended
    waiter = record { node = current.node; so_far = recorded_in m.held current.records; go = p.pauses.0 }

    asked_top : IsTop model q.ev p.flight current.node (recorded_in m.held current.records) (Asks a.node p.pauses.0)
    asked_top = subst (λ (x : Run). IsTop model q.ev p.flight current.node (recorded_in m.held current.records) x) p.pauses.1 p.top

    unknown : IsKnown model (nodes_of p.flight.held) a.node → ⊥
    unknown k = elim k [ inl h ↦ unheld (subst (λ (x : List Node). Has x a.node) (ap nodes_of p.aloft.held) h) | inr i ↦ (let j : true ≡ false = sym i ∙ own in absurd (cc)) ]

    pub asks : IsAsking model q m states (frames ++ frame ∷ []) a.node (first_of frames current.node) now
    asks = record {
      flight = record p.flight { waiting = waiter ∷ p.flight.waiting };
      aloft = record {
        held = p.aloft.held;
        counted = p.aloft.counted;
        stand = subst (λ (ws : List Frame). Stand m.held states ws (waiter ∷ p.flight.waiting) q.bottom) (sym (rev_push frames frame)) (
          stack.top,
          stack.below,
          refl,
          record {
            node = refl;
            so_far = refl;
            resumes = p.pauses.2;
            own = p.own;
          },
          p.aloft.stand,
        );
      };
      way = p.way;
      awaits = asking model q.ev p.flight current.node a.node (recorded_in m.held current.records) p.pauses.0 asked_top unknown;
      flying = is_flying model ends q m stack frames _ now p (first_of frames current.node) refl;
    }

    -- the node is none of the bottom, whose way leads through the first in flight: the run on top would have asked that
    pub not_below : AsksInOrder model → Has (nodes_waiting q.bottom) a.node → ⊥
    not_below items h = none_of q.bottom a.node (λ (f : Suspended) (i : Has q.bottom f) (e : f.node ≡ a.node). off f e (p.way f i)) h
      where
        off : (f : Suspended) → f.node ≡ a.node → (BindsTo model f.node f.node → IsItemBefore (first_of frames current.node) f.node) → ⊥
        off f e on =
            let b : BindsTo model a.node a.node = items.bound current.node a.node (record { events = asked_top.stands.comes.events; go = p.pauses.0; leads = asked_top.stands.comes.leads }) in
            let i : IsItemBefore (first_of frames current.node) f.node = on (subst (λ (x : Node). BindsTo model x x) (sym e) b) in
            let asked : Has (asks_of asked_top.stands.comes.events) (Item i.at i.args) =
            items.items current.node a.node asked_top.stands.comes.events p.pauses.0 i.at i.args asked_top.stands.comes.leads (subst (λ (x : Node). PassesThrough (address_of x) i.at i.args) e i.passes) in
            let held : Has (nodes_of p.flight.held) (Item i.at i.args) = asked_top.stands.kept (Item i.at i.args) (asked_recorded model current.node (recorded_in m.held current.records) (Asks a.node p.pauses.0) asked_top.stands.comes (Item i.at i.args) refl asked) in
            p.top.apart.unknown (first_of frames current.node) (is_flying model ends q m stack frames _ now p (first_of frames current.node) refl) (inl (subst (λ (x : Node). Has (nodes_of p.flight.held) x) (sym i.is) held))

  -- the node has its turn
  module _ (b : List State) (frames : List Frame) (n first : Node) (a : IsAsking model q m b frames n first now) where
    nodes_are : nodes_waiting a.flight.waiting ≡ frame_nodes (reverse frames) ++ nodes_waiting q.bottom
    nodes_are = stand_nodes m.held b (reverse frames) a.flight.waiting q.bottom a.aloft.stand

    long : length a.flight.waiting ≡ length frames + length q.bottom
    long = (let i = stand_long m.held b (reverse frames) a.flight.waiting q.bottom a.aloft.stand in let j = length-reverse frames in omega (arith, i, j))

    pub asking_broken : HasBrokenOff model q m first now refusal.NoMemory
    asking_broken = under_broken model ends q m a.flight _ first now a.aloft.held a.aloft.counted a.awaits.under_way

    -- neither a frame nor the bottom has it
    apart : (Has (frame_nodes frames) n → ⊥) → (Has (nodes_waiting q.bottom) n → ⊥) → Has (nodes_waiting a.flight.waiting) n → ⊥
    apart f below h = elim (has_cases (frame_nodes (reverse frames)) (nodes_waiting q.bottom) n (subst (λ (ns : List Node). Has ns n) nodes_are h)) [
      | inl i ↦ f (has_turned (frame_nodes frames) n (subst (λ (ns : List Node). Has ns n) (map_reverse (λ (w : Frame). w.current.node) frames) i))
      | inr i ↦ below i
    ]

    pub awaited : (stack : Flight) → stack.below ≡ b → stack.top ≡ idle → (Has (frame_nodes frames) n → ⊥) → (Has (nodes_waiting q.bottom) n → ⊥) → length frames + length q.bottom < q.ev.limit → first_of frames n ≡ first → IsAwaited model q m stack frames n now
    awaited stack on none f below room e = record {
      flight = a.flight;
      aloft = subst (λ (x : List State). IsAloft q m x frames now a.flight) (sym on) a.aloft;
      idle = none;
      way = subst (λ (x : Node). IsOnTheWay model q.bottom x) (sym e) a.way;
      awaits = a.awaits;
      apart = apart f below;
      room = (let i = long in omega (arith, i, room));
    }

    pub asked_too_deep : (to : Node) → to ≡ n → (Has (frame_nodes frames) n → ⊥) → (Has (nodes_waiting q.bottom) n → ⊥) → q.ev.limit ≤ length frames + length q.bottom → HasBrokenOff model q m first now (refusal.TooDeep to)
    asked_too_deep to e f below deep = subst (λ (x : Node). HasBrokenOff model q m first now (refusal.TooDeep x)) (sym e) (record {
      ticks = a.flight.ticks;
      counted = a.aloft.counted;
      ended = unkept_end model ends q m a.flight _ (refusal.TooDeep n) refl a.aloft.held a.awaits.under_way
          (answering_too_deep model q.ev a.flight n a.flight.ticks ends a.awaits (apart f below) (let i = long in omega (arith, i, deep)));
      lost = λ z. absurd z;
    })

    -- the nodes that wait, the longest first
    turned_nodes : reverse (nodes_waiting a.flight.waiting) ≡ reverse (nodes_waiting q.bottom) ++ frame_nodes frames
    turned_nodes =
        ap reverse nodes_are ∙ reverse-append (frame_nodes (reverse frames)) (nodes_waiting q.bottom)
        ∙ ap (λ (ns : List Node). reverse (nodes_waiting q.bottom) ++ ns) (ap reverse (map_reverse (λ (w : Frame). w.current.node) frames) ∙ reverse-reverse (frame_nodes frames))

    pub asked_ring : (lead rest ring : List Node) → frame_nodes frames ≡ lead ++ n ∷ rest → ring ≡ n ∷ rest → HasBrokenOff model q m first now (refusal.Ring ring)
    asked_ring lead rest ring e r =
        let is : reverse (nodes_waiting a.flight.waiting) ≡ (reverse (nodes_waiting q.bottom) ++ lead) ++ n ∷ rest =
        turned_nodes ∙ ap (λ (ns : List Node). reverse (nodes_waiting q.bottom) ++ ns) e ∙ sym (append_assoc (reverse (nodes_waiting q.bottom)) lead (n ∷ rest)) in
        let at : Has (nodes_waiting a.flight.waiting) n = has_turned (nodes_waiting a.flight.waiting) n (subst (λ (ns : List Node). Has ns n) (sym is) (has_behind (reverse (nodes_waiting q.bottom) ++ lead) n rest)) in
        subst (λ (x : List Node). HasBrokenOff model q m first now (refusal.Ring x)) (sym r) (record {
          ticks = a.flight.ticks;
          counted = a.aloft.counted;
          ended = kept_end model ends q m a.flight _ (refusal.Ring (n ∷ rest)) refl a.aloft.held a.awaits.under_way (answering_ring model q.ev a.flight n (reverse (nodes_waiting q.bottom) ++ lead) rest ends a.awaits is);
          lost = λ z v. on_ring model q.ev a.flight.waiting n (nodes_of a.flight.held) a.awaits.waits at first (inr a.flying) _ v.means;
        })
