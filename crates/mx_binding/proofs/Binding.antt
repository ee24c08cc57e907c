-- The bound form of a node whose walk past held items led so far.
use Rattle.std.proofs.Common.{◌≡◌, List, [], ◌∷◌, ◌++◌, Option, None, inl, inr, refl, sym, ◌∙◌, ap, subst}
use Rattle.std.proofs.lemmas.List.{append-nil}
use Rattle.mx_value.specs.declared.value.Segment.{Segment}
use Rattle.mx_value.specs.declared.namespace.Namespace.{Namespace}
use Rattle.mx_value.specs.declared.node.Node.{Node}
use Rattle.mx_value.specs.declared.node.Node.TheVariants.{Cell, Item}
use Rattle.mx_edit.specs.Entry.{Entry}
use Rattle.mx_edit.specs.declared.reply.Reply.{Reply}
use Rattle.mx_vertices.specs.Kept.{Kept}
use Rattle.mx_runs.specs.Lists.{Has}
use Rattle.mx_runs.specs.Runs.{Model, Outcome, NoSuch, WrongCount, NoLevel, Run, Ends, Asks, Event, Looked, Tested, Asked, Noted}
use Rattle.mx_runs.specs.Meaning.{Leads}
use Rattle.mx_runs.specs.Chains.{asks_of}
use Rattle.mx_runs.proofs.Lists.{has_map}
use Rattle.mx_runs.proofs.Levels.{leads_append, ends_only}
use Rattle.mx_runs.proofs.Runs.{comparable, asked_by_end, asks_append}
use Rattle.mx_answers.specs.Held.{nodes_of}
use Rattle.mx_meaning.specs.Binding.{binding}
use Rattle.mx_meaning.specs.Walks.{entered, walked, walked_from}
use Rattle.mx_suspended.specs.Recorded.{Recorded}
use Rattle.mx_walks.specs.Ways.{Came, AsksAt, Refused, leading_run}
use Rattle.mx_memo_laws.specs.Entries.{entries_of}
use Rattle.mx_memo_laws.proofs.Nodes.{new_is_not_entered}
use Rattle.mx_state.specs.Evaluations.{IsBoundBy}
use Rattle.mx_state.specs.Proper.{address_of}
use Rattle.mx_binding.specs.declared.records.Records.{Records}
use Rattle.mx_binding.specs.declared.settled.Settled.{Settled}
use Rattle.mx_binding.specs.declared.settled.Settled.TheVariants as settled
use Rattle.mx_binding.specs.declared.walking.Led.TheVariants as led
use Rattle.mx_binding.specs.Walking.{IsAnswered, AreAnswered, WalksTo, IsLed}
use Rattle.mx_binding.specs.Settles.{binding_end, settled_run, Settles, bound_in, IsSettled}
use Rattle.mx_binding.specs.Bound.{IsBoundForm}

binding_is : (n : Node) (go : Node → Run) → binding n go ≡ walked (address_of n) (binding_end n go)
binding_is (Cell at name args) go = refl
binding_is (Item at args) go = refl

-- each node that was asked is held
asked_held : (held : List Entry) (es : List Event) → AreAnswered held es → (m : Node) → Has (asks_of es) m → Has (nodes_of held) m
asked_held held [] a m h = absurd h
asked_held held (Looked k ∷ es) a m h = asked_held held es a m h
asked_held held (Tested k ∷ es) a m h = asked_held held es a m h
asked_held held (Noted r ∷ es) a m h = asked_held held es a m h
asked_held held (Asked x r ∷ es) a m h =
    let b : IsAnswered held x r = a.0 in
    elim h [
      | inl e ↦ subst (λ (y : Node). Has (nodes_of held) y) (b.node_is ∙ e) (has_map (λ (e : Entry). e.node) held b.entry b.among)
      | inr i ↦ asked_held held es a.1 m i
    ]

-- an end that no run of a formula has
abbrev mark : Node → Run
mark b = Ends NoLevel

module _ (model : Model) (nodes : List Node) (n : Node) (es : List Event) where
  -- what ends without a bound form has none
  none_ended : (o : Outcome) → (Ends o ≡ Ends NoLevel → ⊥) → ((go : Node → Run) → Leads model (binding n go) es (Ends o)) → (b : Node) → IsBoundBy model nodes n b → ⊥
  none_ended o other l b i =
      elim (comparable model (binding n mark) (Ends o) (Ends NoLevel) es i.events (l mark) (i.leads mark)) [
        | inl a ↦ other (sym (ends_only model o (Ends NoLevel) a.more a.leads).1)
        | inr a ↦ other (ends_only model NoLevel (Ends o) a.more a.leads).1
      ]

  -- nor has what waits for a node that is not among these
  none_waiting : (m : Node) (go_on : (Node → Run) → Reply → Run) → (Has nodes m → ⊥) → ((go : Node → Run) → Leads model (binding n go) es (Asks m (go_on go))) → (b : Node) → IsBoundBy model nodes n b → ⊥
  none_waiting m go_on new l b i = new (i.held m (asked_by_end model (binding n mark) m (go_on mark) NoLevel es i.events (l mark) (i.leads mark)))

no_such : Ends NoSuch ≡ Ends NoLevel → ⊥
no_such e = cc

wrong_count : Ends WrongCount ≡ Ends NoLevel → ⊥
wrong_count e = cc

module _ (model : Model) (n : Node) where
  module _ (held : List Entry) (so_far : Recorded) (ns : Namespace) (w : WalksTo model held (address_of n) (Came ns) so_far) where
    settled_then : (to : Settled) (s : Settles model n ns to) (go : Node → Run) → Leads model (binding n go) (w.events ++ s.events) (settled_run to go)
    settled_then to s go =
        subst (λ (r : Run). Leads model r (w.events ++ s.events) (settled_run to go)) (sym (binding_is n go))
        (leads_append model (walked (address_of n) (binding_end n go)) (binding_end n go ns) (settled_run to go) w.events s.events (w.leads (binding_end n go)) (s.leads go))

    asks_alone : (to : Settled) (s : Settles model n ns to) → asks_of (w.events ++ s.events) ≡ asks_of w.events
    asks_alone to s = asks_append w.events s.events ∙ ap (λ (ms : List Node). asks_of w.events ++ ms) s.asks_none ∙ append-nil (asks_of w.events)

    form_of : (to : Settled) → Settles model n ns to → IsBoundForm model (nodes_of held) n (bound_in to)
    form_of (settled.Bound b) s = record {
      events = w.events ++ s.events;
      leads = settled_then (settled.Bound b) s;
      held = λ m h. asked_held held w.events w.answered m (subst (λ (ms : List Node). Has ms m) (asks_alone (settled.Bound b) s) h);
    }
    form_of settled.NoSuch s = none_ended model (nodes_of held) n (w.events ++ s.events) NoSuch no_such (settled_then settled.NoSuch s)
    form_of settled.WrongCount s = none_ended model (nodes_of held) n (w.events ++ s.events) WrongCount wrong_count (settled_then settled.WrongCount s)

  module _ (held : List Kept) (records : Records) where
    walk_then : (es : List Event) (rest : (Namespace → Run) → Run) → ((go : Namespace → Run) → Leads model (walked (address_of n) go) es (rest go)) → (go : Node → Run) → Leads model (binding n go) es (rest (binding_end n go))
    walk_then es rest l go = subst (λ (r : Run). Leads model r es (rest (binding_end n go))) (sym (binding_is n go)) (l (binding_end n go))

    -- where the walk came to a namespace, the bound form is what is settled there
    pub form_there : (ns : Namespace) → IsLed model held (address_of n) (led.Came ns) records → (found : Option Node) → IsSettled model n ns found → IsBoundForm model (nodes_of (entries_of held)) n found
    form_there ns l found s =
        subst (λ (x : Option Node). IsBoundForm model (nodes_of (entries_of held)) n x) (sym s.is)
        (form_of (entries_of held) _ ns l.stands.walk s.to s.settles)

    -- where it waits or was refused there is none
    pub none_there : (m : Node) (rest : List Segment) → IsLed model held (address_of n) (led.Waits m rest) records → IsBoundForm model (nodes_of (entries_of held)) n None
    none_there m rest l =
        none_waiting model (nodes_of (entries_of held)) n l.stands.walk.events m (λ go r. entered r.namespace (λ ns. walked_from rest ns (binding_end n go)))
        ((new_is_not_entered held m).0 l.waits)
        (walk_then l.stands.walk.events (leading_run (AsksAt m rest)) l.stands.walk.leads)

    pub none_such : IsLed model held (address_of n) led.NoSuch records → IsBoundForm model (nodes_of (entries_of held)) n None
    none_such l =
        none_ended model (nodes_of (entries_of held)) n l.stands.walk.events NoSuch no_such
        (walk_then l.stands.walk.events (leading_run (Refused NoSuch)) l.stands.walk.leads)

    pub none_bound : IsLed model held (address_of n) led.WrongCount records → IsBoundForm model (nodes_of (entries_of held)) n None
    none_bound l =
        none_ended model (nodes_of (entries_of held)) n l.stands.walk.events WrongCount wrong_count
        (walk_then l.stands.walk.events (leading_run (Refused WrongCount)) l.stands.walk.leads)
