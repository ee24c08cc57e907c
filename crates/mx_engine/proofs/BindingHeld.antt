-- What a held node's binding asked is held: so its bound form is known by what is held.
use Rattle.std.proofs.Common.{Bool, true, false, ◌≡◌, nat_le, List, [], ◌∷◌, ◌++◌, inl, inr, Option, Some, None, if◌then◌else◌, length, refl, sym, ◌∙◌, ap, subst}
use Rattle.std.proofs.lemmas.List.{append-nil}
use Rattle.mx_value.specs.declared.value.Value.{Value}
use Rattle.mx_value.specs.declared.value.Segment.{Segment, out-Segment}
use Rattle.mx_value.specs.declared.value.Segment.TheOpen.{Segment-F}
use Rattle.mx_value.specs.declared.namespace.Namespace.{Namespace}
use Rattle.mx_value.specs.declared.node.Node.{Node}
use Rattle.mx_value.specs.declared.node.Node.TheVariants.{Item}
use Rattle.mx_syntax.specs.Binding.{bound, is_wrong_count}
use Rattle.mx_edit.specs.Entry.{Entry}
use Rattle.mx_edit.specs.declared.key.Key.{Key}
use Rattle.mx_edit.specs.declared.key.Key.TheVariants as key
use Rattle.mx_edit.specs.declared.key.KeyResult.{KeyResult}
use Rattle.mx_edit.specs.declared.key.KeyResult.TheVariants as found
use Rattle.mx_runs.specs.Lists.{Has}
use Rattle.mx_runs.specs.Runs.{Run, Ends, Tests, Asks, Outcome, NoSuch, WrongCount, Event, Looked, Tested, Asked, Noted}
use Rattle.mx_runs.specs.Inputs.{is_input}
use Rattle.mx_runs.specs.Meaning.{Leads}
use Rattle.mx_runs.specs.Chains.{asks_of, DoesAsk}
use Rattle.mx_runs.proofs.Lists.{has_right, has_cases}
use Rattle.mx_runs.proofs.Levels.{ends_only}
use Rattle.mx_runs.proofs.Runs.{comparable, asks_append}
use Rattle.mx_runs.proofs.Events.{asked_is_ask}
use Rattle.mx_meaning.specs.Namespaces.{Step, root, child, ends_with_name}
use Rattle.mx_meaning.specs.Walks.{Onward, entered, item_entered, stepped, walked_from, walked}
use Rattle.mx_meaning.specs.Laws.{model_of as over, BindsTo}
use Rattle.mx_answers.specs.Held.{nodes_of, IsRight}
use Rattle.mx_model.specs.Records.{ModelRecord}
use Rattle.mx_model.specs.Keys.{key_result}
use Rattle.mx_state.specs.Model.{model_of}
use Rattle.mx_state.specs.Proper.{address_of}
use Rattle.mx_state.specs.Evaluations.{IsBoundBy}
use Rattle.mx_state.specs.Laws.{BoundIsBound, BoundWalksAlike}
use Rattle.mx_state.proofs.Bound.{bound_as}

-- ---- a walk asks no inputs

-- an end behind a walk
abbrev stop : Onward
stop ns = Ends NoSuch

module _ (look : Key → KeyResult) (space : Namespace) where
  -- by these events it comes to the space, whatever comes then
  abbrev Comes : (Onward → Run) → List Event → Type 0
  Comes start es = (go : Onward) → Leads (over look) (start go) es (go space)

  abbrev NoInputs : List Event → Type 0
  NoInputs es = (m : Node) → Has (asks_of es) m → is_input (over look) m ≡ false

  -- each way to come there asks none
  abbrev AsksNone : (Onward → Run) → Type 0
  AsksNone start = (es : List Event) → Comes start es → NoInputs es

  not_ended : (o : Outcome) → AsksNone (λ go. Ends o)
  not_ended o [] l = absurd (let e : Ends o ≡ Ends NoSuch = l stop in let f : Ends o ≡ Ends WrongCount = l (λ ns. Ends WrongCount) in cc)
  not_ended o (Looked k ∷ es) l = absurd (l stop)
  not_ended o (Tested k ∷ es) l = absurd (l stop)
  not_ended o (Asked m r ∷ es) l = absurd (l stop)
  not_ended o (Noted r ∷ es) l = absurd (l stop)

  went_on : (ns : Namespace) → AsksNone (λ go. go ns)
  went_on ns [] l = λ m h. absurd h
  went_on ns (Looked k ∷ es) l = absurd (l stop)
  went_on ns (Tested k ∷ es) l = absurd (l stop)
  went_on ns (Asked m r ∷ es) l = absurd (l stop)
  went_on ns (Noted r ∷ es) l = absurd (l stop)

  or_refused : (b : Bool) (o : Outcome) (start : Onward → Run) → AsksNone start → AsksNone (λ go. if b then Ends o else start go)
  or_refused true o start k = not_ended o
  or_refused false o start k = k

  and_refused : (b : Bool) (o : Outcome) (start : Onward → Run) → AsksNone start → AsksNone (λ go. if b then start go else Ends o)
  and_refused true o start k = k
  and_refused false o start k = not_ended o

  module _ (on : Namespace → Onward → Run) (further : (ns : Namespace) → AsksNone (on ns)) (ns : Namespace) (args : List Value) where
    enters : (o : Option Namespace) → AsksNone (λ go. entered o (λ next. on next go))
    enters (Some next) = further next
    enters None = not_ended NoSuch

    asks_item : (vs : List Value) → AsksNone (λ go. Asks (Item ns.at vs) (λ r. entered r.namespace (λ next. on next go)))
    asks_item vs [] l = absurd (let e : Asks (Item ns.at vs) (λ r. entered r.namespace (λ next. on next stop)) ≡ Ends NoSuch = l stop in cc)
    asks_item vs (Looked k ∷ es) l = absurd (l stop)
    asks_item vs (Tested k ∷ es) l = absurd (l stop)
    asks_item vs (Noted r ∷ es) l = absurd (l stop)
    asks_item vs (Asked x r ∷ es) l = λ m h.
        elim h [
          | inl e ↦ subst (λ (y : Node). is_input (over look) y ≡ false) (sym (l stop).0 ∙ e) refl
          | inr t ↦ enters r.namespace es (λ go. (l go).2) m t
        ]

    found_item : (r : KeyResult) → AsksNone (λ go. item_entered ns args (λ next. on next go) r)
    found_item (found.Params ps) =
        or_refused (is_wrong_count ps.params (length args)) WrongCount (λ go. Asks (Item ns.at (bound ps.params args)) (λ r. entered r.namespace (λ next. on next go))) (asks_item (bound ps.params args))
    found_item found.Missing = not_ended NoSuch
    found_item found.CellsHere = not_ended NoSuch
    found_item found.Child = not_ended NoSuch
    found_item (found.Ref v w) = not_ended NoSuch
    found_item (found.Formula f a) = not_ended NoSuch
    found_item found.There = not_ended NoSuch
    found_item (found.Value v) = not_ended NoSuch
    found_item (found.Table t) = not_ended NoSuch

    tests_item : AsksNone (λ go. Tests (key.Params ns.source) (item_entered ns args (λ next. on next go)))
    tests_item [] l = absurd (let e : Tests (key.Params ns.source) (item_entered ns args (λ next. on next stop)) ≡ Ends NoSuch = l stop in cc)
    tests_item (Looked k ∷ es) l = absurd (l stop)
    tests_item (Asked m r ∷ es) l = absurd (l stop)
    tests_item (Noted r ∷ es) l = absurd (l stop)
    tests_item (Tested k ∷ es) l = found_item (look (key.Params ns.source)) es (λ go. (l go).1)

  steps : (on : Namespace → Onward → Run) → ((ns : Namespace) → AsksNone (on ns)) → (s : Step) (ns : Namespace) → AsksNone (λ go. stepped s ns (λ next. on next go))
  steps on further (Segment-F.Name name) ns = further (child name ns)
  steps on further (Segment-F.Item args) ns = and_refused (ends_with_name ns.at) NoSuch (λ go. Tests (key.Params ns.source) (item_entered ns args (λ next. on next go))) (tests_item on further ns args)

  from : (segments : List Segment) (ns : Namespace) → AsksNone (λ go. walked_from segments ns go)
  from [] ns = went_on ns
  from (s ∷ more) ns =
      or_refused (nat_le 64 (length ns.at)) NoSuch (λ go. stepped (out-Segment s) ns (λ next. walked_from more next go)) (steps (λ next go. walked_from more next go) (from more) (out-Segment s) ns)

  asks_none : (at : List Segment) → AsksNone (λ go. walked at go)
  asks_none [] = not_ended NoSuch
  asks_none (s ∷ more) = from (s ∷ more) root

-- ---- one walk

one_way : (look : Key → KeyResult) (start : Run) (es fs : List Event) → Leads (over look) start es (Ends NoSuch) → Leads (over look) start fs (Ends NoSuch) → fs ≡ es
one_way look start es fs a b =
    elim (comparable (over look) start (Ends NoSuch) (Ends NoSuch) es fs a b) [
      | inl g ↦ g.is ∙ ap (λ (more : List Event). es ++ more) (ends_only (over look) NoSuch (Ends NoSuch) g.more g.leads).0 ∙ append-nil es
      | inr g ↦ sym (g.is ∙ ap (λ (more : List Event). fs ++ more) (ends_only (over look) NoSuch (Ends NoSuch) g.more g.leads).0 ∙ append-nil fs)
    ]

-- ---- the bound form of a held node is known

pub binding_held : BoundIsBound → BoundWalksAlike → (text : ModelRecord) (held : List Entry) → IsRight (model_of text) held → (n b : Node) → BindsTo (model_of text) n b → Has (nodes_of held) b → IsBoundBy (model_of text) (nodes_of held) n b
binding_held own alike text held right n b binds h =
    let look = key_result text in
    let p = bound_as look n b binds in
    let q = bound_as look b b (own text n b binds) in
    let there = (alike text n b binds).comes p.before p.space p.walks in
    let same : q.before ≡ p.before = one_way look (walked (address_of b) stop) p.before q.before (there stop) (q.walks stop) in
    let l = q.looks (right.own b h) in
    let asked : (m : Node) → Has (asks_of p.before) m → DoesAsk (model_of text) b m = λ m k.
    let k2 : Has (asks_of q.before) m = subst (λ (es : List Event). Has (asks_of es) m) (sym same) k in
    asked_is_ask (model_of text) b _ (l.0 ++ q.before) l.2 m (subst (λ (ms : List Node). Has ms m) (sym (asks_append l.0 q.before)) (has_right (asks_of l.0) (asks_of q.before) m k2)) in
    let known : (m : Node) → Has (asks_of p.before) m → Has (nodes_of held) m = λ m k.
    elim (right.closed b m h (asked m k)) [
      | inl i ↦ i
      | inr i ↦ absurd (let e : true ≡ false = sym i ∙ asks_none look p.space (address_of n) p.before p.walks m k in cc)
    ] in
    record {
      events = p.before ++ Tested p.key ∷ [];
      leads = p.binds;
      held = λ m k.
          elim (has_cases (asks_of p.before) [] m (subst (λ (ms : List Node). Has ms m) (asks_append p.before (Tested p.key ∷ [])) k)) [
            | inl i ↦ known m i
            | inr i ↦ absurd i
          ];
    }
