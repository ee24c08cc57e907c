-- What a node binds to behind the walk of its address, and where it binds to none.
use Rattle.std.proofs.Common.{Bool, true, false, ◌≡◌, ◌+◌, ◌≤◌, nat_le, List, [], ◌∷◌, ◌++◌, inl, inr, Option, Some, None, if◌then◌else◌, length, refl, sym, ◌∙◌, ap, subst, arith, length-append}
use Rattle.std.proofs.lemmas.List.{append-nil, append_assoc}
use Rattle.mx_value.specs.declared.label.Label.{Label}
use Rattle.mx_value.specs.declared.value.Segment.{Segment, out-Segment}
use Rattle.mx_value.specs.declared.value.Segment.TheOpen.{Segment-F}
use Rattle.mx_value.specs.declared.value.Segment.TheViews.{roll-Segment, roll-out-Segment}
use Rattle.mx_value.specs.declared.value.Segment.TheVariants as segment
use Rattle.mx_value.specs.declared.namespace.Namespace.{Namespace}
use Rattle.mx_value.specs.declared.node.Node.{Node}
use Rattle.mx_value.specs.declared.node.Node.TheVariants.{Cell, Item}
use Rattle.mx_value.specs.declared.fault.FaultKind.TheVariants.{ZeroDivision}
use Rattle.mx_edit.specs.declared.key.Key.{Key}
use Rattle.mx_edit.specs.declared.key.Key.TheVariants as key
use Rattle.mx_edit.specs.declared.key.KeyResult.{KeyResult}
use Rattle.mx_edit.specs.declared.reply.Reply.{Reply}
use Rattle.mx_runs.specs.Runs.{Run, Ends, Tests, Asks, Faults, NoSuch, WrongCount, Outcome, Event, Tested}
use Rattle.mx_runs.specs.Meaning.{Leads}
use Rattle.mx_runs.proofs.Levels.{ends_only}
use Rattle.mx_runs.proofs.Runs.{comparable, next_is}
use Rattle.mx_meaning.specs.Namespaces.{Step, root, child, with_name, names_of, ends_with_name}
use Rattle.mx_meaning.specs.Walks.{Onward, walked_from, walked}
use Rattle.mx_meaning.specs.Binding.{binding, cell_bound, item_bound, item_sought}
use Rattle.mx_meaning.specs.Laws.{BindsTo}
use Rattle.mx_model.specs.Records.{ModelRecord}
use Rattle.mx_model.specs.Keys.{key_result}
use Rattle.mx_state.specs.Model.{model_of}
use Rattle.mx_state.specs.Proper.{address_of}
use Rattle.mx_state.specs.Walks.{ComesTo, WaitsFor, WaitsSomehow, WalksAlike}
use Rattle.mx_state.specs.Laws as law
use Rattle.mx_state.proofs.Alike.{Point, CameTo, WaitsAt, AreAlike, Stands, IsAlike, takes_step}
use Rattle.mx_state.proofs.Walked.{ended}
use Rattle.mx_state.proofs.Bound.{told, HasCells, tests_cells, cells_bind_there, HasItems, tests_item, item_binds_there, bound_as}

pub each_binds_behind : law.EachBindsBehind
each_binds_behind (Cell at name args) = record { behind = λ go ns. Tests (key.Cells ns.source name) (cell_bound ns name args go); is = λ go. refl }
each_binds_behind (Item at args) = record { behind = λ go ns. item_sought ns args go; is = λ go. refl }

-- ---- addresses without items

segment_of : (s : Segment) (name : Label) → out-Segment s ≡ Segment-F.Name name → segment.Name name ≡ s
segment_of s name e = sym (segment.rolls-Name name) ∙ ap roll-Segment (sym e) ∙ roll-out-Segment s

-- with another address and source
abbrev moved : Namespace → List Segment → List Label → Namespace
moved ns at source = record { at = at; source = source; overlay = ns.overlay }

-- the namespace that names lead to
abbrev led : Namespace → List Segment → List Label → Namespace
led ns at names = moved ns (ns.at ++ at) (ns.source ++ names)

same_led : (ns : Namespace) (s : Segment) (name : Label) (at : List Segment) (names : List Label) → segment.Name name ≡ s → led (child name ns) at names ≡ led ns (s ∷ at) (name ∷ names)
same_led ns s name at names e =
    ap (λ (x : List Segment). moved ns x ((ns.source ++ name ∷ []) ++ names)) (append_assoc ns.at (segment.Name name ∷ []) at ∙ ap (λ (x : Segment). ns.at ++ x ∷ at) e)
    ∙ ap (λ (x : List Label). moved ns (ns.at ++ s ∷ at) x) (append_assoc ns.source (name ∷ []) names)

-- a name first, and names behind it
record NamesOf (s : Segment) (at : List Segment) (names : List Label) : Type 0 where
  name : Label
  rest : List Label
  first : out-Segment s ≡ Segment-F.Name name
  others : names_of at ≡ Some rest
  is : names ≡ name ∷ rest

split_names : (s : Segment) (at : List Segment) (names : List Label) (step : Step) (more : Option (List Label)) → out-Segment s ≡ step → names_of at ≡ more → with_name step more ≡ Some names → NamesOf s at names
split_names s at names (Segment-F.Name name) (Some rest) e f h = record { name = name; rest = rest; first = e; others = f; is = let i : Some (name ∷ rest) ≡ Some names = h in cc }
split_names s at names (Segment-F.Name name) None e f h = absurd (cc)
split_names s at names (Segment-F.Item args) more e f h = absurd (cc)

no_names : (names : List Label) → Some [] ≡ Some names → [] ≡ names
no_names names h = cc

static_from : (at : List Segment) (ns : Namespace) (names : List Label) → names_of at ≡ Some names → length ns.at + length at ≤ 64 → (go : Onward) → walked_from at ns go ≡ go (led ns at names)
static_from [] ns names h few go =
    ap go (ap (λ (x : List Segment). moved ns x ns.source) (sym (append-nil ns.at)) ∙ ap (λ (x : List Label). moved ns (ns.at ++ []) x) (sym (append-nil ns.source) ∙ ap (λ (x : List Label). ns.source ++ x) (no_names names h)))
static_from (s ∷ at) ns names h few go =
    let p = split_names s at names (out-Segment s) (names_of at) refl refl h in
    let l = length-append ns.at (segment.Name p.name ∷ []) in
    let room : nat_le 64 (length ns.at) ≡ false = grind (arith, few) in
    takes_step s (Segment-F.Name p.name) at ns p.first room go
    ∙ static_from at (child p.name ns) p.rest p.others (omega (arith, few, l)) go
    ∙ ap go (same_led ns s p.name at p.rest (segment_of s p.name p.first) ∙ ap (λ (x : List Label). led ns (s ∷ at) x) (sym p.is))

pub static_comes : law.StaticComes
static_comes text [] names h some few go = absurd (some refl)
static_comes text (s ∷ at) names h some few go = static_from (s ∷ at) root names h (omega (arith, few)) go

-- ---- behind a walk

-- a binding that tells a node, and has come to here, goes on from here to it
goes_on : (text : ModelRecord) (n b : Node) (run : Run) (es : List Event) → BindsTo (model_of text) n b → Leads (model_of text) (binding n (told (key_result text))) es run → (run ≡ told (key_result text) b → ⊥) → (more : List Event) × Leads (model_of text) run more (told (key_result text) b)
goes_on text n b run es t l other =
    elim (comparable (model_of text) (binding n (told (key_result text))) run (told (key_result text) b) es t.events l (t.leads (told (key_result text)))) [
      | inl a ↦ (a.more, a.leads)
      | inr a ↦ absurd (other (ends_only (model_of text) (Faults ZeroDivision b 0) run a.more a.leads).1)
    ]

not_told : (look : Key → KeyResult) (c : Bool) (k : Key) (go : KeyResult → Run) (b : Node) → (if c then Tests k go else Ends NoSuch) ≡ told look b → ⊥
not_told look true k go b e = cc
not_told look false k go b e = cc

pub cells_bind : law.CellsBind
cells_bind text at name args es ns comes b = (
  λ t.
      let look = key_result text in
      let run : Run = Tests (key.Cells ns.source name) (cell_bound ns name args (told look)) in
      let g = goes_on text (Cell at name args) b run es t (comes (λ m. Tests (key.Cells m.source name) (cell_bound m name args (told look)))) (not_told look true (key.Cells ns.source name) (cell_bound ns name args (told look)) b) in
      let c = tests_cells look name args ns b g.0 g.1 in
      record { formula = c.has.formula; allow = c.has.allow; here = c.has.here; count = c.has.count; is = c.is },
  λ h.
      let has : HasCells (key_result text) name args ns = record { formula = h.formula; allow = h.allow; here = h.here; count = h.count } in
      let events : List Event = es ++ Tested (key.Cells ns.source name) ∷ [] in
      record { events = events; leads = λ go. subst (λ m. Leads (model_of text) (binding (Cell at name args) go) events (go m)) (sym h.is) (cells_bind_there (key_result text) at ns es comes name args has go) },
)

pub item_binds : law.ItemBinds
item_binds text at args es ns comes b = (
  λ t.
      let look = key_result text in
      let g = goes_on text (Item at args) b (item_sought ns args (told look)) es t (comes (λ m. item_sought m args (told look))) (not_told look (ends_with_name ns.at) (key.Params ns.source) (item_bound ns args (told look)) b) in
      let c = tests_item look args ns b (ends_with_name ns.at) refl g.0 g.1 in
      record { params = c.has.params; named = c.has.named; here = c.has.here; count = c.has.count; is = c.is },
  λ h.
      let has : HasItems (key_result text) args ns = record { params = h.params; named = h.named; here = h.here; count = h.count } in
      let events : List Event = es ++ Tested (key.Params ns.source) ∷ [] in
      record { events = events; leads = λ go. subst (λ m. Leads (model_of text) (binding (Item at args) go) events (go m)) (sym h.is) (item_binds_there (key_result text) at ns es comes args has go) },
)

-- ---- no bound form

ask_not_told : (look : Key → KeyResult) (i : Node) (go : Reply → Run) (b : Node) → Asks i go ≡ told look b → ⊥
ask_not_told look i go b e = cc

pub lost_binds_none : law.LostBindsNone
lost_binds_none text n i es to waits lost b t =
    let look = key_result text in
    let g = goes_on text n b (Asks i (to (told look))) es t (waits (told look)) (ask_not_told look i (to (told look)) b) in
    elim (next_is (model_of text) i (to (told look)) (told look b) g.0 g.1) [
      | inl p ↦ ask_not_told look i (to (told look)) b (sym p.1)
      | inr w ↦ lost w.value
    ]

-- two ends of one run are the same
one_end : (text : ModelRecord) (run : Run) (o p : Outcome) (es fs : List Event) → Leads (model_of text) run es (Ends o) → Leads (model_of text) run fs (Ends p) → o ≡ p
one_end text run o p es fs a b =
    elim (comparable (model_of text) run (Ends o) (Ends p) es fs a b) [
      | inl c ↦ sym (ended (key_result text) p o c.more c.leads)
      | inr c ↦ ended (key_result text) o p c.more c.leads
    ]

pub end_binds_none : law.EndBindsNone
end_binds_none text n es o ends b t =
    let first : Node → Run = λ m. Ends NoSuch in
    let second : Node → Run = λ m. Ends WrongCount in
    let e : NoSuch ≡ WrongCount = sym (one_end text (binding n first) o NoSuch es t.events (ends first) (t.leads first)) ∙ one_end text (binding n second) o WrongCount es t.events (ends second) (t.leads second) in
    absurd (cc)

-- ---- the walk of the bound form

module _ (text : ModelRecord) (other : List Segment) (es : List Event) where
  abbrev OtherStands : Point → Type 0
  OtherStands = Stands (key_result text) (λ g. walked other g) es

  come_by : (ns : Namespace) (p : Point) → AreAlike (CameTo ns) p → OtherStands p → ComesTo (model_of text) other es ns
  come_by ns (CameTo to) e l = subst (λ x. ComesTo (model_of text) other es x) e l
  come_by ns (WaitsAt j rest) e l = absurd e

  wait_by : (i : Node) (more : List Segment) (p : Point) → AreAlike (WaitsAt i more) p → OtherStands p → WaitsSomehow (model_of text) other es i
  wait_by i more (CameTo to) e l = absurd e
  wait_by i more (WaitsAt j rest) e l = record { more = rest; waits = subst (λ x. WaitsFor (model_of text) other es x rest) e l }

walks_alike : (text : ModelRecord) (at other : List Segment) → IsAlike (key_result text) at other → WalksAlike (model_of text) at other
walks_alike text at other a = record {
  comes = λ es ns c. let m = a.follows es (CameTo ns) c in come_by text other es ns m.at m.alike m.stands;
  waits = λ es i more w. let m = a.follows es (WaitsAt i more) w in wait_by text other es i more m.at m.alike m.stands;
  static = a.static;
}

pub bound_walks_alike : law.BoundWalksAlike
bound_walks_alike text n b t =
    let a = bound_as (key_result text) n b t in
    subst (λ x. WalksAlike (model_of text) (address_of n) x) (sym a.at) (walks_alike text (address_of n) a.space.at a.alike)
