-- A run that ends behind a walk has passed it: what the walk came to, and by which events.
use Rattle.std.proofs.Common.{Bool, true, false, ◌≡◌, ◌≤◌, ◌+◌, nat_le, ◌||◌, ◌&&◌, List, [], ◌∷◌, ◌++◌, inl, inr, Option, Some, if◌then◌else◌, length, map, refl, sym, ◌∙◌, ap, subst, arith, rules, length-append}
use Rattle.std.proofs.lemmas.List.{map-append}
use Rattle.std.proofs.lemmas.List.Sums.{sum_by-append}
use Rattle.std.specs.Prelude.{sum}
use Rattle.mx_value.specs.Size.{size_of, size_of_segment}
use Rattle.mx_value.specs.declared.label.Label.{Label}
use Rattle.mx_value.specs.declared.value.Value.{Value, the_lemmas as values}
use Rattle.mx_value.specs.declared.value.Value.TheVariants.{Space}
use Rattle.mx_value.specs.declared.value.Segment.{Segment, out-Segment, the_lemmas as segments}
use Rattle.mx_value.specs.declared.value.Segment.TheOpen.{Segment-F}
use Rattle.mx_value.specs.declared.value.Segment.TheVariants as segment
use Rattle.mx_value.specs.declared.namespace.Namespace.{Namespace}
use Rattle.mx_value.specs.declared.node.Node.{Node}
use Rattle.mx_value.specs.declared.node.Node.TheVariants.{Item}
use Rattle.mx_syntax.specs.declared.stmt.Params.{Params}
use Rattle.mx_syntax.specs.Binding.{bound, is_wrong_count}
use Rattle.mx_edit.specs.declared.key.Key.{Key}
use Rattle.mx_edit.specs.declared.key.Key.TheVariants as key
use Rattle.mx_edit.specs.declared.key.KeyResult.{KeyResult}
use Rattle.mx_edit.specs.declared.key.KeyResult.TheVariants as found
use Rattle.mx_edit.specs.declared.reply.Reply.{Reply}
use Rattle.mx_runs.specs.Runs.{Run, Ends, Looks, Tests, Asks, Outcome, Gives, Faults, NoSuch, WrongCount, NoLevel, Event, Looked, Tested, Asked, Noted}
use Rattle.mx_runs.specs.Inputs.{is_name, is_static}
use Rattle.mx_runs.specs.Meaning.{Means, Leads}
use Rattle.mx_runs.proofs.Levels.{ends_only}
use Rattle.mx_runs.proofs.Runs.{comparable}
use Rattle.mx_runs.proofs.Meanings.{whole_at}
use Rattle.mx_meaning.specs.Namespaces.{Step, root, child, ends_with_name, is_allowed, item_at}
use Rattle.mx_meaning.specs.Walks.{Onward, entered, item_entered, stepped, walked_from, walked}
use Rattle.mx_meaning.specs.Nodes.{arguments_of, item_done, item_made, item_found, item_run, body}
use Rattle.mx_meaning.specs.Laws.{model_of, IsSpaceAt}
use Rattle.mx_meaning.proofs.Walking.{Reached, Came, root_reached, reached_on, came_on, name_steps, item_steps, bound_on, out_name, out_item}
use Rattle.mx_meaning.proofs.Items.{item_reply}
use Rattle.mx_state.specs.Proper.{items_follow, IsPlace}
use Rattle.mx_state.proofs.Alike.{onward, stepping, IsAlike, IsAlong, along_begins, along_step, along_name, along_item, along_end}

-- ---- addresses that can be there

size_space : (at : List Segment) → size_of (Space at) ≡ 1 + sum (map size_of_segment at)
size_space at = search (values, rules)

size_name : (name : Label) → size_of_segment (segment.Name name) ≡ 0
size_name name = search (segments, rules)

sizes_push : (at : List Segment) (s : Segment) → sum (map size_of_segment (at ++ s ∷ [])) ≡ sum (map size_of_segment at) + size_of_segment s
sizes_push at s =
    let e : sum (map size_of_segment (at ++ s ∷ [])) ≡ sum (map size_of_segment at) + (0 + size_of_segment s)
    = ap sum (map-append size_of_segment at (s ∷ [])) ∙ sum_by-append (λ n. n) (map size_of_segment at) (size_of_segment s ∷ []) in
    omega (arith, e)

abbrev last_is_name : Bool → List Segment → Bool
last_is_name named [] = named
last_is_name named (s ∷ more) = last_is_name (is_name (out-Segment s)) more

last_ends : (named : Bool) (s : Segment) (more : List Segment) → last_is_name named (s ∷ more) ≡ ends_with_name (s ∷ more)
last_ends named s [] = refl
last_ends named s (t ∷ more) = last_ends (is_name (out-Segment s)) t more

ends_last : (at : List Segment) → ends_with_name at ≡ true → last_is_name false at ≡ true
ends_last [] h = h
ends_last (s ∷ more) h = last_ends false s more ∙ h

both : (a b : Bool) → (a && b) ≡ true → (a ≡ true) × (b ≡ true)
both true true h = (refl, refl)
both true false h = cc
both false b h = cc

follow_push : (named : Bool) (at : List Segment) (s : Segment) → items_follow named at ≡ true → (is_name (out-Segment s) || last_is_name named at) ≡ true → items_follow named (at ++ s ∷ []) ≡ true
follow_push named [] s h k = ap (λ (b : Bool). b && true) k
follow_push named (t ∷ at) s h k =
    let hs = both (is_name (out-Segment t) || named) (items_follow (is_name (out-Segment t)) at) h in
    ap (λ (b : Bool). b && items_follow (is_name (out-Segment t)) (at ++ s ∷ [])) hs.0 ∙ follow_push (is_name (out-Segment t)) at s hs.1 k

-- an address as far as a walk has come
record IsWay (at : List Segment) : Type 0 where
  apart : items_follow false at ≡ true
  short : length at ≤ 64
  small : size_of (Space at) ≤ 1_000_000

root_way : IsWay []
root_way = record { apart = refl; short = omega arith; small = let e = size_space [] in omega (arith, e) }

name_way : (at : List Segment) (name : Label) → nat_le 64 (length at) ≡ false → IsWay at → IsWay (at ++ segment.Name name ∷ [])
name_way at name few w = record {
  apart = follow_push false at (segment.Name name) w.apart (ap (λ (s : Step). is_name s || last_is_name false at) (out_name name));
  short = let l = length-append at (segment.Name name ∷ []) in let k : length at ≤ 63 = grind (arith, few) in omega (arith, l, k);
  small = let a = size_space at in let b = size_space (at ++ segment.Name name ∷ []) in let c = sizes_push at (segment.Name name) in let d = size_name name in let e : size_of (Space at) ≤ 1_000_000 = w.small in omega (arith, a, b, c, d, e);
}

has_more : (at : List Segment) (s : Segment) → at ++ s ∷ [] ≡ [] → ⊥
has_more [] s e = cc
has_more (t ∷ at) s e = cc

item_way : (at : List Segment) (args : List Value) → ends_with_name at ≡ true → is_allowed (at ++ segment.Item args ∷ []) ≡ true → IsWay at → IsWay (at ++ segment.Item args ∷ [])
item_way at args n h w =
    let hs = both (nat_le (length (at ++ segment.Item args ∷ [])) 64) (nat_le (size_of (Space (at ++ segment.Item args ∷ []))) 1_000_000) h in
    record {
      apart = follow_push false at (segment.Item args) w.apart (ap (λ (s : Step). is_name s || last_is_name false at) (out_item args) ∙ ends_last at n);
      short = let k : nat_le (length (at ++ segment.Item args ∷ [])) 64 ≡ true = hs.0 in grind (arith, k);
      small = let k : nat_le (size_of (Space (at ++ segment.Item args ∷ []))) 1_000_000 ≡ true = hs.1 in grind (arith, k);
    }

-- an outcome with which no walk ends by itself
abbrev pub IsPast : Outcome → Type 0
IsPast (Gives r) = Unit {0}
IsPast (Faults kind n line) = Unit {0}
IsPast NoSuch = ⊥
IsPast WrongCount = ⊥
IsPast NoLevel = ⊥

module _ (look : Key → KeyResult) where
  pub ended : (o p : Outcome) (es : List Event) → Leads (model_of look) (Ends p) es (Ends o) → o ≡ p
  ended o p es l = let e : Ends o ≡ Ends p = (ends_only (model_of look) p (Ends o) es l).1 in cc

  pub not_refused : {X : Type 0} (o p : Outcome) (es : List Event) → IsPast o → (IsPast p → ⊥) → Leads (model_of look) (Ends p) es (Ends o) → X
  not_refused o p es h n l = absurd (n (subst IsPast (ended o p es l) h))

  -- an item node with a value has a space that is allowed
  module _ (ns : Namespace) (came : Came look ns) (ps : Params) (args : List Value) (n : ends_with_name ns.at ≡ true)
      (e : look (key.Params ns.source) ≡ found.Params ps) (q : is_wrong_count ps.params (length args) ≡ false) (r : Reply) where
    abbrev asked : Node
    asked = Item ns.at (bound ps.params args)

    abbrev space : List Segment
    space = item_at ns (bound ps.params args)

    allowed_at : (b : Bool) (es : List Event) → Leads (model_of look) (if b then item_done ps.body asked ns (bound ps.params args) (arguments_of ps.params (bound ps.params args)) else Ends NoSuch) es (Ends (Gives r)) → b ≡ true
    allowed_at true es l = refl
    allowed_at false es l = not_refused (Gives r) NoSuch es tt (λ h. h) l

    found_leads : (es : List Event) → Leads (model_of look) (item_found asked ns (bound ps.params args) (look (key.Params ns.source))) es (Ends (Gives r)) → is_allowed space ≡ true
    found_leads es l =
        allowed_at (is_allowed space) es
        (subst (λ run. Leads (model_of look) run es (Ends (Gives r))) (ap (item_found asked ns (bound ps.params args)) e ∙ bound_on ps.params args (item_made ps.body ps.params asked ns) q) l)

    looks_leads : (es : List Event) → Leads (model_of look) (Looks (key.Params ns.source) (item_found asked ns (bound ps.params args))) es (Ends (Gives r)) → is_allowed space ≡ true
    looks_leads [] l = absurd (cc)
    looks_leads (Looked k ∷ es) l = found_leads es l.1
    looks_leads (Tested k ∷ es) l = absurd l
    looks_leads (Asked m v ∷ es) l = absurd l
    looks_leads (Noted d ∷ es) l = absurd l

    run_leads : (es : List Event) → Leads (model_of look) (item_run asked (bound ps.params args) ns) es (Ends (Gives r)) → is_allowed space ≡ true
    run_leads es l =
        looks_leads es (subst (λ (b : Bool). Leads (model_of look) (if b then Looks (key.Params ns.source) (item_found asked ns (bound ps.params args)) else Ends NoSuch) es (Ends (Gives r))) n l)

    pub item_allowed : Means (model_of look) asked (Gives r) → is_allowed space ≡ true
    item_allowed m =
        let w = whole_at (model_of look) asked r m.at m.gives in
        elim (comparable (model_of look) (body asked) (item_run asked (bound ps.params args) ns) (Ends (Gives r)) came.events w.events (came.leads (item_run asked (bound ps.params args))) w.leads) [
          | inl a ↦ run_leads a.more a.leads
          | inr a ↦ run_leads [] (ends_only (model_of look) (Gives r) _ a.more a.leads).1
        ]

  -- ---- passing a walk

  -- The run that begins so, with the walk of a whole address or on the way through it, passes to a namespace, whatever comes
  -- then, and goes on from there to its end.
  pub record Passes (whole : List Segment) (start : (Namespace → Run) → Run) (go : Namespace → Run) (es : List Event) (o : Outcome) : Type 0 where
    pub space : Namespace
    pub came : Came look space
    pub place : IsPlace space.at
    pub alike : IsAlike look whole space.at
    pub before : List Event
    pub after : List Event
    pub is : es ≡ before ++ after
    pub leads : (g : Namespace → Run) → Leads (model_of look) (start g) before (g space)
    pub rest : Leads (model_of look) (go space) after (Ends o)

  -- as far as a walk has come: to the namespace again, and by an address that can be there
  record Stage (ns : Namespace) : Type 0 where
    reached : Reached look ns
    came : ends_with_name ns.at ≡ true → Came look ns
    way : IsWay ns.at

  record IsArrived (ns : Namespace) : Type 0 where
    came : Came look ns
    some : ns.at ≡ [] → ⊥

  -- it has arrived where no segment is left
  abbrev HasArrived : List Segment → Namespace → Type 0
  HasArrived [] ns = IsArrived ns
  HasArrived (s ∷ more) ns = Unit {0}

  has_arrived : (segments : List Segment) (ns : Namespace) → IsArrived ns → HasArrived segments ns
  has_arrived [] ns a = a
  has_arrived (s ∷ more) ns a = tt

  module _ (o : Outcome) (past : IsPast o) (whole : List Segment) where
    -- the walk of the whole address goes on so from a namespace
    abbrev Along : (Onward → Run) → Namespace → Bool → Type 0
    Along start ns names_left = IsAlong look whole start ns names_left

    -- on from a namespace, for each way of going on that has a walk of these segments first
    abbrev GoOn : List Segment → (Namespace → Run) → Type 0
    GoOn more go = (next : Namespace) → Stage next → IsArrived next → Along (onward more next) next (is_static more) → (es : List Event) → Leads (model_of look) (walked_from more next go) es (Ends o) → Passes whole (walked_from more next) go es o

    module _ (more : List Segment) (go : Namespace → Run) (k : GoOn more go) (ns : Namespace) (stage : Stage ns) (few : nat_le 64 (length ns.at) ≡ false) where
      abbrev on : (Namespace → Run) → Namespace → Run
      on g next = walked_from more next g

      name_passes : (name : Label) → Along (stepping (Segment-F.Name name) more ns) ns (is_static more) → (es : List Event) → Leads (model_of look) (walked_from more (child name ns) go) es (Ends o) → Passes whole (λ g. walked_from more (child name ns) g) go es o
      name_passes name a es l =
          let s : Segment = segment.Name name in
          let came : Came look (child name ns) = came_on look ns (child name ns) stage.reached s few [] (name_steps look ns name) refl in
          k (child name ns)
          (record { reached = reached_on look ns (child name ns) stage.reached s few [] (name_steps look ns name) refl; came = λ h. came; way = name_way ns.at name few stage.way })
          (record { came = came; some = has_more ns.at s })
          (along_name look whole name more ns few a) es l

      module _ (n : ends_with_name ns.at ≡ true) (args : List Value) (along : Along (stepping (Segment-F.Item args) more ns) ns false) where
        module _ (ps : Params) (e : look (key.Params ns.source) ≡ found.Params ps) (q : is_wrong_count ps.params (length args) ≡ false) where
          abbrev node : Node
          node = Item ns.at (bound ps.params args)

          abbrev asks : (Namespace → Run) → Run
          asks g = Asks node (λ r. entered r.namespace (on g))

          entered_passes : (r : Reply) → Means (model_of look) node (Gives r) → (es : List Event) → Leads (model_of look) (entered r.namespace (on go)) es (Ends o) → Passes whole (λ g. entered r.namespace (on g)) go es o
          entered_passes r m es l =
              let a : IsSpaceAt (item_at ns (bound ps.params args)) r = item_reply look ns (stage.came n) ps args n e q r m in
              let has : r.namespace ≡ Some a.space = ap (λ (x : Reply). x.namespace) a.is in
              let s : Segment = segment.Item (bound ps.params args) in
              let events : List Event = Tested (key.Params ns.source) ∷ Asked node r ∷ [] in
              let steps = item_steps look ns a.space ps args n e q r m has in
              let came : Came look a.space = came_on look ns a.space stage.reached s few events steps a.address in
              let way : IsWay a.space.at = subst IsWay (sym a.address) (item_way ns.at (bound ps.params args) n (item_allowed ns (stage.came n) ps args n e q r m) stage.way) in
              subst (λ (x : Option Namespace). Passes whole (λ g. entered x (on g)) go es o) (sym has)
              (k a.space
              (record { reached = reached_on look ns a.space stage.reached s few events steps a.address; came = λ h. came; way = way })
              (record { came = came; some = λ z. has_more ns.at s (sym a.address ∙ z) })
              (along_item look whole ns a.space ps args n e q r m has a.address more few along) es
              (subst (λ (x : Option Namespace). Leads (model_of look) (entered x (on go)) es (Ends o)) has l))

          asks_passes : (es : List Event) → Leads (model_of look) (asks go) es (Ends o) → Passes whole asks go es o
          asks_passes [] l = absurd (cc)
          asks_passes (Looked x ∷ es) l = absurd l
          asks_passes (Tested x ∷ es) l = absurd l
          asks_passes (Noted x ∷ es) l = absurd l
          asks_passes (Asked x r ∷ es) l =
              let p = entered_passes r l.1 es l.2 in
              record { space = p.space; came = p.came; place = p.place; alike = p.alike; before = Asked x r ∷ p.before; after = p.after; is = ap (λ fs. Asked x r ∷ fs) p.is; leads = λ g. (l.0, l.1, p.leads g); rest = p.rest }

        abbrev asked_for : Params → (Namespace → Run) → Run
        asked_for ps g = Asks (Item ns.at (bound ps.params args)) (λ r. entered r.namespace (on g))

        counted_passes : (ps : Params) → look (key.Params ns.source) ≡ found.Params ps → (wrong : Bool) → is_wrong_count ps.params (length args) ≡ wrong
            → (es : List Event) → Leads (model_of look) (if wrong then Ends WrongCount else asked_for ps go) es (Ends o) → Passes whole (λ g. if wrong then Ends WrongCount else asked_for ps g) go es o
        counted_passes ps e true q es l = not_refused o WrongCount es past (λ h. h) l
        counted_passes ps e false q es l = asks_passes ps e q es l

        found_passes : (r : KeyResult) → look (key.Params ns.source) ≡ r → (es : List Event) → Leads (model_of look) (item_entered ns args (on go) r) es (Ends o) → Passes whole (λ g. item_entered ns args (on g) r) go es o
        found_passes (found.Params ps) e es l = counted_passes ps e (is_wrong_count ps.params (length args)) refl es l
        found_passes found.Missing e es l = not_refused o NoSuch es past (λ h. h) l
        found_passes found.CellsHere e es l = not_refused o NoSuch es past (λ h. h) l
        found_passes found.Child e es l = not_refused o NoSuch es past (λ h. h) l
        found_passes (found.Ref v w) e es l = not_refused o NoSuch es past (λ h. h) l
        found_passes (found.Formula f a) e es l = not_refused o NoSuch es past (λ h. h) l
        found_passes found.There e es l = not_refused o NoSuch es past (λ h. h) l
        found_passes (found.Value v) e es l = not_refused o NoSuch es past (λ h. h) l
        found_passes (found.Table t) e es l = not_refused o NoSuch es past (λ h. h) l

        tests_pass : (es : List Event) → Leads (model_of look) (Tests (key.Params ns.source) (item_entered ns args (on go))) es (Ends o) → Passes whole (λ g. Tests (key.Params ns.source) (item_entered ns args (on g))) go es o
        tests_pass [] l = absurd (cc)
        tests_pass (Looked x ∷ es) l = absurd l
        tests_pass (Asked x r ∷ es) l = absurd l
        tests_pass (Noted x ∷ es) l = absurd l
        tests_pass (Tested x ∷ es) l =
            let p = found_passes (look (key.Params ns.source)) refl es l.1 in
            record { space = p.space; came = p.came; place = p.place; alike = p.alike; before = Tested x ∷ p.before; after = p.after; is = ap (λ fs. Tested x ∷ fs) p.is; leads = λ g. (l.0, p.leads g); rest = p.rest }

      item_passes : (args : List Value) → Along (stepping (Segment-F.Item args) more ns) ns false → (b : Bool) → ends_with_name ns.at ≡ b → (es : List Event) → Leads (model_of look) (if b then Tests (key.Params ns.source) (item_entered ns args (on go)) else Ends NoSuch) es (Ends o)
          → Passes whole (λ g. if b then Tests (key.Params ns.source) (item_entered ns args (on g)) else Ends NoSuch) go es o
      item_passes args a true n es l = tests_pass n args a es l
      item_passes args a false n es l = not_refused o NoSuch es past (λ h. h) l

      step_passes : (s : Step) → Along (stepping s more ns) ns (is_name s && is_static more) → (es : List Event) → Leads (model_of look) (stepped s ns (on go)) es (Ends o) → Passes whole (λ g. stepped s ns (on g)) go es o
      step_passes (Segment-F.Name name) a es l = name_passes name a es l
      step_passes (Segment-F.Item args) a es l = item_passes args a (ends_with_name ns.at) refl es l

    refused_passes : (b : Bool) (start : (Namespace → Run) → Run) (go : Namespace → Run) (es : List Event) → (b ≡ false → Leads (model_of look) (start go) es (Ends o) → Passes whole start go es o)
        → Leads (model_of look) (if b then Ends NoSuch else start go) es (Ends o) → Passes whole (λ g. if b then Ends NoSuch else start g) go es o
    refused_passes true start go es k l = not_refused o NoSuch es past (λ h. h) l
    refused_passes false start go es k l = k refl l

    from_passes : (segments : List Segment) (go : Namespace → Run) (ns : Namespace) → Stage ns → HasArrived segments ns → Along (onward segments ns) ns (is_static segments) → (es : List Event) → Leads (model_of look) (walked_from segments ns go) es (Ends o) → Passes whole (λ g. walked_from segments ns g) go es o
    from_passes [] go ns stage a along es l = record {
      space = ns;
      came = a.came;
      place = record { some = a.some; apart = stage.way.apart; short = stage.way.short; small = stage.way.small };
      alike = along_end look whole ns a.some along;
      before = [];
      after = es;
      is = refl;
      leads = λ g. refl;
      rest = l;
    }
    from_passes (s ∷ more) go ns stage a along es l =
        refused_passes (nat_le 64 (length ns.at)) (λ g. stepped (out-Segment s) ns (λ next. walked_from more next g)) go es
        (λ few. step_passes more go (λ next t b c fs m. from_passes more go next t (has_arrived more next b) c fs m) ns stage few (out-Segment s) (along_step look whole s more ns few along) es) l

  -- a run that ends as no walk does has passed its walk
  pub passes : (o : Outcome) → IsPast o → (at : List Segment) (go : Namespace → Run) (es : List Event) → Leads (model_of look) (walked at go) es (Ends o) → Passes at (λ g. walked at g) go es o
  passes o past [] go es l = not_refused o NoSuch es past (λ h. h) l
  passes o past (s ∷ more) go es l =
      let stage : Stage root = record { reached = root_reached look; came = λ h. absurd (cc); way = root_way } in
      from_passes o past (s ∷ more) (s ∷ more) go root stage tt (along_begins look s more) es l
