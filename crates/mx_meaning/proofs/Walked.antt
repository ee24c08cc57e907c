-- What is kept by the steps of a walk, is kept by the walk: each namespace that it comes to, the walk of its own address
-- comes to again.
use Rattle.std.proofs.Common.{Bool, true, false, ◌≡◌, List, [], ◌∷◌, Some, if◌then◌else◌, length, nat_le, refl, sym, ap, subst}
use Rattle.mx_value.specs.declared.label.Label.{Label}
use Rattle.mx_value.specs.declared.value.Value.{Value}
use Rattle.mx_value.specs.declared.value.Segment.{Segment, out-Segment}
use Rattle.mx_value.specs.declared.value.Segment.TheOpen.{Segment-F}
use Rattle.mx_value.specs.declared.value.Segment.TheVariants as segment
use Rattle.mx_value.specs.declared.namespace.Namespace.{Namespace}
use Rattle.mx_value.specs.declared.node.Node.TheVariants.{Item}
use Rattle.mx_syntax.specs.declared.stmt.Params.{Params}
use Rattle.mx_syntax.specs.Binding.{bound, is_wrong_count}
use Rattle.mx_edit.specs.declared.key.Key.{Key}
use Rattle.mx_edit.specs.declared.key.Key.TheVariants as key
use Rattle.mx_edit.specs.declared.key.KeyResult.{KeyResult}
use Rattle.mx_edit.specs.declared.key.KeyResult.TheVariants as found
use Rattle.mx_edit.specs.declared.reply.Reply.{Reply}
use Rattle.mx_runs.specs.Runs.{Run, Ends, Tests, Gives, NoSuch, Event, Tested, Asked}
use Rattle.mx_runs.specs.Meaning.{Means}
use Rattle.mx_meaning.specs.Namespaces.{Step, root, child, ends_with_name, item_at}
use Rattle.mx_meaning.specs.Walks.{entered, item_entered, stepped, walked_from, walked}
use Rattle.mx_meaning.specs.Laws.{model_of, IsSpaceAt}
use Rattle.mx_meaning.proofs.Walking.{Came, Reached, root_reached, reached_on, came_on, name_steps, item_steps}
use Rattle.mx_meaning.proofs.Items.{item_reply}

-- P is kept by the steps of a walk: it holds where there is no such node, and of the test of an item where it holds of what
-- comes behind each answer
pub record WalkKeeps (look : Key → KeyResult) (P : Run → Type 0) : Type 0 where
  pub refused : P (Ends NoSuch)
  pub entering : (ns : Namespace) → Came look ns → ends_with_name ns.at ≡ true → (args : List Value) (go : Namespace → Run)
      → ((ps : Params) → look (key.Params ns.source) ≡ found.Params ps → is_wrong_count ps.params (length args) ≡ false → (r : Reply) → Means (model_of look) (Item ns.at (bound ps.params args)) (Gives r) → P (entered r.namespace go))
      → P (Tests (key.Params ns.source) (item_entered ns args go))

module _ (look : Key → KeyResult) (P : Run → Type 0) (keeps : WalkKeeps look P) where
  module _ (ns : Namespace) (reached : Reached look ns) (few : nat_le 64 (length ns.at) ≡ false) (go : Namespace → Run)
      (k : (next : Namespace) → Reached look next → Came look next → P (go next)) where
    name_kept : (name : Label) → P (go (child name ns))
    name_kept name =
        k (child name ns) (reached_on look ns (child name ns) reached (segment.Name name) few [] (name_steps look ns name) refl)
        (came_on look ns (child name ns) reached (segment.Name name) few [] (name_steps look ns name) refl)

    module _ (came : Came look ns) (n : ends_with_name ns.at ≡ true) (ps : Params) (args : List Value) (e : look (key.Params ns.source) ≡ found.Params ps)
        (q : is_wrong_count ps.params (length args) ≡ false) (r : Reply) (m : Means (model_of look) (Item ns.at (bound ps.params args)) (Gives r)) where
      abbrev answer : IsSpaceAt (item_at ns (bound ps.params args)) r
      answer = item_reply look ns came ps args n e q r m

      abbrev has : r.namespace ≡ Some answer.space
      has = ap (λ (x : Reply). x.namespace) answer.is

      abbrev events : List Event
      events = Tested (key.Params ns.source) ∷ Asked (Item ns.at (bound ps.params args)) r ∷ []

      reply_kept : P (entered r.namespace go)
      reply_kept = subst (λ o. P (entered o go)) (sym has)
          (k answer.space
          (reached_on look ns answer.space reached (segment.Item (bound ps.params args)) few events (item_steps look ns answer.space ps args n e q r m has) answer.address)
          (came_on look ns answer.space reached (segment.Item (bound ps.params args)) few events (item_steps look ns answer.space ps args n e q r m has) answer.address))

    item_kept : (ends_with_name ns.at ≡ true → Came look ns) → (args : List Value) (b : Bool) → ends_with_name ns.at ≡ b → P (if b then Tests (key.Params ns.source) (item_entered ns args go) else Ends NoSuch)
    item_kept c args true n = keeps.entering ns (c n) n args go (λ ps e q r m. reply_kept (c n) n ps args e q r m)
    item_kept c args false n = keeps.refused

    step_kept : (ends_with_name ns.at ≡ true → Came look ns) → (s : Step) → P (stepped s ns go)
    step_kept c (Segment-F.Name name) = name_kept name
    step_kept c (Segment-F.Item args) = item_kept c args (ends_with_name ns.at) refl

  -- the namespace is one that a walk comes to, where no segment is left
  abbrev IsThere : List Segment → Namespace → Type 0
  IsThere [] ns = Came look ns
  IsThere (s ∷ more) ns = Unit {0}

  there : (segments : List Segment) (ns : Namespace) → Came look ns → IsThere segments ns
  there [] ns c = c
  there (s ∷ more) ns c = tt

  refused_kept : (b : Bool) (run : Run) → (b ≡ false → P run) → P (if b then Ends NoSuch else run)
  refused_kept true run g = keeps.refused
  refused_kept false run g = g refl

  walked_from_kept : (segments : List Segment) (ns : Namespace) → Reached look ns → (ends_with_name ns.at ≡ true → Came look ns) → IsThere segments ns → (go : Namespace → Run) → ((m : Namespace) → Came look m → P (go m)) → P (walked_from segments ns go)
  walked_from_kept [] ns reached c t go k = k ns t
  walked_from_kept (s ∷ more) ns reached c t go k =
      refused_kept (nat_le 64 (length ns.at)) (stepped (out-Segment s) ns (λ next. walked_from more next go)) (λ few.
      step_kept ns reached few (λ next. walked_from more next go) (λ next r came. walked_from_kept more next r (λ h. came) (there more next came) go k) c (out-Segment s))

  pub walked_kept : (segments : List Segment) (go : Namespace → Run) → ((m : Namespace) → Came look m → P (go m)) → P (walked segments go)
  walked_kept [] go k = keeps.refused
  walked_kept (s ∷ more) go k = walked_from_kept (s ∷ more) root (root_reached look) (λ h. absurd (cc)) tt go k
