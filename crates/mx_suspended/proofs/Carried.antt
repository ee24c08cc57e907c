-- What a walk carries: a fact of each namespace that it comes to, by what was asked on the way, and with it one of the run
-- that goes on there.
use Rattle.std.proofs.Common.{Bool, true, false, ◌≡◌, nat_le, List, [], ◌∷◌, Some, if◌then◌else◌, length, refl, sym, ap, subst}
use Rattle.mx_value.specs.declared.label.Label.{Label}
use Rattle.mx_value.specs.declared.value.Value.{Value}
use Rattle.mx_value.specs.declared.value.Segment.{Segment, out-Segment}
use Rattle.mx_value.specs.declared.value.Segment.TheOpen.{Segment-F}
use Rattle.mx_value.specs.declared.value.Segment.TheVariants as segment
use Rattle.mx_value.specs.declared.namespace.Namespace.{Namespace}
use Rattle.mx_value.specs.declared.node.Node.{Node}
use Rattle.mx_value.specs.declared.node.Node.TheVariants.{Item}
use Rattle.mx_syntax.specs.declared.stmt.Params.{Params}
use Rattle.mx_syntax.specs.Binding.{bound, is_wrong_count}
use Rattle.mx_edit.specs.declared.key.Key.{Key}
use Rattle.mx_edit.specs.declared.key.Key.TheVariants as key
use Rattle.mx_edit.specs.declared.key.KeyResult.{KeyResult}
use Rattle.mx_edit.specs.declared.key.KeyResult.TheVariants as found
use Rattle.mx_edit.specs.declared.reply.Reply.{Reply}
use Rattle.mx_runs.specs.Runs.{Run, Ends, Tests, Asks, Gives, NoSuch, WrongCount, Event, Tested, Asked}
use Rattle.mx_runs.specs.Meaning.{Means}
use Rattle.mx_meaning.specs.Namespaces.{Step, root, child, ends_with_name, item_at}
use Rattle.mx_meaning.specs.Walks.{Onward, entered, item_entered, stepped, walked_from, walked}
use Rattle.mx_meaning.specs.Laws.{model_of, IsSpaceAt}
use Rattle.mx_meaning.proofs.Walking.{Came, Reached, root_reached, reached_on, came_on, name_steps, item_steps}
use Rattle.mx_meaning.proofs.Items.{item_reply}

-- The steps of a walk keep Q of its namespaces and P of its runs, each by the nodes asked so far. Of the ask of an item P
-- holds where it holds of what comes behind each answer, if there Q holds of the item's space.
pub record Carries (look : Key → KeyResult) (Q : List Node → Namespace → Type 0) (P : List Node → Run → Type 0) : Type 0 where
  pub refused : (asked : List Node) → P asked (Ends NoSuch)
  pub miscounted : (asked : List Node) → P asked (Ends WrongCount)
  pub tested : (asked : List Node) (k : Key) (go : KeyResult → Run) → P asked (go (look k)) → P asked (Tests k go)
  pub named : (asked : List Node) (ns : Namespace) (name : Label) → Q asked ns → Q asked (child name ns)
  pub asking : (asked : List Node) (ns : Namespace) → Q asked ns → (vs : List Value) (go : Onward)
      → ((r : Reply) → Means (model_of look) (Item ns.at vs) (Gives r) → ((space : Namespace) → space.at ≡ item_at ns vs → Q (Item ns.at vs ∷ asked) space) → P (Item ns.at vs ∷ asked) (entered r.namespace go))
      → P asked (Asks (Item ns.at vs) (λ r. entered r.namespace go))

module _ (look : Key → KeyResult) (Q : List Node → Namespace → Type 0) (P : List Node → Run → Type 0) (carries : Carries look Q P) where
  module _ (asked : List Node) (ns : Namespace) (reached : Reached look ns) (fact : Q asked ns) (few : nat_le 64 (length ns.at) ≡ false) (go : Onward)
      (k : (before : List Node) (next : Namespace) → Reached look next → Came look next → Q before next → P before (go next)) where
    name_carried : (name : Label) → P asked (go (child name ns))
    name_carried name =
        k asked (child name ns) (reached_on look ns (child name ns) reached (segment.Name name) few [] (name_steps look ns name) refl)
        (came_on look ns (child name ns) reached (segment.Name name) few [] (name_steps look ns name) refl) (carries.named asked ns name fact)

    module _ (came : Came look ns) (n : ends_with_name ns.at ≡ true) (args : List Value) (ps : Params) (e : look (key.Params ns.source) ≡ found.Params ps)
        (q : is_wrong_count ps.params (length args) ≡ false) (r : Reply) (m : Means (model_of look) (Item ns.at (bound ps.params args)) (Gives r)) where
      abbrev node : Node
      node = Item ns.at (bound ps.params args)

      abbrev answer : IsSpaceAt (item_at ns (bound ps.params args)) r
      answer = item_reply look ns came ps args n e q r m

      abbrev has : r.namespace ≡ Some answer.space
      has = ap (λ (x : Reply). x.namespace) answer.is

      abbrev events : List Event
      events = Tested (key.Params ns.source) ∷ Asked node r ∷ []

      reply_carried : ((space : Namespace) → space.at ≡ item_at ns (bound ps.params args) → Q (node ∷ asked) space) → P (node ∷ asked) (entered r.namespace go)
      reply_carried there = subst (λ o. P (node ∷ asked) (entered o go)) (sym has)
          (k (node ∷ asked) answer.space
          (reached_on look ns answer.space reached (segment.Item (bound ps.params args)) few events (item_steps look ns answer.space ps args n e q r m has) answer.address)
          (came_on look ns answer.space reached (segment.Item (bound ps.params args)) few events (item_steps look ns answer.space ps args n e q r m has) answer.address)
          (there answer.space answer.address))

    module _ (came : Came look ns) (n : ends_with_name ns.at ≡ true) (args : List Value) where
      counted_carried : (ps : Params) → look (key.Params ns.source) ≡ found.Params ps → (wrong : Bool) → is_wrong_count ps.params (length args) ≡ wrong
          → P asked (if wrong then Ends WrongCount else Asks (Item ns.at (bound ps.params args)) (λ r. entered r.namespace go))
      counted_carried ps e true q = carries.miscounted asked
      counted_carried ps e false q = carries.asking asked ns fact (bound ps.params args) go (reply_carried came n args ps e q)

      entered_carried : (r : KeyResult) → look (key.Params ns.source) ≡ r → P asked (item_entered ns args go r)
      entered_carried (found.Params ps) e = counted_carried ps e (is_wrong_count ps.params (length args)) refl
      entered_carried other e = carries.refused asked

    item_carried : (ends_with_name ns.at ≡ true → Came look ns) → (args : List Value) (b : Bool) → ends_with_name ns.at ≡ b → P asked (if b then Tests (key.Params ns.source) (item_entered ns args go) else Ends NoSuch)
    item_carried c args true n = carries.tested asked (key.Params ns.source) (item_entered ns args go) (entered_carried (c n) n args (look (key.Params ns.source)) refl)
    item_carried c args false n = carries.refused asked

    step_carried : (ends_with_name ns.at ≡ true → Came look ns) → (s : Step) → P asked (stepped s ns go)
    step_carried c (Segment-F.Name name) = name_carried name
    step_carried c (Segment-F.Item args) = item_carried c args (ends_with_name ns.at) refl

  refused_carried : (asked : List Node) (b : Bool) (run : Run) → (b ≡ false → P asked run) → P asked (if b then Ends NoSuch else run)
  refused_carried asked true run g = carries.refused asked
  refused_carried asked false run g = g refl

  walked_from_carried : (segments : List Segment) (asked : List Node) (ns : Namespace) → Reached look ns → Came look ns → Q asked ns → (go : Onward) → ((before : List Node) (m : Namespace) → Came look m → Q before m → P before (go m)) → P asked (walked_from segments ns go)
  walked_from_carried [] asked ns reached came fact go k = k asked ns came fact
  walked_from_carried (s ∷ more) asked ns reached came fact go k =
      refused_carried asked (nat_le 64 (length ns.at)) (stepped (out-Segment s) ns (λ next. walked_from more next go)) (λ few.
      step_carried asked ns reached fact few (λ next. walked_from more next go) (λ before next r c f. walked_from_carried more before next r c f go k) (λ h. came) (out-Segment s))

  pub walked_carried : (segments : List Segment) (asked : List Node) → Q asked root → (go : Onward) → ((before : List Node) (m : Namespace) → Came look m → Q before m → P before (go m)) → P asked (walked segments go)
  walked_carried [] asked fact go k = carries.refused asked
  walked_carried (s ∷ more) asked fact go k =
      step_carried asked root (root_reached look) fact refl (λ next. walked_from more next go) (λ before next r c f. walked_from_carried more before next r c f go k) (λ h. absurd (cc)) (out-Segment s)
