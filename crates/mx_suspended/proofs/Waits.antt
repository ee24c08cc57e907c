-- The bound form of a node lies in the space of each item that the walk of the node asks.
use Rattle.std.proofs.Common.{Bool, true, false, ◌≡◌, List, [], ◌∷◌, ◌++◌, ◌⊎◌, inl, inr, if◌then◌else◌, length, refl, sym, ◌∙◌, ap, subst}
use Rattle.mx_value.specs.declared.label.Label.{Label}
use Rattle.mx_value.specs.declared.value.Value.{Value}
use Rattle.mx_value.specs.declared.value.Segment.{Segment}
use Rattle.mx_value.specs.declared.value.Segment.TheVariants as segment
use Rattle.mx_value.specs.declared.namespace.Namespace.{Namespace}
use Rattle.mx_value.specs.declared.fault.FaultKind.TheVariants.{BadItem}
use Rattle.mx_value.specs.declared.node.Node.{Node}
use Rattle.mx_value.specs.declared.node.Node.TheVariants.{Cell, Item}
use Rattle.mx_syntax.specs.Binding.{bound, is_wrong_count}
use Rattle.mx_edit.specs.declared.key.Key.{Key}
use Rattle.mx_edit.specs.declared.key.Key.TheVariants as key
use Rattle.mx_edit.specs.declared.key.KeyResult.{KeyResult}
use Rattle.mx_edit.specs.declared.key.KeyResult.TheVariants as found
use Rattle.mx_edit.specs.declared.reply.Reply.{Reply}
use Rattle.mx_runs.specs.Runs.{Run, Ends, Looks, Tests, Asks, Notes, Gives, Faults, NoSuch, WrongCount, Event, Looked, Tested, Asked, Noted}
use Rattle.mx_runs.specs.Meaning.{Means, Leads}
use Rattle.mx_runs.specs.Lists.{Has}
use Rattle.mx_runs.specs.Chains.{asks_of}
use Rattle.mx_runs.proofs.Runs.{asked_by_end}
use Rattle.mx_meaning.specs.Namespaces.{ends_with_name, item_at}
use Rattle.mx_meaning.specs.Walks.{Onward, entered, walked_from, walked}
use Rattle.mx_meaning.specs.Binding.{binding, cell_bound, item_bound}
use Rattle.mx_meaning.specs.Laws.{model_of}
use Rattle.mx_suspended.specs.ItemsFirst.{address_of, WaitsOnTheWay}
use Rattle.mx_suspended.proofs.Prefixes.{Passes, stays_behind}
use Rattle.mx_suspended.proofs.Carried.{Carries, walked_carried}

-- an end that shows a node
abbrev mark : Node → Run
mark n = Ends (Faults BadItem n 0)

same_mark : (b c : Node) → Faults BadItem b 0 ≡ Faults BadItem c 0 → b ≡ c
same_mark b c e = cc

-- the address of the space of an item node
abbrev space_of : Node → List Segment
space_of (Cell a name vs) = a
space_of (Item a vs) = a ++ segment.Item vs ∷ []

module _ (look : Key → KeyResult) (b : Node) (at : List Segment) (args : List Value) where
  -- where the run comes to the mark of b, and has asked the item or did so before, b lies in the space of the item
  abbrev Trail : Run → List Node → Type 0
  Trail (Ends o) asked = o ≡ Faults BadItem b 0 → Has asked (Item at args) → Passes at args (address_of b)
  Trail (Looks k go) asked = Trail (go (look k)) asked
  Trail (Tests k go) asked = Trail (go (look k)) asked
  Trail (Asks m go) asked = (r : Reply) → Means (model_of look) m (Gives r) → Trail (go r) (m ∷ asked)
  Trail (Notes read run) asked = Trail run asked

  -- the namespace lies in the space of the item, if that was asked
  abbrev Inside : List Node → Namespace → Type 0
  Inside asked ns = Has asked (Item at args) → Passes at args ns.at

  followed : (run : Run) (es : List Event) (asked : List Node) → Trail run asked → Leads (model_of look) run es (mark b) → Has asked (Item at args) ⊎ Has (asks_of es) (Item at args) → Passes at args (address_of b)
  followed run [] asked t l (inl h) = subst (λ x. Trail x asked) l t refl h
  followed run [] asked t l (inr h) = absurd h
  followed (Looks k go) (Looked x ∷ es) asked t l h = followed (go (look k)) es asked t l.1 h
  followed (Tests k go) (Tested x ∷ es) asked t l h = followed (go (look k)) es asked t l.1 h
  followed (Asks m go) (Asked x r ∷ es) asked t l (inl h) = followed (go r) es (m ∷ asked) (t r l.1) l.2 (inl (inr h))
  followed (Asks m go) (Asked x r ∷ es) asked t l (inr (inl e)) = followed (go r) es (m ∷ asked) (t r l.1) l.2 (inl (inl (sym l.0 ∙ e)))
  followed (Asks m go) (Asked x r ∷ es) asked t l (inr (inr h)) = followed (go r) es (m ∷ asked) (t r l.1) l.2 (inr h)
  followed (Notes read run) (Noted x ∷ es) asked t l h = followed run es asked t l.1 h
  followed run (e ∷ es) asked t l h = absurd l

  no_such : (asked : List Node) → Trail (Ends NoSuch) asked
  no_such asked e h = absurd (cc)

  wrong_count : (asked : List Node) → Trail (Ends WrongCount) asked
  wrong_count asked e h = absurd (cc)

  -- ---- along the walk

  -- the space of an item that is asked
  space_inside : (asked : List Node) (ns : Namespace) → Inside asked ns → (vs : List Value) (space : Namespace) → space.at ≡ item_at ns vs → Inside (Item ns.at vs ∷ asked) space
  space_inside asked ns inside vs space e (inl h) = record { behind = []; is = e ∙ ap space_of h }
  space_inside asked ns inside vs space e (inr h) = subst (Passes at args) (sym e) (stays_behind at args ns.at (segment.Item vs) (inside h))

  trail_carries : Carries look Inside (λ asked run. Trail run asked)
  trail_carries = record {
    refused = no_such;
    miscounted = wrong_count;
    tested = λ asked k go t. t;
    named = λ asked ns name inside h. stays_behind at args ns.at (segment.Name name) (inside h);
    asking = λ asked ns inside vs go k r m. k r m (space_inside asked ns inside vs);
  }

  -- ---- behind the walk

  module _ (asked : List Node) (ns : Namespace) (inside : Inside asked ns) (vs : List Value) where
    -- a node of the namespace's address
    marked : (c : Node) → address_of c ≡ ns.at → Trail (mark c) asked
    marked c e same h = subst (λ (x : Node). Passes at args (address_of x)) (same_mark c b same) (subst (Passes at args) (sym e) (inside h))

    chosen : (wrong : Bool) (c : Node) → address_of c ≡ ns.at → Trail (if wrong then Ends WrongCount else mark c) asked
    chosen true c e = wrong_count asked
    chosen false c e = marked c e

    cell_trail : (name : Label) (r : KeyResult) → Trail (cell_bound ns name vs mark r) asked
    cell_trail name (found.Formula f allow) = chosen (is_wrong_count f.params (length vs)) (Cell ns.at name (bound f.params vs)) refl
    cell_trail name other = no_such asked

    item_trail : (r : KeyResult) → Trail (item_bound ns vs mark r) asked
    item_trail (found.Params ps) = chosen (is_wrong_count ps.params (length vs)) (Item ns.at (bound ps.params vs)) refl
    item_trail other = no_such asked

    sought_trail : (c : Bool) → Trail (if c then Tests (key.Params ns.source) (item_bound ns vs mark) else Ends NoSuch) asked
    sought_trail true = item_trail (look (key.Params ns.source))
    sought_trail false = no_such asked

  through : (segments : List Segment) (go : Onward) → ((asked : List Node) (m : Namespace) → Inside asked m → Trail (go m) asked) → Trail (walked segments go) []
  through segments go k = walked_carried look Inside (λ asked run. Trail run asked) trail_carries segments [] (λ h. absurd h) go (λ asked m came inside. k asked m inside)

  binding_trail : (n : Node) → Trail (binding n mark) []
  binding_trail (Cell a name vs) = through a _ (λ asked ns inside. cell_trail asked ns inside vs name (look (key.Cells ns.source name)))
  binding_trail (Item a vs) = through a _ (λ asked ns inside. sought_trail asked ns inside vs (ends_with_name ns.at))

  -- ---- the item was asked

  module _ (es : List Event) (more : List Segment) where
    -- the walk waits for the item's node, and goes on through these segments
    abbrev Waits : List Segment → Type 0
    Waits address = (go : Onward) → Leads (model_of look) (walked address go) es (Asks (Item at args) (λ r. entered r.namespace (λ ns. walked_from more ns go)))

    asked_on_the_way : (address : List Segment) → Waits address → (go : Onward) (all : List Event) → Leads (model_of look) (walked address go) all (mark b) → Has (asks_of all) (Item at args)
    asked_on_the_way address waits go all l = asked_by_end (model_of look) (walked address go) (Item at args) _ (Faults BadItem b 0) es all (waits go) l

    asked : (n : Node) → Waits (address_of n) → (all : List Event) → Leads (model_of look) (binding n mark) all (mark b) → Has (asks_of all) (Item at args)
    asked (Cell a name vs) waits all l = asked_on_the_way a waits _ all l
    asked (Item a vs) waits all l = asked_on_the_way a waits _ all l

pub waits_on_the_way : WaitsOnTheWay
waits_on_the_way look n b es at args more t waits =
    let l = t.leads mark in
    followed look b at args (binding n mark) t.events [] (binding_trail look b at args n) l (inr (asked look b at args es more n waits t.events l))
