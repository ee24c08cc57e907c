-- A node has one bound form, which is its own, and an item node in bound form gives its space.
use Rattle.std.proofs.Common.{Bool, true, false, ◌≡◌, List, [], ◌∷◌, ◌++◌, inl, inr, if◌then◌else◌, length, refl, sym, subst}
use Rattle.mx_value.specs.declared.label.Label.{Label}
use Rattle.mx_value.specs.declared.value.Value.{Value}
use Rattle.mx_value.specs.declared.value.Segment.{Segment}
use Rattle.mx_value.specs.declared.value.Segment.TheVariants as segment
use Rattle.mx_value.specs.declared.namespace.Namespace.{Namespace}
use Rattle.mx_value.specs.declared.fault.FaultKind.TheVariants.{BadItem}
use Rattle.mx_value.specs.declared.node.Node.{Node}
use Rattle.mx_value.specs.declared.node.Node.TheVariants.{Cell, Item}
use Rattle.mx_syntax.specs.declared.stmt.Params.{Params}
use Rattle.mx_syntax.specs.declared.stmt.Formula.{Formula}
use Rattle.mx_syntax.specs.Binding.{bound, is_wrong_count}
use Rattle.mx_edit.specs.declared.key.Key.{Key}
use Rattle.mx_edit.specs.declared.key.Key.TheVariants as key
use Rattle.mx_edit.specs.declared.key.KeyResult.{KeyResult}
use Rattle.mx_edit.specs.declared.key.KeyResult.TheVariants as found
use Rattle.mx_edit.specs.declared.reply.Reply.{Reply}
use Rattle.mx_runs.specs.Runs.{Run, Ends, Looks, Tests, Asks, Notes, Gives, Faults, NoSuch, WrongCount, Event, Looked, Tested, Asked, Noted}
use Rattle.mx_runs.specs.Meaning.{Means, Leads}
use Rattle.mx_runs.proofs.Levels.{ends_only}
use Rattle.mx_runs.proofs.Runs.{comparable}
use Rattle.mx_meaning.specs.Namespaces.{ends_with_name}
use Rattle.mx_meaning.specs.Walks.{entered, item_entered, walked}
use Rattle.mx_meaning.specs.Binding.{binding, cell_bound, item_bound, item_sought}
use Rattle.mx_meaning.specs.Laws.{model_of, BindsTo, IsSpaceAt, OneBoundForm, BoundIsBound, ItemsGiveSpaces}
use Rattle.mx_meaning.proofs.Walking.{Came}
use Rattle.mx_meaning.proofs.Items.{item_reply}
use Rattle.mx_meaning.proofs.Walked.{walked_kept}
use Rattle.mx_meaning.proofs.Sound.{cell_binds, item_binds}

-- an end that shows a node
abbrev mark : Node → Run
mark n = Ends (Faults BadItem n 0)

same_mark : (b c : Node) → Faults BadItem b 0 ≡ Faults BadItem c 0 → b ≡ c
same_mark b c e = cc

same_end : (b c : Node) → mark b ≡ mark c → b ≡ c
same_end b c e = cc

pub one_bound_form : OneBoundForm
one_bound_form look n b c x y =
    elim (comparable (model_of look) (binding n mark) (mark b) (mark c) x.events y.events (x.leads mark) (y.leads mark)) [
      | inl a ↦ sym (same_end c b (ends_only (model_of look) (Faults BadItem b 0) (mark c) a.more a.leads).1)
      | inr a ↦ same_end b c (ends_only (model_of look) (Faults BadItem c 0) (mark b) a.more a.leads).1
    ]

module _ (look : Key → KeyResult) where
  abbrev GivesSpace : Node → Type 0
  GivesSpace (Cell at name args) = Unit {0}
  GivesSpace (Item at args) = (r : Reply) → Means (model_of look) (Item at args) (Gives r) → IsSpaceAt (at ++ segment.Item args ∷ []) r

  -- what is known of a bound form
  abbrev Known : Node → Type 0
  Known b = BindsTo (model_of look) b b × GivesSpace b

  module _ (b : Node) where
    -- where the run comes to the mark of b, it is known of b
    abbrev Shows : Run → Type 0
    Shows (Ends o) = o ≡ Faults BadItem b 0 → Known b
    Shows (Looks k go) = Shows (go (look k))
    Shows (Tests k go) = Shows (go (look k))
    Shows (Asks m go) = (r : Reply) → Means (model_of look) m (Gives r) → Shows (go r)
    Shows (Notes read run) = Shows run

    shown : (run : Run) (es : List Event) → Shows run → Leads (model_of look) run es (mark b) → Known b
    shown run [] s l = (subst Shows l s) refl
    shown (Looks k go) (Looked x ∷ es) s l = shown (go (look k)) es s l.1
    shown (Tests k go) (Tested x ∷ es) s l = shown (go (look k)) es s l.1
    shown (Asks m go) (Asked x r ∷ es) s l = shown (go r) es (s r l.1) l.2
    shown (Notes read run) (Noted x ∷ es) s l = shown run es s l.1
    shown run (e ∷ es) s l = absurd l

    no_such : Shows (Ends NoSuch)
    no_such e = absurd (cc)

    wrong_count : Shows (Ends WrongCount)
    wrong_count e = absurd (cc)

    marked : (c : Node) → Known c → Shows (mark c)
    marked c known e = subst Known (same_mark c b e) known

    module _ (ns : Namespace) (args : List Value) (go : Namespace → Run)
        (k : (ps : Params) → look (key.Params ns.source) ≡ found.Params ps → is_wrong_count ps.params (length args) ≡ false → (r : Reply) → Means (model_of look) (Item ns.at (bound ps.params args)) (Gives r) → Shows (entered r.namespace go)) where
      counted : (ps : Params) → look (key.Params ns.source) ≡ found.Params ps → (wrong : Bool) → is_wrong_count ps.params (length args) ≡ wrong → Shows (if wrong then Ends WrongCount else Asks (Item ns.at (bound ps.params args)) (λ r. entered r.namespace go))
      counted ps e true q = wrong_count
      counted ps e false q = λ r m. k ps e q r m

      entering : (r : KeyResult) → look (key.Params ns.source) ≡ r → Shows (item_entered ns args go r)
      entering (found.Params ps) e = counted ps e (is_wrong_count ps.params (length args)) refl
      entering found.Missing e = no_such
      entering found.CellsHere e = no_such
      entering found.Child e = no_such
      entering (found.Ref v o) e = no_such
      entering (found.Formula f a) e = no_such
      entering found.There e = no_such
      entering (found.Value v) e = no_such
      entering (found.Table t) e = no_such

    through : (segments : List Segment) (go : Namespace → Run) → ((m : Namespace) → Came look m → Shows (go m)) → Shows (walked segments go)
    through = walked_kept look Shows (record { refused = no_such; entering = λ ns came n args go k. entering ns args go k (look (key.Params ns.source)) refl })

    module _ (ns : Namespace) (came : Came look ns) (args : List Value) where
      cell_counted : (name : Label) (f : Formula) (allow : Bool) → look (key.Cells ns.source name) ≡ found.Formula f allow → (wrong : Bool) → is_wrong_count f.params (length args) ≡ wrong → Shows (if wrong then Ends WrongCount else mark (Cell ns.at name (bound f.params args)))
      cell_counted name f allow e true q = wrong_count
      cell_counted name f allow e false q = marked (Cell ns.at name (bound f.params args)) (cell_binds look ns came name f allow args e q, tt)

      cell_shows : (name : Label) (r : KeyResult) → look (key.Cells ns.source name) ≡ r → Shows (cell_bound ns name args mark r)
      cell_shows name (found.Formula f allow) e = cell_counted name f allow e (is_wrong_count f.params (length args)) refl
      cell_shows name found.Missing e = no_such
      cell_shows name found.CellsHere e = no_such
      cell_shows name found.Child e = no_such
      cell_shows name (found.Ref v o) e = no_such
      cell_shows name (found.Params ps) e = no_such
      cell_shows name found.There e = no_such
      cell_shows name (found.Value v) e = no_such
      cell_shows name (found.Table t) e = no_such

      item_counted : ends_with_name ns.at ≡ true → (ps : Params) → look (key.Params ns.source) ≡ found.Params ps → (wrong : Bool) → is_wrong_count ps.params (length args) ≡ wrong → Shows (if wrong then Ends WrongCount else mark (Item ns.at (bound ps.params args)))
      item_counted n ps e true q = wrong_count
      item_counted n ps e false q = marked (Item ns.at (bound ps.params args)) (item_binds look ns came ps args n e q, item_reply look ns came ps args n e q)

      item_shows : ends_with_name ns.at ≡ true → (r : KeyResult) → look (key.Params ns.source) ≡ r → Shows (item_bound ns args mark r)
      item_shows n (found.Params ps) e = item_counted n ps e (is_wrong_count ps.params (length args)) refl
      item_shows n found.Missing e = no_such
      item_shows n found.CellsHere e = no_such
      item_shows n found.Child e = no_such
      item_shows n (found.Ref v o) e = no_such
      item_shows n (found.Formula f a) e = no_such
      item_shows n found.There e = no_such
      item_shows n (found.Value v) e = no_such
      item_shows n (found.Table t) e = no_such

      item_if_shows : (c : Bool) → ends_with_name ns.at ≡ c → Shows (if c then Tests (key.Params ns.source) (item_bound ns args mark) else Ends NoSuch)
      item_if_shows true n = item_shows n (look (key.Params ns.source)) refl
      item_if_shows false n = no_such

    binding_shows : (n : Node) → Shows (binding n mark)
    binding_shows (Cell at name args) = through at (λ ns. Tests (key.Cells ns.source name) (cell_bound ns name args mark)) (λ ns came. cell_shows ns came args name (look (key.Cells ns.source name)) refl)
    binding_shows (Item at args) = through at (λ ns. item_sought ns args mark) (λ ns came. item_if_shows ns came args (ends_with_name ns.at) refl)

  known : (n b : Node) → BindsTo (model_of look) n b → Known b
  known n b x = shown b (binding n mark) x.events (binding_shows b n) (x.leads mark)

pub bound_is_bound : BoundIsBound
bound_is_bound look n b x = (known look n b x).0

pub items_give_spaces : ItemsGiveSpaces
items_give_spaces look at args r x = (known look (Item at args) (Item at args) x).1 r
