-- Runs that ask an item before they ask what lies in its space: what is so of a run, is kept by each way in which a formula
-- goes on.
use Rattle.std.proofs.Common.{◌≡◌, List, [], ◌∷◌, ◌⊎◌, inl, inr, ◌∙◌, subst}
use Rattle.mx_value.specs.declared.value.Value.{Value}
use Rattle.mx_value.specs.declared.value.Segment.{Segment}
use Rattle.mx_value.specs.declared.node.Node.{Node}
use Rattle.mx_value.specs.declared.node.Node.TheVariants.{Item}
use Rattle.mx_edit.specs.declared.key.Key.{Key}
use Rattle.mx_edit.specs.declared.key.KeyResult.{KeyResult}
use Rattle.mx_edit.specs.declared.reply.Reply.{Reply}
use Rattle.mx_runs.specs.Runs.{Run, Ends, Looks, Tests, Asks, Notes, Gives, Event, Looked, Tested, Asked, Noted}
use Rattle.mx_runs.specs.Meaning.{Means, Leads}
use Rattle.mx_runs.specs.Lists.{Has}
use Rattle.mx_runs.specs.Chains.{asks_of}
use Rattle.mx_meaning.specs.Laws.{model_of}
use Rattle.mx_suspended.specs.ItemsFirst.{address_of}
use Rattle.mx_suspended.proofs.Prefixes.{Passes, not_its_own}

module _ (look : Key → KeyResult) (at : List Segment) (args : List Value) where
  -- each node that the run asks is the item, behind which nothing is owed, or does not lie in its space
  abbrev pub Guarded : Run → Type 0
  Guarded (Ends o) = Unit {0}
  Guarded (Looks k go) = Guarded (go (look k))
  Guarded (Tests k go) = Guarded (go (look k))
  Guarded (Asks m go) = (m ≡ Item at args) ⊎ ((Passes at args (address_of m) → ⊥) × ((r : Reply) → Means (model_of look) m (Gives r) → Guarded (go r)))
  Guarded (Notes read run) = Guarded run

  -- such a run asks nothing in the space at once
  not_at_once : (m : Node) (go : Reply → Run) → Guarded (Asks m go) → Passes at args (address_of m) → ⊥
  not_at_once m go g p = elim g [ inl e ↦ not_its_own at args (subst (λ (n : Node). Passes at args (address_of n)) e p) | inr h ↦ h.0 p ]

  pub asked_first : (run : Run) (es : List Event) (m : Node) (go : Reply → Run) → Guarded run → Leads (model_of look) run es (Asks m go) → Passes at args (address_of m) → Has (asks_of es) (Item at args)
  asked_first run [] m go g l p = absurd (not_at_once m go (subst Guarded l g) p)
  asked_first (Looks k on) (Looked x ∷ es) m go g l p = asked_first (on (look k)) es m go g l.1 p
  asked_first (Tests k on) (Tested x ∷ es) m go g l p = asked_first (on (look k)) es m go g l.1 p
  asked_first (Asks k on) (Asked x r ∷ es) m go g l p = elim g [ inl e ↦ inl (l.0 ∙ e) | inr h ↦ inr (asked_first (on r) es m go (h.1 r l.1) l.2 p) ]
  asked_first (Notes read run) (Noted x ∷ es) m go g l p = asked_first run es m go g l.1 p
  asked_first run (e ∷ es) m go g l p = absurd l
