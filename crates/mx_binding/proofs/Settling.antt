-- What binding comes to in the namespace of a node.
use Rattle.std.proofs.Common.{◌≡◌, Bool, true, List, [], ◌∷◌, refl, sym, ◌∙◌, ap, subst}
use Rattle.std.specs.Prelude.{if◌then◌else◌}
use Rattle.mx_value.specs.declared.label.Label.{Label}
use Rattle.mx_value.specs.declared.value.Value.{Value}
use Rattle.mx_value.specs.declared.namespace.Namespace.{Namespace}
use Rattle.mx_value.specs.declared.node.Node.TheVariants.{Cell, Item}
use Rattle.mx_edit.specs.declared.key.Key.{Key}
use Rattle.mx_edit.specs.declared.key.Key.TheVariants as key
use Rattle.mx_edit.specs.declared.key.KeyResult.{KeyResult}
use Rattle.mx_runs.specs.Runs.{Run, Ends, Tests, Tested, NoSuch}
use Rattle.mx_runs.specs.Meaning.{Leads}
use Rattle.mx_meaning.specs.Laws.{model_of}
use Rattle.mx_meaning.specs.Binding.{cell_bound, item_bound, item_sought}
use Rattle.mx_meaning.specs.Namespaces.{ends_with_name}
use Rattle.mx_binding.specs.declared.settled.Settled.{Settled}
use Rattle.mx_binding.specs.Walking.{Address}
use Rattle.mx_binding.specs.Settles.{Goes, Settles, settled_run}

module _ (look : Key → KeyResult) (ns : Namespace) (args : List Value) (at : Address) where
  -- cells, by what their key leads to
  pub cells_settle : (name : Label) (q : KeyResult) (to : Settled) → q ≡ look (key.Cells ns.source name) → ((go : Goes) → cell_bound ns name args go q ≡ settled_run to go) → Settles (model_of look) (Cell at name args) ns to
  cells_settle name q to e h = record {
    events = Tested (key.Cells ns.source name) ∷ [];
    leads = λ go. (refl, ap (cell_bound ns name args go) (sym e) ∙ h go);
    asks_none = refl;
  }

  sought_as : (go : Goes) (b : Bool) → ends_with_name ns.at ≡ b → item_sought ns args go ≡ (if b then Tests (key.Params ns.source) (item_bound ns args go) else Ends NoSuch)
  sought_as go b e = ap (λ (c : Bool). if c then Tests (key.Params ns.source) (item_bound ns args go) else Ends NoSuch) e

  -- an item, by what the key of its space leads to
  pub item_settles : (q : KeyResult) (to : Settled) → ends_with_name ns.at ≡ true → q ≡ look (key.Params ns.source) → ((go : Goes) → item_bound ns args go q ≡ settled_run to go) → Settles (model_of look) (Item at args) ns to
  item_settles q to n e h = record {
    events = Tested (key.Params ns.source) ∷ [];
    leads = λ go. subst (λ (r : Run). Leads (model_of look) r (Tested (key.Params ns.source) ∷ []) (settled_run to go)) (sym (sought_as go true n)) (refl, ap (item_bound ns args go) (sym e) ∙ h go);
    asks_none = refl;
  }
