-- The ring of an item that asks itself, evaluated.
use Rattle.std.proofs.Common.{Err, inl, inr, [], ◌∷◌, refl, sym, subst, arith, pos, codes}
use Rattle.mx_c3.specs.Merge.{merge}
use Rattle.mx_c3.specs.Linearisation.{c3}
use Rattle.mx_value.specs.declared.namespace.Namespace.{Namespace}
use Rattle.mx_value.specs.declared.node.Node.{Node}
use Rattle.mx_value.specs.declared.refusal.EvalRefusal.TheVariants.{Ring}
use Rattle.mx_edit.specs.declared.key.Key.TheVariants as key
use Rattle.mx_runs.specs.Lists.{Has}
use Rattle.mx_runs.specs.Runs.{Run, Tests, Asks, Tested}
use Rattle.mx_runs.specs.Meaning.{Leads}
use Rattle.mx_runs.specs.Chains.{DoesAsk, Reaches, Itself, Through, MeansNothing}
use Rattle.mx_runs.proofs.Reach.{reach_within}
use Rattle.mx_meaning.specs.Namespaces.{root, child}
use Rattle.mx_meaning.specs.Walks.{entered}
use Rattle.mx_meaning.specs.Binding.{binding, cell_bound}
use Rattle.mx_meaning.specs.Laws.{BindsTo}
use Rattle.mx_formula_examples.proofs.Rules.{top}
use Rattle.mx_formula_examples.proofs.Worked.{ends, one_bound}
use Rattle.mx_model.specs.Keys.{key_result}
use Rattle.mx_state.specs.Model.{model_of}
use Rattle.mx_state.specs.Evaluations.{AsWritten}
use Rattle.mx_state.proofs.Binding.{lost_binds_none}
use Rattle.mx_state_examples.specs.Texts.{space_s, asking_itself}
use Rattle.mx_state_examples.specs.Rows as row
use Rattle.mx_state_examples.proofs.Halting.{walk_asks}
use Rattle.mx_state_examples.proofs.Circles.{chain, chain_distinct, cells_ask, item_asks, cells_first, item_first, item_asks_itself}
use Rattle.mx_state_examples.proofs.Rounds.{round_lost}
use Rattle.mx_state_examples.specs.Evaluations.{itself_cell, ItemRingIsEvaluated}
use Rattle.mx_state_examples.proofs.Lost.{completes_lost, only_ask, nothing_held}
use Rattle.mx_state_examples.proofs.Failing.{none_right}

abbrev its_item : Node
its_item = row.item (row.whole 1)

lost : (k : Node) → Has chain k → MeansNothing (model_of asking_itself) k
lost = round_lost (model_of asking_itself) chain its_item (inr (inl refl)) (cells_ask, (item_asks, tt))

-- both ask the item alone
in_chain : (x y : Node) → Has chain x → DoesAsk (model_of asking_itself) x y → Has chain y
in_chain x y h a =
    elim h [
      | inl e ↦ inr (inl (only_ask (model_of asking_itself) itself_cell its_item y cells_ask cells_first (lost its_item (inr (inl refl))) (subst (λ z. DoesAsk (model_of asking_itself) z y) (sym e) a)))
      | inr r ↦ elim r [
        | inl e ↦ inr (inl (only_ask (model_of asking_itself) its_item its_item y item_asks item_first (lost its_item (inr (inl refl))) (subst (λ z. DoesAsk (model_of asking_itself) z y) (sym e) a)))
        | inr z ↦ absurd z
      ]
    ]

reached : (x : Node) → Has chain x → Reaches (model_of asking_itself) itself_cell x
reached x h =
    elim h [
      | inl e ↦ subst (λ y. Reaches (model_of asking_itself) itself_cell y) e Itself
      | inr r ↦ elim r [ inl e ↦ subst (λ y. Reaches (model_of asking_itself) itself_cell y) e (Through its_item cells_ask Itself) | inr z ↦ absurd z ]
    ]

-- its binding waits for the item too
abbrev on : (Node → Run) → Namespace → Run
on go ns = Tests (key.Cells ns.source (codes "c")) (cell_bound ns (codes "c") [] go)

waits : (go : Node → Run) → Leads (model_of asking_itself) (binding itself_cell go) (Tested (key.Params space_s) ∷ []) (Asks its_item (λ r. entered r.namespace (on go)))
unfolding c3 merge
waits go = walk_asks (key_result asking_itself) (child (codes "S") root) _ (row.whole 1 ∷ []) (row.whole 1 ∷ []) [] (top (codes "S")) refl (ends (codes "S")) refl (on go) refl (one_bound (codes "x") (pos 1))

unbound : (b : Node) → BindsTo (model_of asking_itself) itself_cell b → ⊥
unbound =
    lost_binds_none asking_itself itself_cell its_item (Tested (key.Params space_s) ∷ []) (λ go r. entered r.namespace (on go)) waits (λ v. lost its_item (inr (inl refl)) _ v.means)

pub item_ring_is_evaluated : ItemRingIsEvaluated
item_ring_is_evaluated =
    nothing_held asking_itself itself_cell itself_cell (Err (Ring (its_item ∷ []))) 2 (AsWritten unbound) (
      item_asks_itself.0,
      item_asks_itself.1,
      completes_lost (model_of asking_itself) [] [] (none_right (model_of asking_itself)) itself_cell chain chain_distinct (λ x h. absurd h)
          (λ x h. (reached x h, λ v. lost x h _ v.means))
          (λ x r. inr (reach_within (model_of asking_itself) (λ y. Has chain y) in_chain itself_cell x (inl refl) r)) 5000 (omega arith),
    )
