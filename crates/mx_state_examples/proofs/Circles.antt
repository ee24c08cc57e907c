-- Rings.
use Rattle.std.proofs.Common.{◌≡◌, ◌&&◌, pos, true, false, Bool, inl, inr, List, [], ◌∷◌, refl, ap, subst, codes}
use Rattle.mx_c3.specs.Merge.{merge}
use Rattle.mx_c3.specs.Linearisation.{c3}
use Rattle.std.specs.List.{list_all}
use Rattle.mx_value.specs.Plain.{is_plain}
use Rattle.mx_value.specs.Name.{same_name}
use Rattle.mx_value.specs.declared.label.Label.{Label}
use Rattle.mx_value.specs.declared.node.Node.{Node}
use Rattle.mx_value.specs.declared.node.Node.TheVariants.{Cell, Item}
use Rattle.mx_edit.specs.declared.key.Key.TheVariants as key
use Rattle.mx_edit.specs.declared.key.KeyResult.TheVariants as found
use Rattle.mx_runs.specs.Lists.{Distinct}
use Rattle.mx_runs.specs.Runs.{Looks, Gives}
use Rattle.mx_runs.specs.Chains.{asks_of, DoesAsk}
use Rattle.mx_meaning.specs.Namespaces.{root, child}
use Rattle.mx_meaning.specs.Nodes.{cells_found}
use Rattle.mx_formula_examples.proofs.Equations.{plain_int}
use Rattle.mx_formula_examples.proofs.Rules.{top, lit, local, in_source, name_sought, target_reference, cells_here, post, call, none, more, trail_end, call_of_cells}
use Rattle.mx_formula_examples.proofs.NodeRules.{RunsTo, means, static_run}
use Rattle.mx_formula_examples.proofs.Worked.{ends, one_name, has_item, one_bound, small}
use Rattle.mx_model.specs.Keys.{key_result}
use Rattle.mx_state.specs.Model.{model_of}
use Rattle.mx_state_examples.specs.Texts.{main, space_s, asking_itself, asking_round, mended}
use Rattle.mx_state_examples.specs.Rows as row
use Rattle.mx_state_examples.specs.Rings.{ItemAsksItself, CellsAskEachOther, mended_events, MendedRing}
use Rattle.mx_state_examples.proofs.Halting.{index_halts, index_asks, call_halts, call_asks, does_ask, static_halts, display_halts, reference_halts, cells_ask_item}
use Rattle.mx_state_examples.proofs.Rounds.{round_lost, ring_from}

pub one_plain : list_all is_plain (row.whole 1 ∷ []) ≡ true
one_plain = ap (λ (b : Bool). b && true) (plain_int (pos 1))

-- ---- an item that asks itself

pub item_asks : DoesAsk (model_of asking_itself) (row.item (row.whole 1)) (row.item (row.whole 1))
unfolding c3 merge
item_asks =
    does_ask
    (display_halts {look = key_result asking_itself} (row.whole 1 ∷ []) (top (codes "S")) (ends (codes "S")) refl refl (one_bound (codes "x") (pos 1)) (small (codes "S") (pos 1))
    (reference_halts
    (index_halts _ (name_sought refl (in_source _ refl refl (target_reference (record { at = row.top (codes "S"); path = space_s }) refl refl refl))) (more (local refl) none)
    (index_asks (top (codes "S")) (ends (codes "S")) refl one_plain refl (one_bound (codes "x") (pos 1)) (small (codes "S") (pos 1))))))

abbrev pub in_it : Node
in_it = Cell (row.in_item (row.whole 1)) (codes "c") []

pub cells_ask : DoesAsk (model_of asking_itself) in_it (row.item (row.whole 1))
unfolding c3 merge
cells_ask =
    does_ask
    (cells_ask_item (key_result asking_itself) (child (codes "S") root) _ (row.whole 1 ∷ []) (row.whole 1 ∷ []) [] (top (codes "S")) refl (ends (codes "S")) refl (λ m. Looks (key.Cells m.source (codes "c")) (cells_found in_it m []))
    refl (one_bound (codes "x") (pos 1)) (codes "c") [] (has_item (codes "S") (row.whole 1 ∷ []) []) refl)

-- neither asks before that
pub item_first : asks_of item_asks.events ≡ []
unfolding item_asks c3 merge
item_first = refl

pub cells_first : asks_of cells_ask.events ≡ []
unfolding cells_ask c3 merge
cells_first = refl

abbrev pub chain : List Node
chain = in_it ∷ row.item (row.whole 1) ∷ []

no_item : row.item (row.whole 1) ≡ in_it → ⊥
no_item e = cc

pub chain_distinct : Distinct chain
chain_distinct = ((λ h. elim h [ inl e ↦ no_item e | inr r ↦ r ]), ((λ h. h), tt))

pub item_asks_itself : ItemAsksItself
item_asks_itself = (
  ring_from (model_of asking_itself) chain (row.item (row.whole 1)) (inr (inl refl)) (in_it ∷ []) [] refl chain_distinct (cells_ask, (item_asks, tt)),
  round_lost (model_of asking_itself) chain (row.item (row.whole 1)) (inr (inl refl)) (cells_ask, (item_asks, tt)) in_it (inl refl),
)

-- ---- cells that ask each other

pub f_asks : DoesAsk (model_of asking_round) (row.main_cell (codes "f") (row.whole 1 ∷ [])) (row.main_cell (codes "g") (row.whole 1 ∷ []))
unfolding c3 merge
f_asks =
    does_ask
    (static_halts (key_result asking_round) (child (codes "Main") root) (codes "f") _ _ false (row.whole 1 ∷ []) [] _ _ (top (codes "Main")) refl refl (one_bound (codes "n") (pos 1))
    (call_halts _ (name_sought refl (in_source found.CellsHere refl refl cells_here)) (more (local refl) none) (call_asks (top (codes "Main")) refl one_plain refl (one_bound (codes "n") (pos 1))))
    (one_name (codes "Main")) refl)

pub g_asks : DoesAsk (model_of asking_round) (row.main_cell (codes "g") (row.whole 1 ∷ [])) (row.main_cell (codes "f") (row.whole 1 ∷ []))
unfolding c3 merge
g_asks =
    does_ask
    (static_halts (key_result asking_round) (child (codes "Main") root) (codes "g") _ _ false (row.whole 1 ∷ []) [] _ _ (top (codes "Main")) refl refl (one_bound (codes "n") (pos 1))
    (call_halts _ (name_sought refl (in_source found.CellsHere refl refl cells_here)) (more (local refl) none) (call_asks (top (codes "Main")) refl one_plain refl (one_bound (codes "n") (pos 1))))
    (one_name (codes "Main")) refl)

-- neither asks before that
pub f_first : asks_of f_asks.events ≡ []
unfolding f_asks c3 merge
f_first = refl

pub g_first : asks_of g_asks.events ≡ []
unfolding g_asks c3 merge
g_first = refl

-- the name of a node's cells, or none
abbrev cells_name : Node → Label
cells_name (Cell at name args) = name
cells_name (Item at args) = []

differ : (m n : Node) → same_name (cells_name m) (cells_name n) ≡ false → same_name (cells_name n) (cells_name n) ≡ true → m ≡ n → ⊥
differ m n other same e = let h : same_name (cells_name n) (cells_name n) ≡ false = subst (λ k. same_name (cells_name k) (cells_name n) ≡ false) e other in cc

abbrev pub round : List Node
round = row.main_cell (codes "f") (row.whole 1 ∷ []) ∷ row.main_cell (codes "g") (row.whole 1 ∷ []) ∷ []

pub round_distinct : Distinct round
round_distinct = ((λ h. elim h [ inl e ↦ differ (row.main_cell (codes "g") (row.whole 1 ∷ [])) (row.main_cell (codes "f") (row.whole 1 ∷ [])) refl refl e | inr r ↦ r ]), ((λ h. h), tt))

pub cells_ask_each_other : CellsAskEachOther
cells_ask_each_other = (
  ring_from (model_of asking_round) round (row.main_cell (codes "f") (row.whole 1 ∷ [])) (inl refl) [] (row.main_cell (codes "g") (row.whole 1 ∷ []) ∷ []) refl round_distinct (f_asks, (g_asks, tt)),
  round_lost (model_of asking_round) round (row.main_cell (codes "f") (row.whole 1 ∷ [])) (inl refl) (f_asks, (g_asks, tt)) (row.main_cell (codes "f") (row.whole 1 ∷ [])) (inl refl),
)

pub g_run : RunsTo (key_result mended) (row.main_cell (codes "g") (row.whole 1 ∷ [])) (row.literal_events (row.top (codes "Main")) main (codes "g") (row.whole 1 ∷ [])) (Gives (row.gives (row.whole 7)))
unfolding c3 merge
g_run = static_run (row.whole 1 ∷ []) (one_name (codes "Main")) (top (codes "Main")) refl refl refl (one_bound (codes "n") (pos 1)) lit refl

pub mended_run : RunsTo (key_result mended) (row.main_cell (codes "f") (row.whole 1 ∷ [])) mended_events (Gives (row.gives (row.whole 7)))
unfolding c3 merge
mended_run =
    static_run (row.whole 1 ∷ []) (one_name (codes "Main")) (top (codes "Main")) refl refl refl (one_bound (codes "n") (pos 1))
    (post (name_sought refl (in_source found.CellsHere refl refl cells_here)) (call (more (local refl) none) (call_of_cells (top (codes "Main")) refl one_plain refl (one_bound (codes "n") (pos 1)) (means g_run)) trail_end)) refl

pub mended_ring : MendedRing
mended_ring = mended_run.leads
