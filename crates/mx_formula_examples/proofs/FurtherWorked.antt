-- The further worked examples, by the rules.
use Rattle.std.proofs.Common.{◌≡◌, ℤ, pos, List, [], ◌∷◌, inl, inr, refl, ◌∙◌, ap, Ok, Bool, true, false, ◌&&◌, if◌then◌else◌, rules}
use Rattle.std.specs.Prelude.{codes}
use Rattle.mx_value.specs.Name.{same_name}
use Rattle.std.specs.List.{list_all}
use Rattle.mx_value.specs.Plain.{is_plain}
use Rattle.mx_value.proofs.Normals.{normal-Fix}
use Rattle.mx_value.specs.declared.label.Label.{Label}
use Rattle.mx_value.specs.declared.value.Value.{Value, out-Value, the_lemmas as values}
use Rattle.mx_value.specs.declared.value.Value.TheVariants.{Int, Fix, Flag}
use Rattle.mx_value.specs.declared.value.Segment.TheOpen.{Value-F}
use Rattle.mx_value.specs.declared.value.Segment.TheVariants as segment
use Rattle.mx_value.specs.declared.namespace.Namespace.{Namespace}
use Rattle.mx_value.specs.declared.node.Node.{Node}
use Rattle.mx_value.specs.declared.node.Node.TheVariants.{Cell, Item}
use Rattle.mx_edit.specs.declared.key.Key.TheVariants as key
use Rattle.mx_edit.specs.declared.key.KeyResult.TheVariants as found
use Rattle.mx_ops.specs.Truth.{truth, truth_in}
use Rattle.mx_runs.specs.Lists.{Distinct}
use Rattle.mx_runs.specs.Runs.{Run, Ends, Tests, Asks, NoSuch, Gives, Event, Tested, Asked}
use Rattle.mx_runs.specs.Meaning.{Means, Leads}
use Rattle.mx_runs.specs.Chains.{DoesAsk}
use Rattle.mx_meaning.specs.Namespaces.{Step, root, child}
use Rattle.mx_meaning.specs.Walks.{entered, item_entered, stepped, walked_from, walked}
use Rattle.mx_meaning.specs.Binding.{binding, cell_bound}
use Rattle.mx_meaning.specs.Laws.{model_of}
use Rattle.mx_formula_examples.specs.Rows as row
use Rattle.mx_formula_examples.specs.FurtherRows as further
use Rattle.mx_meaning.proofs.Walking.{out_name, out_item}
use Rattle.mx_formula_examples.proofs.Equations.{plain_int}
use Rattle.mx_formula_examples.proofs.Rules.{from, top, below, lit, local, in_source, name_sought, plain_reference, target_reference, cells_here, product, times, joined_end, joined_more, post, attribute_of, call, none, more, trail_end, call_of_cells}
use Rattle.mx_formula_examples.proofs.NodeRules.{RunsTo, means, static_run}
use Rattle.mx_formula_examples.proofs.FormRules.{choice, arm_taken, cells_target, name_missing, post_first, post_turns, call_asks, index_asks, static_asks, static_fault, item_asks}
use Rattle.mx_formula_examples.proofs.Rounds.{AskRound, round_means_nothing, round_is_ring}
use Rattle.mx_formula_examples.proofs.Worked.{ends, one_name, two_names, one_bound, small, hiding_item}

-- ---- rings

pub one_plain : (n : ℤ) → list_all is_plain (Int n ∷ []) ≡ true
one_plain n = ap (λ (b : Bool). b && true) (plain_int n)

f_asks_g : DoesAsk (model_of further.circle) (further.at_1 row.f) (further.at_1 further.g)
f_asks_g =
    static_asks (Int (pos 1) ∷ []) (one_name (codes "Main")) (top (codes "Main")) refl refl refl (one_bound further.n (pos 1))
    (post_turns (name_sought refl (in_source found.CellsHere refl refl cells_here)) (call_asks (more (local refl) none) (top (codes "Main")) refl (one_plain (pos 1)) refl (one_bound further.n (pos 1))))

g_asks_f : DoesAsk (model_of further.circle) (further.at_1 further.g) (further.at_1 row.f)
g_asks_f =
    static_asks (Int (pos 1) ∷ []) (one_name (codes "Main")) (top (codes "Main")) refl refl refl (one_bound further.n (pos 1))
    (post_turns (name_sought refl (in_source found.CellsHere refl refl cells_here)) (call_asks (more (local refl) none) (top (codes "Main")) refl (one_plain (pos 1)) refl (one_bound further.n (pos 1))))

circle_round : AskRound (model_of further.circle) (further.at_1 row.f ∷ further.at_1 further.g ∷ []) (further.at_1 row.f)
circle_round = (f_asks_g, (g_asks_f, tt))

name_of : Node → Label
name_of (Cell at name args) = name
name_of (Item at args) = []

f_is_not_g : further.at_1 further.g ≡ further.at_1 row.f → ⊥
unfolding name_of
f_is_not_g e = let h : false ≡ true = ap (λ m. same_name (name_of m) row.f) e in absurd (cc)

circle_distinct : Distinct (further.at_1 row.f ∷ further.at_1 further.g ∷ [])
circle_distinct = (λ h. elim h [ inl e ↦ f_is_not_g e | inr z ↦ z ], (λ h. h, tt))

pub circle_ring : further.Circle
circle_ring = round_is_ring (model_of further.circle) (further.at_1 row.f) (further.at_1 further.g ∷ []) circle_round circle_distinct

pub circle_nothing : further.CircleMeansNothing
circle_nothing = round_means_nothing (model_of further.circle) (further.at_1 row.f) (further.at_1 further.g ∷ []) circle_round (further.at_1 row.f) (inl refl)

mended_g : Means (model_of further.mended) (further.at_1 further.g) (Gives (row.whole 7))
mended_g = means (static_run (Int (pos 1) ∷ []) (one_name (codes "Main")) (top (codes "Main")) refl refl refl (one_bound further.n (pos 1)) lit refl)

pub mended_means : further.Mended
mended_means =
    means (static_run (Int (pos 1) ∷ []) (one_name (codes "Main")) (top (codes "Main")) refl refl refl (one_bound further.n (pos 1))
    (post (name_sought refl (in_source found.CellsHere refl refl cells_here)) (call (more (local refl) none) (call_of_cells (top (codes "Main")) refl (one_plain (pos 1)) refl (one_bound further.n (pos 1)) mended_g) trail_end)) refl)

-- ---- an item that asks for itself

item_round : AskRound (model_of further.item_circle) (further.s_at_1 ∷ []) further.s_at_1
item_round = (
  item_asks [] [] (Int (pos 1) ∷ []) (top (codes "S")) (ends (codes "S")) refl refl (one_bound row.x (pos 1)) (small (codes "S") (pos 1))
      (post_turns (name_sought refl (in_source _ refl refl (target_reference (record { at = (child (codes "S") root).at; path = row.space_s }) refl refl refl)))
      (index_asks (more (local refl) none) (top (codes "S")) (ends (codes "S")) refl (one_plain (pos 1)) refl (one_bound row.x (pos 1)) (small (codes "S") (pos 1)))),
  tt,
)

pub item_ring : further.ItemCircle
item_ring = round_is_ring (model_of further.item_circle) further.s_at_1 [] item_round (λ h. h, tt)

-- ---- a choice

truth_true : truth (Flag true) ≡ Ok true
truth_true = ap truth_in flag_in
  where
    flag_in : out-Value (Flag true) ≡ Value-F.Flag true
    flag_in = search (values, rules)

chosen_a : Means (model_of further.choosing) (row.cell further.main further.a) (Gives (row.whole 1))
chosen_a = means (static_run [] (one_name (codes "Main")) (top (codes "Main")) refl refl refl refl lit refl)

chosen_run : RunsTo further.choosing (row.cell further.main row.c) further.chosen_events (Gives (row.whole 1))
chosen_run =
    static_run [] (one_name (codes "Main")) (top (codes "Main")) refl refl refl refl
    (choice (arm_taken _ _ (name_sought refl (in_source _ refl refl plain_reference)) truth_true
    (post (name_sought refl (in_source found.CellsHere refl refl cells_here)) (call none (call_of_cells (top (codes "Main")) refl refl refl refl chosen_a) trail_end)))) refl

pub chosen : further.Chosen
chosen = chosen_run.leads

-- ---- a target that is taken over

home_v : Means (model_of further.taking_over) (row.cell (child (codes "B") (child (codes "A") root)).at row.v) (Gives (row.whole 1))
home_v = means (static_run [] (two_names (codes "A") (codes "B")) (below (codes "B") (top (codes "A")) refl) refl refl refl refl lit refl)

over_v : Means (model_of further.taking_over) (row.cell (child (codes "B") (child (codes "S") root)).at row.v) (Gives (row.whole 2))
over_v = means (static_run [] (two_names (codes "S") (codes "B")) (below (codes "B") (top (codes "S")) refl) refl refl refl refl lit refl)

pub target_at_home : further.TargetAtHome
target_at_home =
    means (static_run [] (one_name (codes "A")) (top (codes "A")) refl refl refl refl
    (product _ (post (name_sought refl (in_source _ refl refl (target_reference (record { at = (child (codes "B") (child (codes "A") root)).at; path = further.space_ab }) refl refl refl)))
    (attribute_of (below (codes "B") (top (codes "A")) refl) (in_source found.CellsHere refl refl cells_here) (call none (call_of_cells (below (codes "B") (top (codes "A")) refl) refl refl refl refl home_v) trail_end)))
    (times _ _ (joined_more _ _ lit refl joined_end))) refl)

pub target_taken_over : further.TargetTakenOver
target_taken_over =
    means (static_run [] (one_name (codes "S")) (top (codes "S")) refl refl refl refl
    (product _ (post (name_sought refl (in_source _ refl refl (target_reference (record { at = (child (codes "B") (child (codes "S") root)).at; path = further.space_sb }) refl refl refl)))
    (attribute_of (below (codes "B") (top (codes "S")) refl) (in_source found.CellsHere refl refl cells_here) (call none (call_of_cells (below (codes "B") (top (codes "S")) refl) refl refl refl refl over_v) trail_end)))
    (times _ _ (joined_more _ _ lit refl joined_end))) refl)

-- ---- a target that is cells

pub no_name_found : further.NoNameFound
no_name_found =
    static_fault [] (two_names (codes "A") (codes "B")) (below (codes "B") (top (codes "A")) refl) refl refl refl refl (post_first _ (name_missing refl refl refl refl refl))

abbrev references : List row.Member
references = row.target_reference further.space_ab row.k (codes "A" ∷ row.k ∷ []) true ∷ []

targeted_k : Means (model_of (further.targeting references)) (row.cell (child (codes "A") root).at row.k) (Gives (row.whole 2))
targeted_k = means (static_run [] (one_name (codes "A")) (top (codes "A")) refl refl refl refl lit refl)

pub cells_targeted : further.CellsTargeted
cells_targeted =
    means (static_run [] (two_names (codes "A") (codes "B")) (below (codes "B") (top (codes "A")) refl) refl refl refl refl
    (post (name_sought refl (in_source _ refl refl (cells_target (record { at = segment.Name (codes "A") ∷ segment.Name row.k ∷ []; path = codes "A" ∷ row.k ∷ [] }) row.k refl refl refl refl refl)))
    (call none (call_of_cells (top (codes "A")) refl refl refl refl targeted_k) trail_end)) refl)

-- ---- arguments of an item are bound

abbrev two : List Value
two = Fix (pos 2000000000) ∷ []

abbrev item_two : Node
item_two = Item (row.named (codes "S") ∷ []) (Int (pos 2) ∷ [])

-- the walk of S[2.0] asks S[2]
enters_two : (go : Namespace → Run) → item_entered (child (codes "S") root) two go (row.hiding (key.Params row.space_s)) ≡ Asks item_two (λ r. entered r.namespace go)
enters_two go = ap (λ (v : Value). Asks (Item (row.named (codes "S") ∷ []) (v ∷ [])) (λ r. entered r.namespace go)) (normal-Fix (pos 2000000000))

walk_two : (go : Namespace → Run) → walked (row.named (codes "S") ∷ segment.Item two ∷ []) go ≡ Tests (key.Params row.space_s) (item_entered (child (codes "S") root) two go)
walk_two go =
    ap (λ (s : Step). stepped s root (λ next. walked_from (segment.Item two ∷ []) next go)) (out_name (codes "S"))
    ∙ ap (λ (s : Step). stepped s (child (codes "S") root) go) (out_item two)
    ∙ ap (λ (b : Bool). if b then Tests (key.Params row.space_s) (item_entered (child (codes "S") root) two go) else Ends NoSuch) (ends (codes "S"))

abbrev bound_events : List Event
bound_events = Tested (key.Params row.space_s) ∷ Asked item_two row.item_reply ∷ Tested (key.Cells row.space_s row.c) ∷ []

two_leads : (go : Node → Run) → Leads (model_of row.hiding) (binding (row.cell (row.named (codes "S") ∷ segment.Item two ∷ []) row.c) go) bound_events (go (row.cell (row.s_item 2) row.c))
two_leads go =
    let on : Namespace → Run = λ ns. Tests (key.Cells ns.source row.c) (cell_bound ns row.c [] go) in
    from row.hiding _ (Tests (key.Params row.space_s) (item_entered (child (codes "S") root) two on)) (go (row.cell (row.s_item 2) row.c)) bound_events (walk_two on) (
      refl,
      from row.hiding _ (Asks item_two (λ r. entered r.namespace on)) (go (row.cell (row.s_item 2) row.c)) (Asked item_two row.item_reply ∷ Tested (key.Cells row.space_s row.c) ∷ []) (enters_two on)
          (refl, means hiding_item, (refl, refl)),
    )

pub item_is_bound : further.ItemIsBound
item_is_bound = record { events = bound_events; leads = two_leads }
