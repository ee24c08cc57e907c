-- What a call and a subscript come to past their look-ups.
use Rattle.std.proofs.Common.{◌≡◌, ℕ, List, Result, Ok, Err, IfOk, sym, ◌∙◌, ap, subst}
use Rattle.std.specs.declared.alloc.AllocError.{AllocError}
use Rattle.mx_value.specs.declared.value.Value.{Value}
use Rattle.mx_value.specs.declared.value.Segment.{Segment}
use Rattle.mx_value.specs.declared.value.CellsAt.{CellsAt, out-CellsAt}
use Rattle.mx_value.specs.declared.namespace.Namespace.{Namespace}
use Rattle.mx_value.specs.declared.fault.FaultKind.{FaultKind}
use Rattle.mx_syntax.specs.declared.stmt.Param.{Param}
use Rattle.mx_edit.specs.declared.key.Key.TheVariants as key
use Rattle.mx_ops.specs.declared.op.OpRefusal.{OpRefusal}
use Rattle.mx_ops.specs.declared.op.OpRefusal.TheVariants as refusal
use Rattle.mx_code_law.specs.States.{State, Home, Next, Look as Looks, Fault}
use Rattle.mx_code_law.specs.Finding.{Again, Place, walked_next}
use Rattle.mx_code_law.specs.Calling.{arguments_next, cells_asked_next, cells_called_next, space_called_next, space_sought_next}
use Rattle.mx_stack.specs.Came.{Continues}
use Rattle.mx_read_set.specs.Seen.{Seen}
use Rattle.mx_read_set.specs.Passed.{passed}
use Rattle.mx_walks.specs.Ways.{Look, Leading, walked_way, leading_next, told}
use Rattle.mx_walks.specs.Calls.{Coming, Comes}
use Rattle.mx_walks.specs.declared.called.Called.{Called}
use Rattle.mx_walks.specs.declared.walks.Walked.{Walked}
use Rattle.mx_walks.proofs.Leading.{instruction_walks}

-- ---- from one to another

-- what comes of two instructions is the same, past what the first looks up
abbrev pub Same : Look → Coming → Seen → Coming → Seen → Type 0
Same look one old other new =
    (h : Home) (line : ℕ) (again : Again) (to : Value → State) → passed look (one h line again to) old ≡ passed look (other h line again to) new

pub comes_on : (look : Look) (one other : Coming) (old seen new : Seen) (r : Result Called AllocError) → Same look one old other seen → IfOk r (λ called. Comes look other called seen new) → IfOk r (λ called. Comes look one called old new)
comes_on look one other old seen new (Ok called) same k = λ h line again to. same h line again to ∙ k h line again to
comes_on look one other old seen new (Err e) same k = tt

-- ---- walks

-- what comes of a walk, by where it leads
pub walk_leads : (look : Look) (place : Place) (at : List Segment) (l : Leading) → l ≡ walked_way look place at → (again : Again) (to : Namespace → Next) (seen : Seen) → passed look (walked_next place at again to) seen ≡ passed look (leading_next l again to) seen
walk_leads look place at l e again to seen = instruction_walks look place at again to seen ∙ ap (λ (x : Leading). passed look (leading_next x again to) seen) (sym e)

-- what comes of a call of cells, by where its walk leads
pub cells_lead : (look : Look) (place : Place) (cells : CellsAt) (args : List Value) (w : Walked) (l : Leading) (seen : Seen) → told w ≡ walked_way look place (out-CellsAt cells).space → told w ≡ l
    → Same look (λ h line again to. cells_called_next h place cells args line again to) seen
    (λ h line again to. leading_next l again (λ ns. Looks (key.Cells ns.source (out-CellsAt cells).name) (cells_asked_next h ns (out-CellsAt cells).name args line to))) seen
cells_lead look place cells args w l seen e i = λ h line again to.
    walk_leads look place (out-CellsAt cells).space l (sym i ∙ e) again (λ ns. Looks (key.Cells ns.source (out-CellsAt cells).name) (cells_asked_next h ns (out-CellsAt cells).name args line to)) seen

-- and of a space
pub space_leads : (look : Look) (place : Place) (at : List Segment) (args : List Value) (w : Walked) (l : Leading) (seen : Seen) → told w ≡ walked_way look place at → told w ≡ l
    → Same look (λ h line again to. space_called_next h place at args line again to) seen (λ h line again to. leading_next l again (space_sought_next h args line to)) seen
space_leads look place at args w l seen e i = λ h line again to. walk_leads look place at l (sym i ∙ e) again (space_sought_next h args line to) seen

-- ---- arguments

-- arguments that do not bind
pub refused : (params : List Param) (args : List Value) (e : OpRefusal) (kind : FaultKind) → e ≡ refusal.Fault kind
    → ((h : Home) (line : ℕ) (to : List Value → Next) → Continues {X = List Value} (Err e) h line to (arguments_next h params args line to))
    → (h : Home) (line : ℕ) (to : List Value → Next) → arguments_next h params args line to ≡ Fault h kind line
refused params args e kind same k h line to =
    let P : OpRefusal → Type 0 = λ r. Continues {X = List Value} (Err r) h line to (arguments_next h params args line to) in
    subst P same (k h line to)
