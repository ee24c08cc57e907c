-- How many runs an evaluation began is told by what is held.
use Rattle.std.proofs.Common.{◌≡◌, ℕ, ◌+◌, ◌-◌, length, Ok, ap, ◌∙◌, arith}
use Rattle.mx_value.specs.declared.node.Node.{Node}
use Rattle.mx_value.specs.declared.value.Value.{Value}
use Rattle.mx_print.specs.Texts.{Text}
use Rattle.mx_text.specs.Blocks.{eval_block}
use Rattle.mx_state.specs.Laws.{ValueTicks}
use Rattle.mx_state.specs.State.{State}
use Rattle.mx_state.specs.Evaluations.{Evaluates}
use Rattle.mx_commands.specs.Step.{TellsValue}

-- the block of a value tells how many nodes are newly held
pub tells_value : ValueTicks → (s t : State) (n : Node) (v : Value) (ticks : ℕ) → Evaluates s n (Ok v) ticks t
    → (before after runs : ℕ) → before ≡ length s.held → after ≡ length t.held → runs ≡ after - before
    → (block : Text) → block ≡ eval_block (Ok v) runs → TellsValue s n block t
tells_value law s t n v ticks x before after runs b a r block told =
    let sum : ticks + length s.held ≡ length t.held = law s t n v ticks x in
    let same : runs ≡ ticks = omega (arith, sum, b, a, r) in
    record { answer = Ok v; ticks = ticks; evaluates = x; memory = λ e. absurd cc; text = told ∙ ap (λ (k : ℕ). eval_block (Ok v) k) same }
