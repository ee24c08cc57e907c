-- How the code of a formula begins, with its arguments as its first locals.
use Rattle.std.specs.Prelude.{◌≡◌, ℕ, Bool, true, false, List, [], length}
use Rattle.mx_value.specs.declared.value.Value.{Value}
use Rattle.mx_syntax.specs.declared.stmt.Param.{Param}
use Rattle.mx_syntax.specs.declared.stmt.Stmt.{Stmt}
use Rattle.mx_syntax.specs.Binding.{bound, is_wrong_count}
use Rattle.mx_code.specs.Statements.{size_of}
use Rattle.mx_code_law.specs.States.{state}
use Rattle.mx_code_law.specs.Laws.{begun}
use Rattle.mx_stack.specs.Flight.{Flight, idle, on_top}

-- where no code of the run on top has begun, it stands at the first instruction of its code, with these first locals
abbrev pub Enters : ℕ → List Value → Flight → Flight → Type 0
Enters size full before after = before.top ≡ idle → after ≡ on_top (state 0 [] (begun size full)) before

-- it does where the arguments bind, with what they bind to, and not where they do not
abbrev pub Begins : List Param → List Stmt → List Value → Bool → Flight → Flight → Type 0
Begins params body args true before after =
    (is_wrong_count params (length args) ≡ false) × Enters (size_of params body) (bound params args) before after
Begins params body args false before after = (is_wrong_count params (length args) ≡ true) × (after ≡ before)
