use Rattle.std.proofs.Common.{◌≡◌, ◌∙◌, [], List, None, ap, sym}
use Rattle.mx_code_law.specs.States.{Slot, state}
use Rattle.mx_code_law.specs.Machine.{on_walk}
use Rattle.mx_stack.specs.Flight.{Flight, on_top}
use Rattle.mx_stack.specs.Walks.{below_way}
use Rattle.mx_stack.proofs.walks.pop_way.Goals as goal

pub returns-in-None-clause-taken : goal.returns-in-None-clause-taken
returns-in-None-clause-taken c = λ go.
    let e : c.args.stack.now.top.stack ≡ [] = c.in-None.ensures.0 in
    ap (λ (xs : List Slot). on_walk xs go) e ∙ ap (λ (xs : List Slot). go None xs) (sym (ap (λ (f : Flight). f.top.stack) c.in-None.ensures.1 ∙ e))

pub returns-in-None-clause-below : goal.returns-in-None-clause-below
returns-in-None-clause-below c =
    let e : c.args.stack.now.top.stack ≡ [] = c.in-None.ensures.0 in
    ap (λ (f : Flight). f.top.stack) c.in-None.ensures.1 ∙ e ∙ sym (ap below_way e)

pub returns-in-None-clause-rest : goal.returns-in-None-clause-rest
returns-in-None-clause-rest c =
    c.in-None.ensures.1
    ∙ ap (λ (f : Flight). on_top (state c.args.stack.now.top.pc f.top.stack c.args.stack.now.top.locals) c.args.stack.now) (sym c.in-None.ensures.1)
