use Rattle.std.proofs.Common.{◌≡◌, ◌∙◌, ◌∷◌, ◌++◌, [], ap}
use Rattle.mx_code_law.specs.States.{Holds}
use Rattle.mx_stack.specs.Flight.{Flight}
use Rattle.mx_stack.proofs.Taken.{kept, one_more}
use Rattle.mx_stack.proofs.taking.pop_values.Goals as goal

pub loop-preserved : goal.loop-preserved
loop-preserved c =
    let e : c.loop.stack.top.stack ≡ Holds c.in_ok-pop_value.field-0 ∷ c.pop_value.new.stack.top.stack = ap (λ (f : Flight). f.top.stack) c.in_ok-pop_value.ensures in
    let is : c.push.new.self.items ≡ c.loop.values.items ++ c.in_ok-pop_value.field-0 ∷ [] = c.in_ok-push.ensures.items in
    record {
      taken = λ go. c.loop.invariant.taken go ∙ one_more c.args.count c.loop.counter c.loop.values.items c.push.new.self.items c.in_ok-pop_value.field-0 c.loop.stack.top.stack c.pop_value.new.stack.top.stack go c.loop-test.true e is;
      rest = kept c.args.stack.now c.loop.stack c.pop_value.new.stack (Holds c.in_ok-pop_value.field-0) c.loop.invariant.rest c.in_ok-pop_value.ensures;
    }
