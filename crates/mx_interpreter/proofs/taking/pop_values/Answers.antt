use Rattle.std.proofs.Common.{◌≡◌, ◌∙◌, ◌∷◌, ◌++◌, [], List, reverse, ap, sym}
use Rattle.std.proofs.lemmas.List.{reverse-append}
use Rattle.mx_value.specs.declared.value.Value.{Value}
use Rattle.mx_code_law.specs.States.{Holds}
use Rattle.mx_stack.specs.Flight.{Flight, on_top}
use Rattle.mx_stack.proofs.Taken.{one_more}
use Rattle.mx_interpreter.specs.Values.{with_values}
use Rattle.mx_interpreter.proofs.taking.pop_values.Goals as goal

pub loop-preserved : goal.loop-preserved
loop-preserved c =
    let e : c.loop.stack.top.stack ≡ Holds c.in_ok-pop_value.field-0 ∷ c.pop_value.new.stack.top.stack = ap (λ (f : Flight). f.top.stack) c.in_ok-pop_value.ensures in
    let is : c.push.new.self.items ≡ c.loop.values.items ++ c.in_ok-pop_value.field-0 ∷ [] = c.in_ok-push.ensures.items in
    let turned : c.in_ok-pop_value.field-0 ∷ reverse c.loop.values.items ≡ reverse c.push.new.self.items = sym (ap reverse is ∙ reverse-append c.loop.values.items (c.in_ok-pop_value.field-0 ∷ [])) in
    record {
      taken = λ go. c.loop.invariant.taken go ∙ one_more c.args.count c.loop.counter c.loop.values.items c.push.new.self.items c.in_ok-pop_value.field-0 c.loop.stack.top.stack c.pop_value.new.stack.top.stack go c.loop-test.true e is;
      stood =
          c.loop.invariant.stood
          ∙ ap (λ (f : Flight). on_top (with_values (reverse c.loop.values.items) f.top) f) c.in_ok-pop_value.ensures
          ∙ ap (λ (vs : List Value). on_top (with_values vs c.pop_value.new.stack.top) c.pop_value.new.stack) turned;
    }
