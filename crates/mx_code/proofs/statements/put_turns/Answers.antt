use Rattle.std.proofs.Common.{◌≡◌, ◌-◌, sym, ap, ◌∙◌, length, reverse, arith, subst}
use Rattle.std.specs.Prelude.{OnOk}
use Rattle.mx_code.proofs.Stacking.{turns_put}
use Rattle.mx_code.proofs.statements.put_turns.Goals as goal

pub returns : goal.returns
returns c =
    subst (λ is. OnOk c.put-3.result (reverse c.put-3.new.code.items ≡ is))
    (turns_put c.args.scope.now c.args.name.now c.args.line c.in-Some.place c.in_ok-back.back c.since-passed.result c.args.body.items c.args.code.now.items c.put-2.new.code.items c.put_block.new.code.items (sym c.in-Some.is ∙ c.place.ensures) c.in_ok-back.ensures c.in_ok-put.ensures c.in_ok-put_block.ensures
    (c.since-passed.ensures ∙ ap (λ n. length c.put_block.new.code.items - n) (omega (arith, c.len-end.ensures))))
    c.put-3.ensures
