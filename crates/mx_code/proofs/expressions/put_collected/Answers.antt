use Rattle.std.proofs.Common.{◌≡◌, ◌-◌, ap, ◌∙◌, length, reverse, arith, subst}
use Rattle.std.specs.Prelude.{OnOk}
use Rattle.mx_code.specs.declared.action.Action.TheVariants.{Collect}
use Rattle.mx_code.proofs.Putting.{rounds_put}
use Rattle.mx_code.proofs.expressions.put_collected.Goals as goal

pub returns : goal.returns
returns c =
    subst (λ is. OnOk c.put-2.result (reverse c.put-2.new.code.items ≡ is))
    (rounds_put c.args.line c.args.place c.in_ok-back.back c.since-passed.result Collect c.args.item.items c.args.code.now.items c.put.new.code.items c.put_block.new.code.items c.in_ok-back.ensures c.in_ok-put.ensures c.in_ok-put_block.ensures
    (c.since-passed.ensures ∙ ap (λ n. length c.put_block.new.code.items - n) (omega (arith, c.len-end.ensures))))
    c.put-2.ensures
