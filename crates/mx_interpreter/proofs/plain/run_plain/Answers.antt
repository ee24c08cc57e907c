use Rattle.std.proofs.Common.{sym, subst}
use Rattle.mx_code.specs.declared.code.Instruction.{Instruction}
use Rattle.mx_code.specs.Told.{told_action}
use Rattle.mx_stack.specs.Came.{Came}
use Rattle.mx_interpreter.proofs.plain.run_plain.Goals as goal

pub returns-in-Const-clause-came : goal.returns-in-Const-clause-came
returns-in-Const-clause-came c =
    subst (λ (i : Instruction). Came (told_action c.args.code.now.constants c.args.code.now.names i) c.constant.result c.args.stack.now.top c.constant.new.stack.top) (sym c.in-Const.is) c.constant.ensures.came

pub returns-in-IsNone-clause-came : goal.returns-in-IsNone-clause-came
returns-in-IsNone-clause-came c =
    subst (λ (i : Instruction). Came (told_action c.args.code.now.constants c.args.code.now.names i) c.none_last.result c.args.stack.now.top c.none_last.new.stack.top) (sym c.in-IsNone.is) c.none_last.ensures.came

pub returns-in-ChainNone-clause-came : goal.returns-in-ChainNone-clause-came
returns-in-ChainNone-clause-came c =
    subst (λ (i : Instruction). Came (told_action c.args.code.now.constants c.args.code.now.names i) c.none_on.result c.args.stack.now.top c.none_on.new.stack.top) (sym c.in-ChainNone.is) c.none_on.ensures.came

pub returns-in-Jump-clause-came : goal.returns-in-Jump-clause-came
returns-in-Jump-clause-came c =
    subst (λ (i : Instruction). Came (told_action c.args.code.now.constants c.args.code.now.names i) c.jump.result c.args.stack.now.top c.jump.new.stack.top) (sym c.in-Jump.is) c.jump.ensures.came

pub returns-in-Pop-clause-came : goal.returns-in-Pop-clause-came
returns-in-Pop-clause-came c =
    subst (λ (i : Instruction). Came (told_action c.args.code.now.constants c.args.code.now.names i) c.drop_value.result c.args.stack.now.top c.drop_value.new.stack.top) (sym c.in-Pop.is) c.drop_value.ensures.came

pub returns-in-Store-clause-came : goal.returns-in-Store-clause-came
returns-in-Store-clause-came c =
    subst (λ (i : Instruction). Came (told_action c.args.code.now.constants c.args.code.now.names i) c.store.result c.args.stack.now.top c.store.new.stack.top) (sym c.in-Store.is) c.store.ensures.came

pub returns-in-Gather-clause-came : goal.returns-in-Gather-clause-came
returns-in-Gather-clause-came c =
    subst (λ (i : Instruction). Came (told_action c.args.code.now.constants c.args.code.now.names i) c.gather.result c.args.stack.now.top c.gather.new.stack.top) (sym c.in-Gather.is) c.gather.ensures.came

pub returns-in-NextItem-clause-came : goal.returns-in-NextItem-clause-came
returns-in-NextItem-clause-came c =
    subst (λ (i : Instruction). Came (told_action c.args.code.now.constants c.args.code.now.names i) c.next_item.result c.args.stack.now.top c.next_item.new.stack.top) (sym c.in-NextItem.is) c.next_item.ensures.came

pub returns-in-Back-clause-came : goal.returns-in-Back-clause-came
returns-in-Back-clause-came c =
    subst (λ (i : Instruction). Came (told_action c.args.code.now.constants c.args.code.now.names i) c.jump_back.result c.args.stack.now.top c.jump_back.new.stack.top) (sym c.in-Back.is) c.jump_back.ensures.came

pub returns-in-Display-clause-came : goal.returns-in-Display-clause-came
returns-in-Display-clause-came c =
    subst (λ (i : Instruction). Came (told_action c.args.code.now.constants c.args.code.now.names i) c.display.result c.args.stack.now.top c.display.new.stack.top) (sym c.in-Display.is) c.display.ensures.came

pub returns-in-Refer-clause-came : goal.returns-in-Refer-clause-came
returns-in-Refer-clause-came c =
    subst (λ (i : Instruction). Came (told_action c.args.code.now.constants c.args.code.now.names i) c.refer.result c.args.stack.now.top c.refer.new.stack.top) (sym c.in-Refer.is) c.refer.ensures.came

pub returns-in-Base-clause-came : goal.returns-in-Base-clause-came
returns-in-Base-clause-came c =
    subst (λ (i : Instruction). Came (told_action c.args.code.now.constants c.args.code.now.names i) c.set_base.result c.args.stack.now.top c.set_base.new.stack.top) (sym c.in-Base.is) c.set_base.ensures.came
