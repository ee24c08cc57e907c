use Rattle.std.proofs.Common.{sym}
use Rattle.mx_parse.proofs.DisplayCode.{key_refused, key_taken}
use Rattle.mx_parse.proofs.display.new_key.Goals as goal

pub returns-then-is_wrong_key : goal.returns-then-is_wrong_key
returns-then-is_wrong_key c =
    λ n. key_refused c.args.before.now c.args.tokens.now c.text.new.self c.in_ok-name.name c.left.result c.in_ok-name.ensures (sym c.if-is_wrong_key.ensures) c.left.ensures

pub returns : goal.returns
returns c = key_taken c.args.before.now c.args.tokens.now c.text.new.self c.in_ok-name.name c.in_ok-name.ensures (sym c.if-is_wrong_key.ensures)
