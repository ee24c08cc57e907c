use Rattle.std.proofs.Common.{◌≡◌, ◌++◌, map, take}
use Rattle.mx_syntax.specs.Lists.{flat}
use Rattle.mx_text.specs.Blocks.{read_line}
use Rattle.mx_text.proofs.blocks.push_read_lines.Given as goal

abbrev pub invariant-loop-read : goal.invariant-loop-read
invariant-loop-read l = l.out.items ≡ l.fn.out.items ++ flat (map read_line (take l.read-index l.reads))
