use Rattle.std.proofs.Common.{◌≡◌, ◌++◌, map, take}
use Rattle.std.specs.List.{concat}
use Rattle.mx_print.specs.Values.{escaped}
use Rattle.mx_print.proofs.nodes.push_escaped.Given as goal

abbrev pub invariant-loop-byte : goal.invariant-loop-byte
invariant-loop-byte g l = g.S.Sink.written l.out ≡ g.S.Sink.written l.fn.out ++ concat (map escaped (take l.byte-index l.text))
