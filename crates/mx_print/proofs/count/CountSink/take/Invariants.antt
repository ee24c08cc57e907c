use Rattle.std.proofs.Common.{◌≡◌, ◌++◌, take}
use Rattle.mx_print.proofs.count.CountSink.take.Given as goal

abbrev pub invariant-loop-byte : goal.invariant-loop-byte
invariant-loop-byte l = l.self.text.bytes ≡ l.fn.self.text.bytes ++ take l.byte-index l.bytes
