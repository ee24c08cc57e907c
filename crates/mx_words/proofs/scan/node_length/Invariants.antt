use Rattle.std.proofs.Common.{◌≡◌, ◌+◌, ◌≤◌, drop}
use Rattle.mx_words.specs.Texts.{node_from, node_length, depth_of}
use Rattle.mx_words.proofs.scan.node_length.Given as goal

abbrev pub invariant-loop-byte : goal.invariant-loop-byte
invariant-loop-byte l = (l.count ≡ l.byte-index) × (depth_of l.scan ≤ l.byte-index) × (l.count + node_from l.scan (drop l.byte-index l.source) ≡ node_length l.source)
