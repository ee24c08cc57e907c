use Rattle.std.proofs.Common.{◌≡◌, ◌++◌, map, take}
use Rattle.mx_print.specs.Texts.{commas}
use Rattle.mx_print.specs.Values.{address_of, value_text, segment_text}
use Rattle.mx_print.proofs.nodes.+text.Given as goal

abbrev pub invariant-push_commas-loop-i : goal.invariant-push_commas-loop-i
invariant-push_commas-loop-i g l = g.S.Sink.written l.out ≡ g.S.Sink.written l.fn.out ++ commas (map value_text (take l.i l.items))

abbrev pub invariant-push_address-loop-i : goal.invariant-push_address-loop-i
invariant-push_address-loop-i g l = g.S.Sink.written l.out ≡ g.S.Sink.written l.fn.out ++ address_of (map segment_text (take l.i l.at))
