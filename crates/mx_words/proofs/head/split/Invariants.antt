use Rattle.std.proofs.Common.{◌≡◌, ◌++◌}
use Rattle.mx_words.specs.Heads.{target_of}
use Rattle.mx_words.proofs.head.split.Given as goal

abbrev pub invariant-loop-next : goal.invariant-loop-next
invariant-loop-next l = (l.path.items ++ (target_of l.name l.next-iterator.rest.items).path ≡ (target_of l.fn.name l.fn.further).path) × ((target_of l.name l.next-iterator.rest.items).name ≡ (target_of l.fn.name l.fn.further).name)
