use Rattle.std.proofs.Common.{◌≡◌, ◌++◌, take}
use Rattle.mx_text.specs.Edit.{path_text}
use Rattle.mx_text.proofs.edit.push_path.Given as goal

abbrev pub invariant-loop-i : goal.invariant-loop-i
invariant-loop-i l = l.out.items ≡ l.fn.out.items ++ path_text (take l.i l.names)
