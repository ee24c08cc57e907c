use Rattle.std.proofs.Common.{◌≡◌, ◌++◌, map, take}
use Rattle.mx_print.specs.Texts.{commas}
use Rattle.mx_text.specs.Edit.{path_text}
use Rattle.mx_project.proofs.lines.push_paths.Given as goal

abbrev pub invariant-loop-i : goal.invariant-loop-i
invariant-loop-i l = l.out.items ≡ l.fn.out.items ++ commas (map path_text (take l.i l.paths))
