use Rattle.std.proofs.Common.{◌≡◌, ◌++◌, take}
use Rattle.mx_project.specs.Writing.{table_files}
use Rattle.mx_project.proofs.project.push_table_files.Given as goal

abbrev pub invariant-loop-place : goal.invariant-loop-place
invariant-loop-place l = l.all.items ≡ l.fn.all.items ++ table_files (take l.place l.tables)
