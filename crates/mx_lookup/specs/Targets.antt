-- What a target stands for, as the meaning has it.
use Rattle.mx_meaning.specs.References.{Target as Meant}
use Rattle.mx_lookup.specs.declared.targets.Target.{Target}

abbrev pub target_meant : Target → Meant
target_meant t = record { at = t.at; path = t.path }
