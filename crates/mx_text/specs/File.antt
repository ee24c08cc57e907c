-- The texts of why a file is not read.
use Rattle.std.specs.Prelude.{◌++◌, codes}
use Rattle.mx_value.specs.declared.label.Label.{Label}
use Rattle.mx_print.specs.Texts.{Text}

-- there is none of this name
abbrev pub missing_text : Label → Text
missing_text name = codes "missing " ++ name

-- it has more bytes than a file may have
abbrev pub too_big_text : Label → Text
too_big_text name = codes "too big " ++ name
