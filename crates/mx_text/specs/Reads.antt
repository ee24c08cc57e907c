-- The texts of what a node reads.
use Rattle.std.specs.Prelude.{◌++◌, codes}
use Rattle.mx_value.specs.declared.read.Read.{Read}
use Rattle.mx_value.specs.declared.read.Read.TheVariants as read
use Rattle.mx_print.specs.Texts.{Text}
use Rattle.mx_print.specs.Values.{address_text, node_text}

-- a node that was asked, a reference of a space or of the model, or a table
abbrev pub read_text : Read → Text
read_text (read.Node n) = node_text n
read_text (read.Ref at name) = codes "ref " ++ (address_text at ++ (codes "." ++ name))
read_text (read.Global name) = codes "global " ++ name
read_text (read.Table name) = codes "table " ++ name
