use Rattle.std.proofs.Common.{◌≡◌, ◌∙◌, sym, arith}
use Rattle.mx_outside.specs.Names.{are_parts}
use Rattle.mx_outside.proofs.Names.{name_of_parts, parts_of_name}
use Rattle.mx_outside.proofs.name.is_file_name.Goals as goal

pub returns-then-bytes-le-MOST_BYTES : goal.returns-then-bytes-le-MOST_BYTES
returns-then-bytes-le-MOST_BYTES c =
    let e : c.are_parts.result ≡ are_parts c.args.name.now = rw c.as_bytes-bytes.ensures.value at c.are_parts.ensures in
    (λ t. name_of_parts c.args.name.now (sym e ∙ t) (omega (arith, c.if-bytes-le-MOST_BYTES.true, c.as_bytes-bytes.ensures.len)), λ h. e ∙ parts_of_name c.args.name.now h)
