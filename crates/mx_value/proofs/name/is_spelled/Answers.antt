use Rattle.std.proofs.Common.{sym, ◌∙◌}
use Rattle.mx_value.proofs.Bytes.{spelled_is}
use Rattle.mx_value.proofs.name.is_spelled.Goals as goal

pub returns-then-is_ascii_alphabetic : goal.returns-then-is_ascii_alphabetic
returns-then-is_ascii_alphabetic c =
    c.are_name_bytes.ensures ∙ spelled_is c.args.bytes.now c.in-len1-up.len_at_least (sym c.is_ascii_alphabetic.ensures.value ∙ c.if-is_ascii_alphabetic.true)
