use Rattle.mx_outside.proofs.Names.{utf8_name}
use Rattle.mx_script.proofs.argument.names_file.Goals as goal

pub returns-in-Err : goal.returns-in-Err
returns-in-Err c = (λ t. absurd cc, λ h. absurd (c.in-Err.ensures.cases.0 (utf8_name c.args.bytes.now h)))
