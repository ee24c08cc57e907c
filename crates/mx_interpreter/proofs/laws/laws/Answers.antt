use Rattle.mx_value.specs.Equality.{read_eq}
use Rattle.mx_edit.specs.Equality.{key_eq}
use Rattle.mx_interpreter.proofs.Adding.{adds}
use Rattle.mx_interpreter.proofs.laws.laws.Goals as goal

pub returns-clause-keys : goal.returns-clause-keys
returns-clause-keys c = λ xs x. adds key_eq c.equality_laws.ensures.key x xs

pub returns-clause-reads : goal.returns-clause-reads
returns-clause-reads c = λ xs x. adds read_eq c.equality_laws-2.ensures.read x xs
