use Rattle.mx_ops.proofs.Called.{found, named}
use Rattle.mx_ops.proofs.builtin.builtin_laws.Goals as goal

pub returns : goal.returns
returns c = record { found = found; named = named }
