use Rattle.mx_paths.proofs.KeptLemmas.{layers_stay, table_stays, walk_stays}
use Rattle.mx_paths.proofs.laws.sharing_laws.Goals as goal

pub returns : goal.returns
returns c = record { layers = layers_stay; table = table_stays; walk = walk_stays }
