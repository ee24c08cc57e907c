use Rattle.mx_command_laws.proofs.Formulas.{formulas_are_small, params_are_small}
use Rattle.mx_command_laws.proofs.Nodes.{nodes_are_proper}
use Rattle.mx_command_laws.proofs.sources.laws.Goals as goal

pub returns : goal.returns
returns c = record {
  formulas_are_small = formulas_are_small;
  params_are_small = params_are_small;
  nodes_are_proper = nodes_are_proper;
}
