use Rattle.mx_project.proofs.Faults.{faults_leave_known}
use Rattle.mx_project.proofs.laws.write_laws.Goals as goal

pub returns : goal.returns
returns c = faults_leave_known
