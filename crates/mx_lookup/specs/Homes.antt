-- Where a formula runs, as the machine of the law has it.
use Rattle.mx_code_law.specs.States as law
use Rattle.mx_lookup.specs.declared.home.Home.{Home}
use Rattle.mx_lookup.specs.declared.home.Work.{Work}
use Rattle.mx_lookup.specs.declared.home.Work.TheVariants as work

abbrev pub work_of : Work → law.Work
work_of (work.Cells allow) = law.OfCells allow
work_of (work.Item arguments given) = law.OfItem arguments given

abbrev pub home_of : Home → law.Home
home_of h = record { node = h.node; space = h.space; work = work_of h.work }
