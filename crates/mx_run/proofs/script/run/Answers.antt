use Rattle.std.proofs.Common.{refl, arith}
use Rattle.mx_run.proofs.CountLemmas.{none_failed, none_fell}
use Rattle.mx_run.proofs.EndsLemmas.{nothing_traded}
use Rattle.mx_run.proofs.script.run.Goals as goal

pub returns-in_default : goal.returns-in_default
returns-in_default g c = record {
  output = nothing_traded _ (g.F.Files.held c.args.files.now) _ _ _;
  cause = tt;
  later = record { script = omega arith; others = none_fell _ _ (none_failed _) };
  files = refl;
}
