use Rattle.std.proofs.Common.{sym, subst}
use Rattle.mx_model.specs.Records.{ModelRecord}
use Rattle.mx_paths.specs.Names.{IsNamed}
use Rattle.mx_prepare.proofs.Named.{names_kept}
use Rattle.mx_prepare.proofs.lines.keep_line.Goals as goal

pub returns : goal.returns
returns c laid named line = (
  c.keep_laid.ensures laid line,
  subst (λ (t : ModelRecord). IsNamed t) (sym c.requires.is) (names_kept c.args.text.now c.args.edit.now named c.requires.free),
)
