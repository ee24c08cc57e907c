use Rattle.std.proofs.Common.{ap}
use Rattle.std.specs.Option.{option_copied}
use Rattle.mx_model.specs.Keys.{table_of}
use Rattle.mx_world.proofs.SameLemmas.{same_tables}
use Rattle.mx_world.proofs.changed.same_table.Goals as goal

pub returns-in-Some-Some : goal.returns-in-Some-Some
returns-in-Some-Some c =
    same_tables c.in-Some-Some.one.now c.in-Some-Some.other.now c.eq.result (table_of (option_copied c.args.one)) (table_of (option_copied c.args.other)) c.eq.ensures (ap (λ o. table_of (option_copied o)) c.in-Some-Some.is-0) (ap (λ o. table_of (option_copied o)) c.in-Some-Some.is-1)
