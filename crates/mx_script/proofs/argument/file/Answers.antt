use Rattle.std.proofs.Common.{◌≡◌, true, rules}
use Rattle.std.proofs.lemmas.List.Sums.{AllPass-from_list_all}
use Rattle.mx_value.specs.Label.{is_printable}
use Rattle.mx_outside.proofs.Names.{printable_name}
use Rattle.mx_script.proofs.argument.file.Goals as goal

pub label-requires : goal.label-requires
label-requires c =
    let named : c.names_file.result ≡ true = search rules in
    AllPass-from_list_all is_printable c.strip_end-name.result.now (printable_name c.strip_end-name.result.now (c.names_file.ensures.0 named))
