use Rattle.std.proofs.Common.{◌≡◌, ◌+◌, ℕ, List, subst}
use Rattle.mx_words.specs.declared.table.Asked.TheVariants.{Clear}
use Rattle.mx_script.specs.Commands.{Asks, argument_of, cleared_of, place_behind}
use Rattle.mx_script.proofs.Parted.{behind_named}
use Rattle.mx_script.proofs.command.clear_node.Goals as goal

pub returns : goal.returns
returns c = λ ne.
    let same : c.strip_spaces-source.result.now ≡ cleared_of c.args.text.now = behind_named c.argument-source.result.now (argument_of c.args.text.now) c.name_length-word.result c.argument-source.ensures c.name_length-word.ensures.count c.strip_spaces-source.result.now c.strip_spaces-source.ensures in
    subst (λ (s : List ℕ). Asks Clear (c.args.lead + place_behind c.args.text.now s) s c.asking.result) same
    (subst (λ (n : ℕ). Asks Clear n c.strip_spaces-source.result.now c.asking.result) c.in-Ok.ensures (c.asking.ensures ne))
