use Rattle.std.proofs.Common.{◌∙◌, ap, subst}
use Rattle.mx_words.specs.declared.table.Clearing.{Clearing}
use Rattle.mx_script.specs.Commands.{argument_of, clearing_of, ClearsBy}
use Rattle.mx_script.proofs.Parted.{begins_named}
use Rattle.mx_script.proofs.command.clear.Goals as goal

pub returns-in-All : goal.returns-in-All
returns-in-All c = λ ne. subst (λ (k : Clearing). ClearsBy k c.args.lead c.args.text.now c.phrase.result) (c.in-All.ensures ∙ ap clearing_of (begins_named c.argument-source.result.now (argument_of c.args.text.now) c.name_length-word.result c.argument-source.ensures c.name_length-word.ensures.count)) (c.phrase.ensures ne)

pub returns-in-Space : goal.returns-in-Space
returns-in-Space c = λ ne. subst (λ (k : Clearing). ClearsBy k c.args.lead c.args.text.now c.clear_space.result) (c.in-Space.ensures ∙ ap clearing_of (begins_named c.argument-source.result.now (argument_of c.args.text.now) c.name_length-word.result c.argument-source.ensures c.name_length-word.ensures.count)) (c.clear_space.ensures ne)

pub returns-in-Cells : goal.returns-in-Cells
returns-in-Cells c = λ ne. subst (λ (k : Clearing). ClearsBy k c.args.lead c.args.text.now c.clear_cells.result) (c.in-Cells.ensures ∙ ap clearing_of (begins_named c.argument-source.result.now (argument_of c.args.text.now) c.name_length-word.result c.argument-source.ensures c.name_length-word.ensures.count)) (c.clear_cells.ensures ne)

pub returns-in-Node : goal.returns-in-Node
returns-in-Node c = λ ne. subst (λ (k : Clearing). ClearsBy k c.args.lead c.args.text.now c.clear_node.result) (c.in-Node.ensures ∙ ap clearing_of (begins_named c.argument-source.result.now (argument_of c.args.text.now) c.name_length-word.result c.argument-source.ensures c.name_length-word.ensures.count)) (c.clear_node.ensures ne)
