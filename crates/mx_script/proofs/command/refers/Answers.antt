use Rattle.std.proofs.Common.{◌∙◌, Option, ap, subst}
use Rattle.mx_words.specs.declared.table.Reference.{Reference}
use Rattle.mx_script.specs.Commands.{reference_of, RefersBy}
use Rattle.mx_script.proofs.Parted.{ref_word}
use Rattle.mx_script.proofs.command.refers.Goals as goal

pub returns-in-Some : goal.returns-in-Some
returns-in-Some c = λ ne. subst (λ (r : Option Reference). RefersBy r c.args.owner c.args.lead c.args.text.now c.phrase.result) (c.in-Some.ensures ∙ ap reference_of (ref_word c.args.text.now c.in-Ok.end c.in-Ok.ensures.count c.strip_spaces-value.result.now c.strip_spaces-value.ensures c.name_length-word.result c.name_length-word.ensures.count)) (c.phrase.ensures ne)

pub returns-in-None : goal.returns-in-None
returns-in-None c = λ ne. subst (λ (r : Option Reference). RefersBy r c.args.owner c.args.lead c.args.text.now c.literal_reference.result) (c.in-None.ensures ∙ ap reference_of (ref_word c.args.text.now c.in-Ok.end c.in-Ok.ensures.count c.strip_spaces-value.result.now c.strip_spaces-value.ensures c.name_length-word.result c.name_length-word.ensures.count)) (c.literal_reference.ensures ne)
