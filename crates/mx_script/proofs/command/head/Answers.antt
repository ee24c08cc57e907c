use Rattle.std.proofs.Common.{ℕ, nat_lt, false, length, take, subst}
use Rattle.mx_words.specs.declared.head.HeadForm.{HeadForm}
use Rattle.mx_words.specs.Heads.{head_text}
use Rattle.mx_script.specs.Commands.{form_of}
use Rattle.mx_words.specs.Parts.{PartAnswers}
use Rattle.mx_script.proofs.command.head.Goals as goal

pub returns : goal.returns
returns c = λ ne.
    subst (λ (n : ℕ). PartAnswers (head_text (form_of (nat_lt n (length c.args.text.now)))) false c.args.lead (take n c.args.text.now) c.names_in.result) c.head_length-end.ensures.count
    (subst (λ (f : HeadForm). PartAnswers (head_text f) false c.args.lead (take c.head_length-end.result c.args.text.now) c.names_in.result) c.form_of.ensures (c.names_in.ensures ne))
