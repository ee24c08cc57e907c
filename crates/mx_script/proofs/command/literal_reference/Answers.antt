use Rattle.std.proofs.Common.{◌≡◌, false, ℕ, List, Ok, Err, ap, take, subst}
use Rattle.mx_grammar.specs.declared.refusal.ParseRefusal.TheVariants.{NoMemory}
use Rattle.mx_grammar.specs.Spelling.{Answers}
use Rattle.mx_grammar.specs.Literals.{literal_text}
use Rattle.mx_words.specs.declared.head.Target.{Target}
use Rattle.mx_words.specs.declared.head.HeadForm.TheVariants as head
use Rattle.mx_words.specs.Heads.{head_text}
use Rattle.mx_words.specs.Texts.{behind_equals}
use Rattle.mx_words.specs.Parts.{PartAnswers}
use Rattle.mx_words.proofs.PartAnswers.{failed}
use Rattle.mx_script.specs.Commands.{RefHead, ref_value, referred}
use Rattle.mx_words.specs.declared.command.FormRefusal.TheVariants as form
use Rattle.mx_script.proofs.Sequels.{stops, decides}
use Rattle.mx_script.proofs.Parted.{behind_all}
use Rattle.mx_script.proofs.command.literal_reference.Goals as goal

pub returns-in-Err : goal.returns-in-Err
returns-in-Err c = λ ne.
    stops c.in-Err.refusal (subst (λ (n : ℕ). PartAnswers (head_text (head.Reference c.args.owner)) false c.args.lead (take n c.args.text.now) (Err c.in-Err.refusal)) c.requires.end (c.in-Err.ensures (λ e. ne (let same : c.in-Err.refusal ≡ form.NoMemory = cc in ap failed same))))

pub returns-in-Ok-referred : goal.returns-in-Ok-referred
returns-in-Ok-referred c = λ ne.
    decides {First = RefHead c.args.owner c.args.lead c.args.text.now} {Last = λ (t : Target). Answers literal_text (ref_value c.args.text.now)} {done = referred c.args.owner} c.in-Ok.target (Ok c.in-Ok-parse_literal.value) (Ok c.in-Ok-referred.command)
    (subst (λ (n : ℕ). PartAnswers (head_text (head.Reference c.args.owner)) false c.args.lead (take n c.args.text.now) (Ok c.in-Ok.target)) c.requires.end (c.in-Ok.ensures (λ e. absurd cc)))
    (subst (λ (s : List ℕ). Answers literal_text s (Ok c.in-Ok-parse_literal.value)) (behind_all c.args.text.now c.args.end (behind_equals c.args.text.now) c.requires.end c.strip_spaces.result.now c.strip_spaces.ensures) (c.in-Ok-parse_literal.ensures.found (λ e. absurd cc)))
    c.in-Ok-referred.ensures

pub returns-in-Err-parse_literal : goal.returns-in-Err-parse_literal
returns-in-Err-parse_literal c = λ ne.
    let m = c.no_formula.ensures (λ e. ne (ap failed e)) in
    decides {First = RefHead c.args.owner c.args.lead c.args.text.now} {Last = λ (t : Target). Answers literal_text (ref_value c.args.text.now)} {done = referred c.args.owner} c.in-Ok.target (Err c.in-Err-parse_literal.refusal) (Err c.no_formula.result)
    (subst (λ (n : ℕ). PartAnswers (head_text (head.Reference c.args.owner)) false c.args.lead (take n c.args.text.now) (Ok c.in-Ok.target)) c.requires.end (c.in-Ok.ensures (λ e. absurd cc)))
    (subst (λ (s : List ℕ). Answers literal_text s (Err c.in-Err-parse_literal.refusal)) (behind_all c.args.text.now c.args.end (behind_equals c.args.text.now) c.requires.end c.strip_spaces.result.now c.strip_spaces.ensures) (c.in-Err-parse_literal.ensures.found (λ e. m.0 (let same : c.in-Err-parse_literal.refusal ≡ NoMemory = cc in same))))
    (ap failed m.1)
