use Rattle.std.proofs.Common.{◌≡◌, ◌+◌, ◌∙◌, ℕ, List, Result, Ok, Err, refl, ap, subst}
use Rattle.mx_words.specs.declared.command.FormRefusal.{FormRefusal}
use Rattle.mx_words.specs.declared.command.FormRefusal.TheVariants.{NoMemory}
use Rattle.mx_words.specs.declared.head.Target.{Target}
use Rattle.mx_words.specs.Texts.{behind_spaces}
use Rattle.mx_words.proofs.PartAnswers.{failed}
use Rattle.mx_script.specs.Commands.{FileAnswers, TableHead, file_of, from_file, place_behind}
use Rattle.mx_script.proofs.Sequels.{stops, decides}
use Rattle.mx_script.proofs.Parted.{file_at}
use Rattle.mx_script.proofs.table.table.Goals as goal

pub returns-in-Err : goal.returns-in-Err
returns-in-Err c = λ ne. stops c.in-Err.refusal (c.in-Err.ensures (λ e. ne (let same : c.in-Err.refusal ≡ NoMemory = cc in ap failed same)))

pub returns-in-Ok-file : goal.returns-in-Ok-file
returns-in-Ok-file c = λ ne.
    decides {First = TableHead c.args.lead c.args.text.now} {Last = λ (t : Target). FileAnswers (c.args.lead + place_behind c.args.text.now (file_of c.args.text.now)) (file_of c.args.text.now)} {done = from_file} c.in-Ok.target (Ok c.in-Ok-file.name) (Ok c.from_file.result)
    (c.in-Ok.ensures (λ e. absurd cc))
    (file_at c.args.lead c.args.text.now c.strip_spaces-source.result.now (c.strip_spaces-source.ensures ∙ ap behind_spaces c.behind_name-rest.ensures) c.in-Ok-start_of.start c.in-Ok-start_of.ensures (Ok c.in-Ok-file.name) (c.in-Ok-file.ensures (λ e. absurd cc)))
    c.from_file.ensures

pub returns-in-Err-file : goal.returns-in-Err-file
returns-in-Err-file c = λ ne.
    decides {First = TableHead c.args.lead c.args.text.now} {Last = λ (t : Target). FileAnswers (c.args.lead + place_behind c.args.text.now (file_of c.args.text.now)) (file_of c.args.text.now)} {done = from_file} c.in-Ok.target (Err c.in-Err-file.refusal) (Err c.in-Err-file.refusal)
    (c.in-Ok.ensures (λ e. absurd cc))
    (file_at c.args.lead c.args.text.now c.strip_spaces-source.result.now (c.strip_spaces-source.ensures ∙ ap behind_spaces c.behind_name-rest.ensures) c.in-Ok-start_of.start c.in-Ok-start_of.ensures (Err c.in-Err-file.refusal) (c.in-Err-file.ensures (λ e. ne (let same : c.in-Err-file.refusal ≡ NoMemory = cc in ap failed same))))
    refl
