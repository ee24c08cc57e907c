-- The texts of why a text is no command.
use Rattle.std.specs.Prelude.{ℕ, [], ◌∷◌, ◌++◌, codes}
use Rattle.std.specs.Fmt.{decimal}
use Rattle.mx_print.specs.Texts.{Text}
use Rattle.mx_text.specs.Parsing.{parse_refusal_text}
use Rattle.mx_words.specs.declared.command.FormRefusal.{FormRefusal}
use Rattle.mx_words.specs.declared.command.FormRefusal.TheVariants as form

-- why a text is no command; want of memory has no text
abbrev pub form_refusal_text : FormRefusal → Text
form_refusal_text form.UnknownWord = codes "unknown word"
form_refusal_text (form.BadForm place) = codes "bad form at " ++ decimal place
form_refusal_text (form.Parse e) = codes "formula: " ++ parse_refusal_text e
form_refusal_text form.NoMemory = []

-- the block of a command that is refused so and begins in this line
abbrev pub form_block : ℕ → FormRefusal → Text
form_block number e =
    codes "line " ++ (decimal number ++ (codes ": " ++ (form_refusal_text e ++ 10 ∷ [])))
