-- A line that is a whole text, from what is read of it and its end.
use Rattle.std.proofs.Common.{◌≡◌, [], ◌∷◌, Result, Ok, Err, refl, ap, ◌∙◌}
use Rattle.mx_grammar.specs.declared.word.Symbol.TheVariants as symbol
use Rattle.mx_grammar.specs.declared.trouble.Trouble.{Trouble}
use Rattle.mx_grammar.specs.Reading.{Words, Outcome, Parser, and_then, ◌>>◌, pure, expect, line, text, whole}
use Rattle.mx_words.specs.HeadParsers.{line_end}

-- with what was read in front
abbrev give : {A : Type 0} → A → Result (Unit {0}) Trouble → Result A Trouble
give x (Ok a) = Ok x
give x (Err e) = Err e

at_last : {A : Type 0} (x : A) (o : Outcome (Unit {0})) → whole (and_then o (λ _. pure x)) ≡ give x (whole o)
at_last x (Err e) = refl
at_last x (Ok (a, [])) = refl
at_last x (Ok (a, t ∷ ts)) = refl

at_newline : {A : Type 0} (x : A) (o : Outcome (Unit {0})) → whole (and_then (and_then o (λ _. pure x)) (λ y. expect symbol.End >> pure y)) ≡ give x (whole (and_then o (λ _. expect symbol.End)))
at_newline x (Err e) = refl
at_newline x (Ok (a, ts)) = at_last x (expect symbol.End ts)

module _ {A : Type 0} (p : Parser A) (ts : Words) where
  line_is : (x : A) (rest : Words) → p ts ≡ Ok (x, rest) → whole (text (line p) ts) ≡ give x (line_end rest)
  unfolding text line
  line_is x rest h =
      ap (λ (o : Outcome A). whole (and_then (and_then o (λ y. expect symbol.Newline >> pure y)) (λ y. expect symbol.End >> pure y))) h ∙ at_newline x (expect symbol.Newline rest)

  pub line_read : (x : A) (rest : Words) (a : Unit {0}) → p ts ≡ Ok (x, rest) → line_end rest ≡ Ok a → whole (text (line p) ts) ≡ Ok x
  line_read x rest a h e = line_is x rest h ∙ ap (give x) e

  pub line_goes_on : (x : A) (rest : Words) (t : Trouble) → p ts ≡ Ok (x, rest) → line_end rest ≡ Err t → whole (text (line p) ts) ≡ Err t
  line_goes_on x rest t h e = line_is x rest h ∙ ap (give x) e

  pub line_refused : (t : Trouble) → p ts ≡ Err t → whole (text (line p) ts) ≡ Err t
  unfolding text line
  line_refused t h = ap (λ (o : Outcome A). whole (and_then (and_then o (λ y. expect symbol.Newline >> pure y)) (λ y. expect symbol.End >> pure y))) h
