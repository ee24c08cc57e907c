-- What the code of phrases computes.
use Rattle.std.specs.Prelude.{ℕ, ◌+◌, true, false, ◌==◌, List, [], ◌∷◌, Option, Some, None, nat_lt, ◌^◌, ℤ, pos, negsuc, codes}
use Rattle.std.specs.Cmp.Lexicographic.{pointwise}
use Rattle.mx_grammar.specs.declared.word.Word.{Word}
use Rattle.mx_grammar.specs.declared.word.Symbol.TheVariants as symbol
use Rattle.mx_grammar.specs.Words.{is}
use Rattle.mx_grammar.specs.Reading.{Parser, ◌>>=◌, ◌>>◌, pure, accept, seen, expect, choose, many}
use Rattle.mx_grammar.specs.AddressParsers.{name_of, addr}
use Rattle.mx_grammar.specs.LiteralParsers.{fitting, simple_of, literal}
use Rattle.mx_value.specs.declared.value.Value.{Value}
use Rattle.mx_value.specs.declared.value.Segment.{Segment}
use Rattle.mx_value.specs.declared.value.Value.TheVariants as value
use Rattle.mx_edit.specs.declared.reference.RefValue.{RefValue}
use Rattle.mx_edit.specs.declared.reference.RefValue.TheVariants as ref
use Rattle.mx_words.specs.declared.command.Command.{Command}
use Rattle.mx_words.specs.declared.command.Command.TheVariants as command
use Rattle.mx_words.specs.declared.table.Phrase.{Phrase}
use Rattle.mx_words.specs.declared.table.Phrase.TheVariants as phrase
use Rattle.mx_words.specs.declared.table.Owner.{Owner}
use Rattle.mx_words.specs.declared.table.Reference.{Reference}
use Rattle.mx_words.specs.declared.table.Reference.TheVariants as reference
use Rattle.mx_words.specs.Heads.{whole_of}
use Rattle.mx_words.specs.HeadParsers.{target, ended, owned}
use Rattle.mx_words.specs.Phrases.{named_command, no_global, set_bases, fixed_to, set_ref, clear_all}

-- of what a token says, what that says
abbrev pub onto : {A B : Type 0} → Option A → (A → Option B) → Option B
onto None f = None
onto (Some a) f = f a

-- a number of 32 bits
abbrev pub small : ℤ → Option ℕ
small (pos n) = fitting (nat_lt n (2 ^ 32)) n
small (negsuc n) = None

abbrev pub limit_in : Value → Option ℕ
limit_in (value.Int z) = small z
limit_in _ = None

abbrev pub limit_of : Word → Option ℕ
limit_of t = onto (simple_of t) limit_in

-- a name that is this one
abbrev pub is_name : List ℕ → List ℕ → Option (Unit {0})
is_name n m = seen (pointwise ◌==◌ m n)

abbrev pub that_name : List ℕ → Word → Option (Unit {0})
that_name n t = onto (name_of t) (is_name n)

abbrev pub the_name : List ℕ → Parser (Unit {0})
the_name n = accept (that_name n)

unfoldable pub path : Parser (List (List ℕ))
path = target >>= λ t. pure (whole_of t)

abbrev pub another : Parser (List (List ℕ))
another = expect symbol.Comma >> path

abbrev pub others : Parser (List (List (List ℕ)))
others = many (is symbol.Comma) another

-- paths with commas between
unfoldable pub paths : Parser (List (List (List ℕ)))
paths = path >>= λ p. others >>= λ ps. pure (p ∷ ps)

unfoldable pub bases : Parser (List (List (List ℕ)))
bases = choose (is symbol.Colon) (expect symbol.Colon >> paths) (pure [])

unfoldable pub reference_by : Reference → Parser RefValue
reference_by reference.Table = the_name (codes "table") >> (accept name_of >>= λ n. pure (ref.Table n))
reference_by reference.To = the_name (codes "to") >> (target >>= λ t. pure (fixed_to false t))
reference_by reference.Abs = the_name (codes "abs") >> (target >>= λ t. pure (fixed_to true t))

abbrev pub refers_by : Owner → Reference → Parser Command
refers_by o r = ended symbol.Assign (owned o) >>= λ t. reference_by r >>= λ v. pure (set_ref o t v)

unfoldable pub phrase_by : Phrase → ℕ → Parser Command
phrase_by (phrase.Names n) levels = target >>= λ t. pure (named_command n t)
phrase_by phrase.DelGlobal levels = accept name_of >>= λ n. pure (no_global n)
phrase_by phrase.ClearAll levels = the_name (codes "all") >>= λ a. pure (clear_all a)
phrase_by phrase.Limit levels = accept limit_of >>= λ n. pure (command.Limit n)
phrase_by phrase.Bases levels = path >>= λ p. bases >>= λ ps. pure (set_bases p ps)
phrase_by (phrase.Refers o r) levels = refers_by o r

abbrev pub address_by : List ℕ → ℕ → Parser (List Segment)
address_by name levels = the_name name >> addr (literal (levels + 1))
