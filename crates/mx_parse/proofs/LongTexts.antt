-- Which texts are within the limits of a source.
use Rattle.std.proofs.Common.{◌≡◌, ◌≢◌, ℕ, ◌≤◌, List, length, Some, Result, Ok, Err, refl, sym, ap, subst, ◌∙◌}
use Rattle.mx_lex.specs.declared.Token.{Token}
use Rattle.mx_lex.specs.declared.LexRefusal.{LexRefusal}
use Rattle.mx_lex.specs.Lexing.{tokens_of}
use Rattle.mx_grammar.specs.declared.word.Word.{Word}
use Rattle.mx_grammar.specs.declared.refusal.ParseRefusal.{ParseRefusal}
use Rattle.mx_grammar.specs.declared.refusal.ParseRefusal.TheVariants.{Lex, TooNested, Unexpected, TooManyLoops, PrintsTooLong, NoMemory}
use Rattle.mx_grammar.specs.Spelling.{Shallow, words_of, IsOpened, Unread, NestedAt, unopened}
use Rattle.mx_grammar.specs.Limits.{IsShort}
use Rattle.mx_grammar.proofs.OpenCount.{not_both}

abbrev lexed : List Token → Result (List Token) LexRefusal
lexed tokens = Ok tokens

lexed_same : (a b : List Token) → lexed a ≡ lexed b → a ≡ b
lexed_same a b e = cc

pub not_nested : (text : List ℕ) (tokens : List Token) (words : List Word) → IsOpened text tokens words → (place : ℕ) → NestedAt text place → ⊥
not_nested text tokens words o place h =
    let same = lexed_same tokens h.tokens (sym o.lexed ∙ h.lexed) in
    not_both 64 unopened (words_of text h.tokens) h.left (subst (Shallow 64 unopened) (o.are ∙ ap (words_of text) same) o.shallow) h.deep

pub opened_short : (text : List ℕ) (tokens : List Token) (words : List Word) → length text ≤ 65536 → IsOpened text tokens words → IsShort (Some text)
opened_short text tokens words le o = (le, not_nested text tokens words o)

never_lexed : (text : List ℕ) (d : LexRefusal) → tokens_of text ≡ Err d → (place : ℕ) → NestedAt text place → ⊥
never_lexed text d h place nested = absurd (let e = sym h ∙ nested.lexed in cc)

pub unread_short : (text : List ℕ) (e : ParseRefusal) → length text ≤ 65536 → ((place : ℕ) → e ≢ TooNested place) → Unread text e → IsShort (Some text)
unread_short text (Lex d) le not h = (le, never_lexed text d h)
unread_short text (TooNested place) le not h = absurd (not place refl)
unread_short text (Unexpected place) le not h = absurd h
unread_short text TooManyLoops le not h = absurd h
unread_short text PrintsTooLong le not h = absurd h
unread_short text NoMemory le not h = absurd h
