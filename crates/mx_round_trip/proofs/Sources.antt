-- What the tokens of a source may say.
use Rattle.std.proofs.Common.{◌≡◌, ℕ, ◌^◌, ◌≤◌, List, [], ◌∷◌, ◌++◌, true, false, All, refl, Ok, ℤ, pos}
use Rattle.std.specs.List.{list_all}
use Rattle.std.proofs.lemmas.List.Elements.{All-head, All-tail}
use Rattle.std.proofs.lemmas.List.Sums.{list_all-from_AllPass}
use Rattle.mx_lex.specs.Bytes.{is_printable}
use Rattle.mx_lex.specs.Laws.{IsSpelled, IsName, text_of}
use Rattle.mx_lex.specs.Lexing.{tokens_of}
use Rattle.mx_lex.specs.declared.Token.{Token}
use Rattle.mx_lex.specs.declared.TokenKind.{TokenKind}
use Rattle.mx_lex.specs.declared.TokenKind.TheVariants as kind
use Rattle.mx_grammar.specs.declared.word.Word.{Word}
use Rattle.mx_grammar.specs.declared.word.Word.TheVariants as word
use Rattle.mx_grammar.specs.Spelling.{words_of}
use Rattle.mx_grammar.specs.Words.{IsDecimal, IsReadable, word_by, fix_of, unescaped, inner_of}
use Rattle.mx_grammar.proofs.Decimals.{readable}
use Rattle.mx_grammar.proofs.Printable.{unescaped_printable, text_printable}

-- a decimal number is from 0 to 10^10
pub record IsFixed (z : ℤ) : Type 0 where
  pub raw : ℕ
  pub is : z ≡ pos raw
  pub bound : raw ≤ 10 ^ 19

-- what a token of a source says
abbrev pub IsSaid : Word → Type 0
IsSaid (word.Name n) = IsName n
IsSaid (word.Int n) = Unit {0}
IsSaid (word.Fix z) = IsFixed z
IsSaid (word.Text t) = list_all is_printable t ≡ true
IsSaid (word.Symbol s) = Unit {0}

abbrev pub AreSaid : List Word → Type 0
AreSaid [] = Unit {0}
AreSaid (w ∷ ws) = IsSaid w × AreSaid ws

pub said_split : (us ws : List Word) → AreSaid (us ++ ws) → AreSaid us × AreSaid ws
said_split [] ws h = (tt, h)
said_split (u ∷ us) ws h = let more = said_split us ws h.1 in ((h.0, more.0), more.1)

pub said_join : (us ws : List Word) → AreSaid us → AreSaid ws → AreSaid (us ++ ws)
said_join [] ws g h = h
said_join (u ∷ us) ws g h = (g.0, said_join us ws g.1 h)

said_by : (k : TokenKind) (text : List ℕ) → IsSpelled k text → (k ≡ kind.Fix → IsDecimal text) → IsSaid (word_by k text)
said_by kind.Name text spelled decimal = spelled
said_by kind.Keyword text spelled decimal = tt
said_by kind.Int text spelled decimal = tt
said_by kind.Fix text spelled decimal = let d = decimal refl in record { raw = fix_of text; is = refl; bound = d.fits }
said_by kind.Text text spelled decimal = list_all-from_AllPass is_printable (unescaped false (inner_of text)) (unescaped_printable false (inner_of text) (text_printable text spelled))
said_by kind.Mark text spelled decimal = tt
said_by kind.Newline text spelled decimal = tt
said_by kind.Indent text spelled decimal = tt
said_by kind.Dedent text spelled decimal = tt
said_by kind.End text spelled decimal = tt

all_said : (source : List ℕ) (tokens : List Token) → All (IsReadable source) tokens → AreSaid (words_of source tokens)
all_said source [] h = tt
all_said source (t ∷ ts) h =
    let first : IsReadable source t = All-head (IsReadable source) t ts h in
    (said_by t.kind (text_of source t) first.spelled first.decimal, all_said source ts (All-tail (IsReadable source) t ts h))

pub said : (source : List ℕ) (tokens : List Token) → tokens_of source ≡ Ok tokens → AreSaid (words_of source tokens)
said source tokens e = all_said source tokens (readable source tokens e)
