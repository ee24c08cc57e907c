-- The texts among the tokens of a source are short.
use Rattle.std.proofs.Common.{◌≤◌, List, [], ◌∷◌, length, arith}
use Rattle.mx_grammar.specs.declared.word.Word.{Word}
use Rattle.mx_grammar.specs.declared.word.Word.TheVariants as word
use Rattle.mx_round_trip.proofs.Weights.{weights}
use Rattle.mx_limit_laws.specs.Values.{Each}

abbrev pub IsShort : Word → Type 0
IsShort (word.Text t) = length t ≤ 65536
IsShort _ = Unit {0}

abbrev pub AreShort : List Word → Type 0
AreShort ws = Each IsShort ws

word_short : (w : Word) (ws : List Word) → weights (w ∷ ws) ≤ 65536 → IsShort w
word_short (word.Text t) ws h = omega arith
word_short (word.Name n) ws h = tt
word_short (word.Int n) ws h = tt
word_short (word.Fix z) ws h = tt
word_short (word.Symbol s) ws h = tt

pub words_short : (ws : List Word) → weights ws ≤ 65536 → AreShort ws
words_short [] h = tt
words_short (w ∷ ws) h = (word_short w ws h, words_short ws (omega arith))
