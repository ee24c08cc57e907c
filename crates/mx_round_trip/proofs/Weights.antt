-- The tokens of a source say no more than its bytes.
use Rattle.std.proofs.Common.{◌≡◌, ℕ, ◌+◌, ◌-◌, ◌≤◌, zero, suc, List, [], ◌∷◌, ◌++◌, Bool, true, false, ltb, ◌==◌, length, take, drop, All, ap, Ok, Err, ◌⊎◌, inl, inr, arith, length-append}
use Rattle.std.proofs.lemmas.Bool.{false≢true, ltb-false}
use Rattle.std.proofs.lemmas.List.Elements.{All-head, All-tail}
use Rattle.mx_lex.specs.Laws.{IsSpelled, InOrder, is_mark, text_of}
use Rattle.mx_lex.specs.Spans.{is_keyword}
use Rattle.mx_lex.specs.Lexing.{tokens_of, tokens_from, beginning}
use Rattle.mx_lex.specs.declared.Token.{Token}
use Rattle.mx_lex.specs.declared.TokenKind.{TokenKind}
use Rattle.mx_lex.specs.declared.TokenKind.TheVariants as kind
use Rattle.mx_lex.specs.declared.LexRefusal.TheVariants.{TooLong}
use Rattle.mx_lex.proofs.Cases.{both, chosen}
use Rattle.mx_lex.proofs.Order.{tokens_in_order}
use Rattle.mx_grammar.specs.declared.word.Symbol.{Symbol}
use Rattle.mx_grammar.specs.declared.word.Symbol.TheVariants as symbol
use Rattle.mx_grammar.specs.declared.word.Word.{Word}
use Rattle.mx_grammar.specs.declared.word.Word.TheVariants as word
use Rattle.mx_grammar.specs.Words.{IsReadable, word_by, keyword_of, mark_of, unescaped, inner_of}
use Rattle.mx_grammar.specs.Spelling.{words_of}
use Rattle.mx_grammar.proofs.Decimals.{readable}

-- the size that a token gives to a value
abbrev pub weight : Word → ℕ
weight (word.Int n) = 1
weight (word.Fix z) = 1
weight (word.Text t) = 1 + length t
weight (word.Symbol symbol.None) = 1
weight (word.Symbol symbol.True) = 1
weight (word.Symbol symbol.False) = 1
weight (word.Symbol symbol.OpenRound) = 1
weight _ = 0

abbrev pub weights : List Word → ℕ
weights [] = 0
weights (w ∷ ws) = weight w + weights ws

pub weights_append : (us ws : List Word) → weights (us ++ ws) ≡ weights us + weights ws
weights_append [] ws = omega arith
weights_append (u ∷ us) ws = omega (arith, weights_append us ws)

symbol_weight : (s : Symbol) → weight (word.Symbol s) ≤ 1
symbol_weight symbol.None = omega arith
symbol_weight symbol.True = omega arith
symbol_weight symbol.False = omega arith
symbol_weight symbol.OpenRound = omega arith
symbol_weight _ = omega arith

keyword_some : (text : List ℕ) → is_keyword text ≡ true → 1 ≤ length text
unfolding is_keyword
keyword_some [] h = absurd (false≢true h)
keyword_some (b ∷ bs) h = omega arith

mark_some : (text : List ℕ) → is_mark text ≡ true → 1 ≤ length text
mark_some [] h = absurd (false≢true h)
mark_some (b ∷ bs) h = omega arith

unescaped_length : (escaped : Bool) (bs : List ℕ) → length (unescaped escaped bs) ≤ length bs
unescaped_length true [] = omega arith
unescaped_length false [] = omega arith
unescaped_length true (b ∷ bs) = omega (arith, unescaped_length false bs)
unescaped_length false (b ∷ bs) =
    both (λ (l : List ℕ). length l ≤ length (b ∷ bs)) (b == 92) (unescaped true bs) (b ∷ unescaped false bs) (λ _. omega (arith, unescaped_length true bs)) (λ _. omega (arith, unescaped_length false bs))

take_most : (k : ℕ) (bs : List ℕ) → length (take k bs) ≤ k
take_most zero bs = omega arith
take_most (suc k) [] = omega arith
take_most (suc k) (b ∷ bs) = omega (arith, take_most k bs)

said_weight : (k : TokenKind) (text : List ℕ) → IsSpelled k text → weight (word_by k text) ≤ length text
said_weight kind.Name text h = omega arith
said_weight kind.Keyword text h = omega (arith, keyword_some text h, symbol_weight (keyword_of text))
said_weight kind.Int text h = omega (arith, h.some)
said_weight kind.Fix text h = let long : length text ≡ length (h.digits ++ 46 ∷ h.decimals) = ap length h.parts in omega (arith, long, length-append h.digits (46 ∷ h.decimals))
said_weight kind.Text text h =
    let long : length text ≡ length (h.quote ∷ h.inner ++ h.quote ∷ []) = ap length h.parts in
    omega (arith, long, length-append (h.quote ∷ h.inner) (h.quote ∷ []), unescaped_length false (inner_of text), take_most (length text - 2) (drop 1 text))
said_weight kind.Mark text h = omega (arith, mark_some text h, symbol_weight (mark_of text))
said_weight kind.Newline text h = omega arith
said_weight kind.Indent text h = omega arith
said_weight kind.Dedent text h = omega arith
said_weight kind.End text h = omega arith

ordered_weights : (source : List ℕ) (low high : ℕ) (ts : List Token) → InOrder low high ts → All (IsReadable source) ts → low + weights (words_of source ts) ≤ high
ordered_weights source low high [] in_order all = omega arith
ordered_weights source low high (t ∷ ts) in_order all =
    let first : IsReadable source t = All-head (IsReadable source) t ts all in
    let here : low ≤ t.at = in_order.0 in
    let text : List ℕ = text_of source t in
    omega (arith, here, said_weight t.kind text first.spelled, take_most t.len (drop t.at source), ordered_weights source (t.at + t.len) high ts in_order.1 (All-tail (IsReadable source) t ts all))

source_short : (source : List ℕ) (tokens : List Token) → tokens_of source ≡ Ok tokens → length source ≤ 65536
unfolding tokens_of
source_short source tokens e = by (chosen (ltb 65536 (length source)) (Err TooLong) (tokens_from source 0 0 beginning) (Ok tokens) e)
  where
    by : ((ltb 65536 (length source) ≡ true) × (Err TooLong ≡ Ok tokens)) ⊎ ((ltb 65536 (length source) ≡ false) × (tokens_from source 0 0 beginning ≡ Ok tokens)) → length source ≤ 65536
    by (inl p) = absurd (let f : Err TooLong ≡ Ok tokens = p.1 in cc)
    by (inr p) = ltb-false 65536 (length source) p.0

pub source_weights : (source : List ℕ) (tokens : List Token) → tokens_of source ≡ Ok tokens → weights (words_of source tokens) ≤ 65536
source_weights source tokens e =
    let all : 0 + weights (words_of source tokens) ≤ length source = ordered_weights source 0 (length source) tokens (tokens_in_order source tokens e) (readable source tokens e) in
    omega (arith, all, source_short source tokens e)
