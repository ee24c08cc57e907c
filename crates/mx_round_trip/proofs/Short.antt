-- A text in which no token opens too many brackets.
use Rattle.std.proofs.Common.{◌≡◌, ℕ, ◌≤◌, ◌<◌, suc, List, [], ◌∷◌, Bool, true, false, leb, length, Some, refl, ap, ◌⊎◌, inl, inr, Ok, arith}
use Rattle.std.proofs.lemmas.Bool.{leb-true, leb-false}
use Rattle.std.proofs.lemmas.List.{length-map}
use Rattle.mx_lex.specs.declared.Token.{Token}
use Rattle.mx_lex.specs.Lexing.{tokens_of}
use Rattle.mx_grammar.specs.declared.nesting.Open.{Open}
use Rattle.mx_grammar.specs.declared.word.Word.{Word}
use Rattle.mx_grammar.specs.Spelling.{Shallow, DeepAt, behind_word, open_count, words_of, PlaceOf, unopened}
use Rattle.mx_grammar.specs.Words.{word_of}
use Rattle.mx_grammar.specs.Limits.{IsShort}
use Rattle.mx_grammar.proofs.OpenCount.{deep_within}

-- either holds of all tokens
record Deep (d : ℕ) (n : Open) (ws : List Word) : Type 0 where
  left : ℕ
  deep : DeepAt d n ws left

shallow_or_deep : (d : ℕ) (n : Open) (ws : List Word) → Shallow d n ws ⊎ Deep d n ws
shallow_or_deep d n [] = inl tt
shallow_or_deep d n (w ∷ ws) = by (leb (open_count (behind_word w n)) d) refl (shallow_or_deep d (behind_word w n) ws)
  where
    by : (b : Bool) → leb (open_count (behind_word w n)) d ≡ b → Shallow d (behind_word w n) ws ⊎ Deep d (behind_word w n) ws → Shallow d n (w ∷ ws) ⊎ Deep d n (w ∷ ws)
    by true h (inl s) = inl (leb-true (open_count (behind_word w n)) d h, s)
    by true h (inr p) = inr (record { left = p.left; deep = inr (leb-true (open_count (behind_word w n)) d h, p.deep) })
    by false h other = inr (record { left = suc (length ws); deep = inl (leb-false (open_count (behind_word w n)) d h, refl) })

record HasPlace (tokens : List Token) (n : ℕ) : Type 0 where
  place : ℕ
  is : PlaceOf tokens n place

has_place : (tokens : List Token) (n : ℕ) → 0 < n → n ≤ length tokens → HasPlace tokens n
has_place [] n some most = absurd (omega arith)
has_place (t ∷ ts) n some most = by (leb n (length ts)) refl (λ less. has_place ts n some less)
  where
    by : (b : Bool) → leb n (length ts) ≡ b → (n ≤ length ts → HasPlace ts n) → HasPlace (t ∷ ts) n
    by true h behind =
        let p = behind (leb-true n (length ts) h) in
        let q = p.is in
        record { place = p.place; is = record { front = t ∷ q.front; token = q.token; others = q.others; parts = ap (λ l. t ∷ l) q.parts; count = q.count; is = q.is } }
    by false h behind =
        let past : length ts < n = leb-false n (length ts) h in
        record { place = t.at; is = record { front = []; token = t; others = ts; parts = refl; count = omega arith; is = refl } }

-- where no place is nested too deep, no token opens too many
pub short_shallow : (text : List ℕ) (tokens : List Token) → IsShort (Some text) → tokens_of text ≡ Ok tokens → Shallow 64 unopened (words_of text tokens)
short_shallow text tokens short lexed = by (shallow_or_deep 64 unopened (words_of text tokens))
  where
    by : Shallow 64 unopened (words_of text tokens) ⊎ Deep 64 unopened (words_of text tokens) → Shallow 64 unopened (words_of text tokens)
    by (inl s) = s
    by (inr p) =
        let within = deep_within 64 unopened (words_of text tokens) p.left p.deep in
        let same : length (words_of text tokens) ≡ length tokens = length-map tokens (word_of text) in
        let q = has_place tokens p.left within.0 (omega (arith, within.1, same)) in
        absurd (short.1 q.place (record { tokens = tokens; lexed = lexed; left = p.left; deep = p.deep; at = q.is }))
