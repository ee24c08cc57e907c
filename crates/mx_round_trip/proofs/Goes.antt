-- What reading a text gives, whatever stands around it.
use Rattle.std.proofs.Common.{◌≡◌, ℕ, ◌+◌, List, [], ◌∷◌, ◌++◌, Bool, false, length, refl, sym, ap, ◌∙◌, append_assoc, length-append, Ok, Err, arith}
use Rattle.std.proofs.lemmas.List.{map-append}
use Rattle.mx_lex.specs.Bytes.{first_passes}
use Rattle.mx_lex.specs.Lexing.{Reading, Tokens, tokens_before, tokens_from}
use Rattle.mx_lex.specs.declared.Token.{Token}
use Rattle.mx_grammar.specs.declared.word.Word.{Word}
use Rattle.mx_grammar.specs.Spelling.{words_of}
use Rattle.mx_grammar.specs.Words.{word_of}

-- This text, between a front and a rest, takes one reading to another and gives these words.
pub record Goes (r : Reading) (front u rest : List ℕ) (ws : List Word) (s : Reading) : Type 0 where
  pub tokens : List Token
  pub lexed : tokens_from (u ++ rest) 0 (length front) r ≡ tokens_before tokens (tokens_from rest 0 (length front + length u) s)
  pub words : words_of (front ++ (u ++ rest)) tokens ≡ ws

-- So it does between all of them, where the rest begins with no byte that would go on with the text.
pub record Reads (F : ℕ → Bool) (r : Reading) (u : List ℕ) (ws : List Word) (s : Reading) : Type 0 where
  pub goes : (front rest : List ℕ) → first_passes F rest ≡ false → Goes r front u rest ws s

pub tokens_before_both : (front given : List Token) (outcome : Tokens) → tokens_before front (tokens_before given outcome) ≡ tokens_before (front ++ given) outcome
tokens_before_both front given (Ok tokens) = ap (λ ts. Ok ts) (sym (append_assoc front given tokens))
tokens_before_both front given (Err e) = refl

pub both_go : (r s t : Reading) (front u v rest : List ℕ) (ws vs : List Word) → Goes r front u (v ++ rest) ws s → Goes s (front ++ u) v rest vs t → Goes r front (u ++ v) rest (ws ++ vs) t
both_go r s t front u v rest ws vs g h =
    let same : (u ++ v) ++ rest ≡ u ++ (v ++ rest) = append_assoc u v rest in
    let place : length (front ++ u) ≡ length front + length u = length-append front u in
    let behind : length (front ++ u) + length v ≡ length front + length (u ++ v) = omega (arith, length-append front u, length-append u v) in
    let text : (front ++ u) ++ (v ++ rest) ≡ front ++ ((u ++ v) ++ rest) = append_assoc front u (v ++ rest) ∙ ap (λ l. front ++ l) (sym same) in
    let whole : List ℕ = front ++ ((u ++ v) ++ rest) in
    let first : words_of whole g.tokens ≡ ws = ap (λ l. words_of (front ++ l) g.tokens) same ∙ g.words in
    let second : words_of whole h.tokens ≡ vs = ap (λ l. words_of l h.tokens) (sym text) ∙ h.words in
    record {
      tokens = g.tokens ++ h.tokens;
      lexed =
          ap (λ l. tokens_from l 0 (length front) r) same ∙ g.lexed
          ∙ ap (tokens_before g.tokens) (ap (λ n. tokens_from (v ++ rest) 0 n s) (sym place) ∙ h.lexed)
          ∙ tokens_before_both g.tokens h.tokens (tokens_from rest 0 (length (front ++ u) + length v) t)
          ∙ ap (λ n. tokens_before (g.tokens ++ h.tokens) (tokens_from rest 0 n t)) behind;
      words = map-append (word_of whole) g.tokens h.tokens ∙ ap (λ l. l ++ words_of whole h.tokens) first ∙ ap (λ l. ws ++ l) second;
    }

-- One text behind another.
pub then_reads : {F G : ℕ → Bool} {r s t : Reading} {u v : List ℕ} {ws vs : List Word} → Reads F r u ws s → Reads G s v vs t
    → ((rest : List ℕ) → first_passes G rest ≡ false → first_passes F (v ++ rest) ≡ false) → Reads G r (u ++ v) (ws ++ vs) t
then_reads {F} {G} {r} {s} {t} {u} {v} {ws} {vs} g h follows =
    record { goes = λ front rest stops. both_go r s t front u v rest ws vs (g.goes front (v ++ rest) (follows rest stops)) (h.goes (front ++ u) rest stops) }

-- More bytes that may not follow.
pub stops_more : {F G : ℕ → Bool} {r s : Reading} {u : List ℕ} {ws : List Word} → Reads F r u ws s → ((b : ℕ) → G b ≡ false → F b ≡ false) → Reads G r u ws s
stops_more {F} {G} g less = record { goes = λ front rest stops. g.goes front rest (first rest stops) }
  where
    first : (rest : List ℕ) → first_passes G rest ≡ false → first_passes F rest ≡ false
    first [] h = refl
    first (b ∷ bs) h = less b h

-- no byte goes on with the text
abbrev pub none : ℕ → Bool
none b = false

pub none_first : (rest : List ℕ) → first_passes none rest ≡ false
none_first [] = refl
none_first (b ∷ bs) = refl

tokens_before_none : (outcome : Tokens) → outcome ≡ tokens_before [] outcome
tokens_before_none (Ok tokens) = refl
tokens_before_none (Err e) = refl

pub reads_nothing : {F : ℕ → Bool} {r : Reading} → Reads F r [] [] r
reads_nothing {F} {r} = record { goes = λ front rest stops. record { tokens = []; lexed = tokens_before_none _ ∙ ap (λ n. tokens_before [] (tokens_from rest 0 n r)) (omega arith); words = refl } }
