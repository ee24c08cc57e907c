-- Texts that are read within a line and close what they open.
use Rattle.std.proofs.Common.{◌≡◌, ℕ, ◌+◌, List, [], ◌∷◌, ◌++◌, Bool, true, false, refl}
use Rattle.mx_lex.specs.Bytes.{first_passes}
use Rattle.mx_grammar.specs.declared.word.Word.{Word}
use Rattle.mx_grammar.specs.declared.word.Word.TheVariants.{Symbol}
use Rattle.mx_grammar.specs.declared.word.Symbol.TheVariants as symbol
use Rattle.mx_round_trip.proofs.Goes.{Reads, then_reads, stops_more, none, none_first, reads_nothing}
use Rattle.mx_round_trip.proofs.Pieces.{inside, reads_space}
use Rattle.mx_round_trip.proofs.Spans.{reads_open, reads_close, reads_comma}
use Rattle.mx_round_trip.proofs.Plain.{is_plain, plain_both}

-- This text gives these words anywhere within a line, where no byte of F follows, and leaves as many brackets open. Its bytes are printable.
pub record Flat (F : ℕ → Bool) (text : List ℕ) (ws : List Word) : Type 0 where
  pub reads : (number brackets : ℕ) (stack : List ℕ) → Reads F (inside number brackets stack) text ws (inside number brackets stack)
  pub plain : is_plain text ≡ true

-- one behind the other, where the second may follow the first
pub flat_both : {F G : ℕ → Bool} {u v : List ℕ} {ws vs : List Word} → Flat F u ws → Flat G v vs → ((rest : List ℕ) → first_passes G rest ≡ false → first_passes F (v ++ rest) ≡ false) → Flat G (u ++ v) (ws ++ vs)
flat_both {u = u} {v = v} g h follows = record { reads = λ number brackets stack. then_reads (g.reads number brackets stack) (h.reads number brackets stack) follows; plain = plain_both u v g.plain h.plain }

pub flat_more : {F G : ℕ → Bool} {u : List ℕ} {ws : List Word} → Flat F u ws → ((b : ℕ) → G b ≡ false → F b ≡ false) → Flat G u ws
flat_more g less = record { reads = λ number brackets stack. stops_more (g.reads number brackets stack) less; plain = g.plain }

pub flat_nothing : {F : ℕ → Bool} → Flat F [] []
flat_nothing = record { reads = λ number brackets stack. reads_nothing; plain = refl }

-- a text in parentheses
pub flat_round : {F : ℕ → Bool} {u : List ℕ} {ws : List Word} → Flat F u ws → F 41 ≡ false → Flat none (40 ∷ u ++ 41 ∷ []) (Symbol symbol.OpenRound ∷ ws ++ Symbol symbol.CloseRound ∷ [])
flat_round {F} {u} {ws} g stops = record {
  reads = λ number brackets stack.
      then_reads (reads_open none number brackets stack)
      (then_reads (g.reads number (brackets + 1) stack) (reads_close none number brackets stack) (λ rest _. stops))
      (λ rest _. none_first ((u ++ 41 ∷ []) ++ rest));
  plain = plain_both u (41 ∷ []) g.plain refl;
}

-- a comma and a space before a text
pub flat_comma : {F : ℕ → Bool} {u : List ℕ} {ws : List Word} → Flat F u ws → Flat F (44 ∷ 32 ∷ u) (Symbol symbol.Comma ∷ ws)
flat_comma {F} {u} {ws} g = record {
  reads = λ number brackets stack.
      then_reads (reads_comma none number brackets stack)
      (then_reads (reads_space none number brackets stack) (g.reads number brackets stack) (λ rest _. none_first (u ++ rest)))
      (λ rest _. none_first ((32 ∷ u) ++ rest));
  plain = g.plain;
}

-- a comma behind a text
pub flat_comma_behind : {F : ℕ → Bool} {u : List ℕ} {ws : List Word} → Flat F u ws → F 44 ≡ false → Flat none (u ++ 44 ∷ []) (ws ++ Symbol symbol.Comma ∷ [])
flat_comma_behind {u = u} g stops = record { reads = λ number brackets stack. then_reads (g.reads number brackets stack) (reads_comma none number brackets stack) (λ rest _. stops); plain = plain_both u (44 ∷ []) g.plain refl }
