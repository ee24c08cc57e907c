-- Tokens at which too many brackets are open, and those at which none are.
use Rattle.std.proofs.Common.{◌≡◌, ℕ, ◌≤◌, ◌<◌, [], ◌∷◌, length, arith, inl, inr}
use Rattle.mx_grammar.specs.declared.nesting.Open.{Open}
use Rattle.mx_grammar.specs.Reading.{Words}
use Rattle.mx_grammar.specs.Spelling.{Shallow, DeepAt, behind_word, open_count, unopened}

-- both cannot be
pub not_both : (d : ℕ) (n : Open) (ts : Words) (left : ℕ) → Shallow d n ts → DeepAt d n ts left → ⊥
not_both d n [] left s p = absurd p
not_both d n (t ∷ ts) left s (inl p) = let q : open_count (behind_word t n) ≤ d = s.0 in let r : d < open_count (behind_word t n) = p.0 in absurd (omega arith)
not_both d n (t ∷ ts) left s (inr p) = not_both d (behind_word t n) ts left s.1 p.1

-- there is one such place
pub one_depth : (d : ℕ) (n : Open) (ts : Words) (a b : ℕ) → DeepAt d n ts a → DeepAt d n ts b → a ≡ b
one_depth d n [] a b p q = absurd p
one_depth d n (t ∷ ts) a b (inl p) (inl q) = omega (arith, p.1, q.1)
one_depth d n (t ∷ ts) a b (inl p) (inr q) = let r : d < open_count (behind_word t n) = p.0 in let s : open_count (behind_word t n) ≤ d = q.0 in absurd (omega arith)
one_depth d n (t ∷ ts) a b (inr p) (inl q) = let r : d < open_count (behind_word t n) = q.0 in let s : open_count (behind_word t n) ≤ d = p.0 in absurd (omega arith)
one_depth d n (t ∷ ts) a b (inr p) (inr q) = one_depth d (behind_word t n) ts a b p.1 q.1

-- it is a token's
pub deep_within : (d : ℕ) (n : Open) (ts : Words) (a : ℕ) → DeepAt d n ts a → (0 < a) × (a ≤ length ts)
deep_within d n [] a p = absurd p
deep_within d n (t ∷ ts) a (inl p) = (omega (arith, p.1), omega (arith, p.1))
deep_within d n (t ∷ ts) a (inr p) = let h = deep_within d (behind_word t n) ts a p.1 in (h.0, omega (arith, h.1))

-- what is known of the tokens that are left is known of all
pub record Keeps (d : ℕ) (n : Open) (rest all : Words) : Type 0 where
  pub shallow : Shallow d n rest → Shallow d unopened all
  pub deep : (left : ℕ) → DeepAt d n rest left → DeepAt d unopened all left
