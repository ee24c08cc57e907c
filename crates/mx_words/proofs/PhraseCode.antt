-- What the code's steps say of a token that has to be a number or a name.
use Rattle.std.proofs.Common.{◌≡◌, ℕ, ◌<◌, ◌≤◌, ◌^◌, Bool, true, false, ℤ, pos, negsuc, unsigned_abs, nat_lt, [], ◌∷◌, length, suc, Option, Some, None, Ok, Err, refl, sym, ap, ◌∙◌, arith}
use Rattle.std.specs.Int.{FitsUnsignedBits}
use Rattle.std.proofs.lemmas.Bool.Decides.{Decides-ltb}
use Rattle.mx_grammar.specs.declared.word.Word.{Word}
use Rattle.mx_grammar.specs.declared.trouble.Trouble.{Trouble}
use Rattle.mx_grammar.specs.declared.trouble.Trouble.TheVariants.{Unexpected}
use Rattle.mx_grammar.specs.LiteralParsers.{fitting}
use Rattle.mx_grammar.specs.Reading.{Words, accept, taken}
use Rattle.mx_grammar.proofs.Exact.{ok_pair}
use Rattle.mx_words.specs.PhraseParsers.{onto, small}

module _ {A B : Type 0} (says : Word → Option A) (f : A → Option B) where
  abbrev pub further : Word → Option B
  further t = onto (says t) f

  taken_on : (ts rest : Words) (n : ℕ) (o : Option A) (a : A) (b : Option B) → taken ts n o ≡ Ok (a, rest) → f a ≡ b → taken ts n (onto o f) ≡ taken rest n b
  taken_on ts rest n (Some c) a b e h = let p = ok_pair {a = c} {b = a} {x = ts} {y = rest} e in ap (λ (x : Words). taken x n (f c)) p.1 ∙ ap (taken rest n) (ap f p.0 ∙ h)
  taken_on ts rest n None a b e h = absurd cc

  taken_off : (ts : Words) (n : ℕ) (o : Option A) (e : Trouble) → taken ts n o ≡ Err e → taken ts n (onto o f) ≡ Err e
  taken_off ts n (Some c) e h = absurd cc
  taken_off ts n None e h = cc

  pub says_on : (ts rest : Words) (a : A) (b : B) → accept says ts ≡ Ok (a, rest) → f a ≡ Some b → accept further ts ≡ Ok (b, rest)
  says_on [] rest a b e h = absurd cc
  says_on (t ∷ ts) rest a b e h = taken_on ts rest (suc (length ts)) (says t) a (Some b) e h

  pub says_off : (ts rest : Words) (a : A) → accept says ts ≡ Ok (a, rest) → f a ≡ None → accept further ts ≡ Err (Unexpected (length ts))
  says_off [] rest a e h = absurd cc
  says_off (t ∷ ts) rest a e h = taken_on ts rest (suc (length ts)) (says t) a None e h

  pub says_no : (ts : Words) (e : Trouble) → accept says ts ≡ Err e → accept further ts ≡ Err e
  says_no [] e h = cc
  says_no (t ∷ ts) e h = taken_off ts (suc (length ts)) (says t) e h

over : (b : Bool) (n : ℕ) → nat_lt n (2 ^ 32) ≡ b → 2 ^ 32 ≤ n → None ≡ fitting b n
over true n e h = let l = (Decides-ltb n (2 ^ 32)).0 e in absurd (omega (arith, l, h))
over false n e h = refl

-- numbers of 32 bits, and the others
pub small_fits : (z : ℤ) → FitsUnsignedBits 32 z → Some (unsigned_abs z) ≡ small z
small_fits (pos n) h = let l : n < 2 ^ 32 = grind arith in ap (λ (b : Bool). fitting b n) (sym ((Decides-ltb n (2 ^ 32)).1 l))
small_fits (negsuc n) h = absurd (grind arith)

pub small_misses : (z : ℤ) → (FitsUnsignedBits 32 z → ⊥) → None ≡ small z
small_misses (pos n) h = over (nat_lt n (2 ^ 32)) n refl (grind arith)
small_misses (negsuc n) h = refl
