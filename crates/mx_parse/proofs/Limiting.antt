-- The answers for a tree within its limits, and for one past them.
use Rattle.std.proofs.Common.{◌≡◌, ℕ, ◌<◌, true, false, nat_le, List, Some, None, Ok, Err, sym, subst, ◌∙◌, inl, inr}
use Rattle.std.proofs.lemmas.Bool.Decides.{leb_tells}
use Rattle.mx_grammar.specs.declared.refusal.ParseRefusal.TheVariants.{TooManyLoops, PrintsTooLong}
use Rattle.mx_grammar.specs.Spelling.{Language, SpellsIn}
use Rattle.mx_grammar.specs.Limits.{Limits, IsShort, IsLong, AnswersWithin}
use Rattle.mx_parse.proofs.FewLoops.{le_is}

more_than : (a m : ℕ) → nat_le a m ≡ false → m < a
more_than a m h = elim (leb_tells a m) [ inl t ↦ absurd (let e = sym h ∙ t.0 in cc) | inr t ↦ t.1 ]

module _ {A : Type 0} (L : Language A) (limits : Limits A) (source : List ℕ) (y : A) (spells : SpellsIn L source y) where
  pub too_many : nat_le (limits.loops y) 8 ≡ false → AnswersWithin L limits source (Err TooManyLoops)
  too_many h = inr (record { tree = y; spells = spells; past = more_than (limits.loops y) 8 h })

  pub too_long : nat_le (limits.loops y) 8 ≡ true → (text : List ℕ) → limits.printed y ≡ Some text → IsLong (Some text) → AnswersWithin L limits source (Err PrintsTooLong)
  too_long h text is long = inr (record { tree = y; spells = spells; past = (le_is (limits.loops y) 8 h, subst IsLong (sym is) long) })

  pub within : nat_le (limits.loops y) 8 ≡ true → (text : List ℕ) → limits.printed y ≡ Some text → IsShort (Some text) → AnswersWithin L limits source (Ok y)
  within h text is short = (spells, record { loops = le_is (limits.loops y) 8 h; short = subst IsShort (sym is) short })

  pub unprinted : nat_le (limits.loops y) 8 ≡ true → limits.printed y ≡ None → AnswersWithin L limits source (Ok y)
  unprinted h is = (spells, record { loops = le_is (limits.loops y) 8 h; short = subst IsShort (sym is) tt })
