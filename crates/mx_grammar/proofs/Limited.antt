-- There is one answer for each source of a language with limits.
use Rattle.std.proofs.Common.{◌≡◌, ◌≢◌, ℕ, ◌≤◌, List, length, Option, Some, None, Result, Ok, Err, refl, sym, ap, subst, arith, inl, inr}
use Rattle.mx_grammar.specs.declared.refusal.ParseRefusal.{ParseRefusal}
use Rattle.mx_grammar.specs.declared.refusal.ParseRefusal.TheVariants.{TooManyLoops, PrintsTooLong, NoMemory}
use Rattle.mx_grammar.specs.Reading.{Parser}
use Rattle.mx_grammar.specs.Spelling.{Language, SpellsIn, Unless}
use Rattle.mx_grammar.specs.Limits.{Limits, IsShort, IsLong, IsWithin, IsPast, SpellsPast, AnswersWithin}
use Rattle.mx_grammar.proofs.Texts.{Exactly}
use Rattle.mx_grammar.proofs.Answering.{one_answer}

not_long : (text : Option (List ℕ)) → IsShort text → IsLong text → ⊥
not_long None short long = absurd long
not_long (Some text) short (inl more) = absurd (let less : length text ≤ 65536 = short.0 in omega (arith, more, less))
not_long (Some text) short (inr nested) = short.1 nested.0 nested.1

module _ {A : Type 0} (limits : Limits A) where
  pub not_past : (x : A) (e : ParseRefusal) → IsWithin limits x → IsPast limits x e → ⊥
  not_past x TooManyLoops within past = absurd (let less : limits.loops x ≤ 8 = within.loops in omega (arith, past, less))
  not_past x PrintsTooLong within past = not_long (limits.printed x) within.short past.1
  not_past x _ within past = past

  past_same : (x : A) (d e : ParseRefusal) → IsPast limits x d → IsPast limits x e → d ≡ e
  past_same x TooManyLoops TooManyLoops p q = refl
  past_same x TooManyLoops PrintsTooLong p q = absurd (let less : limits.loops x ≤ 8 = q.0 in omega (arith, p, less))
  past_same x PrintsTooLong TooManyLoops p q = absurd (let less : limits.loops x ≤ 8 = p.0 in omega (arith, q, less))
  past_same x PrintsTooLong PrintsTooLong p q = refl
  past_same x TooManyLoops _ p q = absurd q
  past_same x PrintsTooLong _ p q = absurd q
  past_same x _ e p q = absurd p

module _ {A : Type 0} (L : Language A) (P : ℕ → Parser A) (x : Exactly L P) (limits : Limits A) (source : List ℕ) where
  abbrev okay : A → Result A ParseRefusal
  okay y = Ok y

  abbrev refused : ParseRefusal → Result A ParseRefusal
  refused e = Err e

  same_tree : (y z : A) → SpellsIn L source y → SpellsIn L source z → y ≡ z
  same_tree y z a b = let same : okay y ≡ okay z = one_answer L P x source (Ok y) (Ok z) a b in cc

  no_tree : {C : Type 0} (y : A) (e : ParseRefusal) → okay y ≡ refused e → C
  no_tree y e h = absurd cc

  within_and_past : (y : A) (e : ParseRefusal) → SpellsIn L source y → IsWithin limits y → SpellsPast L limits source e → ⊥
  within_and_past y e spells within past = not_past limits past.tree e (subst (IsWithin limits) (same_tree y past.tree spells past.spells) within) past.past

  pub one_within : (r s : Result A ParseRefusal) → AnswersWithin L limits source r → AnswersWithin L limits source s → r ≡ s
  one_within (Ok y) (Ok z) a b = one_answer L P x source (Ok y) (Ok z) a.0 b.0
  one_within (Ok y) (Err e) a (inl b) = one_answer L P x source (Ok y) (Err e) a.0 b
  one_within (Ok y) (Err e) a (inr b) = absurd (within_and_past y e a.0 a.1 b)
  one_within (Err d) (Ok z) (inl a) b = one_answer L P x source (Err d) (Ok z) a b.0
  one_within (Err d) (Ok z) (inr a) b = absurd (within_and_past z d b.0 b.1 a)
  one_within (Err d) (Err e) (inl a) (inl b) = one_answer L P x source (Err d) (Err e) a b
  one_within (Err d) (Err e) (inl a) (inr b) = no_tree b.tree d (sym (one_answer L P x source (Err d) (Ok b.tree) a b.spells))
  one_within (Err d) (Err e) (inr a) (inl b) = no_tree a.tree e (one_answer L P x source (Ok a.tree) (Err e) a.spells b)
  one_within (Err d) (Err e) (inr a) (inr b) = ap refused (past_same limits a.tree d e a.past (subst (λ (t : A). IsPast limits t e) (same_tree b.tree a.tree b.spells a.spells) b.past))

  -- what is an answer wherever there is memory is the only one
  pub only_within : (r : Result A ParseRefusal) → (r ≢ Err NoMemory → AnswersWithin L limits source r) → (answer : Result A ParseRefusal) → AnswersWithin L limits source answer → Unless answer r
  only_within (Ok y) found answer h = one_within answer (Ok y) h (found (λ e. absurd cc))
  only_within (Err e) found answer h = λ ne. one_within answer (Err e) h (found (λ f. ne (let same : e ≡ NoMemory = cc in same)))
