-- A part in a small language has one answer at most.
use Rattle.std.proofs.Common.{◌≡◌, ℕ, ◌+◌, Bool, true, false, List, Result, Ok, Err, sym, ap, subst, ◌∙◌}
use Rattle.mx_lex.specs.declared.Token.{Token}
use Rattle.mx_lex.specs.declared.LexRefusal.{LexRefusal}
use Rattle.mx_lex.specs.Lexing.{tokens_of}
use Rattle.mx_grammar.specs.declared.word.Word.{Word}
use Rattle.mx_grammar.specs.declared.refusal.ParseRefusal.TheVariants.{Lex, TooNested}
use Rattle.mx_grammar.specs.Reading.{Parser}
use Rattle.mx_grammar.specs.Spelling.{Language, words_of, Spells, Shallow, DeepAt, NestedAt, unopened, UnexpectedIn, PlaceOf}
use Rattle.mx_grammar.proofs.OpenCount.{one_depth, not_both}
use Rattle.mx_grammar.proofs.Texts.{Exactly, one_tree}
use Rattle.mx_grammar.proofs.Answering.{tokens_same, no_tokens, lex_same, one_place, not_spelled, place_same}
use Rattle.mx_words.specs.declared.command.FormRefusal.{FormRefusal}
use Rattle.mx_words.specs.declared.command.FormRefusal.TheVariants.{BadForm, Parse}
use Rattle.mx_words.specs.Parts.{moved, IsBounded, IsRead, Says, MisplacedAt, Unreadable, PartRefused, PartAnswers, Answer, Sequel, Onward, Decides}

bounded_is : (b : Bool) → b ≡ true → (words : List Word) → IsBounded b words → Shallow 64 unopened words
bounded_is true h words s = s
bounded_is false h words s = absurd cc

module _ (bounded : Bool) (lead : ℕ) (part : List ℕ) where
  words_same : (s t : List Token) (u v : List Word) → IsRead bounded part s u → IsRead bounded part t v → (s ≡ t) × (u ≡ v)
  words_same s t u v p q =
      let same = tokens_same s t (tokens_of part) p.lexed q.lexed in
      (same, p.are ∙ ap (words_of part) same ∙ sym q.are)

  read_refused : (s : List Token) (u : List Word) (e : FormRefusal) → IsRead bounded part s u → Unreadable bounded lead part e → ⊥
  read_refused s u _ p (Unreadable.lexing {e} h) = no_tokens s e (tokens_of part) p.lexed h
  read_refused s u _ p (Unreadable.nested {place} b h) =
      let same = tokens_same s h.tokens (tokens_of part) p.lexed h.lexed in
      not_both 64 unopened (words_of part h.tokens) h.left (subst (Shallow 64 unopened) (p.are ∙ ap (words_of part) same) (bounded_is bounded b u p.shallow)) h.deep

  nested_same : (m n : ℕ) → NestedAt part m → NestedAt part n → m ≡ n
  nested_same m n a b =
      let same = tokens_same b.tokens a.tokens (tokens_of part) b.lexed a.lexed in
      let left = one_depth 64 unopened (words_of part a.tokens) a.left b.left a.deep (subst (λ (ts : List Token). DeepAt 64 unopened (words_of part ts) b.left) same b.deep) in
      let there : PlaceOf a.tokens a.left n = subst (λ (k : ℕ). PlaceOf a.tokens k n) (sym left) (subst (λ (ts : List Token). PlaceOf ts b.left n) same b.at) in
      place_same a.tokens a.left m n a.at there

  one_unread : (d e : FormRefusal) → Unreadable bounded lead part d → Unreadable bounded lead part e → d ≡ e
  one_unread _ _ (Unreadable.lexing {e = d} h) (Unreadable.lexing {e} k) = ap (λ (f : LexRefusal). Parse (Lex (moved lead f))) (lex_same d e (tokens_of part) h k)
  one_unread _ _ (Unreadable.lexing {e} h) (Unreadable.nested {place} b k) = absurd (no_tokens k.tokens e (tokens_of part) k.lexed h)
  one_unread _ _ (Unreadable.nested {place} b h) (Unreadable.lexing {e} k) = absurd (no_tokens h.tokens e (tokens_of part) h.lexed k)
  one_unread _ _ (Unreadable.nested {place = m} b h) (Unreadable.nested {place = n} c k) = ap (λ (p : ℕ). Parse (TooNested (lead + p))) (nested_same m n h k)

module _ {A : Type 0} (L : Language A) (P : ℕ → Parser A) (x : Exactly L P) (bounded : Bool) (lead : ℕ) (part : List ℕ) where
  one_said : (a b : A) → Says L bounded part a → Says L bounded part b → a ≡ b
  one_said a b p q =
      let same = words_same bounded lead part q.tokens p.tokens q.words p.words q.read p.read in
      one_tree L P x p.words a b p.spells (subst (λ (ws : List Word). Spells L ws b) same.1 q.spells)

  said_misplaced : (a : A) (place : ℕ) → Says L bounded part a → MisplacedAt L bounded part place → ⊥
  said_misplaced a place p q =
      let same = words_same bounded lead part p.tokens q.tokens p.words q.words p.read q.read in
      not_spelled L q.words q.left a q.unexpected (subst (λ (ws : List Word). Spells L ws a) same.1 p.spells)

  said_refused : (a : A) (e : FormRefusal) → Says L bounded part a → PartRefused L bounded lead part e → ⊥
  said_refused a _ p (PartRefused.unread {e} h) = read_refused bounded lead part p.tokens p.words e p.read h
  said_refused a _ p (PartRefused.misplaced {place} h) = said_misplaced a place p h

  misplaced_same : (m n : ℕ) → MisplacedAt L bounded part m → MisplacedAt L bounded part n → m ≡ n
  misplaced_same m n p q =
      let same = words_same bounded lead part q.tokens p.tokens q.words p.words q.read p.read in
      let left = one_place L p.words p.left q.left p.unexpected (subst (λ (ws : List Word). UnexpectedIn L ws q.left) same.1 q.unexpected) in
      let there : PlaceOf p.tokens p.left n = subst (λ (k : ℕ). PlaceOf p.tokens k n) (sym left) (subst (λ (ts : List Token). PlaceOf ts q.left n) same.0 q.at) in
      place_same p.tokens p.left m n p.at there

  one_refusal : (d e : FormRefusal) → PartRefused L bounded lead part d → PartRefused L bounded lead part e → d ≡ e
  one_refusal _ _ (PartRefused.unread {e = d} h) (PartRefused.unread {e} k) = one_unread bounded lead part d e h k
  one_refusal _ _ (PartRefused.unread {e} h) (PartRefused.misplaced {place} k) = absurd (read_refused bounded lead part k.tokens k.words e k.read h)
  one_refusal _ _ (PartRefused.misplaced {place} h) (PartRefused.unread {e} k) = absurd (read_refused bounded lead part h.tokens h.words e h.read k)
  one_refusal _ _ (PartRefused.misplaced {place = m} h) (PartRefused.misplaced {place = n} k) = ap (λ (p : ℕ). BadForm (lead + p)) (misplaced_same m n h k)

  abbrev okay : A → Result A FormRefusal
  okay y = Ok y

  abbrev refused : FormRefusal → Result A FormRefusal
  refused e = Err e

  pub one_part : (r s : Result A FormRefusal) → PartAnswers L bounded lead part r → PartAnswers L bounded lead part s → r ≡ s
  one_part (Ok a) (Ok b) p q = ap okay (one_said a b p q)
  one_part (Ok a) (Err e) p q = absurd (said_refused a e p q)
  one_part (Err d) (Ok b) p q = absurd (said_refused b d q p)
  one_part (Err d) (Err e) p q = ap refused (one_refusal d e p q)

-- ---- one part after the other

-- it holds of one answer at most
abbrev pub Unique : {R : Type 0} → (R → Type 0) → Type 0
Unique {R} F = (r s : R) → F r → F s → r ≡ s

pub one_sequel : {R : Type 0} (First : R → Type 0) (Next : R → Answer → Type 0) → Unique First → ((r : R) → Unique (Next r)) → Unique (Sequel First Next)
one_sequel First Next u v r s p q = v p.part r s p.rest (subst (λ (t : _). Next t s) (u q.part p.part q.first p.first) q.rest)

pub one_onward : {A : Type 0} (Next : A → Answer → Type 0) → ((x : A) → Unique (Next x)) → (r : Result A FormRefusal) → Unique (Onward Next r)
one_onward Next v (Ok x) r s p q = v x r s p q
one_onward Next v (Err e) r s p q = p ∙ sym q

pub one_decides : {R : Type 0} (First : R → Type 0) (done : R → Answer) → Unique First → Unique (Decides First done)
one_decides First done u = one_sequel First (λ r answer. answer ≡ done r) u (λ r a b p q. p ∙ sym q)
