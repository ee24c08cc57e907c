-- The parsers of what small languages are made of are exact.
use Rattle.std.proofs.Common.{◌≡◌, ◌==◌, ℕ, Bool, true, false, List, [], ◌∷◌, ◌++◌, Some, refl, sym, ap, subst, ◌∙◌, inl, inr}
use Rattle.std.specs.Cmp.Lexicographic.{pointwise}
use Rattle.std.proofs.lemmas.List.{append-nil}
use Rattle.mx_value.proofs.Enums.{text_decides}
use Rattle.mx_grammar.specs.declared.word.Symbol.{Symbol}
use Rattle.mx_grammar.specs.declared.word.Symbol.TheVariants as symbol
use Rattle.mx_grammar.specs.declared.word.Word.{Word}
use Rattle.mx_grammar.specs.declared.word.Word.TheVariants as word
use Rattle.mx_grammar.specs.Words.{is}
use Rattle.mx_grammar.specs.Grammar.{Line}
use Rattle.mx_grammar.specs.Reading.{Words, Parser, ◌>>=◌, ◌>>◌, pure, accept, seen, sees, expect, line}
use Rattle.mx_grammar.specs.AddressParsers.{name_of}
use Rattle.mx_grammar.proofs.Exact.{Rel, Kinds, Stops, none, stops_none, Exists, Nothing, Then, Either, One}
use Rattle.mx_grammar.proofs.Rules.{Knot, Rule, plain, pure_rule, accept_rule, then_rule, iff_rule, map_rule, mapped, mapping, choose_rule, Mark, mark_rule}
use Rattle.mx_grammar.proofs.AddressRules.{name_inner, one_name, named}
use Rattle.mx_grammar.proofs.Lines.{line_rule, some_line}
use Rattle.mx_grammar.proofs.Texts.{Exactly}
use Rattle.mx_words.specs.Combined.{Mapped, Both, Sign, NameText, TheName, the_first, the_second, Ended, Behind, Worded}
use Rattle.mx_words.specs.HeadParsers.{word as command_word, worded, ended}
use Rattle.mx_words.specs.PhraseParsers.{that_name, the_name}

-- ---- a line in a language without brackets

pub one_knot : Knot (Unit {0})
one_knot = record { inner = tt; more = tt }

pub flat : {A : Type 0} {R : Rel A} {P : Parser A} (F : Kinds) → F (word.Symbol symbol.Newline) ≡ false → ((k : ℕ) → Rule one_knot k (plain F) R (λ _. P)) → Exists R → Exactly (λ n. Line R) (λ n. line P)
flat F stops r some = record {
  exact = λ n. (line_rule {K = one_knot} {k = n} stops (r n)).exact;
  meets = λ n m le. (line_rule {K = one_knot} {k = n} stops (r n)).meets;
  some = λ n. some_line some;
}

-- ---- a function of what is read

to_mapped : {A B : Type 0} (R : Rel A) (f : A → B) (u : Words) (b : B) → Then R (λ a. Nothing (f a)) u b → Mapped R f u b
to_mapped R f u b h = let m = mapped R f u b h in subst (Mapped R f u) (sym m.2) (Mapped.mapped m.1)

from_mapped : {A B : Type 0} (R : Rel A) (f : A → B) (u : Words) (b : B) → Mapped R f u b → Then R (λ a. Nothing (f a)) u b
from_mapped R f _ _ (Mapped.mapped {u} {x} h) = mapping R f u x h

pub as_rule : {E A B : Type 0} {K : Knot E} {k : ℕ} {F : Kinds} {R : Rel A} {P : E → Parser A} (f : A → B) → Rule K k (plain F) R P → Rule K k (plain F) (Mapped R f) (λ i. P i >>= λ a. pure (f a))
as_rule {R} f p = iff_rule (to_mapped R f) (from_mapped R f) (map_rule f p)

pub some_as : {A B : Type 0} {R : Rel A} (f : A → B) → Exists R → Exists (Mapped R f)
some_as f some = record { tokens = some.tokens; tree = f some.tree; spells = Mapped.mapped some.spells }

-- ---- one behind the other

module _ {A B C : Type 0} (R : Rel A) (S : Rel B) (f : A → B → C) where
  abbrev Pair : Rel C
  Pair = Then R (λ a. Then S (λ b. Nothing (f a b)))

  to_both : (u : Words) (c : C) → Pair u c → Both R S f u c
  to_both u c h =
      let m = mapped S (f h.tree) h.right c h.second in
      subst (λ (v : Words). Both R S f v c) (sym h.parts) (subst (Both R S f (h.left ++ h.right)) (sym m.2) (Both.both h.first m.1))

  from_both : (u : Words) (c : C) → Both R S f u c → Pair u c
  from_both _ _ (Both.both {u} {v} {x} {y} h k) = record { left = u; right = v; tree = x; parts = refl; first = h; second = mapping S (f x) v y k }

pub both_rule : {E A B C : Type 0} {K : Knot E} {k : ℕ} {F G : Kinds} {R : Rel A} {S : Rel B} {P : E → Parser A} {Q : E → Parser B} (f : A → B → C) → Rule K k (plain F) R P → Rule K k (plain G) S Q
    → ((v rest : Words) (b : B) → S v b → Stops G rest → Stops F (v ++ rest)) → Exists S → Rule K k (plain G) (Both R S f) (λ i. P i >>= λ a. Q i >>= λ b. pure (f a b))
both_rule {F} {G} {R} {S} f p q fits some =
    iff_rule (to_both R S f) (from_both R S f)
    (then_rule p (λ a. map_rule (f a) q)
    (λ a v rest c h s. let m = mapped S (f a) v c h in fits v rest m.0 m.1 s)
    (λ a. record { tokens = some.tokens; tree = f a some.tree; spells = mapping S (f a) some.tokens some.tree some.spells }))

pub some_both : {A B C : Type 0} {R : Rel A} {S : Rel B} (f : A → B → C) → Exists R → Exists S → Exists (Both R S f)
some_both f r s = record { tokens = r.tokens ++ s.tokens; tree = f r.tree s.tree; spells = Both.both r.spells s.spells }

-- where nothing is kept of the first
pub after_rule : {E A B : Type 0} {K : Knot E} {k : ℕ} {G : Kinds} {R : Rel A} {S : Rel B} {P : E → Parser A} {Q : E → Parser B} → Rule K k (plain none) R P → Rule K k (plain G) S Q → Exists S → Rule K k (plain G) (Both R S the_second) (λ i. P i >> Q i)
after_rule {R} {S} p q some = iff_rule (to_after R S) (from_after R S) (then_rule p (λ _. q) (λ a v rest b h s. stops_none (v ++ rest)) (λ _. some))
  where
    to_after : {A B : Type 0} (R : Rel A) (S : Rel B) (u : Words) (b : B) → Then R (λ _. S) u b → Both R S the_second u b
    to_after R S u b h = subst (λ (v : Words). Both R S the_second v b) (sym h.parts) (Both.both h.first h.second)

    from_after : {A B : Type 0} (R : Rel A) (S : Rel B) (u : Words) (b : B) → Both R S the_second u b → Then R (λ _. S) u b
    from_after R S _ _ (Both.both {u} {v} {x} {y} h k) = record { left = u; right = v; tree = x; parts = refl; first = h; second = k }

-- ---- symbols and names

pub sign_rule : {E : Type 0} {K : Knot E} {k : ℕ} (s : Symbol) → is symbol.End (word.Symbol s) ≡ false → Rule K k (plain none) (Sign s) (λ _. expect s)
sign_rule s inner = iff_rule (to_sign s) (from_sign s) (mark_rule s inner)
  where
    to_sign : (s : Symbol) (u : Words) (a : Unit {0}) → Mark s u a → Sign s u a
    to_sign s u a h = subst (λ (v : Words). Sign s v a) (sym h) Sign.sign

    from_sign : (s : Symbol) (u : Words) (a : Unit {0}) → Sign s u a → Mark s u a
    from_sign s _ _ Sign.sign = refl

pub some_sign : (s : Symbol) → Exists (Sign s)
some_sign s = record { tokens = word.Symbol s ∷ []; tree = tt; spells = Sign.sign }

pub sees_sign : (s : Symbol) (F : Kinds) (c : Bool) → F (word.Symbol s) ≡ c → (u rest : Words) (a : Unit {0}) → Sign s u a → sees F (u ++ rest) ≡ c
sees_sign s F c h _ rest _ Sign.sign = h

pub sees_behind : {A : Type 0} (s : Symbol) (R : Rel A) (F : Kinds) (c : Bool) → F (word.Symbol s) ≡ c → (u rest : Words) (x : A) → Behind s R u x → sees F (u ++ rest) ≡ c
sees_behind s R F c e _ rest _ (Both.both Sign.sign k) = e

pub ended_rule : {E A : Type 0} {K : Knot E} {k : ℕ} {F : Kinds} {R : Rel A} {P : E → Parser A} (s : Symbol) → is symbol.End (word.Symbol s) ≡ false → F (word.Symbol s) ≡ false → Rule K k (plain F) R P → Rule K k (plain none) (Ended s R) (λ i. ended s (P i))
ended_rule {F} s inner off p = both_rule the_first p (sign_rule s inner) (λ v rest a h st. sees_sign s F false off v rest a h) (some_sign s)

pub some_ended : {A : Type 0} {R : Rel A} (s : Symbol) → Exists R → Exists (Ended s R)
some_ended s some = some_both the_first some (some_sign s)

pub name_rule : {E : Type 0} {K : Knot E} {k : ℕ} → Rule K k (plain none) NameText (λ _. accept name_of)
name_rule = iff_rule (λ u n h. subst (λ (v : Words). NameText v n) (sym (named u n h)) NameText.name) from_name (accept_rule name_of name_inner)
  where
    from_name : (u : Words) (n : List ℕ) → NameText u n → One name_of u n
    from_name _ _ (NameText.name {n}) = one_name n

pub some_name : Exists NameText
some_name = record { tokens = word.Name [] ∷ []; tree = []; spells = NameText.name }

seen_true : (b : Bool) (a : Unit {0}) → seen b ≡ Some a → b ≡ true
seen_true true a h = refl
seen_true false a h = absurd cc

name_is : (n : List ℕ) (t : Word) (a : Unit {0}) → that_name n t ≡ Some a → t ≡ word.Name n
name_is n (word.Name m) a h = ap word.Name ((text_decides m n).0 (seen_true (pointwise ◌==◌ m n) a h))
name_is n _ a h = absurd cc

pub the_name_rule : {E : Type 0} {K : Knot E} {k : ℕ} (n : List ℕ) → Rule K k (plain none) (TheName n) (λ _. the_name n)
the_name_rule n = iff_rule (to_the n) (from_the n) (accept_rule (that_name n) (λ t a h. ap (is symbol.End) (name_is n t a h)))
  where
    to_the : (n : List ℕ) (u : Words) (a : Unit {0}) → One (that_name n) u a → TheName n u a
    to_the n u a h = subst (λ (v : Words). TheName n v a) (sym (h.is ∙ ap (λ (t : Word). t ∷ []) (name_is n h.token a h.what))) TheName.name

    from_the : (n : List ℕ) (u : Words) (a : Unit {0}) → TheName n u a → One (that_name n) u a
    from_the n _ _ TheName.name = record { token = word.Name n; is = refl; what = ap seen ((text_decides n n).1 refl) }

pub some_the : (n : List ℕ) → Exists (TheName n)
some_the n = record { tokens = word.Name n ∷ []; tree = tt; spells = TheName.name }

-- ---- a command's word, and what stands behind it

abbrev NamedWord : Rel (Unit {0})
NamedWord = Then (One name_of) (λ _. Nothing tt)

abbrev WordIs : Rel (Unit {0})
WordIs = Either (Mark symbol.Unused) NamedWord

named_off : (u rest : Words) (a : Unit {0}) → NamedWord u a → sees (is symbol.Unused) (u ++ rest) ≡ false
named_off u rest a h = ap (λ (v : Words). sees (is symbol.Unused) (v ++ rest)) (h.parts ∙ ap (λ (v : Words). v ++ h.right) (named h.left h.tree h.first))

word_rule : {E : Type 0} {K : Knot E} {k : ℕ} → Rule K k (plain none) WordIs (λ _. command_word)
unfolding command_word
word_rule =
    choose_rule (is symbol.Unused) (mark_rule symbol.Unused refl)
    (then_rule (accept_rule name_of name_inner) (λ _. pure_rule (plain none) tt) (λ a v rest b h s. stops_none (v ++ rest)) (λ _. record { tokens = []; tree = tt; spells = (refl, refl) }))
    (λ u rest a h s. ap (λ (v : Words). sees (is symbol.Unused) (v ++ rest)) h)
    (λ u rest a h s. named_off u rest a h)

module _ {A : Type 0} (R : Rel A) where
  to_worded : (u : Words) (x : A) → Then WordIs (λ _. R) u x → Worded R u x
  to_worded u x h = elim h.first [
    | inl m ↦ subst (λ (v : Words). Worded R v x) (sym (h.parts ∙ ap (λ (v : Words). v ++ h.right) m)) (Worded.keyword h.second)
    | inr w ↦
        let front : h.left ≡ word.Name w.tree ∷ [] = w.parts ∙ ap (λ (v : Words). w.left ++ v) w.second.0 ∙ append-nil w.left ∙ named w.left w.tree w.first in
        subst (λ (v : Words). Worded R v x) (sym (h.parts ∙ ap (λ (v : Words). v ++ h.right) front)) (Worded.named h.second)
  ]

  from_worded : (u : Words) (x : A) → Worded R u x → Then WordIs (λ _. R) u x
  from_worded _ _ (Worded.keyword {u} {x} h) = record { left = word.Symbol symbol.Unused ∷ []; right = u; tree = tt; parts = refl; first = inl refl; second = h }
  from_worded _ _ (Worded.named {w} {u} {x} h) = record { left = word.Name w ∷ []; right = u; tree = tt; parts = refl; first = inr (record { left = word.Name w ∷ []; right = []; tree = w; parts = refl; first = one_name w; second = (refl, refl) }); second = h }

pub worded_rule : {E A : Type 0} {K : Knot E} {k : ℕ} {F : Kinds} {R : Rel A} {P : E → Parser A} → Exists R → Rule K k (plain F) R P → Rule K k (plain F) (Worded R) (λ i. worded (P i))
worded_rule {R} some p = iff_rule (to_worded R) (from_worded R) (then_rule word_rule (λ _. p) (λ a v rest b h s. stops_none (v ++ rest)) (λ _. some))

pub some_worded : {A : Type 0} {R : Rel A} → Exists R → Exists (Worded R)
some_worded some = record { tokens = word.Symbol symbol.Unused ∷ some.tokens; tree = some.tree; spells = Worded.keyword some.spells }
