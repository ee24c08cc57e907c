-- A rule of the grammar: its parser is exact, and meets the one with more levels inside.
use Rattle.std.proofs.Common.{◌≡◌, ℕ, suc, Bool, true, false, [], ◌∷◌, ◌++◌, Option, Some, refl, sym, ap, subst, ◌∙◌}
use Rattle.std.proofs.lemmas.List.{append-nil}
use Rattle.mx_grammar.specs.declared.word.Symbol.{Symbol}
use Rattle.mx_grammar.specs.declared.word.Symbol.TheVariants as symbol
use Rattle.mx_grammar.specs.declared.word.Word.{Word}
use Rattle.mx_grammar.specs.declared.word.Word.TheVariants as word
use Rattle.mx_grammar.specs.Words.{is}
use Rattle.mx_grammar.specs.Reading.{Words, Parser, ◌>>=◌, ◌>>◌, pure, sees, refuse, accept, says, seen, expect, choose, Turn, On, Done, turning}
use Rattle.mx_grammar.proofs.Exact.{Rel, Kinds, Stops, none, stops_none, Exists, Exact, Nothing, Never, pure_exact, refuse_exact, Then, then_exact, Either, choose_exact, One, Inner, accept_exact, iff_exact, more_stops}
use Rattle.mx_grammar.proofs.Meets.{Meets, pure_meets, accept_meets, then_meets, open_meets, choose_meets, loop_meets}
use Rattle.mx_grammar.proofs.Loops.{Turns, Shrinks, loop_exact}
use Rattle.mx_grammar.proofs.Symbols.{only, here, says_true}

-- what parses the parts inside brackets, in some levels and in more
pub record Knot (E : Type 0) : Type 0 where
  pub inner : E
  pub more : E

pub record Rule {E A : Type 0} (K : Knot E) (k : ℕ) (F : A → Kinds) (R : Rel A) (P : E → Parser A) : Type 0 where
  pub exact : Exact F R (P K.inner)
  pub meets : Meets k (P K.inner) (P K.more)

abbrev pub plain : {A : Type 0} → Kinds → A → Kinds
plain F a = F

pub pure_rule : {E A : Type 0} {K : Knot E} {k : ℕ} (F : A → Kinds) (a : A) → Rule K k F (Nothing a) (λ _. pure a)
pure_rule {k} F a = record { exact = pure_exact F a; meets = pure_meets k a }

pub refuse_rule : {E A : Type 0} {K : Knot E} {k : ℕ} (F : A → Kinds) → Rule K k F Never (λ _. refuse)
refuse_rule {k} F = record { exact = refuse_exact F; meets = record { grows = λ ts rest b e. e; same = λ ts lt. refl; within = λ ts rest a e. absurd cc } }

pub accept_rule : {E A : Type 0} {K : Knot E} {k : ℕ} (says : Word → Option A) → Inner says → Rule K k (plain none) (One says) (λ _. accept says)
accept_rule {k} says inner = record { exact = accept_exact says inner; meets = accept_meets k says }

-- ---- one after the other

-- where the second is known to be a rule only behind what spells the first
pub reached_rule : {E A B : Type 0} {K : Knot E} {k : ℕ} {F : A → Kinds} {G : B → Kinds} {R : Rel A} {Q : A → Rel B} {P : E → Parser A} {f : E → A → Parser B}
    → Rule K k F R P → ((u : Words) (a : A) → R u a → Rule K k G (Q a) (λ i. f i a))
    → ((a : A) (v rest : Words) (b : B) → Q a v b → Stops (G b) rest → Stops (F a) (v ++ rest)) → ((u : Words) (a : A) → R u a → Exists (Q a))
    → Rule K k G (Then R Q) (λ i. P i >>= f i)
reached_rule {K} {k} {F} {G} {R} {Q} {P} {f} p q fits more = record {
  exact = then_exact R Q (P K.inner) (f K.inner) F G p.exact (λ u a h. (q u a h).exact) fits more;
  meets = then_meets (P K.inner) (P K.more) (f K.inner) (f K.more) k p.meets (λ ts rest a e. let one = p.exact.sound ts rest a e in (q one.used a one.spells).meets);
}

pub then_rule : {E A B : Type 0} {K : Knot E} {k : ℕ} {F : A → Kinds} {G : B → Kinds} {R : Rel A} {Q : A → Rel B} {P : E → Parser A} {f : E → A → Parser B}
    → Rule K k F R P → ((a : A) → Rule K k G (Q a) (λ i. f i a))
    → ((a : A) (v rest : Words) (b : B) → Q a v b → Stops (G b) rest → Stops (F a) (v ++ rest)) → ((a : A) → Exists (Q a))
    → Rule K k G (Then R Q) (λ i. P i >>= f i)
then_rule p q fits more = reached_rule p (λ u a h. q a) fits (λ u a h. more a)

pub iff_rule : {E A : Type 0} {K : Knot E} {k : ℕ} {F : A → Kinds} {R S : Rel A} {P : E → Parser A} → ((u : Words) (a : A) → R u a → S u a) → ((u : Words) (a : A) → S u a → R u a) → Rule K k F R P → Rule K k F S P
iff_rule {K} {F} {R} {S} {P} to from p = record { exact = iff_exact F R S (P K.inner) to from p.exact; meets = p.meets }

-- more may be kept from following
pub stops_rule : {E A : Type 0} {K : Knot E} {k : ℕ} {F G : A → Kinds} {R : Rel A} {P : E → Parser A} → ((u rest : Words) (a : A) → R u a → Stops (G a) rest → Stops (F a) rest) → Rule K k F R P → Rule K k G R P
stops_rule {K} {F} {G} {R} {P} to p = record { exact = more_stops F G R (P K.inner) to p.exact; meets = p.meets }

pub any_rule : {E A : Type 0} {K : Knot E} {k : ℕ} {G : A → Kinds} {R : Rel A} {P : E → Parser A} → Rule K k (plain none) R P → Rule K k G R P
any_rule p = stops_rule (λ u rest a h s. stops_none rest) p

-- a function of what is read
pub map_rule : {E A B : Type 0} {K : Knot E} {k : ℕ} {F : Kinds} {R : Rel A} {P : E → Parser A} (f : A → B) → Rule K k (plain F) R P → Rule K k (plain F) (Then R (λ a. Nothing (f a))) (λ i. P i >>= λ a. pure (f a))
map_rule {F} f p = then_rule p (λ a. pure_rule (plain F) (f a)) (λ a v rest b h s. subst (λ (x : Words). Stops F (x ++ rest)) (sym h.0) s) (λ a. record { tokens = []; tree = f a; spells = (refl, refl) })

pub mapped : {A B : Type 0} (R : Rel A) (f : A → B) (u : Words) (b : B) → Then R (λ a. Nothing (f a)) u b → (a : A) × R u a × (b ≡ f a)
mapped R f u b h = (h.tree, subst (λ (x : Words). R x h.tree) (sym (h.parts ∙ ap (λ (x : Words). h.left ++ x) h.second.0 ∙ append-nil h.left)) h.first, h.second.1)

pub mapping : {A B : Type 0} (R : Rel A) (f : A → B) (u : Words) (a : A) → R u a → Then R (λ a. Nothing (f a)) u (f a)
mapping R f u a h = record { left = u; right = []; tree = a; parts = sym (append-nil u); first = h; second = (refl, refl) }

pub remapped : {A B : Type 0} (R : Rel A) (f g : A → B) → ((a : A) → f a ≡ g a) → (u : Words) (b : B) → Then R (λ a. Nothing (f a)) u b → Then R (λ a. Nothing (g a)) u b
remapped R f g same u b h = record { left = h.left; right = h.right; tree = h.tree; parts = h.parts; first = h.first; second = (h.second.0, h.second.1 ∙ same h.tree) }

-- a function that changes nothing
pub unmapped_rule : {E A : Type 0} {K : Knot E} {k : ℕ} {F : Kinds} {R : Rel A} {P : E → Parser A} (f : A → A) → ((a : A) → f a ≡ a) → Rule K k (plain F) (Then R (λ a. Nothing (f a))) P → Rule K k (plain F) R P
unmapped_rule {R} f same p =
    iff_rule (λ u b h. let m = mapped R f u b h in subst (R u) (sym (m.2 ∙ same m.0)) m.1) (λ u b h. subst (Then R (λ a. Nothing (f a)) u) (same b) (mapping R f u b h)) p

pub some_mapped : {A B : Type 0} {R : Rel A} (f : A → B) → Exists R → Exists (Then R (λ a. Nothing (f a)))
some_mapped {R} f some = record { tokens = some.tokens; tree = f some.tree; spells = mapping R f some.tokens some.tree some.spells }

pub some_then : {A B : Type 0} {R : Rel A} {Q : A → Rel B} → Exists R → ((a : A) → Exists (Q a)) → Exists (Then R Q)
some_then r q = let s = q r.tree in record { tokens = r.tokens ++ s.tokens; tree = s.tree; spells = record { left = r.tokens; right = s.tokens; tree = r.tree; parts = refl; first = r.spells; second = s.spells } }

-- ---- a symbol

abbrev pub Mark : Symbol → Rel (Unit {0})
Mark s u a = u ≡ word.Symbol s ∷ []

unit_is : (a : Unit {0}) → a ≡ tt
unit_is a = refl

no_end : (s : Symbol) → is symbol.End (word.Symbol s) ≡ false → Inner (says (is s))
no_end s inner t a h = ap (is symbol.End) (only s t (says_true (is s) t (h ∙ ap Some (unit_is a)))) ∙ inner

pub mark_exact : (s : Symbol) → is symbol.End (word.Symbol s) ≡ false → Exact (plain none) (Mark s) (expect s)
mark_exact s inner = iff_exact (plain none) (One (says (is s))) (Mark s) (expect s)
    (λ u a h. h.is ∙ ap (λ (t : Word). t ∷ []) (only s h.token (says_true (is s) h.token (h.what ∙ ap Some (unit_is a)))))
    (λ u a h. record { token = word.Symbol s; is = h; what = ap seen (here s) ∙ ap Some (sym (unit_is a)) })
    (accept_exact (says (is s)) (no_end s inner))

pub mark_rule : {E : Type 0} {K : Knot E} {k : ℕ} (s : Symbol) → is symbol.End (word.Symbol s) ≡ false → Rule K k (plain none) (Mark s) (λ _. expect s)
mark_rule {k} s inner = record { exact = mark_exact s inner; meets = accept_meets k (says (is s)) }

abbrev pub Behind : {B : Type 0} → Symbol → Rel B → Rel B
Behind s Q = Then (Mark s) (λ _. Q)

-- a symbol, and what follows it
pub behind_rule : {E B : Type 0} {K : Knot E} {k : ℕ} {G : B → Kinds} {Q : Rel B} {f : E → Parser B} (s : Symbol) → is symbol.End (word.Symbol s) ≡ false → Exists Q → Rule K k G Q f → Rule K k G (Behind s Q) (λ i. expect s >> f i)
behind_rule s inner some q = then_rule (mark_rule s inner) (λ _. q) (λ a v rest b h t. stops_none (v ++ rest)) (λ _. some)

-- behind a bracket one level more is there
pub open_rule : {E B : Type 0} {K : Knot E} {k : ℕ} {G : B → Kinds} {Q : Rel B} {f : E → Parser B} (s : Symbol) → is symbol.End (word.Symbol s) ≡ false → Exists Q → Rule K k G Q f → Rule K (suc k) G (Behind s Q) (λ i. expect s >> f i)
open_rule {K} {k} {G} {Q} {f} s inner some q = record {
  exact = then_exact (Mark s) (λ _. Q) (expect s) (λ _. f K.inner) (plain none) G (mark_exact s inner) (λ _ _ _. q.exact) (λ a v rest b h t. stops_none (v ++ rest)) (λ _ _ _. some);
  meets = open_meets k (says (is s)) (λ _. f K.inner) (λ _. f K.more) (λ _. q.meets);
}

pub marked : {B : Type 0} (s : Symbol) (Q : Rel B) (u : Words) (b : B) → Behind s Q u b → (v : Words) × (u ≡ word.Symbol s ∷ v) × Q v b
marked s Q u b h = (h.right, h.parts ∙ ap (λ (x : Words). x ++ h.right) h.first, h.second)

pub mark : {B : Type 0} (s : Symbol) (Q : Rel B) (v : Words) (b : B) → Q v b → Behind s Q (word.Symbol s ∷ v) b
mark s Q v b h = record { left = word.Symbol s ∷ []; right = v; tree = tt; parts = refl; first = refl; second = h }

pub some_behind : {B : Type 0} (s : Symbol) {Q : Rel B} → Exists Q → Exists (Behind s Q)
some_behind s {Q} some = record { tokens = word.Symbol s ∷ some.tokens; tree = some.tree; spells = mark s Q some.tokens some.tree some.spells }

-- a symbol that says something, alone
pub marked_alone : {A : Type 0} (s : Symbol) (a : A) (u : Words) (b : A) → Behind s (Nothing a) u b → (u ≡ word.Symbol s ∷ []) × (b ≡ a)
marked_alone s a u b h = let m = marked s (Nothing a) u b h in (m.1 ∙ ap (λ (x : Words). word.Symbol s ∷ x) m.2.0, m.2.1)

pub alone : {A : Type 0} (s : Symbol) (a : A) → Behind s (Nothing a) (word.Symbol s ∷ []) a
alone s a = mark s (Nothing a) [] a (refl, refl)

pub single : {A : Type 0} (P : Rel A) (s : Symbol) (a : A) → P (word.Symbol s ∷ []) a → (u : Words) (b : A) → Behind s (Nothing a) u b → P u b
single P s a h u b k = let m = marked_alone s a u b k in subst (λ (v : Words). P v b) (sym m.0) (subst (P (word.Symbol s ∷ [])) (sym m.1) h)

pub alone_rule : {E A : Type 0} {K : Knot E} {k : ℕ} (s : Symbol) (a : A) → is symbol.End (word.Symbol s) ≡ false → Rule K k (plain none) (Behind s (Nothing a)) (λ _. expect s >> pure a)
alone_rule s a inner = behind_rule s inner (record { tokens = []; tree = a; spells = (refl, refl) }) (pure_rule (plain none) a)

pub some_alone : {A : Type 0} (s : Symbol) (a : A) → Exists (Behind s (Nothing a))
some_alone s a = record { tokens = word.Symbol s ∷ []; tree = a; spells = alone s a }

pub behind_is : {B : Type 0} (s : Symbol) (Q R : Rel B) → ((u : Words) (b : B) → Q u b → R (word.Symbol s ∷ u) b) → (u : Words) (b : B) → Behind s Q u b → R u b
behind_is s Q R is u b h = let m = marked s Q u b h in subst (λ (v : Words). R v b) (sym m.1) (is m.0 b m.2)

-- what a symbol's token says of a text that begins with it
pub sees_mark : {B : Type 0} (s : Symbol) (Q : Rel B) (F : Kinds) (c : Bool) → F (word.Symbol s) ≡ c → (u rest : Words) (b : B) → Behind s Q u b → sees F (u ++ rest) ≡ c
sees_mark s Q F c h u rest b m = ap (λ (v : Words). sees F (v ++ rest)) (marked s Q u b m).1 ∙ h

-- ---- one or the other, by the next token

pub choose_rule : {E A : Type 0} {K : Knot E} {k : ℕ} {F : A → Kinds} {R S : Rel A} {P Q : E → Parser A} (is : Kinds) → Rule K k F R P → Rule K k F S Q
    → ((u rest : Words) (a : A) → R u a → Stops (F a) rest → sees is (u ++ rest) ≡ true)
    → ((u rest : Words) (a : A) → S u a → Stops (F a) rest → sees is (u ++ rest) ≡ false)
    → Rule K k F (Either R S) (λ i. choose is (P i) (Q i))
choose_rule {K} {k} {F} {R} {S} {P} {Q} is p q left right = record {
  exact = choose_exact is R S (P K.inner) (Q K.inner) F p.exact q.exact left right;
  meets = choose_meets k is (P K.inner) (P K.more) (Q K.inner) (Q K.more) p.meets q.meets;
}

-- ---- turns

pub loop_rule : {E S B : Type 0} {K : Knot E} {k : ℕ} {F : Turn S B → Kinds} {G : B → Kinds} {R : S → Rel (Turn S B)} {turn : E → S → Parser (Turn S B)}
    → ((s : S) → Rule K k F (R s) (λ i. turn i s)) → Shrinks (turn K.inner)
    → ((s : S) (u rest : Words) (r : Turn S B) → R s u r → Stops (F r) rest → (t : S) → Stops (F (On t)) (u ++ rest))
    → ((rest : Words) (b : B) → Stops (G b) rest → Stops (F (Done b)) rest)
    → ((s : S) → Exists (Turns R s)) → (s : S) → Rule K k G (Turns R s) (λ i. turning (turn i) s)
loop_rule {K} {k} {F} {G} {R} {turn} p shrinks fits closing some s = record {
  exact = loop_exact R (turn K.inner) shrinks F G (λ t. (p t).exact) fits closing some s;
  meets = loop_meets k (turn K.inner) (turn K.more) (λ t. (p t).meets) s;
}
