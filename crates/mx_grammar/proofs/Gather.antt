-- Parts that are gathered one by one are exact where each of them is.
use Rattle.std.proofs.Common.{◌≡◌, ℕ, ◌<◌, Bool, true, false, cond, List, [], ◌∷◌, ◌++◌, length, Ok, Err, refl, sym, ap, subst, ◌∙◌, append_assoc, arith, inl, inr}
use Rattle.std.proofs.lemmas.List.{length-append}
use Rattle.mx_grammar.specs.declared.word.Word.{Word}
use Rattle.mx_grammar.specs.declared.trouble.Trouble.{Trouble}
use Rattle.mx_grammar.specs.Grammar.{Parts}
use Rattle.mx_grammar.specs.Reading.{Words, Outcome, Parser, and_then, ◌>>=◌, pure, sees, choose, Turn, On, Done, turning}
use Rattle.mx_grammar.proofs.Exact.{Rel, Kinds, Stops, or, or_stops, Exists, Exact, bind_ok, ok_pair, read, Nothing, Then, Either}
use Rattle.mx_grammar.proofs.Meets.{Shorter}
use Rattle.mx_grammar.proofs.Symbols.{apart}
use Rattle.mx_grammar.proofs.Loops.{Turns, last, next, Shrinks, loop_on, loop_done, loop_err}
use Rattle.mx_grammar.proofs.Rules.{Knot, Rule, plain, pure_rule, then_rule, iff_rule, choose_rule, loop_rule, mapped, mapping}

-- a turn takes a token where the items that it goes on behind have one
pub shorter : (ts used rest : Words) → ts ≡ used ++ rest → 0 < length used → length rest < length ts
shorter ts used rest e lt = omega (arith, ap length e, length-append used rest)

pub not_nothing : (is : Kinds) (u : Words) → sees is (u ++ []) ≡ true → 0 < length u
not_nothing is [] h = absurd cc
not_nothing is (t ∷ u) h = omega arith

abbrev pub BeginsWith : {A : Type 0} → Kinds → Rel A → Type 0
BeginsWith {A} is R = (u rest : Words) (a : A) → R u a → sees is (u ++ rest) ≡ true

-- A parser that is exact takes a token where each spelling begins with one.
pub exact_shorter : {A : Type 0} {F : A → Kinds} {R : Rel A} {P : Parser A} (is : Kinds) → Exact F R P → BeginsWith is R → Shorter P
exact_shorter is p begins ts rest a e =
    let h = p.sound ts rest a e in shorter ts h.used rest h.parts (not_nothing is h.used (begins h.used [] a h.spells))

pub chosen_left : {A : Type 0} (b : Bool) (x y r : Outcome A) → cond b x y ≡ r → (y ≡ r → ⊥) → x ≡ r
chosen_left true x y r e n = e
chosen_left false x y r e n = absurd (n e)

pub chosen_right : {A : Type 0} (b : Bool) (x y r : Outcome A) → cond b x y ≡ r → (x ≡ r → ⊥) → y ≡ r
chosen_right true x y r e n = absurd (n e)
chosen_right false x y r e n = e

abbrev goes : (S B : Type 0) → S → Turn S B
goes S B s = On s

abbrev stops : (S B : Type 0) → B → Turn S B
stops S B b = Done b

pub on_done : {S B : Type 0} (s : S) (b : B) → goes S B s ≡ Done b → ⊥
on_done s b e = absurd cc

pub on_same : {S B : Type 0} (s t : S) → goes S B s ≡ On t → s ≡ t
on_same s t e = cc

pub done_same : {S B : Type 0} (b c : B) → stops S B b ≡ Done c → b ≡ c
done_same b c e = cc

-- ---- the code's loops: parts while the next token is of one kind

-- what so many parts make of what was gathered before
abbrev pub gathered : {A S : Type 0} → (S → A → S) → S → List A → S
gathered add s [] = s
gathered add s (x ∷ xs) = gathered add (add s x) xs

abbrev pub gather_turn : {A S : Type 0} → Kinds → Parser A → (S → A → S) → S → Parser (Turn S S)
gather_turn is part add s = choose is (part >>= λ a. pure (On (add s a))) (pure (Done s))

module _ {A S : Type 0} (is : Kinds) (P : Parser A) (add : S → A → S) (short : Shorter P) where
  pub gather_shrinks : Shrinks (gather_turn is P add)
  gather_shrinks s ts rest t e =
      let l = chosen_left (sees is ts) ((P >>= λ a. pure (On (add s a))) ts) (pure (Done s) ts) (read (On t, rest)) e (λ w. let q = ok_pair w in on_done t s (sym q.0)) in
      let o = bind_ok (P ts) (λ a. pure (On (add s a))) (On t) rest l in
      let q = ok_pair o.3 in
      subst (λ (x : Words). length x < length ts) q.1 (short ts o.1 o.0 o.2)

  abbrev by : S → Bool → Words → Outcome (Turn S S)
  by s b ts = cond b (and_then (P ts) (λ a. pure (On (add s a)))) (pure (Done s) ts)

  pub gather_more : (s : S) (a : A) (ts rest : Words) → sees is ts ≡ true → P ts ≡ Ok (a, rest) → turning (gather_turn is P add) s ts ≡ turning (gather_turn is P add) (add s a) rest
  gather_more s a ts rest h k = loop_on (gather_turn is P add) gather_shrinks s (add s a) ts rest
      (ap (λ (b : Bool). by s b ts) h ∙ ap (λ (o : Outcome A). and_then o (λ a. pure (On (add s a)))) k)

  pub gather_err : (s : S) (ts : Words) (e : Trouble) → sees is ts ≡ true → P ts ≡ Err e → turning (gather_turn is P add) s ts ≡ Err e
  gather_err s ts e h k = loop_err (gather_turn is P add) gather_shrinks s ts e
      (ap (λ (b : Bool). by s b ts) h ∙ ap (λ (o : Outcome A). and_then o (λ a. pure (On (add s a)))) k)

  pub gather_done : (s : S) (ts : Words) → sees is ts ≡ false → turning (gather_turn is P add) s ts ≡ Ok (s, ts)
  gather_done s ts h = loop_done (gather_turn is P add) gather_shrinks s s ts ts (ap (λ (b : Bool). by s b ts) h)

-- ---- the rule

-- parts begin with what may not follow one, or are none
pub parts_stop : {A : Type 0} (is F : Kinds) (R : Rel A) → BeginsWith is R → ((t : Word) → is t ≡ true → F t ≡ false) → (v rest : Words) (xs : List A) → Parts R v xs → Stops (or is F) rest → Stops F (v ++ rest)
parts_stop is F R begins off _ rest _ Parts.none st = (or_stops is F rest st).1
parts_stop is F R begins off _ rest _ (Parts.more {u} {v} {x} h others) st = apart is F off ((u ++ v) ++ rest) (ap (sees is) (append_assoc u v rest) ∙ begins u (v ++ rest) x h)

module _ {A S : Type 0} (is F : Kinds) (R : Rel A) (add : S → A → S) where
  abbrev on : S → A → Turn S S
  on s a = On (add s a)

  abbrev TurnIs : S → Rel (Turn S S)
  TurnIs s = Either (Then R (λ a. Nothing (on s a))) (Nothing (Done s))

  follows : Turn S S → Kinds
  follows (On s) = F
  follows (Done s) = or is F

  -- parts, and what they make of what was gathered before
  abbrev pub Gathered : S → Rel S
  Gathered s = Then (Parts R) (λ xs. Nothing (gathered add s xs))

  to_gathered : (s : S) (u : Words) (t : S) → Turns TurnIs s u t → Gathered s u t
  to_gathered _ _ _ (last {s} {u} {b} (inl h)) = absurd (on_done (add s h.tree) b (sym h.second.1))
  to_gathered _ _ _ (last {s} {u} {b} (inr h)) = subst (λ (x : Words). Gathered s x b) (sym h.0) (subst (Gathered s []) (sym (done_same b s h.1)) (mapping (Parts R) (gathered add s) [] [] Parts.none))
  to_gathered _ _ _ (next {s} {t} {u} {v} {b} (inl h) more) =
      let m = mapped R (on s) u (On t) h in
      let k = mapped (Parts R) (gathered add t) v b (to_gathered t v b more) in
      let e : b ≡ gathered add s (m.0 ∷ k.0) = k.2 ∙ ap (λ (r : S). gathered add r k.0) (on_same t (add s m.0) m.2) in
      subst (Gathered s (u ++ v)) (sym e) (mapping (Parts R) (gathered add s) (u ++ v) (m.0 ∷ k.0) (Parts.more m.1 k.1))
  to_gathered _ _ _ (next {s} {t} {u} {v} {b} (inr h) more) = absurd (on_done t s h.1)

  from_parts : (s : S) (u : Words) (xs : List A) → Parts R u xs → Turns TurnIs s u (gathered add s xs)
  from_parts s _ _ Parts.none = last (inr (refl, refl))
  from_parts s _ _ (Parts.more {u} {v} {x} {xs} h others) = next {t = add s x} (inl (mapping R (on s) u x h)) (from_parts (add s x) v xs others)

  from_gathered : (s : S) (u : Words) (t : S) → Gathered s u t → Turns TurnIs s u t
  from_gathered s u t h = let m = mapped (Parts R) (gathered add s) u t h in subst (Turns TurnIs s u) (sym m.2) (from_parts s u m.0 m.1)

  pub some_gathered : (s : S) → Exists (Gathered s)
  some_gathered s = record { tokens = []; tree = s; spells = mapping (Parts R) (gathered add s) [] [] Parts.none }

  -- what is gathered begins with what may not follow a part, or is nothing
  pub gathered_stops : BeginsWith is R → ((t : Word) → is t ≡ true → F t ≡ false) → (s : S) (u rest : Words) (t : S) → Gathered s u t → Stops (or is F) rest → Stops F (u ++ rest)
  gathered_stops begins off s u rest t h st = let m = mapped (Parts R) (gathered add s) u t h in parts_stop is F R begins off u rest m.0 m.1 st

  at_end : (s : S) (u rest : Words) (r : Turn S S) → Nothing (Done s) u r → Stops (follows r) rest → Stops (or is F) (u ++ rest)
  unfolding follows
  at_end s u rest r h st = subst (λ (x : Words). Stops (or is F) (x ++ rest)) (sym h.0) (subst (λ (q : Turn S S). Stops (follows q) rest) h.1 st)

  fits : BeginsWith is R → ((t : Word) → is t ≡ true → F t ≡ false) → (s : S) (u rest : Words) (r : Turn S S) → TurnIs s u r → Stops (follows r) rest → (t : S) → Stops F (u ++ rest)
  fits begins off s u rest r (inl h) st t = let m = mapped R (on s) u r h in apart is F off (u ++ rest) (begins u rest m.0 m.1)
  fits begins off s u rest r (inr h) st t = (or_stops is F (u ++ rest) (at_end s u rest r h st)).1

  turn_rule : {E : Type 0} {K : Knot E} {k : ℕ} {P : E → Parser A} → Rule K k (plain F) R P → BeginsWith is R → (s : S) → Rule K k follows (TurnIs s) (λ i. gather_turn is (P i) add s)
  unfolding follows
  turn_rule p begins s =
      choose_rule is
      (then_rule p (λ a. pure_rule follows (on s a))
      (λ a v rest b h st. subst (λ (x : Words). Stops F (x ++ rest)) (sym h.0) (subst (λ (r : Turn S S). Stops (follows r) rest) h.1 st))
      (λ a. record { tokens = []; tree = on s a; spells = (refl, refl) }))
      (pure_rule follows (Done s)) (λ u rest r h st. let m = mapped R (on s) u r h in begins u rest m.0 m.1)
      (λ u rest r h st. (or_stops is F (u ++ rest) (at_end s u rest r h st)).0)

  pub the_gather_rule : {E : Type 0} {K : Knot E} {k : ℕ} {P : E → Parser A} → Rule K k (plain F) R P → BeginsWith is R → ((t : Word) → is t ≡ true → F t ≡ false) → (s : S) → Rule K k (plain (or is F)) (Gathered s) (λ i. turning (gather_turn is (P i) add) s)
  unfolding follows
  the_gather_rule {K} {P} p begins off s =
      iff_rule (to_gathered s) (from_gathered s)
      (loop_rule {F = follows} (turn_rule p begins) (gather_shrinks is (P K.inner) add (exact_shorter is p.exact begins)) (fits begins off) (λ rest t st. st) (λ t. record { tokens = []; tree = t; spells = last (inr (refl, refl)) }) s)

pub gather_rule : {E A S : Type 0} {K : Knot E} {k : ℕ} {F : Kinds} {R : Rel A} {P : E → Parser A} (is : Kinds) (add : S → A → S) → Rule K k (plain F) R P → BeginsWith is R → ((t : Word) → is t ≡ true → F t ≡ false) → (s : S)
    → Rule K k (plain (or is F)) (Gathered is F R add s) (λ i. turning (gather_turn is (P i) add) s)
gather_rule {F} {R} is add p begins off s = the_gather_rule is F R add p begins off s
