-- A parser beside the one with more levels inside: what it reads is read by both, and on few tokens they are the same.
use Rattle.std.proofs.Common.{◌≡◌, ℕ, zero, suc, ◌<◌, ◌≤◌, Bool, true, false, cond, [], ◌∷◌, length, Option, Some, None, Ok, Err, refl, ap, ◌∙◌, arith, inl, inr}
use Rattle.mx_grammar.specs.declared.word.Word.{Word}
use Rattle.mx_grammar.specs.Reading.{Words, Outcome, Parser, and_then, ◌>>=◌, pure, sees, refuse, accept, taken, choose, Turn, On, Done, after_turn, turns, turning}
use Rattle.mx_grammar.proofs.Exact.{Kinds, read, bind_ok, ok_pair, chosen}

pub record Meets {A : Type 0} (k : ℕ) (P Q : Parser A) : Type 0 where
  pub grows : (ts rest : Words) (a : A) → P ts ≡ Ok (a, rest) → Q ts ≡ Ok (a, rest)
  pub same : (ts : Words) → length ts < k → P ts ≡ Q ts
  pub within : (ts rest : Words) (a : A) → P ts ≡ Ok (a, rest) → length rest ≤ length ts

pub fewer_meets : {A : Type 0} (k m : ℕ) (P Q : Parser A) → k ≤ m → Meets m P Q → Meets k P Q
fewer_meets k m P Q le h = record { grows = h.grows; same = λ ts lt. h.same ts (omega arith); within = h.within }

abbrev pub Shorter : {A : Type 0} → Parser A → Type 0
Shorter {A} P = (ts rest : Words) (a : A) → P ts ≡ Ok (a, rest) → length rest < length ts

pub pure_meets : {A : Type 0} (k : ℕ) (a : A) → Meets k (pure a) (pure a)
pure_meets k a = record { grows = λ ts rest b e. e; same = λ ts lt. refl; within = λ ts rest b e. let q = ok_pair e in omega (arith, ap length q.1) }

-- nothing is read in no levels
pub none_meets : {A : Type 0} (Q : Parser A) → Meets 0 refuse Q
none_meets Q = record { grows = λ ts rest b e. absurd cc; same = λ ts lt. absurd (omega arith); within = λ ts rest b e. absurd cc }

taken_within : {A : Type 0} (ts rest : Words) (n : ℕ) (o : Option A) (a : A) → taken ts n o ≡ Ok (a, rest) → length rest ≤ length ts
taken_within ts rest n (Some b) a e = let q = ok_pair e in omega (arith, ap length q.1)
taken_within ts rest n None a e = absurd cc

pub accept_shorter : {A : Type 0} (says : Word → Option A) → Shorter (accept says)
accept_shorter says [] rest a e = absurd cc
accept_shorter says (t ∷ ts) rest a e = let h = taken_within ts rest (suc (length ts)) (says t) a e in omega arith

pub accept_meets : {A : Type 0} (k : ℕ) (says : Word → Option A) → Meets k (accept says) (accept says)
accept_meets k says = record { grows = λ ts rest b e. e; same = λ ts lt. refl; within = λ ts rest a e. let h = accept_shorter says ts rest a e in omega arith }

module _ {A B : Type 0} (P P' : Parser A) (f f' : A → Parser B) where
  -- of what is behind what is read
  abbrev Further : ℕ → Type 0
  Further k = (ts rest : Words) (a : A) → P ts ≡ Ok (a, rest) → Meets k (f a) (f' a)

  same_by : (k : ℕ) (ts : Words) (o : Outcome A) → P ts ≡ o → ((rest : Words) (a : A) → P ts ≡ Ok (a, rest) → length rest < k) → Further k → and_then o f ≡ and_then o f'
  same_by k ts (Ok (a, rest)) h lt q = (q ts rest a h).same rest (lt rest a h)
  same_by k ts (Err e) h lt q = refl

  read_meets : (k m : ℕ) → Meets m P P' → ((ts rest : Words) (a : A) → P ts ≡ Ok (a, rest) → length ts < m → length rest < k) → Further k → Meets m (P >>= f) (P' >>= f')
  read_meets k m p fewer q = record {
    grows = λ ts rest b e. let o = bind_ok (P ts) f b rest e in ap (λ (r : Outcome A). and_then r f') (p.grows ts o.1 o.0 o.2) ∙ (q ts o.1 o.0 o.2).grows o.1 rest b o.3;
    same = λ ts lt. same_by k ts (P ts) refl (λ rest a e. fewer ts rest a e lt) q ∙ ap (λ (r : Outcome A). and_then r f') (p.same ts lt);
    within = λ ts rest b e. let o = bind_ok (P ts) f b rest e in let one = p.within ts o.1 o.0 o.2 in let two = (q ts o.1 o.0 o.2).within o.1 rest b o.3 in omega arith;
  }

  pub then_meets : (k : ℕ) → Meets k P P' → Further k → Meets k (P >>= f) (P' >>= f')
  then_meets k p q = read_meets k k p (λ ts rest a e lt. let h = p.within ts rest a e in omega arith) q

-- behind a token
pub open_meets : {A B : Type 0} (k : ℕ) (says : Word → Option A) (f f' : A → Parser B) → ((a : A) → Meets k (f a) (f' a)) → Meets (suc k) (accept says >>= f) (accept says >>= f')
open_meets k says f f' q = read_meets (accept says) (accept says) f f' k (suc k) (accept_meets (suc k) says) (λ ts rest a e lt. let h = accept_shorter says ts rest a e in omega arith) (λ ts rest a e. q a)

choose_grows : {A : Type 0} (b : Bool) (x x' y y' r : Outcome A) → (x ≡ r → x' ≡ r) → (y ≡ r → y' ≡ r) → cond b x y ≡ r → cond b x' y' ≡ r
choose_grows true x x' y y' r p q e = p e
choose_grows false x x' y y' r p q e = q e

choose_same : {A : Type 0} (b : Bool) (x x' y y' : Outcome A) → x ≡ x' → y ≡ y' → cond b x y ≡ cond b x' y'
choose_same true x x' y y' p q = p
choose_same false x x' y y' p q = q

pub choose_meets : {A : Type 0} (k : ℕ) (is : Kinds) (P P' Q Q' : Parser A) → Meets k P P' → Meets k Q Q' → Meets k (choose is P Q) (choose is P' Q')
choose_meets k is P P' Q Q' p q = record {
  grows = λ ts rest a e. choose_grows (sees is ts) (P ts) (P' ts) (Q ts) (Q' ts) (read (a, rest)) (p.grows ts rest a) (q.grows ts rest a) e;
  same = λ ts lt. choose_same (sees is ts) (P ts) (P' ts) (Q ts) (Q' ts) (p.same ts lt) (q.same ts lt);
  within = λ ts rest a e. elim (chosen (sees is ts) (P ts) (Q ts) (read (a, rest)) e) [ inl c ↦ p.within ts rest a c.1 | inr c ↦ q.within ts rest a c.1 ];
}

module _ {S B : Type 0} (k : ℕ) (turn turn' : S → Parser (Turn S B)) (t : (s : S) → Meets k (turn s) (turn' s)) where
  after_meets : (more more' : S → Parser B) → ((s : S) → Meets k (more s) (more' s)) → (r : Turn S B) → Meets k (after_turn more r) (after_turn more' r)
  after_meets more more' m (On s) = m s
  after_meets more more' m (Done b) = pure_meets k b

  turns_meet : (n : ℕ) (s : S) → Meets k (turns turn n s) (turns turn' n s)
  unfolding turns
  turns_meet zero s = record { grows = λ ts rest b e. absurd cc; same = λ ts lt. refl; within = λ ts rest b e. absurd cc }
  turns_meet (suc n) s = then_meets (turn s) (turn' s) (after_turn (turns turn n)) (after_turn (turns turn' n)) k (t s) (λ ts rest r e. after_meets (turns turn n) (turns turn' n) (turns_meet n) r)

  pub loop_meets : (s : S) → Meets k (turning turn s) (turning turn' s)
  unfolding turning
  loop_meets s = record {
    grows = λ ts. (turns_meet (suc (length ts)) s).grows ts;
    same = λ ts. (turns_meet (suc (length ts)) s).same ts;
    within = λ ts. (turns_meet (suc (length ts)) s).within ts;
  }
