-- A loop is exact where each of its turns is.
use Rattle.std.proofs.Common.{◌≡◌, ℕ, zero, suc, ◌<◌, [], ◌++◌, length, Ok, Err, refl, sym, ap, subst, ◌∙◌, append_assoc, arith, inl, inr}
use Rattle.std.proofs.lemmas.List.{append-nil}
use Rattle.mx_grammar.specs.declared.trouble.Trouble.{Trouble}
use Rattle.mx_grammar.specs.Reading.{Words, Outcome, Parser, and_then, ◌>>=◌, Turn, On, Done, after_turn, turns, turning}
use Rattle.mx_grammar.proofs.Exact.{Rel, Kinds, Stops, none, read, Exists, Took, Fails, Exact, bind_ok, bind_err, Nothing, pure_exact, Then, both, first_fails, second_fails, took_map, fails_map}

-- the turns from a state on
pub data Turns {S B : Type 0} (R : S → Rel (Turn S B)) : S → Words → B → Type 0 where
  last : {s : S} {u : Words} {b : B} → R s u (Done b) → Turns R s u b
  next : {s t : S} {u v : Words} {b : B} → R s u (On t) → Turns R t v b → Turns R s (u ++ v) b

-- each turn that goes on takes a token
abbrev pub Shrinks : {S B : Type 0} → (S → Parser (Turn S B)) → Type 0
Shrinks {S} turn = (s : S) (ts rest : Words) (t : S) → turn s ts ≡ Ok (On t, rest) → length rest < length ts

module _ {S B : Type 0} (turn : S → Parser (Turn S B)) (shrinks : Shrinks turn) where
  after_same : (P Q : S → Parser B) (s : S) (ts : Words) (o : Outcome (Turn S B)) → turn s ts ≡ o → ((t : S) (rest : Words) → length rest < length ts → P t rest ≡ Q t rest)
      → and_then o (after_turn P) ≡ and_then o (after_turn Q)
  after_same P Q s ts (Err e) h same = refl
  after_same P Q s ts (Ok (On t, rest)) h same = same t rest (shrinks s ts rest t h)
  after_same P Q s ts (Ok (Done b, rest)) h same = refl

  fuel_same : (n m : ℕ) (s : S) (ts : Words) → length ts < n → length ts < m → turns turn n s ts ≡ turns turn m s ts
  unfolding turns
  fuel_same zero m s ts p q = absurd (omega arith)
  fuel_same (suc n) zero s ts p q = absurd (omega arith)
  fuel_same (suc n) (suc m) s ts p q = after_same (turns turn n) (turns turn m) s ts (turn s ts) refl (λ t rest lt. fuel_same n m t rest (omega arith) (omega arith))

  -- a loop is one turn, and the loop again
  pub loop_is : (s : S) (ts : Words) → turning turn s ts ≡ and_then (turn s ts) (after_turn (turning turn))
  unfolding turns turning
  loop_is s ts = after_same (turns turn (length ts)) (turning turn) s ts (turn s ts) refl (λ t rest lt. fuel_same (length ts) (suc (length rest)) t rest lt (omega arith))

  pub loop_on : (s t : S) (ts rest : Words) → turn s ts ≡ Ok (On t, rest) → turning turn s ts ≡ turning turn t rest
  loop_on s t ts rest h = loop_is s ts ∙ ap (λ (o : Outcome (Turn S B)). and_then o (after_turn (turning turn))) h

  pub loop_done : (s : S) (b : B) (ts rest : Words) → turn s ts ≡ Ok (Done b, rest) → turning turn s ts ≡ Ok (b, rest)
  loop_done s b ts rest h = loop_is s ts ∙ ap (λ (o : Outcome (Turn S B)). and_then o (after_turn (turning turn))) h

  pub loop_err : (s : S) (ts : Words) (e : Trouble) → turn s ts ≡ Err e → turning turn s ts ≡ Err e
  loop_err s ts e h = loop_is s ts ∙ ap (λ (o : Outcome (Turn S B)). and_then o (after_turn (turning turn))) h

abbrev After : {S B : Type 0} → (S → Rel (Turn S B)) → Turn S B → Rel B
After R (On t) u b = Turns R t u b
After R (Done c) u b = Nothing c u b

module _ {S B : Type 0} (R : S → Rel (Turn S B)) where
  from_after : (s : S) (u v : Words) (r : Turn S B) (b : B) → R s u r → After R r v b → Turns R s (u ++ v) b
  from_after s u v (On t) b h k = next h k
  from_after s u v (Done c) b h k =
      let e : u ++ v ≡ u = ap (λ (x : Words). u ++ x) k.0 ∙ append-nil u in
      subst (λ (x : Words). Turns R s x b) (sym e) (subst (Turns R s u) (sym k.1) (last h))

  to_turns : (s : S) (u : Words) (b : B) → Then (R s) (After R) u b → Turns R s u b
  to_turns s u b h = subst (λ (x : Words). Turns R s x b) (sym h.parts) (from_after s h.left h.right h.tree b h.first h.second)

  some_after : ((s : S) → Exists (Turns R s)) → (r : Turn S B) → Exists (After R r)
  some_after some (On t) = let m = some t in record { tokens = m.tokens; tree = m.tree; spells = m.spells }
  some_after some (Done c) = record { tokens = []; tree = c; spells = (refl, refl) }

module _ {S B : Type 0} (R : S → Rel (Turn S B)) (turn : S → Parser (Turn S B)) (shrinks : Shrinks turn) where
  back : (s : S) (x : Words) → (turn s >>= after_turn (turning turn)) x ≡ turning turn s x
  back s x = sym (loop_is turn shrinks s x)

  again : (F : Turn S B → Kinds) (G : B → Kinds) → ((s : S) → Exact F (R s) (turn s))
      → (fits : (s : S) (u rest : Words) (r : Turn S B) → R s u r → Stops (F r) rest → (t : S) → Stops (F (On t)) (u ++ rest))
      → ((rest : Words) (b : B) → Stops (G b) rest → Stops (F (Done b)) rest)
      → (s : S) (u rest : Words) (b : B) → Turns R s u b → Stops (G b) rest → (turning turn s (u ++ rest) ≡ Ok (b, rest)) × ((t : S) → Stops (F (On t)) (u ++ rest))
  again F G p fits closing _ _ rest _ (last {s} {u} {b} h) st =
      (loop_done turn shrinks s b (u ++ rest) rest ((p s).complete u rest (Done b) h (closing rest b st)), fits s u rest (Done b) h (closing rest b st))
  again F G p fits closing _ _ rest _ (next {s} {t} {u} {v} {b} h more) st =
      let k = again F G p fits closing t v rest b more st in
      let e : (u ++ v) ++ rest ≡ u ++ (v ++ rest) = append_assoc u v rest in (
        loop_on turn shrinks s t ((u ++ v) ++ rest) (v ++ rest) (ap (turn s) e ∙ (p s).complete u (v ++ rest) (On t) h (k.1 t)) ∙ k.0,
        λ z. subst (Stops (F (On z))) (sym e) (fits s u (v ++ rest) (On t) h (k.1 t) z),
      )

  abbrev Sound : S → Words → Type 0
  Sound s ts = (rest : Words) (b : B) → turning turn s ts ≡ Ok (b, rest) → Took (Turns R s) (turning turn s) ts rest b

  sound_after : (mid rest : Words) (r : Turn S B) (b : B) → ((t : S) → r ≡ On t → Sound t mid) → after_turn (turning turn) r mid ≡ Ok (b, rest) → Took (After R r) (after_turn (turning turn) r) mid rest b
  sound_after mid rest (On t) b ih e = ih t refl rest b e
  sound_after mid rest (Done c) b ih e = (pure_exact (λ _. none) c).sound mid rest b e

  sound_to : (F : Turn S B → Kinds) → ((s : S) → Exact F (R s) (turn s)) → (k : ℕ) (s : S) (ts : Words) → length ts < k → Sound s ts
  sound_to F p zero s ts lt rest b e = absurd (omega arith)
  sound_to F p (suc k) s ts lt rest b e =
      let o = bind_ok (turn s ts) (after_turn (turning turn)) b rest (back s ts ∙ e) in
      let two = sound_after o.1 rest o.0 b (λ t goes_on. sound_to F p k t o.1 (let h : length o.1 < length ts = shrinks s ts o.1 t (o.2 ∙ ap (λ (r : Turn S B). read (r, o.1)) goes_on) in omega arith)) o.3 in
      took_map (Then (R s) (After R)) (Turns R s) (turn s >>= after_turn (turning turn)) (turning turn s) (to_turns R s) (back s) ts rest b
      (both (R s) (After R) (turn s) (after_turn (turning turn)) ts o.1 rest o.0 b ((p s).sound ts o.1 o.0 o.2) two)

  abbrev Errs : S → Words → Type 0
  Errs s ts = (e : Trouble) → turning turn s ts ≡ Err e → Fails (Turns R s) (turning turn s) ts e

  errs_after : (mid : Words) (r : Turn S B) (e : Trouble) → ((t : S) → r ≡ On t → Errs t mid) → after_turn (turning turn) r mid ≡ Err e → Fails (After R r) (after_turn (turning turn) r) mid e
  errs_after mid (On t) e ih h = ih t refl e h
  errs_after mid (Done c) e ih h = absurd cc

  errs_to : (F : Turn S B → Kinds) → ((s : S) → Exact F (R s) (turn s)) → ((s : S) → Exists (Turns R s)) → (k : ℕ) (s : S) (ts : Words) → length ts < k → Errs s ts
  errs_to F p some zero s ts lt e h = absurd (omega arith)
  errs_to F p some (suc k) s ts lt e h =
      fails_map (Then (R s) (After R)) (Turns R s) (turn s >>= after_turn (turning turn)) (turning turn s) (to_turns R s) (back s) ts e
      (elim (bind_err (turn s ts) (after_turn (turning turn)) e (back s ts ∙ h)) [
        | inl at ↦ first_fails (R s) (After R) (turn s) (after_turn (turning turn)) (λ u r h. some_after R some r) ts e ((p s).errs ts e at)
        | inr went ↦
            second_fails (R s) (After R) (turn s) (after_turn (turning turn)) (λ u r h. some_after R some r) ts went.rest went.tree e ((p s).sound ts went.rest went.tree went.was)
            (errs_after went.rest went.tree e (λ t goes_on. errs_to F p some k t went.rest (let lt2 : length went.rest < length ts = shrinks s ts went.rest t (went.was ∙ ap (λ (r : Turn S B). read (r, went.rest)) goes_on) in omega arith)) went.next)
      ])

  pub loop_exact : (F : Turn S B → Kinds) (G : B → Kinds) → ((s : S) → Exact F (R s) (turn s))
      → (fits : (s : S) (u rest : Words) (r : Turn S B) → R s u r → Stops (F r) rest → (t : S) → Stops (F (On t)) (u ++ rest))
      → ((rest : Words) (b : B) → Stops (G b) rest → Stops (F (Done b)) rest)
      → ((s : S) → Exists (Turns R s)) → (s : S) → Exact G (Turns R s) (turning turn s)
  loop_exact F G p fits closing some s = record {
    sound = λ ts rest b e. sound_to F p (suc (length ts)) s ts (omega arith) rest b e;
    complete = λ u rest b h st. (again F G p fits closing s u rest b h st).0;
    errs = λ ts e h. errs_to F p some (suc (length ts)) s ts (omega arith) e h;
  }
