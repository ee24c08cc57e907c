-- When a parser is exact for a relation, and that the parts which parsers are made of keep it so.
use Rattle.std.proofs.Common.{◌≡◌, ℕ, suc, ◌<◌, ◌⊎◌, Bool, true, false, cond, ◌||◌, [], ◌∷◌, ◌++◌, length, Option, Some, None, Ok, Err, refl, sym, ap, ◌∙◌, append_assoc, arith, inl, inr}
use Rattle.std.proofs.lemmas.List.{append-nil}
use Rattle.mx_grammar.specs.declared.word.Symbol.TheVariants as symbol
use Rattle.mx_grammar.specs.declared.word.Word.{Word}
use Rattle.mx_grammar.specs.declared.trouble.Trouble.{Trouble}
use Rattle.mx_grammar.specs.declared.trouble.Trouble.TheVariants.{Unexpected}
use Rattle.mx_grammar.specs.Words.{is}
use Rattle.mx_grammar.specs.Reading.{Words, Outcome, Parser, and_then, ◌>>=◌, pure, sees, refuse, accept, taken, choose}

abbrev pub Rel : Type 0 → Type 1
Rel A = Words → A → Type 0

abbrev pub Kinds : Type 0
Kinds = Word → Bool

-- the next token is none with which the parser would have gone on
abbrev pub Stops : Kinds → Words → Type 0
Stops goes_on ts = sees goes_on ts ≡ false

abbrev pub failed : {A : Type 0} → Trouble → Outcome A
failed e = Err e

abbrev pub read : {A : Type 0} → A × Words → Outcome A
read p = Ok p

-- END is among the tokens
abbrev pub ends : Words → Bool
ends [] = false
ends (t ∷ ts) = is symbol.End t || ends ts

pub record Viable {A : Type 0} (R : Rel A) (front : Words) : Type 0 where
  pub tail : Words
  pub tree : A
  pub spells : R (front ++ tail) tree

pub record Exists {A : Type 0} (R : Rel A) : Type 0 where
  pub tokens : Words
  pub tree : A
  pub spells : R tokens tree

-- what the parser took from the front, which is all that it read but for the token after it
pub record Took {A : Type 0} (R : Rel A) (P : Parser A) (ts rest : Words) (a : A) : Type 0 where
  pub used : Words
  pub parts : ts ≡ used ++ rest
  pub spells : R used a
  pub keeps : (t : Word) (x y : Words) → rest ≡ t ∷ x → P (used ++ t ∷ y) ≡ read (a, t ∷ y)
  pub free : ends used ≡ false

pub record Fails {A : Type 0} (R : Rel A) (P : Parser A) (ts : Words) (e : Trouble) : Type 0 where
  pub front : Words
  pub rest : Words
  pub parts : ts ≡ front ++ rest
  pub why : e ≡ Unexpected (length rest)
  -- what was read can be completed, unless nothing was read
  pub viable : (front ≡ []) ⊎ Viable R front
  -- and with that next token it fails whatever follows
  pub refuses : (t : Word) (x y : Words) → rest ≡ t ∷ x → P (front ++ t ∷ y) ≡ failed (Unexpected (length (t ∷ y)))
  pub inside : ends ts ≡ true → 0 < length rest

-- the parser takes what R says, wherever none of F follows
pub record Exact {A : Type 0} (F : A → Kinds) (R : Rel A) (P : Parser A) : Type 0 where
  pub sound : (ts rest : Words) (a : A) → P ts ≡ Ok (a, rest) → Took R P ts rest a
  pub complete : (u rest : Words) (a : A) → R u a → Stops (F a) rest → P (u ++ rest) ≡ Ok (a, rest)
  pub errs : (ts : Words) (e : Trouble) → P ts ≡ Err e → Fails R P ts e

-- ---- END

or_ends : (a b c d : Bool) → d ≡ (b || c) → (a || d) ≡ ((a || b) || c)
or_ends true b c d h = refl
or_ends false b c d h = h

pub ends_append : (u v : Words) → ends (u ++ v) ≡ (ends u || ends v)
ends_append [] v = refl
ends_append (t ∷ u) v = or_ends (is symbol.End t) (ends u) (ends v) (ends (u ++ v)) (ends_append u v)

pub ends_some : (ts : Words) → ends ts ≡ true → 0 < length ts
ends_some [] h = absurd cc
ends_some (t ∷ ts) h = omega arith

pub free_append : (u v : Words) → ends u ≡ false → ends v ≡ false → ends (u ++ v) ≡ false
free_append u v p q = ends_append u v ∙ ap (λ (b : Bool). b || ends v) p ∙ q

pub ends_behind : (ts u v : Words) → ts ≡ u ++ v → ends u ≡ false → ends ts ≡ true → ends v ≡ true
ends_behind ts u v parts free h = sym (ap ends parts ∙ ends_append u v ∙ ap (λ (b : Bool). b || ends v) free) ∙ h

-- ---- outcomes

pub bind_ok : {A B : Type 0} (r : Outcome A) (f : A → Parser B) (b : B) (rest : Words) → and_then r f ≡ Ok (b, rest)
    → (a : A) × (mid : Words) × (r ≡ Ok (a, mid)) × (f a mid ≡ Ok (b, rest))
bind_ok (Ok p) f b rest e = (p.0, p.1, refl, e)
bind_ok (Err d) f b rest e = absurd cc

pub record Went {A B : Type 0} (r : Outcome A) (f : A → Parser B) (e : Trouble) : Type 0 where
  pub tree : A
  pub rest : Words
  pub was : r ≡ Ok (tree, rest)
  pub next : f tree rest ≡ Err e

pub bind_err : {A B : Type 0} (r : Outcome A) (f : A → Parser B) (e : Trouble) → and_then r f ≡ Err e → (r ≡ Err e) ⊎ Went r f e
bind_err (Ok p) f e h = inr (record { tree = p.0; rest = p.1; was = refl; next = h })
bind_err (Err d) f e h = inl cc

pub ok_pair : {A : Type 0} {a b : A} {x y : Words} → read (a, x) ≡ read (b, y) → (a ≡ b) × (x ≡ y)
ok_pair {A} {a} {b} {x} {y} e = let p : (a, x) ≡ (b, y) = cc in (ap (λ (q : A × Words). q.0) p, ap (λ (q : A × Words). q.1) p)

-- which token comes first decides
pub sees_same : (is : Kinds) (front : Words) (t : Word) (x y : Words) → sees is (front ++ t ∷ x) ≡ sees is (front ++ t ∷ y)
sees_same is [] t x y = refl
sees_same is (s ∷ front) t x y = refl

pub sees_along : (is : Kinds) (ts front rest : Words) (t : Word) (x y : Words) → ts ≡ front ++ rest → rest ≡ t ∷ x → sees is (front ++ t ∷ y) ≡ sees is ts
sees_along is ts front rest t x y p q = sees_same is front t y x ∙ ap (λ (r : Words). sees is (front ++ r)) (sym q) ∙ ap (sees is) (sym p)

abbrev pub none : Kinds
none t = false

abbrev pub or : Kinds → Kinds → Kinds
or F G t = F t || G t

pub stops_none : (ts : Words) → Stops none ts
stops_none [] = refl
stops_none (t ∷ ts) = refl

or_false : (a b : Bool) → (a || b) ≡ false → (a ≡ false) × (b ≡ false)
or_false true b h = absurd cc
or_false false b h = (refl, h)

pub or_stops : (F G : Kinds) (ts : Words) → Stops (or F G) ts → Stops F ts × Stops G ts
or_stops F G [] h = (refl, refl)
or_stops F G (t ∷ ts) h = or_false (F t) (G t) h

-- the same front with another text behind the token after it
pub keeps_along : {A : Type 0} {R : Rel A} {P : Parser A} {ts mid : Words} {a : A} (one : Took R P ts mid a) (front rest : Words) (t : Word) (x y : Words) → mid ≡ front ++ rest → rest ≡ t ∷ x
    → P (one.used ++ (front ++ t ∷ y)) ≡ Ok (a, front ++ t ∷ y)
keeps_along one [] rest t x y p q = one.keeps t x y (p ∙ q)
keeps_along one (s ∷ front) rest t x y p q = one.keeps s (front ++ rest) (front ++ t ∷ y) p

-- ---- nothing, and a failure

abbrev pub Nothing : {A : Type 0} → A → Rel A
Nothing a u b = (u ≡ []) × (b ≡ a)

abbrev pub Never : {A : Type 0} → Rel A
Never u a = ⊥

pub pure_exact : {A : Type 0} (F : A → Kinds) (a : A) → Exact F (Nothing a) (pure a)
pure_exact F a = record {
  sound = λ ts rest b e. let p = ok_pair {a = a} {b = b} {x = ts} {y = rest} e in record { used = []; parts = p.1; spells = (refl, sym p.0); keeps = λ t x y q. ap (λ (c : _). read (c, t ∷ y)) p.0; free = refl };
  complete = λ u rest b h s. rw (h.0, h.1) refl;
  errs = λ ts e h. absurd cc;
}

pub refuse_exact : {A : Type 0} (F : A → Kinds) → Exact F Never refuse
refuse_exact F = record {
  sound = λ ts rest b e. absurd cc;
  complete = λ u rest b h s. absurd h;
  errs = λ ts e h. record { front = []; rest = ts; parts = refl; why = (let p : e ≡ Unexpected (length ts) = cc in p); viable = inl refl; refuses = λ t x y p. refl; inside = ends_some ts };
}

-- ---- a relation by other words

pub fails_map : {A : Type 0} (R S : Rel A) (P Q : Parser A) → ((u : Words) (a : A) → R u a → S u a) → ((ts : Words) → P ts ≡ Q ts) → (ts : Words) (e : Trouble) → Fails R P ts e → Fails S Q ts e
fails_map R S P Q to same ts e f = record {
  front = f.front;
  rest = f.rest;
  parts = f.parts;
  why = f.why;
  viable = elim f.viable [ inl nil ↦ inl nil | inr v ↦ inr (record { tail = v.tail; tree = v.tree; spells = to (f.front ++ v.tail) v.tree v.spells }) ];
  refuses = λ t x y q. sym (same (f.front ++ t ∷ y)) ∙ f.refuses t x y q;
  inside = f.inside;
}

pub took_map : {A : Type 0} (R S : Rel A) (P Q : Parser A) → ((u : Words) (a : A) → R u a → S u a) → ((ts : Words) → P ts ≡ Q ts) → (ts rest : Words) (a : A) → Took R P ts rest a → Took S Q ts rest a
took_map R S P Q to same ts rest a h = record {
  used = h.used;
  parts = h.parts;
  spells = to h.used a h.spells;
  keeps = λ t x y q. sym (same (h.used ++ t ∷ y)) ∙ h.keeps t x y q;
  free = h.free;
}

pub iff_exact : {A : Type 0} (F : A → Kinds) (R S : Rel A) (P : Parser A) → ((u : Words) (a : A) → R u a → S u a) → ((u : Words) (a : A) → S u a → R u a) → Exact F R P → Exact F S P
iff_exact F R S P to from p = record {
  sound = λ ts rest a e. took_map R S P P to (λ _. refl) ts rest a (p.sound ts rest a e);
  complete = λ u rest a h s. p.complete u rest a (from u a h) s;
  errs = λ ts e h. fails_map R S P P to (λ _. refl) ts e (p.errs ts e h);
}

-- nothing is lost where more is kept from following
pub more_stops : {A : Type 0} (F G : A → Kinds) (R : Rel A) (P : Parser A) → ((u rest : Words) (a : A) → R u a → Stops (G a) rest → Stops (F a) rest) → Exact F R P → Exact G R P
more_stops F G R P to p = record { sound = p.sound; complete = λ u rest a h s. p.complete u rest a h (to u rest a h s); errs = p.errs }

-- ---- one token

pub record One {A : Type 0} (says : Word → Option A) (u : Words) (a : A) : Type 0 where
  pub token : Word
  pub is : u ≡ token ∷ []
  pub what : says token ≡ Some a

-- END is none of them
abbrev pub Inner : {A : Type 0} → (Word → Option A) → Type 0
Inner {A} says = (t : Word) (a : A) → says t ≡ Some a → is symbol.End t ≡ false

taken_ok : {A : Type 0} (ts : Words) (n : ℕ) (o : Option A) (a : A) (rest : Words) → taken ts n o ≡ Ok (a, rest) → (o ≡ Some a) × (ts ≡ rest)
taken_ok ts n (Some b) a rest e = let p = ok_pair {a = b} {b = a} {x = ts} {y = rest} e in (ap Some p.0, p.1)
taken_ok ts n None a rest e = absurd cc

taken_err : {A : Type 0} (ts : Words) (n : ℕ) (o : Option A) (e : Trouble) → taken ts n o ≡ Err e → (o ≡ None) × (e ≡ Unexpected n)
taken_err ts n (Some b) e h = absurd cc
taken_err ts n None e h = (refl, cc)

accept_sound : {A : Type 0} (says : Word → Option A) → Inner says → (ts rest : Words) (a : A) → accept says ts ≡ Ok (a, rest) → Took (One says) (accept says) ts rest a
accept_sound says inner [] rest a e = absurd cc
accept_sound says inner (t ∷ ts) rest a e =
    let p = taken_ok ts (suc (length ts)) (says t) a rest e in
    record {
      used = t ∷ [];
      parts = ap (λ (x : Words). t ∷ x) p.1;
      spells = record { token = t; is = refl; what = p.0 };
      keeps = λ s x y q. ap (λ (o : Option _). taken (s ∷ y) (suc (suc (length y))) o) p.0;
      free = ap (λ (b : Bool). b || false) (inner t a p.0);
    }

accept_errs : {A : Type 0} (says : Word → Option A) (ts : Words) (e : Trouble) → accept says ts ≡ Err e → Fails (One says) (accept says) ts e
accept_errs says [] e h = record { front = []; rest = []; parts = refl; why = (let p : e ≡ Unexpected 0 = cc in p); viable = inl refl; refuses = λ t x y p. absurd cc; inside = ends_some [] }
accept_errs says (t ∷ ts) e h =
    let p = taken_err ts (suc (length ts)) (says t) e h in
    record {
      front = [];
      rest = t ∷ ts;
      parts = refl;
      why = p.1;
      viable = inl refl;
      refuses = λ s x y q. let same : t ≡ s = cc in ap (λ (o : Option _). taken y (suc (length y)) o) (ap says (sym same) ∙ p.0);
      inside = ends_some (t ∷ ts);
    }

pub accept_exact : {A : Type 0} (says : Word → Option A) → Inner says → Exact (λ _. none) (One says) (accept says)
accept_exact says inner = record {
  sound = λ ts rest a e. accept_sound says inner ts rest a e;
  complete = λ u rest a h s. rw (h.is, h.what) refl;
  errs = λ ts e h. accept_errs says ts e h;
}

-- ---- one after the other

pub record Then {A B : Type 0} (R : Rel A) (Q : A → Rel B) (u : Words) (b : B) : Type 0 where
  pub left : Words
  pub right : Words
  pub tree : A
  pub parts : u ≡ left ++ right
  pub first : R left tree
  pub second : Q tree right b

module _ {A B : Type 0} (R : Rel A) (Q : A → Rel B) (P : Parser A) (f : A → Parser B) where
  pub both : (ts mid rest : Words) (a : A) (b : B) → Took R P ts mid a → Took (Q a) (f a) mid rest b → Took (Then R Q) (P >>= f) ts rest b
  both ts mid rest a b one two = record {
    used = one.used ++ two.used;
    parts = one.parts ∙ ap (λ (x : Words). one.used ++ x) two.parts ∙ sym (append_assoc one.used two.used rest);
    spells = record { left = one.used; right = two.used; tree = a; parts = refl; first = one.spells; second = two.spells };
    keeps = λ t x y is.
        ap (P >>= f) (append_assoc one.used two.used (t ∷ y))
        ∙ ap (λ (r : Outcome A). and_then r f) (keeps_along one two.used rest t x y two.parts is)
        ∙ two.keeps t x y is;
    free = free_append one.used two.used one.free two.free;
  }

  abbrev Further : Type 0
  Further = (u : Words) (a : A) → R u a → Exists (Q a)

  pub first_fails : Further → (ts : Words) (e : Trouble) → Fails R P ts e → Fails (Then R Q) (P >>= f) ts e
  first_fails more ts e one = record {
    front = one.front;
    rest = one.rest;
    parts = one.parts;
    why = one.why;
    viable = elim one.viable [
      | inl nil ↦ inl nil
      | inr v ↦
          let m = more (one.front ++ v.tail) v.tree v.spells in
          inr (record { tail = v.tail ++ m.tokens; tree = m.tree; spells = record { left = one.front ++ v.tail; right = m.tokens; tree = v.tree; parts = sym (append_assoc one.front v.tail m.tokens); first = v.spells; second = m.spells } })
    ];
    refuses = λ t x y is. ap (λ (r : Outcome A). and_then r f) (one.refuses t x y is);
    inside = one.inside;
  }

  pub second_fails : Further → (ts mid : Words) (a : A) (e : Trouble) → Took R P ts mid a → Fails (Q a) (f a) mid e → Fails (Then R Q) (P >>= f) ts e
  second_fails more ts mid a e one two = record {
    front = one.used ++ two.front;
    rest = two.rest;
    parts = one.parts ∙ ap (λ (x : Words). one.used ++ x) two.parts ∙ sym (append_assoc one.used two.front two.rest);
    why = two.why;
    viable = elim two.viable [
      | inl nil ↦
          let m = more one.used a one.spells in
          inr (record { tail = m.tokens; tree = m.tree; spells = record { left = one.used; right = m.tokens; tree = a; parts = ap (λ (x : Words). (one.used ++ x) ++ m.tokens) nil ∙ ap (λ (x : Words). x ++ m.tokens) (append-nil one.used); first = one.spells; second = m.spells } })
      | inr v ↦ inr (record { tail = v.tail; tree = v.tree; spells = record { left = one.used; right = two.front ++ v.tail; tree = a; parts = append_assoc one.used two.front v.tail; first = one.spells; second = v.spells } })
    ];
    refuses = λ t x y is.
        ap (P >>= f) (append_assoc one.used two.front (t ∷ y))
        ∙ ap (λ (r : Outcome A). and_then r f) (keeps_along one two.front two.rest t x y two.parts is)
        ∙ two.refuses t x y is;
    inside = λ has. two.inside (ends_behind ts one.used mid one.parts one.free has);
  }

  -- the second is to be exact only behind what spells the first
  pub then_exact : (F : A → Kinds) (G : B → Kinds) → Exact F R P → ((u : Words) (a : A) → R u a → Exact G (Q a) (f a))
      → ((a : A) (v rest : Words) (b : B) → Q a v b → Stops (G b) rest → Stops (F a) (v ++ rest))
      → Further → Exact G (Then R Q) (P >>= f)
  then_exact F G p q fits more = record {
    sound = λ ts rest b e.
        let o = bind_ok (P ts) f b rest e in
        let one = p.sound ts o.1 o.0 o.2 in
        both ts o.1 rest o.0 b one ((q one.used o.0 one.spells).sound o.1 rest b o.3);
    complete = λ u rest b h s.
        let regrouped : u ++ rest ≡ h.left ++ (h.right ++ rest) = ap (λ (x : Words). x ++ rest) h.parts ∙ append_assoc h.left h.right rest in
        ap (P >>= f) regrouped
        ∙ ap (λ (r : Outcome A). and_then r f) (p.complete h.left (h.right ++ rest) h.tree h.first (fits h.tree h.right rest b h.second s))
        ∙ (q h.left h.tree h.first).complete h.right rest b h.second s;
    errs = λ ts e h. elim (bind_err (P ts) f e h) [
      | inl at ↦ first_fails more ts e (p.errs ts e at)
      | inr went ↦
          let one = p.sound ts went.rest went.tree went.was in
          second_fails more ts went.rest went.tree e one ((q one.used went.tree one.spells).errs went.rest e went.next)
    ];
  }

-- ---- one or the other, by the next token

abbrev pub Either : {A : Type 0} → Rel A → Rel A → Rel A
Either R S u a = R u a ⊎ S u a

pub chosen : {A : Type 0} (b : Bool) (x y : A) (r : A) → cond b x y ≡ r → ((b ≡ true) × (x ≡ r)) ⊎ ((b ≡ false) × (y ≡ r))
chosen true x y r e = inl (refl, e)
chosen false x y r e = inr (refl, e)

module _ {A : Type 0} (is : Kinds) (R S : Rel A) (P Q : Parser A) where
  branch : (ts front rest : Words) (t : Word) (x y : Words) (b : Bool) → sees is ts ≡ b → ts ≡ front ++ rest → rest ≡ t ∷ x
      → choose is P Q (front ++ t ∷ y) ≡ cond b (P (front ++ t ∷ y)) (Q (front ++ t ∷ y))
  branch ts front rest t x y b h p q = ap (λ (c : Bool). cond c (P (front ++ t ∷ y)) (Q (front ++ t ∷ y))) (sees_along is ts front rest t x y p q ∙ h)

  left_fails : (ts : Words) (e : Trouble) → sees is ts ≡ true → Fails R P ts e → Fails (Either R S) (choose is P Q) ts e
  left_fails ts e here f = record {
    front = f.front;
    rest = f.rest;
    parts = f.parts;
    why = f.why;
    viable = elim f.viable [ inl nil ↦ inl nil | inr v ↦ inr (record { tail = v.tail; tree = v.tree; spells = inl v.spells }) ];
    refuses = λ t x y q. branch ts f.front f.rest t x y true here f.parts q ∙ f.refuses t x y q;
    inside = f.inside;
  }

  right_fails : (ts : Words) (e : Trouble) → sees is ts ≡ false → Fails S Q ts e → Fails (Either R S) (choose is P Q) ts e
  right_fails ts e here f = record {
    front = f.front;
    rest = f.rest;
    parts = f.parts;
    why = f.why;
    viable = elim f.viable [ inl nil ↦ inl nil | inr v ↦ inr (record { tail = v.tail; tree = v.tree; spells = inr v.spells }) ];
    refuses = λ t x y q. branch ts f.front f.rest t x y false here f.parts q ∙ f.refuses t x y q;
    inside = f.inside;
  }

  pub choose_exact : (F : A → Kinds) → Exact F R P → Exact F S Q
      → ((u rest : Words) (a : A) → R u a → Stops (F a) rest → sees is (u ++ rest) ≡ true)
      → ((u rest : Words) (a : A) → S u a → Stops (F a) rest → sees is (u ++ rest) ≡ false)
      → Exact F (Either R S) (choose is P Q)
  choose_exact F p q left right = record {
    sound = λ ts rest a e. elim (chosen (sees is ts) (P ts) (Q ts) (Ok (a, rest)) e) [
      | inl c ↦ let h = p.sound ts rest a c.1 in record { used = h.used; parts = h.parts; spells = inl h.spells; keeps = λ t x y q. branch ts h.used rest t x y true c.0 h.parts q ∙ h.keeps t x y q; free = h.free }
      | inr c ↦ let h = q.sound ts rest a c.1 in record { used = h.used; parts = h.parts; spells = inr h.spells; keeps = λ t x y q. branch ts h.used rest t x y false c.0 h.parts q ∙ h.keeps t x y q; free = h.free }
    ];
    complete = λ u rest a h s. elim h [
      | inl r ↦ ap (λ (b : Bool). cond b (P (u ++ rest)) (Q (u ++ rest))) (left u rest a r s) ∙ p.complete u rest a r s
      | inr r ↦ ap (λ (b : Bool). cond b (P (u ++ rest)) (Q (u ++ rest))) (right u rest a r s) ∙ q.complete u rest a r s
    ];
    errs = λ ts e h. elim (chosen (sees is ts) (P ts) (Q ts) (Err e) h) [
      | inl c ↦ left_fails ts e c.0 (p.errs ts e c.1)
      | inr c ↦ right_fails ts e c.0 (q.errs ts e c.1)
    ];
  }
