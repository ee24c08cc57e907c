-- What the parser of a whole text gives, in the words of the grammar.
use Rattle.std.proofs.Common.{◌≡◌, ℕ, suc, ◌≤◌, ◌<◌, Bool, true, false, max, [], ◌∷◌, ◌++◌, length, Result, Ok, Err, refl, sym, ap, subst, ◌∙◌, append_assoc, arith, inl, inr}
use Rattle.std.proofs.lemmas.List.{append-nil, length-append}
use Rattle.mx_grammar.specs.declared.word.Word.{Word}
use Rattle.mx_grammar.specs.declared.word.Word.TheVariants.{Symbol}
use Rattle.mx_grammar.specs.declared.word.Symbol.TheVariants.{End}
use Rattle.mx_grammar.specs.declared.trouble.Trouble.{Trouble}
use Rattle.mx_grammar.specs.declared.trouble.Trouble.TheVariants.{Unexpected}
use Rattle.mx_grammar.specs.Words.{is}
use Rattle.mx_grammar.specs.Reading.{Words, Outcome, Parser, and_then, ◌>>◌, pure, expect, taken, seen, text, whole, enough, parsed}
use Rattle.mx_grammar.specs.Spelling.{Language, Spells, Begins, UnexpectedIn}
use Rattle.mx_grammar.proofs.Exact.{none, stops_none, read, failed, ends, ends_behind, Exists, Fails, Exact, ok_pair}
use Rattle.mx_grammar.proofs.Meets.{Meets}
use Rattle.mx_grammar.proofs.Symbols.{only, here}

-- the parsers are exact in each number of levels, and meet those with more
pub record Exactly {A : Type 0} (L : Language A) (P : ℕ → Parser A) : Type 0 where
  pub exact : (n : ℕ) → Exact (λ _. none) (L n) (P n)
  pub meets : (n m : ℕ) → n ≤ m → Meets n (P n) (P m)
  pub some : (n : ℕ) → Exists (L (suc n))

-- ---- lists

record SnocSame (u v : Words) (s t : Word) : Type 0 where
  fronts : u ≡ v
  lasts : s ≡ t

pair_last : (u v : Words) (s t : Word) → u ++ s ∷ [] ≡ v ++ t ∷ [] → SnocSame u v s t
pair_last [] [] s t e = record { fronts = refl; lasts = cc }
pair_last [] (y ∷ v) s t e = absurd (let l : 1 ≡ suc (length (v ++ t ∷ [])) = ap length e in let m = length-append v (t ∷ []) in omega (arith, l, m))
pair_last (x ∷ u) [] s t e = absurd (let l : suc (length (u ++ s ∷ [])) ≡ 1 = ap length e in let m = length-append u (s ∷ []) in omega (arith, l, m))
pair_last (x ∷ u) (y ∷ v) s t e =
    let tails : u ++ s ∷ [] ≡ v ++ t ∷ [] = cc in
    let heads : x ≡ y = cc in
    let k = pair_last u v s t tails in
    record { fronts = ap (λ (w : Words). x ∷ w) k.fronts ∙ ap (λ (z : Word). z ∷ v) heads; lasts = k.lasts }

single : (ts : Words) → length ts ≡ 1 → (t : Word) × (ts ≡ t ∷ [])
single [] e = absurd (omega (arith, e))
single (t ∷ []) e = (t, refl)
single (t ∷ s ∷ ts) e = absurd (let l : suc (suc (length ts)) ≡ 1 = e in omega (arith, l))

unexpected_same : (n m : ℕ) → Unexpected n ≡ Unexpected m → n ≡ m
unexpected_same n m e = cc

-- ---- END behind what was read

abbrev finish : {A : Type 0} → A → Words → Result A Trouble
finish z mid = whole (and_then (expect End mid) (λ _. pure z))

record FinishOk {A : Type 0} (z y : A) (mid : Words) : Type 0 where
  rest : mid ≡ Symbol End ∷ []
  tree : z ≡ y

abbrev by_end : {A : Type 0} → A → Words → Bool → Result A Trouble
by_end z r b = whole (and_then (taken r (suc (length r)) (seen b)) (λ _. pure z))

finish_ok_by : {A : Type 0} (z y : A) (t : Word) (r : Words) (b : Bool) → is End t ≡ b → by_end z r b ≡ Ok y → FinishOk z y (t ∷ r)
finish_ok_by z y t r false h e = absurd cc
finish_ok_by z y t [] true h e = record { rest = ap (λ (s : Word). s ∷ []) (only End t h); tree = cc }
finish_ok_by z y t (s ∷ r) true h e = absurd cc

finish_ok : {A : Type 0} (z y : A) (mid : Words) → finish z mid ≡ Ok y → FinishOk z y mid
finish_ok z y [] e = absurd cc
finish_ok z y (t ∷ r) e = finish_ok_by z y t r (is End t) refl e

data FinishErr (mid : Words) (e : Trouble) : Type 0 where
  nothing : mid ≡ [] → FinishErr mid e
  other : (t : Word) (r : Words) → mid ≡ t ∷ r → is End t ≡ false → e ≡ Unexpected (suc (length r)) → FinishErr mid e
  later : (t : Word) (r : Words) → mid ≡ Symbol End ∷ t ∷ r → e ≡ Unexpected (suc (length r)) → FinishErr mid e

finish_err_by : {A : Type 0} (z : A) (t : Word) (r : Words) (e : Trouble) (b : Bool) → is End t ≡ b → by_end z r b ≡ Err e → FinishErr (t ∷ r) e
finish_err_by z t r e false h f = other t r refl h cc
finish_err_by z t [] e true h f = absurd cc
finish_err_by z t (s ∷ r) e true h f = later s r (ap (λ (w : Word). w ∷ s ∷ r) (only End t h)) cc

finish_err : {A : Type 0} (z : A) (mid : Words) (e : Trouble) → finish z mid ≡ Err e → FinishErr mid e
finish_err z [] e f = nothing refl
finish_err z (t ∷ r) e f = finish_err_by z t r e (is End t) refl f

module _ {A : Type 0} (L : Language A) (P : ℕ → Parser A) (x : Exactly L P) where
  -- a spelling in some levels is what the parser reads, with as many or more
  spelled : (m : ℕ) (ts : Words) (y : A) (h : Spells L ts y) → h.levels ≤ m → P m ts ≡ Ok (y, Symbol End ∷ [])
  spelled m ts y h le =
      (x.meets h.levels m le).grows ts (Symbol End ∷ []) y (ap (P h.levels) h.parts ∙ (x.exact h.levels).complete h.text (Symbol End ∷ []) y h.spelled (stops_none (Symbol End ∷ [])))

  -- ---- each list of tokens spells at most one tree

  pub one_tree : (ts : Words) (y z : A) → Spells L ts y → Spells L ts z → y ≡ z
  one_tree ts y z a b =
      let p = spelled (max a.levels b.levels) ts y a (omega arith) in
      let q = spelled (max a.levels b.levels) ts z b (omega arith) in
      (ok_pair (sym p ∙ q)).0

  -- ---- what is read

  sound_by : (ts : Words) (n : ℕ) (y : A) (o : Outcome A) → P n ts ≡ o → whole (and_then o (λ z. expect End >> pure z)) ≡ Ok y → Spells L ts y
  sound_by ts n y (Err e) h f = absurd cc
  sound_by ts n y (Ok (z, mid)) h f =
      let k = finish_ok z y mid f in
      let t = (x.exact n).sound ts mid z h in
      record { levels = n; text = t.used; parts = t.parts ∙ ap (λ (r : Words). t.used ++ r) k.rest; spelled = subst (L n t.used) k.tree t.spells }

  -- what is parsed is spelled so
  pub parsed_sound : (ts : Words) (y : A) → parsed P ts ≡ Ok y → Spells L ts y
  unfolding text
  parsed_sound ts y e = sound_by ts (enough ts) y (P (enough ts) ts) refl e

  -- ---- the first token that no continuation allows

  begins_used : (n : ℕ) (used : Words) (z : A) → L n used z → Begins L used
  begins_used n used z h = record { tail = Symbol End ∷ []; tree = z; spells = record { levels = n; text = used; parts = refl; spelled = h } }

  begins_nothing : Begins L []
  begins_nothing = let e = x.some 0 in record { tail = e.tokens ++ Symbol End ∷ []; tree = e.tree; spells = record { levels = 1; text = e.tokens; parts = refl; spelled = e.spells } }

  -- a text that goes on behind what was read goes on with END
  goes_on : (n : ℕ) (used tail : Words) (z : A) (t : Word) → P n (used ++ t ∷ tail) ≡ read (z, t ∷ tail) → (y : A) → Spells L (used ++ t ∷ tail) y → t ∷ tail ≡ Symbol End ∷ []
  goes_on n used tail z t keeps y h =
      let m : ℕ = max h.levels n in
      let p = spelled m (used ++ t ∷ tail) y h (omega arith) in
      let q = (x.meets n m (omega arith)).grows (used ++ t ∷ tail) (t ∷ tail) z keeps in
      (ok_pair (sym q ∙ p)).1

  first_is : (t s : Word) (u v : Words) → t ∷ u ≡ s ∷ v → t ≡ s
  first_is t s u v e = cc

  not_end : (n : ℕ) (used : Words) (z : A) (t : Word) → is End t ≡ false → ((tail : Words) → P n (used ++ t ∷ tail) ≡ read (z, t ∷ tail)) → Begins L (used ++ t ∷ []) → ⊥
  not_end n used z t off keeps b =
      let e : (used ++ t ∷ []) ++ b.tail ≡ used ++ t ∷ b.tail = append_assoc used (t ∷ []) b.tail in
      let g = goes_on n used b.tail z t (keeps b.tail) b.tree (subst (λ (u : Words). Spells L u b.tree) e b.spells) in
      absurd (let f : true ≡ false = sym (here End) ∙ ap (is End) (sym (first_is t (Symbol End) b.tail [] g)) ∙ off in cc)

  behind_end : (n : ℕ) (used : Words) (z : A) (t : Word) → ((tail : Words) → P n (used ++ Symbol End ∷ tail) ≡ read (z, Symbol End ∷ tail)) → Begins L ((used ++ Symbol End ∷ []) ++ t ∷ []) → ⊥
  behind_end n used z t keeps b =
      let e : ((used ++ Symbol End ∷ []) ++ t ∷ []) ++ b.tail ≡ used ++ Symbol End ∷ (t ∷ b.tail) = append_assoc (used ++ Symbol End ∷ []) (t ∷ []) b.tail ∙ append_assoc used (Symbol End ∷ []) (t ∷ b.tail) in
      let g = goes_on n used (t ∷ b.tail) z (Symbol End) (keeps (t ∷ b.tail)) b.tree (subst (λ (u : Words). Spells L u b.tree) e b.spells) in
      absurd (let f : suc (suc (length b.tail)) ≡ 1 = ap length g in omega (arith, f))

  -- with a token that the parser refuses no text goes on
  refused : (n : ℕ) (front : Words) (t : Word) → length (front ++ t ∷ []) < n → P n (front ++ t ∷ []) ≡ failed (Unexpected 1) → Begins L (front ++ t ∷ []) → ⊥
  refused n front t few refuses b =
      let m : ℕ = max b.spells.levels n in
      let e : (front ++ t ∷ []) ++ b.tail ≡ front ++ t ∷ b.tail = append_assoc front (t ∷ []) b.tail in
      let one : P m (front ++ t ∷ []) ≡ failed (Unexpected 1) = sym ((x.meets n m (omega arith)).same (front ++ t ∷ []) few) ∙ refuses in
      let f = (x.exact m).errs (front ++ t ∷ []) (Unexpected 1) one in
      let last = single f.rest (sym (unexpected_same 1 (length f.rest) f.why)) in
      let k = pair_last front f.front t last.0 (f.parts ∙ ap (λ (r : Words). f.front ++ r) last.1) in
      let two : P m (front ++ t ∷ b.tail) ≡ failed (Unexpected (length (t ∷ b.tail))) = ap (λ (u : Words). P m (u ++ t ∷ b.tail)) k.fronts ∙ ap (λ (w : Word). P m (f.front ++ w ∷ b.tail)) k.lasts ∙ f.refuses last.0 [] b.tail last.1 in
      let three = ap (P m) (sym e) ∙ spelled m ((front ++ t ∷ []) ++ b.tail) b.tree b.spells (omega arith) in
      absurd (let g = sym two ∙ three in cc)

  pub record Unexpects (ts : Words) (e : Trouble) : Type 0 where
    pub left : ℕ
    pub why : e ≡ Unexpected left
    pub unexpected : UnexpectedIn L ts left

  fails_unexpected : (ts : Words) (e : Trouble) → ends ts ≡ true → (rest : Words) → (f : Fails (L (enough ts)) (P (enough ts)) ts e) → f.rest ≡ rest → Unexpects ts e
  fails_unexpected ts e has [] f is = absurd (let h = f.inside has in omega (arith, ap length is))
  fails_unexpected ts e has (t ∷ r) f is = record {
    left = length f.rest;
    why = f.why;
    unexpected = record {
      front = f.front;
      token = t;
      others = r;
      parts = f.parts ∙ ap (λ (u : Words). f.front ++ u) is;
      place = ap length is;
      begins = elim f.viable [ inl nil ↦ subst (Begins L) (sym nil) begins_nothing | inr v ↦ record { tail = v.tail ++ Symbol End ∷ []; tree = v.tree; spells = record { levels = enough ts; text = f.front ++ v.tail; parts = sym (append_assoc f.front v.tail (Symbol End ∷ [])); spelled = v.spells } } ];
      none = refused (enough ts) f.front t (omega (arith, ap length (f.parts ∙ ap (λ (u : Words). f.front ++ u) is), length-append f.front (t ∷ r), length-append f.front (t ∷ []))) (f.refuses t r [] is);
    };
  }

  errs_by : (ts : Words) (e : Trouble) (o : Outcome A) → ends ts ≡ true → P (enough ts) ts ≡ o → whole (and_then o (λ z. expect End >> pure z)) ≡ Err e → Unexpects ts e
  errs_by ts e (Err d) has h f =
      let same : d ≡ e = cc in
      let g = (x.exact (enough ts)).errs ts e (h ∙ ap failed same) in
      fails_unexpected ts e has g.rest g refl
  errs_by ts e (Ok (z, mid)) has h f =
      let t = (x.exact (enough ts)).sound ts mid z h in
      elim (finish_err z mid e f) [
        | nothing nil ↦ absurd (let g = ends_behind ts t.used mid t.parts t.free has in let k = sym g ∙ ap ends nil in cc)
        | other s r was off why ↦ record {
          left = suc (length r);
          why = why;
          unexpected = record {
            front = t.used;
            token = s;
            others = r;
            parts = t.parts ∙ ap (λ (u : Words). t.used ++ u) was;
            place = refl;
            begins = begins_used (enough ts) t.used z t.spells;
            none = not_end (enough ts) t.used z s off (λ tail. t.keeps s r tail was);
          };
        }
        | later s r was why ↦ record {
          left = suc (length r);
          why = why;
          unexpected = record {
            front = t.used ++ Symbol End ∷ [];
            token = s;
            others = r;
            parts = t.parts ∙ ap (λ (u : Words). t.used ++ u) was ∙ sym (append_assoc t.used (Symbol End ∷ []) (s ∷ r));
            place = refl;
            begins = record { tail = []; tree = z; spells = record { levels = enough ts; text = t.used; parts = append-nil (t.used ++ Symbol End ∷ []); spelled = t.spells } };
            none = behind_end (enough ts) t.used z s (λ tail. t.keeps (Symbol End) (s ∷ r) tail was);
          };
        }
      ]

  -- what is refused is refused at the first token that no continuation allows
  pub parsed_unexpected : (ts : Words) (e : Trouble) → ends ts ≡ true → parsed P ts ≡ Err e → Unexpects ts e
  unfolding text
  parsed_unexpected ts e has f = errs_by ts e (P (enough ts) ts) has refl f
