-- The parser of literals is exact.
use Rattle.std.proofs.Common.{◌≡◌, ℕ, ℤ, zero, suc, ◌<◌, ◌≤◌, ◌^◌, Bool, true, false, nat_lt, nat_le, List, [], ◌∷◌, ◌++◌, Some, None, pos, neg_ℤ, refl, sym, ap, subst, ◌∙◌, append_assoc, arith, inl, inr}
use Rattle.std.proofs.lemmas.Bool.Decides.{Decides-ltb, leb_tells}
use Rattle.mx_value.specs.declared.value.Value.{Value}
use Rattle.mx_value.specs.declared.value.Value.TheVariants as value
use Rattle.mx_grammar.specs.declared.word.Symbol.{Symbol as Symbols}
use Rattle.mx_grammar.specs.declared.word.Symbol.TheVariants as symbol
use Rattle.mx_grammar.specs.declared.word.Word.{Word}
use Rattle.mx_grammar.specs.declared.word.Word.TheVariants.{Name, Int, Fix, Text, Symbol}
use Rattle.mx_grammar.specs.Words.{is}
use Rattle.mx_grammar.specs.Grammar.{Within}
use Rattle.mx_grammar.specs.Reading.{Words, Parser, sees, levels}
use Rattle.mx_grammar.specs.Literals.{Literal}
use Rattle.mx_grammar.specs.LiteralParsers.{fitting, constant, simple_of, negative_of, tuple_rest, tupled, literal_rule, literal}
use Rattle.mx_grammar.proofs.Exact.{Rel, none, stops_none, Exists, Nothing, Then, Either, One, refuse_exact}
use Rattle.mx_grammar.proofs.Meets.{none_meets}
use Rattle.mx_grammar.proofs.Symbols.{apart, unlike, unsaid}
use Rattle.mx_grammar.proofs.Rules.{Knot, Rule, plain, pure_rule, accept_rule, then_rule, iff_rule, choose_rule, behind_rule, open_rule, Behind, marked, mark, sees_mark, some_behind}
use Rattle.mx_grammar.proofs.Lists.{Closes, Others, others, some_others, others_are, others_rule}
use Rattle.mx_grammar.proofs.LoopCode.{Within as WithinText}

-- ---- tokens

abbrev pub begins : Word → Bool
begins (Int n) = true
begins (Fix z) = true
begins (Text t) = true
begins (Symbol symbol.Minus) = true
begins (Symbol symbol.None) = true
begins (Symbol symbol.True) = true
begins (Symbol symbol.False) = true
begins (Symbol symbol.OpenRound) = true
begins _ = false

fits : {A : Type 0} (b : Bool) (x a : A) → fitting b x ≡ Some a → (b ≡ true) × (a ≡ x)
fits true x a h = (refl, cc)
fits false x a h = absurd cc

at_most : (n m : ℕ) → nat_le n m ≡ true → n ≤ m
at_most n m h = elim (leb_tells n m) [ inl t ↦ t.1 | inr t ↦ absurd (let e = sym h ∙ t.0 in cc) ]

within : (n m : ℕ) → n ≤ m → nat_le n m ≡ true
within n m h = elim (leb_tells n m) [ inl t ↦ t.0 | inr t ↦ absurd (omega (arith, t.1)) ]

-- what each literal of one token spells
pub record Simple (P : Rel Value) : Type 0 where
  pub int : (n : ℕ) → n < 2 ^ 63 → P (Int n ∷ []) (value.Int (pos n))
  pub fix : (z : ℤ) → P (Fix z ∷ []) (value.Fix z)
  pub text : (t : List ℕ) → P (Text t ∷ []) (value.Text t)
  pub none : P (Symbol symbol.None ∷ []) value.Nothing
  pub holds : P (Symbol symbol.True ∷ []) (value.Flag true)
  pub fails : P (Symbol symbol.False ∷ []) (value.Flag false)

constant_is : (P : Rel Value) → Simple P → (s : Symbols) (v : Value) → constant s ≡ Some v → P (Symbol s ∷ []) v
constant_is P p symbol.None v h = let same : value.Nothing ≡ v = cc in subst (P (Symbol symbol.None ∷ [])) same p.none
constant_is P p symbol.True v h = let same : value.Flag true ≡ v = cc in subst (P (Symbol symbol.True ∷ [])) same p.holds
constant_is P p symbol.False v h = let same : value.Flag false ≡ v = cc in subst (P (Symbol symbol.False ∷ [])) same p.fails
constant_is P p _ v h = absurd cc

pub simple_is : (P : Rel Value) → Simple P → (t : Word) (v : Value) → simple_of t ≡ Some v → P (t ∷ []) v
simple_is P p (Int n) v h = let f = fits (nat_lt n (2 ^ 63)) (value.Int (pos n)) v h in subst (P (Int n ∷ [])) (sym f.1) (p.int n ((Decides-ltb n (2 ^ 63)).0 f.0))
simple_is P p (Fix z) v h = let same : value.Fix z ≡ v = cc in subst (P (Fix z ∷ [])) same (p.fix z)
simple_is P p (Text t) v h = let same : value.Text t ≡ v = cc in subst (P (Text t ∷ [])) same (p.text t)
simple_is P p (Symbol s) v h = constant_is P p s v h
simple_is P p (Name n) v h = absurd cc

-- and what says it
pub simple_one : Simple (One simple_of)
simple_one = record {
  int = λ n h. record { token = Int n; is = refl; what = ap (λ (b : Bool). fitting b (value.Int (pos n))) ((Decides-ltb n (2 ^ 63)).1 h) };
  fix = λ z. record { token = Fix z; is = refl; what = refl };
  text = λ t. record { token = Text t; is = refl; what = refl };
  none = record { token = Symbol symbol.None; is = refl; what = refl };
  holds = record { token = Symbol symbol.True; is = refl; what = refl };
  fails = record { token = Symbol symbol.False; is = refl; what = refl };
}

module _ (In : Rel Value) where
  -- ---- one token

  simple : Simple (Literal In)
  simple = record { int = λ n h. Literal.int h; fix = λ z. Literal.fix; text = λ t. Literal.text; none = Literal.none; holds = Literal.holds; fails = Literal.fails }

  negative_is : (t : Word) (v : Value) → negative_of t ≡ Some v → Literal In (Symbol symbol.Minus ∷ t ∷ []) v
  negative_is (Int n) v h = let f = fits (nat_le n (2 ^ 63)) (value.Int (neg_ℤ (pos n))) v h in subst (Literal In (Symbol symbol.Minus ∷ Int n ∷ [])) (sym f.1) (Literal.negative_int (at_most n (2 ^ 63) f.0))
  negative_is (Fix z) v h = let same : v ≡ value.Fix (neg_ℤ z) = cc in subst (Literal In (Symbol symbol.Minus ∷ Fix z ∷ [])) (sym same) Literal.negative_fix
  negative_is _ v h = absurd cc

  -- ---- tuples

  abbrev Other : Value → Rel Value
  Other = Others In symbol.CloseRound value.Tup

  abbrev TupleRest : Value → Rel Value
  TupleRest x = Behind symbol.Comma (Other x)

  abbrev Tupled : Rel Value
  Tupled = Either (Behind symbol.CloseRound (Nothing (value.Tup []))) (Then In TupleRest)

  abbrev LiteralIs : Rel Value
  LiteralIs = Either (Behind symbol.Minus (One negative_of)) (Either (Behind symbol.OpenRound Tupled) (One simple_of))

  some_tupled : Exists Tupled
  some_tupled = record { tokens = Symbol symbol.CloseRound ∷ []; tree = value.Tup []; spells = inl (mark symbol.CloseRound (Nothing (value.Tup [])) [] (value.Tup []) (refl, refl)) }

  to_tupled : (u : Words) (y : Value) → Tupled u y → Literal In (Symbol symbol.OpenRound ∷ u) y
  to_tupled u y (inl h) =
      let m = marked symbol.CloseRound (Nothing (value.Tup [])) u y h in
      let e : u ≡ Symbol symbol.CloseRound ∷ [] = m.1 ∙ ap (λ (v : Words). Symbol symbol.CloseRound ∷ v) m.2.0 in
      subst (λ (v : Words). Literal In (Symbol symbol.OpenRound ∷ v) y) (sym e) (subst (Literal In (Symbol symbol.OpenRound ∷ Symbol symbol.CloseRound ∷ [])) (sym m.2.1) Literal.empty)
  to_tupled u y (inr h) =
      let m = marked symbol.Comma (Other h.tree) h.right y h.second in
      let o = others_are In symbol.CloseRound value.Tup h.tree y m.0 m.2 in
      let e : u ≡ h.left ++ Symbol symbol.Comma ∷ o.items ++ Symbol symbol.CloseRound ∷ [] = h.parts ∙ ap (λ (v : Words). h.left ++ v) (m.1 ∙ ap (λ (v : Words). Symbol symbol.Comma ∷ v) o.parts) ∙ sym (append_assoc h.left (Symbol symbol.Comma ∷ o.items) (Symbol symbol.CloseRound ∷ [])) in
      subst (λ (v : Words). Literal In (Symbol symbol.OpenRound ∷ v) y) (sym e) (subst (Literal In (Symbol symbol.OpenRound ∷ h.left ++ Symbol symbol.Comma ∷ o.items ++ Symbol symbol.CloseRound ∷ [])) (sym o.tree) (Literal.tuple h.first o.spells))

  to_literal : (u : Words) (y : Value) → LiteralIs u y → Literal In u y
  to_literal u y (inl h) =
      let m = marked symbol.Minus (One negative_of) u y h in
      let o = m.2 in
      subst (λ (v : Words). Literal In v y) (sym (m.1 ∙ ap (λ (v : Words). Symbol symbol.Minus ∷ v) o.is)) (negative_is o.token y o.what)
  to_literal u y (inr (inl h)) = let m = marked symbol.OpenRound Tupled u y h in subst (λ (v : Words). Literal In v y) (sym m.1) (to_tupled m.0 y m.2)
  to_literal u y (inr (inr o)) = subst (λ (v : Words). Literal In v y) (sym o.is) (simple_is (Literal In) simple o.token y o.what)

  from_negative : (t : Word) (y : Value) → negative_of t ≡ Some y → LiteralIs (Symbol symbol.Minus ∷ t ∷ []) y
  from_negative t y h = inl (mark symbol.Minus (One negative_of) (t ∷ []) y (record { token = t; is = refl; what = h }))

  from_literal : (u : Words) (y : Value) → Literal In u y → LiteralIs u y
  unfolding some_tupled
  from_literal _ _ (Literal.int {n} h) = inr (inr (simple_one.int n h))
  from_literal _ _ (Literal.negative_int {n} h) = from_negative (Int n) (value.Int (neg_ℤ (pos n))) (ap (λ (b : Bool). fitting b (value.Int (neg_ℤ (pos n)))) (within n (2 ^ 63) h))
  from_literal _ _ (Literal.fix {z}) = inr (inr (simple_one.fix z))
  from_literal _ _ (Literal.negative_fix {z}) = from_negative (Fix z) (value.Fix (neg_ℤ z)) refl
  from_literal _ _ (Literal.text {t}) = inr (inr (simple_one.text t))
  from_literal _ _ Literal.none = inr (inr simple_one.none)
  from_literal _ _ Literal.holds = inr (inr simple_one.holds)
  from_literal _ _ Literal.fails = inr (inr simple_one.fails)
  from_literal _ _ Literal.empty = inr (inl (mark symbol.OpenRound Tupled (Symbol symbol.CloseRound ∷ []) (value.Tup []) some_tupled.spells))
  from_literal _ _ (Literal.tuple {u} {v} {x} {xs} h k) =
      inr (inl (mark symbol.OpenRound Tupled (u ++ Symbol symbol.Comma ∷ v ++ Symbol symbol.CloseRound ∷ []) (value.Tup (x ∷ xs)) (inr (record {
        left = u;
        right = Symbol symbol.Comma ∷ v ++ Symbol symbol.CloseRound ∷ [];
        tree = x;
        parts = append_assoc u (Symbol symbol.Comma ∷ v) (Symbol symbol.CloseRound ∷ []);
        first = h;
        second = mark symbol.Comma (Other x) (v ++ Symbol symbol.CloseRound ∷ []) (value.Tup (x ∷ xs)) (others In symbol.CloseRound value.Tup x v xs k);
      }))))

  pub literal_begins : (u rest : Words) (y : Value) → Literal In u y → sees begins (u ++ rest) ≡ true
  literal_begins _ rest _ (Literal.int h) = refl
  literal_begins _ rest _ _ = refl

abbrev pub Begins : Rel Value → Type 0
Begins In = (u rest : Words) (y : Value) → In u y → sees begins (u ++ rest) ≡ true

pub closes_round : (In : Rel Value) → Begins In → Closes symbol.CloseRound none In
closes_round In start = record { inner = refl; no_comma = refl; stops_comma = refl; stops_close = refl; begins = λ u rest y h. apart begins (is symbol.CloseRound) (unlike begins symbol.CloseRound refl) (u ++ rest) (start u rest y h) }

pub closes_square : (In : Rel Value) → Begins In → Closes symbol.CloseSquare none In
closes_square In start = record { inner = refl; no_comma = refl; stops_comma = refl; stops_close = refl; begins = λ u rest y h. apart begins (is symbol.CloseSquare) (unlike begins symbol.CloseSquare refl) (u ++ rest) (start u rest y h) }

module _ {K : Knot (Parser Value)} {k : ℕ} {In : Rel Value} (start : Begins In) (i : Rule K k (plain none) In (λ inner. inner)) where
  rest_rule : (x : Value) → Rule K k (plain none) (TupleRest In x) (λ inner. tuple_rest inner x)
  unfolding tuple_rest
  rest_rule x = behind_rule symbol.Comma refl (some_others In symbol.CloseRound value.Tup x) (others_rule symbol.CloseRound value.Tup (closes_round In start) i x)

  tupled_rule : Rule K k (plain none) (Tupled In) tupled
  unfolding tupled
  tupled_rule =
      choose_rule (is symbol.CloseRound) (behind_rule symbol.CloseRound refl (record { tokens = []; tree = value.Tup []; spells = (refl, refl) }) (pure_rule (plain none) (value.Tup [])))
      (then_rule i rest_rule (λ a v rest b h s. stops_none (v ++ rest)) (λ x. some_behind symbol.Comma (some_others In symbol.CloseRound value.Tup x)))
      (λ u rest y h s. sees_mark symbol.CloseRound (Nothing (value.Tup [])) (is symbol.CloseRound) true refl u rest y h)
      (λ u rest y h s. ap (sees (is symbol.CloseRound)) (ap (λ (v : Words). v ++ rest) h.parts ∙ append_assoc h.left h.right rest) ∙ apart begins (is symbol.CloseRound) (unlike begins symbol.CloseRound refl) (h.left ++ (h.right ++ rest)) (start h.left (h.right ++ rest) h.tree h.first))

  simple_no : (c : Symbols) → simple_of (Symbol c) ≡ None → (u rest : Words) (y : Value) → One simple_of u y → sees (is c) (u ++ rest) ≡ false
  simple_no c off u rest y o = ap (λ (v : Words). sees (is c) (v ++ rest)) o.is ∙ unsaid simple_of c off o.token y o.what

  pub the_literal_rule : Rule K (suc k) (plain none) (Literal In) literal_rule
  unfolding literal_rule
  the_literal_rule =
      iff_rule (to_literal In) (from_literal In)
      (choose_rule (is symbol.Minus) (behind_rule symbol.Minus refl (record { tokens = Int 0 ∷ []; tree = value.Int (neg_ℤ (pos 0)); spells = record { token = Int 0; is = refl; what = refl } }) (accept_rule negative_of (unsaid negative_of symbol.End refl)))
      (choose_rule (is symbol.OpenRound) (open_rule symbol.OpenRound refl (some_tupled In) tupled_rule) (accept_rule simple_of (unsaid simple_of symbol.End refl))
      (λ u rest y h s. sees_mark symbol.OpenRound (Tupled In) (is symbol.OpenRound) true refl u rest y h)
      (λ u rest y h s. simple_no symbol.OpenRound refl u rest y h))
      (λ u rest y h s. sees_mark symbol.Minus (One negative_of) (is symbol.Minus) true refl u rest y h)
      (λ u rest y h s. elim h [ inl o ↦ sees_mark symbol.OpenRound (Tupled In) (is symbol.Minus) false refl u rest y o | inr o ↦ simple_no symbol.Minus refl u rest y o ]))

-- ---- all levels

abbrev pub Literals : ℕ → Rel Value
Literals = Within Literal

abbrev pub between : ℕ → ℕ → Knot (Parser Value)
between d m = record { inner = literal d; more = literal m }

pub literals_begin : (d : ℕ) → Begins (Literals d)
literals_begin zero u rest y h = absurd h
literals_begin (suc d) u rest y h = literal_begins (Literals d) u rest y h

pub level : (d m : ℕ) → d ≤ m → Rule (between d m) d (plain none) (Literals d) (λ inner. inner)
unfolding levels
level zero m le = record { exact = refuse_exact (plain none); meets = none_meets (literal m) }
level (suc d) zero le = absurd (omega arith)
level (suc d) (suc m) le =
    let below = level d m (omega arith) in
    let r = the_literal_rule {K = between d m} {k = d} {In = Literals d} (literals_begin d) below in
    record { exact = r.exact; meets = r.meets }

pub literal_within : (d : ℕ) → WithinText (literal d)
literal_within d = (level d d (omega arith)).meets.within
