-- The parser of atoms is exact.
use Rattle.std.proofs.Common.{◌≡◌, ℕ, suc, ◌<◌, ◌≤◌, true, false, [], ◌∷◌, ◌++◌, Option, Some, pos, refl, sym, ap, subst, ◌∙◌, append_assoc, inl, inr}
use Rattle.mx_value.specs.declared.value.Value.{Value}
use Rattle.mx_value.specs.declared.value.Value.TheVariants as value
use Rattle.mx_syntax.specs.declared.expr.Expr.{Expr}
use Rattle.mx_syntax.specs.declared.expr.Expr.TheVariants as expr
use Rattle.mx_grammar.specs.declared.word.Symbol.TheVariants as symbol
use Rattle.mx_grammar.specs.declared.word.Word.{Word}
use Rattle.mx_grammar.specs.declared.word.Word.TheVariants.{Name, Int, Fix, Text, Symbol}
use Rattle.mx_grammar.specs.Words.{is}
use Rattle.mx_grammar.specs.Reading.{Words, Parser, sees}
use Rattle.mx_grammar.specs.LiteralParsers.{simple_of}
use Rattle.mx_grammar.specs.AddressParsers.{name_of, is_name}
use Rattle.mx_grammar.proofs.Exact.{Rel, Kinds, Stops, none, Exists, Nothing, Then, Either, One}
use Rattle.mx_grammar.proofs.Symbols.{apart, unlike, unsaid}
use Rattle.mx_grammar.proofs.Rules.{Knot, Rule, plain, accept_rule, then_rule, iff_rule, map_rule, choose_rule, behind_rule, open_rule, Behind, marked, mark, mapped, mapping, sees_mark, alone, single, alone_rule}
use Rattle.mx_grammar.proofs.Lists.{Closes, Others, others, some_others, others_are, others_rule}
use Rattle.mx_grammar.proofs.AddressRules.{name_inner, one_name, named}
use Rattle.mx_expression.specs.Operands.{Atom}
use Rattle.mx_expression.specs.OperandParsers.{group_rest, group, atom}
use Rattle.mx_expression.proofs.TokenKinds.{follows, after_or, begins, begins_atom}
use Rattle.mx_grammar.proofs.LiteralRules.{Simple, simple_is, simple_one}

-- a number of levels of brackets, and a greater one
abbrev pub between : ℕ → ℕ → Knot ℕ
between d m = record { inner = d; more = m }

-- What is known of the parts inside brackets, in so many levels: what parses an expression there, and what parses an `or`.
pub record Brackets (d m : ℕ) (Inside In : Rel Expr) (inside inner : ℕ → Parser Expr) : Type 0 where
  pub order : d ≤ m
  pub expr : Rule (between d m) d (plain follows) Inside inside
  pub or : Rule (between d m) d (plain after_or) In inner
  pub begun : (u rest : Words) (x : Expr) → Inside u x → sees begins (u ++ rest) ≡ true
  -- an expression has an `or` in it
  pub has : (u : Words) (x : Expr) → Inside u x → Exists In
  -- nothing stands there in no levels
  pub some : 0 < d → Exists Inside
  pub never : d ≡ 0 → (u : Words) (x : Expr) → Inside u x → ⊥

-- ---- tokens

no_name : (t : Word) (v : Value) → simple_of t ≡ Some v → is_name t ≡ false
no_name (Name n) v h = absurd cc
no_name _ v h = refl

module _ (Inside : Rel Expr) where
  abbrev AsName : Rel Expr
  AsName = Then (One name_of) (λ n. Nothing (expr.Name n))

  abbrev AsLiteral : Rel Expr
  AsLiteral = Then (One simple_of) (λ v. Nothing (expr.Lit v))

  abbrev GroupRest : Expr → Rel Expr
  GroupRest x = Either (Behind symbol.Comma (Others Inside symbol.CloseRound expr.Tuple x)) (Behind symbol.CloseRound (Nothing x))

  abbrev Grouped : Rel Expr
  Grouped = Either (Behind symbol.CloseRound (Nothing (expr.Tuple []))) (Then Inside GroupRest)

  abbrev AtomIs : Rel Expr
  AtomIs = Either (Behind symbol.OpenRound Grouped) (Either AsName AsLiteral)

  -- ---- to the relation

  abbrev AsLit : Rel Value
  AsLit u v = Atom Inside u (expr.Lit v)

  simple : Simple AsLit
  simple = record { int = λ n h. Atom.int h; fix = λ z. Atom.fix; text = λ t. Atom.text; none = Atom.none; holds = Atom.holds; fails = Atom.fails }

  to_group_rest : (x : Expr) (u v : Words) (y : Expr) → Inside u x → GroupRest x v y → Atom Inside (Symbol symbol.OpenRound ∷ u ++ v) y
  to_group_rest x u v y h (inl k) =
      let m = marked symbol.Comma (Others Inside symbol.CloseRound expr.Tuple x) v y k in
      let o = others_are Inside symbol.CloseRound expr.Tuple x y m.0 m.2 in
      let e : u ++ v ≡ u ++ Symbol symbol.Comma ∷ o.items ++ Symbol symbol.CloseRound ∷ [] = ap (λ (w : Words). u ++ w) (m.1 ∙ ap (λ (w : Words). Symbol symbol.Comma ∷ w) o.parts) ∙ sym (append_assoc u (Symbol symbol.Comma ∷ o.items) (Symbol symbol.CloseRound ∷ [])) in
      subst (λ (w : Words). Atom Inside (Symbol symbol.OpenRound ∷ w) y) (sym e) (subst (Atom Inside (Symbol symbol.OpenRound ∷ u ++ Symbol symbol.Comma ∷ o.items ++ Symbol symbol.CloseRound ∷ [])) (sym o.tree) (Atom.tuple h o.spells))
  to_group_rest x u v y h (inr k) = single (λ w z. Atom Inside (Symbol symbol.OpenRound ∷ u ++ w) z) symbol.CloseRound x (Atom.group h) v y k

  to_group : (u : Words) (y : Expr) → Grouped u y → Atom Inside (Symbol symbol.OpenRound ∷ u) y
  to_group u y (inl h) = single (λ w z. Atom Inside (Symbol symbol.OpenRound ∷ w) z) symbol.CloseRound (expr.Tuple []) Atom.empty u y h
  to_group u y (inr h) = subst (λ (v : Words). Atom Inside (Symbol symbol.OpenRound ∷ v) y) (sym h.parts) (to_group_rest h.tree h.left h.right y h.first h.second)

  to_atom : (u : Words) (y : Expr) → AtomIs u y → Atom Inside u y
  to_atom u y (inl h) = let m = marked symbol.OpenRound Grouped u y h in subst (λ (v : Words). Atom Inside v y) (sym m.1) (to_group m.0 y m.2)
  to_atom u y (inr (inl h)) =
      let m = mapped (One name_of) expr.Name u y h in
      subst (λ (v : Words). Atom Inside v y) (sym (named u m.0 m.1)) (subst (Atom Inside (Name m.0 ∷ [])) (sym m.2) Atom.name)
  to_atom u y (inr (inr h)) =
      let m = mapped (One simple_of) expr.Lit u y h in
      subst (λ (v : Words). Atom Inside v y) (sym m.1.is) (subst (Atom Inside (m.1.token ∷ [])) (sym m.2) (simple_is AsLit simple m.1.token m.0 m.1.what))

  -- ---- from the relation

  from_simple : (u : Words) (v : Value) → One simple_of u v → AtomIs u (expr.Lit v)
  from_simple u v h = inr (inr (mapping (One simple_of) expr.Lit u v h))

  some_group : Exists Grouped
  some_group = record { tokens = Symbol symbol.CloseRound ∷ []; tree = expr.Tuple []; spells = inl (mark symbol.CloseRound (Nothing (expr.Tuple [])) [] (expr.Tuple []) (refl, refl)) }

  closing : (x : Expr) → GroupRest x (Symbol symbol.CloseRound ∷ []) x
  closing x = inr (alone symbol.CloseRound x)

  from_atom : (u : Words) (y : Expr) → Atom Inside u y → AtomIs u y
  unfolding some_group
  from_atom _ _ (Atom.name {n}) = inr (inl (mapping (One name_of) expr.Name (Name n ∷ []) n (one_name n)))
  from_atom _ _ (Atom.int {n} h) = from_simple (Int n ∷ []) (value.Int (pos n)) (simple_one.int n h)
  from_atom _ _ (Atom.fix {z}) = from_simple (Fix z ∷ []) (value.Fix z) (simple_one.fix z)
  from_atom _ _ (Atom.text {t}) = from_simple (Text t ∷ []) (value.Text t) (simple_one.text t)
  from_atom _ _ Atom.none = from_simple (Symbol symbol.None ∷ []) value.Nothing simple_one.none
  from_atom _ _ Atom.holds = from_simple (Symbol symbol.True ∷ []) (value.Flag true) simple_one.holds
  from_atom _ _ Atom.fails = from_simple (Symbol symbol.False ∷ []) (value.Flag false) simple_one.fails
  from_atom _ _ (Atom.group {u} {x} h) =
      inl (mark symbol.OpenRound Grouped (u ++ Symbol symbol.CloseRound ∷ []) x (inr (record { left = u; right = Symbol symbol.CloseRound ∷ []; tree = x; parts = refl; first = h; second = closing x })))
  from_atom _ _ Atom.empty = inl (mark symbol.OpenRound Grouped (Symbol symbol.CloseRound ∷ []) (expr.Tuple []) some_group.spells)
  from_atom _ _ (Atom.tuple {u} {v} {x} {xs} h k) =
      inl (mark symbol.OpenRound Grouped (u ++ Symbol symbol.Comma ∷ v ++ Symbol symbol.CloseRound ∷ []) (expr.Tuple (x ∷ xs)) (inr (record {
        left = u;
        right = Symbol symbol.Comma ∷ v ++ Symbol symbol.CloseRound ∷ [];
        tree = x;
        parts = append_assoc u (Symbol symbol.Comma ∷ v) (Symbol symbol.CloseRound ∷ []);
        first = h;
        second = inl (mark symbol.Comma (Others Inside symbol.CloseRound expr.Tuple x) (v ++ Symbol symbol.CloseRound ∷ []) (expr.Tuple (x ∷ xs)) (others Inside symbol.CloseRound expr.Tuple x v xs k));
      })))

  pub atom_begins : (u rest : Words) (y : Expr) → Atom Inside u y → sees begins_atom (u ++ rest) ≡ true
  atom_begins _ rest _ Atom.name = refl
  atom_begins _ rest _ _ = refl

-- ---- the rule

module _ {d m : ℕ} {Inside In : Rel Expr} {inside inner : ℕ → Parser Expr} (b : Brackets d m Inside In inside inner) where
  pub closes_round : Closes symbol.CloseRound follows Inside
  closes_round = record { inner = refl; no_comma = refl; stops_comma = refl; stops_close = refl; begins = λ u rest y h. apart begins (is symbol.CloseRound) (unlike begins symbol.CloseRound refl) (u ++ rest) (b.begun u rest y h) }

  pub closes_square : Closes symbol.CloseSquare follows Inside
  closes_square = record { inner = refl; no_comma = refl; stops_comma = refl; stops_close = refl; begins = λ u rest y h. apart begins (is symbol.CloseSquare) (unlike begins symbol.CloseSquare refl) (u ++ rest) (b.begun u rest y h) }

  -- an expression and what stands behind it begin no closing bracket
  pub opens : {B : Type 0} (Q : Expr → Rel B) (u rest : Words) (y : B) → Then Inside Q u y → sees (is symbol.CloseRound) (u ++ rest) ≡ false
  opens Q u rest y h = ap (sees (is symbol.CloseRound)) (ap (λ (v : Words). v ++ rest) h.parts ∙ append_assoc h.left h.right rest) ∙ apart begins (is symbol.CloseRound) (unlike begins symbol.CloseRound refl) (h.left ++ (h.right ++ rest)) (b.begun h.left (h.right ++ rest) h.tree h.first)

  group_rest_rule : (x : Expr) → Rule (between d m) d (plain none) (GroupRest Inside x) (λ i. group_rest (inside i) x)
  unfolding group_rest
  group_rest_rule x =
      choose_rule (is symbol.Comma) (behind_rule symbol.Comma refl (some_others Inside symbol.CloseRound expr.Tuple x) (others_rule symbol.CloseRound expr.Tuple closes_round b.expr x))
      (alone_rule symbol.CloseRound x refl)
      (λ u rest y h s. sees_mark symbol.Comma (Others Inside symbol.CloseRound expr.Tuple x) (is symbol.Comma) true refl u rest y h)
      (λ u rest y h s. sees_mark symbol.CloseRound (Nothing x) (is symbol.Comma) false refl u rest y h)

  group_stops : (x : Expr) (v rest : Words) (y : Expr) → GroupRest Inside x v y → Stops follows (v ++ rest)
  group_stops x v rest y (inl h) = sees_mark symbol.Comma (Others Inside symbol.CloseRound expr.Tuple x) follows false refl v rest y h
  group_stops x v rest y (inr h) = sees_mark symbol.CloseRound (Nothing x) follows false refl v rest y h

  group_rule : Rule (between d m) d (plain none) (Grouped Inside) (λ i. group (inside i))
  unfolding group
  group_rule =
      choose_rule (is symbol.CloseRound) (alone_rule symbol.CloseRound (expr.Tuple []) refl)
      (then_rule b.expr group_rest_rule (λ x v rest y h s. group_stops x v rest y h) (λ x. record { tokens = Symbol symbol.CloseRound ∷ []; tree = x; spells = closing Inside x }))
      (λ u rest y h s. sees_mark symbol.CloseRound (Nothing (expr.Tuple [])) (is symbol.CloseRound) true refl u rest y h)
      (λ u rest y h s. opens (GroupRest Inside) u rest y h)

  one_no : {A B : Type 0} (c : Kinds) (says : Word → Option A) (build : A → B) → ((t : Word) (a : A) → says t ≡ Some a → c t ≡ false) → (u rest : Words) (y : B) → Then (One says) (λ a. Nothing (build a)) u y → sees c (u ++ rest) ≡ false
  one_no c says build off u rest y h = let m = mapped (One says) build u y h in ap (λ (v : Words). sees c (v ++ rest)) m.1.is ∙ off m.1.token m.0 m.1.what

  pub atom_rule : Rule (between d m) (suc d) (plain none) (Atom Inside) (λ i. atom (inside i))
  unfolding atom
  atom_rule =
      iff_rule (to_atom Inside) (from_atom Inside)
      (choose_rule (is symbol.OpenRound) (open_rule symbol.OpenRound refl (some_group Inside) group_rule)
      (choose_rule is_name (map_rule expr.Name (accept_rule name_of name_inner)) (map_rule expr.Lit (accept_rule simple_of (unsaid simple_of symbol.End refl)))
      (λ u rest y h s. let m = mapped (One name_of) expr.Name u y h in ap (λ (v : Words). sees is_name (v ++ rest)) (named u m.0 m.1))
      (λ u rest y h s. one_no is_name simple_of expr.Lit no_name u rest y h))
      (λ u rest y h s. sees_mark symbol.OpenRound (Grouped Inside) (is symbol.OpenRound) true refl u rest y h)
      (λ u rest y h s. elim h [ inl n ↦ one_no (is symbol.OpenRound) name_of expr.Name (unsaid name_of symbol.OpenRound refl) u rest y n | inr l ↦ one_no (is symbol.OpenRound) simple_of expr.Lit (unsaid simple_of symbol.OpenRound refl) u rest y l ]))
