-- The parsers of chains of operators are exact.
use Rattle.std.proofs.Common.{◌≡◌, ℕ, suc, ◌+◌, Bool, ◌||◌, true, false, List, [], ◌∷◌, ◌++◌, length, refl, sym, ap, subst, ◌∙◌, append_assoc, arith, inl, inr}
use Rattle.std.proofs.lemmas.List.{append-nil}
use Rattle.mx_syntax.specs.declared.expr.Expr.{Expr}
use Rattle.mx_syntax.specs.declared.expr.Comparison.{Comparison}
use Rattle.mx_syntax.specs.declared.expr.Comparison.TheVariants as made
use Rattle.mx_syntax.specs.declared.expr.CmpOp.{CmpOp}
use Rattle.mx_syntax.specs.declared.expr.CmpOp.TheVariants as compares
use Rattle.mx_syntax.specs.declared.expr.SumPart.{SumPart}
use Rattle.mx_syntax.specs.declared.expr.SumOp.{SumOp}
use Rattle.mx_syntax.specs.declared.expr.SumOp.TheVariants as sums
use Rattle.mx_syntax.specs.declared.expr.ProductPart.{ProductPart}
use Rattle.mx_syntax.specs.declared.expr.ProductOp.{ProductOp}
use Rattle.mx_syntax.specs.declared.expr.ProductOp.TheVariants as products
use Rattle.mx_grammar.specs.declared.word.Symbol.{Symbol as Symbols}
use Rattle.mx_grammar.specs.declared.word.Symbol.TheVariants as symbol
use Rattle.mx_grammar.specs.declared.word.Word.{Word}
use Rattle.mx_grammar.specs.declared.word.Word.TheVariants.{Symbol}
use Rattle.mx_grammar.specs.Words.{is}
use Rattle.mx_grammar.specs.Grammar.{Parts}
use Rattle.mx_grammar.specs.Reading.{Words, Parser, ◌>>=◌, pure, sees}
use Rattle.mx_grammar.proofs.Exact.{Rel, Kinds, Stops, none, or, stops_none, Exists, Nothing, Never, Then, Either}
use Rattle.mx_grammar.proofs.Symbols.{here, apart, at, along}
use Rattle.mx_grammar.proofs.Rules.{Knot, Rule, plain, refuse_rule, any_rule, then_rule, iff_rule, map_rule, choose_rule, behind_rule, Mark, mark_rule, Behind, marked, mark, mapped, mapping, sees_mark, some_mapped, alone, single, alone_rule, some_alone, behind_is}
use Rattle.mx_grammar.proofs.Lists.{BeginsWith, Chained, Chain, whole_chain_rule}
use Rattle.mx_expression.specs.Chains.{ProductSign, ProductTail, Product, SumSign, SumTail, Sum, CompareSign, CompareTail, Compare, Nots, Not, AndTail, And, OrTail, Or}
use Rattle.mx_expression.specs.ChainParsers as spec
use Rattle.mx_expression.specs.ChainParsers.{one_of, product_op, product_part, product, sum_op, sum_part, sum, compare_op, none_test, comparison, compare, negated, and_part, both, or_part, either}
use Rattle.mx_expression.proofs.TokenKinds.{begins_signed, begins, after_signed, after_product, after_sum, after_compare, after_and, after_or}
use Rattle.mx_grammar.proofs.Gather.{gathered, Gathered, gather_rule}

-- ---- symbols that say something

module _ {A : Type 0} where
  abbrev OneOf : List (Symbols × A) → Rel A
  OneOf [] = Never
  OneOf (e ∷ es) = Either (Behind e.0 (Nothing e.1)) (OneOf es)

  -- the symbol is none of these
  abbrev NotIn : Symbols → List (Symbols × A) → Type 0
  NotIn s [] = Unit {0}
  NotIn s (e ∷ es) = (is s (Symbol e.0) ≡ false) × NotIn s es

  -- no symbol stands there twice, and none is END
  abbrev Differ : List (Symbols × A) → Type 0
  Differ [] = Unit {0}
  Differ (e ∷ es) = (is symbol.End (Symbol e.0) ≡ false) × NotIn e.0 es × Differ es

  -- each of them spells what it says
  abbrev Each : Rel A → List (Symbols × A) → Type 0
  Each P [] = Unit {0}
  Each P (e ∷ es) = P (Symbol e.0 ∷ []) e.1 × Each P es

  to_each : (P : Rel A) (es : List (Symbols × A)) → Each P es → (u : Words) (a : A) → OneOf es u a → P u a
  to_each P [] p u a h = absurd h
  to_each P (e ∷ es) p u a (inl h) = single P e.0 e.1 p.0 u a h
  to_each P (e ∷ es) p u a (inr h) = to_each P es p.1 u a h

  one_of_not : (s : Symbols) (es : List (Symbols × A)) → NotIn s es → (u rest : Words) (a : A) → OneOf es u a → sees (is s) (u ++ rest) ≡ false
  one_of_not s [] n u rest a h = absurd h
  one_of_not s (e ∷ es) n u rest a (inl h) = sees_mark e.0 (Nothing e.1) (is s) false n.0 u rest a h
  one_of_not s (e ∷ es) n u rest a (inr h) = one_of_not s es n.1 u rest a h

  one_of_rule : {E : Type 0} {K : Knot E} {k : ℕ} (es : List (Symbols × A)) → Differ es → Rule K k (plain none) (OneOf es) (λ _. one_of es)
  one_of_rule [] d = refuse_rule (plain none)
  one_of_rule (e ∷ es) d =
      choose_rule (is e.0) (alone_rule e.0 e.1 d.0) (one_of_rule es d.2)
      (λ u rest a h s. sees_mark e.0 (Nothing e.1) (is e.0) true (here e.0) u rest a h)
      (λ u rest a h s. one_of_not e.0 es d.1 u rest a h)

-- ---- a part behind an operator

-- each spelling of a part begins an operand
abbrev pub Starts : Rel Expr → Type 0
Starts S = (u rest : Words) (x : Expr) → S u x → sees begins_signed (u ++ rest) ≡ true

-- an operator, and what is made of the part behind it
abbrev Tailed : {A B : Type 0} → Rel A → Rel Expr → (A → Expr → B) → Rel B
Tailed Sign S build = Then Sign (λ op. Then S (λ x. Nothing (build op x)))

module _ {A B : Type 0} (Sign : Rel A) (S : Rel Expr) (build : A → Expr → B) where
  tail_is : (R : Rel B) → ((u v : Words) (op : A) (x : Expr) → Sign u op → S v x → R (u ++ v) (build op x)) → (u : Words) (b : B) → Tailed Sign S build u b → R u b
  tail_is R tail u b h =
      let p = mapped S (build h.tree) h.right b h.second in subst (λ (w : Words). R w b) (sym h.parts) (subst (R (h.left ++ h.right)) (sym p.2) (tail h.left h.right h.tree p.0 h.first p.1))

  is_tail : (u v : Words) (op : A) (x : Expr) → Sign u op → S v x → Tailed Sign S build (u ++ v) (build op x)
  is_tail u v op x h k = record { left = u; right = v; tree = op; parts = refl; first = h; second = mapping S (build op) v x k }

  tail_rule : {E : Type 0} {K : Knot E} {k : ℕ} {F : Kinds} {o : E → Parser A} {p : E → Parser Expr} → Exists S → Rule K k (plain none) Sign o → Rule K k (plain F) S p
      → Rule K k (plain F) (Tailed Sign S build) (λ i. o i >>= λ op. p i >>= λ x. pure (build op x))
  tail_rule some o p = then_rule o (λ op. map_rule (build op) p) (λ op v rest b h s. stops_none (v ++ rest)) (λ op. some_mapped (build op) some)

-- ---- products

product_off : (t : Word) → spec.is_product t ≡ true → after_signed t ≡ false
product_off (Symbol symbol.Times) h = cc
product_off _ h = cc

from_product_sign : (u : Words) (op : ProductOp) → ProductSign u op → OneOf spec.product_ops u op
from_product_sign _ _ ProductSign.times = inl (alone symbol.Times products.Times)
from_product_sign _ _ ProductSign.over = inr (inl (alone symbol.Over products.Over))
from_product_sign _ _ ProductSign.floor = inr (inr (inl (alone symbol.Floor products.Floor)))
from_product_sign _ _ ProductSign.rem = inr (inr (inr (inl (alone symbol.Rem products.Rem))))

product_op_rule : {E : Type 0} {K : Knot E} {k : ℕ} → Rule K k (plain none) ProductSign (λ _. product_op)
unfolding product_op
product_op_rule = iff_rule (to_each ProductSign spec.product_ops (ProductSign.times, (ProductSign.over, (ProductSign.floor, (ProductSign.rem, tt))))) from_product_sign (one_of_rule spec.product_ops (refl, (refl, (refl, (refl, tt))), (refl, (refl, (refl, tt)), (refl, (refl, tt), (refl, tt, tt)))))

module _ (S : Rel Expr) where
  from_product_tail : (u : Words) (y : ProductPart) → ProductTail S u y → Tailed ProductSign S spec.product_part_of u y
  from_product_tail _ _ (ProductTail.tail {u} {v} {op} {x} h k) = is_tail ProductSign S spec.product_part_of u v op x h k

  pub product_tail_begins : BeginsWith spec.is_product (ProductTail S)
  product_tail_begins _ rest _ (ProductTail.tail ProductSign.times k) = refl
  product_tail_begins _ rest _ (ProductTail.tail ProductSign.over k) = refl
  product_tail_begins _ rest _ (ProductTail.tail ProductSign.floor k) = refl
  product_tail_begins _ rest _ (ProductTail.tail ProductSign.rem k) = refl

  from_product : (u : Words) (x : Expr) → Product S u x → Chained S (ProductTail S) spec.product_of u x
  from_product _ _ (Product.alone {u} {x} a) = record { left = u; right = []; head = x; others = []; parts = sym (append-nil u); first = a; rest = Parts.none; tree = refl }
  from_product _ _ (Product.chain {u} {v} {x} {y} {ys} a ps) = record { left = u; right = v; head = x; others = y ∷ ys; parts = refl; first = a; rest = ps; tree = refl }

  pub product_chain : Chain S (ProductTail S) spec.product_of (Product S)
  product_chain = record { alone = λ u x a. Product.alone a; chain = λ u v x y ys a ps. Product.chain a ps; from = from_product }

module _ {E : Type 0} {K : Knot E} {k : ℕ} {S : Rel Expr} {p : E → Parser Expr} (some : Exists S) (part : Rule K k (plain after_signed) S p) where
  pub product_part_rule : Rule K k (plain after_signed) (ProductTail S) (λ i. product_part (p i))
  unfolding product_part
  product_part_rule = iff_rule (tail_is ProductSign S spec.product_part_of (ProductTail S) (λ u v op x h k. ProductTail.tail h k)) (from_product_tail S) (tail_rule ProductSign S spec.product_part_of some product_op_rule part)

  pub product_rule : Rule K k (plain after_product) (Product S) (λ i. product (p i))
  unfolding product
  product_rule = whole_chain_rule (product_chain S) spec.is_product part product_part_rule (product_tail_begins S) product_off

-- ---- sums

sum_off : (t : Word) → spec.is_sum t ≡ true → after_product t ≡ false
sum_off (Symbol symbol.Plus) h = cc
sum_off _ h = cc

from_sum_sign : (u : Words) (op : SumOp) → SumSign u op → OneOf spec.sum_ops u op
from_sum_sign _ _ SumSign.plus = inl (alone symbol.Plus sums.Plus)
from_sum_sign _ _ SumSign.minus = inr (inl (alone symbol.Minus sums.Minus))

sum_op_rule : {E : Type 0} {K : Knot E} {k : ℕ} → Rule K k (plain none) SumSign (λ _. sum_op)
unfolding sum_op
sum_op_rule = iff_rule (to_each SumSign spec.sum_ops (SumSign.plus, (SumSign.minus, tt))) from_sum_sign (one_of_rule spec.sum_ops (refl, (refl, tt), (refl, tt, tt)))

module _ (S : Rel Expr) where
  from_sum_tail : (u : Words) (y : SumPart) → SumTail S u y → Tailed SumSign S spec.sum_part_of u y
  from_sum_tail _ _ (SumTail.tail {u} {v} {op} {x} h k) = is_tail SumSign S spec.sum_part_of u v op x h k

  pub sum_tail_begins : BeginsWith spec.is_sum (SumTail S)
  sum_tail_begins _ rest _ (SumTail.tail SumSign.plus k) = refl
  sum_tail_begins _ rest _ (SumTail.tail SumSign.minus k) = refl

  from_sum : (u : Words) (x : Expr) → Sum S u x → Chained S (SumTail S) spec.sum_of u x
  from_sum _ _ (Sum.alone {u} {x} a) = record { left = u; right = []; head = x; others = []; parts = sym (append-nil u); first = a; rest = Parts.none; tree = refl }
  from_sum _ _ (Sum.chain {u} {v} {x} {y} {ys} a ps) = record { left = u; right = v; head = x; others = y ∷ ys; parts = refl; first = a; rest = ps; tree = refl }

  pub sum_chain : Chain S (SumTail S) spec.sum_of (Sum S)
  sum_chain = record { alone = λ u x a. Sum.alone a; chain = λ u v x y ys a ps. Sum.chain a ps; from = from_sum }

module _ {E : Type 0} {K : Knot E} {k : ℕ} {S : Rel Expr} {p : E → Parser Expr} (some : Exists S) (part : Rule K k (plain after_product) S p) where
  pub sum_part_rule : Rule K k (plain after_product) (SumTail S) (λ i. sum_part (p i))
  unfolding sum_part
  sum_part_rule = iff_rule (tail_is SumSign S spec.sum_part_of (SumTail S) (λ u v op x h k. SumTail.tail h k)) (from_sum_tail S) (tail_rule SumSign S spec.sum_part_of some sum_op_rule part)

  pub sum_rule : Rule K k (plain after_sum) (Sum S) (λ i. sum (p i))
  unfolding sum
  sum_rule = whole_chain_rule (sum_chain S) spec.is_sum part sum_part_rule (sum_tail_begins S) sum_off

-- ---- comparisons

compare_off : (t : Word) → spec.is_compare t ≡ true → after_sum t ≡ false
compare_off (Symbol symbol.Lt) h = cc
compare_off _ h = cc

-- `not in`
abbrev Outside : Rel CmpOp
Outside = Behind symbol.Not (Behind symbol.In (Nothing compares.NotIn))

abbrev CompareSignIs : Rel CmpOp
CompareSignIs = Either Outside (OneOf spec.compare_ops)

to_compare_sign : (u : Words) (op : CmpOp) → CompareSignIs u op → CompareSign u op
to_compare_sign u op (inl h) =
    let m = marked symbol.Not (Behind symbol.In (Nothing compares.NotIn)) u op h in
    subst (λ (w : Words). CompareSign w op) (sym m.1) (single (λ v o. CompareSign (Symbol symbol.Not ∷ v) o) symbol.In compares.NotIn CompareSign.outside m.0 op m.2)
to_compare_sign u op (inr h) = to_each CompareSign spec.compare_ops (CompareSign.less, (CompareSign.at_most, (CompareSign.greater, (CompareSign.at_least, (CompareSign.equal, (CompareSign.unequal, (CompareSign.within, tt))))))) u op h

from_compare_sign : (u : Words) (op : CmpOp) → CompareSign u op → CompareSignIs u op
from_compare_sign _ _ CompareSign.less = inr (inl (alone symbol.Lt compares.Lt))
from_compare_sign _ _ CompareSign.at_most = inr (inr (inl (alone symbol.Le compares.Le)))
from_compare_sign _ _ CompareSign.greater = inr (inr (inr (inl (alone symbol.Gt compares.Gt))))
from_compare_sign _ _ CompareSign.at_least = inr (inr (inr (inr (inl (alone symbol.Ge compares.Ge)))))
from_compare_sign _ _ CompareSign.equal = inr (inr (inr (inr (inr (inl (alone symbol.Eq compares.Eq))))))
from_compare_sign _ _ CompareSign.unequal = inr (inr (inr (inr (inr (inr (inl (alone symbol.Ne compares.Ne)))))))
from_compare_sign _ _ CompareSign.within = inr (inr (inr (inr (inr (inr (inr (inl (alone symbol.In compares.In))))))))
from_compare_sign _ _ CompareSign.outside = inl (mark symbol.Not (Behind symbol.In (Nothing compares.NotIn)) (Symbol symbol.In ∷ []) compares.NotIn (alone symbol.In compares.NotIn))

compare_op_rule : {E : Type 0} {K : Knot E} {k : ℕ} → Rule K k (plain none) CompareSign (λ _. compare_op)
unfolding compare_op
compare_op_rule =
    iff_rule to_compare_sign from_compare_sign
    (choose_rule (is symbol.Not)
    (behind_rule symbol.Not refl (some_alone symbol.In compares.NotIn) (alone_rule symbol.In compares.NotIn refl))
    (one_of_rule spec.compare_ops (refl, (refl, (refl, (refl, (refl, (refl, (refl, tt)))))), (refl, (refl, (refl, (refl, (refl, (refl, tt))))), (refl, (refl, (refl, (refl, (refl, tt)))), (refl, (refl, (refl, (refl, tt))), (refl, (refl, (refl, tt)), (refl, (refl, tt), (refl, tt, tt))))))))
    (λ u rest op h s. sees_mark symbol.Not (Behind symbol.In (Nothing compares.NotIn)) (is symbol.Not) true refl u rest op h)
    (λ u rest op h s. one_of_not symbol.Not spec.compare_ops (refl, (refl, (refl, (refl, (refl, (refl, (refl, tt))))))) u rest op h))

-- `is None` and `is not None`
abbrev IsNothing : Rel Comparison
IsNothing = Behind symbol.None (Nothing made.IsNone)

abbrev IsSomething : Rel Comparison
IsSomething = Behind symbol.Not (Behind symbol.None (Nothing made.IsNotNone))

abbrev NoneTest : Rel Comparison
NoneTest = Behind symbol.Is (Either IsSomething IsNothing)

some_none_test : Exists (Either IsSomething IsNothing)
some_none_test = record { tokens = Symbol symbol.None ∷ []; tree = made.IsNone; spells = inr (alone symbol.None made.IsNone) }

none_test_rule : {E : Type 0} {K : Knot E} {k : ℕ} → Rule K k (plain none) NoneTest (λ _. none_test)
unfolding none_test
none_test_rule =
    behind_rule symbol.Is refl some_none_test
    (choose_rule (is symbol.Not)
    (behind_rule symbol.Not refl (some_alone symbol.None made.IsNotNone) (alone_rule symbol.None made.IsNotNone refl))
    (alone_rule symbol.None made.IsNone refl)
    (λ u rest y h s. sees_mark symbol.Not (Behind symbol.None (Nothing made.IsNotNone)) (is symbol.Not) true refl u rest y h)
    (λ u rest y h s. sees_mark symbol.None (Nothing made.IsNone) (is symbol.Not) false refl u rest y h))

-- no operator begins with `is`
sign_not_is : (u rest : Words) (op : CmpOp) → CompareSign u op → sees (is symbol.Is) (u ++ rest) ≡ false
sign_not_is _ rest _ CompareSign.less = refl
sign_not_is _ rest _ _ = refl

sign_begins : (u rest : Words) (op : CmpOp) → CompareSign u op → sees spec.is_compare (u ++ rest) ≡ true
sign_begins _ rest _ CompareSign.less = refl
sign_begins _ rest _ _ = refl

module _ (S : Rel Expr) where
  abbrev CompareTailIs : Rel Comparison
  CompareTailIs = Either NoneTest (Tailed CompareSign S made.Op)

  to_compare_tail : (u : Words) (y : Comparison) → CompareTailIs u y → CompareTail S u y
  to_compare_tail u y (inl h) =
      let m = marked symbol.Is (Either IsSomething IsNothing) u y h in
      subst (λ (w : Words). CompareTail S w y) (sym m.1) (elim m.2 [
        | inl k ↦
            let n = marked symbol.Not (Behind symbol.None (Nothing made.IsNotNone)) m.0 y k in
            subst (λ (w : Words). CompareTail S (Symbol symbol.Is ∷ w) y) (sym n.1) (single (λ v o. CompareTail S (Symbol symbol.Is ∷ Symbol symbol.Not ∷ v) o) symbol.None made.IsNotNone CompareTail.some n.0 y n.2)
        | inr k ↦ single (λ v o. CompareTail S (Symbol symbol.Is ∷ v) o) symbol.None made.IsNone CompareTail.none m.0 y k
      ])
  to_compare_tail u y (inr h) = tail_is CompareSign S made.Op (CompareTail S) (λ v w op x k l. CompareTail.tail k l) u y h

  from_compare_tail : (u : Words) (y : Comparison) → CompareTail S u y → CompareTailIs u y
  from_compare_tail _ _ (CompareTail.tail {u} {v} {op} {x} h k) = inr (is_tail CompareSign S made.Op u v op x h k)
  from_compare_tail _ _ CompareTail.none = inl (mark symbol.Is (Either IsSomething IsNothing) (Symbol symbol.None ∷ []) made.IsNone (inr (alone symbol.None made.IsNone)))
  from_compare_tail _ _ CompareTail.some =
      inl (mark symbol.Is (Either IsSomething IsNothing) (Symbol symbol.Not ∷ Symbol symbol.None ∷ []) made.IsNotNone
      (inl (mark symbol.Not (Behind symbol.None (Nothing made.IsNotNone)) (Symbol symbol.None ∷ []) made.IsNotNone (alone symbol.None made.IsNotNone))))

  pub compare_tail_begins : BeginsWith spec.is_compare (CompareTail S)
  compare_tail_begins _ rest _ (CompareTail.tail {u} {v} {op} h k) = ap (sees spec.is_compare) (append_assoc u v rest) ∙ sign_begins u (v ++ rest) op h
  compare_tail_begins _ rest _ CompareTail.none = refl
  compare_tail_begins _ rest _ CompareTail.some = refl

  tailed_not_is : (u rest : Words) (y : Comparison) → Tailed CompareSign S made.Op u y → sees (is symbol.Is) (u ++ rest) ≡ false
  tailed_not_is u rest y h = ap (λ (w : Words). sees (is symbol.Is) (w ++ rest)) h.parts ∙ ap (sees (is symbol.Is)) (append_assoc h.left h.right rest) ∙ sign_not_is h.left (h.right ++ rest) h.tree h.first

  from_compare : (u : Words) (x : Expr) → Compare S u x → Chained S (CompareTail S) spec.compare_of u x
  from_compare _ _ (Compare.alone {u} {x} a) = record { left = u; right = []; head = x; others = []; parts = sym (append-nil u); first = a; rest = Parts.none; tree = refl }
  from_compare _ _ (Compare.chain {u} {v} {x} {y} {ys} a ps) = record { left = u; right = v; head = x; others = y ∷ ys; parts = refl; first = a; rest = ps; tree = refl }

  pub compare_chain : Chain S (CompareTail S) spec.compare_of (Compare S)
  compare_chain = record { alone = λ u x a. Compare.alone a; chain = λ u v x y ys a ps. Compare.chain a ps; from = from_compare }

module _ {E : Type 0} {K : Knot E} {k : ℕ} {S : Rel Expr} {p : E → Parser Expr} (some : Exists S) (part : Rule K k (plain after_sum) S p) where
  pub comparison_rule : Rule K k (plain after_sum) (CompareTail S) (λ i. comparison (p i))
  unfolding comparison
  comparison_rule =
      iff_rule (to_compare_tail S) (from_compare_tail S)
      (choose_rule (is symbol.Is) (any_rule none_test_rule) (tail_rule CompareSign S made.Op some compare_op_rule part)
      (λ u rest y h s. sees_mark symbol.Is (Either IsSomething IsNothing) (is symbol.Is) true refl u rest y h)
      (λ u rest y h s. tailed_not_is S u rest y h))

  pub compare_rule : Rule K k (plain after_compare) (Compare S) (λ i. compare (p i))
  unfolding compare
  compare_rule = whole_chain_rule (compare_chain S) spec.is_compare part comparison_rule (compare_tail_begins S) compare_off

-- ---- not

abbrev NotsAre : Rel ℕ
NotsAre = Gathered (is symbol.Not) none (Mark symbol.Not) spec.one_more 0

how_many : (n : ℕ) (xs : List (Unit {0})) → gathered spec.one_more n xs ≡ n + length xs
how_many n [] = omega arith
how_many n (x ∷ xs) = let more = how_many (n + 1) xs in more ∙ omega arith

counted : (u : Words) (xs : List (Unit {0})) → Parts (Mark symbol.Not) u xs → Nots u (length xs)
counted _ _ Parts.none = Nots.none
counted _ _ (Parts.more {u} {v} {x} {xs} h others) = subst (λ (w : Words). Nots (w ++ v) (suc (length xs))) (sym h) (Nots.more (counted v xs others))

to_nots : (u : Words) (n : ℕ) → NotsAre u n → Nots u n
to_nots u n h =
    let m = mapped (Parts (Mark symbol.Not)) (gathered spec.one_more 0) u n h in
    let many : n ≡ length m.0 = m.2 ∙ how_many 0 m.0 ∙ omega arith in
    subst (Nots u) (sym many) (counted u m.0 m.1)

record Units (u : Words) (n : ℕ) : Type 0 where
  units : List (Unit {0})
  spells : Parts (Mark symbol.Not) u units
  many : length units ≡ n

units : (u : Words) (n : ℕ) → Nots u n → Units u n
units _ _ Nots.none = record { units = []; spells = Parts.none; many = refl }
units _ _ (Nots.more {u} {n} h) =
    let k = units u n h in record { units = tt ∷ k.units; spells = Parts.more refl k.spells; many = ap suc k.many }

from_nots : (u : Words) (n : ℕ) → Nots u n → NotsAre u n
from_nots u n h =
    let k = units u n h in
    let e : gathered spec.one_more 0 k.units ≡ n = how_many 0 k.units ∙ omega (arith, k.many) in
    subst (NotsAre u) e (mapping (Parts (Mark symbol.Not)) (gathered spec.one_more 0) u k.units k.spells)

mark_begins : BeginsWith (is symbol.Not) (Mark symbol.Not)
mark_begins u rest x h = ap (λ (w : Words). sees (is symbol.Not) (w ++ rest)) h

nots_rule : {E : Type 0} {K : Knot E} {k : ℕ} → Rule K k (plain (or (is symbol.Not) none)) Nots (λ _. spec.nots)
nots_rule = iff_rule to_nots from_nots (gather_rule (is symbol.Not) spec.one_more (mark_rule symbol.Not refl) mark_begins (λ t h. refl) 0)

no_not : (t : Word) → begins_signed t ≡ true → or (is symbol.Not) none t ≡ false
no_not (Symbol symbol.Not) h = cc
no_not _ h = cc

begins_too : (t : Word) → begins_signed t ≡ true → begins t ≡ true
begins_too t h = ap (λ (b : Bool). b || is symbol.Not t) h

-- each spelling of a part begins an expression
abbrev pub Begins : Rel Expr → Type 0
Begins S = (u rest : Words) (x : Expr) → S u x → sees begins (u ++ rest) ≡ true

module _ (S : Rel Expr) where
  abbrev NotIs : Rel Expr
  NotIs = Then Nots (λ n. Then S (λ x. Nothing (spec.not_of n x)))

  not_by : (u v : Words) (n : ℕ) (x : Expr) → Nots u n → S v x → Not S (u ++ v) (spec.not_of n x)
  not_by _ v _ x Nots.none h = Not.alone h
  not_by _ v _ x (Nots.more k) h = Not.nots (Nots.more k) h

  to_not : (u : Words) (y : Expr) → NotIs u y → Not S u y
  to_not u y t =
      let p = mapped S (spec.not_of t.tree) t.right y t.second in
      subst (λ (w : Words). Not S w y) (sym t.parts) (subst (Not S (t.left ++ t.right)) (sym p.2) (not_by t.left t.right t.tree p.0 t.first p.1))

  from_not : (u : Words) (y : Expr) → Not S u y → NotIs u y
  from_not _ _ (Not.alone {u} {x} h) = record { left = []; right = u; tree = 0; parts = refl; first = Nots.none; second = mapping S (spec.not_of 0) u x h }
  from_not _ _ (Not.nots {u} {v} {n} {x} k h) = record { left = u; right = v; tree = suc n; parts = refl; first = k; second = mapping S (spec.not_of (suc n)) v x h }

  nots_begin : (u rest : Words) (n m : ℕ) → Nots u n → n ≡ suc m → sees begins (u ++ rest) ≡ true
  nots_begin _ rest _ m Nots.none e = absurd (omega (arith, e))
  nots_begin _ rest _ m (Nots.more k) e = refl

  pub not_begins : Starts S → Begins (Not S)
  not_begins start _ rest _ (Not.alone {u} {x} h) = along begins_signed begins begins_too (u ++ rest) (start u rest x h)
  not_begins start _ rest _ (Not.nots {u} {v} {n} {x} k h) = ap (sees begins) (append_assoc u v rest) ∙ nots_begin u (v ++ rest) (suc n) n k refl

  pub some_not : Exists S → Exists (Not S)
  some_not some = record { tokens = some.tokens; tree = some.tree; spells = Not.alone some.spells }

  not_stops : Starts S → (n : ℕ) (v rest : Words) (y : Expr) → Then S (λ x. Nothing (spec.not_of n x)) v y → Stops (or (is symbol.Not) none) (v ++ rest)
  not_stops start n v rest y h = let m = mapped S (spec.not_of n) v y h in apart begins_signed (or (is symbol.Not) none) no_not (v ++ rest) (start v rest m.0 m.1)

module _ {E : Type 0} {K : Knot E} {k : ℕ} {S : Rel Expr} {p : E → Parser Expr} (some : Exists S) (start : Starts S) (part : Rule K k (plain after_compare) S p) where
  pub not_rule : Rule K k (plain after_compare) (Not S) (λ i. negated (p i))
  unfolding negated
  not_rule = iff_rule (to_not S) (from_not S) (then_rule nots_rule (λ n. map_rule (spec.not_of n) part) (λ n v rest y h s. not_stops S start n v rest y h) (λ n. some_mapped (spec.not_of n) some))

-- ---- and, or

module _ (S : Rel Expr) where
  is_behind_and : (u : Words) (y : Expr) → AndTail S u y → Behind symbol.And S u y
  is_behind_and _ _ (AndTail.tail {u} {x} h) = mark symbol.And S u x h

  pub and_tail_begins : BeginsWith (is symbol.And) (AndTail S)
  and_tail_begins _ rest _ (AndTail.tail h) = refl

  from_and : (u : Words) (x : Expr) → And S u x → Chained S (AndTail S) spec.and_of u x
  from_and _ _ (And.alone {u} {x} a) = record { left = u; right = []; head = x; others = []; parts = sym (append-nil u); first = a; rest = Parts.none; tree = refl }
  from_and _ _ (And.chain {u} {v} {x} {y} {ys} a ps) = record { left = u; right = v; head = x; others = y ∷ ys; parts = refl; first = a; rest = ps; tree = refl }

  pub and_chain : Chain S (AndTail S) spec.and_of (And S)
  and_chain = record { alone = λ u x a. And.alone a; chain = λ u v x y ys a ps. And.chain a ps; from = from_and }

module _ {E : Type 0} {K : Knot E} {k : ℕ} {S : Rel Expr} {p : E → Parser Expr} (some : Exists S) (part : Rule K k (plain after_compare) S p) where
  pub and_part_rule : Rule K k (plain after_compare) (AndTail S) (λ i. and_part (p i))
  unfolding and_part
  and_part_rule = iff_rule (behind_is symbol.And S (AndTail S) (λ u x h. AndTail.tail h)) (is_behind_and S) (behind_rule symbol.And refl some part)

  pub and_rule : Rule K k (plain after_and) (And S) (λ i. both (p i))
  unfolding both
  and_rule = whole_chain_rule (and_chain S) (is symbol.And) part and_part_rule (and_tail_begins S) (at symbol.And after_compare false refl)

module _ (S : Rel Expr) where
  is_behind_or : (u : Words) (y : Expr) → OrTail S u y → Behind symbol.Or S u y
  is_behind_or _ _ (OrTail.tail {u} {x} h) = mark symbol.Or S u x h

  pub or_tail_begins : BeginsWith (is symbol.Or) (OrTail S)
  or_tail_begins _ rest _ (OrTail.tail h) = refl

  from_or : (u : Words) (x : Expr) → Or S u x → Chained S (OrTail S) spec.or_of u x
  from_or _ _ (Or.alone {u} {x} a) = record { left = u; right = []; head = x; others = []; parts = sym (append-nil u); first = a; rest = Parts.none; tree = refl }
  from_or _ _ (Or.chain {u} {v} {x} {y} {ys} a ps) = record { left = u; right = v; head = x; others = y ∷ ys; parts = refl; first = a; rest = ps; tree = refl }

  pub or_chain : Chain S (OrTail S) spec.or_of (Or S)
  or_chain = record { alone = λ u x a. Or.alone a; chain = λ u v x y ys a ps. Or.chain a ps; from = from_or }

module _ {E : Type 0} {K : Knot E} {k : ℕ} {S : Rel Expr} {p : E → Parser Expr} (some : Exists S) (part : Rule K k (plain after_and) S p) where
  pub or_part_rule : Rule K k (plain after_and) (OrTail S) (λ i. or_part (p i))
  unfolding or_part
  or_part_rule = iff_rule (behind_is symbol.Or S (OrTail S) (λ u x h. OrTail.tail h)) (is_behind_or S) (behind_rule symbol.Or refl some part)

  pub or_rule : Rule K k (plain after_or) (Or S) (λ i. either (p i))
  unfolding either
  or_rule = whole_chain_rule (or_chain S) (is symbol.Or) part or_part_rule (or_tail_begins S) (at symbol.Or after_and false refl)
