-- The parsers of powers and signs are exact.
use Rattle.std.proofs.Common.{◌≡◌, ℕ, suc, Bool, ◌||◌, true, false, List, [], ◌∷◌, ◌++◌, refl, sym, ap, subst, ◌∙◌, append_assoc, inl, inr}
use Rattle.std.proofs.lemmas.List.{append-nil}
use Rattle.mx_syntax.specs.declared.expr.Expr.{Expr}
use Rattle.mx_syntax.specs.declared.expr.Expr.TheVariants as expr
use Rattle.mx_syntax.specs.declared.expr.PowerPart.{PowerPart}
use Rattle.mx_syntax.specs.declared.expr.Sign.{Sign}
use Rattle.mx_syntax.specs.declared.expr.Sign.TheVariants as sign
use Rattle.mx_grammar.specs.declared.word.Symbol.TheVariants as symbol
use Rattle.mx_grammar.specs.declared.word.Word.{Word}
use Rattle.mx_grammar.specs.declared.word.Word.TheVariants.{Name, Symbol}
use Rattle.mx_grammar.specs.Words.{is}
use Rattle.mx_grammar.specs.Grammar.{Parts}
use Rattle.mx_grammar.specs.Reading.{Words, Parser, sees}
use Rattle.mx_grammar.proofs.Exact.{Rel, Stops, none, or, Exists, Nothing, Then, Either}
use Rattle.mx_grammar.proofs.Symbols.{apart, at, along}
use Rattle.mx_grammar.proofs.Rules.{Knot, Rule, plain, then_rule, iff_rule, map_rule, choose_rule, behind_rule, Behind, marked, mark, mapped, mapping, sees_mark, some_mapped, some_then, alone, single, alone_rule}
use Rattle.mx_grammar.proofs.Lists.{BeginsWith, Chained, Chain, chain_begins, some_chain, whole_chain_rule, many_rule}
use Rattle.mx_expression.specs.Operands.{Atom, Trailing, Post, OneSign, PowerTail, Power, SignedOf}
use Rattle.mx_expression.specs.OperandParsers.{begins_trailer, is_sign, one_sign, post_of, power_of, signed_by, power_part_of, signs, post, power_part, power, signed_of}
use Rattle.mx_expression.proofs.TokenKinds.{begins_atom, begins_signed, after_post, after_signed}
use Rattle.mx_expression.proofs.OperandAtoms.{between, Brackets, atom_begins, atom_rule}
use Rattle.mx_expression.proofs.OperandTrailers.{trailing_begins, trailer_rule}

-- ---- tokens

no_sign : (t : Word) → begins_atom t ≡ true → or is_sign none t ≡ false
no_sign (Symbol symbol.Plus) h = cc
no_sign _ h = cc

atom_first : (t : Word) → begins_atom t ≡ true → begins_signed t ≡ true
atom_first t h = ap (λ (b : Bool). b || is_sign t) h

-- ---- signs

abbrev SignIs : Rel Sign
SignIs = Either (Behind symbol.Plus (Nothing sign.Plus)) (Behind symbol.Minus (Nothing sign.Minus))

to_sign : (u : Words) (s : Sign) → SignIs u s → OneSign u s
to_sign u s (inl h) = single OneSign symbol.Plus sign.Plus OneSign.plus u s h
to_sign u s (inr h) = single OneSign symbol.Minus sign.Minus OneSign.minus u s h

from_sign : (u : Words) (s : Sign) → OneSign u s → SignIs u s
from_sign _ _ OneSign.plus = inl (alone symbol.Plus sign.Plus)
from_sign _ _ OneSign.minus = inr (alone symbol.Minus sign.Minus)

pub sign_rule : {E : Type 0} {K : Knot E} {k : ℕ} → Rule K k (plain none) OneSign (λ _. one_sign)
unfolding one_sign
sign_rule =
    iff_rule to_sign from_sign
    (choose_rule (is symbol.Plus) (alone_rule symbol.Plus sign.Plus refl)
    (alone_rule symbol.Minus sign.Minus refl)
    (λ u rest s h t. sees_mark symbol.Plus (Nothing sign.Plus) (is symbol.Plus) true refl u rest s h)
    (λ u rest s h t. sees_mark symbol.Minus (Nothing sign.Minus) (is symbol.Plus) false refl u rest s h))

pub sign_begins : (u rest : Words) (s : Sign) → OneSign u s → sees is_sign (u ++ rest) ≡ true
sign_begins _ rest _ OneSign.plus = refl
sign_begins _ rest _ OneSign.minus = refl

pub signs_rule : {E : Type 0} {K : Knot E} {k : ℕ} → Rule K k (plain (or is_sign none)) (Parts OneSign) (λ _. signs)
signs_rule = many_rule is_sign sign_rule sign_begins (λ t h. refl)

signs_begin : (u rest : Words) (ss : List Sign) (s : Sign) (others : List Sign) → Parts OneSign u ss → ss ≡ s ∷ others → sees begins_signed (u ++ rest) ≡ true
signs_begin _ rest _ s others Parts.none e = absurd cc
signs_begin _ rest _ s others (Parts.more OneSign.plus ps) e = refl
signs_begin _ rest _ s others (Parts.more OneSign.minus ps) e = refl

module _ (Inside In : Rel Expr) where
  -- ---- calls, subscripts and attributes behind an atom

  from_post : (u : Words) (x : Expr) → Post Inside In u x → Chained (Atom Inside) (Trailing Inside In) post_of u x
  from_post _ _ (Post.alone {u} {x} a) = record { left = u; right = []; head = x; others = []; parts = sym (append-nil u); first = a; rest = Parts.none; tree = refl }
  from_post _ _ (Post.chain {u} {v} {x} {y} {ys} a ps) = record { left = u; right = v; head = x; others = y ∷ ys; parts = refl; first = a; rest = ps; tree = refl }

  post_chain : Chain (Atom Inside) (Trailing Inside In) post_of (Post Inside In)
  post_chain = record { alone = λ u x a. Post.alone a; chain = λ u v x y ys a ps. Post.chain a ps; from = from_post }

  post_begins : BeginsWith begins_atom (Post Inside In)
  post_begins = chain_begins post_chain begins_atom (atom_begins Inside)

  some_post : Exists (Post Inside In)
  some_post = record { tokens = Name [] ∷ []; tree = expr.Name []; spells = Post.alone Atom.name }

  -- ---- powers

  abbrev PowerTailIs : Rel PowerPart
  PowerTailIs = Then (Parts OneSign) (λ ss. Then (Post Inside In) (λ x. Nothing (power_part_of ss x)))

  to_power_tail : (u : Words) (y : PowerPart) → Behind symbol.Power PowerTailIs u y → PowerTail Inside In u y
  to_power_tail u y h =
      let m = marked symbol.Power PowerTailIs u y h in
      let t = m.2 in
      let p = mapped (Post Inside In) (power_part_of t.tree) t.right y t.second in
      subst (λ (w : Words). PowerTail Inside In w y) (sym (m.1 ∙ ap (λ (w : Words). Symbol symbol.Power ∷ w) t.parts)) (subst (PowerTail Inside In (Symbol symbol.Power ∷ t.left ++ t.right)) (sym p.2) (PowerTail.power t.first p.1))

  from_power_tail : (u : Words) (y : PowerPart) → PowerTail Inside In u y → Behind symbol.Power PowerTailIs u y
  from_power_tail _ _ (PowerTail.power {u} {v} {signs} {x} h p) =
      mark symbol.Power PowerTailIs (u ++ v) (power_part_of signs x) (record { left = u; right = v; tree = signs; parts = refl; first = h; second = mapping (Post Inside In) (power_part_of signs) v x p })

  pub tail_begins : (u rest : Words) (y : PowerPart) → PowerTail Inside In u y → sees (is symbol.Power) (u ++ rest) ≡ true
  tail_begins _ rest _ (PowerTail.power h p) = refl

  from_power : (u : Words) (x : Expr) → Power Inside In u x → Chained (Post Inside In) (PowerTail Inside In) power_of u x
  from_power _ _ (Power.alone {u} {x} a) = record { left = u; right = []; head = x; others = []; parts = sym (append-nil u); first = a; rest = Parts.none; tree = refl }
  from_power _ _ (Power.chain {u} {v} {x} {y} {ys} a ps) = record { left = u; right = v; head = x; others = y ∷ ys; parts = refl; first = a; rest = ps; tree = refl }

  power_chain : Chain (Post Inside In) (PowerTail Inside In) power_of (Power Inside In)
  power_chain = record { alone = λ u x a. Power.alone a; chain = λ u v x y ys a ps. Power.chain a ps; from = from_power }

  power_begins : BeginsWith begins_atom (Power Inside In)
  power_begins = chain_begins power_chain begins_atom post_begins

  some_power : Exists (Power Inside In)
  some_power = some_chain power_chain some_post

  -- ---- signs before a power

  abbrev SignedIs : Rel Expr
  SignedIs = Then (Parts OneSign) (λ ss. Then (Power Inside In) (λ x. Nothing (signed_by ss x)))

  signed_is : (u v : Words) (ss : List Sign) (x : Expr) → Parts OneSign u ss → Power Inside In v x → SignedOf Inside In (u ++ v) (signed_by ss x)
  signed_is _ v _ x Parts.none p = SignedOf.alone p
  signed_is _ v _ x (Parts.more h ps) p = SignedOf.signs (Parts.more h ps) p

  to_signed : (u : Words) (y : Expr) → SignedIs u y → SignedOf Inside In u y
  to_signed u y t =
      let p = mapped (Power Inside In) (signed_by t.tree) t.right y t.second in
      subst (λ (w : Words). SignedOf Inside In w y) (sym t.parts) (subst (SignedOf Inside In (t.left ++ t.right)) (sym p.2) (signed_is t.left t.right t.tree p.0 t.first p.1))

  from_signed : (u : Words) (y : Expr) → SignedOf Inside In u y → SignedIs u y
  from_signed _ _ (SignedOf.alone {u} {x} p) = record { left = []; right = u; tree = []; parts = refl; first = Parts.none; second = mapping (Power Inside In) (signed_by []) u x p }
  from_signed _ _ (SignedOf.signs {u} {v} {s} {ss} {x} h p) = record { left = u; right = v; tree = s ∷ ss; parts = refl; first = h; second = mapping (Power Inside In) (signed_by (s ∷ ss)) v x p }

  pub signed_begins : (u rest : Words) (x : Expr) → SignedOf Inside In u x → sees begins_signed (u ++ rest) ≡ true
  signed_begins _ rest _ (SignedOf.alone {u} {x} p) = along begins_atom begins_signed atom_first (u ++ rest) (power_begins u rest x p)
  signed_begins _ rest _ (SignedOf.signs {u} {v} {s} {ss} h p) = ap (sees begins_signed) (append_assoc u v rest) ∙ signs_begin u (v ++ rest) (s ∷ ss) s ss h refl

  pub some_signed : Exists (SignedOf Inside In)
  some_signed = record { tokens = Name [] ∷ []; tree = expr.Name []; spells = SignedOf.alone (Power.alone (Post.alone Atom.name)) }

  -- no sign begins a part of a power, or what is made of it
  part_stops : {A : Type 0} (R : Rel Expr) (build : Expr → A) → BeginsWith begins_atom R
      → (v rest : Words) (y : A) → Then R (λ x. Nothing (build x)) v y → Stops (or is_sign none) (v ++ rest)
  part_stops R build start v rest y h = let m = mapped R build v y h in apart begins_atom (or is_sign none) no_sign (v ++ rest) (start v rest m.0 m.1)

-- ---- the rules

module _ {d m : ℕ} {Inside In : Rel Expr} {inside inner : ℕ → Parser Expr} (b : Brackets d m Inside In inside inner) where
  pub post_rule : Rule (between d m) (suc d) (plain after_post) (Post Inside In) (λ i. post i (inside i) (inner i))
  unfolding post
  post_rule = whole_chain_rule (post_chain Inside In) begins_trailer (atom_rule b) (trailer_rule b) (trailing_begins Inside In) (λ t h. refl)

  pub power_part_rule : Rule (between d m) (suc d) (plain after_post) (PowerTail Inside In) (λ i. power_part i (inside i) (inner i))
  unfolding power_part
  power_part_rule =
      iff_rule (to_power_tail Inside In) (from_power_tail Inside In)
      (behind_rule symbol.Power refl (some_then (record { tokens = []; tree = []; spells = Parts.none }) (λ ss. some_mapped (power_part_of ss) (some_post Inside In)))
      (then_rule signs_rule (λ ss. map_rule (power_part_of ss) post_rule) (λ ss v rest y h s. part_stops Inside In (Post Inside In) (power_part_of ss) (post_begins Inside In) v rest y h) (λ ss. some_mapped (power_part_of ss) (some_post Inside In))))

  pub power_rule : Rule (between d m) (suc d) (plain after_signed) (Power Inside In) (λ i. power i (inside i) (inner i))
  unfolding power
  power_rule = whole_chain_rule (power_chain Inside In) (is symbol.Power) post_rule power_part_rule (tail_begins Inside In) (at symbol.Power after_post false refl)

  pub signed_rule : Rule (between d m) (suc d) (plain after_signed) (SignedOf Inside In) (λ i. signed_of i (inside i) (inner i))
  unfolding signed_of
  signed_rule =
      iff_rule (to_signed Inside In) (from_signed Inside In)
      (then_rule signs_rule (λ ss. map_rule (signed_by ss) power_rule) (λ ss v rest y h s. part_stops Inside In (Power Inside In) (signed_by ss) (power_begins Inside In) v rest y h) (λ ss. some_mapped (signed_by ss) (some_power Inside In)))
