-- The rules of expressions by the numbers that printing gives them, and a text where the grammar asks for a rule.
use Rattle.std.proofs.Common.{◌≡◌, ℕ, ◌≤◌, ◌<◌, zero, suc, List, [], ◌∷◌, ◌++◌, Bool, true, false, ◌==◌, ◌&&◌, ◌||◌, not, cond, ltb, leb, refl, sym, ◌∙◌, subst, arith}
use Rattle.std.proofs.lemmas.Bool.{leb-true, leb-false, ltb-true, ltb-false, lt-ltb, le-ltb, and_parts}
use Rattle.mx_lex.specs.Bytes.{continues_name, first_passes}
use Rattle.mx_lex.proofs.Cases.{both}
use Rattle.mx_syntax.specs.declared.expr.Expr.{Expr}
use Rattle.mx_print.specs.Expressions.{Piece, form, at}
use Rattle.mx_grammar.specs.declared.word.Word.{Word}
use Rattle.mx_grammar.specs.declared.word.Word.TheVariants.{Symbol}
use Rattle.mx_grammar.specs.declared.word.Symbol.TheVariants.{OpenRound, CloseRound}
use Rattle.mx_grammar.specs.Grammar.{Spelling}
use Rattle.mx_expression.specs.Operands.{Atom, Post, Power, SignedOf}
use Rattle.mx_expression.specs.Chains.{Product, Sum, Compare, Not, And, Or, Conditional}
use Rattle.mx_expression.specs.Expressions.{Ors, Expressions}
use Rattle.mx_round_trip.proofs.Goes.{none}
use Rattle.mx_round_trip.proofs.Numbers.{glues}
use Rattle.mx_round_trip.proofs.Flat.{Flat, flat_more, flat_round}
use Rattle.mx_round_trip.proofs.Spans.{is_equals}
use Rattle.mx_round_trip.proofs.Printed.{starts}
use Rattle.mx_round_trip.proofs.Says.{Says}

-- what spells a part with its signs, where brackets open in so many levels inside
abbrev pub Signeds : ℕ → Spelling Expr
Signeds d = SignedOf (Expressions d) (Ors d)

abbrev pub Rule : ℕ → ℕ → Spelling Expr
Rule zero d = Conditional (Or (And (Not (Compare (Sum (Product (Signeds d)))))))
Rule (suc zero) d = Or (And (Not (Compare (Sum (Product (Signeds d))))))
Rule (suc (suc zero)) d = And (Not (Compare (Sum (Product (Signeds d)))))
Rule (suc (suc (suc zero))) d = Not (Compare (Sum (Product (Signeds d))))
Rule (suc (suc (suc (suc zero)))) d = Compare (Sum (Product (Signeds d)))
Rule (suc (suc (suc (suc (suc zero))))) d = Sum (Product (Signeds d))
Rule (suc (suc (suc (suc (suc (suc zero)))))) d = Product (Signeds d)
Rule (suc (suc (suc (suc (suc (suc (suc zero))))))) d = Signeds d
Rule (suc (suc (suc (suc (suc (suc (suc (suc zero)))))))) d = Power (Expressions d) (Ors d)
Rule (suc (suc (suc (suc (suc (suc (suc (suc (suc zero))))))))) d = Post (Expressions d) (Ors d)
Rule (suc (suc (suc (suc (suc (suc (suc (suc (suc (suc l)))))))))) d = Atom (Expressions d)

-- what the next rule spells, this one does
lower : (l d : ℕ) (u : List Word) (x : Expr) → Rule (suc l) d u x → Rule l d u x
lower zero d u x h = Conditional.alone h
lower (suc zero) d u x h = Or.alone h
lower (suc (suc zero)) d u x h = And.alone h
lower (suc (suc (suc zero))) d u x h = Not.alone h
lower (suc (suc (suc (suc zero)))) d u x h = Compare.alone h
lower (suc (suc (suc (suc (suc zero))))) d u x h = Sum.alone h
lower (suc (suc (suc (suc (suc (suc zero)))))) d u x h = Product.alone h
lower (suc (suc (suc (suc (suc (suc (suc zero))))))) d u x h = SignedOf.alone h
lower (suc (suc (suc (suc (suc (suc (suc (suc zero)))))))) d u x h = Power.alone h
lower (suc (suc (suc (suc (suc (suc (suc (suc (suc zero))))))))) d u x h = Post.alone h
lower (suc (suc (suc (suc (suc (suc (suc (suc (suc (suc l)))))))))) d u x h = h

pub lift : (l m d : ℕ) (u : List Word) (x : Expr) → l ≤ m → Rule m d u x → Rule l d u x
lift l zero d u x le h = let e : l ≡ zero = omega arith in subst (λ k. Rule k d u x) (sym e) h
lift l (suc m) d u x le h = by (leb l m) refl (λ less. lift l m d u x less (lower m d u x h))
  where
    by : (b : Bool) → leb l m ≡ b → (l ≤ m → Rule l d u x) → Rule l d u x
    by true less more = more (leb-true l m less)
    by false over more = let past : m < l = leb-false l m over in let e : l ≡ suc m = omega arith in subst (λ k. Rule k d u x) (sym e) h

-- the bytes that go on with a piece: those of a number, or of a name
abbrev pub stops : Bool → ℕ → Bool
stops number b = cond number (glues b) (continues_name b)

pub stops_glues : (number : Bool) (b : ℕ) → glues b ≡ false → stops number b ≡ false
stops_glues true b h = h
stops_glues false b h = left (continues_name b) (b == 46) h
  where
    left : (x y : Bool) → (x || y) ≡ false → x ≡ false
    left true y e = absurd cc
    left false y e = refl

-- a byte with which an expression may begin
abbrev pub begins : ℕ → Bool
begins b = starts b && not (is_equals b)

-- How a piece of an expression is read: its own text by its own rule, and its text where rule l is asked for by that. What may
-- not stand behind an atom is known more closely.
pub record Good (l d : ℕ) (x : Expr) (p : Piece) : Type 0 where
  pub own : Says (Rule p.level) d glues x p.text
  pub fit : Says (Rule l) d glues x (at l p)
  pub begins : first_passes begins p.text ≡ true
  pub tight : ltb p.level 10 ≡ false → Flat (stops p.number) p.text own.words

-- the same where an atom is asked for
pub record GoodAtom (d : ℕ) (x : Expr) (p : Piece) : Type 0 where
  pub own : Says (Rule p.level) d glues x p.text
  pub fit : Says (Rule 10) d (stops p.number) x (at 10 p)
  pub begins : first_passes begins p.text ≡ true
  pub tight : ltb p.level 10 ≡ false → Flat (stops p.number) p.text own.words

at_bare : (l : ℕ) (p : Piece) → ltb p.level l ≡ false → at l p ≡ p.text
at_bare l p h = rw h refl

at_round : (l : ℕ) (p : Piece) → ltb p.level l ≡ true → at l p ≡ 40 ∷ (p.text ++ 41 ∷ [])
at_round l p h = rw h refl

-- an expression begins as its text does, or with a bracket
pub begins_at : (l : ℕ) (p : Piece) → first_passes begins p.text ≡ true → first_passes begins (at l p) ≡ true
begins_at l p h = both (λ (t : List ℕ). first_passes begins t ≡ true) (ltb p.level l) (40 ∷ (p.text ++ 41 ∷ [])) p.text (λ _. refl) (λ _. h)

pub begins_front : (t rest : List ℕ) → first_passes begins t ≡ true → first_passes begins (t ++ rest) ≡ true
begins_front [] rest h = absurd cc
begins_front (b ∷ bs) rest h = h

pub no_equals : (t rest : List ℕ) → first_passes begins t ≡ true → first_passes is_equals (t ++ rest) ≡ false
no_equals [] rest h = absurd cc
no_equals (b ∷ bs) rest h = not_is (is_equals b) (and_parts (starts b) (not (is_equals b)) h).1
  where
    not_is : (x : Bool) → not x ≡ true → x ≡ false
    not_is true e = absurd cc
    not_is false e = refl

pub starts_first : (t : List ℕ) → first_passes begins t ≡ true → first_passes starts t ≡ true
starts_first [] h = absurd cc
starts_first (b ∷ bs) h = (and_parts (starts b) (not (is_equals b)) h).0

fit_bare : (l d : ℕ) (x : Expr) (p : Piece) (F : ℕ → Bool) (ws : List Word) → ((e : ℕ) → d ≤ e → Rule p.level e ws x) → Flat F p.text ws → ltb p.level l ≡ false → Says (Rule l) d F x (at l p)
fit_bare l d x p F ws spelled flat h =
    let order : l ≤ p.level = ltb-false p.level l h in
    record { words = ws; spelled = λ e le. lift l p.level e ws x order (spelled e le); flat = subst (λ t. Flat F t ws) (sym (at_bare l p h)) flat }

-- in parentheses, in one level more
fit_round : (d : ℕ) (x : Expr) (p : Piece) (F : ℕ → Bool) → Says (Rule p.level) d glues x p.text → ltb p.level 10 ≡ true → Says (Rule 10) (suc d) F x (at 10 p)
fit_round d x p F own h = record {
  words = Symbol OpenRound ∷ own.words ++ Symbol CloseRound ∷ [];
  spelled = group;
  flat = subst (λ t. Flat F t (Symbol OpenRound ∷ own.words ++ Symbol CloseRound ∷ [])) (sym (at_round 10 p h)) (flat_none_more (flat_round own.flat refl));
}
  where
    group : (e : ℕ) → suc d ≤ e → Atom (Expressions e) (Symbol OpenRound ∷ own.words ++ Symbol CloseRound ∷ []) x
    group zero le = absurd (omega arith)
    group (suc e) le = Atom.group (lift 0 p.level e own.words x (omega arith) (own.spelled e (omega arith)))

    flat_none_more : {u : List ℕ} {ws : List Word} → Flat none u ws → Flat F u ws
    flat_none_more g = flat_more g (λ b _. refl)

-- a group, in one level more
pub grouped : (d : ℕ) (x : Expr) (p : Piece) → Good 0 d x p → GoodAtom (suc d) x p
grouped d x p g =
    let own = g.own in
    record {
      own = record { words = own.words; spelled = λ e le. own.spelled e (omega arith); flat = own.flat };
      fit = by (ltb p.level 10) refl;
      begins = g.begins;
      tight = g.tight;
    }
  where
    by : (b : Bool) → ltb p.level 10 ≡ b → Says (Rule 10) (suc d) (stops p.number) x (at 10 p)
    by false h = let own = g.own in fit_bare 10 (suc d) x p (stops p.number) own.words (λ e le. own.spelled e (omega arith)) (g.tight h) h
    by true h = fit_round d x p (stops p.number) g.own h

-- what is an atom by itself
pub atom_alone : (d : ℕ) (x : Expr) (number : Bool) (text : List ℕ) → Says (Rule 10) d (stops number) x text → first_passes begins text ≡ true → GoodAtom d x (record { level = 10; number = number; text = text })
atom_alone d x number text own first = record {
  own = record { words = own.words; spelled = own.spelled; flat = flat_more own.flat (stops_glues number) };
  fit = own;
  begins = first;
  tight = λ _. own.flat;
}

-- what is of rule l by itself
pub form_alone : (l d : ℕ) (x : Expr) (text : List ℕ) → l < 10 → Says (Rule l) d glues x text → first_passes begins text ≡ true → Good l d x (form l text)
form_alone l d x text less own first = record {
  own = own;
  fit = fit_bare l d x (form l text) glues own.words own.spelled own.flat (le-ltb l l (omega arith));
  begins = first;
  tight = λ h. absurd (let most : 10 ≤ l = ltb-false l 10 h in omega arith);
}

-- a part alone, where the rule before is asked for
pub descend : (l d : ℕ) (x : Expr) (p : Piece) → Good (suc l) d x p → Good l d x p
descend l d x p g = record { own = g.own; fit = by (ltb p.level l) refl; begins = g.begins; tight = g.tight }
  where
    by : (b : Bool) → ltb p.level l ≡ b → Says (Rule l) d glues x (at l p)
    by false h = let own = g.own in fit_bare l d x p glues own.words own.spelled own.flat h
    by true h =
        let fit = g.fit in
        let below : p.level < l = ltb-true p.level l h in
        let before : ltb p.level (suc l) ≡ true = lt-ltb p.level (suc l) (omega arith) in
        let same : at (suc l) p ≡ at l p = at_round (suc l) p before ∙ sym (at_round l p h) in
        record { words = fit.words; spelled = λ e le. lower l e fit.words x (fit.spelled e le); flat = subst (λ t. Flat glues t fit.words) same fit.flat }

pub descend_atom : (d : ℕ) (x : Expr) (p : Piece) → GoodAtom d x p → Good 9 d x p
descend_atom d x p g =
    let fit = g.fit in
    descend 9 d x p (record { own = g.own; fit = record { words = fit.words; spelled = fit.spelled; flat = flat_more fit.flat (stops_glues p.number) }; begins = g.begins; tight = g.tight })
