-- A literal is a plain value, nested no deeper than the brackets that its tokens open.
use Rattle.std.proofs.Common.{◌≡◌, ℕ, ◌+◌, ◌-◌, ◌≤◌, zero, suc, pos, neg_ℤ, List, [], ◌∷◌, ◌++◌, Bool, true, false, ◌&&◌, map, append_assoc, refl, sym, ap, ◌∙◌, subst, arith}
use Rattle.std.specs.List.{list_all}
use Rattle.mx_value.specs.declared.value.Value.{Value}
use Rattle.mx_value.specs.declared.value.Value.TheVariants as value
use Rattle.mx_value.specs.declared.value.Segment.{Segment}
use Rattle.mx_value.specs.declared.value.CellsAt.{CellsAt}
use Rattle.mx_value.specs.declared.value.Segment.TheOpen.{Value-F}
use Rattle.mx_value.specs.declared.value.Segment.TheViews.{roll-Value}
use Rattle.mx_value.specs.declared.value.Segment.TheFolds.{fold-roll-Value}
use Rattle.mx_value.specs.Plain.{is_plain}
use Rattle.mx_value.specs.Nesting.{nesting_of, greatest}
use Rattle.mx_ops.proofs.Sizes.{nesting-Tup}
use Rattle.mx_whole_edits.proofs.NormalLaws.{plain-Tup}
use Rattle.mx_grammar.specs.declared.nesting.Open.{Open}
use Rattle.mx_grammar.specs.declared.word.Word.{Word}
use Rattle.mx_grammar.specs.declared.word.Word.TheVariants as word
use Rattle.mx_grammar.specs.declared.word.Symbol.TheVariants as symbol
use Rattle.mx_grammar.specs.Grammar.{Spelling, Listed, Within}
use Rattle.mx_grammar.specs.Literals.{Literal}
use Rattle.mx_grammar.specs.Spelling.{Shallow, open_count, bracketed, unbracketed}

-- What is known of a literal with these tokens: it is plain, and nested no deeper than the brackets that they open. Behind
-- them no more are open than before.
pub record Low (u : List Word) (x : Value) : Type 0 where
  pub plain : is_plain x ≡ true
  pub nesting : (d : ℕ) (n : Open) (rest : List Word) → Shallow d n (u ++ rest) → (open_count n + nesting_of x ≤ d) × Shallow d n rest

-- and of literals with commas between
record AllLow (u : List Word) (xs : List Value) : Type 0 where
  plain : list_all (λ (p : Bool). p) (map is_plain xs) ≡ true
  nesting : (d : ℕ) (n : Open) (rest : List Word) → open_count n ≤ d → Shallow d n (u ++ rest) → (open_count n + greatest (map nesting_of xs) ≤ d) × Shallow d n rest

-- ---- literals without brackets

-- tokens that open nothing
abbrev OpensNone : List Word → Type 0
OpensNone u = (d : ℕ) (n : Open) (rest : List Word) → Shallow d n (u ++ rest) → (open_count n ≤ d) × Shallow d n rest

alone : (u : List Word) (x : Value) (y : Value-F Segment Value CellsAt) → OpensNone u → roll-Value y ≡ x → is_plain (roll-Value y) ≡ true → nesting_of (roll-Value y) ≡ 0 → Low u x
alone u x y opens is plain flat = record {
  plain = ap is_plain (sym is) ∙ plain;
  nesting = λ d n rest s.
      let o = opens d n rest s in
      let few : open_count n ≤ d = o.0 in
      let none : nesting_of x ≡ 0 = ap nesting_of (sym is) ∙ flat in
      (omega arith, o.1);
}

-- ---- tuples

both_true : (a b : Bool) → a ≡ true → b ≡ true → (a && b) ≡ true
both_true a b e f = ap (λ c. c && b) e ∙ f

none_low : AllLow [] []
none_low = record { plain = refl; nesting = λ d n rest le s. (omega arith, s) }

one_low : (u : List Word) (x : Value) → Low u x → AllLow u (x ∷ [])
one_low u x g = record {
  plain = both_true (is_plain x) true g.plain refl;
  nesting = λ d n rest le s.
      let o = g.nesting d n rest s in
      let first : open_count n + nesting_of x ≤ d = o.0 in
      (omega arith, o.1);
}

more_low : (u v : List Word) (x : Value) (xs : List Value) → Low u x → AllLow v xs → AllLow (u ++ word.Symbol symbol.Comma ∷ v) (x ∷ xs)
more_low u v x xs g h = record {
  plain = both_true (is_plain x) (list_all (λ (p : Bool). p) (map is_plain xs)) g.plain h.plain;
  nesting = λ d n rest le s.
      let o = g.nesting d n (word.Symbol symbol.Comma ∷ v ++ rest) (subst (Shallow d n) (append_assoc u (word.Symbol symbol.Comma ∷ v) rest) s) in
      let more = h.nesting d n rest le o.1.1 in
      let first : open_count n + nesting_of x ≤ d = o.0 in
      let others : open_count n + greatest (map nesting_of xs) ≤ d = more.0 in
      (omega arith, more.1);
}

closes : (n : Open) → unbracketed (bracketed n) ≡ n
closes n = let e : (n.brackets + 1) - 1 ≡ n.brackets = omega arith in ap (λ b. record n { brackets = b }) e

tuple_low : (u : List Word) (xs : List Value) → AllLow u xs → Low (word.Symbol symbol.OpenRound ∷ u ++ word.Symbol symbol.CloseRound ∷ []) (value.Tup xs)
tuple_low u xs all = record {
  plain = plain-Tup xs ∙ all.plain;
  nesting = λ d n rest s.
      let o = all.nesting d (bracketed n) (word.Symbol symbol.CloseRound ∷ rest) s.0 (subst (Shallow d (bracketed n)) (append_assoc u (word.Symbol symbol.CloseRound ∷ []) rest) s.1) in
      let inner : open_count (bracketed n) + greatest (map nesting_of xs) ≤ d = o.0 in
      (omega (arith, inner, nesting-Tup xs), subst (λ m. Shallow d m rest) (closes n) o.1.1);
}

-- ---- each form

module _ (In : Spelling Value) (inner : (u : List Word) (x : Value) → In u x → Low u x) where
  listed_low : (u : List Word) (xs : List Value) → Listed In u xs → AllLow u xs
  listed_low _ _ Listed.none = none_low
  listed_low _ _ (Listed.one {u} {x} h) = one_low u x (inner u x h)
  listed_low _ _ (Listed.more {u} {v} {x} {xs} h k) = more_low u v x xs (inner u x h) (listed_low v xs k)

  literal_low : (u : List Word) (x : Value) → Literal In u x → Low u x
  literal_low u x (Literal.int {n} h) = alone u x (Value-F.Int (pos n)) (λ d n rest s. s) (value.rolls-Int (pos n)) (fold-roll-Value _ _ _ _ _ _ (Value-F.Int (pos n))) (fold-roll-Value _ _ _ _ _ _ (Value-F.Int (pos n)))
  literal_low u x (Literal.negative_int {n} h) = alone u x (Value-F.Int (neg_ℤ (pos n))) (λ d n rest s. s.1) (value.rolls-Int (neg_ℤ (pos n))) (fold-roll-Value _ _ _ _ _ _ (Value-F.Int (neg_ℤ (pos n)))) (fold-roll-Value _ _ _ _ _ _ (Value-F.Int (neg_ℤ (pos n))))
  literal_low u x (Literal.fix {z}) = alone u x (Value-F.Fix z) (λ d n rest s. s) (value.rolls-Fix z) (fold-roll-Value _ _ _ _ _ _ (Value-F.Fix z)) (fold-roll-Value _ _ _ _ _ _ (Value-F.Fix z))
  literal_low u x (Literal.negative_fix {z}) = alone u x (Value-F.Fix (neg_ℤ z)) (λ d n rest s. s.1) (value.rolls-Fix (neg_ℤ z)) (fold-roll-Value _ _ _ _ _ _ (Value-F.Fix (neg_ℤ z))) (fold-roll-Value _ _ _ _ _ _ (Value-F.Fix (neg_ℤ z)))
  literal_low u x (Literal.text {t}) = alone u x (Value-F.Text t) (λ d n rest s. s) (value.rolls-Text t) (fold-roll-Value _ _ _ _ _ _ (Value-F.Text t)) (fold-roll-Value _ _ _ _ _ _ (Value-F.Text t))
  literal_low u x Literal.none = alone u x Value-F.Nothing (λ d n rest s. s) value.rolls-Nothing (fold-roll-Value _ _ _ _ _ _ Value-F.Nothing) (fold-roll-Value _ _ _ _ _ _ Value-F.Nothing)
  literal_low u x Literal.holds = alone u x (Value-F.Flag true) (λ d n rest s. s) (value.rolls-Flag true) (fold-roll-Value _ _ _ _ _ _ (Value-F.Flag true)) (fold-roll-Value _ _ _ _ _ _ (Value-F.Flag true))
  literal_low u x Literal.fails = alone u x (Value-F.Flag false) (λ d n rest s. s) (value.rolls-Flag false) (fold-roll-Value _ _ _ _ _ _ (Value-F.Flag false)) (fold-roll-Value _ _ _ _ _ _ (Value-F.Flag false))
  literal_low _ _ Literal.empty = tuple_low [] [] none_low
  literal_low _ _ (Literal.tuple {u} {v} {x} {xs} h k) = tuple_low (u ++ word.Symbol symbol.Comma ∷ v) (x ∷ xs) (more_low u v x xs (inner u x h) (listed_low v xs k))

pub within_low : (levels : ℕ) (u : List Word) (x : Value) → Within Literal levels u x → Low u x
within_low zero u x h = absurd h
within_low (suc levels) u x h = literal_low (Within Literal levels) (within_low levels) u x h
