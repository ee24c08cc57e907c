-- A literal that is spelled is an argument: it is no larger than what its tokens say, and no deeper nested than the brackets
-- that they open.
use Rattle.std.proofs.Common.{◌≡◌, ℕ, ◌+◌, ◌≤◌, zero, suc, List, [], ◌∷◌, ◌++◌, Bool, true, false, length, map, refl, sym, ap, ◌∙◌, ℤ, arith}
use Rattle.std.specs.Prelude.{sum}
use Rattle.std.specs.List.{list_all}
use Rattle.std.proofs.lemmas.List.Sums.{sum_by-cons}
use Rattle.mx_value.specs.declared.value.Value.{Value}
use Rattle.mx_value.specs.declared.value.Value.TheVariants as value
use Rattle.mx_value.specs.declared.value.Segment.TheOpen.{Value-F}
use Rattle.mx_value.specs.declared.value.Segment.TheFolds.{fold-roll-Value}
use Rattle.mx_value.specs.Plain.{is_plain}
use Rattle.mx_value.specs.Size.{size_of}
use Rattle.mx_value.specs.Nesting.{nesting_of, greatest}
use Rattle.mx_grammar.specs.declared.nesting.Open.{Open}
use Rattle.mx_grammar.specs.declared.word.Word.{Word}
use Rattle.mx_grammar.specs.declared.word.Word.TheVariants as word
use Rattle.mx_grammar.specs.declared.word.Symbol.TheVariants as symbol
use Rattle.mx_grammar.specs.Grammar.{Spelling, Listed, Within}
use Rattle.mx_grammar.specs.Literals.{Literal}
use Rattle.mx_grammar.specs.Spelling.{Shallow, open_count, bracketed}
use Rattle.mx_round_trip.proofs.Counts.{IsClosed, closed_append, closed_round, behind_closed, shallow_split}
use Rattle.mx_round_trip.proofs.Printed.{comma_closed, none_closed}
use Rattle.mx_round_trip.proofs.Weights.{weights, weights_append}
use Rattle.mx_state.specs.Proper.{IsArgument}
use Rattle.mx_limit_laws.proofs.Values.{and_both, size-Tup, nesting-Tup, plain-Tup}

-- ---- values with no items

pub record Atom (x : Value) (size : ℕ) : Type 0 where
  pub plain : is_plain x ≡ true
  pub size_is : size_of x ≡ size
  pub flat : nesting_of x ≡ 0

pub nothing_atom : Atom value.Nothing 1
nothing_atom = record {
  plain = ap is_plain (sym value.rolls-Nothing) ∙ fold-roll-Value _ _ _ _ _ _ Value-F.Nothing;
  size_is = ap size_of (sym value.rolls-Nothing) ∙ fold-roll-Value _ _ _ _ _ _ Value-F.Nothing;
  flat = ap nesting_of (sym value.rolls-Nothing) ∙ fold-roll-Value _ _ _ _ _ _ Value-F.Nothing;
}

pub flag_atom : (b : Bool) → Atom (value.Flag b) 1
flag_atom b = record {
  plain = ap is_plain (sym (value.rolls-Flag b)) ∙ fold-roll-Value _ _ _ _ _ _ (Value-F.Flag b);
  size_is = ap size_of (sym (value.rolls-Flag b)) ∙ fold-roll-Value _ _ _ _ _ _ (Value-F.Flag b);
  flat = ap nesting_of (sym (value.rolls-Flag b)) ∙ fold-roll-Value _ _ _ _ _ _ (Value-F.Flag b);
}

pub int_atom : (z : ℤ) → Atom (value.Int z) 1
int_atom z = record {
  plain = ap is_plain (sym (value.rolls-Int z)) ∙ fold-roll-Value _ _ _ _ _ _ (Value-F.Int z);
  size_is = ap size_of (sym (value.rolls-Int z)) ∙ fold-roll-Value _ _ _ _ _ _ (Value-F.Int z);
  flat = ap nesting_of (sym (value.rolls-Int z)) ∙ fold-roll-Value _ _ _ _ _ _ (Value-F.Int z);
}

pub fix_atom : (z : ℤ) → Atom (value.Fix z) 1
fix_atom z = record {
  plain = ap is_plain (sym (value.rolls-Fix z)) ∙ fold-roll-Value _ _ _ _ _ _ (Value-F.Fix z);
  size_is = ap size_of (sym (value.rolls-Fix z)) ∙ fold-roll-Value _ _ _ _ _ _ (Value-F.Fix z);
  flat = ap nesting_of (sym (value.rolls-Fix z)) ∙ fold-roll-Value _ _ _ _ _ _ (Value-F.Fix z);
}

pub text_atom : (t : List ℕ) → Atom (value.Text t) (1 + length t)
text_atom t = record {
  plain = ap is_plain (sym (value.rolls-Text t)) ∙ fold-roll-Value _ _ _ _ _ _ (Value-F.Text t);
  size_is = ap size_of (sym (value.rolls-Text t)) ∙ fold-roll-Value _ _ _ _ _ _ (Value-F.Text t);
  flat = ap nesting_of (sym (value.rolls-Text t)) ∙ fold-roll-Value _ _ _ _ _ _ (Value-F.Text t);
}

pub atom_argument : (x : Value) (size : ℕ) → Atom x size → size ≤ 65537 → IsArgument x
atom_argument x size a few = let s = a.size_is in let n = a.flat in record { plain = a.plain; small = omega arith; flat = omega arith }

-- ---- literals by their tokens

abbrev all_plain : List Value → Bool
all_plain xs = list_all (λ (p : Bool). p) (map is_plain xs)

abbrev sizes : List Value → ℕ
sizes xs = sum (map size_of xs)

abbrev deepest : List Value → ℕ
deepest xs = greatest (map nesting_of xs)

sizes_more : (x : Value) (xs : List Value) → sizes (x ∷ xs) ≡ size_of x + sizes xs
sizes_more x xs = sum_by-cons (λ (n : ℕ). n) (size_of x) (map size_of xs)

pub record Measured (u : List Word) (x : Value) : Type 0 where
  pub plain : is_plain x ≡ true
  pub size : size_of x ≤ weights u
  pub closed : IsClosed u
  pub nesting : (d : ℕ) (n : Open) → Shallow d n u → open_count n + nesting_of x ≤ d

record AllMeasured (u : List Word) (xs : List Value) : Type 0 where
  plain : all_plain xs ≡ true
  size : sizes xs ≤ weights u
  closed : IsClosed u
  nesting : (d : ℕ) (n : Open) → Shallow d n u → open_count n ≤ d → open_count n + deepest xs ≤ d

atom : (u : List Word) (x : Value) (k : ℕ) → Atom x k → k ≤ weights u → IsClosed u → ((d : ℕ) (n : Open) → Shallow d n u → open_count n ≤ d) → Measured u x
atom u x k a le closed opened = record {
  plain = a.plain;
  size = let is = a.size_is in omega arith;
  closed = closed;
  nesting = λ d n s. let flat = a.flat in omega (arith, opened d n s);
}

none_measured : AllMeasured [] []
none_measured = record { plain = refl; size = omega arith; closed = none_closed; nesting = λ d n s le. omega arith }

more_measured : (u v : List Word) (x : Value) (xs : List Value) → Measured u x → AllMeasured v xs → AllMeasured (u ++ word.Symbol symbol.Comma ∷ v) (x ∷ xs)
more_measured u v x xs g h = record {
  plain = and_both (is_plain x) (all_plain xs) g.plain h.plain;
  size = omega (arith, g.size, h.size, sizes_more x xs, weights_append u (word.Symbol symbol.Comma ∷ v));
  closed = closed_append g.closed (closed_append comma_closed h.closed);
  nesting = λ d n s le.
      let b = behind_closed d n u (word.Symbol symbol.Comma ∷ v) g.closed s in
      let first : open_count n + nesting_of x ≤ d = g.nesting d n b.0 in
      let others : open_count n + deepest xs ≤ d = h.nesting d n b.1.1 le in
      omega arith;
}

one_measured : (u : List Word) (x : Value) → Measured u x → AllMeasured u (x ∷ [])
one_measured u x g = record {
  plain = and_both (is_plain x) true g.plain refl;
  size = omega (arith, g.size, sizes_more x []);
  closed = g.closed;
  nesting = λ d n s le. let first : open_count n + nesting_of x ≤ d = g.nesting d n s in omega arith;
}

tuple_measured : (u v : List Word) (x : Value) (xs : List Value) → Measured u x → AllMeasured v xs → Measured (word.Symbol symbol.OpenRound ∷ u ++ word.Symbol symbol.Comma ∷ v ++ word.Symbol symbol.CloseRound ∷ []) (value.Tup (x ∷ xs))
tuple_measured u v x xs g h =
    let ws : List Word = u ++ word.Symbol symbol.Comma ∷ v in
    let all : AllMeasured ws (x ∷ xs) = more_measured u v x xs g h in
    let size : sizes (x ∷ xs) ≤ weights ws = all.size in
    record {
      plain = plain-Tup (x ∷ xs) ∙ all.plain;
      size = omega (arith, size, size-Tup (x ∷ xs), weights_append ws (word.Symbol symbol.CloseRound ∷ []));
      closed = closed_round ws all.closed;
      nesting = λ d n s.
          let inner : open_count (bracketed n) + deepest (x ∷ xs) ≤ d = all.nesting d (bracketed n) (shallow_split d (bracketed n) ws (word.Symbol symbol.CloseRound ∷ []) s.1).0 s.0 in
          omega (arith, inner, nesting-Tup (x ∷ xs));
    }

empty_measured : Measured (word.Symbol symbol.OpenRound ∷ word.Symbol symbol.CloseRound ∷ []) (value.Tup [])
empty_measured = record {
  plain = plain-Tup [];
  size = omega (arith, size-Tup []);
  closed = closed_round [] none_closed;
  nesting = λ d n s. let opened : open_count (bracketed n) ≤ d = s.0 in omega (arith, opened, nesting-Tup []);
}

module _ (In : Spelling Value) (inner : (u : List Word) (x : Value) → In u x → Measured u x) where
  listed_measured : (v : List Word) (xs : List Value) → Listed In v xs → AllMeasured v xs
  listed_measured _ _ Listed.none = none_measured
  listed_measured _ _ (Listed.one {u} {x} h) = one_measured u x (inner u x h)
  listed_measured _ _ (Listed.more {u} {v} {x} {xs} h k) = more_measured u v x xs (inner u x h) (listed_measured v xs k)

  literal_measured : (u : List Word) (x : Value) → Literal In u x → Measured u x
  literal_measured _ _ (Literal.int {n} h) = atom _ _ 1 (int_atom _) (omega arith) (record { same = λ m. refl }) (λ d m s. s.0)
  literal_measured _ _ (Literal.negative_int {n} h) = atom _ _ 1 (int_atom _) (omega arith) (record { same = λ m. refl }) (λ d m s. s.0)
  literal_measured _ _ (Literal.fix {z}) = atom _ _ 1 (fix_atom z) (omega arith) (record { same = λ m. refl }) (λ d m s. s.0)
  literal_measured _ _ (Literal.negative_fix {z}) = atom _ _ 1 (fix_atom _) (omega arith) (record { same = λ m. refl }) (λ d m s. s.0)
  literal_measured _ _ (Literal.text {t}) = atom _ _ (1 + length t) (text_atom t) (omega arith) (record { same = λ m. refl }) (λ d m s. s.0)
  literal_measured _ _ Literal.none = atom _ _ 1 nothing_atom (omega arith) (record { same = λ m. refl }) (λ d m s. s.0)
  literal_measured _ _ Literal.holds = atom _ _ 1 (flag_atom true) (omega arith) (record { same = λ m. refl }) (λ d m s. s.0)
  literal_measured _ _ Literal.fails = atom _ _ 1 (flag_atom false) (omega arith) (record { same = λ m. refl }) (λ d m s. s.0)
  literal_measured _ _ Literal.empty = empty_measured
  literal_measured _ _ (Literal.tuple {u} {v} {x} {xs} h k) = tuple_measured u v x xs (inner u x h) (listed_measured v xs k)

pub within_measured : (levels : ℕ) (u : List Word) (x : Value) → Within Literal levels u x → Measured u x
within_measured zero u x h = absurd h
within_measured (suc levels) u x h = literal_measured (Within Literal levels) (within_measured levels) u x h

-- a literal of few tokens, where few brackets are open
pub measured_argument : (u : List Word) (x : Value) (n : Open) → Measured u x → weights u ≤ 65536 → Shallow 64 n u → IsArgument x
measured_argument u x n m few shallow =
    let s = m.size in
    let k = m.nesting 64 n shallow in
    record { plain = m.plain; small = omega arith; flat = omega arith }
