-- A node that a source spells is proper.
use Rattle.std.proofs.Common.{◌≡◌, ◌≢◌, ℕ, ◌+◌, ◌≤◌, zero, suc, List, [], ◌∷◌, ◌++◌, Bool, true, false, ◌&&◌, length, map, All, refl, sym, ap, ◌∙◌, subst, append_assoc, append-nil, ℤ, arith}
use Rattle.std.specs.Prelude.{sum}
use Rattle.std.specs.List.{list_all}
use Rattle.std.proofs.lemmas.Bool.{and_parts}
use Rattle.std.proofs.lemmas.List.{map-append}
use Rattle.std.proofs.lemmas.List.Elements.{All-nil, All-cons}
use Rattle.std.proofs.lemmas.List.Sums.{sum_by-cons, sum_by-append}
use Rattle.mx_value.specs.declared.value.Value.{Value}
use Rattle.mx_value.specs.declared.value.Value.TheVariants as value
use Rattle.mx_value.specs.declared.value.Segment.{Segment}
use Rattle.mx_value.specs.declared.value.Segment.TheVariants as segment
use Rattle.mx_value.specs.declared.value.Segment.TheOpen.{Value-F, Segment-F}
use Rattle.mx_value.specs.declared.value.Segment.TheFolds.{fold-roll-Value, fold-roll-Segment}
use Rattle.mx_value.specs.declared.node.Node.{Node}
use Rattle.mx_value.specs.Plain.{is_plain}
use Rattle.mx_value.specs.Size.{size_of, size_of_segment}
use Rattle.mx_value.specs.Nesting.{nesting_of, greatest}
use Rattle.mx_grammar.specs.declared.nesting.Open.{Open}
use Rattle.mx_grammar.specs.declared.word.Word.{Word}
use Rattle.mx_grammar.specs.declared.word.Word.TheVariants as word
use Rattle.mx_grammar.specs.declared.word.Symbol.TheVariants as symbol
use Rattle.mx_grammar.specs.Grammar.{Spelling, Listed, Within, Line}
use Rattle.mx_grammar.specs.Literals.{Literal, Index, Step, Leading, NodeText, space_of, node_text}
use Rattle.mx_grammar.specs.Spelling.{SpellsIn, Shallow, unopened, open_count, bracketed, words_of}
use Rattle.mx_round_trip.specs.Proper.{IsArgument, AreSteps, IsAddress, IsProper}
use Rattle.mx_round_trip.proofs.Counts.{IsClosed, closed_append, closed_round, behind_closed, shallow_split}
use Rattle.mx_round_trip.proofs.Printed.{comma_closed, none_closed}
use Rattle.mx_round_trip.proofs.Addresses.{closed_square}
use Rattle.mx_round_trip.proofs.Weights.{weights, weights_append, source_weights}

-- ---- what values are

record Atom (x : Value) (size : ℕ) : Type 0 where
  plain : is_plain x ≡ true
  size_is : size_of x ≡ size
  flat : nesting_of x ≡ 0

nothing_atom : Atom value.Nothing 1
nothing_atom = record {
  plain = ap is_plain (sym value.rolls-Nothing) ∙ fold-roll-Value _ _ _ _ _ _ Value-F.Nothing;
  size_is = ap size_of (sym value.rolls-Nothing) ∙ fold-roll-Value _ _ _ _ _ _ Value-F.Nothing;
  flat = ap nesting_of (sym value.rolls-Nothing) ∙ fold-roll-Value _ _ _ _ _ _ Value-F.Nothing;
}

flag_atom : (b : Bool) → Atom (value.Flag b) 1
flag_atom b = record {
  plain = ap is_plain (sym (value.rolls-Flag b)) ∙ fold-roll-Value _ _ _ _ _ _ (Value-F.Flag b);
  size_is = ap size_of (sym (value.rolls-Flag b)) ∙ fold-roll-Value _ _ _ _ _ _ (Value-F.Flag b);
  flat = ap nesting_of (sym (value.rolls-Flag b)) ∙ fold-roll-Value _ _ _ _ _ _ (Value-F.Flag b);
}

int_atom : (z : ℤ) → Atom (value.Int z) 1
int_atom z = record {
  plain = ap is_plain (sym (value.rolls-Int z)) ∙ fold-roll-Value _ _ _ _ _ _ (Value-F.Int z);
  size_is = ap size_of (sym (value.rolls-Int z)) ∙ fold-roll-Value _ _ _ _ _ _ (Value-F.Int z);
  flat = ap nesting_of (sym (value.rolls-Int z)) ∙ fold-roll-Value _ _ _ _ _ _ (Value-F.Int z);
}

fix_atom : (z : ℤ) → Atom (value.Fix z) 1
fix_atom z = record {
  plain = ap is_plain (sym (value.rolls-Fix z)) ∙ fold-roll-Value _ _ _ _ _ _ (Value-F.Fix z);
  size_is = ap size_of (sym (value.rolls-Fix z)) ∙ fold-roll-Value _ _ _ _ _ _ (Value-F.Fix z);
  flat = ap nesting_of (sym (value.rolls-Fix z)) ∙ fold-roll-Value _ _ _ _ _ _ (Value-F.Fix z);
}

text_atom : (t : List ℕ) → Atom (value.Text t) (1 + length t)
text_atom t = record {
  plain = ap is_plain (sym (value.rolls-Text t)) ∙ fold-roll-Value _ _ _ _ _ _ (Value-F.Text t);
  size_is = ap size_of (sym (value.rolls-Text t)) ∙ fold-roll-Value _ _ _ _ _ _ (Value-F.Text t);
  flat = ap nesting_of (sym (value.rolls-Text t)) ∙ fold-roll-Value _ _ _ _ _ _ (Value-F.Text t);
}

abbrev pub all_plain : List Value → Bool
all_plain xs = list_all (λ (p : Bool). p) (map is_plain xs)

abbrev sizes : List Value → ℕ
sizes xs = sum (map size_of xs)

abbrev pub deepest : List Value → ℕ
deepest xs = greatest (map nesting_of xs)

pub plain_tup : (xs : List Value) → is_plain (value.Tup xs) ≡ all_plain xs
plain_tup xs = ap is_plain (sym (value.rolls-Tup xs)) ∙ fold-roll-Value _ _ _ _ _ _ (Value-F.Tup xs)

size_tup : (xs : List Value) → size_of (value.Tup xs) ≡ 1 + sizes xs
size_tup xs = ap size_of (sym (value.rolls-Tup xs)) ∙ fold-roll-Value _ _ _ _ _ _ (Value-F.Tup xs)

pub nesting_tup : (xs : List Value) → nesting_of (value.Tup xs) ≡ 1 + deepest xs
nesting_tup xs = ap nesting_of (sym (value.rolls-Tup xs)) ∙ fold-roll-Value _ _ _ _ _ _ (Value-F.Tup xs)

abbrev address_size : List Segment → ℕ
address_size a = sum (map size_of_segment a)

size_space : (a : List Segment) → size_of (value.Space a) ≡ 1 + address_size a
size_space a = ap size_of (sym (value.rolls-Space a)) ∙ fold-roll-Value _ _ _ _ _ _ (Value-F.Space a)

size_name : (n : List ℕ) → size_of_segment (segment.Name n) ≡ 0
size_name n = ap size_of_segment (sym (segment.rolls-Name n)) ∙ fold-roll-Segment _ _ _ _ _ _ (Segment-F.Name n)

size_item : (xs : List Value) → size_of_segment (segment.Item xs) ≡ sizes xs
size_item xs = ap size_of_segment (sym (segment.rolls-Item xs)) ∙ fold-roll-Segment _ _ _ _ _ _ (Segment-F.Item xs)

sum_more : (n : ℕ) (ns : List ℕ) → sum (n ∷ ns) ≡ n + sum ns
sum_more n ns = sum_by-cons (λ (x : ℕ). x) n ns

sizes_more : (x : Value) (xs : List Value) → sizes (x ∷ xs) ≡ size_of x + sizes xs
sizes_more x xs = sum_more (size_of x) (map size_of xs)

pub both_true : (a b : Bool) → a ≡ true → b ≡ true → (a && b) ≡ true
both_true true true g h = refl
both_true true false g h = absurd cc
both_true false true g h = absurd cc
both_true false false g h = absurd cc

-- values that are plain and small are arguments
arguments : (xs : List Value) → all_plain xs ≡ true → sizes xs ≤ 1000000 → deepest xs ≤ 64 → All IsArgument xs
arguments [] plain small low = All-nil IsArgument
arguments (x ∷ xs) plain small low =
    let parts = and_parts (is_plain x) (all_plain xs) plain in
    let more = sizes_more x xs in
    All-cons IsArgument x xs (record { plain = parts.0; size = omega arith; nesting = omega arith }) (arguments xs parts.1 (omega arith) (omega arith))

-- ---- literals

-- What a literal is, by its tokens: no larger than what they say, and no deeper nested than the brackets that they open.
pub record Measured (u : List Word) (x : Value) : Type 0 where
  pub plain : is_plain x ≡ true
  pub size : size_of x ≤ weights u
  pub closed : IsClosed u
  pub nesting : (d : ℕ) (n : Open) → Shallow d n u → open_count n + nesting_of x ≤ d

record AllMeasured (u : List Word) (xs : List Value) : Type 0 where
  plain : all_plain xs ≡ true
  size : sizes xs ≤ weights u
  closed : IsClosed u
  nesting : (d : ℕ) (n : Open) → Shallow d n u → open_count n ≤ d → open_count n + deepest xs ≤ d

atom : (u : List Word) (x : Value) (k : ℕ) → Atom x k → k ≤ weights u → IsClosed u → ((d : ℕ) (n : Open) → Shallow d n u → open_count n ≤ d) → Measured u x
atom u x k a le closed opened = record {
  plain = a.plain;
  size = let is = a.size_is in omega arith;
  closed = closed;
  nesting = λ d n s. let flat = a.flat in omega (arith, opened d n s);
}

none_measured : AllMeasured [] []
none_measured = record { plain = refl; size = omega arith; closed = none_closed; nesting = λ d n s le. omega arith }

more_measured : (u v : List Word) (x : Value) (xs : List Value) → Measured u x → AllMeasured v xs → AllMeasured (u ++ word.Symbol symbol.Comma ∷ v) (x ∷ xs)
more_measured u v x xs g h = record {
  plain = both_true (is_plain x) (all_plain xs) g.plain h.plain;
  size = omega (arith, g.size, h.size, sizes_more x xs, weights_append u (word.Symbol symbol.Comma ∷ v));
  closed = closed_append g.closed (closed_append comma_closed h.closed);
  nesting = λ d n s le.
      let b = behind_closed d n u (word.Symbol symbol.Comma ∷ v) g.closed s in
      let first : open_count n + nesting_of x ≤ d = g.nesting d n b.0 in
      let others : open_count n + deepest xs ≤ d = h.nesting d n b.1.1 le in
      omega arith;
}

one_measured : (u : List Word) (x : Value) → Measured u x → AllMeasured u (x ∷ [])
one_measured u x g = record {
  plain = both_true (is_plain x) true g.plain refl;
  size = omega (arith, g.size, sizes_more x []);
  closed = g.closed;
  nesting = λ d n s le. let first : open_count n + nesting_of x ≤ d = g.nesting d n s in omega arith;
}

tuple_measured : (u v : List Word) (x : Value) (xs : List Value) → Measured u x → AllMeasured v xs → Measured (word.Symbol symbol.OpenRound ∷ u ++ word.Symbol symbol.Comma ∷ v ++ word.Symbol symbol.CloseRound ∷ []) (value.Tup (x ∷ xs))
tuple_measured u v x xs g h =
    let ws : List Word = u ++ word.Symbol symbol.Comma ∷ v in
    let all : AllMeasured ws (x ∷ xs) = more_measured u v x xs g h in
    let size : sizes (x ∷ xs) ≤ weights ws = all.size in
    record {
      plain = plain_tup (x ∷ xs) ∙ all.plain;
      size = omega (arith, size, size_tup (x ∷ xs), weights_append ws (word.Symbol symbol.CloseRound ∷ []));
      closed = closed_round ws all.closed;
      nesting = λ d n s.
          let inner : open_count (bracketed n) + deepest (x ∷ xs) ≤ d = all.nesting d (bracketed n) (shallow_split d (bracketed n) ws (word.Symbol symbol.CloseRound ∷ []) s.1).0 s.0 in
          omega (arith, inner, nesting_tup (x ∷ xs));
    }

empty_measured : Measured (word.Symbol symbol.OpenRound ∷ word.Symbol symbol.CloseRound ∷ []) (value.Tup [])
empty_measured = record {
  plain = plain_tup [];
  size = omega (arith, size_tup []);
  closed = closed_round [] none_closed;
  nesting = λ d n s. let opened : open_count (bracketed n) ≤ d = s.0 in omega (arith, opened, nesting_tup []);
}

module _ (In : Spelling Value) (inner : (u : List Word) (x : Value) → In u x → Measured u x) where
  listed_measured : (v : List Word) (xs : List Value) → Listed In v xs → AllMeasured v xs
  listed_measured _ _ Listed.none = none_measured
  listed_measured _ _ (Listed.one {u} {x} h) = one_measured u x (inner u x h)
  listed_measured _ _ (Listed.more {u} {v} {x} {xs} h k) = more_measured u v x xs (inner u x h) (listed_measured v xs k)

  literal_measured : (u : List Word) (x : Value) → Literal In u x → Measured u x
  literal_measured _ _ (Literal.int {n} h) = atom _ _ 1 (int_atom _) (omega arith) (record { same = λ m. refl }) (λ d m s. s.0)
  literal_measured _ _ (Literal.negative_int {n} h) = atom _ _ 1 (int_atom _) (omega arith) (record { same = λ m. refl }) (λ d m s. s.0)
  literal_measured _ _ (Literal.fix {z}) = atom _ _ 1 (fix_atom z) (omega arith) (record { same = λ m. refl }) (λ d m s. s.0)
  literal_measured _ _ (Literal.negative_fix {z}) = atom _ _ 1 (fix_atom _) (omega arith) (record { same = λ m. refl }) (λ d m s. s.0)
  literal_measured _ _ (Literal.text {t}) = atom _ _ (1 + length t) (text_atom t) (omega arith) (record { same = λ m. refl }) (λ d m s. s.0)
  literal_measured _ _ Literal.none = atom _ _ 1 nothing_atom (omega arith) (record { same = λ m. refl }) (λ d m s. s.0)
  literal_measured _ _ Literal.holds = atom _ _ 1 (flag_atom true) (omega arith) (record { same = λ m. refl }) (λ d m s. s.0)
  literal_measured _ _ Literal.fails = atom _ _ 1 (flag_atom false) (omega arith) (record { same = λ m. refl }) (λ d m s. s.0)
  literal_measured _ _ Literal.empty = empty_measured
  literal_measured _ _ (Literal.tuple {u} {v} {x} {xs} h k) = tuple_measured u v x xs (inner u x h) (listed_measured v xs k)

pub within_measured : (levels : ℕ) (u : List Word) (x : Value) → Within Literal levels u x → Measured u x
within_measured zero u x h = absurd h
within_measured (suc levels) u x h = literal_measured (Within Literal levels) (within_measured levels) u x h

-- ---- addresses

in_round : (u : List Word) (xs : List Value) → AllMeasured u xs → AllMeasured (word.Symbol symbol.OpenRound ∷ u ++ word.Symbol symbol.CloseRound ∷ []) xs
in_round u xs h = record {
  plain = h.plain;
  size = omega (arith, h.size, weights_append u (word.Symbol symbol.CloseRound ∷ []));
  closed = closed_round u h.closed;
  nesting = λ d n s le.
      let inner : open_count (bracketed n) + deepest xs ≤ d = h.nesting d (bracketed n) (shallow_split d (bracketed n) u (word.Symbol symbol.CloseRound ∷ []) s.1).0 s.0 in
      omega arith;
}

in_square : (u : List Word) (xs : List Value) → AllMeasured u xs → AllMeasured (word.Symbol symbol.OpenSquare ∷ u ++ word.Symbol symbol.CloseSquare ∷ []) xs
in_square u xs h = record {
  plain = h.plain;
  size = omega (arith, h.size, weights_append u (word.Symbol symbol.CloseSquare ∷ []));
  closed = closed_square u h.closed;
  nesting = λ d n s le.
      let inner : open_count (bracketed n) + deepest xs ≤ d = h.nesting d (bracketed n) (shallow_split d (bracketed n) u (word.Symbol symbol.CloseSquare ∷ []) s.1).0 s.0 in
      omega arith;
}

measured_arguments : (u : List Word) (xs : List Value) → AllMeasured u xs → weights u ≤ 1000000 → Shallow 64 unopened u → All IsArgument xs
measured_arguments u xs h few shallow =
    let low : open_count unopened + deepest xs ≤ 64 = h.nesting 64 unopened shallow (omega arith) in
    arguments xs h.plain (omega (arith, h.size)) (omega arith)

-- segments that stand before others
record Leads (u : List Word) (a : List Segment) : Type 0 where
  size : address_size a ≤ weights u
  closed : IsClosed u
  steps : weights u ≤ 1000000 → Shallow 64 unopened u → (b : List Segment) → AreSteps b → AreSteps (a ++ b)

size_append : (a b : List Segment) → address_size (a ++ b) ≡ address_size a + address_size b
size_append a b = ap sum (map-append size_of_segment a b) ∙ sum_by-append (λ (x : ℕ). x) (map size_of_segment a) (map size_of_segment b)

size_more : (s : Segment) (a : List Segment) → address_size (s ∷ a) ≡ size_of_segment s + address_size a
size_more s a = sum_more (size_of_segment s) (map size_of_segment a)

no_leads : Leads [] []
no_leads = record { size = omega arith; closed = none_closed; steps = λ few shallow b h. h }

name_leads : (n : List ℕ) → Leads (word.Name n ∷ []) (segment.Name n ∷ [])
name_leads n = record { size = omega (arith, size_more (segment.Name n) [], size_name n); closed = record { same = λ m. refl }; steps = λ few shallow b h. AreSteps.name n h }

dot_leads : Leads (word.Symbol symbol.Dot ∷ []) []
dot_leads = record { size = omega arith; closed = record { same = λ m. refl }; steps = λ few shallow b h. h }

item_leads : (n : List ℕ) (v : List Word) (xs : List Value) → AllMeasured v xs → Leads (word.Name n ∷ v) (segment.Name n ∷ segment.Item xs ∷ [])
item_leads n v xs g = record {
  size = omega (arith, g.size, size_more (segment.Name n) (segment.Item xs ∷ []), size_more (segment.Item xs) [], size_name n, size_item xs);
  closed = closed_append {us = word.Name n ∷ []} (record { same = λ m. refl }) g.closed;
  steps = λ few shallow b h. AreSteps.item n xs (measured_arguments v xs g (omega arith) shallow.1) h;
}

both_lead : (u v : List Word) (a b : List Segment) → Leads u a → Leads v b → Leads (u ++ v) (a ++ b)
both_lead u v a b g h = record {
  size = omega (arith, g.size, h.size, size_append a b, weights_append u v);
  closed = closed_append g.closed h.closed;
  steps = λ few shallow c k.
      let parts = behind_closed 64 unopened u v g.closed shallow in
      let sum = weights_append u v in
      subst AreSteps (sym (append_assoc a b c)) (g.steps (omega arith) parts.0 (b ++ c) (h.steps (omega arith) parts.1 c k));
}

space_leads : (u : List Word) (a : List Segment) → Leads u a → Leads u (space_of a)
space_leads u [] h = record {
  size = omega (arith, size_more (segment.Name (77 ∷ 97 ∷ 105 ∷ 110 ∷ [])) [], size_name (77 ∷ 97 ∷ 105 ∷ 110 ∷ []));
  closed = h.closed;
  steps = λ few shallow b k. AreSteps.name (77 ∷ 97 ∷ 105 ∷ 110 ∷ []) k;
}
space_leads u (s ∷ a) h = h

space_some : (a : List Segment) → space_of a ≢ []
space_some [] e = cc
space_some (s ∷ a) e = cc

name_behind : (a : List Segment) (n : List ℕ) → (a ++ segment.Name n ∷ []) ≢ []
name_behind [] n e = cc
name_behind (s ∷ a) n e = cc

leads_address : (u : List Word) (a : List Segment) → a ≢ [] → Leads u a → weights u ≤ 65536 → Shallow 64 unopened u → IsAddress a
leads_address u a some h few shallow = record {
  some = some;
  steps = subst AreSteps (append-nil a) (h.steps (omega arith) shallow [] AreSteps.none);
  size = omega (arith, h.size, size_space a);
}

-- ---- nodes

module _ (In : Spelling Value) (inner : (u : List Word) (x : Value) → In u x → Measured u x) where
  index_measured : (v : List Word) (xs : List Value) → Index In v xs → AllMeasured v xs
  index_measured _ _ (Index.index {u} {x} {xs} h) = in_square u (x ∷ xs) (listed_measured In inner u (x ∷ xs) h)

  step_leads : (u : List Word) (s : List Segment) → Step In u s → Leads u s
  step_leads _ _ (Step.child {n}) = name_leads n
  step_leads _ _ (Step.item {n} {u} {xs} h) = item_leads n u xs (index_measured u xs h)

  leading_leads : (u : List Word) (a : List Segment) → Leading In u a → Leads u a
  leading_leads _ _ Leading.none = no_leads
  leading_leads _ _ (Leading.more {u} {v} {s} {a} h k) =
      both_lead u (word.Symbol symbol.Dot ∷ v) s a (step_leads u s h) (both_lead (word.Symbol symbol.Dot ∷ []) v [] a dot_leads (leading_leads v a k))

  node_proper : (u : List Word) (x : Node) → weights u ≤ 65536 → Shallow 64 unopened u → NodeText In u x → IsProper x
  node_proper _ _ few shallow (NodeText.cell {n} {u} {v} {a} {xs} h k) =
      let ws : List Word = word.Symbol symbol.OpenRound ∷ v ++ word.Symbol symbol.CloseRound ∷ [] in
      let lead : Leads u (space_of a) = space_leads u a (leading_leads u a h) in
      let parts = behind_closed 64 unopened u (word.Name n ∷ ws) lead.closed shallow in
      let sum = weights_append u (word.Name n ∷ ws) in
      (leads_address u (space_of a) (space_some a) lead (omega arith) parts.0, measured_arguments ws xs (in_round v xs (listed_measured In inner v xs k)) (omega arith) parts.1.1)
  node_proper _ _ few shallow (NodeText.item n {u} {v} {a} {xs} h k) =
      let lead : Leads u a = leading_leads u a h in
      let named : Leads (u ++ word.Name n ∷ []) (a ++ segment.Name n ∷ []) = both_lead u (word.Name n ∷ []) a (segment.Name n ∷ []) lead (name_leads n) in
      let parts = behind_closed 64 unopened u (word.Name n ∷ v) lead.closed shallow in
      let split = behind_closed 64 unopened (u ++ word.Name n ∷ []) v named.closed (subst (Shallow 64 unopened) (sym (append_assoc u (word.Name n ∷ []) v)) shallow) in
      let sum = weights_append u (word.Name n ∷ v) in
      let front = weights_append u (word.Name n ∷ []) in
      let given : All IsArgument xs = measured_arguments v xs (index_measured v xs k) (omega arith) parts.1.1 in (
        leads_address (u ++ word.Name n ∷ []) (a ++ segment.Name n ∷ []) (name_behind a n) named (omega arith) split.0,
        subst AreSteps (sym (append_assoc a (segment.Name n ∷ []) (segment.Item xs ∷ []))) (lead.steps (omega arith) parts.0 (segment.Name n ∷ segment.Item xs ∷ []) (AreSteps.item n xs given AreSteps.none)),
        given,
      )

line_proper : (levels : ℕ) (ws line : List Word) (x : Node) → ws ≡ line ++ word.Symbol symbol.End ∷ [] → weights ws ≤ 65536 → Shallow 64 unopened ws → Line (NodeText (Within Literal (levels + 1))) line x → IsProper x
line_proper levels ws _ x parts few shallow (Line.line {u} h) =
    let behind : List Word = word.Symbol symbol.Newline ∷ word.Symbol symbol.End ∷ [] in
    let given : ws ≡ u ++ behind = parts ∙ append_assoc u (word.Symbol symbol.Newline ∷ []) (word.Symbol symbol.End ∷ []) in
    let low : Shallow 64 unopened u = (shallow_split 64 unopened u behind (subst (Shallow 64 unopened) given shallow)).0 in
    let total : weights ws ≡ weights u + weights behind = ap weights given ∙ weights_append u behind in
    node_proper (Within Literal (levels + 1)) (within_measured (levels + 1)) u x (omega arith) low h

pub spelled_proper : (source : List ℕ) (x : Node) → SpellsIn node_text source x → IsProper x
spelled_proper source x h = line_proper h.spells.levels (words_of source h.tokens) h.spells.text x h.spells.parts (source_weights source h.tokens h.lexed) h.shallow h.spells.spelled
