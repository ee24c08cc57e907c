-- The printed text of a literal spells it again.
use Rattle.std.proofs.Common.{◌≡◌, ℕ, ◌/◌, ◌%◌, ◌^◌, ◌<◌, ◌≤◌, zero, suc, List, [], ◌∷◌, ◌++◌, Bool, true, false, ◌==◌, ◌||◌, map, refl, sym, ap, ◌∙◌, subst, append_assoc, append-nil, ℤ, pos, negsuc, neg_ℤ, arith}
use Rattle.std.specs.Prelude.{codes}
use Rattle.std.specs.Fmt.{decimal, signed_decimal}
use Rattle.std.specs.Int.{is_negative}
use Rattle.std.proofs.lemmas.Bool.{le-ltb}
use Rattle.std.specs.List.{list_all}
use Rattle.mx_lex.specs.Bytes.{continues_name, is_printable, first_passes}
use Rattle.mx_value.specs.declared.value.Value.{Value, fold-roll-Value}
use Rattle.mx_value.specs.declared.value.Value.TheVariants as value
use Rattle.mx_value.specs.declared.value.Segment.TheOpen.{Value-F}
use Rattle.mx_print.specs.Texts.{Text}
use Rattle.mx_print.specs.Values.{value_text, segment_step, value_step, cells_step, fixed_text, quoted, tuple_text, decimals}
use Rattle.mx_grammar.specs.declared.word.Word.{Word}
use Rattle.mx_grammar.specs.declared.word.Word.TheVariants as word
use Rattle.mx_grammar.specs.declared.word.Symbol.TheVariants as symbol
use Rattle.mx_grammar.specs.Grammar.{Spelling, Listed, Within}
use Rattle.mx_grammar.specs.Literals.{Literal}
use Rattle.mx_round_trip.proofs.Goes.{none}
use Rattle.mx_round_trip.proofs.Spans.{is_equals, reads_minus, reads_none, reads_true, reads_false}
use Rattle.mx_round_trip.proofs.Numbers.{glues}
use Rattle.mx_round_trip.proofs.NumberTexts.{flat_int, flat_fix, decimal_begins}
use Rattle.mx_round_trip.proofs.Quoted.{reads_quoted}
use Rattle.mx_round_trip.proofs.Plain.{quoted_plain}
use Rattle.mx_round_trip.proofs.Counts.{IsClosed, IsNoDeeper, closed_append, no_deeper_both, same_depth, closed_round, no_deeper_round}
use Rattle.mx_round_trip.proofs.Flat.{Flat, flat_both, flat_more, flat_nothing, flat_round, flat_comma_behind}
use Rattle.mx_round_trip.proofs.Printed.{Again, AllAgain, with_commas, again_none, again_one, again_more, starts, comma_closed, none_closed}
use Rattle.mx_round_trip.proofs.Sources.{AreSaid, IsFixed, said_split}

-- ---- the texts, form by form

pub nothing_text : value_text value.Nothing ≡ codes "None"
nothing_text = ap value_text (sym value.rolls-Nothing) ∙ fold-roll-Value Text Text Text segment_step value_step cells_step Value-F.Nothing

pub true_text : value_text (value.Flag true) ≡ codes "True"
true_text = ap value_text (sym (value.rolls-Flag true)) ∙ fold-roll-Value Text Text Text segment_step value_step cells_step (Value-F.Flag true)

pub false_text : value_text (value.Flag false) ≡ codes "False"
false_text = ap value_text (sym (value.rolls-Flag false)) ∙ fold-roll-Value Text Text Text segment_step value_step cells_step (Value-F.Flag false)

pub int_text : (z : ℤ) → value_text (value.Int z) ≡ signed_decimal z
int_text z = ap value_text (sym (value.rolls-Int z)) ∙ fold-roll-Value Text Text Text segment_step value_step cells_step (Value-F.Int z)

pub fix_text : (z : ℤ) → value_text (value.Fix z) ≡ fixed_text z
fix_text z = ap value_text (sym (value.rolls-Fix z)) ∙ fold-roll-Value Text Text Text segment_step value_step cells_step (Value-F.Fix z)

pub text_text : (t : List ℕ) → value_text (value.Text t) ≡ quoted t
text_text t = ap value_text (sym (value.rolls-Text t)) ∙ fold-roll-Value Text Text Text segment_step value_step cells_step (Value-F.Text t)

pub tup_text : (xs : List Value) → value_text (value.Tup xs) ≡ tuple_text (map value_text xs)
tup_text xs = ap value_text (sym (value.rolls-Tup xs)) ∙ fold-roll-Value Text Text Text segment_step value_step cells_step (Value-F.Tup xs)

-- ---- the forms of one or two tokens

keyword_glues : (b : ℕ) → glues b ≡ false → continues_name b ≡ false
keyword_glues b h = left (continues_name b) (b == 46) h
  where
    left : (x y : Bool) → (x || y) ≡ false → x ≡ false
    left true y e = absurd cc
    left false y e = refl

less_none : (b : ℕ) → glues b ≡ false → none b ≡ false
less_none b h = refl

-- the tokens of a tuple, of its first item and of the others
abbrev around : List Word → List Word → List Word
around ws vs = word.Symbol symbol.OpenRound ∷ ws ++ word.Symbol symbol.Comma ∷ vs ++ word.Symbol symbol.CloseRound ∷ []

around_closed : (ws vs : List Word) → IsClosed ws → IsClosed vs → IsClosed (around ws vs)
around_closed ws vs g h = closed_round (ws ++ word.Symbol symbol.Comma ∷ vs) (closed_append g (closed_append comma_closed h))

around_no_deeper : (us vs ps qs : List Word) → IsClosed us → IsClosed ps → IsClosed vs → IsClosed qs → IsNoDeeper us ps → IsNoDeeper vs qs → IsNoDeeper (around us vs) (around ps qs)
around_no_deeper us vs ps qs cu cp cv cq g h =
    let comma : List Word = word.Symbol symbol.Comma ∷ [] in
    let inner : IsNoDeeper (us ++ word.Symbol symbol.Comma ∷ vs) (ps ++ word.Symbol symbol.Comma ∷ qs) = no_deeper_both cu cp g (no_deeper_both comma_closed comma_closed (same_depth comma) h) in
    no_deeper_round (us ++ word.Symbol symbol.Comma ∷ vs) (ps ++ word.Symbol symbol.Comma ∷ qs) (closed_append cu (closed_append comma_closed cv)) (closed_append cp (closed_append comma_closed cq)) inner

in_round : (inner text : List ℕ) (ws vs : List Word) → inner ++ 41 ∷ [] ≡ text → Flat glues inner (ws ++ word.Symbol symbol.Comma ∷ vs) → Flat glues (40 ∷ text) (around ws vs)
in_round inner text ws vs e g = flat_more (subst (λ l. Flat none (40 ∷ l) (around ws vs)) e (flat_round g refl)) less_none

flat_minus : Flat is_equals (45 ∷ []) (word.Symbol symbol.Minus ∷ [])
flat_minus = record { reads = reads_minus; plain = refl }

pub flat_quoted : (t : List ℕ) → list_all is_printable t ≡ true → Flat none (quoted t) (word.Text t ∷ [])
flat_quoted t h = record { reads = λ number brackets stack. reads_quoted t number brackets stack h; plain = quoted_plain t h }

pub flat_none : Flat continues_name (codes "None") (word.Symbol symbol.None ∷ [])
flat_none = record { reads = reads_none; plain = refl }

pub flat_true : Flat continues_name (codes "True") (word.Symbol symbol.True ∷ [])
flat_true = record { reads = reads_true; plain = refl }

pub flat_false : Flat continues_name (codes "False") (word.Symbol symbol.False ∷ [])
flat_false = record { reads = reads_false; plain = refl }

-- a decimal number from 0 on
abbrev pub fixed_by : ℕ → List ℕ
fixed_by m = decimal (m / 10 ^ 9) ++ 46 ∷ decimals 9 (m % 10 ^ 9)

pub from_zero : (m : ℕ) → fixed_text (pos m) ≡ fixed_by m
from_zero m = let e : is_negative (pos m) ≡ false = le-ltb m 0 (omega arith) in rw e refl

fixed_no_equals : (m : ℕ) (rest : List ℕ) → m ≤ 10 ^ 19 → first_passes is_equals (fixed_by m ++ rest) ≡ false
fixed_no_equals m rest h =
    ap (first_passes is_equals) (append_assoc (decimal (m / 10 ^ 9)) (46 ∷ decimals 9 (m % 10 ^ 9)) rest)
    ∙ (decimal_begins (m / 10 ^ 9) ((46 ∷ decimals 9 (m % 10 ^ 9)) ++ rest) (omega arith)).1

module _ (In : Spelling Value) where
  -- a text that gives the tokens it was read from
  as_read : (u : List Word) (x : Value) (text : List ℕ) → value_text x ≡ text → Literal In u x → Flat glues text u → first_passes starts text ≡ true → IsClosed u → Again glues (Literal In) u x (value_text x)
  as_read u x text e spelled flat begins closed =
      subst (Again glues (Literal In) u x) (sym e)
      (record { words = u; spelled = spelled; flat = flat; starts = begins; source_closed = closed; closed = closed; few = same_depth u })

  whole_again : (n : ℕ) → n < 2 ^ 63 → Again glues (Literal In) (word.Int n ∷ []) (value.Int (pos n)) (value_text (value.Int (pos n)))
  whole_again n h =
      as_read (word.Int n ∷ []) (value.Int (pos n)) (decimal n) (int_text (pos n)) (Literal.int h) (flat_int n (omega arith))
      (ap (first_passes starts) (sym (append-nil (decimal n))) ∙ (decimal_begins n [] (omega arith)).0) (record { same = λ m. refl })

  negative_again : (n : ℕ) → n ≤ 2 ^ 63 → Again glues (Literal In) (word.Symbol symbol.Minus ∷ word.Int n ∷ []) (value.Int (neg_ℤ (pos n))) (value_text (value.Int (neg_ℤ (pos n))))
  negative_again zero h =
      let g = whole_again 0 (omega arith) in
      record { words = g.words; spelled = g.spelled; flat = g.flat; starts = g.starts; source_closed = record { same = λ m. refl }; closed = g.closed; few = record { shallow = λ d m s. g.few.shallow d m s.1 } }
  negative_again (suc n) h =
      as_read (word.Symbol symbol.Minus ∷ word.Int (suc n) ∷ []) (value.Int (negsuc n)) (45 ∷ decimal (suc n)) (int_text (negsuc n)) (Literal.negative_int h)
      (flat_both flat_minus (flat_int (suc n) (omega arith)) (λ rest _. (decimal_begins (suc n) rest (omega arith)).1)) refl (record { same = λ m. refl })

  fix_again : (m : ℕ) → m ≤ 10 ^ 19 → Again glues (Literal In) (word.Fix (pos m) ∷ []) (value.Fix (pos m)) (value_text (value.Fix (pos m)))
  fix_again m h =
      as_read (word.Fix (pos m) ∷ []) (value.Fix (pos m)) (fixed_by m) (fix_text (pos m) ∙ from_zero m) Literal.fix (flat_fix m h)
      (decimal_begins (m / 10 ^ 9) (46 ∷ decimals 9 (m % 10 ^ 9)) (omega arith)).0 (record { same = λ k. refl })

  negative_fix_again : (m : ℕ) → m ≤ 10 ^ 19 → Again glues (Literal In) (word.Symbol symbol.Minus ∷ word.Fix (pos m) ∷ []) (value.Fix (neg_ℤ (pos m))) (value_text (value.Fix (neg_ℤ (pos m))))
  negative_fix_again zero h =
      let g = fix_again 0 (omega arith) in
      record { words = g.words; spelled = g.spelled; flat = g.flat; starts = g.starts; source_closed = record { same = λ m. refl }; closed = g.closed; few = record { shallow = λ d m s. g.few.shallow d m s.1 } }
  negative_fix_again (suc m) h =
      as_read (word.Symbol symbol.Minus ∷ word.Fix (pos (suc m)) ∷ []) (value.Fix (negsuc m)) (45 ∷ fixed_by (suc m)) (fix_text (negsuc m)) (Literal.negative_fix {z = pos (suc m)})
      (flat_both flat_minus (flat_fix (suc m) h) (λ rest _. fixed_no_equals (suc m) rest h)) refl (record { same = λ k. refl })

  -- ---- tuples

  pub list_again : ((u : List Word) (x : Value) → AreSaid u → In u x → Again glues In u x (value_text x)) → (v : List Word) (xs : List Value) → AreSaid v → Listed In v xs → AllAgain glues In value_text v xs
  list_again inner _ _ said Listed.none = again_none glues In value_text
  list_again inner _ _ said (Listed.one {u} {x} h) = again_one glues In value_text u x (inner u x said h)
  list_again inner _ _ said (Listed.more {u} {v} {x} {xs} h k) =
      let parts = said_split u (word.Symbol symbol.Comma ∷ v) said in
      again_more glues In value_text refl u v x xs (inner u x parts.0 h) (list_again inner v xs parts.1.1 k)

  empty_again : Again glues (Literal In) (word.Symbol symbol.OpenRound ∷ word.Symbol symbol.CloseRound ∷ []) (value.Tup []) (value_text (value.Tup []))
  empty_again =
      as_read (word.Symbol symbol.OpenRound ∷ word.Symbol symbol.CloseRound ∷ []) (value.Tup []) (40 ∷ 41 ∷ []) (tup_text []) Literal.empty
      (flat_more (flat_round (flat_nothing {F = none}) refl) less_none) refl (closed_round [] none_closed)

  tuple_again : (u v : List Word) (x : Value) (xs : List Value) → Again glues In u x (value_text x) → AllAgain glues In value_text v xs → Again glues (Literal In) (around u v) (value.Tup (x ∷ xs)) (value_text (value.Tup (x ∷ xs)))
  tuple_again u v x [] g h =
      subst (Again glues (Literal In) (around u v) (value.Tup (x ∷ []))) (sym (tup_text (x ∷ [])))
      (record {
        words = around g.words [];
        spelled = Literal.tuple {u = g.words} {v = []} g.spelled Listed.none;
        flat = in_round (value_text x ++ 44 ∷ []) (value_text x ++ 44 ∷ 41 ∷ []) g.words [] (append_assoc (value_text x) (44 ∷ []) (41 ∷ [])) (flat_more (flat_comma_behind g.flat refl) less_none);
        starts = refl;
        source_closed = around_closed u v g.source_closed h.source_closed;
        closed = around_closed g.words [] g.closed none_closed;
        few = around_no_deeper u v g.words [] g.source_closed g.closed h.source_closed none_closed g.few (record { shallow = λ d n s. tt });
      })
  tuple_again u v x (y ∷ ys) g h =
      subst (Again glues (Literal In) (around u v) (value.Tup (x ∷ y ∷ ys))) (sym (tup_text (x ∷ y ∷ ys)))
      (record {
        words = around g.words h.words;
        spelled = Literal.tuple {u = g.words} {v = h.words} g.spelled h.spelled;
        flat = in_round (value_text x ++ with_commas (map value_text (y ∷ ys))) _ g.words h.words refl (flat_both g.flat h.flat (λ rest _. refl));
        starts = refl;
        source_closed = around_closed u v g.source_closed h.source_closed;
        closed = around_closed g.words h.words g.closed h.closed;
        few = around_no_deeper u v g.words h.words g.source_closed g.closed h.source_closed h.closed g.few h.few;
      })

  -- ---- all forms

  pub literal_again : ((u : List Word) (x : Value) → AreSaid u → In u x → Again glues In u x (value_text x)) → (u : List Word) (x : Value) → AreSaid u → Literal In u x → Again glues (Literal In) u x (value_text x)
  literal_again inner _ _ said (Literal.int {n} h) = whole_again n h
  literal_again inner _ _ said (Literal.negative_int {n} h) = negative_again n h
  literal_again inner _ _ said (Literal.fix {z}) =
      let f : IsFixed z = said.0 in
      subst (λ w. Again glues (Literal In) (word.Fix w ∷ []) (value.Fix w) (value_text (value.Fix w))) (sym f.is) (fix_again f.raw f.bound)
  literal_again inner _ _ said (Literal.negative_fix {z}) =
      let f : IsFixed z = said.1.0 in
      subst (λ w. Again glues (Literal In) (word.Symbol symbol.Minus ∷ word.Fix w ∷ []) (value.Fix (neg_ℤ w)) (value_text (value.Fix (neg_ℤ w)))) (sym f.is) (negative_fix_again f.raw f.bound)
  literal_again inner _ _ said (Literal.text {t}) =
      as_read (word.Text t ∷ []) (value.Text t) (quoted t) (text_text t) Literal.text (flat_more (flat_quoted t said.0) less_none) refl (record { same = λ m. refl })
  literal_again inner _ _ said Literal.none =
      as_read (word.Symbol symbol.None ∷ []) value.Nothing (codes "None") nothing_text Literal.none (flat_more flat_none keyword_glues) refl (record { same = λ m. refl })
  literal_again inner _ _ said Literal.holds =
      as_read (word.Symbol symbol.True ∷ []) (value.Flag true) (codes "True") true_text Literal.holds (flat_more flat_true keyword_glues) refl (record { same = λ m. refl })
  literal_again inner _ _ said Literal.fails =
      as_read (word.Symbol symbol.False ∷ []) (value.Flag false) (codes "False") false_text Literal.fails (flat_more flat_false keyword_glues) refl (record { same = λ m. refl })
  literal_again inner _ _ said Literal.empty = empty_again
  literal_again inner _ _ said (Literal.tuple {u} {v} {x} {xs} h k) =
      let inside = said_split (u ++ word.Symbol symbol.Comma ∷ v) (word.Symbol symbol.CloseRound ∷ []) said.1 in
      let parts = said_split u (word.Symbol symbol.Comma ∷ v) inside.0 in
      tuple_again u v x xs (inner u x parts.0 h) (list_again inner v xs parts.1.1 k)

-- in any number of levels
pub within_again : (levels : ℕ) (u : List Word) (x : Value) → AreSaid u → Within Literal levels u x → Again glues (Within Literal levels) u x (value_text x)
within_again zero u x said h = absurd h
within_again (suc levels) u x said h = literal_again (Within Literal levels) (within_again levels) u x said h
