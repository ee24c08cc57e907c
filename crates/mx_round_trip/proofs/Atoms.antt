-- Atoms, read as they are printed.
use Rattle.std.proofs.Common.{◌≡◌, ℕ, ◌≤◌, ◌<◌, ◌/◌, ◌%◌, ◌^◌, List, [], ◌∷◌, ◌++◌, Bool, true, false, map, refl, sym, ap, ◌∙◌, subst, append_assoc, append-nil, pos, arith}
use Rattle.std.specs.Prelude.{codes}
use Rattle.std.specs.Fmt.{decimal}
use Rattle.mx_lex.specs.Bytes.{first_passes}
use Rattle.mx_value.specs.declared.value.Value.{Value}
use Rattle.mx_value.specs.declared.value.Value.TheVariants as value
use Rattle.mx_syntax.specs.declared.expr.Expr.{Expr, fold-roll-Expr}
use Rattle.mx_syntax.specs.declared.expr.Expr.TheVariants as expr
use Rattle.mx_syntax.specs.declared.expr.Args.TheOpen.{Expr-F}
use Rattle.mx_print.specs.Texts.{Text, commas}
use Rattle.mx_print.specs.Values.{value_text, tuple_text, quoted, decimals}
use Rattle.mx_print.specs.Expressions.{Piece, form, at, all_at, is_number, printed, args_step, comparison_step, piece, trailer_step, arm_step, power_step, product_step, sum_step}
use Rattle.mx_grammar.specs.declared.word.Word.{Word}
use Rattle.mx_grammar.specs.declared.word.Word.TheVariants as word
use Rattle.mx_grammar.specs.declared.word.Symbol.TheVariants as symbol
use Rattle.mx_grammar.specs.Grammar.{Listed}
use Rattle.mx_expression.specs.Operands.{Atom}
use Rattle.mx_expression.specs.Expressions.{Ors, Expressions}
use Rattle.mx_round_trip.proofs.Goes.{none}
use Rattle.mx_round_trip.proofs.Numbers.{glues}
use Rattle.mx_round_trip.proofs.NumberTexts.{flat_int, flat_fix, decimal_begins}
use Rattle.mx_round_trip.proofs.Flat.{Flat, flat_both, flat_more, flat_nothing, flat_round, flat_comma_behind}
use Rattle.mx_round_trip.proofs.Literals.{nothing_text, true_text, false_text, int_text, fix_text, text_text, flat_quoted, flat_none, flat_true, flat_false, fixed_by, from_zero}
use Rattle.mx_round_trip.proofs.Sources.{AreSaid, IsFixed, said_split}
use Rattle.mx_round_trip.proofs.Says.{Says, AllSay, all_say}
use Rattle.mx_round_trip.proofs.ExpressionRules.{Rule, GoodAtom, stops, begins, atom_alone}
use Rattle.mx_round_trip.proofs.Printed.{starts}
use Rattle.mx_round_trip.proofs.Spans.{is_equals}
use Rattle.mx_round_trip.proofs.Names.{flat_name, name_begins}

-- what is known of expressions inside brackets, where brackets open in so many levels
pub record Inner (d : ℕ) : Type 0 where
  pub whole : (u : List Word) (x : Expr) → AreSaid u → Expressions d u x → Says Expressions d glues x (at 0 (printed x))
  pub part : (u : List Word) (x : Expr) → AreSaid u → Ors d u x → Says Ors d glues x (at 1 (printed x))
  pub group : (u : List Word) (x : Expr) → AreSaid u → Expressions d u x → GoodAtom d x (printed x)

begins_by : (t : List ℕ) → first_passes starts t ≡ true → first_passes is_equals t ≡ false → first_passes begins t ≡ true
begins_by [] h e = h
begins_by (b ∷ bs) h e = rw (h, e) refl

-- ---- literals

literal_is : (v : Value) → printed (expr.Lit v) ≡ record { level = 10; number = is_number v; text = value_text v }
literal_is v = ap printed (sym (expr.rolls-Lit v)) ∙ fold-roll-Expr Text Text Piece Text Text Text Text Text args_step comparison_step piece trailer_step arm_step power_step product_step sum_step (Expr-F.Lit v)

name_is : (n : List ℕ) → printed (expr.Name n) ≡ form 10 n
name_is n = ap printed (sym (expr.rolls-Name n)) ∙ fold-roll-Expr Text Text Piece Text Text Text Text Text args_step comparison_step piece trailer_step arm_step power_step product_step sum_step (Expr-F.Name n)

-- a literal of one token
one_token : (d : ℕ) (v : Value) (w : Word) (number : Bool) (text : Text) → is_number v ≡ number → value_text v ≡ text → ((e : ℕ) → Atom (Expressions e) (w ∷ []) (expr.Lit v)) → Flat (stops number) text (w ∷ []) → first_passes begins text ≡ true
    → GoodAtom d (expr.Lit v) (printed (expr.Lit v))
one_token d v w number text is_it is spells flat first =
    let own : Says (Rule 10) d (stops number) (expr.Lit v) text = record { words = w ∷ []; spelled = λ e le. spells e; flat = flat } in
    let same : printed (expr.Lit v) ≡ record { level = 10; number = number; text = text } = literal_is v ∙ ap (λ (b : Bool). record { level = 10; number = b; text = value_text v }) is_it ∙ ap (λ (t : Text). record { level = 10; number = number; text = t }) is in
    subst (GoodAtom d (expr.Lit v)) (sym same) (atom_alone d (expr.Lit v) number text own first)

pub int_begins : (n : ℕ) → n < 2 ^ 63 → first_passes begins (decimal n) ≡ true
int_begins n h =
    let first = decimal_begins n [] (omega arith) in
    let all : decimal n ++ [] ≡ decimal n = append-nil (decimal n) in
    begins_by (decimal n) (ap (first_passes starts) (sym all) ∙ first.0) (ap (first_passes is_equals) (sym all) ∙ first.1)

pub fix_begins : (m : ℕ) → m ≤ 10 ^ 19 → first_passes begins (fixed_by m) ≡ true
fix_begins m h =
    let first = decimal_begins (m / 10 ^ 9) (46 ∷ decimals 9 (m % 10 ^ 9)) (omega arith) in
    begins_by (fixed_by m) first.0 first.1

-- ---- tuples

pub all_at_is : (l : ℕ) (xs : List Expr) → all_at l (map printed xs) ≡ map (λ (x : Expr). at l (printed x)) xs
all_at_is l [] = refl
all_at_is l (x ∷ xs) = ap (λ (ts : List Text). at l (printed x) ∷ ts) (all_at_is l xs)

abbrev pub item_text : Expr → Text
item_text x = at 0 (printed x)

tuple_is : (xs : List Expr) → printed (expr.Tuple xs) ≡ form 10 (tuple_text (map item_text xs))
tuple_is xs =
    ap printed (sym (expr.rolls-Tuple xs)) ∙ fold-roll-Expr Text Text Piece Text Text Text Text Text args_step comparison_step piece trailer_step arm_step power_step product_step sum_step (Expr-F.Tuple xs)
    ∙ ap (λ (ts : List Text). form 10 (tuple_text ts)) (all_at_is 0 xs)

tuple_by : (d : ℕ) (xs : List Expr) (text : Text) → tuple_text (map item_text xs) ≡ 40 ∷ text → Says (Rule 10) d none (expr.Tuple xs) (40 ∷ text) → GoodAtom d (expr.Tuple xs) (printed (expr.Tuple xs))
tuple_by d xs text is own =
    let tight : Says (Rule 10) d (stops false) (expr.Tuple xs) (40 ∷ text) = record { words = own.words; spelled = own.spelled; flat = flat_more own.flat (λ b _. refl) } in
    subst (GoodAtom d (expr.Tuple xs)) (sym (tuple_is xs ∙ ap (λ (t : Text). form 10 t) is)) (atom_alone d (expr.Tuple xs) false (40 ∷ text) tight refl)

tuple_good : (d : ℕ) (x : Expr) (xs : List Expr) → Says Expressions d glues x (item_text x) → AllSay Expressions d glues item_text xs → GoodAtom d (expr.Tuple (x ∷ xs)) (printed (expr.Tuple (x ∷ xs)))
tuple_good d x [] g h =
    let words : List Word = word.Symbol symbol.OpenRound ∷ g.words ++ word.Symbol symbol.Comma ∷ [] ++ word.Symbol symbol.CloseRound ∷ [] in
    let same : (item_text x ++ 44 ∷ []) ++ 41 ∷ [] ≡ item_text x ++ 44 ∷ 41 ∷ [] = append_assoc (item_text x) (44 ∷ []) (41 ∷ []) in
    tuple_by d (x ∷ []) (item_text x ++ 44 ∷ 41 ∷ []) refl
    (record { words = words; spelled = λ e le. Atom.tuple {u = g.words} {v = []} (g.spelled e le) Listed.none; flat = subst (λ l. Flat none (40 ∷ l) words) same (flat_round (flat_comma_behind g.flat refl) refl) })
tuple_good d x (y ∷ ys) g h =
    let words : List Word = word.Symbol symbol.OpenRound ∷ g.words ++ word.Symbol symbol.Comma ∷ h.words ++ word.Symbol symbol.CloseRound ∷ [] in
    tuple_by d (x ∷ y ∷ ys) (commas (map item_text (x ∷ y ∷ ys)) ++ 41 ∷ []) refl
    (record { words = words; spelled = λ e le. Atom.tuple {u = g.words} {v = h.words} (g.spelled e le) (h.spelled e le); flat = flat_round (flat_both g.flat h.flat (λ rest _. refl)) refl })

empty_good : (d : ℕ) → GoodAtom d (expr.Tuple []) (printed (expr.Tuple []))
empty_good d = tuple_by d [] (41 ∷ []) refl (record { words = word.Symbol symbol.OpenRound ∷ word.Symbol symbol.CloseRound ∷ []; spelled = λ e le. Atom.empty; flat = flat_round (flat_nothing {F = none}) refl })

-- ---- all atoms

pub atom_good : (d : ℕ) → Inner d → (u : List Word) (x : Expr) → AreSaid u → Atom (Expressions d) u x → GoodAtom d x (printed x)
atom_good d inner _ _ said (Atom.name {n}) =
    let own : Says (Rule 10) d (stops false) (expr.Name n) n = record { words = word.Name n ∷ []; spelled = λ e le. Atom.name; flat = flat_name n said.0 } in
    subst (GoodAtom d (expr.Name n)) (sym (name_is n)) (atom_alone d (expr.Name n) false n own (name_begins n said.0))
atom_good d inner _ _ said (Atom.int {n} h) = one_token d (value.Int (pos n)) (word.Int n) true (decimal n) refl (int_text (pos n)) (λ e. Atom.int h) (flat_int n (omega arith)) (int_begins n h)
atom_good d inner _ _ said (Atom.fix {z}) =
    let f : IsFixed z = said.0 in
    subst (λ w. GoodAtom d (expr.Lit (value.Fix w)) (printed (expr.Lit (value.Fix w)))) (sym f.is)
    (one_token d (value.Fix (pos f.raw)) (word.Fix (pos f.raw)) true (fixed_by f.raw) refl (fix_text (pos f.raw) ∙ from_zero f.raw) (λ e. Atom.fix) (flat_fix f.raw f.bound) (fix_begins f.raw f.bound))
atom_good d inner _ _ said (Atom.text {t}) = one_token d (value.Text t) (word.Text t) false (quoted t) refl (text_text t) (λ e. Atom.text) (flat_more (flat_quoted t said.0) (λ b _. refl)) refl
atom_good d inner _ _ said Atom.none = one_token d value.Nothing (word.Symbol symbol.None) false (codes "None") refl nothing_text (λ e. Atom.none) flat_none refl
atom_good d inner _ _ said Atom.holds = one_token d (value.Flag true) (word.Symbol symbol.True) false (codes "True") refl true_text (λ e. Atom.holds) flat_true refl
atom_good d inner _ _ said Atom.fails = one_token d (value.Flag false) (word.Symbol symbol.False) false (codes "False") refl false_text (λ e. Atom.fails) flat_false refl
atom_good d inner _ _ said (Atom.group {u} {x} h) = inner.group u x (said_split u (word.Symbol symbol.CloseRound ∷ []) said.1).0 h
atom_good d inner _ _ said Atom.empty = empty_good d
atom_good d inner _ _ said (Atom.tuple {u} {v} {x} {xs} h k) =
    let within = said_split (u ++ word.Symbol symbol.Comma ∷ v) (word.Symbol symbol.CloseRound ∷ []) said.1 in
    let parts = said_split u (word.Symbol symbol.Comma ∷ v) within.0 in
    tuple_good d x xs (inner.whole u x parts.0 h) (all_say Expressions d glues item_text (Expressions d) refl inner.whole v xs parts.1.1 k)
