-- The longest name at the front, and the marks of literals.
use Rattle.std.proofs.Common.{◌≡◌, ℕ, ◌+◌, ◌-◌, List, [], ◌∷◌, ◌++◌, Bool, true, false, ◌==◌, cond, length, refl, arith}
use Rattle.std.specs.Prelude.{codes}
use Rattle.std.specs.List.{prefix_len, list_all}
use Rattle.std.proofs.Math.Seq.{take-append_seam}
use Rattle.std.proofs.lemmas.Bool.{and_parts}
use Rattle.mx_lex.specs.Bytes.{begins_name, continues_name, first_passes}
use Rattle.mx_lex.specs.Spans.{found, is_keyword, name_at, mark_at, span_at}
use Rattle.mx_lex.specs.declared.TokenKind.TheVariants.{Name, Keyword, Mark}
use Rattle.mx_grammar.specs.declared.word.Word.TheVariants.{Symbol}
use Rattle.mx_grammar.specs.declared.word.Symbol.TheVariants as symbol
use Rattle.mx_round_trip.proofs.Goes.{Reads}
use Rattle.mx_round_trip.proofs.Pieces.{inside, reads_token}

-- the front that passes is a text that passes, where the rest begins with no byte that does
pub prefix_of_all : (p : ℕ → Bool) (xs ys : List ℕ) → list_all p xs ≡ true → first_passes p ys ≡ false → prefix_len p (xs ++ ys) ≡ length xs
prefix_of_all p [] [] h stops = refl
prefix_of_all p [] (y ∷ ys) h stops = rw stops refl
prefix_of_all p (x ∷ xs) ys h stops =
    let parts = and_parts (p x) (list_all p xs) h in
    let rest : prefix_len p (xs ++ ys) ≡ length xs = prefix_of_all p xs ys parts.1 stops in
    rw (parts.0, rest) (omega arith)

name_at_all : (u rest : List ℕ) → list_all continues_name u ≡ true → first_passes continues_name rest ≡ false → name_at (u ++ rest) ≡ found (cond (is_keyword u) Keyword Name) (length u)
unfolding name_at
name_at_all u rest all stops =
    let len : prefix_len continues_name (u ++ rest) ≡ length u = prefix_of_all continues_name u rest all stops in
    rw (len, take-append_seam u rest) refl

pub name_span : (at b : ℕ) (bs rest : List ℕ) → begins_name b ≡ true → list_all continues_name (b ∷ bs) ≡ true → first_passes continues_name rest ≡ false
    → span_at at ((b ∷ bs) ++ rest) ≡ found (cond (is_keyword (b ∷ bs)) Keyword Name) (length (b ∷ bs))
unfolding span_at
name_span at b bs rest begins all stops = rw begins (name_at_all (b ∷ bs) rest all stops)

-- `(`, `)` and `,`, whatever stands behind
open_span : (at : ℕ) (rest : List ℕ) → span_at at (40 ∷ rest) ≡ found Mark 1
unfolding span_at mark_at
open_span at rest = refl

close_span : (at : ℕ) (rest : List ℕ) → span_at at (41 ∷ rest) ≡ found Mark 1
unfolding span_at mark_at
close_span at rest = refl

comma_span : (at : ℕ) (rest : List ℕ) → span_at at (44 ∷ rest) ≡ found Mark 1
unfolding span_at mark_at
comma_span at rest = refl

-- `-` and `=` are one mark
abbrev pub is_equals : ℕ → Bool
is_equals b = 61 == b

minus_span : (at : ℕ) (rest : List ℕ) → first_passes is_equals rest ≡ false → span_at at (45 ∷ rest) ≡ found Mark 1
unfolding span_at mark_at
minus_span at [] h = refl
minus_span at (b ∷ bs) h = rw h refl

pub reads_open : (F : ℕ → Bool) (number brackets : ℕ) (stack : List ℕ) → Reads F (inside number brackets stack) (40 ∷ []) (Symbol symbol.OpenRound ∷ []) (inside number (brackets + 1) stack)
reads_open F number brackets stack = reads_token F Mark 40 [] number brackets stack (record { space = refl; line_end = refl; comment = refl }) (λ at rest _. open_span at rest)

pub reads_close : (F : ℕ → Bool) (number brackets : ℕ) (stack : List ℕ) → Reads F (inside number (brackets + 1) stack) (41 ∷ []) (Symbol symbol.CloseRound ∷ []) (inside number brackets stack)
reads_close F number brackets stack =
    let count : brackets + 1 - 1 ≡ brackets = omega arith in
    rw count at (reads_token F Mark 41 [] number (brackets + 1) stack (record { space = refl; line_end = refl; comment = refl }) (λ at rest _. close_span at rest))

pub reads_comma : (F : ℕ → Bool) (number brackets : ℕ) (stack : List ℕ) → Reads F (inside number brackets stack) (44 ∷ []) (Symbol symbol.Comma ∷ []) (inside number brackets stack)
reads_comma F number brackets stack = reads_token F Mark 44 [] number brackets stack (record { space = refl; line_end = refl; comment = refl }) (λ at rest _. comma_span at rest)

pub reads_minus : (number brackets : ℕ) (stack : List ℕ) → Reads is_equals (inside number brackets stack) (45 ∷ []) (Symbol symbol.Minus ∷ []) (inside number brackets stack)
reads_minus number brackets stack = reads_token is_equals Mark 45 [] number brackets stack (record { space = refl; line_end = refl; comment = refl }) (λ at rest stops. minus_span at rest stops)

-- the keywords that are literals
pub reads_none : (number brackets : ℕ) (stack : List ℕ) → Reads continues_name (inside number brackets stack) (codes "None") (Symbol symbol.None ∷ []) (inside number brackets stack)
unfolding is_keyword
reads_none number brackets stack =
    reads_token continues_name Keyword 78 (codes "one") number brackets stack (record { space = refl; line_end = refl; comment = refl }) (λ at rest stops. name_span at 78 (codes "one") rest refl refl stops)

pub reads_true : (number brackets : ℕ) (stack : List ℕ) → Reads continues_name (inside number brackets stack) (codes "True") (Symbol symbol.True ∷ []) (inside number brackets stack)
unfolding is_keyword
reads_true number brackets stack =
    reads_token continues_name Keyword 84 (codes "rue") number brackets stack (record { space = refl; line_end = refl; comment = refl }) (λ at rest stops. name_span at 84 (codes "rue") rest refl refl stops)

pub reads_false : (number brackets : ℕ) (stack : List ℕ) → Reads continues_name (inside number brackets stack) (codes "False") (Symbol symbol.False ∷ []) (inside number brackets stack)
unfolding is_keyword
reads_false number brackets stack =
    reads_token continues_name Keyword 70 (codes "alse") number brackets stack (record { space = refl; line_end = refl; comment = refl }) (λ at rest stops. name_span at 70 (codes "alse") rest refl refl stops)
