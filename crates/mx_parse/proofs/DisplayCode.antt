-- The steps of the code of displays.
use Rattle.std.proofs.Common.{◌≡◌, ℕ, Bool, true, false, List, [], Option, Ok, Err, length, refl, sym, ap, ◌∙◌}
use Rattle.mx_syntax.specs.declared.expr.Expr.{Expr}
use Rattle.mx_syntax.specs.declared.stmt.ItemEntry.{ItemEntry}
use Rattle.mx_syntax.specs.declared.stmt.ItemEntry.TheVariants as entry
use Rattle.mx_grammar.specs.declared.word.Symbol.TheVariants as symbol
use Rattle.mx_grammar.specs.declared.word.Word.{Word}
use Rattle.mx_grammar.specs.declared.word.Word.TheVariants.{Text}
use Rattle.mx_grammar.specs.declared.trouble.Trouble.TheVariants.{Unexpected}
use Rattle.mx_grammar.specs.Reading.{Words, Outcome, Parser, accept, taken, text_of}
use Rattle.mx_grammar.proofs.Loops.{Shrinks}
use Rattle.mx_grammar.proofs.Meets.{accept_shorter}
use Rattle.mx_grammar.proofs.LoopCode.{Within}
use Rattle.mx_parse.specs.Following.{unless}
use Rattle.mx_parse.specs.DisplayParsers.{is_wrong_key, new_key, pair, reference, ref_turn, new_entry, refs_entry, base_entry, entry_rest, item_entry, entry_turn, display}
use Rattle.mx_parse.proofs.StatementLengths.{shorter_within, pure_within, then_within, behind_within}
use Rattle.mx_parse.proofs.FollowingCode.{turn_shrinks, following_within, refined, accept_ok}

abbrev key_of : List (List ℕ × Expr) → List ℕ → Option (List ℕ)
key_of before t = unless (is_wrong_key before t) t

key_by : (before : List (List ℕ × Expr)) (t : Word) → new_key before t ≡ refined (text_of t) (key_of before)
key_by before (Text n) = refl
key_by before _ = refl

refusal : ℕ → Outcome (List ℕ)
refusal n = Err (Unexpected n)

pub key_ok : (before : List (List ℕ × Expr)) (ts rest : Words) (n : List ℕ) → accept text_of ts ≡ Ok (n, rest) → accept (new_key before) ts ≡ taken rest (length ts) (unless (is_wrong_key before n) n)
key_ok before = accept_ok text_of (new_key before) (key_of before) (key_by before)

pub key_refused : (before : List (List ℕ × Expr)) (ts rest : Words) (n : List ℕ) (k : ℕ) → accept text_of ts ≡ Ok (n, rest) → is_wrong_key before n ≡ true → k ≡ length ts → accept (new_key before) ts ≡ Err (Unexpected k)
unfolding refusal
key_refused before ts rest n k read wrong at = key_ok before ts rest n read ∙ ap (λ (b : Bool). taken rest (length ts) (unless b n)) wrong ∙ ap (λ (m : ℕ). refusal m) (sym at)

pub key_taken : (before : List (List ℕ × Expr)) (ts rest : Words) (n : List ℕ) → accept text_of ts ≡ Ok (n, rest) → is_wrong_key before n ≡ false → accept (new_key before) ts ≡ Ok (n, rest)
key_taken before ts rest n read fine = key_ok before ts rest n read ∙ ap (λ (b : Bool). taken rest (length ts) (unless b n)) fine

module _ (expression : Parser Expr) (w : Within expression) where
  ref_within : (before : List (List ℕ × Expr)) → Within (reference expression before)
  unfolding reference
  ref_within before = then_within _ _ (shorter_within _ (accept_shorter (new_key before))) (λ n. behind_within symbol.Colon _ (then_within _ _ w (λ x. pure_within (pair n x))))

  pub ref_shrinks : Shrinks (ref_turn expression)
  ref_shrinks = turn_shrinks symbol.CloseCurly (reference expression) ref_within

  rest_within : (has : Bool) → Within (entry_rest expression has)
  unfolding refs_entry base_entry
  rest_within true = behind_within symbol.OpenCurly _ (then_within _ _ (following_within symbol.CloseCurly (reference expression) ref_within []) (λ rs. pure_within (entry.Refs rs)))
  rest_within false = then_within _ _ w (λ x. pure_within (entry.Base x))

  entry_within : (before : List ItemEntry) → Within (item_entry expression before)
  unfolding item_entry
  entry_within before = then_within _ _ (shorter_within _ (accept_shorter (new_entry before))) (λ has. behind_within symbol.Colon _ (rest_within has))

  pub entry_shrinks : Shrinks (entry_turn expression)
  entry_shrinks = turn_shrinks symbol.CloseCurly (item_entry expression) entry_within

  pub display_within : Within (display expression)
  unfolding display
  display_within = behind_within symbol.OpenCurly _ (following_within symbol.CloseCurly (item_entry expression) entry_within [])
