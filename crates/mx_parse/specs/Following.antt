-- Lists where what may stand as an item depends on the items before it.
use Rattle.std.specs.Prelude.{◌≡◌, ◌≢◌, ℕ, Bool, true, false, List, [], ◌∷◌, ◌++◌, Option, Some, None, Result, Ok, Err, if◌then◌else◌}
use Rattle.mx_grammar.specs.declared.word.Word.{Word}
use Rattle.mx_grammar.specs.declared.word.Word.TheVariants as word
use Rattle.mx_grammar.specs.declared.word.Symbol.{Symbol}
use Rattle.mx_grammar.specs.declared.word.Symbol.TheVariants.{Comma}
use Rattle.mx_grammar.specs.declared.trouble.Trouble.{Trouble}
use Rattle.mx_grammar.specs.declared.trouble.Trouble.TheVariants.{NoMemory}
use Rattle.mx_grammar.specs.Words.{is}
use Rattle.mx_grammar.specs.Grammar.{Spelling}
use Rattle.mx_grammar.specs.Reading.{Words, Outcome, Parser, ◌>>=◌, ◌>>◌, pure, expect, choose, Turn, On, Done, item_turn, turning}

-- Any number of items behind those before them, with commas between, and maybe one behind the last.
pub data Following {A : Type 0} (R : List A → Spelling A) : List A → List Word → List A → Type 0 where
  none : {before : List A} → Following R before [] []
  one : {before : List A} {u : List Word} {x : A} → R before u x → Following R before u (x ∷ [])
  more : {before : List A} {u v : List Word} {x : A} {xs : List A} → R before u x → Following R (before ++ x ∷ []) v xs → Following R before (u ++ word.Symbol Comma ∷ v) (x ∷ xs)

-- none of the names is this one
abbrev pub IsNew : List ℕ → List (List ℕ) → Type 0
IsNew n [] = Unit {0}
IsNew n (m ∷ names) = (m ≢ n) × IsNew n names

-- ---- what the code computes

abbrev pub following_turn : {A : Type 0} → Symbol → (List A → Parser A) → List A → Parser (Turn (List A) (List A))
following_turn closes item found = item_turn closes (item found) found

-- what is left of the items up to a symbol that closes, behind those found before
abbrev pub following : {A : Type 0} → Symbol → (List A → Parser A) → List A → Parser (List A)
following closes item = turning (following_turn closes item)

-- at least one item
abbrev pub some_following : {A : Type 0} → Symbol → (List A → Parser A) → Parser (List A)
some_following closes item = item [] >>= λ a. choose (is Comma) (expect Comma >> following closes item (a ∷ [])) (expect closes >> pure (a ∷ []))

abbrev pub unless : {A : Type 0} → Bool → A → Option A
unless refused a = if refused then None else Some a

-- what a call that takes a turn ensures, where it answers whether another one follows
abbrev pub Goes : {A : Type 0} → Outcome (Turn (List A) (List A)) → Result Bool Trouble → List A → Words → Type 0
Goes outcome (Ok true) found new = outcome ≡ Ok (On found, new)
Goes outcome (Ok false) found new = outcome ≡ Ok (Done found, new)
Goes outcome (Err e) found new = e ≢ NoMemory → outcome ≡ Err e
