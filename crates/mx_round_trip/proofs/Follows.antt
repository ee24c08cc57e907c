-- Lists whose items depend on those before them, read as they are printed.
use Rattle.std.proofs.Common.{◌≡◌, ℕ, ◌≤◌, List, [], ◌∷◌, ◌++◌, Bool, false, map, sym, subst, append-nil}
use Rattle.mx_print.specs.Texts.{commas}
use Rattle.mx_grammar.specs.declared.word.Word.{Word}
use Rattle.mx_grammar.specs.declared.word.Word.TheVariants.{Symbol}
use Rattle.mx_grammar.specs.declared.word.Symbol.TheVariants.{Comma}
use Rattle.mx_grammar.specs.Grammar.{Spelling}
use Rattle.mx_parse.specs.Following.{Following}
use Rattle.mx_round_trip.proofs.Flat.{Flat, flat_both, flat_nothing, flat_comma}
use Rattle.mx_round_trip.proofs.Printed.{with_commas, after_comma}
use Rattle.mx_round_trip.proofs.Sources.{AreSaid, said_split}
use Rattle.mx_round_trip.proofs.Says.{Says}

module _ {A : Type 0} (R : ℕ → List A → Spelling A) (d : ℕ) (F : ℕ → Bool) (text : A → List ℕ) where
  -- a list behind these items, with a comma before each item
  record AllFollow (before xs : List A) : Type 0 where
    words : List Word
    spelled : (e : ℕ) → d ≤ e → Following (R e) before words xs
    flat : Flat F (with_commas (map text xs)) (after_comma xs words)

  -- a list from its first item on
  record SomeFollow (before : List A) (x : A) (xs : List A) : Type 0 where
    words : List Word
    spelled : (e : ℕ) → d ≤ e → Following (R e) before words (x ∷ xs)
    flat : Flat F (commas (map text (x ∷ xs))) words

  all_none : (before : List A) → AllFollow before []
  all_none before = record { words = []; spelled = λ e le. Following.none; flat = flat_nothing }

  some_follow : F 44 ≡ false → (before : List A) (x : A) (xs : List A) → Says (λ e. R e before) d F x (text x) → AllFollow (before ++ x ∷ []) xs → SomeFollow before x xs
  some_follow stops before x [] g h = record { words = g.words; spelled = λ e le. Following.one (g.spelled e le); flat = subst (λ l. Flat F l g.words) (sym (append-nil (text x))) g.flat }
  some_follow stops before x (y ∷ ys) g h = record {
    words = g.words ++ Symbol Comma ∷ h.words;
    spelled = λ e le. Following.more (g.spelled e le) (h.spelled e le);
    flat = flat_both g.flat h.flat (λ rest _. stops);
  }

  some_all : (before : List A) (x : A) (xs : List A) → SomeFollow before x xs → AllFollow before (x ∷ xs)
  some_all before x xs h = record { words = h.words; spelled = h.spelled; flat = flat_comma h.flat }

  module _ (stops : F 44 ≡ false) (item : (before : List A) (u : List Word) (x : A) → AreSaid u → R d before u x → Says (λ e. R e before) d F x (text x)) where
    all_follow : (before : List A) (u : List Word) (xs : List A) → AreSaid u → Following (R d) before u xs → AllFollow before xs
    all_follow before _ _ said Following.none = all_none before
    all_follow before _ _ said (Following.one {u} {x} h) = some_all before x [] (some_follow stops before x [] (item before u x said h) (all_none (before ++ x ∷ [])))
    all_follow before _ _ said (Following.more {u} {v} {x} {xs} h k) =
        let parts = said_split u (Symbol Comma ∷ v) said in
        some_all before x xs (some_follow stops before x xs (item before u x parts.0 h) (all_follow (before ++ x ∷ []) v xs parts.1.1 k))

    -- the whole list, as it stands in brackets
    pub list_follows : (u : List Word) (xs : List A) → AreSaid u → Following (R d) [] u xs → Says (λ e. Following (R e) []) d F xs (commas (map text xs))
    list_follows _ _ said Following.none = record { words = []; spelled = λ e le. Following.none; flat = flat_nothing }
    list_follows _ _ said (Following.one {u} {x} h) =
        let s = some_follow stops [] x [] (item [] u x said h) (all_none ([] ++ x ∷ [])) in
        record { words = s.words; spelled = s.spelled; flat = s.flat }
    list_follows _ _ said (Following.more {u} {v} {x} {xs} h k) =
        let parts = said_split u (Symbol Comma ∷ v) said in
        let s = some_follow stops [] x xs (item [] u x parts.0 h) (all_follow ([] ++ x ∷ []) v xs parts.1.1 k) in
        record { words = s.words; spelled = s.spelled; flat = s.flat }
