-- What a printed text says, in every number of levels from some on; lists, and parts one behind the other.
use Rattle.std.proofs.Common.{◌≡◌, ℕ, ◌≤◌, List, [], ◌∷◌, ◌++◌, Bool, false, map, sym, ap, ◌∙◌, subst, append_assoc, append-nil}
use Rattle.mx_lex.specs.Bytes.{first_passes}
use Rattle.mx_print.specs.Texts.{commas}
use Rattle.mx_syntax.specs.Lists as lists
use Rattle.mx_grammar.specs.declared.word.Word.{Word}
use Rattle.mx_grammar.specs.declared.word.Word.TheVariants.{Symbol}
use Rattle.mx_grammar.specs.declared.word.Symbol.TheVariants.{Comma}
use Rattle.mx_grammar.specs.Grammar.{Spelling, Listed, Parts}
use Rattle.mx_round_trip.proofs.Flat.{Flat, flat_both, flat_nothing, flat_comma}
use Rattle.mx_round_trip.proofs.Printed.{with_commas, after_comma}
use Rattle.mx_round_trip.proofs.Sources.{AreSaid, said_split}

-- The text gives tokens that spell x in so many levels and in more.
pub record Says {A : Type 0} (R : ℕ → Spelling A) (d : ℕ) (F : ℕ → Bool) (x : A) (text : List ℕ) : Type 0 where
  pub words : List Word
  pub spelled : (e : ℕ) → d ≤ e → R e words x
  pub flat : Flat F text words

module _ {A : Type 0} (R : ℕ → Spelling A) (d : ℕ) (F : ℕ → Bool) (text : A → List ℕ) where
  -- a list, with a comma before each item
  pub record AllSay (xs : List A) : Type 0 where
    pub words : List Word
    pub spelled : (e : ℕ) → d ≤ e → Listed (R e) words xs
    pub flat : Flat F (with_commas (map text xs)) (after_comma xs words)

  -- a list with at least one item
  pub record SomeSay (x : A) (xs : List A) : Type 0 where
    pub words : List Word
    pub spelled : (e : ℕ) → d ≤ e → Listed (R e) words (x ∷ xs)
    pub flat : Flat F (commas (map text (x ∷ xs))) words

  all_none : AllSay []
  all_none = record { words = []; spelled = λ e le. Listed.none; flat = flat_nothing }

  pub some_say : F 44 ≡ false → (x : A) (xs : List A) → Says R d F x (text x) → AllSay xs → SomeSay x xs
  some_say stops x [] g h = record { words = g.words; spelled = λ e le. Listed.one (g.spelled e le); flat = subst (λ l. Flat F l g.words) (sym (append-nil (text x))) g.flat }
  some_say stops x (y ∷ ys) g h = record {
    words = g.words ++ Symbol Comma ∷ h.words;
    spelled = λ e le. Listed.more (g.spelled e le) (h.spelled e le);
    flat = flat_both g.flat h.flat (λ rest _. stops);
  }

  some_all : (x : A) (xs : List A) → SomeSay x xs → AllSay (x ∷ xs)
  some_all x xs h = record { words = h.words; spelled = h.spelled; flat = flat_comma h.flat }

  module _ (S : Spelling A) (stops : F 44 ≡ false) (item : (u : List Word) (x : A) → AreSaid u → S u x → Says R d F x (text x)) where
    pub all_say : (u : List Word) (xs : List A) → AreSaid u → Listed S u xs → AllSay xs
    all_say _ _ said Listed.none = all_none
    all_say _ _ said (Listed.one {u} {x} h) = some_all x [] (some_say stops x [] (item u x said h) all_none)
    all_say _ _ said (Listed.more {u} {v} {x} {xs} h k) =
        let parts = said_split u (Symbol Comma ∷ v) said in
        some_all x xs (some_say stops x xs (item u x parts.0 h) (all_say v xs parts.1.1 k))

    pub some_of : (u : List Word) (x : A) (xs : List A) → AreSaid u → Listed S u (x ∷ xs) → SomeSay x xs
    some_of _ _ _ said (Listed.one {u} {x} h) = some_say stops x [] (item u x said h) all_none
    some_of _ _ _ said (Listed.more {u} {v} {x} {xs} h k) =
        let parts = said_split u (Symbol Comma ∷ v) said in
        some_say stops x xs (item u x parts.0 h) (all_say v xs parts.1.1 k)

  -- a part that may stand directly behind another
  pub record TailSays (x : A) : Type 0 where
    pub says : Says R d F x (text x)
    pub leads : (rest : List ℕ) → first_passes F (text x ++ rest) ≡ false

  pub record PartsSay (xs : List A) : Type 0 where
    pub words : List Word
    pub spelled : (e : ℕ) → d ≤ e → Parts (R e) words xs
    pub flat : Flat F (lists.flat (map text xs)) words
    pub leads : (rest : List ℕ) → first_passes F rest ≡ false → first_passes F (lists.flat (map text xs) ++ rest) ≡ false

  parts_none : PartsSay []
  parts_none = record { words = []; spelled = λ e le. Parts.none; flat = flat_nothing; leads = λ rest h. h }

  parts_more : (x : A) (xs : List A) → TailSays x → PartsSay xs → PartsSay (x ∷ xs)
  parts_more x xs g h =
      let says = g.says in
      record {
        words = says.words ++ h.words;
        spelled = λ e le. Parts.more (says.spelled e le) (h.spelled e le);
        flat = flat_both says.flat h.flat h.leads;
        leads = λ rest _. ap (first_passes F) (append_assoc (text x) (lists.flat (map text xs)) rest) ∙ g.leads (lists.flat (map text xs) ++ rest);
      }

  pub parts_say : (S : Spelling A) → ((u : List Word) (x : A) → AreSaid u → S u x → TailSays x) → (u : List Word) (xs : List A) → AreSaid u → Parts S u xs → PartsSay xs
  parts_say S item _ _ said Parts.none = parts_none
  parts_say S item _ _ said (Parts.more {u} {v} {x} {xs} h k) =
      let parts = said_split u v said in
      parts_more x xs (item u x parts.0 h) (parts_say S item v xs parts.1 k)
