-- What the printed text of a part gives, and lists of parts.
use Rattle.std.proofs.Common.{◌≡◌, ℕ, List, [], ◌∷◌, ◌++◌, Bool, true, false, ◌==◌, ◌&&◌, not, map, refl, sym, subst, append-nil}
use Rattle.std.specs.Prelude.{codes}
use Rattle.std.specs.List.{concat}
use Rattle.mx_lex.specs.Bytes.{first_passes}
use Rattle.mx_grammar.specs.declared.word.Word.{Word}
use Rattle.mx_grammar.specs.declared.word.Word.TheVariants.{Symbol}
use Rattle.mx_grammar.specs.declared.word.Symbol.TheVariants.{Comma}
use Rattle.mx_grammar.specs.Grammar.{Spelling, Listed}
use Rattle.mx_round_trip.proofs.Counts.{IsClosed, IsNoDeeper, no_deeper_front, closed_append, no_deeper_both, same_depth}
use Rattle.mx_round_trip.proofs.Flat.{Flat, flat_both, flat_nothing, flat_comma}

-- a byte with which a token may begin
abbrev pub starts : ℕ → Bool
starts b = not (b == 32) && not (b == 10) && not (b == 35)

-- A text gives tokens that spell the same, and open no more brackets at once than those it was read from.
pub record Again {A : Type 0} (F : ℕ → Bool) (R : Spelling A) (u : List Word) (x : A) (text : List ℕ) : Type 0 where
  pub words : List Word
  pub spelled : R words x
  pub flat : Flat F text words
  pub starts : first_passes starts text ≡ true
  pub source_closed : IsClosed u
  pub closed : IsClosed words
  pub few : IsNoDeeper u words

-- the texts, with a comma before each
abbrev pub with_commas : List (List ℕ) → List ℕ
with_commas ts = concat (map (λ (t : List ℕ). codes ", " ++ t) ts)

-- the words of a list that stands behind another part, with a comma before it where it has an item
abbrev pub after_comma : {A : Type 0} → List A → List Word → List Word
after_comma [] ws = []
after_comma (x ∷ xs) ws = Symbol Comma ∷ ws

pub comma_closed : IsClosed (Symbol Comma ∷ [])
comma_closed = record { same = λ n. refl }

pub none_closed : IsClosed []
none_closed = record { same = λ n. refl }

module _ {A : Type 0} (F : ℕ → Bool) (R : Spelling A) (text : A → List ℕ) where
  -- the same of a list
  pub record AllAgain (u : List Word) (xs : List A) : Type 0 where
    pub words : List Word
    pub spelled : Listed R words xs
    pub flat : Flat F (with_commas (map text xs)) (after_comma xs words)
    pub source_closed : IsClosed u
    pub closed : IsClosed words
    pub few : IsNoDeeper u words

  pub again_none : AllAgain [] []
  again_none = record { words = []; spelled = Listed.none; flat = flat_nothing; source_closed = none_closed; closed = none_closed; few = same_depth [] }

  pub again_one : (u : List Word) (x : A) → Again F R u x (text x) → AllAgain u (x ∷ [])
  again_one u x h = record {
    words = h.words;
    spelled = Listed.one h.spelled;
    flat = subst (λ l. Flat F (codes ", " ++ l) (Symbol Comma ∷ h.words)) (sym (append-nil (text x))) (flat_comma h.flat);
    source_closed = h.source_closed;
    closed = h.closed;
    few = h.few;
  }

  flat_comma_more : (x : A) (xs : List A) (ws vs : List Word) → Flat F (text x ++ with_commas (map text xs)) (ws ++ vs) → Flat F (with_commas (map text (x ∷ xs))) (Symbol Comma ∷ ws ++ vs)
  flat_comma_more x xs ws vs g = flat_comma g

  -- an item before a list
  pub again_more : F 44 ≡ false → (u v : List Word) (x : A) (xs : List A) → Again F R u x (text x) → AllAgain v xs → AllAgain (u ++ Symbol Comma ∷ v) (x ∷ xs)
  again_more stops u v x [] g h = record {
    words = g.words;
    spelled = Listed.one g.spelled;
    flat = subst (λ l. Flat F (codes ", " ++ l) (Symbol Comma ∷ g.words)) (sym (append-nil (text x))) (flat_comma g.flat);
    source_closed = closed_append g.source_closed (closed_append comma_closed h.source_closed);
    closed = g.closed;
    few = no_deeper_front (Symbol Comma ∷ v) g.few;
  }
  again_more stops u v x (y ∷ ys) g h = record {
    words = g.words ++ Symbol Comma ∷ h.words;
    spelled = Listed.more g.spelled h.spelled;
    flat = flat_comma_more x (y ∷ ys) g.words (Symbol Comma ∷ h.words) (flat_both g.flat h.flat (λ rest _. stops));
    source_closed = closed_append g.source_closed (closed_append comma_closed h.source_closed);
    closed = closed_append g.closed (closed_append comma_closed h.closed);
    few = no_deeper_both g.source_closed g.closed g.few (no_deeper_both comma_closed comma_closed (same_depth (Symbol Comma ∷ [])) h.few);
  }
