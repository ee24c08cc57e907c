-- How many brackets are open, in lists of tokens one behind the other.
use Rattle.std.proofs.Common.{◌≡◌, ℕ, ◌+◌, ◌-◌, List, [], ◌∷◌, ◌++◌, refl, sym, ap, ◌∙◌, subst, arith}
use Rattle.mx_grammar.specs.declared.nesting.Open.{Open}
use Rattle.mx_grammar.specs.declared.word.Word.{Word}
use Rattle.mx_grammar.specs.declared.word.Word.TheVariants.{Symbol}
use Rattle.mx_grammar.specs.declared.word.Symbol.TheVariants as symbol
use Rattle.mx_grammar.specs.Spelling.{Shallow, behind_word, bracketed, unbracketed}

-- how many are open behind all of them
abbrev pub behind_all : List Word → Open → Open
behind_all [] n = n
behind_all (w ∷ ws) n = behind_all ws (behind_word w n)

-- each bracket that they open they close
pub record IsClosed (ws : List Word) : Type 0 where
  pub same : (n : Open) → behind_all ws n ≡ n

-- these open no more at once than those
pub record IsNoDeeper (us ws : List Word) : Type 0 where
  pub shallow : (d : ℕ) (n : Open) → Shallow d n us → Shallow d n ws

pub behind_append : (us ws : List Word) (n : Open) → behind_all (us ++ ws) n ≡ behind_all ws (behind_all us n)
behind_append [] ws n = refl
behind_append (u ∷ us) ws n = behind_append us ws (behind_word u n)

pub shallow_split : (d : ℕ) (n : Open) (us ws : List Word) → Shallow d n (us ++ ws) → Shallow d n us × Shallow d (behind_all us n) ws
shallow_split d n [] ws h = (tt, h)
shallow_split d n (u ∷ us) ws h = let more = shallow_split d (behind_word u n) us ws h.1 in ((h.0, more.0), more.1)

pub shallow_join : (d : ℕ) (n : Open) (us ws : List Word) → Shallow d n us → Shallow d (behind_all us n) ws → Shallow d n (us ++ ws)
shallow_join d n [] ws g h = h
shallow_join d n (u ∷ us) ws g h = (g.0, shallow_join d (behind_word u n) us ws g.1 h)

pub closed_append : {us ws : List Word} → IsClosed us → IsClosed ws → IsClosed (us ++ ws)
closed_append {us} {ws} g h = record { same = λ n. behind_append us ws n ∙ ap (behind_all ws) (g.same n) ∙ h.same n }

-- the texts behind a closed one, without what it opened
pub behind_closed : (d : ℕ) (n : Open) (us ws : List Word) → IsClosed us → Shallow d n (us ++ ws) → Shallow d n us × Shallow d n ws
behind_closed d n us ws h s = let p = shallow_split d n us ws s in (p.0, subst (λ m. Shallow d m ws) (h.same n) p.1)

pub after_closed : (d : ℕ) (n : Open) (us ws : List Word) → IsClosed us → Shallow d n us → Shallow d n ws → Shallow d n (us ++ ws)
after_closed d n us ws h g s = shallow_join d n us ws g (subst (λ m. Shallow d m ws) (sym (h.same n)) s)

pub no_deeper_both : {us ws ps qs : List Word} → IsClosed us → IsClosed ps → IsNoDeeper us ps → IsNoDeeper ws qs → IsNoDeeper (us ++ ws) (ps ++ qs)
no_deeper_both {us} {ws} {ps} {qs} cu cp g h =
    record { shallow = λ d n s. let p = behind_closed d n us ws cu s in after_closed d n ps qs cp (g.shallow d n p.0) (h.shallow d n p.1) }

pub same_depth : (ws : List Word) → IsNoDeeper ws ws
same_depth ws = record { shallow = λ d n s. s }

-- a bracket that is closed again
pub closes : (n : Open) → unbracketed (bracketed n) ≡ n
closes n = let e : (n.brackets + 1) - 1 ≡ n.brackets = omega arith in ap (λ b. record n { brackets = b }) e

pub closed_round : (us : List Word) → IsClosed us → IsClosed (Symbol symbol.OpenRound ∷ us ++ Symbol symbol.CloseRound ∷ [])
closed_round us h = record { same = λ n. behind_append us (Symbol symbol.CloseRound ∷ []) (bracketed n) ∙ ap unbracketed (h.same (bracketed n)) ∙ closes n }

pub no_deeper_round : (us ws : List Word) → IsClosed us → IsClosed ws → IsNoDeeper us ws → IsNoDeeper (Symbol symbol.OpenRound ∷ us ++ Symbol symbol.CloseRound ∷ []) (Symbol symbol.OpenRound ∷ ws ++ Symbol symbol.CloseRound ∷ [])
no_deeper_round us ws cu cw h = let inner = no_deeper_both cu cw h (same_depth (Symbol symbol.CloseRound ∷ [])) in record { shallow = λ d n s. (s.0, inner.shallow d (bracketed n) s.1) }

-- what stands behind may be left out
pub no_deeper_front : {us ws : List Word} (vs : List Word) → IsNoDeeper us ws → IsNoDeeper (us ++ vs) ws
no_deeper_front {us} vs h = record { shallow = λ d n s. h.shallow d n (shallow_split d n us vs s).0 }
