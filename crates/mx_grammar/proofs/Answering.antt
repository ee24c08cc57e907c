-- There is one answer for each source, and the parsers give it.
use Rattle.std.proofs.Common.{◌≡◌, ◌≢◌, ℕ, suc, ◌+◌, ◌<◌, Bool, true, false, ◌||◌, List, [], ◌∷◌, ◌++◌, length, Result, Ok, Err, refl, sym, ap, subst, ◌∙◌, append_assoc, arith, inl, inr}
use Rattle.std.specs.Prelude.{IfErr}
use Rattle.std.proofs.lemmas.List.{append-nil, length-append, length-map}
use Rattle.std.proofs.lemmas.Bool.{cases_lt}
use Rattle.mx_lex.specs.declared.Token.{Token}
use Rattle.mx_lex.specs.declared.TokenKind.TheVariants.{End as EndKind}
use Rattle.mx_lex.specs.declared.LexRefusal.{LexRefusal}
use Rattle.mx_lex.specs.Heads.{empty_token}
use Rattle.mx_lex.specs.Lexing.{tokens_of}
use Rattle.mx_lex.proofs.Order.{tokens_end}
use Rattle.mx_grammar.specs.declared.word.Word.{Word}
use Rattle.mx_grammar.specs.declared.word.Symbol.TheVariants.{End}
use Rattle.mx_grammar.specs.declared.trouble.Trouble.{Trouble}
use Rattle.mx_grammar.specs.declared.trouble.Trouble.TheVariants as trouble
use Rattle.mx_grammar.specs.declared.refusal.ParseRefusal.{ParseRefusal}
use Rattle.mx_grammar.specs.declared.refusal.ParseRefusal.TheVariants.{Lex, TooNested, Unexpected, TooManyLoops, PrintsTooLong, NoMemory}
use Rattle.mx_grammar.specs.Words.{is, word_of}
use Rattle.mx_grammar.specs.Reading.{Words, Parser, parsed, Gives}
use Rattle.mx_grammar.specs.Spelling.{Language, Spells, Begins, UnexpectedIn, Shallow, DeepAt, words_of, SpellsIn, PlaceOf, NestedAt, UnexpectedAt, Unread, Refused, Answers, Unless, IsOpened, InText, Placed, unopened}
use Rattle.mx_grammar.proofs.Exact.{ends}
use Rattle.mx_grammar.proofs.Texts.{Exactly, one_tree, parsed_sound, parsed_unexpected}
use Rattle.mx_grammar.proofs.OpenCount.{not_both, one_depth}

-- ---- END is among the tokens of a source

ends_last : (source : List ℕ) (front : List Token) (place : ℕ) → ends (words_of source (front ++ empty_token EndKind place ∷ [])) ≡ true
ends_last source [] place = refl
ends_last source (t ∷ front) place = or_true (is End (word_of source t)) (ends (words_of source (front ++ empty_token EndKind place ∷ []))) (ends_last source front place)
  where
    or_true : (a b : Bool) → b ≡ true → (a || b) ≡ true
    or_true true b h = refl
    or_true false b h = h

pub words_end : (source : List ℕ) (tokens : List Token) → tokens_of source ≡ Ok tokens → ends (words_of source tokens) ≡ true
words_end source tokens e = let h = tokens_end source tokens e in ap (λ (ts : List Token). ends (words_of source ts)) h.parts ∙ ends_last source h.front (length source)

-- ---- a place in a list

record Further (f r g : Words) : Type 0 where
  token : Word
  others : Words
  between : Words
  rest : r ≡ token ∷ others
  front : g ≡ f ++ token ∷ between

further : (f r g s : Words) → f ++ r ≡ g ++ s → length f < length g → Further f r g
further f r [] s e lt = absurd (omega arith)
further [] r (t ∷ g) s e lt = record { token = t; others = g ++ s; between = g; rest = e; front = refl }
further (u ∷ f) r (t ∷ g) s e lt =
    let tails : f ++ r ≡ g ++ s = cc in
    let heads : u ≡ t = cc in
    let k = further f r g s tails (omega arith) in
    record { token = k.token; others = k.others; between = k.between; rest = k.rest; front = ap (λ (x : Words). t ∷ x) k.front ∙ ap (λ (x : Word). x ∷ (f ++ k.token ∷ k.between)) (sym heads) }

first_same : (t s : Word) (u v : Words) → t ∷ u ≡ s ∷ v → t ≡ s
first_same t s u v e = cc

module _ {A : Type 0} (L : Language A) where
  begins_less : (f w : Words) (t : Word) → Begins L (f ++ t ∷ w) → Begins L (f ++ t ∷ [])
  begins_less f w t b =
      let e : (f ++ t ∷ w) ++ b.tail ≡ (f ++ t ∷ []) ++ (w ++ b.tail) = append_assoc f (t ∷ w) b.tail ∙ sym (append_assoc f (t ∷ []) (w ++ b.tail)) in
      record { tail = w ++ b.tail; tree = b.tree; spells = subst (λ (x : Words). Spells L x b.tree) e b.spells }

  not_before : (ts : Words) (n m : ℕ) (a : UnexpectedIn L ts n) (b : UnexpectedIn L ts m) → length a.front < length b.front → ⊥
  not_before ts n m a b lt =
      let k = further a.front (a.token ∷ a.others) b.front (b.token ∷ b.others) (sym a.parts ∙ b.parts) lt in
      let same : a.token ≡ k.token = first_same a.token k.token a.others k.others k.rest in
      a.none (subst (λ (t : Word). Begins L (a.front ++ t ∷ [])) (sym same) (begins_less a.front k.between k.token (subst (Begins L) k.front b.begins)))

  pub one_place : (ts : Words) (n m : ℕ) → UnexpectedIn L ts n → UnexpectedIn L ts m → n ≡ m
  one_place ts n m a b =
      let p : length ts ≡ length a.front + n = ap length a.parts ∙ length-append a.front (a.token ∷ a.others) ∙ ap (λ (k : ℕ). length a.front + k) (sym a.place) in
      let q : length ts ≡ length b.front + m = ap length b.parts ∙ length-append b.front (b.token ∷ b.others) ∙ ap (λ (k : ℕ). length b.front + k) (sym b.place) in
      elim (cases_lt (length a.front) (length b.front)) [
        | inl lt ↦ absurd (not_before ts n m a b lt)
        | inr le ↦ elim (cases_lt (length b.front) (length a.front)) [
          | inl gt ↦ absurd (not_before ts m n b a gt)
          | inr ge ↦ omega arith
        ]
      ]

  pub not_spelled : (ts : Words) (n : ℕ) (x : A) → UnexpectedIn L ts n → Spells L ts x → ⊥
  not_spelled ts n x a s = a.none (begins_less a.front a.others a.token (record { tail = []; tree = x; spells = subst (λ (r : Words). Spells L r x) (a.parts ∙ sym (append-nil (a.front ++ a.token ∷ a.others))) s }))

-- ---- places of tokens

token_first : (t s : Token) (u v : List Token) → t ∷ u ≡ s ∷ v → t ≡ s
token_first t s u v e = cc

same_token : (f g : List Token) (t s : Token) (u v : List Token) → f ++ t ∷ u ≡ g ++ s ∷ v → length u ≡ length v → t ≡ s
same_token [] [] t s u v e h = token_first t s u v e
same_token [] (y ∷ g) t s u v e h = absurd (let l : suc (length u) ≡ suc (length (g ++ s ∷ v)) = ap length e in omega (arith, l, h, length-append g (s ∷ v)))
same_token (x ∷ f) [] t s u v e h = absurd (let l : suc (length (f ++ t ∷ u)) ≡ suc (length v) = ap length e in omega (arith, l, h, length-append f (t ∷ u)))
same_token (x ∷ f) (y ∷ g) t s u v e h = let tails : f ++ t ∷ u ≡ g ++ s ∷ v = cc in same_token f g t s u v tails h

pub place_same : (tokens : List Token) (n p q : ℕ) → PlaceOf tokens n p → PlaceOf tokens n q → p ≡ q
place_same tokens n p q a b =
    let l : suc (length a.others) ≡ suc (length b.others) = sym a.count ∙ b.count in
    let same : a.token ≡ b.token = same_token a.front b.front a.token b.token a.others b.others (sym a.parts ∙ b.parts) (omega (arith, l)) in
    a.is ∙ ap (λ (t : Token). t.at) same ∙ sym b.is

-- ---- one answer

pub tokens_same : (s t : List Token) (o : Result (List Token) LexRefusal) → o ≡ Ok s → o ≡ Ok t → s ≡ t
tokens_same s t (Ok u) p q = let a : u ≡ s = cc in let b : u ≡ t = cc in sym a ∙ b
tokens_same s t (Err e) p q = absurd cc

pub no_tokens : (s : List Token) (e : LexRefusal) (o : Result (List Token) LexRefusal) → o ≡ Ok s → o ≡ Err e → ⊥
no_tokens s e (Ok u) p q = absurd cc
no_tokens s e (Err f) p q = absurd cc

pub lex_same : (d e : LexRefusal) (o : Result (List Token) LexRefusal) → o ≡ Err d → o ≡ Err e → d ≡ e
lex_same d e (Ok u) p q = absurd cc
lex_same d e (Err f) p q = let a : f ≡ d = cc in let b : f ≡ e = cc in sym a ∙ b

module _ {A : Type 0} (L : Language A) (P : ℕ → Parser A) (x : Exactly L P) (source : List ℕ) where
  abbrev okay : A → Result A ParseRefusal
  okay y = Ok y

  abbrev refused : ParseRefusal → Result A ParseRefusal
  refused e = Err e

  not_nested : (tokens : List Token) → tokens_of source ≡ Ok tokens → Shallow 64 unopened (words_of source tokens) → (p : ℕ) → NestedAt source p → ⊥
  not_nested tokens lexed shallow p h =
      let same = tokens_same tokens h.tokens (tokens_of source) lexed h.lexed in
      not_both 64 unopened (words_of source h.tokens) h.left (subst (λ (ts : List Token). Shallow 64 unopened (words_of source ts)) same shallow) h.deep

  trees_same : (y z : A) → SpellsIn L source y → SpellsIn L source z → y ≡ z
  trees_same y z a b =
      let same = tokens_same b.tokens a.tokens (tokens_of source) b.lexed a.lexed in
      one_tree L P x (words_of source a.tokens) y z a.spells (subst (λ (ts : List Token). Spells L (words_of source ts) z) same b.spells)

  not_unexpected : (y : A) (p : ℕ) → SpellsIn L source y → UnexpectedAt L source p → ⊥
  not_unexpected y p a b =
      let same = tokens_same a.tokens b.tokens (tokens_of source) a.lexed b.lexed in
      not_spelled L (words_of source b.tokens) b.left y b.unexpected (subst (λ (ts : List Token). Spells L (words_of source ts) y) same a.spells)

  unexpected_same : (p q : ℕ) → UnexpectedAt L source p → UnexpectedAt L source q → p ≡ q
  unexpected_same p q a b =
      let same = tokens_same b.tokens a.tokens (tokens_of source) b.lexed a.lexed in
      let left = one_place L (words_of source a.tokens) a.left b.left a.unexpected (subst (λ (ts : List Token). UnexpectedIn L (words_of source ts) b.left) same b.unexpected) in
      let there : PlaceOf a.tokens a.left q = subst (λ (n : ℕ). PlaceOf a.tokens n q) (sym left) (subst (λ (ts : List Token). PlaceOf ts b.left q) same b.at) in
      place_same a.tokens a.left p q a.at there

  nested_same : (p q : ℕ) → NestedAt source p → NestedAt source q → p ≡ q
  nested_same p q a b =
      let same = tokens_same b.tokens a.tokens (tokens_of source) b.lexed a.lexed in
      let left = one_depth 64 unopened (words_of source a.tokens) a.left b.left a.deep (subst (λ (ts : List Token). DeepAt 64 unopened (words_of source ts) b.left) same b.deep) in
      let there : PlaceOf a.tokens a.left q = subst (λ (n : ℕ). PlaceOf a.tokens n q) (sym left) (subst (λ (ts : List Token). PlaceOf ts b.left q) same b.at) in
      place_same a.tokens a.left p q a.at there

  pub one_answer : (r s : Result A ParseRefusal) → Answers L source r → Answers L source s → r ≡ s
  one_answer (Ok y) (Ok z) a b = ap okay (trees_same y z a b)
  one_answer (Ok y) (Err (Lex e)) a b = absurd (no_tokens a.tokens e (tokens_of source) a.lexed b)
  one_answer (Ok y) (Err (TooNested q)) a b = absurd (not_nested a.tokens a.lexed a.shallow q b)
  one_answer (Ok y) (Err (Unexpected q)) a b = absurd (not_unexpected y q a b)
  one_answer (Err (Lex d)) (Ok z) a b = absurd (no_tokens b.tokens d (tokens_of source) b.lexed a)
  one_answer (Err (Lex d)) (Err (Lex e)) a b = ap (λ (f : LexRefusal). refused (Lex f)) (lex_same d e (tokens_of source) a b)
  one_answer (Err (Lex d)) (Err (TooNested q)) a b = absurd (no_tokens b.tokens d (tokens_of source) b.lexed a)
  one_answer (Err (Lex d)) (Err (Unexpected q)) a b = absurd (no_tokens b.tokens d (tokens_of source) b.lexed a)
  one_answer (Err (TooNested p)) (Ok z) a b = absurd (not_nested b.tokens b.lexed b.shallow p a)
  one_answer (Err (TooNested p)) (Err (Lex e)) a b = absurd (no_tokens a.tokens e (tokens_of source) a.lexed b)
  one_answer (Err (TooNested p)) (Err (TooNested q)) a b = ap (λ (n : ℕ). refused (TooNested n)) (nested_same p q a b)
  one_answer (Err (TooNested p)) (Err (Unexpected q)) a b = absurd (not_nested b.tokens b.lexed b.shallow p a)
  one_answer (Err (Unexpected p)) (Ok z) a b = absurd (not_unexpected z p b a)
  one_answer (Err (Unexpected p)) (Err (Lex e)) a b = absurd (no_tokens a.tokens e (tokens_of source) a.lexed b)
  one_answer (Err (Unexpected p)) (Err (TooNested q)) a b = absurd (not_nested a.tokens a.lexed a.shallow q b)
  one_answer (Err (Unexpected p)) (Err (Unexpected q)) a b = ap (λ (n : ℕ). refused (Unexpected n)) (unexpected_same p q a b)
  one_answer r (Err TooManyLoops) a b = absurd b
  one_answer r (Err PrintsTooLong) a b = absurd b
  one_answer r (Err NoMemory) a b = absurd b
  one_answer (Err _) s a b = absurd a

  -- what is an answer wherever there is memory is the only one
  pub only_answer : (r : Result A ParseRefusal) → (r ≢ Err NoMemory → Answers L source r) → (answer : Result A ParseRefusal) → Answers L source answer → Unless answer r
  only_answer (Ok y) found answer h = one_answer answer (Ok y) h (found (λ e. absurd cc))
  only_answer (Err e) found answer h = λ ne. one_answer answer (Err e) h (found (λ f. ne (let same : e ≡ NoMemory = cc in same)))

  -- ---- what is parsed

  pub in_text : (tokens : List Token) (words : Words) → IsOpened source tokens words → (r : Result A Trouble) → Gives (parsed P words) r → IfErr r (λ e. InText (length tokens) e)
  in_text tokens words o (Ok y) g = tt
  in_text tokens words o (Err trouble.NoMemory) g = tt
  in_text tokens words o (Err (trouble.Unexpected n)) g =
      let has : ends words ≡ true = ap ends o.are ∙ words_end source tokens o.lexed in
      let u = parsed_unexpected L P x words (trouble.Unexpected n) has (g (λ e. absurd cc)) in
      let same : n ≡ u.left = (let w = u.why in cc) in
      let long : length words ≡ length tokens = ap length o.are ∙ length-map tokens (word_of source) in
      let parts = ap length u.unexpected.parts ∙ length-append u.unexpected.front (u.unexpected.token ∷ u.unexpected.others) in
      (omega (arith, same, u.unexpected.place), omega (arith, same, u.unexpected.place, long, parts))

  pub read_answer : (tokens : List Token) (words : Words) → IsOpened source tokens words → (y : A) → parsed P words ≡ Ok y → SpellsIn L source y
  read_answer tokens words o y g = record {
    tokens = tokens;
    lexed = o.lexed;
    shallow = subst (Shallow 64 unopened) o.are o.shallow;
    spells = subst (λ (ts : Words). Spells L ts y) o.are (parsed_sound L P x words y g);
  }

  pub refused_answer : (tokens : List Token) (words : Words) → IsOpened source tokens words → (e : Trouble) (refusal : ParseRefusal) → Gives (parsed P words) (Err e) → Placed tokens e refusal → refusal ≢ NoMemory → Refused L source refusal
  refused_answer tokens words o trouble.NoMemory refusal g at memory = absurd (memory at)
  refused_answer tokens words o (trouble.Unexpected n) (Unexpected place) g at memory =
      let has : ends words ≡ true = ap ends o.are ∙ words_end source tokens o.lexed in
      let u = parsed_unexpected L P x words (trouble.Unexpected n) has (g (λ e. absurd cc)) in
      let same : n ≡ u.left = (let w = u.why in cc) in
      record {
        tokens = tokens;
        lexed = o.lexed;
        shallow = subst (Shallow 64 unopened) o.are o.shallow;
        left = u.left;
        unexpected = subst (λ (ts : Words). UnexpectedIn L ts u.left) o.are u.unexpected;
        at = subst (λ (k : ℕ). PlaceOf tokens k place) same at;
      }
  refused_answer tokens words o (trouble.Unexpected n) _ g at memory = absurd at

  pub unread_answer : (e : ParseRefusal) → Unread source e → Refused L source e
  unread_answer (Lex e) h = h
  unread_answer (TooNested p) h = h
  unread_answer _ h = absurd h

  -- ---- the exits of a public parser

  pub only_unread : (e : ParseRefusal) → (e ≢ NoMemory → Unread source e) → (answer : Result A ParseRefusal) → Answers L source answer → Unless answer (Err e)
  only_unread e h = only_answer (Err e) (λ ne. unread_answer e (h (λ same. ne (ap refused same))))

  pub found_read : (tokens : List Token) (words slice : Words) → IsOpened source tokens words → slice ≡ words → (y : A) → parsed P slice ≡ Ok y → SpellsIn L source y
  found_read tokens words slice o same y g = read_answer tokens words o y (ap (parsed P) (sym same) ∙ g)

  pub only_read : (tokens : List Token) (words slice : Words) → IsOpened source tokens words → slice ≡ words → (y : A) → parsed P slice ≡ Ok y → (answer : Result A ParseRefusal) → Answers L source answer → answer ≡ Ok y
  only_read tokens words slice o same y g answer h = one_answer answer (Ok y) h (found_read tokens words slice o same y g)

  pub text_of_slice : (tokens slice-tokens : List Token) (words slice : Words) → IsOpened source tokens words → slice ≡ words → slice-tokens ≡ tokens → (e : Trouble) → Gives (parsed P slice) (Err e) → InText (length slice-tokens) e
  text_of_slice tokens slice-tokens words slice o same tokens-same e g =
      subst (λ (ts : List Token). InText (length ts) e) (sym tokens-same) (in_text tokens words o (Err e) (subst (λ (ws : Words). Gives (parsed P ws) (Err e)) same g))

  pub found_refused : (tokens slice-tokens : List Token) (words slice : Words) → IsOpened source tokens words → slice ≡ words → slice-tokens ≡ tokens → (e : Trouble) → Gives (parsed P slice) (Err e) → (refusal : ParseRefusal) → Placed slice-tokens e refusal → refused refusal ≢ Err NoMemory → Refused L source refusal
  found_refused tokens slice-tokens words slice o same tokens-same e g refusal at memory =
      refused_answer tokens words o e refusal (subst (λ (ws : Words). Gives (parsed P ws) (Err e)) same g) (subst (λ (ts : List Token). Placed ts e refusal) tokens-same at) (λ h. memory (ap refused h))

  pub only_refused : (tokens slice-tokens : List Token) (words slice : Words) → IsOpened source tokens words → slice ≡ words → slice-tokens ≡ tokens → (e : Trouble) → Gives (parsed P slice) (Err e) → (refusal : ParseRefusal) → Placed slice-tokens e refusal → (answer : Result A ParseRefusal) → Answers L source answer → Unless answer (Err refusal)
  only_refused tokens slice-tokens words slice o same tokens-same e g refusal at = only_answer (Err refusal) (found_refused tokens slice-tokens words slice o same tokens-same e g refusal at)
