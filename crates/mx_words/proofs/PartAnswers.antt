-- What the code's answers say of a part in a small language.
use Rattle.std.proofs.Common.{◌≡◌, ◌≢◌, ℕ, Bool, true, List, ◌∷◌, length, Result, Ok, Err, sym, ap, subst, ◌∙◌, arith}
use Rattle.std.proofs.lemmas.List.{length-append, length-map}
use Rattle.mx_lex.specs.declared.Token.{Token}
use Rattle.mx_lex.specs.declared.LexRefusal.{LexRefusal}
use Rattle.mx_lex.specs.Lexing.{tokens_of}
use Rattle.mx_grammar.specs.declared.refusal.ParseRefusal.{ParseRefusal}
use Rattle.mx_grammar.specs.declared.refusal.ParseRefusal.TheVariants as parse
use Rattle.mx_grammar.specs.declared.trouble.Trouble.{Trouble}
use Rattle.mx_grammar.specs.declared.trouble.Trouble.TheVariants as trouble
use Rattle.mx_grammar.specs.Words.{word_of}
use Rattle.mx_grammar.specs.Reading.{Words, Parser, parsed, Gives}
use Rattle.mx_grammar.specs.Spelling.{Language, PlaceOf, NestedAt, Unread, IsOpened, InText}
use Rattle.mx_grammar.proofs.Exact.{ends}
use Rattle.mx_grammar.proofs.Texts.{Exactly, parsed_sound, parsed_unexpected}
use Rattle.mx_grammar.proofs.Answering.{words_end}
use Rattle.mx_words.specs.declared.command.FormRefusal.{FormRefusal}
use Rattle.mx_words.specs.Parts.{IsRead, Says, PartRefused, Misplaced}

abbrev pub failed : {A : Type 0} → FormRefusal → Result A FormRefusal
failed e = Err e

module _ {A : Type 0} (L : Language A) (P : ℕ → Parser A) (x : Exactly L P) (bounded : Bool) (part : List ℕ) (tokens : List Token) (words slice : Words) (read : IsRead bounded part tokens words) (same : slice ≡ words) where
  pub said : (y : A) → parsed P slice ≡ Ok y → Says L bounded part y
  said y g = record { tokens = tokens; words = words; read = read; spells = parsed_sound L P x words y (ap (parsed P) (sym same) ∙ g) }

  same_trouble : (e : Trouble) → Gives (parsed P slice) (Err e) → Gives (parsed P words) (Err e)
  same_trouble e g = subst (λ (ws : Words). Gives (parsed P ws) (Err e)) same g

  has_end : ends words ≡ true
  has_end = ap ends read.are ∙ words_end part tokens read.lexed

  pub inside : (slice-tokens : List Token) → slice-tokens ≡ tokens → (e : Trouble) → Gives (parsed P slice) (Err e) → InText (length slice-tokens) e
  inside slice-tokens tokens-same trouble.NoMemory g = tt
  inside slice-tokens tokens-same (trouble.Unexpected n) g =
      let u = parsed_unexpected L P x words (trouble.Unexpected n) has_end (same_trouble (trouble.Unexpected n) g (λ e. absurd cc)) in
      let is : n ≡ u.left = (let w = u.why in cc) in
      let long : length words ≡ length slice-tokens = ap length read.are ∙ length-map tokens (word_of part) ∙ ap length (sym tokens-same) in
      let parts = ap length u.unexpected.parts ∙ length-append u.unexpected.front (u.unexpected.token ∷ u.unexpected.others) in
      (omega (arith, is, u.unexpected.place), omega (arith, is, u.unexpected.place, long, parts))

  pub refused : (lead : ℕ) (slice-tokens : List Token) → slice-tokens ≡ tokens → (e : Trouble) → Gives (parsed P slice) (Err e) → (r : FormRefusal) → Misplaced lead slice-tokens e r → PartRefused L bounded lead part r
  refused lead slice-tokens tokens-same trouble.NoMemory g r m = absurd m
  refused lead slice-tokens tokens-same (trouble.Unexpected n) g r m =
      let u = parsed_unexpected L P x words (trouble.Unexpected n) has_end (same_trouble (trouble.Unexpected n) g (λ e. absurd cc)) in
      let is : n ≡ u.left = (let w = u.why in cc) in
      let at : PlaceOf tokens n m.0 = subst (λ (ts : List Token). PlaceOf ts n m.0) tokens-same m.1 in
      subst (PartRefused L bounded lead part) (sym m.2) (PartRefused.misplaced (record {
        tokens = tokens;
        words = words;
        read = read;
        left = u.left;
        unexpected = u.unexpected;
        at = subst (λ (k : ℕ). PlaceOf tokens k m.0) is at;
      }))

-- a part whose brackets count, where its tokens can't be parsed
pub unread_lex : (part : List ℕ) (r : ParseRefusal) (t : LexRefusal) → r ≡ parse.Lex t → (r ≢ parse.NoMemory → Unread part r) → tokens_of part ≡ Err t
unread_lex part r t e h = subst (λ (q : ParseRefusal). q ≢ parse.NoMemory → Unread part q) e h (λ x. absurd cc)

pub unread_nested : (part : List ℕ) (r : ParseRefusal) (place : ℕ) → r ≡ parse.TooNested place → (r ≢ parse.NoMemory → Unread part r) → NestedAt part place
unread_nested part r place e h = subst (λ (q : ParseRefusal). q ≢ parse.NoMemory → Unread part q) e h (λ x. absurd cc)

pub is_read : (part : List ℕ) (tokens : List Token) (words : Words) → IsOpened part tokens words → IsRead true part tokens words
is_read part tokens words o = record { lexed = o.lexed; are = o.are; shallow = o.shallow }
