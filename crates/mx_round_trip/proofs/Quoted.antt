-- Texts in quotes.
use Rattle.std.proofs.Common.{◌≡◌, ℕ, ◌+◌, ◌-◌, List, [], ◌∷◌, ◌++◌, true, false, ◌==◌, ◌||◌, length, take, map, refl, ap, ◌∙◌, append_assoc, length-append, Ok, arith}
use Rattle.std.specs.List.{concat, list_all}
use Rattle.std.proofs.Math.Seq.{take-append_seam}
use Rattle.std.proofs.lemmas.Bool.{and_parts}
use Rattle.std.proofs.lemmas.Bool.Decides.{nat_tests}
use Rattle.mx_lex.specs.Bytes.{is_printable, is_escaped}
use Rattle.mx_lex.specs.Spans.{found, text_end, text_until, span_at}
use Rattle.mx_lex.specs.declared.TokenKind.TheVariants as kind
use Rattle.mx_lex.proofs.Cases.{both}
use Rattle.mx_print.specs.Values.{escaped, quoted}
use Rattle.mx_grammar.specs.Words.{unescaped, inner_of}
use Rattle.mx_grammar.specs.declared.word.Word.TheVariants as word
use Rattle.mx_round_trip.proofs.Goes.{Reads, none}
use Rattle.mx_round_trip.proofs.Pieces.{inside, reads_token}

abbrev pub inner_text : List ℕ → List ℕ
inner_text t = concat (map escaped t)

-- a byte that is escaped, and one that is not
record IsEscaped (b : ℕ) : Type 0 where
  line_end : (b == 10) ≡ false
  printable : is_printable b ≡ true
  escapes : is_escaped b ≡ true

record IsBare (b : ℕ) : Type 0 where
  line_end : (b == 10) ≡ false
  printable : is_printable b ≡ true
  backslash : (b == 92) ≡ false
  quote : (b == 34) ≡ false

escaped_byte : (b : ℕ) → is_printable b ≡ true → ((b == 34) || (b == 92)) ≡ true → IsEscaped b
escaped_byte b p h = record { line_end = grind (arith, nat_tests); printable = p; escapes = grind (arith, nat_tests) }

bare_byte : (b : ℕ) → is_printable b ≡ true → ((b == 34) || (b == 92)) ≡ false → IsBare b
bare_byte b p h = record { line_end = grind (arith, nat_tests); printable = p; backslash = grind (arith, nat_tests); quote = grind (arith, nat_tests) }

module _ (start : ℕ) where
  -- an escaped byte, or a bare one, before a text that ends
  past_escaped : (place b : ℕ) (more : List ℕ) → IsEscaped b → text_end start 34 false place (92 ∷ b ∷ more) ≡ text_end start 34 false (place + 1 + 1) more
  past_escaped place b more h = rw (h.line_end, h.printable, h.escapes) refl

  past_bare : (place b : ℕ) (more : List ℕ) → IsBare b → text_end start 34 false place (b ∷ more) ≡ text_end start 34 false (place + 1) more
  past_bare place b more h = rw (h.line_end, h.printable, h.backslash, h.quote) refl

  pub text_ends : (t : List ℕ) (place : ℕ) (rest : List ℕ) → list_all is_printable t ≡ true → text_end start 34 false place (inner_text t ++ 34 ∷ rest) ≡ Ok (place + length (inner_text t) + 1)
  text_ends [] place rest h = ap (λ n. Ok n) (omega arith)
  text_ends (b ∷ bs) place rest h =
      let parts = and_parts (is_printable b) (list_all is_printable bs) h in
      let more : List ℕ = inner_text bs ++ 34 ∷ rest in
      both (λ (e : List ℕ). text_end start 34 false place ((e ++ inner_text bs) ++ 34 ∷ rest) ≡ Ok (place + length (e ++ inner_text bs) + 1)) ((b == 34) || (b == 92)) (92 ∷ b ∷ []) (b ∷ [])
      (λ escapes. past_escaped place b more (escaped_byte b parts.0 escapes) ∙ text_ends bs (place + 1 + 1) rest parts.1 ∙ ap (λ n. Ok n) (omega arith))
      (λ bare. past_bare place b more (bare_byte b parts.0 bare) ∙ text_ends bs (place + 1) rest parts.1 ∙ ap (λ n. Ok n) (omega arith))

pub unescaped_inner : (t : List ℕ) → unescaped false (inner_text t) ≡ t
unescaped_inner [] = refl
unescaped_inner (b ∷ bs) =
    both (λ (e : List ℕ). unescaped false (e ++ inner_text bs) ≡ b ∷ bs) ((b == 34) || (b == 92)) (92 ∷ b ∷ []) (b ∷ [])
    (λ _. ap (λ l. b ∷ l) (unescaped_inner bs))
    (λ bare. let other : (b == 92) ≡ false = not_backslash b bare in rw other (ap (λ l. b ∷ l) (unescaped_inner bs)))
  where
    not_backslash : (c : ℕ) → ((c == 34) || (c == 92)) ≡ false → (c == 92) ≡ false
    not_backslash c h = grind (arith, nat_tests)

inner_is : (inner : List ℕ) → inner_of (34 ∷ inner ++ 34 ∷ []) ≡ inner
inner_is inner =
    let len : length (34 ∷ inner ++ 34 ∷ []) - 2 ≡ length inner = omega (arith, length-append inner (34 ∷ [])) in
    ap (λ n. take n (inner ++ 34 ∷ [])) len ∙ take-append_seam inner (34 ∷ [])

text_span : (at : ℕ) (t rest : List ℕ) → list_all is_printable t ≡ true → span_at at ((34 ∷ inner_text t ++ 34 ∷ []) ++ rest) ≡ found kind.Text (length (34 ∷ inner_text t ++ 34 ∷ []))
unfolding span_at
text_span at t rest h =
    let inner : List ℕ = inner_text t in
    let same : (inner ++ 34 ∷ []) ++ rest ≡ inner ++ 34 ∷ rest = append_assoc inner (34 ∷ []) rest in
    let long : at + 1 + length inner + 1 - at ≡ length (34 ∷ inner ++ 34 ∷ []) = omega (arith, length-append inner (34 ∷ [])) in
    ap (λ l. text_until at (text_end at 34 false (at + 1) l)) same ∙ ap (text_until at) (text_ends at t (at + 1) rest h) ∙ ap (found kind.Text) long

pub reads_quoted : (t : List ℕ) (number brackets : ℕ) (stack : List ℕ) → list_all is_printable t ≡ true → Reads none (inside number brackets stack) (quoted t) (word.Text t ∷ []) (inside number brackets stack)
reads_quoted t number brackets stack h =
    let says : unescaped false (inner_of (34 ∷ inner_text t ++ 34 ∷ [])) ≡ t = ap (unescaped false) (inner_is (inner_text t)) ∙ unescaped_inner t in
    rw says at (reads_token none kind.Text 34 (inner_text t ++ 34 ∷ []) number brackets stack (record { space = refl; line_end = refl; comment = refl }) (λ at rest _. text_span at t rest h))
