-- What the code takes out of a command's text is what its answer speaks of.
use Rattle.std.proofs.Common.{◌≡◌, ℕ, zero, suc, ◌<◌, ◌+◌, ◌-◌, Bool, true, false, List, [], ◌∷◌, length, take, drop, Some, None, Result, Ok, Err, refl, sym, ap, subst, ◌∙◌, slice_get, arith}
use Rattle.std.proofs.lemmas.List.{take_rest}
use Rattle.std.proofs.lemmas.Option.{slice_get_within, slice_get-get_or}
use Rattle.mx_value.specs.declared.value.Value.{Value}
use Rattle.mx_value.specs.declared.value.Segment.{Segment}
use Rattle.mx_value.specs.declared.node.Node.{Node}
use Rattle.mx_value.specs.declared.node.Node.TheVariants.{Cell, Item}
use Rattle.mx_grammar.specs.Spelling.{Answers}
use Rattle.mx_grammar.specs.Literals.{node_text, literal_text}
use Rattle.mx_words.specs.declared.command.FormRefusal.TheVariants.{BadForm}
use Rattle.mx_words.specs.Texts.{behind_spaces, name_length, first_name, behind_equals}
use Rattle.mx_words.specs.Parts.{Answer, Decides}
use Rattle.mx_words.specs.declared.command.FormRefusal.{FormRefusal}
use Rattle.mx_script.specs.Commands.{FileAnswers, file_of, place_behind, ref_value, has_literal, input_literal, input_of, input_node, Inputs, behind_node, Sets, cells_by, cells_at}

-- the rest of a text behind so many bytes
pub behind_all : (text : List ℕ) (m n : ℕ) → m ≡ n → (rest : List ℕ) → rest ≡ behind_spaces (take (length text - m) (drop m text)) → rest ≡ behind_spaces (drop n text)
behind_all text m n e rest h = h ∙ ap behind_spaces (take_rest text m ∙ ap (λ (k : ℕ). drop k text) e)

-- the name that a text begins with
pub begins_named : (text source : List ℕ) (n : ℕ) → text ≡ source → n ≡ name_length text → take n text ≡ first_name source
begins_named text source n e h = ap (λ (k : ℕ). take k text) h ∙ ap first_name e

-- what stands behind that name
pub behind_named : (text source : List ℕ) (n : ℕ) → text ≡ source → n ≡ name_length text → (rest : List ℕ) → rest ≡ behind_spaces (take (length text - n) (drop n text)) → rest ≡ behind_spaces (drop (name_length source) source)
behind_named text source n e h rest r = behind_all text n (name_length text) h rest r ∙ ap (λ (t : List ℕ). behind_spaces (drop (name_length t) t)) e

-- ---- inputs

module _ (start : ℕ) (source : List ℕ) (answer : Answer) where
  pub with_literal : (space : List Segment) (name : List ℕ) (args : List Value) → has_literal source ≡ true → Decides (Answers literal_text (input_literal source)) (input_of space name args) answer → Sets start source (has_literal source) (Ok (Cell space name args)) answer
  with_literal space name args h d = subst (λ (b : Bool). Sets start source b (Ok (Cell space name args)) answer) (sym h) d

  pub without_literal : (space : List Segment) (name : List ℕ) (args : List Value) → has_literal source ≡ false → answer ≡ Err (BadForm (start + behind_node source)) → Sets start source (has_literal source) (Ok (Cell space name args)) answer
  without_literal space name args h e = subst (λ (b : Bool). Sets start source b (Ok (Cell space name args)) answer) (sym h) e

  pub of_item : (b : Bool) (space : List Segment) (args : List Value) → answer ≡ Err (BadForm (start + behind_node source)) → Sets start source b (Ok (Item space args)) answer
  of_item true space args e = e
  of_item false space args e = e

-- the node, and what follows it
pub input_is : (start : ℕ) (source : List ℕ) (answer : Answer) (front : List ℕ) (node n : Node) → front ≡ input_node source → node ≡ n → Answers node_text front (Ok node) → Sets start source (has_literal source) (Ok n) answer → Inputs start source answer
input_is start source answer front node n same is first sets = record {
  part = Ok n;
  first = subst (λ (t : List ℕ). Answers node_text t (Ok n)) same (subst (λ (m : Node). Answers node_text front (Ok m)) is first);
  rest = sets;
}

-- ---- the last segment

drop_last : {A : Type 0} (xs : List A) (k : ℕ) (x : A) → slice_get xs k ≡ Some x → length xs ≡ suc k → drop k xs ≡ x ∷ []
drop_last [] k x g e = absurd cc
drop_last (y ∷ []) zero x g e = let same : y ≡ x = cc in ap (λ (z : _). z ∷ []) same
drop_last (y ∷ z ∷ xs) zero x g e = absurd (omega (arith, e))
drop_last (y ∷ xs) (suc k) x g e = drop_last xs k x g (omega (arith, e))

last_is : {A : Type 0} (xs : List A) (n : ℕ) (x : A) → slice_get xs n ≡ Some x → n ≡ length xs - 1 → drop (length xs - 1) xs ≡ x ∷ []
last_is xs n x g e =
    let within = slice_get_within xs n x g in
    let long : length xs ≡ suc n = omega (arith, within, e) in
    ap (λ (k : ℕ). drop k xs) (sym e) ∙ drop_last xs n x g long

pub cells_last : (place : ℕ) (address : List Segment) (n : ℕ) → n ≡ length address - 1 → (last : Segment) → slice_get address n ≡ Some last → cells_by place (take n address) (last ∷ []) ≡ cells_at place address
cells_last place address n e last g = ap (λ (k : ℕ). cells_by place (take k address) (last ∷ [])) e ∙ ap (cells_by place (take (length address - 1) address)) (sym (last_is address n last g e))

pub no_last : (place : ℕ) (address : List Segment) (n : ℕ) → n ≡ length address - 1 → slice_get address n ≡ None → Err (BadForm place) ≡ cells_at place address
no_last place [] n e g = refl
no_last place (s ∷ a) n e g =
    let less : n < length (s ∷ a) = omega (arith, e) in
    let some = slice_get-get_or (s ∷ a) n s less in
    absurd cc

-- ---- references

pub ref_word : (text : List ℕ) (n : ℕ) → n ≡ behind_equals text → (value : List ℕ) → value ≡ behind_spaces (take (length text - n) (drop n text)) → (w : ℕ) → w ≡ name_length value → take w value ≡ first_name (ref_value text)
ref_word text n e value v w h = begins_named value (ref_value text) w (behind_all text n (behind_equals text) e value v) h

-- ---- files

-- the answer for what stands behind the spaces, at its place
pub file_at : (lead : ℕ) (text source : List ℕ) → source ≡ file_of text → (start : ℕ) → start ≡ lead + place_behind text source → (r : Result (List ℕ) FormRefusal) → FileAnswers start source r → FileAnswers (lead + place_behind text (file_of text)) (file_of text) r
file_at lead text source same start at r h =
    subst (λ (s : List ℕ). FileAnswers (lead + place_behind text s) s r) same (subst (λ (n : ℕ). FileAnswers n source r) at h)
